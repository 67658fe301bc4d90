-- The entry of a position that is not refused; and the totals of entries.
use Rattle.std.proofs.Common.{None, Option, Some}
use Prim.Native.Nat.{ℕ, ◌+◌, ◌*◌, ◌≤◌}
use mathlib.Core.Path.{◌≡◌, refl, ap₂, subst}
use mathlib.Core.Bool.{Bool, true, false, cond}
use mathlib.Core.List.{List, [], ◌∷◌}
use native.Mathlib.Omega.{arith}
use lib.Dec.{eqb}
use lib.ListN.{length}
use lib.IntN.{ℤ}
use Rattle.line.specs.declared.Refusal.{Refusal}
use Rattle.line.specs.Refusal.{Verdict, refused, fine, next}
use Rattle.line.specs.Line.{value_of}
use Rattle.table.specs.Table.{Table, read_text, grain}
use Rattle.judge.specs.Judge.{Judgement, judge}
use Rattle.report.specs.declared.Row.{Row}
use Rattle.report.specs.Report.{play_in, size_of, table_in, row_of, scored, position_of, loss_code, kinds_in, losses_in, counts, total_of, tally_of, totals_of}
use Rattle.report.specs.Files.{counts_in, listed_total}
use Rattle.report.specs.Inside.{SmallLoss, SmallTally, SmallTotals}
use Rattle.report.proofs.Cases.{by_cases}
use Rattle.report.proofs.Small.{judgement-small, listed_small}

-- ---- one entry

-- the text was accepted and the play i judged, and r is the entry
pub record Scored (i : ℤ) (text : List ℕ) (r : Row) : Type 0 where
  pub table : Table
  pub judgement : Judgement
  pub read : read_text text ≡ fine table
  pub judged : judge table i ≡ fine judgement
  pub entry : row_of table judgement ≡ r

-- nothing that is refused is fine
refused-fine : {A : Type 0} (P : Type 0) (q : Refusal) (a : A) → refused q ≡ fine a → P
refused-fine P q a e = let z : ◌≡◌ {A = ℕ} 0 1 = cc in absurd (omega arith)

scored-fine : (i : ℤ) (text : List ℕ) (r : Row) → scored i text ≡ fine r → Scored i text r
scored-fine i text r = go (read_text text) refl
  where
    at : (t : Table) → read_text text ≡ fine t → (v : Verdict Judgement) → judge t i ≡ v
        → next v (λ (j : Judgement). fine (row_of t j)) ≡ fine r → Scored i text r
    at t p (refused q) e h = refused-fine _ q r h
    at t p (fine j) e h = record { table = t; judgement = j; read = p; judged = e; entry = cc }

    go : (v : Verdict Table) → read_text text ≡ v → next v (λ (t : Table). next (judge t i) (λ (j : Judgement). fine (row_of t j))) ≡ fine r
        → Scored i text r
    go (refused q) p h = refused-fine _ q r h
    go (fine t) p h = at t p (judge t i) refl h

-- the position at the front of s, with its entry
pub record Stands (s : List ℕ) (r : Row) : Type 0 where
  pub within : size_of s ≤ length s
  pub scored : Scored (value_of (play_in s)) (table_in s) r

pub position-fine : (s : List ℕ) (r : Row) → position_of s ≡ fine r → Stands s r
position-fine s r =
    by_cases s (λ (v : Verdict Row). v ≡ fine r → Stands s r)
    (λ h. refused-fine _ _ r h)
    (λ q e h. refused-fine _ q r h)
    (λ n e l h. record { within = l; scored = scored-fine (value_of (play_in s)) (table_in s) r h })

pub row_small : (s : List ℕ) (r : Row) → position_of s ≡ fine r → SmallLoss r.loss
row_small s r e =
    let C = (position-fine s r e).scored in
    subst (λ (x : Row). SmallLoss x.loss) C.entry
    (listed_small (grain C.table) C.judgement (judgement-small (table_in s) C.table C.read (value_of (play_in s)) C.judgement C.judged))

-- ---- totals

abbrev pub AllSmall : List Row → Type 0
AllSmall [] = Unit {0}
AllSmall (r ∷ rs) = SmallLoss r.loss × AllSmall rs

counts-le : (side : ℕ) (n : ℕ → ℕ) (M kind : ℕ) (l : Option ℕ) → ((m : ℕ) → m ≤ 2000000000 → n m ≤ M) → SmallLoss l → counts side n kind l ≤ M
counts-le side n M kind None f h = omega arith
counts-le side n M kind (Some l) f h = at (eqb kind side)
  where
    at : (b : Bool) → cond b (n l) 0 ≤ M
    at true = f l h
    at false = omega arith

total-le : (side : ℕ) (n : ℕ → ℕ) (M : ℕ) → ((m : ℕ) → m ≤ 2000000000 → n m ≤ M) → (rs : List Row) → AllSmall rs → total_of side n rs ≤ length rs * M
unfolding total_of
total-le side n M f [] a = omega arith
total-le side n M f (r ∷ rs) a = omega (arith, counts-le side n M r.kind r.loss f a.0, total-le side n M f rs a.1)

module _ (rs : List Row) (all : AllSmall rs) (few : length rs ≤ 500) where
  tally-small : (side : ℕ) → SmallTally (tally_of side rs)
  tally-small side =
      record {
        decisions = omega (arith, total-le side (λ x. 1) 1 (λ m h. omega arith) rs all);
        sum = omega (arith, total-le side (λ x. x) 2000000000 (λ m h. h) rs all);
      }

  pub totals-small : SmallTotals (totals_of rs)
  totals-small = record { positions = few; max = tally-small 1; min = tally-small 2 }

-- the totals are those of the lists of kinds and losses
loss-listed : (side : ℕ) (n : ℕ → ℕ) (kind : ℕ) (l : Option ℕ) → counts_in side n kind (loss_code l) ≡ counts side n kind l
loss-listed side n kind None = refl
loss-listed side n kind (Some m) = refl

pub totals-listed : (side : ℕ) (n : ℕ → ℕ) (rs : List Row) → listed_total side n (kinds_in rs) (losses_in rs) ≡ total_of side n rs
unfolding listed_total total_of
totals-listed side n [] = refl
totals-listed side n (r ∷ rs) = ap₂ (λ (x y : ℕ). x + y) (loss-listed side n r.kind r.loss) (totals-listed side n rs)
