-- A side's decisions are the positions whose root is of its kind with two children or more.
use Rattle.std.proofs.Common.{None, Ok}
use Prim.Native.Nat.{ℕ, ◌+◌, ◌≤◌}
use mathlib.Core.Path.{◌≡◌, refl, sym, ap, ap₂, ◌∙◌}
use mathlib.Core.Bool.{Bool, true, false, ◌&&◌, cond}
use mathlib.Core.List.{List, [], ◌∷◌, map}
use mathlib.Core.Option.{Option, none, some}
use native.Mathlib.Omega.{arith}
use borrow.Author.Tests.{eqb-true, leb-true, le-leb}
use lib.Dec.{eqb, leb}
use lib.ListN.{length, get_or, take, drop}
use lib.IntN.{ℤ}
use Rattle.line.specs.declared.Line.{Line}
use Rattle.line.specs.Refusal.{Verdict, refused, fine}
use Rattle.line.specs.Line.{to_nat, value_of, code as line_code}
use Rattle.table.specs.Tree.{code_of, forest}
use Rattle.table.specs.Table.{Table, tree, read_text}
use Rattle.table.specs.Slices.{kinds_of}
use Rattle.table.specs.Root.{Side, AtM, AtN, to_play, root_of, numbered, child_count}
use Rattle.worth.specs.Worth.{Share, worth_of}
use Rattle.judge.specs.Judge.{child_worths, Judgement, no_decision, judged, judge_child, judge}
use Rattle.judge.specs.Call.{told, judge_answer, judge_call}
use Rattle.judge.proofs.Best.{kind_at}
use Rattle.judge.proofs.Judge.{decided-judged, judged-says}
use Rattle.judge.proofs.Call.{answer-loss}
use Rattle.report.specs.declared.Row.{Row}
use Rattle.report.specs.Report.{play_in, size_of, row_of, counts, total_of}
use Rattle.report.specs.Files.{Alone, EachAlone, tables_of, decides, decisions_in}

-- ---- the root's kind as it is listed

abbrev code : Side → ℕ
code side = code_of (kind_at side)

kind-root : (side : Side) (t : Table) → get_or (kinds_of t) 0 0 ≡ code side → root_of (tree t) ≡ to_play side
unfolding forest
kind-root side t e = go side t.lines e
  where
    go : (side : Side) (ls : List Line) → get_or (map (λ (l : Line). line_code l.kind) ls) 0 0 ≡ code side
        → root_of (forest (λ (l : Line). l.utility) (length ls) ls) ≡ to_play side
    go AtM [] e = absurd (omega (arith, e))
    go AtN [] e = absurd (omega (arith, e))
    go AtM (l ∷ ls) e = rw e
    go AtN (l ∷ ls) e = rw e

-- ---- one position

-- a child is judged or refused
child-decided : (s : Side) (exact : ℤ) (xs : List (Share ℤ)) (o : Option (Share ℤ)) → judge_child s exact xs o ≡ fine no_decision → ⊥
child-decided s exact xs none e = let z : ◌≡◌ {A = ℕ} 0 1 = cc in absurd (omega arith)
child-decided s exact xs (some x) e = let z : ◌≡◌ {A = ℕ} 0 1 = cc in absurd (omega arith)

decided : (side : Side) (t : Table) (i : ℤ) → root_of (tree t) ≡ to_play side → 2 ≤ child_count t → judge t i ≡ fine no_decision → ⊥
decided side t i r h e =
    child-decided side (worth_of t) (child_worths t) (numbered i (child_worths t)) (sym (decided-judged t i side r h) ∙ e)

module _ (side : Side) (s : List ℕ) (t : Table) (p : read_text s ≡ fine t) (i : ℤ) where
  none-counts : judge t i ≡ fine no_decision → decides (code side) t ≡ false
  none-counts e = go (eqb (get_or (kinds_of t) 0 0) (code side)) (leb 2 (child_count t)) refl refl
    where
      go : (a b : Bool) → eqb (get_or (kinds_of t) 0 0) (code side) ≡ a → leb 2 (child_count t) ≡ b → (a && b) ≡ false
      go false b x y = refl
      go true false x y = refl
      go true true x y = absurd (decided side t i (kind-root side t (eqb-true (get_or (kinds_of t) 0 0) (code side) x)) (leb-true 2 (child_count t) y) e)

  loss-counts : (loss : ℤ) (level : ℕ) → judge t i ≡ fine (judged loss level) → decides (code side) t ≡ eqb (get_or (kinds_of t) 0 0) (code side)
  loss-counts loss level e =
      ap (λ (b : Bool). eqb (get_or (kinds_of t) 0 0) (code side) && b) (le-leb 2 (child_count t) (judged-says s t p i loss level e).several) ∙ and-true (eqb (get_or (kinds_of t) 0 0) (code side))
    where
      and-true : (a : Bool) → (a && true) ≡ a
      and-true true = refl
      and-true false = refl

-- what the call answered is what judging says
answer-none : (v : Verdict Judgement) → judge_answer v ≡ Ok None → v ≡ fine no_decision
answer-none (refused r) e = let z : ◌≡◌ {A = ℕ} 0 1 = cc in absurd (omega arith)
answer-none (fine no_decision) e = refl
answer-none (fine (judged loss level)) e = let z : ◌≡◌ {A = ℕ} 0 1 = cc in absurd (omega arith)

-- its entry counts where there is a decision
entry-decides : (side : Side) (s : List ℕ) (t : Table) → read_text s ≡ fine t → (i : ℤ) (j : Judgement) → judge_answer (judge t i) ≡ Ok (told j)
    → counts (code side) (λ x. 1) (row_of t j).kind (row_of t j).loss ≡ cond (decides (code side) t) 1 0
entry-decides side s t p i no_decision e = sym (ap (λ (b : Bool). cond b 1 0) (none-counts side s t p i (answer-none (judge t i) e)))
entry-decides side s t p i (judged loss level) e =
    let (l, q, n) = answer-loss (judge t i) (to_nat loss) level e in
    sym (ap (λ (b : Bool). cond b 1 0) (loss-counts side s t p i l level q))

row-decides : (side : Side) (p : List ℕ) (r : Row) (A : Alone p r) → counts (code side) (λ x. 1) r.kind r.loss ≡ cond (decides (code side) A.table) 1 0
row-decides side p r A =
    let i : ℤ = value_of (play_in p) in
    ap (λ (x : Row). counts (code side) (λ y. 1) x.kind x.loss) A.entry
    ∙ entry-decides side (drop 5 p) A.table A.read i A.judgement (sym (ap (λ (v : Verdict Table). judge_call v i) A.read) ∙ A.judged)

-- ---- all positions

pub decisions-are : (side : Side) (s : List ℕ) (rs : List Row) (E : EachAlone s rs) → total_of (code side) (λ x. 1) rs ≡ decisions_in (code side) (tables_of s rs E)
unfolding total_of decisions_in
decisions-are side s [] E = refl
decisions-are side s (r ∷ rs) E =
    ap₂ (λ (x y : ℕ). x + y) (row-decides side (take (size_of s) s) r E.0) (decisions-are side (drop (size_of s) s) rs E.1)
