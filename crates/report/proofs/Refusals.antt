-- What a match is refused with: 2 to 16 or 18, so never 1, a line of at most 1,024, a position of at most 501.
use Prim.Native.Nat.{ℕ, zero, suc, ◌+◌, ◌*◌, ◌%◌, ◌≤◌, ◌<◌}
use mathlib.Core.Path.{◌≡◌, refl, ap, subst, ◌∙◌}
use mathlib.Core.Bool.{Bool, false, not, ◌||◌}
use mathlib.Core.List.{List, [], ◌∷◌}
use native.Mathlib.Omega.{arith}
use borrow.Author.Tests.{le-ltb, eq-eqb}
use lib.Dec.{ltb}
use lib.ListN.{length, drop, length-drop}
use lib.Seq.{length-take-le}
use lib.IntN.{ℤ}
use Rattle.line.specs.declared.Refusal.{Refusal}
use Rattle.line.specs.declared.Refusal.TheVariants.{TooMany}
use Rattle.line.specs.Refusal.{Verdict, refused, fine, number_of, line_of}
use Rattle.line.specs.Line.{value_of}
use Rattle.table.specs.Table.{Table, bad_length, read_text}
use Rattle.table.proofs.Places.{Upto, OfTable, unless-upto, next-upto, refused-named}
use Rattle.judge.specs.Judge.{Judgement, judge}
use Rattle.judge.proofs.Judge.{judge-refused}
use Rattle.report.specs.declared.Row.{Row}
use Rattle.report.specs.Report.{play_in, head_in, nodes_in, size_of, table_in, head_checks, row_of, scored, position_of, Outcome, stopped, rows, after, begins, reached, match_from, match_of}
use Rattle.report.specs.Inside.{SmallLoss}
use Rattle.report.specs.Files.{head_is}
use Rattle.report.proofs.Cases.{by_cases, nodes-range}
use Rattle.report.proofs.Rows.{row_small, AllSmall}

-- ---- a position

-- a refusal from 2 to 16, or 18, at line m or before
abbrev pub Named : ℕ → Refusal → Type 0
Named m r = (2 ≤ number_of r) × (16 < number_of r → number_of r ≡ 18) × (line_of r ≤ m)

of-table : (r : Refusal) → OfTable 1024 r → Named 1024 r
of-table r n = (n.0, (λ l. n.1 (omega arith)), n.2)

good_length : (n : ℕ) → 1 ≤ n → n ≤ 1024 → bad_length (25 + 25 * n) ≡ false
good_length n p q =
    let m : (25 + 25 * n) % 25 ≡ 0 = omega arith in
    ap (λ (b : Bool). not b || ltb (25 + 25 * n) 50 || ltb 25625 (25 + 25 * n)) (eq-eqb ((25 + 25 * n) % 25) 0 m)
    ∙ ap (λ (b : Bool). b || ltb 25625 (25 + 25 * n)) (le-ltb (25 + 25 * n) 50 (omega arith))
    ∙ le-ltb 25625 (25 + 25 * n) (omega arith)

-- a verdict on a text
read-upto : (s : List ℕ) → bad_length (length s) ≡ false → (v : Verdict Table) → read_text s ≡ v → Upto (Named 1024) v
read-upto s g (refused r) e = of-table r (refused-named s r g e)
read-upto s g (fine t) e = tt

judge-upto : (t : Table) (i : ℤ) (v : Verdict Judgement) → judge t i ≡ v → Upto (Named 1024) v
judge-upto t i (refused r) e = subst (Named 1024) (judge-refused t i r e) (omega arith, (λ l. omega arith), omega arith)
judge-upto t i (fine j) e = tt

scored-upto : (i : ℤ) (text : List ℕ) → bad_length (length text) ≡ false → Upto (Named 1024) (scored i text)
scored-upto i text g =
    next-upto (Named 1024) (read_text text) _ (read-upto text g (read_text text) refl)
    (λ (t : Table) p. next-upto (Named 1024) (judge t i) (λ (j : Judgement). fine (row_of t j)) (judge-upto t i (judge t i) refl) (λ j q. tt))

module _ (s : List ℕ) where
  head-upto : Upto (OfTable 1024) (head_is s)
  head-upto =
      unless-upto (OfTable 1024) (head_checks (head_in s)) (nodes_in s)
      ((omega arith, (λ l. omega arith), omega arith), ((omega arith, (λ l. omega arith), omega arith), ((omega arith, (λ l. omega arith), omega arith), tt)))

  pub head-named : (r : Refusal) → head_is s ≡ refused r → OfTable 1024 r
  head-named r e = subst (Upto (OfTable 1024)) e head-upto

  -- the table's text is as long as its count says
  table-good : (n : ℕ) → head_is s ≡ fine n → size_of s ≤ length s → bad_length (length (table_in s)) ≡ false
  table-good n e l =
      let r = nodes-range s n e in
      ap bad_length (length-take-le (25 + 25 * nodes_in s) (drop 5 s) (omega (arith, length-drop 5 s)))
      ∙ good_length (nodes_in s) (omega (arith, r.0, r.1)) (omega (arith, r.0, r.2))

  position-upto : Upto (Named 1024) (position_of s)
  position-upto =
      by_cases s (Upto (Named 1024)) (omega arith, (λ l. omega arith), omega arith) (λ r e. of-table r (head-named r e))
      (λ n e l. scored-upto (value_of (play_in s)) (table_in s) (table-good n e l))

  -- "1 is not given here"
  pub position-named : (r : Refusal) → position_of s ≡ refused r → Named 1024 r
  position-named r e = subst (Upto (Named 1024)) e position-upto

-- ---- the match

-- stopped at a position from k on, at most `left` past it; or so many entries, each of a small loss
abbrev Within : (left k : ℕ) → Outcome → Type 0
Within left k (stopped r m) = (k ≤ m) × (m ≤ k + left) × Named 1024 r
Within left k (rows rs) = (length rs ≤ left) × AllSmall rs

after-within : (left k : ℕ) (o : Outcome) (r : Row) → SmallLoss r.loss → Within left (suc k) o → Within (suc left) k (after (r ∷ []) o)
after-within left k (stopped q m) r l h = (omega (arith, h.0), omega (arith, h.1), h.2)
after-within left k (rows rs) r l h = (omega (arith, h.0), (l, h.1))

begins-within : (left k : ℕ) (s : List ℕ) (o : Outcome) → Within left k o → Within left k (begins s o)
begins-within left k [] o h = (omega arith, tt)
begins-within left k (b ∷ s) o h = h

-- o is what the rest of the file gives
reached-within : (left k : ℕ) (s : List ℕ) (o : Outcome) → Within left (suc k) o → (v : Verdict Row) → position_of s ≡ v
    → Within (suc left) k (reached k o v)
reached-within left k s o h (refused r) e = (omega arith, omega arith, position-named s r e)
reached-within left k s o h (fine r) e = after-within left k o r (row_small s r e) h

match-within : (left k : ℕ) (s : List ℕ) → Within left k (match_from left k s)
unfolding match_from
match-within zero k s = begins-within zero k s (stopped TooMany k) (omega arith, omega arith, (omega arith, (λ l. omega arith), omega arith))
match-within (suc left) k s =
    let rest : List ℕ = drop (size_of s) s in
    begins-within (suc left) k s (reached k (match_from left (suc k) rest) (position_of s))
    (reached-within left k s (match_from left (suc k) rest) (match-within left (suc k) rest) (position_of s) refl)

module _ (file : List ℕ) where
  -- a refusal of the match has a number from 2 to 16, or 18, and a position from 1 to 501
  pub match-refused : (r : Refusal) (k : ℕ) → match_of file ≡ stopped r k → (1 ≤ k) × (k ≤ 501) × Named 1024 r
  match-refused r k e = subst (Within 500 1) e (match-within 500 1 file)

  pub match-rows : (rs : List Row) → match_of file ≡ rows rs → (length rs ≤ 500) × AllSmall rs
  match-rows rs e = subst (Within 500 1) e (match-within 500 1 file)
