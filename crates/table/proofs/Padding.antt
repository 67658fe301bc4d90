-- Texts that differ in padding alone are read alike. Document 02, Item 9.
use Prim.Native.Nat.{ℕ, zero, suc, ◌-◌, ◌/◌, ◌≤◌, ◌<◌}
use mathlib.Core.Path.{◌≡◌, refl, sym, ap, ◌∙◌}
use mathlib.Core.Bool.{Bool, true, false, cond}
use mathlib.Core.List.{List, [], ◌∷◌}
use native.Mathlib.Omega.{arith}
use borrow.Author.Tests.{ne_eqb}
use lib.Dec.{lit<}
use lib.ListN.{length, take, drop, length-drop}
use lib.Seq.{take-take, drop-drop, take-add, drop_at, length-take-le}
use lib.IntN.{pos}
use Rattle.field.specs.Field.{strip, digits, whole, signed, field_of}
use Rattle.field.specs.Padding.{padded, Pads}
use Rattle.field.specs.declared.Field.{Field}
use Rattle.field.specs.declared.Field.TheVariants.{Blank, Number}
use Rattle.field.proofs.Padding.{pads-read, repadded-read}
use Rattle.field.proofs.Width.{few-plain}
use Rattle.line.specs.declared.Head.{Head}
use Rattle.line.specs.declared.Line.{Line}
use Rattle.line.specs.declared.Refusal.TheVariants.{Length}
use Rattle.line.specs.Refusal.{refused, next}
use Rattle.line.specs.declared.Step.{Step}
use Rattle.line.specs.Line.{is_blank, second_of, total_of, heading_of, header, header_for, Placed, place_of, node_line}
use Rattle.table.specs.Table.{prefix, node_lines, lines_of, complete, bad_length, read_text}
use Rattle.table.specs.Padding.{columns_of, SameField, SameTotals, one-total, two-totals, kept-totals, SameHeader, SameLine, SameLines, SameText}
use Rattle.table.proofs.Top.{good_length}

field-same : (s u : List ℕ) (from width : ℕ) → SameField s u from width → field_of s from width ≡ field_of u from width
field-same s u from width r = repadded-read (columns_of s from width) (columns_of u from width) r

-- ---- the totals

-- the first two of four columns with a number of at most two digits
second_none : (b j n : ℕ) → n < 100 → length (padded b j (pos n)) ≡ 4 → second_of (signed (strip (take 2 (padded b j (pos n))))) ≡ Blank
unfolding strip signed whole digits
second_none zero zero n h l = absurd (omega (arith, few-plain n 2 (lit< tt) h))
second_none zero (suc zero) n h l = absurd (omega (arith, few-plain n 2 (lit< tt) h))
second_none zero (suc (suc j)) n h l = refl
second_none (suc zero) zero n h l = absurd (omega (arith, few-plain n 2 (lit< tt) h))
second_none (suc zero) (suc j) n h l = refl
second_none (suc (suc b)) j n h l = refl

module _ (s : List ℕ) (room : 8 ≤ length s) where
  -- the two pairs of four columns
  first-pair : columns_of s 4 2 ≡ take 2 (columns_of s 4 4)
  first-pair = sym (take-take 2 4 (drop 4 s) (omega arith))

  second-pair : columns_of s 6 2 ≡ drop 2 (columns_of s 4 4)
  second-pair =
      ap (take 2) (sym (drop-drop 2 4 s))
      ∙ sym (drop_at (take 2 (drop 4 s)) (take 2 (drop 2 (drop 4 s))) 2 (length-take-le 2 (drop 4 s) (omega (arith, length-drop 4 s))))
      ∙ ap (drop 2) (sym (take-add 2 2 (drop 4 s)))

  -- what the header says of its totals
  record Totalled (second total : Field) : Type 0 where
    is-second : second_of (field_of s 4 2) ≡ second
    is-total : total_of s (second_of (field_of s 4 2)) ≡ total

  one : (n : ℕ) → n < 100 → Pads (pos n) (columns_of s 4 4) → Totalled Blank (Number (pos n))
  one n h P =
      let long : length (columns_of s 4 4) ≡ 4 = length-take-le 4 (drop 4 s) (omega (arith, length-drop 4 s)) in
      let e : second_of (field_of s 4 2) ≡ Blank =
      ap (λ (x : List ℕ). second_of (signed (strip x))) (first-pair ∙ ap (take 2) P.is)
      ∙ second_none P.blanks P.zeros n h (sym (ap length P.is) ∙ long) in
      record { is-second = e; is-total = ap (total_of s) e ∙ pads-read (pos n) (columns_of s 4 4) P }

  two : (m n : ℕ) → 0 < m → Pads (pos m) (columns_of s 4 2) → Pads (pos n) (columns_of s 6 2) → Totalled (Number (pos m)) (Number (pos n))
  two m n h P Q =
      let e : second_of (field_of s 4 2) ≡ Number (pos m) =
      ap second_of (pads-read (pos m) (columns_of s 4 2) P) ∙ rw (ne_eqb m 0 (λ z. omega arith)) refl in
      record { is-second = e; is-total = ap (total_of s) e ∙ pads-read (pos n) (columns_of s 6 2) Q }

totals-same : (s u : List ℕ) → 8 ≤ length s → 8 ≤ length u → SameTotals s u
    → (second_of (field_of s 4 2) ≡ second_of (field_of u 4 2)) × (total_of s (second_of (field_of s 4 2)) ≡ total_of u (second_of (field_of u 4 2)))
totals-same s u a b (one-total n h P Q) =
    let x = one s a n h P in
    let y = one u b n h Q in
    (x.is-second ∙ sym y.is-second, x.is-total ∙ sym y.is-total)
totals-same s u a b (two-totals m n h P Q R S) =
    let x = two s a m n h P R in
    let y = two u b m n h Q S in
    (x.is-second ∙ sym y.is-second, x.is-total ∙ sym y.is-total)
totals-same s u a b (kept-totals e) =
    let p : columns_of s 4 2 ≡ columns_of u 4 2 = first-pair s a ∙ ap (take 2) e ∙ sym (first-pair u b) in
    let q : columns_of s 6 2 ≡ columns_of u 6 2 = second-pair s a ∙ ap (drop 2) e ∙ sym (second-pair u b) in
    let f : field_of s 4 2 ≡ field_of u 4 2 = ap (λ (x : List ℕ). signed (strip x)) p in
    (ap second_of f, λ i. cond (is_blank (second_of (f i))) (signed (strip (e i))) (signed (strip (q i))))

-- ---- a line

pub heading-same : (s u : List ℕ) → 8 ≤ length s → 8 ≤ length u → SameHeader s u → heading_of s ≡ heading_of u
heading-same s u a b H =
    let count = field-same s u 0 4 H.count in
    let T = totals-same s u a b H.totals in
    let lowest = field-same s u 8 8 H.lowest in
    let highest = field-same s u 16 8 H.highest in
    λ i. record { count = count i; second = T.0 i; total = T.1 i; lowest = lowest i; highest = highest i }

header-same : (n : ℕ) (s u : List ℕ) → 8 ≤ length s → 8 ≤ length u → SameHeader s u → header n s ≡ header n u
header-same n s u a b H = let g = heading-same s u a b H in λ i. header_for n (H.last i) (g i)

line_same : (h : Head) (i : ℕ) (P : List Step) (s u : List ℕ) → SameLine s u → node_line h i P s ≡ node_line h i P u
line_same h i P s u L =
    let number = field-same s u 0 4 L.number in
    let parent = field-same s u 6 5 L.parent in
    let weight = field-same s u 11 5 L.weight in
    let utility = field-same s u 16 8 L.utility in
    λ j. place_of h i (record { number = number j; letter = L.letter j; parent = parent j; weight = weight j; utility = utility j }) (L.fifth j) (L.last j) P

-- ---- a text

lines_same : (h : Head) (n i : ℕ) (P : List Step) (s u : List ℕ) → SameLines n s u → node_lines h n i P s ≡ node_lines h n i P u
unfolding node_lines SameLines
lines_same h zero i P s u L = refl
lines_same h (suc n) i P s u L =
    let first = line_same h i P (take 25 s) (take 25 u) L.0 in
    λ j. next (first j) (λ (p : Placed). prefix (p.line ∷ []) (lines_same h n (suc i) p.steps (drop 25 s) (drop 25 u) L.1 j))

-- "Whoever reads a field gets the same number for every padding": a table's reader too, whether it accepts or refuses
pub text_same : (s u : List ℕ) → SameText s u → read_text s ≡ read_text u
unfolding read_text
text_same s u S = rw (sym S.long) (go (bad_length (length s)) refl)
  where
    n : ℕ
    n = length s / 25 - 1

    go : (b : Bool) → bad_length (length s) ≡ b
        → cond b (refused Length) (next (header n (take 25 s)) (λ (h : Head). lines_of h n (drop 25 s)))
        ≡ cond b (refused Length) (next (header n (take 25 u)) (λ (h : Head). lines_of h n (drop 25 u)))
    go true e = refl
    go false e =
        let size = (good_length (length s) e).0 in
        let top = header-same n (take 25 s) (take 25 u) (rw (length-take-le 25 s (omega arith)) (omega arith)) (rw (length-take-le 25 u (omega (arith, S.long))) (omega arith)) S.head in
        λ j. next (top j) (λ (h : Head). next (lines_same h n 0 [] (drop 25 s) (drop 25 u) S.lines j) (λ (ls : List Line). complete (record { head = h; lines = ls })))
