-- The lines of an accepted text, turned field by field, are those of the turned table.
use Prim.Native.Nat.{ℕ, zero, suc, ◌+◌, ◌*◌, ◌≤◌}
use mathlib.Core.Path.{◌≡◌, refl, sym, ap, ap₂, subst, ◌∙◌}
use mathlib.Core.Bool.{Bool, true, false, cond}
use mathlib.Core.List.{List, [], ◌++◌, map}
use native.Mathlib.Omega.{arith}
use native.Mathlib.Nat.{zero-add}
use lib.Dec.{eqb}
use lib.ListN.{length, take, drop, length-drop, length-map}
use lib.Seq.{sets, sets-eq}
use lib.IntN.{ℤ, neg_ℤ}
use Rattle.field.specs.declared.Field.TheVariants.{Blank, Number}
use Rattle.field.proofs.Bits.{abs_neg}
use Rattle.line.specs.declared.Head.{Head}
use Rattle.line.specs.declared.Kind.{Kind as LineKind}
use Rattle.line.specs.declared.Kind.TheVariants.{Leaf, Max, Min, Chance}
use Rattle.line.specs.declared.Line.{Line}
use Rattle.line.specs.Refusal.{fine}
use Rattle.line.specs.declared.Step.{Step}
use Rattle.line.specs.Line.{letter, is_leaf, entry_of}
use Rattle.line.specs.Inside.{Ranged}
use Rattle.table.specs.Table.{Table, node_lines, read_text}
use Rattle.table.specs.Slices.{laid}
use Rattle.table.proofs.Accepted.{checked, accepted-ranged, accepted-size}
use Rattle.writing.specs.Text.{header_text, line_text, lines_text}
use Rattle.turn.specs.Turn.{exchanged, turn_line, turn_head, turned_text}
use Rattle.writing.specs.Inside.{entry_text, Roomy, entry_for, Short}
use Rattle.turn.specs.Inside.{turn_letter, negated, turn_entry, turned_rows, RowsRoomy}
use Rattle.writing.proofs.Said.{line-text, is_none, Said}
use Rattle.writing.proofs.Padding.{first, counted}
use Rattle.turn.proofs.Tree.{kind-leaf}
use Rattle.writing.proofs.Again.{line-roomy}
use Rattle.turn.proofs.Accepted.{turned-length}

-- ---- one line

letter-turned : (k : LineKind) → turn_letter (letter k) ≡ letter (exchanged k)
letter-turned Leaf = refl
letter-turned Max = refl
letter-turned Min = refl
letter-turned Chance = refl

utility-turned : (b : Bool) (u : ℤ) → negated (cond b (Number u) Blank) ≡ cond b (Number (neg_ℤ u)) Blank
utility-turned true u = refl
utility-turned false u = refl

entry-turned : (l : Line) → turn_entry (entry_for l) ≡ entry_for (turn_line l)
entry-turned l =
    let letter = letter-turned l.kind in
    let utility : negated (entry_for l).utility ≡ (entry_for (turn_line l)).utility =
    utility-turned (is_leaf l.kind) l.utility ∙ ap (λ (b : Bool). cond b (Number (neg_ℤ l.utility)) Blank) (sym (kind-leaf l.kind)) in
    λ j. record { number = (entry_for l).number; letter = letter j; parent = (entry_for l).parent; weight = (entry_for l).weight; utility = utility j }

short-turned : (l : Line) → Short l → Short (turn_line l)
short-turned l S = record { node = S.node; parent = S.parent; weight = S.weight; utility = rw (abs_neg l.utility) S.utility }

module _ (s : List ℕ) (l : Line) (S : Said s l) where
  said-turned : turn_entry (entry_of s) ≡ entry_for (turn_line l)
  said-turned = ap turn_entry S.entry ∙ entry-turned l

  row-turned : entry_text (turn_entry (entry_of s)) ≡ line_text (turn_line l)
  row-turned = ap entry_text said-turned ∙ sym (line-text (turn_line l))

  row-roomy : Roomy (turn_entry (entry_of s))
  row-roomy = subst Roomy (sym said-turned) (line-roomy (turn_line l) (short-turned l S.short))

-- ---- the lines

rows-turned : (h : Head) → Ranged h → (n i : ℕ) (P : List Step) (s : List ℕ) (ls : List Line) → length s ≡ 25 * n → eqb i 0 ≡ is_none P
    → node_lines h n i P s ≡ fine ls → (turned_rows n s ≡ lines_text (map turn_line ls)) × RowsRoomy n s
unfolding node_lines lines_text turned_rows RowsRoomy
rows-turned h r zero i P s ls long root e = let z : ls ≡ [] = cc in (ap (λ (x : List Line). lines_text (map turn_line x)) (sym z), tt)
rows-turned h r (suc n) i P s ls long root e =
    let F = first h r n i P s ls long root e in
    let l : Line = F.placed.line in
    let more = rows-turned h r n (suc i) F.placed.steps (drop 25 s) F.rest F.long F.root F.more in (
      ap₂ ◌++◌ (row-turned (take 25 s) l F.said) more.0 ∙ ap (λ (x : List Line). lines_text (map turn_line x)) (sym F.lines),
      (row-roomy (take 25 s) l F.said, more.1),
    )

-- ---- the text

module _ (s : List ℕ) (t : Table) (e : read_text s ≡ fine t) where
  abbrev n : ℕ
  n = length t.lines

  pub text-size : length s ≡ 25 * n + 25
  text-size = omega (arith, (accepted-size s t e).2)

  rows : (turned_rows n (drop 25 s) ≡ lines_text (map turn_line t.lines)) × RowsRoomy n (drop 25 s)
  rows =
      rows-turned t.head (accepted-ranged s t e) n 0 [] (drop 25 s) t.lines (omega (arith, text-size, length-drop 25 s)) refl
      (subst (λ (m : ℕ). node_lines t.head m 0 [] (drop 25 s) ≡ fine t.lines) (sym (counted s t e)) (checked s t e).lines)

  pub rows-roomy : RowsRoomy n (drop 25 s)
  rows-roomy = rows.1

  text-turned : header_text (turn_head t.head) n ++ turned_rows n (drop 25 s) ≡ turned_text t
  text-turned = ap₂ (λ (m : ℕ) (x : List ℕ). header_text (turn_head t.head) m ++ x) (sym (length-map t.lines turn_line)) rows.0

  -- stored at the front of a buffer with room for it
  pub turned-laid : (d : List ℕ) → length s ≤ length d → sets d 0 (header_text (turn_head t.head) n ++ turned_rows n (drop 25 s)) ≡ laid (turned_text t) d
  turned-laid d room =
      ap (sets d 0) text-turned
      ∙ sets-eq (turned_text t) d 0 (omega (arith, turned-length s t e))
      ∙ ap (λ (k : ℕ). turned_text t ++ drop k d) (zero-add (length (turned_text t)))
