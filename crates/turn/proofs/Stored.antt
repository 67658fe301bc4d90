-- The turned lines, stored one after another.
use Prim.Native.Nat.{ℕ, suc, ◌+◌, ◌-◌, ◌*◌, ◌≤◌, ◌<◌}
use mathlib.Core.Path.{◌≡◌, refl, sym, ap, ap₂, subst, ◌∙◌}
use mathlib.Core.List.{List, ◌++◌}
use native.Mathlib.Omega.{arith}
use lib.ListN.{length, take, drop, length-drop}
use lib.Seq.{sets, drop-drop, length-take-le}
use Rattle.field.proofs.Reading.{part_of}
use Rattle.field.proofs.Stores.{part-stored}
use Rattle.line.specs.Line.{entry_of}
use Rattle.writing.specs.Inside.{entry_text, Roomy}
use Rattle.writing.proofs.Lines.{text-entry}
use Rattle.turn.specs.Inside.{turn_entry, turned_rows, RowsRoomy}

pub part-long : (text : List ℕ) (i : ℕ) → 25 * i + 50 ≤ length text → length (take (25 * i + 25 + 25 - (25 * i + 25)) (drop (25 * i + 25) text)) ≡ 25
part-long text i h = rw (part_of text (25 * i + 25) 25) (length-take-le 25 (drop (25 * i + 25) text) (omega (arith, length-drop (25 * i + 25) text)))

split-roomy : (m : ℕ) (s : List ℕ) → RowsRoomy (suc m) s → Roomy (turn_entry (entry_of (take 25 s))) × RowsRoomy m (drop 25 s)
unfolding RowsRoomy
split-roomy m s R = R

rows-text : (m : ℕ) (s : List ℕ) → turned_rows (suc m) s ≡ entry_text (turn_entry (entry_of (take 25 s))) ++ turned_rows m (drop 25 s)
unfolding turned_rows
rows-text m s = refl

-- line i of n, those from i on still to be stored
module _ (text : List ℕ) (n i : ℕ) (more : i < n) (R : RowsRoomy (n - i) (drop (25 * i + 25) text)) where
  left : n - i ≡ suc (n - (i + 1))
  left = omega arith

  both : Roomy (turn_entry (entry_of (take 25 (drop (25 * i + 25) text)))) × RowsRoomy (n - (i + 1)) (drop 25 (drop (25 * i + 25) text))
  both = split-roomy (n - (i + 1)) (drop (25 * i + 25) text) (subst (λ (m : ℕ). RowsRoomy m (drop (25 * i + 25) text)) left R)

  after : drop 25 (drop (25 * i + 25) text) ≡ drop (25 * (i + 1) + 25) text
  after = let e : 25 * i + 25 + 25 ≡ 25 * (i + 1) + 25 = omega arith in drop-drop 25 (25 * i + 25) text ∙ ap (λ (k : ℕ). drop k text) e

  abbrev here : List ℕ
  here = take (25 * i + 25 + 25 - (25 * i + 25)) (drop (25 * i + 25) text)

  pub row-roomy : Roomy (turn_entry (entry_of here))
  row-roomy = rw (part_of text (25 * i + 25) 25) both.0

  pub rows-after : RowsRoomy (n - (i + 1)) (drop (25 * (i + 1) + 25) text)
  rows-after = subst (RowsRoomy (n - (i + 1))) after both.1

  pub rows-stored : (d e : List ℕ) → e ≡ sets d (25 * i + 25) (entry_text (turn_entry (entry_of here)))
      → sets d (25 * i + 25) (turned_rows (n - i) (drop (25 * i + 25) text)) ≡ sets e (25 * (i + 1) + 25) (turned_rows (n - (i + 1)) (drop (25 * (i + 1) + 25) text))
  rows-stored d e q =
      let x : List ℕ = entry_text (turn_entry (entry_of (take 25 (drop (25 * i + 25) text)))) in
      let long : length x ≡ 25 = (text-entry (turn_entry (entry_of (take 25 (drop (25 * i + 25) text)))) both.0).3 in
      let stored : sets d (25 * i + 25) x ≡ e = ap (λ (y : List ℕ). sets d (25 * i + 25) (entry_text (turn_entry (entry_of y)))) (sym (part_of text (25 * i + 25) 25)) ∙ sym q in
      ap (λ (m : ℕ). sets d (25 * i + 25) (turned_rows m (drop (25 * i + 25) text))) left
      ∙ ap (sets d (25 * i + 25)) (rows-text (n - (i + 1)) (drop (25 * i + 25) text))
      ∙ part-stored d x (turned_rows (n - (i + 1)) (drop 25 (drop (25 * i + 25) text))) (25 * i + 25) 25 (25 * (i + 1) + 25) long (omega arith)
      ∙ ap₂ (λ (y z : List ℕ). sets y (25 * (i + 1) + 25) (turned_rows (n - (i + 1)) z)) stored after

pub rows-done : (text : List ℕ) (n i : ℕ) → n ≤ i → (d : List ℕ) → sets d (25 * i + 25) (turned_rows (n - i) (drop (25 * i + 25) text)) ≡ d
unfolding turned_rows
rows-done text n i h d = let e : n - i ≡ 0 = omega arith in ap (λ (m : ℕ). sets d (25 * i + 25) (turned_rows m (drop (25 * i + 25) text))) e
