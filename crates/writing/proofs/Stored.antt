-- A header and a node line, stored part by part.
use Prim.Native.Nat.{ℕ, ◌+◌, ◌^◌, ◌≤◌, ◌<◌}
use mathlib.Core.Path.{◌≡◌, refl, sym, ap₂, ◌∙◌}
use mathlib.Core.Bool.{Bool, true, false, cond}
use mathlib.Core.List.{List, ◌∷◌, ◌++◌}
use native.Mathlib.Omega.{arith}
use lib.Dec.{eqb, lit<, lit≤}
use lib.ListN.{length, set, length-append}
use lib.Seq.{sets}
use lib.IntN.{ℤ, pos, nat_abs}
use mir.Syntax.{w64}
use mir.Val.{to_z, of_z}
use mir.ValLaws.{to_z-of_z}
use Rattle.field.specs.declared.Field.TheVariants.{Number}
use Rattle.field.proofs.Bits.{fits}
use Rattle.field.proofs.Stores.{part-stored, byte-stored}
use Rattle.line.specs.declared.Head.{Head}
use Rattle.line.specs.declared.Entry.{Entry}
use Rattle.line.specs.Inside.{Ranged}
use Rattle.writing.specs.Text.{columns, newline, totals_text, header_text}
use Rattle.writing.specs.Inside.{shown, Fits, entry_text, Roomy}
use Rattle.writing.proofs.Lines.{fits-natural, fits_signed, shown-long}

-- ---- the header

-- a natural number as it is handed on
pub handed : (n : ℕ) → n < 100000 → to_z w64 n ≡ pos n
handed n h = to_z-of_z w64 (pos n) (fits (pos n) (omega arith))

pub fits-handed : (n width : ℕ) → 0 < width → width ≤ 4 → n < 10 ^ width → n < 100000 → Fits width (Number (to_z w64 n))
fits-handed n width p w h k = rw (handed n k) (fits-natural n width p (omega arith) h)

-- an end or a utility likewise
pub whole-handed : (z : ℤ) → nat_abs z < 10 ^ 7 → to_z w64 (of_z w64 z) ≡ z
whole-handed z h = to_z-of_z w64 z (fits z (omega arith))

pub fits-end : (z : ℤ) → nat_abs z ≤ 1000000 → Fits 8 (Number z)
fits-end z h = fits_signed z (omega arith)

-- two totals, one after the other
pub totals-stored : (d : List ℕ) (m n : ℕ) → m ≤ 64 → sets (sets d 4 (columns 2 (pos m))) 6 (columns 2 (pos n)) ≡ sets d 4 (columns 2 (pos m) ++ columns 2 (pos n))
totals-stored d m n h = sym (part-stored d (columns 2 (pos m)) (columns 2 (pos n)) 4 2 6 (shown-long 2 (Number (pos m)) (fits-natural m 2 (lit< tt) (lit≤ tt) (omega arith))) refl)

totals-long : (b : Bool) (m n : ℕ) → m ≤ 64 → n ≤ 64 → length (cond b (columns 4 (pos n)) (columns 2 (pos m) ++ columns 2 (pos n))) ≡ 4
totals-long true m n h k = shown-long 4 (Number (pos n)) (fits-natural n 4 (lit< tt) (lit≤ tt) (omega arith))
totals-long false m n h k =
    length-append (columns 2 (pos m)) (columns 2 (pos n))
    ∙ ap₂ ◌+◌ (shown-long 2 (Number (pos m)) (fits-natural m 2 (lit< tt) (lit≤ tt) (omega arith))) (shown-long 2 (Number (pos n)) (fits-natural n 2 (lit< tt) (lit≤ tt) (omega arith)))

module _ (d : List ℕ) (h : Head) (n : ℕ) (few : n ≤ 1024) (r : Ranged h) where
  pub header-stored
      : set (sets (sets (sets (sets d 0 (columns 4 (pos n))) 4 (totals_text h)) 8 (columns 8 h.lowest)) 16 (columns 8 h.highest)) 24 10
      ≡ sets d 0 (header_text h n)
  header-stored =
      sym (
      part-stored d (columns 4 (pos n)) _ 0 4 4 (shown-long 4 (Number (pos n)) (fits-natural n 4 (lit< tt) (lit≤ tt) (omega arith))) refl
      ∙ part-stored _ (totals_text h) _ 4 4 8 (totals-long (eqb h.second 0) h.second h.total r.second r.total) refl
      ∙ part-stored _ (columns 8 h.lowest) _ 8 8 16 (shown-long 8 (Number h.lowest) (fits-end h.lowest r.lowest)) refl
      ∙ part-stored _ (columns 8 h.highest) newline 16 8 24 (shown-long 8 (Number h.highest) (fits-end h.highest r.highest)) refl
      )

-- ---- a line

pub line-stored : (d : List ℕ) (at : ℕ) (e : Entry) → Roomy e
    → set (sets (sets (sets (set (set (sets d at (shown 4 e.number)) (at + 4) 32) (at + 5) e.letter) (at + 6) (shown 5 e.parent)) (at + 11) (shown 5 e.weight)) (at + 16) (shown 8 e.utility)) (at + 24) 10
    ≡ sets d at (entry_text e)
line-stored d at e R =
    let P : List ℕ = shown 5 e.parent in
    let W : List ℕ = shown 5 e.weight in
    let U : List ℕ = shown 8 e.utility in
    let d4 : List ℕ = sets d at (shown 4 e.number) in
    let d5 : List ℕ = set d4 (at + 4) 32 in
    let d6 : List ℕ = set d5 (at + 5) e.letter in
    let d11 : List ℕ = sets d6 (at + 6) P in
    let d16 : List ℕ = sets d11 (at + 11) W in
    sym (
    part-stored d (shown 4 e.number) (32 ∷ e.letter ∷ (P ++ (W ++ (U ++ newline)))) at 4 (at + 4) (shown-long 4 e.number R.number) refl
    ∙ byte-stored d4 (e.letter ∷ (P ++ (W ++ (U ++ newline)))) 32 (at + 4) (at + 5) (omega arith)
    ∙ byte-stored d5 (P ++ (W ++ (U ++ newline))) e.letter (at + 5) (at + 6) (omega arith)
    ∙ part-stored d6 P (W ++ (U ++ newline)) (at + 6) 5 (at + 11) (shown-long 5 e.parent R.parent) (omega arith)
    ∙ part-stored d11 W (U ++ newline) (at + 11) 5 (at + 16) (shown-long 5 e.weight R.weight) (omega arith)
    ∙ part-stored d16 U newline (at + 16) 8 (at + 24) (shown-long 8 e.utility R.utility) (omega arith)
    )
