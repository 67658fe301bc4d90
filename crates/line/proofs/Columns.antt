-- The columns of the totals. Document 02, Items 5 and 9.
use Prim.Native.Nat.{ℕ, ◌≤◌}
use mathlib.Core.Path.{◌≡◌, refl, sym, ap, ap₂, ◌∙◌}
use mathlib.Core.Bool.{Bool, true, false, cond}
use mathlib.Core.List.{List, [], ◌∷◌, ◌++◌}
use native.Mathlib.Omega.{arith}
use lib.ListN.{length, take, drop, take-append-drop}
use lib.Seq.{drop-drop}
use lib.IntN.{pos}
use Rattle.field.specs.Field.{strip, signed, field_of}
use Rattle.field.specs.declared.Field.{Field}
use Rattle.field.specs.declared.Field.TheVariants.{Blank, Ill, Number}
use Rattle.field.proofs.Inverse.{blank-text}
use Rattle.line.specs.Line.{is_blank, has_number, second_of, heading_of}

-- a second total stands in columns 5-6 as it is
pub second-number : (f : Field) (m : ℕ) → second_of f ≡ Number (pos m) → f ≡ Number (pos m)
second-number f m e = go (has_number 0 f) e
  where
    go : (b : Bool) → cond b Blank f ≡ Number (pos m) → f ≡ Number (pos m)
    go true e = let z : ◌≡◌ {A = ℕ} 0 1 = cc in absurd (omega arith)
    go false e = e

-- where columns 5-6 are blank, columns 5-8 say what columns 7-8 say
blank-total : (s : List ℕ) → 8 ≤ length s → field_of s 4 2 ≡ Blank → field_of s 4 4 ≡ field_of s 6 2
unfolding strip
blank-total s room e =
    let two : take 2 (drop 4 s) ≡ 32 ∷ 32 ∷ [] = blank-text s 4 2 (omega arith) e in
    let all : drop 4 s ≡ 32 ∷ 32 ∷ drop 6 s = sym (take-append-drop 2 (drop 4 s)) ∙ ap₂ ◌++◌ two (drop-drop 2 4 s) in
    ap (λ (x : List ℕ). signed (strip (take 4 x))) all

-- so with no zeros in columns 5-6 the first total has columns 7-8 in both cases
pub total-columns : (s : List ℕ) → 8 ≤ length s → has_number 0 (field_of s 4 2) ≡ false → (heading_of s).total ≡ field_of s 6 2
total-columns s room n = rw n (go (field_of s 4 2) refl)
  where
    go : (f : Field) → field_of s 4 2 ≡ f → cond (is_blank f) (field_of s 4 4) (field_of s 6 2) ≡ field_of s 6 2
    go Blank e = blank-total s room e
    go Ill e = refl
    go (Number z) e = refl
