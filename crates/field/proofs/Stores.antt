-- Bytes stored one after another.
use Prim.Native.Nat.{ℕ, suc, ◌+◌, ◌≤◌}
use mathlib.Core.Path.{◌≡◌, sym, ap, ◌∙◌}
use mathlib.Core.List.{List, [], ◌∷◌, ◌++◌, append_assoc}
use native.Mathlib.Omega.{arith}
use native.Mathlib.Nat.{add-zero}
use native.Mathlib.Numerals.{add-one}
use lib.ListN.{length, set, take, drop, length-append, length-replicate}
use lib.Seq.{sets, sets-eq}
use lib.IntN.{ℤ}
use Rattle.field.specs.Field.{text_of, justified, written}

-- one run of stores after another
pub sets-append : (l : List ℕ) (i : ℕ) (xs ys : List ℕ) → sets l i (xs ++ ys) ≡ sets (sets l i xs) (i + length xs) ys
sets-append l i [] ys = ap (λ (k : ℕ). sets l k ys) (sym (add-zero i))
sets-append l i (x ∷ xs) ys =
    let e : suc i + length xs ≡ i + suc (length xs) = omega arith in
    sets-append (set l i x) (suc i) xs ys ∙ ap (λ (k : ℕ). sets (sets (set l i x) (suc i) xs) k ys) e

-- the first w bytes, or the first one, and those from j on
pub part-stored : (l xs ys : List ℕ) (i w j : ℕ) → length xs ≡ w → i + w ≡ j → sets l i (xs ++ ys) ≡ sets (sets l i xs) j ys
part-stored l xs ys i w j p q = sets-append l i xs ys ∙ ap (λ (k : ℕ). sets (sets l i xs) k ys) (ap (λ (n : ℕ). i + n) p ∙ q)

pub byte-stored : (l ys : List ℕ) (x i j : ℕ) → i + 1 ≡ j → sets l i (x ∷ ys) ≡ sets (set l i x) j ys
byte-stored l ys x i j q = ap (λ (k : ℕ). sets (set l i x) k ys) (sym (add-one i) ∙ q)

-- a number written is its columns stored
pub justified-long : (width : ℕ) (s : List ℕ) → length s ≤ width → length (justified width s) ≡ width
justified-long width s h = simp (length-append, length-replicate) (omega arith)

pub written-stored : (l : List ℕ) (at width : ℕ) (z : ℤ) → at + width ≤ length l → length (text_of z) ≤ width → written l at width z ≡ sets l at (justified width (text_of z))
written-stored l at width z room h =
    let t : List ℕ = justified width (text_of z) in
    let j : length t ≡ width = justified-long width (text_of z) h in
    sym (sets-eq t l at (omega arith) ∙ ap (λ (k : ℕ). take at l ++ t ++ drop (at + k) l) j ∙ append_assoc (take at l) t (drop (at + width) l))
