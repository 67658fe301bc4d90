-- One number in any padding is read as that number. Document 02, Item 9.
use Prim.Native.Nat.{ℕ, zero, suc}
use mathlib.Core.Path.{◌≡◌, refl, sym, ap, ◌∙◌}
use mathlib.Core.List.{List, ◌∷◌, ◌++◌}
use lib.ListN.{replicate}
use lib.IntN.{ℤ}
use Rattle.std.specs.Prelude.{Some}
use Rattle.field.specs.Field.{strip, digits, whole, minus, signed}
use Rattle.field.specs.Padding.{Pads, Repadded, kept, padding}
use Rattle.field.specs.declared.Field.TheVariants.{Ill, Number}
use Rattle.field.proofs.RoundTrip.{strip-blanks, padded-read}

-- "Whoever reads a field gets the same number for every padding."
pub pads-read : (z : ℤ) (c : List ℕ) → Pads z c → signed (strip c) ≡ Number z
pads-read z c P = ap (λ (x : List ℕ). signed (strip x)) P.is ∙ padded-read P.blanks P.zeros z P.small

pub repadded-read : (c d : List ℕ) → Repadded c d → signed (strip c) ≡ signed (strip d)
repadded-read c d (kept e) = ap (λ (x : List ℕ). signed (strip x)) e
repadded-read c d (padding z P Q) = pads-read z c P ∙ sym (pads-read z d Q)

zeros-mean : (j : ℕ) → digits 0 (replicate j 48) ≡ Some 0
unfolding digits
zeros-mean zero = refl
zeros-mean (suc j) = zeros-mean j

minus-ill : (j : ℕ) → signed (strip (45 ∷ replicate j 48)) ≡ Ill
unfolding strip signed whole digits
minus-ill zero = refl
minus-ill (suc j) = ap minus (zeros-mean j)

-- "minus with only zeros is still ill-written"
pub minus-zeros : (blanks zeros : ℕ) → signed (strip (replicate blanks 32 ++ (45 ∷ replicate zeros 48))) ≡ Ill
minus-zeros blanks zeros = ap signed (strip-blanks blanks (45 ∷ replicate zeros 48)) ∙ minus-ill zeros
