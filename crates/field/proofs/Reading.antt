-- The definitions of reading, said by the tests that the code makes.
use Prim.Native.Nat.{ℕ, ◌+◌, ◌-◌}
use mathlib.Core.Path.{◌≡◌, refl}
use mathlib.Core.Bool.{cond}
use mathlib.Core.List.{List, [], ◌∷◌}
use native.Mathlib.Omega.{arith}
use lib.ListN.{length, get_or, take, drop, length-drop}
use lib.Seq.{take_all}
use lib.Dec.{eqb, eqb-suc-zero}
use Rattle.field.specs.Field.{strip, whole, plain, minus, signed}
use Rattle.field.specs.declared.Field.TheVariants.{Blank}

pub strip-first : (t : List ℕ) → strip t ≡ cond (eqb (get_or t 0 0) 32) (strip (drop 1 t)) t
unfolding strip
strip-first [] = refl
strip-first (b ∷ s) = refl

pub signed-tests
    : (t : List ℕ)
    → signed t ≡ cond (eqb (length t) 0) Blank (cond (eqb (get_or t 0 0) 45) (minus (whole (drop 1 t))) (plain (whole t)))
unfolding signed
signed-tests [] = refl
signed-tests (b ∷ s) = simp eqb-suc-zero

-- how the borrow checker says a part of a text: what follows from k on, and n columns from k on
pub from_on : (l : List ℕ) (k : ℕ) → take (length l - k) (drop k l) ≡ drop k l
from_on l k = take_all (length l - k) (drop k l) (simp length-drop (omega arith))

pub part_of : (l : List ℕ) (k n : ℕ) → take (k + n - k) (drop k l) ≡ take n (drop k l)
part_of l k n = let h : k + n - k ≡ n = omega arith in rw h
