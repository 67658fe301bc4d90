-- How many columns a number takes.
use Prim.Native.Nat.{ℕ, zero, suc, ◌+◌, ◌/◌, ◌^◌, ◌≤◌, ◌<◌}
use native.Mathlib.Omega.{arith}
use lib.Dec.{eqb-suc-zero}
use lib.ListN.{length, length-append}
use lib.IntN.{ℤ, pos, negsuc, nat_abs}
use Rattle.field.specs.Field.{leading, decimal, text_of}
use Rattle.field.proofs.Small.{tenth}

pub some-columns : (z : ℤ) → 0 < length (text_of z)
some-columns (pos n) = simp length-append (omega arith)
some-columns (negsuc n) = omega arith

leading-few : (j n k : ℕ) → n < 10 ^ k → length (leading j n) ≤ k
unfolding leading
leading-few zero n k h = omega arith
leading-few (suc j) zero k h = omega arith
leading-few (suc j) (suc n) zero h = absurd (omega arith)
leading-few (suc j) (suc n) (suc k) h =
    rw eqb-suc-zero (simp length-append (omega (arith, leading-few j (suc n / 10) k (tenth (suc n) k h))))

decimal-few : (n k : ℕ) → 0 < k → n < 10 ^ k → length (decimal n) ≤ k
decimal-few n zero p h = absurd (omega arith)
decimal-few n (suc k) p h = simp length-append (omega (arith, leading-few 14 (n / 10) k (tenth n k h)))

-- k columns hold what is below 10 ^ k and not below zero, and one column more holds the minus too
pub few-plain : (n k : ℕ) → 0 < k → n < 10 ^ k → length (text_of (pos n)) ≤ k
few-plain n k p h = decimal-few n k p h

pub few-columns : (z : ℤ) (k : ℕ) → 0 < k → nat_abs z < 10 ^ k → length (text_of z) ≤ k + 1
few-columns (pos n) k p h = omega (arith, decimal-few n k p h)
few-columns (negsuc n) k p h = omega (arith, decimal-few (suc n) k p h)
