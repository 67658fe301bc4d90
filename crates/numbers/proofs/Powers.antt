-- Powers of a total.
use Prim.Native.Nat.{ℕ, zero, suc, ◌+◌, ◌*◌, ◌-◌, ◌^◌, ◌≤◌, ◌∣◌}
use mathlib.Core.Path.{◌≡◌}
use native.Mathlib.Nat.{dvd_refl, dvd-mul_left_of_dvd, add-zero, add-suc, pow-succ', pow-le-pow_left, pow-le-pow_right, le_trans}
use native.Mathlib.Numerals.{add-one}
use native.Mathlib.Omega.{arith}
use lib.Dec.{lit<}

-- the greatest power of a total is 64 to the power 4
pub power_small : (b j : ℕ) → b ≤ 64 → j ≤ 4 → b ^ j ≤ 16777216
power_small b j h k = le_trans (pow-le-pow_left h j) (pow-le-pow_right {n = 64} (lit< tt) k)

power-add : (T c j : ℕ) → T ^ c ∣ T ^ (c + j)
power-add T c zero = rw (add-zero c) (dvd_refl (T ^ c))
power-add T c (suc j) = rw (add-suc c j, pow-succ' T (c + j)) (dvd-mul_left_of_dvd (T ^ c) (power-add T c j) T)

pub power-dvd : (T c K : ℕ) → c ≤ K → T ^ c ∣ T ^ K
power-dvd T c K h = let e : c + (K - c) ≡ K = omega arith in rw e at (power-add T c (K - c))

pub power-more : (T c : ℕ) → T ^ (c + 1) ≡ T * T ^ c
power-more T c = rw (add-one c, pow-succ' T c)
