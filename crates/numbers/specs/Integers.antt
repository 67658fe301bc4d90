-- The greater and the lesser of two integers, whether they are equal, and quotients: what worths, bounds and level plays are computed with.
use Rattle.std.specs.Prelude.{ℕ, suc, ◌+◌, ◌-◌, ◌/◌, Bool, false, cond, eqb, ℤ, pos, negsuc, neg_ℤ}
use Rattle.std.specs.Int.Signed.{le_z}

-- the greater and the lesser of two, for the maximum and the minimum of equation (1)
unfoldable pub max_z : ℤ → ℤ → ℤ
max_z a b = cond (le_z a b) b a

unfoldable pub min_z : ℤ → ℤ → ℤ
min_z a b = cond (le_z a b) a b

-- whether two are equal, for document 02: Item 8's losses of 0, and Item 11's numbers of scales
abbrev pub eq_z : ℤ → ℤ → Bool
eq_z (pos m) (pos n) = eqb m n
eq_z (pos m) (negsuc n) = false
eq_z (negsuc m) (pos n) = false
eq_z (negsuc m) (negsuc n) = eqb m n

-- A number divided by d, rounded down. Below zero, at minus n + 1, it is minus the quotient of n + 1 rounded up. `Exact` of worth and `NoRemainder` of the search
-- say that nothing is rounded where a sum is divided by T.
unfoldable pub floor_z : ℤ → ℕ → ℤ
floor_z (pos n) d = pos (n / d)
floor_z (negsuc n) d = neg_ℤ (pos ((suc n + (d - 1)) / d))

-- z divided by n, rounded up
unfoldable pub ceil_z : (z : ℤ) (n : ℕ) → ℤ
ceil_z z n = neg_ℤ (floor_z (neg_ℤ z) n)
