-- The running sums of a C by computation. Document 02, Item 4.
use Prim.Native.Nat.{ℕ}
use mathlib.Core.Path.{◌≡◌, refl}
use mathlib.Core.List.{[], ◌∷◌}
use lib.IntN.{ℤ, pos}
use Rattle.numbers.specs.Integers.{max_z, min_z, floor_z}
use Rattle.table.specs.Tree.{CHANCE, Forest, end, leaf}
use Rattle.search.specs.Search.{Frame, State, Rules, unlimited, begin, finish, cut, point, update, stop}
use Rattle.search.specs.Whole.{whole, gain_z, loss_z}
use Rattle.search.specs.Sums.{on_sums, scaled, keep, leave, search_sums, scan_sums, sums_z}

-- A root C of three leaves: T is 4, the ends are 0 and 32 grains; the leaves weigh 1, 2 and 1 and are worth 24, 8 and 32 grains.
abbrev chance : Frame ℤ
chance = record { bottom = pos 0; top = pos 32; total = 4 }

abbrev children : Forest ℤ
children = leaf 1 1 (pos 24) (leaf 2 2 (pos 8) (leaf 3 1 (pos 32) end))

abbrev first : State ℤ
first = begin chance CHANCE (pos 0) (pos 32) []

-- Algorithm 1 before its second and its third child
abbrev dividing2 : State ℤ
dividing2 = update whole chance CHANCE 1 1 first (point 1 (pos 24) [])

abbrev dividing3 : State ℤ
dividing3 = update whole chance CHANCE 2 2 dividing2 (point 2 (pos 8) (1 ∷ []))

-- and with sums
abbrev summing2 : State ℤ
summing2 = update (on_sums whole sums_z) chance CHANCE 1 1 (keep sums_z chance CHANCE first) (point 1 (pos 24) [])

abbrev summing3 : State ℤ
summing3 = update (on_sums whole sums_z) chance CHANCE 2 2 summing2 (point 2 (pos 8) (1 ∷ []))

-- low and high are 6 and 30, then 10 and 18; the sums are 24 and 120, then 40 and 72
pub sums-of-three : (dividing2.lo ≡ pos 6) × (dividing2.hi ≡ pos 30) × (summing2.lo ≡ pos 24) × (summing2.hi ≡ pos 120)
    × (dividing3.lo ≡ pos 10) × (dividing3.hi ≡ pos 18) × (summing3.lo ≡ pos 40) × (summing3.hi ≡ pos 72)
unfolding begin point update keep gain_z loss_z floor_z
sums-of-three = (refl, refl, refl, refl, refl, refl, refl, refl)

abbrev rules_at : (margin : ℕ) → Rules ℤ
rules_at margin = record { frame = λ n under. chance; margin = margin; full = unlimited }

-- after the third both sums are 72, and are divided: 18 and 18; a margin of 8 cuts before it, at 40 and 72, so 10 and 18
pub left-by-three : ((search_sums sums_z whole (rules_at 7) chance CHANCE children).low ≡ pos 18) × ((search_sums sums_z whole (rules_at 7) chance CHANCE children).high ≡ pos 18)
    × ((search_sums sums_z whole (rules_at 8) chance CHANCE children).low ≡ pos 10) × ((search_sums sums_z whole (rules_at 8) chance CHANCE children).high ≡ pos 18)
unfolding search_sums scan_sums begin point update finish cut keep leave scaled stop gain_z loss_z floor_z max_z min_z
left-by-three = (refl, refl, refl, refl)
