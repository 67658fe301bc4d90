-- The two window figures of document 01, by computation; its starred positions are in demands/specs/Rows.antt.
use mathlib.Core.Path.{◌≡◌, refl}
use lib.IntN.{pos}
use Rattle.numbers.specs.Integers.{max_z, min_z, floor_z, ceil_z}
use Rattle.search.specs.Whole.{down_z, up_z}

-- "Ends 0 and 32 grains, T 4, weight 3. Alpha for alpha 21, high 32: 17. Beta for beta 20, low 0: 27."
worked-alpha : down_z (record { bottom = pos 0; top = pos 32; total = 4 }) 3 (pos 21) (pos 32) ≡ pos 17
unfolding down_z max_z floor_z
worked-alpha = refl

worked-beta : up_z (record { bottom = pos 0; top = pos 32; total = 4 }) 3 (pos 20) (pos 0) ≡ pos 27
unfolding up_z min_z ceil_z floor_z
worked-beta = refl
