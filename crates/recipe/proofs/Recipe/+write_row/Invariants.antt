-- `recipe::Recipe::write_row` meets its contract.
use Prim.Native.Nat.{◌+◌, ◌*◌}
use Rattle.recipe.proofs.Recipe.+write_row.Given as goal

-- the lines left, and then the siblings left
abbrev pub decreases-write_row : goal.decreases-write_row
decreases-write_row l = l.y.left * 8 + l.m
