-- Bounds replaced one by one: what rollouts over heights are, as rollouts over the integers.
use Rattle.std.specs.Prelude.{ℕ, ℤ, pos, ◌+ℤ◌}
use Rattle.table.specs.Table.{Table}
use Rattle.rollout.specs.Rollout.{Kept, none, tip, knot, Pair, Walk, Rolled}
use Rattle.rollout.specs.Whole.{bottom}

module _ {A B : Type 0} (g : A → B) where
  unfoldable pub map_kept : Kept A → Kept B
  map_kept none = none
  map_kept (tip n v l h rest) = tip n (g v) (g l) (g h) (map_kept rest)
  map_kept (knot n k l h under rest) = knot n k (g l) (g h) (map_kept under) (map_kept rest)

  abbrev pub map_pair : Pair A → Pair B
  map_pair r = record { low = g r.low; high = g r.high }

  abbrev pub map_walk : Walk A → Walk B
  map_walk r = record { kept = map_kept r.kept; read = r.read; policy = r.policy }

  abbrev pub map_rolled : Rolled A → Rolled B
  map_rolled r = record { kept = map_kept r.kept; read = r.read }

-- x grains above the lowest end
abbrev pub above : Table → ℕ → ℤ
above t x = bottom t +ℤ pos x
