-- Rollouts over heights, in grains above the lowest end: what is computed with.
use Rattle.std.specs.Prelude.{ℕ, ◌*◌, min, max, List, ltb}
use Rattle.table.specs.Table.{Table, grain}
use Rattle.table.specs.Inside.{height_tree}
use Rattle.table.specs.Accepted.{span}
use Rattle.search.specs.Inside.{grained}
use Rattle.rollout.specs.Rollout.{Order, Rolled, rollouts}

abbrev pub natural : Order ℕ
natural = record { high-of = max; low_of = min; below = ltb }

abbrev pub height_rolled : Table → List ℕ → Rolled ℕ
height_rolled t p = rollouts natural 0 (span t.head * grain t) p (grained (grain t) (height_tree t))
