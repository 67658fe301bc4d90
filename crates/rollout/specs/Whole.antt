-- The rollouts of a table, in whole grains. Document 01, 'Rollouts'.
use Rattle.std.specs.Prelude.{ℕ, Bool, not, List, eqb, ℤ, pos, ◌*ℤ◌}
use Rattle.std.specs.Int.Signed.{lt_z}
use Rattle.numbers.specs.Integers.{max_z, min_z}
use Rattle.table.specs.Table.{Table, tree, grain, greatest}
use Rattle.search.specs.Whole.{in_grains}
use Rattle.rollout.specs.Rollout.{Order, Pair, Rolled, lows, first_or, records, rollouts}

abbrev pub whole : Order ℤ
whole = record { high-of = max_z; low_of = min_z; below = lt_z }

-- 13: "rollouts on a table with a C": K is above 0
abbrev pub has_chance : Table → Bool
has_chance t = not (eqb (greatest t.lines) 0)

abbrev pub bottom : Table → ℤ
bottom t = t.head.lowest *ℤ pos (grain t)

abbrev pub top : Table → ℤ
top t = t.head.highest *ℤ pos (grain t)

-- the rollouts of a table under the policy list p
abbrev pub rolled : Table → List ℕ → Rolled ℤ
rolled t p = rollouts whole (bottom t) (top t) p (in_grains (grain t) (tree t))

-- "Answer: the worth", line 5 of Algorithm 4: the root's low
abbrev pub rolled_worth : Table → List ℕ → ℤ
rolled_worth t p = first_or (bottom t) (lows (rolled t p).kept)

-- "and the store as last updated": a record for each node
abbrev pub rolled_store : Table → List ℕ → List (Pair ℤ)
rolled_store t p = records (rolled t p).kept
