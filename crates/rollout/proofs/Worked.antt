-- Rollouts on table A of document 01: the worth and the leaves read, by computation.
use Prim.Native.Nat.{ℕ}
use mathlib.Core.Path.{◌≡◌, refl}
use mathlib.Core.List.{List, [], ◌∷◌}
use lib.IntN.{ℤ, pos}
use Rattle.field.specs.Field.{strip, digits, whole, signed}
use Rattle.numbers.specs.Integers.{max_z, min_z}
use Rattle.line.specs.Refusal.{Verdict, fine, unless, unless_at, next}
use Rattle.line.specs.Line.{climb, among}
use Rattle.table.specs.Tree.{run, after, forest, weigh, nodes_where, powers, uses, leaves}
use Rattle.table.specs.Examples.{table-a}
use Rattle.table.specs.Table.{Table, node_lines, complete, read_text, greatest}
use Rattle.search.specs.Whole.{in_grains}
use Rattle.rollout.specs.Rollout.{fresh, lows, highs, over, candidates, walk, roll}
use Rattle.rollout.specs.Whole.{rolled, rolled_worth}

-- the worth, and the leaves read
abbrev pub found : List ℕ → Table → Verdict (ℤ × List ℕ)
found p t = fine (rolled_worth t p, (rolled t p).read)

-- "Rollouts on A, empty list: 3, leaves 2 3 5."
pub rolled-a : next (read_text table-a) (found []) ≡ fine (pos 3, 2 ∷ 3 ∷ 5 ∷ [])
unfolding max_z min_z in_grains fresh lows highs over candidates walk roll leaves strip digits whole signed unless unless_at climb run after forest weigh nodes_where node_lines complete read_text greatest among uses powers
rolled-a = refl

-- "List 1, 1: 3, leaves 6 2 3 5."
pub rolled-a-ones : next (read_text table-a) (found (1 ∷ 1 ∷ [])) ≡ fine (pos 3, 6 ∷ 2 ∷ 3 ∷ 5 ∷ [])
unfolding max_z min_z in_grains fresh lows highs over candidates walk roll leaves strip digits whole signed unless unless_at climb run after forest weigh nodes_where node_lines complete read_text greatest among uses powers
rolled-a-ones = refl
