-- The index over heights: what is computed with. No promise names these.
use Rattle.std.specs.Prelude.{ℕ, min, max, List, [], ◌∷◌, ◌++◌, ℤ, pos, ◌+ℤ◌}
use Rattle.std.proofs.Math.Option.{Option, none, some}
use Rattle.table.specs.Tree.{Forest, end, leaf, inner}
use Rattle.index.specs.Index.{Ends}

-- the least height among and under these nodes, none of which is above S, and the greatest
unfoldable pub least_of : ℕ → Forest ℕ → ℕ
least_of S end = S
least_of S (leaf n w h rest) = min h (least_of S rest)
least_of S (inner n w k under rest) = min (least_of S under) (least_of S rest)

unfoldable pub greatest_of : Forest ℕ → ℕ
greatest_of end = 0
greatest_of (leaf n w h rest) = max h (greatest_of rest)
greatest_of (inner n w k under rest) = max (greatest_of under) (greatest_of rest)

-- the entries of these nodes and of all under them, each end from the lowest end of the table up
unfoldable pub height_entries : (lowest : ℤ) (S : ℕ) → Forest ℕ → List (Option Ends)
height_entries lowest S end = []
height_entries lowest S (leaf n w h rest) = none ∷ height_entries lowest S rest
height_entries lowest S (inner n w k under rest) =
    some (record { low = lowest +ℤ pos (least_of S under); high = lowest +ℤ pos (greatest_of under) }) ∷ (height_entries lowest S under ++ height_entries lowest S rest)
