-- What holds between walks, over heights.
use Rattle.std.specs.Prelude.{ℕ, ◌≤◌, ◌≡◌}
use Rattle.rollout.specs.Inside.Heights.{natural}
use Rattle.rollout.specs.Rollout.{Kept, none, tip, knot, lows, highs, over}

-- there is a node
abbrev pub SomeNode : Kept ℕ → Type 0
SomeNode none = ⊥
SomeNode (tip n v l h rest) = Unit {0}
SomeNode (knot n k l h under rest) = Unit {0}

-- a leaf's bounds hold its worth; every other node has children, and its bounds are the extremes of theirs
abbrev pub Sound : Kept ℕ → Type 0
Sound none = Unit {0}
Sound (tip n v l h rest) = (l ≤ v) × (v ≤ h) × Sound rest
Sound (knot n k l h under rest) =
    SomeNode under × (l ≡ over natural k 0 (lows under)) × (h ≡ over natural k 0 (highs under)) × Sound under × Sound rest
