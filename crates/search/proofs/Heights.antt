-- Trees of heights that the search can take, and their worth child by child.
use Prim.Native.Nat.{ℕ, ◌≤◌, ◌<◌}
use mathlib.Core.Path.{◌≡◌}
use lib.IntN.{ℤ, pos, ◌+ℤ◌}
use Rattle.table.specs.Tree.{Kind, MAX, MIN, CHANCE, Forest, end, leaf, inner, weigh}
use Rattle.table.specs.Inside.{taken, sealed}
use Rattle.search.specs.Search.{Frame}

-- ---- the worth, where each node has a frame: equation (1) child by child, as worth's `take_all` has it

unfoldable pub start : Frame ℕ → Kind → ℕ
start e MAX = e.bottom
start e MIN = e.top
start e CHANCE = 0

module _ (frame : ℕ → Forest ℕ → Frame ℕ) where
  unfoldable pub total : Kind → Forest ℕ → ℕ → ℕ
  total k end a = a
  total k (leaf n w h rest) a = total k rest (taken k a w h)
  total k (inner n w c under rest) a = total k rest (taken k a w (sealed (frame n under).total c (total c under (start (frame n under) c))))

  unfoldable pub worth : Frame ℕ → Kind → Forest ℕ → ℕ
  worth e k f = sealed e.total k (total k f (start e k))

-- ---- frames

module _ {A : Type 0} where
  -- a C's total is at least 1
  abbrev pub Paid : Frame A → Kind → Type 0
  Paid e MAX = Unit {0}
  Paid e MIN = Unit {0}
  Paid e CHANCE = 0 < e.total

  -- every C's is
  abbrev pub PaidUnder : (frame : ℕ → Forest A → Frame A) → Forest A → Type 0
  PaidUnder frame end = Unit {0}
  PaidUnder frame (leaf n w v rest) = PaidUnder frame rest
  PaidUnder frame (inner n w k under rest) = Paid (frame n under) k × PaidUnder frame under × PaidUnder frame rest

-- a C's weights sum to its total
abbrev pub Weighed : Frame ℕ → Kind → Forest ℕ → Type 0
Weighed e MAX f = Unit {0}
Weighed e MIN f = Unit {0}
Weighed e CHANCE f = weigh f ≡ e.total

-- a node of this frame and kind may have these children
pub record Sound (e : Frame ℕ) (k : Kind) (f : Forest ℕ) : Type 0 where
  pub ends : e.bottom ≤ e.top
  pub paid : Paid e k
  pub weighed : Weighed e k f

-- every height and every frame lies within the frame above it, and every C is weighed
abbrev pub Within : (ℕ → Forest ℕ → Frame ℕ) → Frame ℕ → Forest ℕ → Type 0
Within frame e end = Unit {0}
Within frame e (leaf n w h rest) = (e.bottom ≤ h) × (h ≤ e.top) × Within frame e rest
Within frame e (inner n w k under rest) =
    (e.bottom ≤ (frame n under).bottom)
    × ((frame n under).top ≤ e.top)
    × Sound (frame n under) k under
    × Within frame (frame n under) under
    × Within frame e rest

-- ---- the integers

-- every weight under a C is at least 1
abbrev pub Pays : Kind → ℕ → Type 0
Pays MAX w = Unit {0}
Pays MIN w = Unit {0}
Pays CHANCE w = 0 < w

abbrev pub Positive : Kind → Forest ℕ → Type 0
Positive k end = Unit {0}
Positive k (leaf n w h rest) = Pays k w × Positive k rest
Positive k (inner n w c under rest) = Pays k w × Positive c under × Positive k rest

-- the tree whose values are the lowest end and the heights
unfoldable pub shift : ℤ → Forest ℕ → Forest ℤ
shift Lo end = end
shift Lo (leaf n w h rest) = leaf n w (Lo +ℤ pos h) (shift Lo rest)
shift Lo (inner n w k under rest) = inner n w k (shift Lo under) (shift Lo rest)
