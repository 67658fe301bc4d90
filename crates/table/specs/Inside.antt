-- The tree in the slices, and equation (1) over heights: what the code works on. No promise of a public call names these.
use Rattle.std.specs.Prelude.{ℕ, ◌+◌, ◌*◌, ◌/◌, min, max, ◌≤◌, List, ◌≡◌, length, get_or}
use Rattle.table.specs.Tree.{Kind, MAX, MIN, CHANCE, Forest, end, leaf, inner, code_of, forest}
use Rattle.table.specs.Table.{Table}
use Rattle.table.specs.Accepted.{one}
use Rattle.table.specs.Slices.{height_of, kinds_of, stops_of, weights_of, heights_of, fitted}

-- ---- the tree in the slices

pub record Slices : Type 0 where
  pub kinds : List ℕ
  pub stops : List ℕ
  pub weights : List ℕ
  pub heights : List ℕ

abbrev pub slices : (K S W H : List ℕ) → Slices
slices K S W H = record { kinds = K; stops = S; weights = W; heights = H }

-- the slices have the entries up to e
pub record Holds (s : Slices) (e : ℕ) : Type 0 where
  pub kinds : e ≤ length s.kinds
  pub stops : e ≤ length s.stops
  pub weights : e ≤ length s.weights
  pub heights : e ≤ length s.heights
  pub few : e ≤ 1024

-- the entries from c up to e are these nodes with one parent
unfoldable pub Spans : Slices → ℕ → ℕ → Forest ℕ → Type 0
Spans s c e end = c ≡ e
Spans s c e (leaf n w h rest) =
    (n ≡ c)
    × (get_or s.kinds c 0 ≡ 0)
    × (get_or s.stops c 0 ≡ c + 1)
    × (get_or s.weights c 0 ≡ w)
    × (get_or s.heights c 0 ≡ h)
    × Spans s (c + 1) e rest
Spans s c e (inner n w k under rest) =
    (n ≡ c)
    × (get_or s.kinds c 0 ≡ code_of k)
    × (get_or s.weights c 0 ≡ w)
    × Spans s (c + 1) (get_or s.stops c 0) under
    × Spans s (get_or s.stops c 0) e rest

-- the tree with heights in place of utilities
abbrev pub height_tree : Table → Forest ℕ
height_tree t = forest (height_of t.head.lowest) (length t.lines) t.lines

abbrev pub slices_of : Table → Slices
slices_of t = slices (kinds_of t) (stops_of t) (weights_of t) (heights_of t)

-- four slices with the table's numbers at their fronts
abbrev pub lent : Table → (K S W H : List ℕ) → Slices
lent t K S W H = slices (fitted (kinds_of t) K) (fitted (stops_of t) S) (fitted (weights_of t) W) (fitted (heights_of t) H)

-- the most C on a path down through these nodes
unfoldable pub deepest : {A : Type 0} → Forest A → ℕ
deepest end = 0
deepest (leaf n w v rest) = deepest rest
deepest (inner n w k under rest) = max (one k + deepest under) (deepest rest)

-- ---- equation (1) over heights, child by child, as the worth and the search are computed

-- what stands before the first child, after one more, and at the end; `top` is the greatest height.
abbrev pub begin : ℕ → Kind → ℕ
begin top MAX = 0
begin top MIN = top
begin top CHANCE = 0

abbrev pub taken : Kind → ℕ → ℕ → ℕ → ℕ
taken MAX a w h = max a h
taken MIN a w h = min a h
taken CHANCE a w h = a + w * h

abbrev pub sealed : ℕ → Kind → ℕ → ℕ
sealed T MAX a = a
sealed T MIN a = a
sealed T CHANCE a = a / T
