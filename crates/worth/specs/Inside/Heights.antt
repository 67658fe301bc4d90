-- The worth over heights, in grains above the lowest end: what is computed with.
use Rattle.std.specs.Prelude.{ℕ, ◌+◌, ◌*◌, ◌/◌, ◌≤◌, min, max, true, List, [], ◌∷◌, ◌≡◌, ℤ, pos, ◌+ℤ◌}
use Rattle.table.specs.Tree.{Kind, MAX, MIN, CHANCE, Forest, end, leaf, inner, is_chance}
use Rattle.table.specs.Table.{Table, grain}
use Rattle.table.specs.Inside.{height_tree}
use Rattle.worth.specs.Worth.{Share, total}

-- the maximum, the minimum and the sum of weight × worth over the children
unfoldable pub tallest : List (Share ℕ) → ℕ
tallest [] = 0
tallest (x ∷ []) = x.worth
tallest (x ∷ y ∷ ys) = max x.worth (tallest (y ∷ ys))

unfoldable pub shortest : List (Share ℕ) → ℕ
shortest [] = 0
shortest (x ∷ []) = x.worth
shortest (x ∷ y ∷ ys) = min x.worth (shortest (y ∷ ys))

unfoldable pub summed : List (Share ℕ) → ℕ
summed [] = 0
summed (x ∷ xs) = x.weight * x.worth + summed xs

-- equation (1) at a node of a kind, from its children
unfoldable pub height_value : Kind → List (Share ℕ) → ℕ
height_value MAX xs = tallest xs
height_value MIN xs = shortest xs
height_value CHANCE xs = summed xs / total xs

-- each node with its worth, where a leaf of height h is worth h × G
unfoldable pub height_shares : (G : ℕ) → Forest ℕ → List (Share ℕ)
height_shares G end = []
height_shares G (leaf n w h rest) = record { weight = w; worth = h * G } ∷ height_shares G rest
height_shares G (inner n w k under rest) = record { weight = w; worth = height_value k (height_shares G under) } ∷ height_shares G rest

-- the worth of the first node
abbrev pub first_height : List (Share ℕ) → ℕ
first_height [] = 0
first_height (x ∷ xs) = x.worth

-- how many grains the worth of a table stands above its lowest end
abbrev pub height_worth : Table → ℕ
height_worth t = first_height (height_shares (grain t) (height_tree t))

-- a share over heights as one over the integers, where the lowest end is b grains
abbrev pub raised : ℤ → Share ℕ → Share ℤ
raised b x = record { weight = x.weight; worth = b +ℤ pos x.worth }

-- no division of a sum by a C's own total leaves a remainder
abbrev pub ExactHeights : (G : ℕ) → Forest ℕ → Type 0
ExactHeights G end = Unit {0}
ExactHeights G (leaf n w h rest) = ExactHeights G rest
ExactHeights G (inner n w k under rest) =
    (is_chance k ≡ true → total (height_shares G under) * height_value k (height_shares G under) ≡ summed (height_shares G under))
    × ExactHeights G under
    × ExactHeights G rest

-- every node is worth at most M grains above the lowest end
abbrev pub SmallWorths : (G M : ℕ) → Forest ℕ → Type 0
SmallWorths G M end = Unit {0}
SmallWorths G M (leaf n w h rest) = (h * G ≤ M) × SmallWorths G M rest
SmallWorths G M (inner n w k under rest) = (height_value k (height_shares G under) ≤ M) × SmallWorths G M under × SmallWorths G M rest
