-- What is said of rollouts: the store after any number of walks, and the worth of every node. Document 01, 'Rollouts'.
use Rattle.std.specs.Prelude.{ℕ, ◌≡◌, Bool, true, List, [], ◌∷◌, ◌++◌, ℤ, pos, ◌*ℤ◌}
use Rattle.std.specs.Int.Signed.{le_z, lt_z}
use Rattle.table.specs.Tree.{Forest, end, leaf, inner}
use Rattle.table.specs.Table.{Table, tree, grain}
use Rattle.worth.specs.Worth.{value, shares}
use Rattle.search.specs.Whole.{in_grains}
use Rattle.rollout.specs.Rollout.{Kept, Pair, Walk, Rolled, fresh, lows, highs, first_or, walk, roll}
use Rattle.rollout.specs.Whole.{whole, bottom, top}

-- what rollouts have left after n walks, or after the last if the root is closed before
abbrev pub after_walks : Table → ℕ → List ℕ → Rolled ℤ
after_walks t n p = roll whole (bottom t) (top t) n p (fresh (bottom t) (top t) (in_grains (grain t) (tree t)))

-- the root's low and high
abbrev pub root_low : Table → Kept ℤ → ℤ
root_low t f = first_or (bottom t) (lows f)

abbrev pub root_high : Table → Kept ℤ → ℤ
root_high t f = first_or (top t) (highs f)

-- "While the root's low is below its high": whether the root is still open, and the walk that is then made under the policy list q
abbrev pub is_open : Table → Kept ℤ → Bool
is_open t f = lt_z (root_low t f) (root_high t f)

abbrev pub next_walk : Table → List ℕ → Kept ℤ → Walk ℤ
next_walk t q f = walk whole (root_low t f) (root_high t f) 0 q f

-- the exact worth of every node, by node number
unfoldable pub tree_worths : (G : ℕ) → Forest ℤ → List ℤ
tree_worths G end = []
tree_worths G (leaf n w u rest) = (u *ℤ pos G) ∷ tree_worths G rest
tree_worths G (inner n w k under rest) = value k (shares G under) ∷ (tree_worths G under ++ tree_worths G rest)

-- one record for each worth, which lies between its low and its high
abbrev pub Holds : List ℤ → List (Pair ℤ) → Type 0
Holds [] [] = Unit {0}
Holds [] (r ∷ rs) = ⊥
Holds (v ∷ vs) [] = ⊥
Holds (v ∷ vs) (r ∷ rs) = (le_z r.low v ≡ true) × (le_z v r.high ≡ true) × Holds vs rs
