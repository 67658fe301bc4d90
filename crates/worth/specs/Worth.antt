-- The worth of a table: equation (1) of document 000, in whole grains. Document 01, 'Grains'; document 02, Item 5.
use Rattle.std.specs.Prelude.{ℕ, ◌+◌, true, List, [], ◌∷◌, ◌≡◌, ℤ, pos, ◌+ℤ◌, ◌*ℤ◌}
use Rattle.numbers.specs.Integers.{max_z, min_z, floor_z}
use Rattle.line.specs.Line.{among}
use Rattle.table.specs.Tree.{Kind, MAX, MIN, CHANCE, Forest, end, leaf, inner, is_chance}
use Rattle.table.specs.Table.{Table, tree, grain}

-- a child of a node, as its parent sees it: its weight where the parent is a C, and its worth
pub record Share (A : Type 0) : Type 0 where
  pub weight : ℕ
  pub worth : A

-- Equation (1): the maximum, the minimum over the children. Of no children it is 0, which no accepted table has: "every node but an L has a child".
unfoldable pub largest : List (Share ℤ) → ℤ
largest [] = pos 0
largest (x ∷ []) = x.worth
largest (x ∷ y ∷ ys) = max_z x.worth (largest (y ∷ ys))

unfoldable pub smallest : List (Share ℤ) → ℤ
smallest [] = pos 0
smallest (x ∷ []) = x.worth
smallest (x ∷ y ∷ ys) = min_z x.worth (smallest (y ∷ ys))

-- "the sum of weight × worth over its children"
unfoldable pub weighted : List (Share ℤ) → ℤ
weighted [] = pos 0
weighted (x ∷ xs) = pos x.weight *ℤ x.worth +ℤ weighted xs

-- "A C's weights sum to T", by Item 5 "to either total, and its own sum is its T in every rule": the sum of a node's own weights. That it is one of the
-- totals at every C of an accepted table is a theorem (proofs/Worth.totals-are).
unfoldable pub total : {A : Type 0} → List (Share A) → ℕ
total [] = 0
total (x ∷ xs) = x.weight + total xs

-- Equation (1) at a node of a kind, from its children. "The worth of a C is the sum of weight × worth over its children, divided by T", the C's own total.
unfoldable pub value : Kind → List (Share ℤ) → ℤ
value MAX xs = largest xs
value MIN xs = smallest xs
value CHANCE xs = floor_z (weighted xs) (total xs)

-- Each node with its worth, first to last. "a leaf is worth its utility × G"; another node is worth what equation (1) makes of its children.
unfoldable pub shares : (G : ℕ) → Forest ℤ → List (Share ℤ)
shares G end = []
shares G (leaf n w u rest) = record { weight = w; worth = u *ℤ pos G } ∷ shares G rest
shares G (inner n w k under rest) = record { weight = w; worth = value k (shares G under) } ∷ shares G rest

-- the worth of the first node; every accepted table has one
abbrev pub first_worth : List (Share ℤ) → ℤ
first_worth [] = pos 0
first_worth (x ∷ xs) = x.worth

-- the worth of a table, in grains: that of its root
abbrev pub worth_of : Table → ℤ
worth_of t = first_worth (shares (grain t) (tree t))

-- "A chance line's weights sum to either total": at every C of the tree the own sum, by which its worth is divided, is one of these
abbrev pub TotalsAre : (ts : List ℕ) (G : ℕ) → Forest ℤ → Type 0
TotalsAre ts G end = Unit {0}
TotalsAre ts G (leaf n w u rest) = TotalsAre ts G rest
TotalsAre ts G (inner n w k under rest) = (is_chance k ≡ true → among (total (shares G under)) ts ≡ true) × TotalsAre ts G under × TotalsAre ts G rest

-- "that division never leaves a remainder": at every C of the tree, its own total × its worth is the sum of weight × worth over its children
abbrev pub Exact : (G : ℕ) → Forest ℤ → Type 0
Exact G end = Unit {0}
Exact G (leaf n w u rest) = Exact G rest
Exact G (inner n w k under rest) =
    (is_chance k ≡ true → pos (total (shares G under)) *ℤ value k (shares G under) ≡ weighted (shares G under)) × Exact G under × Exact G rest
