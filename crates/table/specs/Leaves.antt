-- The leaves of a tree, and lists of them in which none stands twice.
use Rattle.std.specs.Prelude.{ℕ, ◌≡◌, List, [], ◌∷◌, ◌++◌}
use Rattle.table.specs.Tree.{Forest, end, leaf, inner}

-- the node numbers of the leaves, in line order
unfoldable pub leaf_nodes : {A : Type 0} → Forest A → List ℕ
leaf_nodes end = []
leaf_nodes (leaf n w v rest) = n ∷ leaf_nodes rest
leaf_nodes (inner n w k under rest) = leaf_nodes under ++ leaf_nodes rest

-- the second list is the first without one n
pub data Drops (n : ℕ) : List ℕ → List ℕ → Type 0 where
  now : {l : List ℕ} → Drops n (n ∷ l) l
  later : {a : ℕ} {l m : List ℕ} → Drops n l m → Drops n (a ∷ l) (a ∷ m)

-- the second list is picked out of the first, each entry at most once, in any sequence
pub data Picks : List ℕ → List ℕ → Type 0 where
  nothing : {l : List ℕ} → Picks l []
  this : {n : ℕ} {l m r : List ℕ} → Drops n l m → Picks m r → Picks l (n ∷ r)

-- n is not in the list
abbrev pub Lacks : ℕ → List ℕ → Type 0
Lacks n [] = Unit {0}
Lacks n (a ∷ l) = (n ≡ a → ⊥) × Lacks n l

-- no number stands twice in the list
abbrev pub Distinct : List ℕ → Type 0
Distinct [] = Unit {0}
Distinct (a ∷ l) = Lacks a l × Distinct l
