-- Which leaves are read: each once. Document 01, 'Rollouts': "The leaf reached is read".
use Rattle.std.specs.Prelude.{ℕ, List, [], ◌∷◌, ◌++◌}
use Rattle.table.specs.Tree.{Forest}
use Rattle.table.specs.Leaves.{leaf_nodes, Picks, Distinct}

-- m is a leaf of the tree and not among the leaves l that were read
abbrev pub NewLeaf : {A : Type 0} → Forest A → List ℕ → ℕ → Type 0
NewLeaf f l m = Picks (leaf_nodes f) (l ++ (m ∷ [])) × Distinct (l ++ (m ∷ []))
