-- A table's root: who plays there, its children, and plays. Document 01, 'The search' and 'Judging and turning'; document 02, Item 2.
use Rattle.std.specs.Prelude.{ℕ, zero, suc, List, [], ◌∷◌, length, ℤ, pos, negsuc}
use Rattle.std.proofs.Math.Option.{Option, none, some}
use Rattle.std.proofs.Math.ListN.{get_elem?}
use Rattle.table.specs.Tree.{Kind, MAX, MIN, CHANCE, Forest, end, leaf, inner}
use Rattle.table.specs.Table.{Table, tree}
use Rattle.table.specs.declared.Play.{Play}
use Rattle.table.specs.declared.Play.TheVariants.{Child, NoPlay}

-- who plays at the roots at which there is a play: "At an M root it is .. at an N root .."
pub data Side : Type 0 where
  AtM AtN : Side

-- who is to play at a root, by its kind alone and whatever its children; nobody is "a C or L root"
pub data Root : Type 0 where
  nobody : Root
  to_play : Side → Root

abbrev pub side_of : Kind → Root
side_of MAX = to_play AtM
side_of MIN = to_play AtN
side_of CHANCE = nobody

module _ {A : Type 0} where
  -- of the first node, which is "node 0, the root", in a table's tree; every accepted table has one
  abbrev pub root_of : Forest A → Root
  root_of end = nobody
  root_of (leaf n w v rest) = nobody
  root_of (inner n w k under rest) = side_of k

  -- the children of the first node, first to last: "Child order is line order"
  abbrev pub children : Forest A → Forest A
  children end = end
  children (leaf n w v rest) = end
  children (inner n w k under rest) = under

  -- the node numbers of nodes with one parent
  unfoldable pub nodes : Forest A → List ℕ
  nodes end = []
  nodes (leaf n w v rest) = n ∷ nodes rest
  nodes (inner n w k under rest) = n ∷ nodes rest

  -- "the number, from 1, of the root child played": the entry of that number, if there is one
  abbrev pub numbered : ℤ → List A → Option A
  numbered (pos zero) xs = none
  numbered (pos (suc i)) xs = get_elem? xs i
  numbered (negsuc i) xs = none

-- "The play is either a root child or none": the node number of the root child of number i
abbrev pub child_node : Table → ℤ → Option ℕ
child_node t i = numbered i (nodes (children (tree t)))

-- how many children the root has. Document 02, Item 2: "a single child", "two children or more"
abbrev pub child_count : Table → ℕ
child_count t = length (nodes (children (tree t)))

-- "an answer with cases Child(node) and NoPlay"
abbrev pub play_of : Option ℕ → Play
play_of none = NoPlay
play_of (some n) = Child n

-- the node number of a play, 0 for none: the root is no play
abbrev pub node_number : Play → ℕ
node_number (Child n) = n
node_number NoPlay = 0
