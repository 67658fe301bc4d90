-- Test positions by recipe: the table of a seed, a branching number, a depth in plays, with dice or without. Document 02, Item 7.
use Rattle.std.specs.Prelude.{ℕ, zero, suc, ◌+◌, ◌-◌, ◌*◌, ◌/◌, ◌%◌, ◌^◌, Bool, false, ◌&&◌, cond, List, [], ◌∷◌, eqb, ℤ, pos}
use Rattle.line.specs.declared.Head.{Head}
use Rattle.line.specs.declared.Line.{Line}
use Rattle.line.specs.Line.{is_leaf}
use Rattle.table.specs.Tree.{Kind, MAX, MIN, CHANCE, Forest, end, leaf, inner}
use Rattle.table.specs.Table.{Table}
use Rattle.table.specs.Accepted.{flat}

-- ---- the leaves

-- "the next state s = (1,103,515,245 × s + 12,345) mod 2,147,483,648"
abbrev pub next_state : ℕ → ℕ
next_state s = (1103515245 * s + 12345) % 2147483648

-- the state after n leaves
unfoldable pub later : ℕ → ℕ → ℕ
later zero s = s
later (suc n) s = later n (next_state s)

-- "worth (s divided by 65,536, rounded down) mod 101"
abbrev pub points : ℕ → ℕ
points s = s / 65536 % 101

-- ---- the lines

-- with or without dice; a line's level is how many lines stand above it
module _ (dice : Bool) where
  -- how many lines stand above a leaf: "a depth in plays", and with dice "each play is a C", which is a line more
  abbrev pub levels : ℕ → ℕ
  levels depth = cond dice (2 * depth) depth

  -- "each play is a C": with dice every second line on a path
  abbrev pub chance_at : ℕ → Bool
  chance_at level = dice && eqb (level % 2) 1

  -- how many plays were made above a line
  abbrev pub plays : ℕ → ℕ
  plays level = cond dice (level / 2) level

  -- "M and N lines alternate by play, M at the root"
  abbrev pub kind_at : ℕ → Kind
  kind_at level = cond (chance_at level) CHANCE (cond (eqb (plays level % 2) 0) MAX MIN)

-- for the branching number b
module _ (b : ℕ) where
  -- "the C of play i gives its child i weight 4 × (b - 1) and each other child weight 1"; lines that stand under no C have none
  abbrev pub weight_of : Bool → ℕ → ℕ → ℕ
  weight_of under play child = cond under (cond (eqb child play) (4 * (b - 1)) 1) 0

  -- how many nodes a line is, with all under it, r lines above the leaves
  unfoldable pub nodes : ℕ → ℕ
  nodes zero = 1
  nodes (suc r) = 1 + b * nodes r

module _ (b : ℕ) (dice : Bool) where
  -- m lines with one parent, from the child number c on, each r lines above the leaves and b-fold below: "each line has b children", with dice an M or
  -- N line has "b plays, counted from 1", and each C "b children". `under` says whether their parent is a C, and `play` is the parent's own child number.
  -- The first is node i, and s is the state before its leaves; past a line with all under it the node number and the state have gone on by as many
  -- nodes and leaves as those are. That the leaves are then "in line order" is a theorem (proofs/Order.antt).
  unfoldable pub row : (r level : ℕ) (under : Bool) (play m c i s : ℕ) → Forest ℤ
  row zero level under play zero c i s = end
  row zero level under play (suc m) c i s =
      leaf i (weight_of b under play c) (pos (points (next_state s))) (row zero level under play m (suc c) (suc i) (next_state s))
  row (suc r) level under play zero c i s = end
  row (suc r) level under play (suc m) c i s =
      inner i (weight_of b under play c) (kind_at dice level) (row r (suc level) (chance_at dice level) c b 1 (suc i) s)
      (row (suc r) level under play m (suc c) (i + nodes b (suc r)) (later (b ^ suc r) s))

  -- "a C of T = 5 × (b - 1) ..; the header has this T at depth 0 too, and without dice T is 1", "ends 0 and 100"
  abbrev pub recipe_head : Head
  recipe_head = record { total = cond dice (5 * (b - 1)) 1; second = 0; lowest = pos 0; highest = pos 100 }

  -- the root, with all under it; "depth 0 is a lone leaf"
  abbrev pub recipe_tree : ℕ → ℕ → Forest ℤ
  recipe_tree seed depth = row (levels dice depth) 0 false 0 1 1 0 seed

  abbrev pub recipe_table : ℕ → ℕ → Table
  recipe_table seed depth = record { head = recipe_head; lines = flat 0 0 (recipe_tree seed depth) }

-- ---- "Leaves take the next state .., in line order"

-- the worths of n leaves after the state s
unfoldable pub worths : ℕ → ℕ → List ℤ
worths zero s = []
worths (suc n) s = pos (points (next_state s)) ∷ worths n (next_state s)

-- the leaves' utilities, line by line
unfoldable pub leaf_worths : List Line → List ℤ
leaf_worths [] = []
leaf_worths (l ∷ ls) = cond (is_leaf l.kind) (l.utility ∷ leaf_worths ls) (leaf_worths ls)
