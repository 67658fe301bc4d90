-- What the contracts of internal functions cite: rows of lines, stored in a lent buffer. No promise of a public call names these.
use Rattle.std.specs.Prelude.{ℕ, ◌+◌, ◌-◌, ◌*◌, ◌^◌, ◌≤◌, ◌<◌, ◌≡◌, Bool, cond, List, eqb, length, pos}
use Rattle.std.proofs.lemmas.List.Edits.{sets}
use Rattle.line.specs.declared.Kind.TheVariants.{Leaf}
use Rattle.line.specs.declared.Line.{Line}
use Rattle.table.specs.Tree.{line_kind}
use Rattle.table.specs.Accepted.{flat}
use Rattle.writing.specs.Text.{lines_text}
use Rattle.recipe.specs.declared.Place.{Place}
use Rattle.recipe.specs.declared.Siblings.{Siblings}
use Rattle.recipe.specs.Recipe.{next_state, later, points, levels, chance_at, kind_at, weight_of, nodes, row}

-- the children of a node that is child c of its parent
abbrev pub under_of : Bool → Siblings → ℕ → ℕ → Siblings
under_of dice y c node = record { left = y.left - 1; level = y.level + 1; parent = node; under = chance_at dice y.level; play = c }

-- the line of child c alone, and what comes after it; a line's text does not show how many C stand above it
abbrev pub first_line : ℕ → Bool → Siblings → ℕ → Place → Line
first_line b dice y c at =
    record {
      node = at.node;
      kind = cond (eqb y.left 0) Leaf (line_kind (kind_at dice y.level));
      parent = y.parent;
      weight = weight_of b y.under y.play c;
      utility = pos (cond (eqb y.left 0) (points (next_state at.state)) 0);
      chances = 0;
    }

abbrev pub after_first : Siblings → Place → Place
after_first y at = record { node = at.node + 1; state = cond (eqb y.left 0) (next_state at.state) at.state }

pub record LineReady (b : ℕ) (y : Siblings) (at : Place) (room : ℕ) : Type 0 where
  pub least : 2 ≤ b
  pub most : b ≤ 5
  pub parent : y.parent < 1024
  pub state : at.state < 2147483648
  pub few : at.node < 1024
  pub fits : 25 * at.node + 50 ≤ room

-- how many nodes m lines are, with all under them
abbrev pub size_of : ℕ → Siblings → ℕ → ℕ
size_of b y m = m * nodes b y.left

-- what it takes to write m lines from the child number c on, and all under them, in a buffer of `room` bytes
pub record RowReady (b : ℕ) (y : Siblings) (m c : ℕ) (at : Place) (room : ℕ) : Type 0 where
  pub least : 2 ≤ b
  pub most : b ≤ 5
  pub shallow : 0 < m → y.level + y.left ≤ 18
  pub numbers : m + c ≤ 6
  pub parent : y.parent < 1024
  pub state : at.state < 2147483648
  pub few : at.node + size_of b y m ≤ 1024
  pub fits : 25 * (at.node + size_of b y m) + 25 ≤ room

-- the text of those lines, under n C
abbrev pub row_text : ℕ → Bool → Siblings → ℕ → ℕ → Place → ℕ → List ℕ
row_text b dice y m c at n = lines_text (flat y.parent n (row b dice y.left y.level y.under y.play m c at.node at.state))

-- they are written, from the buffer d to the buffer e, and the next node is at q
pub record Rowed (b : ℕ) (dice : Bool) (y : Siblings) (m c : ℕ) (at : Place) (d e : List ℕ) (q : Place) : Type 0 where
  pub node : q.node ≡ at.node + size_of b y m
  pub state : q.state ≡ later (m * b ^ y.left) at.state
  pub text : (n : ℕ) → e ≡ sets d (25 * at.node + 25) (row_text b dice y m c at n)
  pub long : (n : ℕ) → length (row_text b dice y m c at n) ≡ 25 * size_of b y m

-- what it takes to write the table, of n nodes
pub record TableReady (seed b depth : ℕ) (dice : Bool) (n room : ℕ) : Type 0 where
  pub seed-small : seed < 2147483648
  pub least : 2 ≤ b
  pub most : b ≤ 5
  pub shallow : depth ≤ 9
  pub count : n ≡ nodes b (levels dice depth)
  pub few : n ≤ 1024
  pub fits : 25 * n + 25 ≤ room
