-- The worth by a run of lines: how the lines, and the slices beside them, hold nodes, and what the code computes with.
pub mod Heights
use Rattle.std.specs.Prelude.{ℕ, ◌+◌, ◌-◌, ◌*◌, ◌≤◌, ◌≡◌, true, false, List, [], ◌∷◌, length, get_or, take, drop}
use Rattle.line.specs.Line.{letter_code}
use Rattle.table.specs.Tree.{Kind, MAX, MIN, CHANCE, Forest, end, leaf, inner, code_of, is_chance, is_end, weigh}
use Rattle.table.specs.Accepted.{OkTotal, Filled, Totals}
use Rattle.table.specs.Inside.{taken}
use Rattle.table.specs.Nodes.{stops_in, weights_in, heights_in}
use Rattle.table.specs.declared.Node.{Node}
use Rattle.scale.specs.declared.Scale.{Scale}
use Rattle.worth.specs.Worth.{Share}
use Rattle.worth.specs.Inside.Heights.{height_value, height_shares, SmallWorths}

-- the number of the kind that a node line says
abbrev pub kind_in : List ℕ → ℕ
kind_in s = letter_code (get_or s 5 0)

-- the decoded slices that are read beside the lines, by node number: one past the run of each node, its weight, and a leaf's height
pub record Beside : Type 0 where
  pub stops : List ℕ
  pub weights : List ℕ
  pub heights : List ℕ

abbrev pub beside : (stops weights heights : List ℕ) → Beside
beside S W H = record { stops = S; weights = W; heights = H }

-- the same of nodes as the calls hold them
abbrev pub beside_in : List Node → Beside
beside_in ns = beside (stops_in ns) (weights_in ns) (heights_in ns)

-- each of them has the nodes before e
pub record Reach (S : Beside) (e : ℕ) : Type 0 where
  pub stops : e ≤ length S.stops
  pub weights : e ≤ length S.weights
  pub heights : e ≤ length S.heights

-- The lines s of the nodes from c up to e are these nodes with one parent.
unfoldable pub Lays : Beside → ℕ → ℕ → List ℕ → Forest ℕ → Type 0
Lays S c e s end = c ≡ e
Lays S c e s (leaf n w h rest) =
    (kind_in (take 25 s) ≡ 0)
    × (get_or S.stops c 0 ≡ c + 1)
    × (get_or S.weights c 0 ≡ w)
    × (get_or S.heights c 0 ≡ h)
    × Lays S (get_or S.stops c 0) e (drop (25 * (get_or S.stops c 0 - c)) s) rest
Lays S c e s (inner n w k under rest) =
    (kind_in (take 25 s) ≡ code_of k)
    × (get_or S.weights c 0 ≡ w)
    × Lays S (c + 1) (get_or S.stops c 0) (take (25 * (get_or S.stops c 0 - (c + 1))) (drop 25 s)) under
    × Lays S (get_or S.stops c 0) e (drop (25 * (get_or S.stops c 0 - c)) s) rest

unfoldable pub take_all : Kind → ℕ → List (Share ℕ) → ℕ
take_all k a [] = a
take_all k a (x ∷ xs) = take_all k (taken k a x.weight x.worth) xs

-- the numbers of an accepted table
pub record OkScale (g : Scale) : Type 0 where
  pub grain : g.grain ≤ 16777216
  pub top : g.top ≤ 35184372088832

-- nodes whose worths fit
pub record Fits (g : Scale) (f : Forest ℕ) : Type 0 where
  pub filled : Filled f
  pub small : SmallWorths g.grain g.top f
  pub totals : Totals OkTotal f

-- a run of lines that can be judged: the children of a node of the kind k
pub record ReadyRun (S : Beside) (g : Scale) (k : Kind) (c e : ℕ) (s : List ℕ) : Type 0 where
  pub nodes : Forest ℕ
  pub lays : Lays S c e s nodes
  pub fits : Fits g nodes
  pub total : is_chance k ≡ true → OkTotal (weigh nodes)
  pub some : is_end nodes ≡ false
  pub long : length s ≡ 25 * (e - c)
  pub room : Reach S e
  pub few : e ≤ 1024
  pub scale : OkScale g

-- what the nodes of a run that can be judged are worth to their parent
abbrev pub Worthy : Beside → Scale → Kind → ℕ → ℕ → List ℕ → ℕ → Type 0
Worthy S g k c e s r = (R : ReadyRun S g k c e s) → r ≡ height_value k (height_shares g.grain R.nodes)
