-- The judge by the lines: what its code asks of them and of the slices beside them, and what it answers.
pub mod Heights
use Rattle.judge.specs.declared.Decision.{Decision}
use Rattle.judge.specs.declared.Side.{Side as Chooser}
use Rattle.judge.specs.declared.Side.TheVariants.{Max, Min}
use Rattle.line.specs.declared.Refusal.{Refusal}
use Rattle.std.specs.Prelude.{ℕ, ◌+◌, ◌*◌, ◌≤◌, ◌<◌, min, max, ◌≡◌, cond, List, [], ◌∷◌, map, eqb, count_by, length, get_or, drop, ℤ, pos, Err, None, Ok, Option, Result, Some}
use Rattle.std.specs.List.{fold, All}
use Rattle.line.specs.Refusal.{Verdict, refused, fine}
use Rattle.table.specs.Tree.{MAX, Forest}
use Rattle.table.specs.Accepted.{Rooted}
use Rattle.table.specs.Slices.{laid}
use Rattle.table.specs.declared.Play.{Play}
use Rattle.table.specs.Root.{Side, AtM, AtN, to_play, root_of, children, nodes, numbered, play_of}
use Rattle.scale.specs.declared.Scale.{Scale}
use Rattle.worth.specs.Worth.{Share}
use Rattle.worth.specs.Inside.Heights.{height_shares}
use Rattle.worth.specs.Inside.{Beside, Reach, Lays, OkScale, Fits, ReadyRun}
use Rattle.judge.specs.Judge.{Judgement, no_decision, judged}
use Rattle.judge.specs.Inside.Heights.{height_loss, forest_judge, Ahead}

abbrev pub side_of : Chooser → Side
side_of Max = AtM
side_of Min = AtN

-- who chooses at a root, by the number of its kind
abbrev pub chooser : ℕ → Option Chooser
chooser q = cond (eqb q 1) (Some Max) (cond (eqb q 2) (Some Min) None)

-- ---- the root's children by node number

-- the nodes from i on up to n, each the stop of the one before it
abbrev pub Chained : (S : List ℕ) (n i : ℕ) → List ℕ → Type 0
Chained S n i [] = i ≡ n
Chained S n i (m ∷ ms) = (m ≡ i) × (i < get_or S i 0) × Chained S n (get_or S i 0) ms

-- the root's children: the first is node 1
pub record Chain (S : List ℕ) (n : ℕ) : Type 0 where
  pub nodes : List ℕ
  pub chained : Chained S n 1 nodes
  pub room : n ≤ length S

-- r is the child of number i, or none where there is no such child
pub record Played (S : List ℕ) (n : ℕ) (i : ℤ) (r : Play) : Type 0 where
  pub by : (C : Chain S n) → r ≡ play_of (numbered i C.nodes)

-- ---- the worths of the root's children

-- the worths without the weights
abbrev pub heights_in : List (Share ℕ) → List ℕ
heights_in xs = map (λ (x : Share ℕ). x.worth) xs

-- the worths of nodes with one parent, first to last
abbrev pub worths_of : Scale → Forest ℕ → List ℕ
worths_of g f = heights_in (height_shares g.grain f)

-- the lines s from node i on are these nodes, and their worths fit
pub record Here (S : Beside) (g : Scale) (n : ℕ) (s : List ℕ) (i : ℕ) (f : Forest ℕ) : Type 0 where
  pub lays : Lays S i n (drop (25 * i) s) f
  pub fits : Fits g f

-- how long the lines and the slices are
pub record Room (S : Beside) (g : Scale) (n : ℕ) (s : List ℕ) : Type 0 where
  pub long : length s ≡ 25 * n
  pub room : Reach S n
  pub few : n ≤ 1024
  pub scale : OkScale g

-- the lines of a root with its children, and a list of this length, which holds as many worths
pub record Under (S : Beside) (g : Scale) (n : ℕ) (s : List ℕ) (length : ℕ) : Type 0 where
  pub nodes : Forest ℕ
  pub here : Here S g n s 1 nodes
  pub fits : Room S g n s
  pub place : n ≤ length

-- the worths stand at the list's front, and r is their number
abbrev pub Listed : Beside → Scale → ℕ → List ℕ → ℕ → (came left : List ℕ) → Type 0
Listed S g n s r came left =
    (U : Under S g n s (length came)) → (r ≡ length (worths_of g U.nodes)) × (left ≡ laid (worths_of g U.nodes) came)

-- ---- the best worth and those level with it

abbrev pub better : Side → ℕ → ℕ → ℕ
better AtM a h = max a h
better AtN a h = min a h

-- the best of a list
abbrev pub best_in : Side → List ℕ → ℕ
best_in s [] = 0
best_in s (h ∷ hs) = fold (better s) h hs

abbrev pub AllAhead : Side → ℕ → List ℕ → Type 0
AllAhead s best hs = All (λ h. Ahead s best h) hs

-- how many lose nothing
abbrev pub levels_in : Side → (best : ℕ) → List ℕ → ℕ
levels_in s best hs = count_by (λ h. eqb (height_loss s best h) 0) hs

-- ---- the judgement

-- what each answer means
abbrev pub judged_of : Option Decision → Judgement
judged_of None = no_decision
judged_of (Some d) = judged (pos d.loss) d.level

abbrev pub meant : Result (Option Decision) Refusal → Verdict Judgement
meant (Ok j) = fine (judged_of j)
meant (Err r) = refused r

-- the lines of one root with all under it
pub record WholeLines (S : Beside) (g : Scale) (n : ℕ) (s : List ℕ) : Type 0 where
  pub ready : ReadyRun S g MAX 0 n s
  pub rooted : Rooted ready.nodes

abbrev pub WellJudged : Beside → Scale → ℕ → List ℕ → ℤ → Result (Option Decision) Refusal → Type 0
WellJudged S g n s i r = (W : WholeLines S g n s) → meant r ≡ forest_judge g.grain W.ready.nodes i

-- the same of an M or N root with a choice
pub record Decided (S : Beside) (g : Scale) (n : ℕ) (s : List ℕ) (side : Side) : Type 0 where
  pub whole : WholeLines S g n s
  pub root : root_of whole.ready.nodes ≡ to_play side
  pub choice : 1 < length (nodes (children whole.ready.nodes))

abbrev pub WellDecided : Beside → Scale → ℕ → List ℕ → Side → ℤ → Result (Option Decision) Refusal → Type 0
WellDecided S g n s side i r = (D : Decided S g n s side) → meant r ≡ forest_judge g.grain D.whole.ready.nodes i
