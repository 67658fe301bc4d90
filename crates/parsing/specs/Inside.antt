-- What `header` and `node_line` promise to the crate `reading`, and what the contracts below them cite. No promise of a public call names these.
use Rattle.line.specs.declared.Refusal.{Refusal}
use Rattle.parsing.specs.declared.CodedStep.{CodedStep}
use Rattle.parsing.specs.declared.PlacedLine.{PlacedLine}
use Rattle.std.specs.Prelude.{ℕ, ◌≤◌, ◌<◌, cond, eqb, List, ◌∷◌, reverse, take, Err, None, Ok, Option, Result, Some}
use Rattle.line.specs.declared.Head.{Head}
use Rattle.line.specs.declared.Entry.{Entry}
use Rattle.line.specs.Refusal.{Verdict, refused, fine, unless}
use Rattle.line.specs.declared.Kind.{Kind}
use Rattle.line.specs.declared.Kind.TheVariants.{Leaf, Max, Min, Chance}
use Rattle.line.specs.declared.Step.{Step}
use Rattle.line.specs.Line.{Above, wrong, path, stepped, step_of, Placed, placed, late_checks}

abbrev pub head_shown : Result Head Refusal → Verdict Head
head_shown (Err r) = refused r
head_shown (Ok h) = fine h

-- of a path, from a node up to the root, the d steps nearest the root
abbrev pub lowest : ℕ → List Step → List Step
lowest d P = reverse (take d (reverse P))

module _ (P : List Step) where
  abbrev pub above_shown : Option ℕ → Above
  above_shown None = wrong
  above_shown (Some d) = path (lowest d P)

  abbrev pub placing_shown : Result PlacedLine Refusal → Verdict Placed
  placing_shown (Err r) = refused r
  placing_shown (Ok p) = fine (record { line = p.line; steps = step_of p.line ∷ lowest p.depth P })

-- node i, of the kind k, below the steps P of its parent, where only 10, 7 and 3 are left to check
abbrev pub placing_of : Head → ℕ → Kind → Entry → List Step → Verdict Placed
placing_of h i k e P = unless (late_checks h i k e P) (placed i k e (stepped i k P))

-- a step whose kind is a number: 2 stands for N, and so does every number from 4 on, which is neither a leaf's nor a C's
abbrev pub kind_on_path : ℕ → Kind
kind_on_path k = cond (eqb k 0) Leaf (cond (eqb k 1) Max (cond (eqb k 3) Chance Min))

abbrev pub step_coded : CodedStep → Step
step_coded s = record { node = s.node; kind = kind_on_path s.kind; chances = s.chances }

-- "at most four C on a path"
abbrev pub Rare : Step → Type 0
Rare s = s.chances ≤ 4

-- a depth that was found is at most d
abbrev pub Upto : ℕ → Option ℕ → Type 0
Upto d None = Unit {0}
Upto d (Some e) = e ≤ d

-- a line is below steps of the d, and its own step has room below them
abbrev pub Roomy : ℕ → Result PlacedLine Refusal → Type 0
Roomy d (Err r) = Unit {0}
Roomy d (Ok p) = (p.depth ≤ d) × (p.depth < 64) × (p.line.chances ≤ 4)
