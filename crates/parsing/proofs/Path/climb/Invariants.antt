-- `parsing::Path::climb` meets its contract.
use mathlib.Core.Path.{◌≡◌}
use mathlib.Core.List.{reverse}
use lib.ListN.{take}
use Rattle.line.specs.Line.{climb}
use Rattle.parsing.proofs.Path.climb.Given as goal

-- the parent is not among the steps from d on
abbrev pub invariant-loop-d : goal.invariant-loop-d
invariant-loop-d l =
    climb l.parent l.self ≡ climb l.parent (reverse (take l.d l.self-inside.steps))
