-- `rolling::up` meets its contract.
use Rattle.table.specs.Nodes.{kinds_in, stops_in}
use Rattle.rolling.specs.Inside.Contracts.{stored, Climb}
use Rattle.rolling.proofs.Paths.{Climbing}
use Rattle.rolling.proofs.up.Given as goal

abbrev pub invariant-loop-d : goal.invariant-loop-d
invariant-loop-d l =
    (C : Climb (kinds_in l.nodes) (stops_in l.nodes) l.path l.depth (stored l.initial.low l.initial.high)) → Climbing C l.d (stored l.low l.high)
