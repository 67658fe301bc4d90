-- `indexing::least_under` meets its contract.
use Rattle.table.specs.Nodes.{kinds_in, stops_in}
use Rattle.indexing.proofs.Least.{Lessened}
use Rattle.indexing.proofs.least_under.Given as goal

abbrev pub invariant-loop-i : goal.invariant-loop-i
invariant-loop-i l =
    Lessened (kinds_in l.nodes) (stops_in l.nodes) l.initial.points l.n l.points l.i
