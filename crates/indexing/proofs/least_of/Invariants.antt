-- `indexing::least_of` meets its contract.
use Rattle.std.proofs.Common.{◌-◌}
use Rattle.table.specs.Nodes.{stops_in}
use Rattle.indexing.specs.Inside.{Run}
use Rattle.indexing.proofs.Least.{Least}
use Rattle.indexing.proofs.least_of.Given as goal

abbrev pub invariant-loop-j : goal.invariant-loop-j
invariant-loop-j l = (R : Run (stops_in l.nodes) l.c l.e) → Least (stops_in l.nodes) l.points l.c l.e l.m l.j R

abbrev pub decreases-loop-j : goal.decreases-loop-j
decreases-loop-j l = l.e - l.j
