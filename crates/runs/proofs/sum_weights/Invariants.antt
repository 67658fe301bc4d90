-- `runs::sum_weights` meets its contract.
use Prim.Native.Nat.{◌-◌}
use Rattle.table.specs.Nodes.{kinds_in, stops_in, weights_in}
use Rattle.runs.proofs.Scan.{Summing}
use Rattle.runs.proofs.sum_weights.Given as goal

abbrev pub invariant-loop-j : goal.invariant-loop-j
invariant-loop-j l = Summing (kinds_in l.nodes) (stops_in l.nodes) (weights_in l.nodes) l.c l.e l.sum l.j

abbrev pub decreases-loop-j : goal.decreases-loop-j
decreases-loop-j l = l.e - l.j
