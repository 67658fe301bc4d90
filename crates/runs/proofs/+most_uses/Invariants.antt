-- `runs::most_uses` meets its contract.
use Prim.Native.Nat.{◌-◌}
use Rattle.table.specs.Nodes.{kinds_in, stops_in, weights_in}
use Rattle.runs.proofs.Uses.{GoingAll}
use Rattle.runs.proofs.+most_uses.Given as goal

abbrev pub invariant-loop-i : goal.invariant-loop-i
invariant-loop-i l = GoingAll (kinds_in l.nodes) (stops_in l.nodes) (weights_in l.nodes) l.total l.c l.e l.most l.i

abbrev pub decreases-loop-i : goal.decreases-loop-i
decreases-loop-i l = l.e - l.i

-- the nodes that are left
abbrev pub decreases-most_uses : goal.decreases-most_uses
decreases-most_uses l = l.e - l.c
