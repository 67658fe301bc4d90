-- `worth::worth_under` meets its contract.
use Prim.Native.Nat.{◌-◌}
use Rattle.line.specs.Line.{code}
use Rattle.table.specs.Tree.{kind_of}
use Rattle.worth.specs.Inside.{beside_in}
use Rattle.worth.proofs.Run.{GoingAll}
use Rattle.worth.proofs.+worth_under.Given as goal

abbrev pub decreases-worth_under : goal.decreases-worth_under
decreases-worth_under l = l.e - l.c

abbrev pub invariant-loop-i : goal.invariant-loop-i
invariant-loop-i l = GoingAll (beside_in l.nodes) l.g (kind_of (code l.k)) l.c l.e l.run l.a l.total l.i

abbrev pub decreases-loop-i : goal.decreases-loop-i
decreases-loop-i l = l.e - l.i
