-- `judge::Lines::list_worths` meets its contract.
use Rattle.std.proofs.Common.{◌-◌}
use Rattle.worth.specs.Inside.{beside_in}
use Rattle.judge.proofs.Run.{ListingAll}
use Rattle.judge.proofs.Lines.list_worths.Given as goal

abbrev pub invariant-loop-i : goal.invariant-loop-i
invariant-loop-i l = ListingAll (beside_in l.self.nodes.now) l.self.scale l.self.n l.self.text.now l.initial.list l.list l.m l.i

abbrev pub decreases-loop-i : goal.decreases-loop-i
decreases-loop-i l = l.self.n - l.i
