-- `judge::Lines::find_child` meets its contract.
use Rattle.std.proofs.Common.{◌-◌, ◌≤◌}
use Rattle.table.specs.Nodes.{stops_in}
use Rattle.judge.proofs.Walk.{WalkingAll}
use Rattle.judge.proofs.Lines.find_child.Given as goal

abbrev pub invariant-loop-i : goal.invariant-loop-i
invariant-loop-i l = (1 ≤ l.left) × WalkingAll (stops_in l.self.nodes.now) l.self.n l.initial.left l.left l.i

abbrev pub decreases-loop-i : goal.decreases-loop-i
decreases-loop-i l = l.self.n - l.i
