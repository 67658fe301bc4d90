-- `rolling::Window::count` meets its contract.
use Rattle.std.proofs.Common.{ℕ, ◌-◌, ◌≤◌}
use Rattle.table.specs.Tree.{Forest}
use Rattle.table.specs.Nodes.{stops_in}
use Rattle.rolling.specs.Inside.Contracts.{stored, Siblings}
use Rattle.rolling.proofs.Rows.{Counting}
use Rattle.rolling.proofs.Window.count.Given as goal

abbrev pub invariant-loop-i : goal.invariant-loop-i
invariant-loop-i l =
    (l.m ≤ l.i)
    × ((F : Forest ℕ) → Siblings (stops_in l.nodes) l.c l.e F → Counting (stops_in l.nodes) l.e l.self.alpha l.self.beta (stored l.low l.high) F l.m l.i)

abbrev pub decreases-loop-i : goal.decreases-loop-i
decreases-loop-i l = l.e - l.i
