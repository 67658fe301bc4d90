-- `rolling::Window::find` meets its contract.
use Rattle.std.proofs.Common.{ℕ, ◌-◌, ◌<◌}
use Rattle.table.specs.Tree.{Forest}
use Rattle.table.specs.Nodes.{stops_in}
use Rattle.rolling.specs.Inside.Lists.{candidates_s}
use Rattle.rolling.specs.Inside.Contracts.{stored, Siblings}
use Rattle.rolling.proofs.Rows.{Seeking}
use Rattle.rolling.proofs.Window.find.Given as goal

abbrev pub invariant-loop-self : goal.invariant-loop-self
invariant-loop-self l =
    (l.i < l.e)
    × ((F : Forest ℕ) → Siblings (stops_in l.nodes) l.c l.e F → l.j < candidates_s l.self.alpha l.self.beta F (stored l.low l.high)
    → Seeking (stops_in l.nodes) l.e l.self.alpha l.self.beta (stored l.low l.high) F l.j l.left l.i)

abbrev pub decreases-loop-self : goal.decreases-loop-self
decreases-loop-self l = l.e - l.i
