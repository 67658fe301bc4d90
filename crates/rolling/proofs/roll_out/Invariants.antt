-- `rolling::roll_out` meets its contract.
use Rattle.std.proofs.Common.{◌-◌, ◌≡◌, ◌<◌, length}
use Rattle.table.specs.Nodes.{kinds_in, stops_in, heights_in}
use Rattle.rolling.specs.Inside.Contracts.{stored, ReadyRoll}
use Rattle.rolling.proofs.Looped.{Rolling}
use Rattle.rolling.proofs.roll_out.Given as goal

abbrev pub invariant-loop-path : goal.invariant-loop-path
invariant-loop-path l =
    (length l.path ≡ 1024)
    × (0 < l.n)
    × ((R : ReadyRoll (kinds_in l.nodes) (stops_in l.nodes) (heights_in l.nodes) l.grain l.n (stored l.initial.low l.initial.high) (length l.initial.leaves))
    → Rolling l.initial.leaves l.policy R l.used l.at (stored l.low l.high) l.leaves)

-- every walk reads a leaf, and there is room for them all
abbrev pub decreases-loop-path : goal.decreases-loop-path
decreases-loop-path l = length l.initial.leaves - l.used
