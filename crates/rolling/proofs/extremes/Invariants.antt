-- `rolling::extremes` meets its contract.
use Rattle.std.proofs.Common.{ℕ, ◌-◌}
use Rattle.line.specs.Line.{code}
use Rattle.table.specs.Tree.{Forest, kind_of}
use Rattle.table.specs.Nodes.{stops_in}
use Rattle.rolling.specs.Inside.Contracts.{Siblings}
use Rattle.rolling.proofs.Rows.{Folding}
use Rattle.rolling.proofs.extremes.Given as goal

abbrev pub invariant-loop-i : goal.invariant-loop-i
invariant-loop-i l =
    (F : Forest ℕ) → Siblings (stops_in l.nodes) l.c l.e F
    → Folding (kind_of (code l.kind)) (stops_in l.nodes) l.e l.low F l.l l.i × Folding (kind_of (code l.kind)) (stops_in l.nodes) l.e l.high F l.h l.i

abbrev pub decreases-loop-i : goal.decreases-loop-i
decreases-loop-i l = l.e - l.i
