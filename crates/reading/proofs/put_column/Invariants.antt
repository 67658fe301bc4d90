-- The entries before `i` are those of the nodes.
use mathlib.Core.Path.{◌≡◌}
use mathlib.Core.List.{map}
use lib.ListN.{take}
use Rattle.table.specs.Slices.{laid}
use Rattle.reading.proofs.put_column.Given as goal

abbrev pub invariant-loop-i : goal.invariant-loop-i
invariant-loop-i g l = (f : _) → ((n : _) (r : _) → goal.F-post g l.column n r → r ≡ f n) → l.to ≡ laid (map f (take l.i l.nodes)) l.initial.to
