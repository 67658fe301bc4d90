-- `runs::run_end` meets its contract.
use Prim.Native.Nat.{◌+◌, ◌-◌, ◌≤◌, ◌<◌}
use mathlib.Core.Path.{◌≡◌}
use lib.ListN.{take, drop}
use Rattle.runs.specs.Inside.{reach, stop_in}
use Rattle.runs.proofs.run_end.Given as goal

abbrev pub invariant-loop-j : goal.invariant-loop-j
invariant-loop-j l =
    (l.i < l.j) × (l.j ≤ l.n) × (stop_in (take l.n l.up) l.i ≡ l.j + reach l.i (drop l.j (take l.n l.up)))

abbrev pub decreases-loop-j : goal.decreases-loop-j
decreases-loop-j l = l.n - l.j
