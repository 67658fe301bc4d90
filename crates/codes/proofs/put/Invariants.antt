-- Writing the values from `i` on gives what writing all gives.
use mathlib.Core.Path.{◌≡◌}
use lib.ListN.{drop}
use Rattle.codes.specs.Numbers.{put}
use Rattle.codes.proofs.put.Given as goal

abbrev pub invariant-loop-i : goal.invariant-loop-i
invariant-loop-i g l = put l.i (drop l.i l.values) l.numbers ≡ put 0 l.values l.initial.numbers
