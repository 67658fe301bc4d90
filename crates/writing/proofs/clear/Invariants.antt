-- `writing::clear` meets its contract. The loop's invariant: storing the blanks still to come gives what storing all of them gives.
use Prim.Native.Nat.{◌+◌, ◌-◌, ◌≤◌}
use mathlib.Core.Path.{◌≡◌}
use lib.ListN.{length, replicate}
use lib.Seq.{sets}
use Rattle.writing.proofs.clear.Given as goal

abbrev pub invariant-loop-i : goal.invariant-loop-i
invariant-loop-i l =
    (l.i ≤ l.width)
    × (length l.buffer ≡ length l.initial.buffer)
    × (l.at + l.width ≤ length l.initial.buffer)
    × (sets l.initial.buffer l.at (replicate l.width 32) ≡ sets l.buffer (l.at + l.i) (replicate (l.width - l.i) 32))
