-- With what is left of the number right-justified in the columns that are left, the text is the same in each turn.
use Prim.Native.Nat.{◌≤◌, ◌<◌, ◌+◌, ◌/◌, ◌^◌}
use mathlib.Core.Path.{◌≡◌}
use Rattle.field.specs.Field.{text_of}
use Rattle.field.proofs.Writing.{over, rest}
use Rattle.field.proofs.write.Given as goal

abbrev pub invariant-loop-i : goal.invariant-loop-i
invariant-loop-i l =
    (l.at ≤ l.i)
    × (l.n < 10 ^ 15)
    × (over l.fn.dst l.at (l.at + l.width) (text_of l.fn.z) ≡ over l.dst l.at l.i (rest l.negative (l.n / 10)))
