-- `turn::turn_lines` meets its contract. The loop's invariant: storing the lines from i on gives what storing all of them gives.
use Prim.Native.Nat.{◌+◌, ◌-◌, ◌*◌, ◌≤◌}
use mathlib.Core.Path.{◌≡◌}
use lib.ListN.{length, drop}
use lib.Seq.{sets}
use Rattle.turn.specs.Inside.{turned_rows, RowsRoomy}
use Rattle.turn.proofs.turn_lines.Given as goal

abbrev pub invariant-loop-i : goal.invariant-loop-i
invariant-loop-i l =
    (l.i ≤ l.n)
    × (l.n ≤ 1024)
    × (25 * l.n + 25 ≤ length l.text)
    × (25 * l.n + 25 ≤ length l.initial.buffer)
    × (length l.buffer ≡ length l.initial.buffer)
    × RowsRoomy (l.n - l.i) (drop (25 * l.i + 25) l.text)
    × (sets l.initial.buffer 25 (turned_rows l.n (drop 25 l.text)) ≡ sets l.buffer (25 * l.i + 25) (turned_rows (l.n - l.i) (drop (25 * l.i + 25) l.text)))
