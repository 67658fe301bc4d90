-- The digits from column i on mean `n`, and `unit` is what a digit before them counts.
use Prim.Native.Nat.{◌-◌, ◌<◌, ◌^◌}
use mathlib.Core.Path.{◌≡◌}
use lib.ListN.{length, drop}
use Rattle.std.specs.Prelude.{Some}
use Rattle.field.specs.Field.{digits}
use Rattle.field.proofs.last_number.Given as goal

abbrev pub invariant-loop-i : goal.invariant-loop-i
invariant-loop-i l = (l.unit ≡ 10 ^ (length l.t - l.i)) × (l.n < l.unit) × (digits 0 (drop l.i l.t) ≡ Some l.n)
