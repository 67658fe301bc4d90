use Prim.Native.Nat.{◌/◌}
use mathlib.Core.Path.{◌∙◌}
use native.Mathlib.Omega.{arith}
use lib.ListN.{length-set}
use Rattle.field.proofs.Bits.{back}
use Rattle.field.proofs.Writing.{rest, next-stored, finished}
use Rattle.field.proofs.write.Goals as goal

pub loop-i-preserved : goal.loop-i-preserved
loop-i-preserved c = (
  omega arith,
  omega arith,
  c.loop-i.invariant.2
      ∙ next-stored c.loop-i.dst c.args.at c.loop-i.i (omega arith) (omega (arith, simp length-set at c.loop-i.auto.dst)) (c.loop-i.n / 10) c.loop-i.negative (omega arith)
      ∙ rw c.column_mark.ensures,
)

pub returns : goal.returns
returns c =
    finished c.args.dst.now c.loop-i.dst c.args.at c.args.width c.loop-i.i c.args.z (rest c.loop-i.negative (c.loop-i.n / 10))
    c.requires.0 c.requires.1 (simp length-set at c.loop-i.auto.dst) (omega arith) (rw (back c.args.z (omega arith)) at c.loop-i.invariant.2)
