use Prim.Native.Nat.{◌+◌}
use mathlib.Core.Path.{refl, sym, ◌∙◌}
use native.Mathlib.Omega.{arith}
use lib.ListN.{length-set}
use Rattle.writing.proofs.Lines.{blank-stored, blanks-first, blanks-done}
use Rattle.writing.proofs.clear.Goals as goal

pub loop-i-init : goal.loop-i-init
loop-i-init c =
    (omega arith, refl, c.requires, blanks-first c.args.buffer.now c.args.at c.args.width)

pub loop-i-preserved : goal.loop-i-preserved
loop-i-preserved c =
    let l = c.loop-i in
    let a = c.args in (
      omega arith,
      length-set l.buffer (a.at + l.i) 32 ∙ l.invariant.1,
      l.invariant.2,
      l.invariant.3 ∙ blank-stored l.buffer a.at a.width l.i (omega arith),
    )

pub shape_of-buffer : goal.shape_of-buffer
shape_of-buffer c = c.loop-i.invariant.1

pub returns : goal.returns
returns c =
    let l = c.loop-i in
    let a = c.args in
    sym (l.invariant.3 ∙ blanks-done l.buffer a.at a.width l.i (omega arith))
