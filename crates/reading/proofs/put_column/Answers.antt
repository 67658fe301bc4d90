use native.Mathlib.Omega.{arith}
use lib.Seq.{length-take-le}
use Rattle.reading.proofs.Top.{put_more, put_all}
use Rattle.reading.proofs.put_column.Goals as goal

pub loop-i-preserved : goal.loop-i-preserved
loop-i-preserved g c =
    let a = c.args in
    let n = c.min-n.result in
    let k = length-take-le n a.nodes.now (omega arith) in
    λ f h. rw (h _ _ c.column.ensures, c.loop-i.invariant f h) (put_more f a.nodes.now a.to.now n c.loop-i.i _ (omega arith) (omega arith) (omega arith))

pub returns : goal.returns
returns g c =
    let a = c.args in
    let k = length-take-le c.min-n.result a.nodes.now (omega arith) in
    λ f h. rw (c.loop-i.invariant f h) (put_all f a.nodes.now a.to.now c.loop-i.i (omega arith))
