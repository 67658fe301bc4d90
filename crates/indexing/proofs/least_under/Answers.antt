use Rattle.std.proofs.Common.{◌≡◌, ◌+◌, ◌-◌, arith}
use Rattle.indexing.proofs.Least.{lessened-more}
use Rattle.indexing.proofs.least_under.Goals as goal

pub loop-i-preserved : goal.loop-i-preserved
loop-i-preserved c =
    let e : c.loop-i.i - 1 + 1 ≡ c.loop-i.i = omega arith in
    lessened-more _ _ _ _ c.loop-i.points (c.loop-i.i - 1) _ (rw e c.loop-i.invariant) (omega arith) c.own_least.ensures
