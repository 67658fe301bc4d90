use Rattle.std.proofs.Common.{◌≡◌, get_or, arith}
use Rattle.std.proofs.lemmas.Grind.{common_steps}
use Rattle.table.specs.Nodes.{stops_in}
use Rattle.indexing.proofs.Least.{least-none, least-later, least_more, least-done}
use Rattle.indexing.proofs.least_of.Goals as goal

pub loop-j-init : goal.loop-j-init
loop-j-init c = least-none (stops_in c.args.nodes.now) c.args.points.now c.args.c c.args.e

pub loop-j-smaller : goal.loop-j-smaller
loop-j-smaller c =
    let j : c.from-j.result ≡ get_or (stops_in c.args.nodes.now) c.loop-j.j 0 = grind (arith, common_steps) in
    omega (arith, j, least-later _ _ _ _ _ _ _ (c.loop-j.invariant c.requires.3) c.loop-j-test.true)

pub loop-j-preserved : goal.loop-j-preserved
loop-j-preserved c =
    let j : c.from-j.result ≡ get_or (stops_in c.args.nodes.now) c.loop-j.j 0 = grind (arith, common_steps) in
    λ R. rw (j, c.min-m.ensures) (least_more _ _ _ _ R _ _ (c.loop-j.invariant R) c.loop-j-test.true)

pub returns : goal.returns
returns c = λ R. least-done _ _ _ _ R _ _ (c.loop-j.invariant R) c.loop-j-test.false
