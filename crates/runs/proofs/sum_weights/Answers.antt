use native.Mathlib.Omega.{arith}
use mathlib.Core.Path.{◌≡◌}
use lib.ListN.{get_or}
use Rattle.std.proofs.lemmas.Grind.{common_steps}
use Rattle.table.specs.Nodes.{weights_in}
use Rattle.runs.proofs.Scan.{summing-none, summing-later, summing-leaf, summing-more, summing-done}
use Rattle.runs.proofs.sum_weights.Goals as goal

pub loop-j-init : goal.loop-j-init
loop-j-init c = summing-none _ _ _ c.args.c c.args.e c.requires.1 c.requires.2

pub next_child-j-requires : goal.next_child-j-requires
next_child-j-requires c = let t = c.loop-j-test.true in (omega arith, omega arith, summing-leaf _ _ _ _ _ _ c.loop-j.j c.loop-j.invariant t)

pub loop-j-smaller : goal.loop-j-smaller
loop-j-smaller c =
    omega (arith, summing-later _ _ _ _ _ _ c.loop-j.j c.loop-j.invariant c.loop-j-test.true)

pub loop-j-preserved : goal.loop-j-preserved
loop-j-preserved c =
    let w : c.from-sum.result ≡ get_or (weights_in c.args.nodes.now) c.loop-j.j 0 = grind (arith, common_steps) in
    rw (c.next_child-j.ensures, w) (summing-more _ _ _ _ _ c.loop-j.sum c.loop-j.j c.loop-j.invariant c.loop-j-test.true (omega arith))

pub returns : goal.returns
returns c = summing-done _ _ _ c.args.c c.args.e c.loop-j.sum c.loop-j.j c.loop-j.invariant c.loop-j-test.false
