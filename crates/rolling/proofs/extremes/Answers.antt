use Rattle.std.proofs.Common.{◌≡◌, get_or, arith}
use Rattle.std.proofs.lemmas.Grind.{common_steps}
use Rattle.line.specs.Line.{code}
use Rattle.table.specs.Tree.{kind_of}
use Rattle.table.specs.Nodes.{stops_in}
use Rattle.rolling.proofs.Rows.{fold_start, fold-first, fold-turn, fold_end}
use Rattle.rolling.proofs.extremes.Goals as goal
use Rattle.rolling.proofs.extremes.Goals.{After-from-i-in-loop-i}

pub loop-i-init : goal.loop-i-init
loop-i-init c =
    let a = c.args in
    let stop : c.from-i.result ≡ get_or (stops_in a.nodes.now) a.c 0 = grind (arith, common_steps) in
    λ F r. (
      fold_start (kind_of (code a.kind)) (stops_in a.nodes.now) a.c a.e a.low.now F r c.requires.1 c.from-i.result stop,
      fold_start (kind_of (code a.kind)) (stops_in a.nodes.now) a.c a.e a.high.now F r c.requires.1 c.from-i.result stop,
    )

-- where the next child begins
stop : (c : After-from-i-in-loop-i) → c.from-i-in-loop-i.result ≡ get_or (stops_in c.args.nodes.now) c.loop-i.i 0
stop c = grind (arith, common_steps)

pub loop-i-smaller : goal.loop-i-smaller
loop-i-smaller c =
    let s = stop c in
    let R = c.requires.0 in
    omega (arith, (fold-first (c.loop-i.invariant R.nodes R.row).0 c.loop-i-test.true).below)

pub loop-i-preserved : goal.loop-i-preserved
loop-i-preserved c =
    let s = stop c in
    λ F r. (
      fold-turn (c.loop-i.invariant F r).0 c.loop-i-test.true c.join-l.result c.from-i-in-loop-i.result c.join-l.ensures s,
      fold-turn (c.loop-i.invariant F r).1 c.loop-i-test.true c.join-h.result c.from-i-in-loop-i.result c.join-h.ensures s,
    )

pub returns : goal.returns
returns c = (
  λ F r. fold_end (c.loop-i.invariant F r).0 c.loop-i-test.false,
  λ F r. fold_end (c.loop-i.invariant F r).1 c.loop-i-test.false,
)
