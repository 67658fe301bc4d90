use Rattle.std.proofs.Common.{◌≡◌, ◌<◌, ap, ◌∙◌, get_or, arith}
use Rattle.std.proofs.lemmas.Grind.{common_steps}
use mir.Val.{bool_byte}
use Rattle.table.specs.Nodes.{stops_in}
use Rattle.rolling.proofs.Rows.{one-most, count-first, count_turn, count-end}
use Rattle.rolling.proofs.Window.count.Goals as goal
use Rattle.rolling.proofs.Window.count.Goals.{After-from-i}

-- where the next child begins
stop : (c : After-from-i) → c.from-i.result ≡ get_or (stops_in c.args.nodes.now) c.loop-i.i 0
stop c = grind (arith, common_steps)

later : (c : After-from-i) → c.loop-i.i < c.from-i.result
later c =
    let R = c.requires.0 in
    omega (arith, stop c, (count-first (c.loop-i.invariant.1 R.nodes R.row) c.loop-i-test.true).below)

pub loop-i-smaller : goal.loop-i-smaller
loop-i-smaller c = omega (arith, later c)

pub loop-i-preserved : goal.loop-i-preserved
loop-i-preserved c = (
  omega (arith, one-most c.is_candidate.result, later c),
  λ F h. count_turn (c.loop-i.invariant.1 F h) c.loop-i-test.true c.from-m.result c.from-i.result (c.from-m.ensures ∙ ap bool_byte c.is_candidate.ensures) (stop c),
)

pub returns : goal.returns
returns c = λ F h. count-end (c.loop-i.invariant.1 F h) c.loop-i-test.false
