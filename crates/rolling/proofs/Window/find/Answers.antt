use Rattle.std.proofs.Common.{◌≡◌, ◌<◌, ◌-◌, sym, ◌∙◌, get_or, arith}
use Rattle.std.proofs.lemmas.Grind.{common_steps}
use Rattle.table.specs.Nodes.{stops_in}
use Rattle.rolling.specs.Inside.Contracts.{stored}
use Rattle.rolling.proofs.Rows.{seek-start, seek-within, seek-first, seek_found, seek-past, seek-less}
use Rattle.rolling.proofs.Window.find.Goals as goal
use Rattle.rolling.proofs.Window.find.Goals.{After-from-next}

pub loop-self-init : goal.loop-self-init
loop-self-init c =
    let a = c.args in
    let R = c.requires in
    let start = seek-start (stops_in a.nodes.now) a.c a.e a.self.alpha a.self.beta (stored a.low.now a.high.now) in
    (seek-within (start R.nodes a.j R.row R.some), λ F h l. start F a.j h l)

pub returns-then-left-eq0 : goal.returns-then-left-eq0
returns-then-left-eq0 c =
    λ F h l. seek_found (c.loop-self.invariant.1 F h l) (sym c.is_candidate.ensures ∙ c.if-is_candidate.true) c.if-left-eq0.true

-- where the next child begins
stop : (c : After-from-next) → c.from-next.result ≡ get_or (stops_in c.args.nodes.now) c.loop-self.i 0
stop c = grind (arith, common_steps)

-- it lies further on
further : (c : After-from-next) → c.args.e - c.from-next.result < c.args.e - c.loop-self.i
further c =
    let R = c.requires in
    let s = stop c in
    let after = seek-first (c.loop-self.invariant.1 R.nodes R.row R.some) in
    omega (arith, after.below)

pub loop-self-smaller-else-left-eq0 : goal.loop-self-smaller-else-left-eq0
loop-self-smaller-else-left-eq0 c = further (goal.at.loop-self-smaller-else-left-eq0 c).After-from-next

pub loop-self-smaller : goal.loop-self-smaller
loop-self-smaller c = further (goal.at.loop-self-smaller c).After-from-next

pub loop-self-preserved-else-left-eq0 : goal.loop-self-preserved-else-left-eq0
loop-self-preserved-else-left-eq0 c =
    let R = c.requires in
    let s = stop (goal.at.loop-self-preserved-else-left-eq0 c).After-from-next in
    let t = sym c.is_candidate.ensures ∙ c.if-is_candidate.true in
    let n = c.from-next.result in (
      seek-within (seek-less (c.loop-self.invariant.1 R.nodes R.row R.some) n s t c.if-left-eq0.false),
      λ F h l. seek-less (c.loop-self.invariant.1 F h l) n s t c.if-left-eq0.false,
    )

pub loop-self-preserved : goal.loop-self-preserved
loop-self-preserved c =
    let R = c.requires in
    let s = stop (goal.at.loop-self-preserved c).After-from-next in
    let t = sym c.is_candidate.ensures ∙ c.if-is_candidate.false in
    let n = c.from-next.result in
    (seek-within (seek-past (c.loop-self.invariant.1 R.nodes R.row R.some) n s t), λ F h l. seek-past (c.loop-self.invariant.1 F h l) n s t)
