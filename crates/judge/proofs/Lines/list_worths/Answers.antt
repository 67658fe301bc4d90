use Rattle.std.proofs.Common.{arith, ◌≡◌, ◌+◌, ◌<◌, length, get_or, refl}
use Rattle.std.proofs.lemmas.Grind.{common_steps}
use Rattle.table.specs.Nodes.{stops_in}
use Rattle.worth.specs.Inside.{beside_in}
use Rattle.judge.specs.Inside.{Under}
use Rattle.judge.proofs.Run.{Child, part-ready, part-worth, list-start, list-child, list-turn, list-end}
use Rattle.judge.proofs.Lines.list_worths.Goals as goal
use Rattle.judge.proofs.Lines.list_worths.Goals.{After-from-e, After-worth_of}

pub loop-i-init : goal.loop-i-init
loop-i-init c = list-start _ _ _ _ _

-- the child at node i
child : (c : After-from-e)
    → let a = c.args.self in
    (U : Under (beside_in a.nodes.now) a.scale a.n a.text.now (length c.args.list.now))
    → Child (beside_in a.nodes.now) a.scale a.n a.text.now c.loop-i.i (c.loop-i.invariant U).rest
child c U = let l = c.loop-i in list-child _ _ _ _ c.args.list.now l.list l.m l.i U l.invariant c.loop-i-test.true

stop-is : (c : After-from-e) → c.from-e.result ≡ get_or (stops_in c.args.self.nodes.now) c.loop-i.i 0
stop-is c = grind (arith, common_steps)

pub slice_bounds-worth_of-count : goal.slice_bounds-worth_of-count
slice_bounds-worth_of-count c =
    let d = (goal.at.slice_bounds-worth_of-count c).After-from-e in
    omega (arith, stop-is d, (child d c.requires).later)

pub slice_bounds-worth_of-start : goal.slice_bounds-worth_of-start
slice_bounds-worth_of-start c =
    let d = (goal.at.slice_bounds-worth_of-start c).After-from-e in
    omega (arith, stop-is d, (child d c.requires).later)

pub slice_bounds-worth_of-end : goal.slice_bounds-worth_of-end
slice_bounds-worth_of-end c =
    let d = (goal.at.slice_bounds-worth_of-end c).After-from-e in
    omega (arith, stop-is d, (child d c.requires).within, c.requires.fits.long)

pub worth_of-requires : goal.worth_of-requires
worth_of-requires c =
    let d = (goal.at.worth_of-requires c).After-from-e in
    part-ready _ _ _ _ c.requires.fits _ _ (child d c.requires) _ (stop-is d)

-- the list has an entry m
entry : (c : After-from-e) → (c.loop-i.m < 1024) × (c.loop-i.m < length c.loop-i.list)
entry c =
    let U = c.requires in
    let L = c.loop-i.invariant U in
    (omega (arith, L.low, L.upto, U.fits.few), omega (arith, L.low, L.upto, U.place))

pub offset_bounds-list-m : goal.offset_bounds-list-m
offset_bounds-list-m c = let e = entry (goal.at.offset_bounds-list-m c).After-from-e in omega (arith, e.0)

pub bounds-list-m : goal.bounds-list-m
bounds-list-m c = (entry (goal.at.bounds-list-m c).After-from-e).1

pub overflow_add-m : goal.overflow_add-m
overflow_add-m c = let e = entry (goal.at.overflow_add-m c).After-from-e in omega (arith, e.0)

pub loop-i-smaller : goal.loop-i-smaller
loop-i-smaller c =
    let d = (goal.at.loop-i-smaller c).After-from-e in
    let k = child d c.requires in
    omega (arith, stop-is d, k.later, k.within)

pub loop-i-preserved : goal.loop-i-preserved
unfolding child
loop-i-preserved c U =
    let l = c.loop-i in
    let d = (goal.at.loop-i-preserved c).After-from-e in
    let worth = part-worth _ _ _ _ U.fits _ _ (child d U) _ (stop-is d) c.worth_of.result c.worth_of.ensures in
    list-turn _ _ _ _ c.args.list.now l.list l.m l.i U l.invariant c.loop-i-test.true c.worth_of.result (l.m + 1) c.from-e.result worth refl (stop-is d)

pub returns : goal.returns
returns c U = let l = c.loop-i in list-end _ _ _ _ c.args.list.now l.list l.m l.i U l.invariant c.loop-i-test.false
