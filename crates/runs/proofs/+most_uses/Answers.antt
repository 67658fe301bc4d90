use Prim.Native.Nat.{ℕ, ◌+◌}
use mathlib.Core.Path.{◌≡◌, sym}
use mathlib.Core.Bool.{◌&&◌}
use native.Mathlib.Omega.{arith}
use lib.Dec.{eqb}
use lib.ListN.{get_or}
use Rattle.std.proofs.lemmas.Grind.{common_steps}
use Rattle.field.proofs.Small.{one-or-none}
use Rattle.table.specs.Nodes.{kinds_in, stops_in, weights_in}
use Rattle.runs.specs.Inside.{Has, sum_at}
use Rattle.runs.proofs.Uses.{uses-small, First, going_start, next_of, has-under, going_on, going_end}
use Rattle.runs.proofs.+most_uses.Goals as goal
use Rattle.runs.proofs.+most_uses.Goals.{After-from-stop}

pub loop-i-init : goal.loop-i-init
loop-i-init t c = going_start _ _ _ c.args.total c.args.c c.args.e

stop-is : (t : ℕ) (c : After-from-stop t) → c.from-stop.result ≡ get_or (stops_in c.args.nodes.now) c.loop-i.i 0
stop-is t c = grind (arith, common_steps)

-- at a child: it, what is under it, and the children after it
next : (t : ℕ) (c : After-from-stop t)
    → let l = c.args.nodes.now in
    let R = c.requires.2 in
    First (kinds_in l) (stops_in l) (weights_in l) R.heights c.loop-i.i c.args.e (c.loop-i.invariant R).rest
next t c =
    let R = c.requires.2 in
    next_of _ _ _ c.args.total c.args.c c.args.e c.loop-i.most c.loop-i.i R (c.loop-i.invariant R) c.loop-i-test.true c.requires.1

under : (t : ℕ) (c : After-from-stop t)
    → let l = c.args.nodes.now in
    Has (kinds_in l) (stops_in l) (weights_in l) (c.loop-i.i + 1) c.from-stop.result
under t c =
    let R = c.requires.2 in
    has-under _ _ _ c.args.total c.args.c c.args.e c.loop-i.most c.loop-i.i R (c.loop-i.invariant R) c.loop-i-test.true c.requires.1 c.from-stop.result (stop-is t c)

pub use_at-here-requires : goal.use_at-here-requires
use_at-here-requires t c =
    let N = next t c in
    let s = stop-is t c in
    (omega (arith, N.later, s), omega (arith, N.within, s), omega (arith, N.within, s), sym s, under t c)

pub most_uses-under-requires : goal.most_uses-under-requires
most_uses-under-requires t c =
    let d = (goal.at.most_uses-under-requires t c).After-from-stop in
    let N = next t d in
    let s = stop-is t d in (
      omega (arith, c.decreases, N.later, N.within, s, (d.loop-i.invariant c.requires.2).from),
      (omega (arith, N.within, s), omega (arith, N.within, s), under t d),
    )

pub overflow_add-here : goal.overflow_add-here
overflow_add-here t c =
    let d = (goal.at.overflow_add-here t c).After-from-stop in
    let l = d.args.nodes.now in
    let i = d.loop-i.i in
    let U = under t d in
    omega (
      arith,
      c.most_uses-under.ensures U,
      uses-small _ _ _ U.heights d.args.total (i + 1) d.from-stop.result U.forest U.spans,
      c.use_at-here.ensures,
      one-or-none (eqb (get_or (kinds_in l) i 0) 3 && eqb (sum_at (stops_in l) (weights_in l) i) d.args.total),
      (next t d).within,
      stop-is t d,
    )

pub loop-i-smaller : goal.loop-i-smaller
loop-i-smaller t c =
    let d = (goal.at.loop-i-smaller t c).After-from-stop in
    omega (arith, (next t d).later, stop-is t d)

pub loop-i-preserved : goal.loop-i-preserved
loop-i-preserved t c =
    let d = (goal.at.loop-i-preserved t c).After-from-stop in
    λ R. going_on _ _ _ c.args.total c.args.c c.args.e c.loop-i.most c.loop-i.i R (c.loop-i.invariant R) c.loop-i-test.true c.requires.1
    c.from-stop.result c.use_at-here.result c.most_uses-under.result c.max-most.result (stop-is t d) c.use_at-here.ensures c.most_uses-under.ensures c.max-most.ensures

pub returns : goal.returns
returns t c = λ R. going_end _ _ _ c.args.total c.args.c c.args.e c.loop-i.most c.loop-i.i R (c.loop-i.invariant R) c.loop-i-test.false
