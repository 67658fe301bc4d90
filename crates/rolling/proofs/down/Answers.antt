use Rattle.std.proofs.Common.{ℕ, ◌+◌, ◌≡◌, refl, get_or, set, drop, length-set, arith}
use Rattle.std.proofs.lemmas.Grind.{common_steps}
use Rattle.line.proofs.KindTests.{leaf_same}
use Rattle.table.specs.Nodes.{kinds_in, stops_in}
use Rattle.rolling.specs.Inside.Lists.{walk_s}
use Rattle.rolling.specs.Inside.Contracts.{stored}
use Rattle.rolling.proofs.Walks.{Own, Choosing, inner-more, inner-choice}
use Rattle.rolling.proofs.Paths.{Descent, descent-begin, descent-within, descent-end, descent-later, descent-turn}
use Rattle.rolling.proofs.down.Invariants.{Going}
use Rattle.rolling.proofs.down.Goals as goal
use Rattle.rolling.proofs.down.Goals.{After-loop-w, After-from-e, After-find-c}

pub loop-w-init : goal.loop-w-init
loop-w-init c =
    let a = c.args in
    (refl, descent-within (descent-begin a.policy.now a.path.now a.used c.requires.ready), λ H G R. descent-begin a.policy.now a.path.now a.used R)

inside : (c : After-from-e) → get_or (kinds_in c.args.nodes.now) c.loop-w.c 0 ≡ 0 → ⊥
inside c = grind (arith, common_steps, leaf_same)

own : (c : After-from-e)
    → let a = c.args in
    let l = c.loop-w in
    let w = c.met-w.result in
    Own (kinds_in a.nodes.now) (stops_in a.nodes.now) (stored a.low.now a.high.now) l.c l.w.alpha l.w.beta c.from-e.result w.alpha w.beta
own c = record { inside = inside c; stop = grind (arith, common_steps); alpha = c.met-w.ensures.0; beta = c.met-w.ensures.1 }

leaf : (c : After-loop-w) → get_or (kinds_in c.args.nodes.now) c.loop-w.c 0 ≡ 0
leaf c = grind (arith, common_steps, leaf_same)

pub returns : goal.returns
returns c =
    λ H G R. descent-end (c.loop-w.invariant.2 H G R) (omega arith) (leaf c)

-- what holds at each turn, of the heights and the grain that make the table ready
descent : (c : After-from-e)
    → let a = c.args in
    let l = c.loop-w in
    let p = c.requires in
    let st = stored a.low.now a.high.now in
    Descent (kinds_in a.nodes.now) (stops_in a.nodes.now) p.heights p.grain p.ready.upto
    (walk_s p.grain a.window.alpha a.window.beta 0 (drop a.used a.policy.now) p.ready.nodes st) st a.policy.now l.path l.c l.depth l.at l.w.alpha l.w.beta
descent c = let p = c.requires in c.loop-w.invariant.2 p.heights p.grain p.ready

pub choice-j-requires : goal.choice-j-requires
choice-j-requires c = inner-more (descent c).ready (own c)

pub find-c-requires : goal.find-c-requires
find-c-requires c =
    let s = (goal.at.find-c-requires c).After-from-e in
    inner-choice (descent s).ready (own s) (drop c.loop-w.at c.args.policy.now) c.choice-j.result c.choice-j.ensures

-- where the child was found
choosing : (c : After-find-c)
    → let a = c.args in
    let w = c.met-w.result in
    Choosing (stops_in a.nodes.now) c.loop-w.c c.from-e.result w.alpha w.beta (stored a.low.now a.high.now) (drop c.loop-w.at a.policy.now) c.choice-j.result c.find-c.result
choosing c = record { named = c.choice-j.ensures; found = c.find-c.ensures }

pub loop-w-smaller : goal.loop-w-smaller
loop-w-smaller c =
    let s = (goal.at.loop-w-smaller c).After-from-e in
    let f = (goal.at.loop-w-smaller c).After-find-c in
    omega (arith, descent-later (descent s) (own s) (choosing f))

pub loop-w-preserved : goal.loop-w-preserved
loop-w-preserved c =
    let a = c.args in
    let p = c.requires in
    let w = c.met-w.result in
    let s = (goal.at.loop-w-preserved c).After-from-e in
    let f = (goal.at.loop-w-preserved c).After-find-c in
    let on : Going (kinds_in a.nodes.now) (stops_in a.nodes.now) a.window.alpha a.window.beta (stored a.low.now a.high.now) a.policy.now
    (set c.loop-w.path c.loop-w.depth c.loop-w.c) a.used c.find-c.result (c.loop-w.depth + 1) c.consume-at.result w.alpha w.beta
    = λ H G R. descent-turn (c.loop-w.invariant.2 H G R) (own s) (choosing f) (omega arith) c.consume-at.result c.consume-at.ensures in
    (omega (arith, length-set {A = ℕ}), descent-within (on p.heights p.grain p.ready), on)
