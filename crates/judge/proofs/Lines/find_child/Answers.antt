use Rattle.std.proofs.Common.{arith, ◌≡◌, ℕ, List, get_or, refl, sym, ap, ◌∙◌}
use Rattle.std.proofs.lemmas.Grind.{common_steps}
use Rattle.line.proofs.Signs.{clip-nat}
use Rattle.table.specs.Nodes.{stops_in}
use Rattle.table.specs.Root.{numbered, play_of}
use Rattle.judge.proofs.Walk.{nth, numbered-nth, walk_start, walk-on, walk_turn, walk-found, walk_none}
use Rattle.judge.proofs.Lines.find_child.Goals as goal
use Rattle.judge.proofs.Lines.find_child.Goals.{After-from-i, After-unsigned_abs-left}

-- the number of the child, counted down
k-is : (c : After-unsigned_abs-left) (ns : List ℕ) → numbered c.args.number ns ≡ nth c.unsigned_abs-left.result ns
k-is c ns =
    numbered-nth c.args.number ns
    ∙ ap (λ (m : ℕ). nth m ns) (sym (clip-nat c.args.number _ _ c.ranges.number.sfits c.max.ensures.value c.unsigned_abs-left.ensures.value))

pub returns-then-left-eq0 : goal.returns-then-left-eq0
returns-then-left-eq0 c = record { by = λ C. sym (ap play_of (k-is (goal.at.returns-then-left-eq0 c).After-unsigned_abs-left C.nodes ∙ ap (λ (m : ℕ). nth m C.nodes) c.if-left-eq0.true)) }

pub loop-i-init : goal.loop-i-init
loop-i-init c = (omega (arith, c.if-left-eq0.false), walk_start _ _ _ _ refl)

pub returns-then-left-eq1 : goal.returns-then-left-eq1
returns-then-left-eq1 c =
    record { by = λ C. sym (ap play_of (k-is (goal.at.returns-then-left-eq1 c).After-unsigned_abs-left C.nodes ∙ walk-found _ _ _ _ _ _ (c.loop-i.invariant.1 C) c.loop-i-test.true c.if-left-eq1.true)) }

stop-is : (c : After-from-i) → c.from-i.result ≡ get_or (stops_in c.args.self.nodes.now) c.loop-i.i 0
stop-is c = grind (arith, common_steps)

pub loop-i-smaller : goal.loop-i-smaller
loop-i-smaller c =
    let w = walk-on _ _ _ _ _ _ (c.loop-i.invariant.1 c.requires) c.loop-i-test.true in
    omega (arith, stop-is c, w.later, w.within)

pub loop-i-preserved : goal.loop-i-preserved
loop-i-preserved c =
    let m = c.if-left-eq1.false in
    let some = c.loop-i.invariant.0 in
    (omega (arith, some, m), λ C. walk_turn _ _ _ _ _ _ (c.loop-i.invariant.1 C) _ _ c.loop-i-test.true some m refl (stop-is c))

pub returns : goal.returns
returns c =
    record { by = λ C. sym (ap play_of (k-is (goal.at.returns c).After-unsigned_abs-left C.nodes ∙ walk_none _ _ _ _ _ _ (c.loop-i.invariant.1 C) c.loop-i-test.false)) }
