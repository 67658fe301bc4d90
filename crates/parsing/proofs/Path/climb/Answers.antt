use Prim.Native.Nat.{◌+◌, ◌-◌}
use mathlib.Core.Path.{◌≡◌, sym, ◌∙◌}
use native.Mathlib.Omega.{arith}
use Rattle.line.proofs.KindTests.{leaf_same}
use Rattle.parsing.proofs.Steps.{lowest-taken, climb-leaf, climb-here, climb-on, climb-none}
use Rattle.parsing.proofs.Path.climb.Goals as goal

pub returns-then-eq-clause-shown : goal.returns-then-eq-clause-shown
returns-then-eq-clause-shown c =
    sym (c.loop-d.invariant ∙ climb-leaf _ c.self.inside.steps _ c.loop-d.d c.loop-d-test.true (omega arith) c.if-step-parent.true (sym (leaf_same _) ∙ sym c.eq.ensures ∙ c.if-eq.true))

pub returns-then-step-parent-clause-shown : goal.returns-then-step-parent-clause-shown
returns-then-step-parent-clause-shown c =
    let ss = c.self.inside.steps in
    let d = c.loop-d.d in
    let e : d - 1 + 1 ≡ d = omega arith in
    rw (e, ← c.self.view_is, lowest-taken ss d c.self.inside.depth (omega arith))
    (rw c.self.view_is (sym (c.loop-d.invariant ∙ climb-here _ ss _ d c.loop-d-test.true (omega arith) c.if-step-parent.true (sym (leaf_same _) ∙ sym c.eq.ensures ∙ c.if-eq.false))))

pub loop-d-preserved : goal.loop-d-preserved
loop-d-preserved c =
    c.loop-d.invariant ∙ climb-on _ c.self.inside.steps _ c.loop-d.d c.loop-d-test.true (omega arith) c.if-step-parent.false

pub returns-clause-shown : goal.returns-clause-shown
returns-clause-shown c = sym (c.loop-d.invariant ∙ climb-none _ c.loop-d.d _ (omega arith))
