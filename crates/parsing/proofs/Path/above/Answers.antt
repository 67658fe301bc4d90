-- `parsing::Path::above` meets its contract.
use mathlib.Core.Path.{◌≡◌, ap, ◌∙◌}
use native.Mathlib.Omega.{arith}
use borrow.Author.Rules.{rules}
use lib.ListN.{length, length-take}
use mir.Syntax.{w64}
use mir.Val.{to_z, of_z}
use Rattle.std.proofs.lemmas.List.{length-reverse}
use Rattle.parsing.proofs.Steps.{above-filled, above-number}
use Rattle.parsing.proofs.Path.above.Goals as goal

pub returns-in-Number-clause-shown : goal.returns-in-Number-clause-shown
returns-in-Number-clause-shown c =
    let z = c.in-Number.z in
    let back : to_z w64 (of_z w64 z) ≡ z = search rules in
    rw c.in-Number.is
    (c.climb.ensures.shown ∙ rw (c.unsigned_abs.ensures.value, back) (above-number z _ (rw back at c.if-z-ge0.true)))

pub returns-in_default-clause-shown : goal.returns-in_default-clause-shown
returns-in_default-clause-shown c =
    let p = c.self.inside in
    let n = simp (length-reverse, length-take) at (ap length c.self.view_is) in
    rw c.in-Blank.is (above-filled _ (λ e. c.if-self-eq0.false (omega (arith, n, e))))
