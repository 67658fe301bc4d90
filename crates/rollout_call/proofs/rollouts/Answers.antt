-- `rollout_call::rollouts` meets its contract: what `fill` writes is what the call records.
use Rattle.std.proofs.Common.{◌≡◌, ◌∙◌, arith, to_z, of_z, w64}
use Rattle.std.proofs.lemmas.Int.{ints}
use Rattle.rollout_call.proofs.Filling.{filled-recorded}
use Rattle.rollout_call.proofs.rollouts.Goals as goal

pub returns-clause-store : goal.returns-clause-store
returns-clause-store c =
    let o = c.in_ok-o.o in
    let l = c.roll.new in
    let B = c.in_ok-o.ensures.store in
    let back : to_z w64 (of_z w64 o.base) ≡ o.base = omega (arith, ints, B.small) in
    rw back at c.fill.ensures ∙ filled-recorded _ o.base l.low l.high c.args.store.now o.nodes B.nodes B.lows-are B.highs-are
