-- `turn::turned_head` meets its contract.
use native.Mathlib.Omega.{arith}
use Rattle.field.proofs.Bits.{neg-fits, neg-back}
use Rattle.turn.proofs.turned_head.Goals as goal

pub overflow_sub-result : goal.overflow_sub-result
overflow_sub-result c = neg-fits c.args.h.highest (omega (arith, c.requires.highest))

pub overflow_sub-result-2 : goal.overflow_sub-result-2
overflow_sub-result-2 c = neg-fits c.args.h.lowest (omega (arith, c.requires.lowest))

pub returns : goal.returns
returns c =
    let h = c.args.h in
    let lowest = neg-back h.highest (omega (arith, c.requires.highest)) in
    let highest = neg-back h.lowest (omega (arith, c.requires.lowest)) in
    λ j. record { total = h.total; second = h.second; lowest = lowest j; highest = highest j }
