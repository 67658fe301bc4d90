-- `rollout_call::fill` meets its contract: the first i records have the bounds.
use Rattle.std.proofs.Common.{ℕ, ◌≡◌, ◌<◌, get_or}
use Rattle.rollout_call.proofs.Filling.{none, bounds_at}
use Rattle.rollout_call.proofs.fill.Given as goal

abbrev pub invariant-loop-i : goal.invariant-loop-i
invariant-loop-i l = (k : ℕ) → k < l.i → get_or l.record-items k none ≡ bounds_at l.base l.low l.high k
