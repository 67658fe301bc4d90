-- `rolling::consume` meets its contract.
use Rattle.std.proofs.Common.{◌<◌, length, add-one, drop-cons}
use Rattle.rolling.proofs.consume.Goals as goal

pub returns-then-at-policy : goal.returns-then-at-policy
returns-then-at-policy c =
    let some : c.args.at < length c.args.policy.now = c.if-at-policy.true in
    rw (drop-cons c.args.policy.now c.args.at 0, add-one)
