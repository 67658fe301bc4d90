-- `abi::margin_rollout` meets its contract.
use mathlib.Core.Path.{sym, subst}
use lib.ListN.{length}
use Rattle.codes.specs.Inside.{SmallRolled}
use Rattle.abi.proofs.Answers.{rolled-small}
use Rattle.abi.proofs.margin_rollout.Goals as goal

pub put_rolled-requires : goal.put_rolled-requires
put_rolled-requires c =
    let a = c.args in
    subst SmallRolled (sym c.rollouts.ensures.answers) (rolled-small a.text.now a.policy.now (length a.leaves.now) (length a.store.now))
