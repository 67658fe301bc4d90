-- `worth::worth_of` meets its contract.
use Rattle.std.proofs.Common.{arith}
use Rattle.std.proofs.lemmas.Grind.{common_steps}
use Rattle.worth.proofs.Run.{lays-le}
use Rattle.worth.proofs.Lone.{lone-worth}
use Rattle.worth.proofs.worth_of.Goals as goal

pub overflow_add-c : goal.overflow_add-c
overflow_add-c c = let R = c.requires in omega (arith, R.few, lays-le _ _ _ _ R.nodes R.lays)

pub returns-then-c-e : goal.returns-then-c-e
returns-then-c-e c R = lone-worth _ _ _ _ _ c.if-c-e.true R _ (grind (arith, common_steps))
