-- `parsing::Path::new` meets its contract.
use mathlib.Core.Path.{refl}
use native.Mathlib.Omega.{arith}
use Rattle.std.proofs.lemmas.List.Elements.{All-replicate}
use Rattle.parsing.specs.Inside.{Rare}
use Rattle.parsing.proofs.Path.new.Goals as goal

pub invariant_of-result : goal.invariant_of-result
invariant_of-result c = (omega arith, refl, All-replicate Rare 64 _ (omega arith))
