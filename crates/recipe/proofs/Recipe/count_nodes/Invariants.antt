-- `recipe::Recipe::count_nodes` meets its contract.
use mathlib.Core.Path.{◌≡◌}
use Rattle.recipe.specs.Recipe.{nodes}
use Rattle.recipe.proofs.Recipe.count_nodes.Given as goal

abbrev pub invariant-loop : goal.invariant-loop
invariant-loop l = l.n ≡ nodes l.self.b l.counter
