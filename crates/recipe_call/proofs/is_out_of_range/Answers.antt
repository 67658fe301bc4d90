-- `recipe_call::is_out_of_range` meets its contract. The check finds this alone, but near its limit.
use borrow.Author.Rules.{rules}
use Rattle.recipe_call.proofs.is_out_of_range.Goals as goal

pub returns : goal.returns
returns c = search rules
