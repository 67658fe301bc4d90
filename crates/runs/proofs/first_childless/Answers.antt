-- `runs::first_childless` meets its contract.
use mathlib.Core.Path.{◌≡◌}
use mathlib.Core.Bool.{true, false}
use borrow.Author.Tests.{tests}
use Rattle.std.proofs.Common.{rules}
use Rattle.std.proofs.lemmas.Iterator.{first_from_Range}
use Rattle.table.specs.Nodes.{kinds_in, stops_in}
use Rattle.runs.specs.Inside.{bare_at}
use Rattle.runs.proofs.Scan.{first_is}
use Rattle.runs.proofs.first_childless.Goals as goal

pub returns-clause-first : goal.returns-clause-first
returns-clause-first c =
    let t = bare_at (kinds_in c.args.nodes.now) (stops_in c.args.nodes.now) in
    first_is t c.args.n c.find.result
    (first_from_Range _ _ _ _ (λ k. t k ≡ true) (λ k. t k ≡ false) c.find.ensures.ran (λ x q k. search (rules, tests)) (λ x q k. search (rules, tests)))
