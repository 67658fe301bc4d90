-- `indexing::same_ends` meets its contract.
use Rattle.std.proofs.Common.{ℕ, ◌≡◌, false, leb, sym, ◌∙◌, length, get_or, map, rules, arith}
use Rattle.std.proofs.lemmas.Grind.{common_steps}
use Rattle.std.proofs.lemmas.Iterator.{YieldsList-from_range}
use Rattle.std.proofs.lemmas.Iterator.Search.{all_from_yields_List}
use borrow.Author.Tests.{tests}
use Rattle.indexing.specs.Inside.{end_from}
use Rattle.indexing.proofs.Entries.{agrees-short, agrees-tested, same_at}
use Rattle.indexing.proofs.same_ends.Goals as goal

pub returns-then-n-list : goal.returns-then-n-list
returns-then-n-list g c =
    let a = c.args in
    let kinds = map g.T.Kinded.kind_number a.nodes.now in
    let f = λ (i : ℕ). end_from a.base (get_or a.points.now i 0) in
    all_from_yields_List (same_at kinds f a.list.now) _ _ c.all.result c.all.ensures.ran (YieldsList-from_range 0 a.n a.n (cc) (search rules))
    (λ x b q k. (search (rules, tests) depth 9, search (rules, tests) depth 9))
    ∙ agrees-tested kinds f 0 a.n a.list.now (omega arith)

pub returns-else-n-list : goal.returns-else-n-list
returns-else-n-list g c =
    let a = c.args in
    let l : leb a.n (length a.list.now) ≡ false = grind (arith, common_steps) in
    l ∙ sym (agrees-short (map g.T.Kinded.kind_number a.nodes.now) (λ (i : ℕ). end_from a.base (get_or a.points.now i 0)) 0 a.n a.list.now c.if-n-list.false)
