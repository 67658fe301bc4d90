-- The chain counts the lines of root children after the root's.
use Rattle.std.proofs.Common.{◌∙◌, ◌+◌, ◌-◌, ◌*◌, arith, rules}
use borrow.Author.Tests.{tests}
use Rattle.std.proofs.lemmas.Iterator.Consumers.{YieldsList-from_filter, count_from_yields_List}
use Rattle.printing.proofs.Marks.{is_child, node-road, marks-counted}
use Rattle.printing.proofs.child_marks.Goals as goal

pub returns : goal.returns
returns c =
    let s = c.args.lines.now in
    let n = c.args.node in
    count_from_yields_List c.filter.result _ c.count.ensures.ran
    (YieldsList-from_filter _ is_child (node-road n (25 * n + 25 - 25) s (cc) (cc) (omega arith) c.requires.0) c.filter.ensures.closure (λ x r q k. search (rules, tests)))
    ∙ marks-counted s n
