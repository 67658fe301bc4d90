use Rattle.std.proofs.Common.{◌≤◌, ◌<◌, ◌∙◌, arith}
use Rattle.std.proofs.lemmas.Grind.{common_steps}
use Rattle.table.specs.Nodes.{kinds_in, stops_in, heights_in}
use Rattle.indexing.proofs.Ended.{ended}
use Rattle.indexing.proofs.own_ends.Goals as goal

pub overflow_sub-drop : goal.overflow_sub-drop
overflow_sub-drop c =
    let l : c.loop-i.i < c.args.n = grind (arith, common_steps) in
    grind (arith, common_steps, c.requires.4 c.loop-i.i l)

pub returns : goal.returns
returns c =
    let a = c.args in
    let d = c.least_under.ensures in
    let h = c.least_under-2.ensures in
    let v = c.loop-i.invariant in
    let e : a.n ≤ c.loop-i.i = grind (arith, common_steps, c.loop-i-test.false) in (
      h.0 ∙ c.loop-i.auto.rise,
      d.0 ∙ c.loop-i.auto.drop,
      λ R. ended (kinds_in a.nodes.now) (stops_in a.nodes.now) R.weights (heights_in a.nodes.now) c.loop-i.drop c.least_under-2.new.points c.least_under.new.points
          a.n a.span (omega arith) (λ j l. v.1 j (omega arith))
          (λ j l. ((λ z. (h.1 j l).0 z ∙ v.0 j (omega arith)), (h.1 j l).1)) d.1 R.forest c.requires.4 R.spans R.filled,
    )
