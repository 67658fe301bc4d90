-- `indexing::own_least` meets its contract.
use Rattle.std.proofs.Common.{◌≡◌, get_or, arith}
use Rattle.std.proofs.lemmas.Grind.{common_steps}
use Rattle.table.specs.Inside.{slices}
use Rattle.table.specs.Nodes.{kinds_in, stops_in}
use Rattle.runs.proofs.Scan.{spans-under}
use Rattle.indexing.proofs.own_least.Goals as goal

pub least_of-requires : goal.least_of-requires
least_of-requires c =
    let a = c.args in
    let t = c.requires.4 in
    let k : get_or (kinds_in a.nodes.now) a.i 0 ≡ 0 → ⊥ = grind (arith, common_steps) in
    let s : c.from.result ≡ get_or (stops_in a.nodes.now) a.i 0 = grind (arith, common_steps) in
    let u = spans-under (slices (kinds_in a.nodes.now) (stops_in a.nodes.now) t.weights t.heights) 0 a.n t.forest t.spans a.i (omega arith) c.requires.0 k in
    rw s (
      omega (arith, u.within),
      omega (arith, u.within),
      omega (arith, u.within),
      record { kinds = kinds_in a.nodes.now; weights = t.weights; heights = t.heights; forest = u.forest; spans = u.spans },
    )

pub returns-in_default : goal.returns-in_default
returns-in_default c =
    let a = c.args in
    let k : get_or (kinds_in a.nodes.now) a.i 0 ≡ 0 → ⊥ = grind (arith, common_steps) in
    let s : c.from.result ≡ get_or (stops_in a.nodes.now) a.i 0 = grind (arith, common_steps) in
    (λ z. absurd (k z), λ z. rw s at c.least_of.ensures)
