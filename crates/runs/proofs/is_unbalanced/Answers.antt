-- `runs::is_unbalanced` meets its contract.
use native.Mathlib.Omega.{arith}
use mathlib.Core.Path.{◌≡◌}
use lib.ListN.{get_or}
use Rattle.std.proofs.lemmas.Grind.{common_steps}
use Rattle.table.specs.Nodes.{kinds_in, stops_in, weights_in}
use Rattle.table.specs.Inside.{slices}
use Rattle.runs.proofs.Scan.{spans-under}
use Rattle.runs.proofs.is_unbalanced.Goals as goal

pub sum_weights-sum-requires : goal.sum_weights-sum-requires
sum_weights-sum-requires c =
    let a = c.args in
    let l = a.nodes.now in
    let p = c.requires in
    let h = p.3 in
    let k : get_or (kinds_in l) a.i 0 ≡ 3 = grind (arith, common_steps) in
    let s : c.from.result ≡ get_or (stops_in l) a.i 0 = grind (arith, common_steps) in
    let u = spans-under (slices (kinds_in l) (stops_in l) (weights_in l) h.heights) 0 a.n h.forest h.spans a.i (omega arith) p.0 (λ z. omega arith) in
    rw s (omega (arith, u.within), omega (arith, u.within), record { heights = h.heights; forest = u.forest; spans = u.spans })
