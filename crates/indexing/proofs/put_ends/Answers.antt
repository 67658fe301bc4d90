use Rattle.std.proofs.Common.{ℕ, true, false, eqb, rules, w64, to_z, of_z, ◌≡◌, sym, ap, ◌∙◌, get_or, map, arith}
use Rattle.std.proofs.lemmas.List.{get_or-map}
use lib.Seq.{get_or-take, length-take-le}
use Rattle.indexing.specs.Inside.{end_from}
use Rattle.indexing.proofs.Entries.{written_none, written-more}
use Rattle.indexing.proofs.put_ends.Goals as goal
use Rattle.indexing.proofs.put_ends.Goals.{then-not-is_leaf, else-not-is_leaf}

pub loop-i-init : goal.loop-i-init
loop-i-init g c = written_none _ _ c.args.list.now

pub loop-i-preserved : goal.loop-i-preserved
loop-i-preserved g c =
    let a = c.args in
    let number = g.T.Kinded.kind_number in
    let i = c.loop-i.i in
    let l = length-take-le a.n a.nodes.now (omega arith) in
    let kind : get_or (map number a.nodes.now) i 0 ≡ number c.node-item.result =
    get_or-map number a.nodes.now i c.node-item.result 0 (omega arith)
    ∙ ap number (sym (c.node-item.is ∙ get_or-take a.n a.nodes.now i c.node-item.result (omega arith))) in
    let more = written-more (map number a.nodes.now) (λ (j : ℕ). end_from a.base (get_or a.points.now j 0)) i _ _ c.loop-i.invariant in
    elim c.if-not-is_leaf.branch [
      | then-not-is_leaf w ↦
          let k : eqb (get_or (map number a.nodes.now) i 0) 0 ≡ false = ap (λ (m : ℕ). eqb m 0) kind ∙ sym c.is_leaf.ensures ∙ w.if-not-is_leaf.true in
          let z : to_z w64 (of_z w64 w.end.result) ≡ w.end.result = search rules in
          w.list-is ∙ rw (z, w.end.ensures) (rw k at more)
      | else-not-is_leaf w ↦
          let k : eqb (get_or (map number a.nodes.now) i 0) 0 ≡ true = ap (λ (m : ℕ). eqb m 0) kind ∙ sym c.is_leaf.ensures ∙ w.if-not-is_leaf.false in
          w.list-is ∙ (rw k at more)
    ]
