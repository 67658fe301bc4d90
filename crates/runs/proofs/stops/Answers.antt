use Prim.Native.Nat.{◌+◌, ◌-◌}
use mathlib.Core.Path.{◌≡◌, refl, ◌∙◌}
use native.Mathlib.Omega.{arith}
use lib.ListN.{take, length-map}
use lib.Seq.{length-take-le, drop-set-lt}
use Rattle.std.proofs.lemmas.List.{map-set}
use Rattle.std.proofs.Math.Seq.{map-set_same}
use Rattle.table.specs.declared.Node.{Node}
use Rattle.table.specs.Nodes.{stops_in}
use Rattle.runs.proofs.Reach.{stop-small, stops-laid, stops-more}
use Rattle.runs.proofs.stops.Goals as goal

pub overflow_cast-nodes : goal.overflow_cast-nodes
overflow_cast-nodes c =
    let a = c.args in
    let len = length-take-le a.n a.up.now c.requires.0 in
    omega (arith, c.run_end-end.ensures, stop-small (take a.n a.up.now) (c.loop-i.i - 1) (omega arith))

pub loop-i-preserved : goal.loop-i-preserved
loop-i-preserved c =
    let a = c.args in
    let v = c.loop-i.invariant in
    let l = c.loop-i.nodes in
    let i = c.loop-i.i - 1 in
    let e : i + 1 ≡ c.loop-i.i = omega arith in
    record {
      known = rw (map-set (λ (n : Node). n.stop)) (stops-more (take a.n a.up.now) (stops_in l) i c.run_end-end.result (rw e v.known) c.run_end-end.ensures (omega (arith, length-map l (λ (n : Node). n.stop))));
      after = rw (map-set (λ (n : Node). n.stop), drop-set-lt a.n (stops_in l) i c.run_end-end.result (omega arith)) v.after;
      next = λ h. c.run_end-end.ensures;
      kinds = map-set_same _ l i _ _ refl ∙ v.kinds;
      weights = map-set_same _ l i _ _ refl ∙ v.weights;
      heights = map-set_same _ l i _ _ refl ∙ v.heights;
    }

pub returns-clause-stops : goal.returns-clause-stops
returns-clause-stops c =
    let a = c.args in
    let v = c.loop-i.invariant in
    let len = length-take-le a.n a.up.now c.requires.0 in
    let z : c.loop-i.i ≡ 0 = omega arith in
    stops-laid (take a.n a.up.now) (stops_in c.loop-i.nodes) (stops_in a.nodes.now) (rw z at v.known) (simp length-map (omega arith)) (simp length-map c.loop-i.auto.nodes) (rw len v.after)
