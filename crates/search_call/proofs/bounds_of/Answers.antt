-- `search_call::bounds_of` meets its contract.
use Prim.Native.Nat.{◌-◌}
use native.Mathlib.Nat.{le_trans}
use Rattle.scale.proofs.Sums.{grains-back}
use Rattle.search_call.proofs.Call.{apart-back}
use Rattle.search_call.proofs.bounds_of.Goals as goal

pub returns : goal.returns
returns c =
    let t = c.args.t in
    let f = c.args.f in
    let p = c.requires in
    λ i. record {
      low = grains-back t.lowest t.grain f.low _ p.0.lowest p.0.grain (le_trans p.1 p.2) c.in_grains.ensures i;
      high = grains-back t.lowest t.grain f.high _ p.0.lowest p.0.grain p.2 c.in_grains-2.ensures i;
      difference = apart-back f.low f.high p.2 c.apart.ensures i;
      play = f.play;
      leaves = c.args.reads - f.left;
      spent = f.spent;
      grain = t.grain;
    }
