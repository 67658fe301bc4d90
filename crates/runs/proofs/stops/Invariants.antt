-- The nodes from i on have their stops, and nothing else has changed.
use Prim.Native.Nat.{◌<◌}
use mathlib.Core.Path.{◌≡◌}
use lib.ListN.{take, drop}
use Rattle.table.specs.Nodes.{kinds_in, stops_in, weights_in, heights_in}
use Rattle.runs.specs.Inside.{stop_in, HasStops}
use Rattle.runs.proofs.stops.Given as goal

abbrev pub invariant-loop-i : goal.invariant-loop-i
invariant-loop-i l = record {
  known : HasStops (take l.n l.up) (stops_in l.nodes) l.i;
  after : drop l.n (stops_in l.nodes) ≡ drop l.n (stops_in l.initial.nodes);
  next : l.i < l.n → l.end ≡ stop_in (take l.n l.up) l.i;
  kinds : kinds_in l.nodes ≡ kinds_in l.initial.nodes;
  weights : weights_in l.nodes ≡ weights_in l.initial.nodes;
  heights : heights_in l.nodes ≡ heights_in l.initial.nodes;
}
