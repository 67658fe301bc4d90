-- The three searches, which call one another, meet their contracts: one loop over the children each.
use Prim.Native.Nat.{◌-◌}
use Rattle.table.specs.Tree.{MAX, MIN, CHANCE}
use Rattle.searching.specs.Inside.{nodes_of, way_of}
use Rattle.searching.proofs.Rules.{Going}
use Rattle.searching.proofs.Table.+chance_over_max_over_min_over.Given as goal

abbrev pub invariant-chance_over-loop-i : goal.invariant-chance_over-loop-i
invariant-chance_over-loop-i l =
    Going (nodes_of l.self) (way_of l.self l.v) l.v CHANCE l.fn.w l.c l.end l.left l.initial.leaves l.t l.i l.n l.leaves

abbrev pub decreases-chance_over-loop-i : goal.decreases-chance_over-loop-i
decreases-chance_over-loop-i l = l.end - l.i

abbrev pub invariant-max_over-loop-i : goal.invariant-max_over-loop-i
invariant-max_over-loop-i l =
    Going (nodes_of l.self) (way_of l.self l.v) l.v MAX l.fn.w l.c l.end l.left l.initial.leaves l.t l.i l.n l.leaves

abbrev pub decreases-max_over-loop-i : goal.decreases-max_over-loop-i
decreases-max_over-loop-i l = l.end - l.i

abbrev pub invariant-min_over-loop-i : goal.invariant-min_over-loop-i
invariant-min_over-loop-i l =
    Going (nodes_of l.self) (way_of l.self l.v) l.v MIN l.fn.w l.c l.end l.left l.initial.leaves l.t l.i l.n l.leaves

abbrev pub decreases-min_over-loop-i : goal.decreases-min_over-loop-i
decreases-min_over-loop-i l = l.end - l.i

-- what falls at each call: the number of entries
abbrev pub decreases-chance_over : goal.decreases-chance_over
decreases-chance_over l = l.end - l.c

abbrev pub decreases-max_over : goal.decreases-max_over
decreases-max_over l = l.end - l.c

abbrev pub decreases-min_over : goal.decreases-min_over
decreases-min_over l = l.end - l.c
