-- `indexing::drops` meets its contract.
use Rattle.indexing.specs.Inside.{Dropped}
use Rattle.indexing.proofs.drops.Given as goal

abbrev pub invariant-loop-i : goal.invariant-loop-i
invariant-loop-i l = Dropped l.span l.height l.drop l.i
