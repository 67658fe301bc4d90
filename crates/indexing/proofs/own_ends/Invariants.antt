-- `indexing::own_ends` meets its contract.
use Rattle.std.proofs.Common.{ℕ, ◌≡◌, ◌<◌, get_or}
use Rattle.table.specs.Nodes.{heights_in}
use Rattle.indexing.specs.Inside.{Dropped}
use Rattle.indexing.proofs.own_ends.Given as goal

abbrev pub invariant-loop-i : goal.invariant-loop-i
invariant-loop-i l = ((j : ℕ) → j < l.i → get_or l.rise j 0 ≡ get_or (heights_in l.nodes) j 0) × Dropped l.span (heights_in l.nodes) l.drop l.i
