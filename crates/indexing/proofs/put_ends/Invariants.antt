-- `indexing::put_ends` meets its contract.
use Rattle.std.proofs.Common.{◌≡◌, map}
use Rattle.index.specs.Index.{written}
use Rattle.indexing.specs.Inside.{entries_of}
use Rattle.indexing.proofs.put_ends.Given as goal

abbrev pub invariant-loop-i : goal.invariant-loop-i
invariant-loop-i g l = l.list ≡ written (entries_of (map g.T.Kinded.kind_number l.nodes) l.points l.base l.i) l.initial.list
