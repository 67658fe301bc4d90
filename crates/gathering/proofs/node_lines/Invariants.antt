-- `gathering::node_lines` meets its contract.
use lib.ListN.{drop}
use Rattle.gathering.proofs.Gather.{Gathering}
use Rattle.gathering.proofs.node_lines.Given as goal

abbrev pub invariant-loop-i : goal.invariant-loop-i
invariant-loop-i l = Gathering l.h l.n (drop 25 l.text) l.initial.nodes l.initial.up l.nodes l.up l.path l.most l.leaves l.i
