-- `listing::add_new` meets its contract.
use Rattle.listing.proofs.Added.{Adding}
use Rattle.listing.proofs.add_new.Given as goal

abbrev pub invariant-loop-leaf : goal.invariant-loop-leaf
invariant-loop-leaf l = Adding l.read l.initial.marks l.initial.leaves l.count l.marks l.leaves l.n l.leaf-index
