-- `listing::add_leaf` meets its contract.
use Rattle.listing.proofs.Added.{leaf-kept, leaf-put}
use Rattle.listing.proofs.add_leaf.Goals as goal

pub returns-then-marks-n : goal.returns-then-marks-n
returns-then-marks-n c = leaf-kept c.requires (rw c.from-n.ensures at c.if-marks-n.true)

pub returns-else-marks-n : goal.returns-else-marks-n
returns-else-marks-n c = rw c.from-n.ensures (leaf-put c.requires (rw c.from-n.ensures at c.if-marks-n.false))
