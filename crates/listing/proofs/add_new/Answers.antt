use Rattle.listing.proofs.Added.{adding-ready, adding-more, adding-done}
use Rattle.listing.proofs.add_new.Goals as goal

pub add_leaf-n-requires : goal.add_leaf-n-requires
add_leaf-n-requires c = adding-ready c.requires c.loop-leaf.invariant c.loop-leaf-test.true

pub loop-leaf-preserved : goal.loop-leaf-preserved
loop-leaf-preserved c =
    let l = c.add_leaf-n in
    adding-more c.requires c.loop-leaf.invariant c.loop-leaf-test.true l.ensures l.auto.marks l.auto.leaves

pub returns : goal.returns
returns c = adding-done c.requires c.loop-leaf.invariant c.loop-leaf-test.false
