-- `rolling::walk` meets its contract.
use Rattle.std.proofs.Common.{arith}
use Rattle.std.proofs.lemmas.Grind.{common_steps}
use Rattle.rolling.specs.Inside.Contracts.{stored}
use Rattle.rolling.proofs.Paths.{climb-begin, walk-left}
use Rattle.rolling.proofs.walk.Goals as goal

pub read_leaf-requires : goal.read_leaf-requires
read_leaf-requires c =
    let R = c.requires.0 in
    let some = (c.down-r.ensures _ _ R).some in
    (grind (arith, common_steps, some, R.stops), omega (arith, some, R.low), omega (arith, some, R.high), R.grain)

pub up-requires : goal.up-requires
up-requires c =
    let R = c.requires.0 in
    climb-begin R (c.down-r.ensures _ _ R) _ _ c.read_leaf.ensures.0 c.read_leaf.ensures.1

pub returns : goal.returns
returns c =
    let f = c.read_leaf.ensures in
    λ R. walk-left R (c.down-r.ensures _ _ R) _ _ f.0 f.1 (stored _ _) c.up.ensures
