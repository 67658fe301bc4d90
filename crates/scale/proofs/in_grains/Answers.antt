-- `scale::in_grains` meets its contract.
use Rattle.scale.proofs.Sums.{mul-fits, add-fits, over-is}
use Rattle.scale.proofs.in_grains.Goals as goal

pub overflow_mul-result : goal.overflow_mul-result
overflow_mul-result c =
    mul-fits c.args.lowest c.args.grain c.args.height c.requires.0 c.requires.1 c.requires.2

pub overflow_add-result : goal.overflow_add-result
overflow_add-result c =
    add-fits c.args.lowest c.args.grain c.args.height c.requires.0 c.requires.1 c.requires.2

pub returns : goal.returns
returns c =
    over-is c.args.lowest c.args.grain c.args.height c.requires.0 c.requires.1 c.requires.2
