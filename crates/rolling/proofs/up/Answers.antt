use Rattle.std.proofs.Common.{refl, ap, ◌∙◌, arith}
use Rattle.rolling.specs.Inside.Lists.{WalkS}
use Rattle.rolling.proofs.Paths.{climb-children, climbing-on, climb-end}
use Rattle.rolling.proofs.up.Goals as goal

pub loop-d-init : goal.loop-d-init
loop-d-init c = λ C. (C, refl)

pub update-requires : goal.update-requires
update-requires c = climb-children (c.loop-d.invariant c.requires).0 (omega arith) c.from.result c.from.ensures

pub loop-d-preserved : goal.loop-d-preserved
loop-d-preserved c =
    λ C. climbing-on C (c.loop-d.invariant C) (omega arith) c.from.result c.from.ensures _ _ c.update.ensures.0 c.update.ensures.1

pub returns : goal.returns
returns c =
    λ C. let g = c.loop-d.invariant C in climb-end g.0 (omega arith) ∙ ap (λ (w : WalkS). w.store) g.1
