-- `scale::span_of` meets its contract.
use native.Mathlib.Omega.{arith}
use lib.IntN.{◌-ℤ◌}
use Rattle.line.proofs.Signs.{rise-nat, mag-diff, nat-mag}
use Rattle.scale.proofs.span_of.Goals as goal

pub returns : goal.returns
returns c =
    let t = c.args.t in
    let is = rise-nat t.highest t.lowest _ _ c.requires.highest c.requires.lowest c.max.ensures.value c.unsigned_abs.ensures.value in
    (is, omega (arith, is, nat-mag (t.highest -ℤ t.lowest), mag-diff t.highest t.lowest c.requires.highest c.requires.lowest))
