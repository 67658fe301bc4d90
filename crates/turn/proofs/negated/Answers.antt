-- `turn::negated` meets its contract.
use Prim.Native.Nat.{◌^◌, ◌<◌}
use mathlib.Core.Path.{◌≡◌, sym, ap, subst, ◌∙◌}
use native.Mathlib.Omega.{arith}
use lib.IntN.{ℤ, nat_abs}
use Rattle.field.specs.declared.Field.{Field}
use Rattle.field.specs.declared.Field.TheVariants.{Number}
use Rattle.field.proofs.Bits.{abs_neg, neg-fits, neg-back}
use Rattle.writing.specs.Inside.{Fits}
use Rattle.turn.specs.Inside.{negated}
use Rattle.turn.proofs.negated.Goals as goal

-- a number whose negative has room is small
small : (f : Field) (z : ℤ) → f ≡ Number z → Fits 8 (negated f) → nat_abs z < 2 ^ 63
small f z e h = let r = subst (λ (f : Field). Fits 8 (negated f)) e h in omega (arith, rw (abs_neg z) at r.1)

pub overflow_sub-result : goal.overflow_sub-result
overflow_sub-result c = let g = c.in-Number in neg-fits g.z (small c.args.f g.z g.is c.requires)

pub returns-in-Number : goal.returns-in-Number
returns-in-Number c =
    let g = c.in-Number in
    ap Number (neg-back g.z (small c.args.f g.z g.is c.requires)) ∙ sym (ap negated g.is)
