-- `scale::scale_of` meets its contract.
use Prim.Native.Nat.{ℕ, ◌*◌, ◌≤◌}
use mathlib.Core.Path.{ap}
use native.Mathlib.Nat.{mul-le-mul}
use native.Mathlib.Omega.{arith}
use Rattle.table.specs.declared.Summary.{Summary}
use Rattle.scale.proofs.scale_of.Goals as goal
use Rattle.scale.proofs.scale_of.Goals.{After-span_of}

pub overflow_mul-top : goal.overflow_mul-top
overflow_mul-top c =
    let N = (goal.at.overflow_mul-top c).After-span_of in
    let m : N.span_of.result * c.args.t.grain ≤ 2000002 * 16777216 = mul-le-mul N.span_of.ensures.1 c.requires.grain in
    record { fits = omega (arith, m) }

pub returns : goal.returns
returns c =
    let t : Summary = c.args.t in
    ap (λ (n : ℕ). record { grain = t.grain; top = n * t.grain }) c.span_of.ensures.0
