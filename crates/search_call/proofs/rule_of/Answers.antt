-- `search_call::rule_of` meets its contract.
use Prim.Native.Nat.{ℕ}
use mathlib.Core.Path.{ap}
use Rattle.line.proofs.Signs.{clip-nat}
use Rattle.search_call.proofs.rule_of.Goals as goal

pub returns : goal.returns
returns c =
    ap (λ (n : ℕ). record { margin = n; grain = c.args.s.grain })
    (clip-nat c.args.margin _ _ c.ranges.margin.sfits c.max.ensures.value c.unsigned_abs.ensures.value)
