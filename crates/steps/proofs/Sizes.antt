-- Quotients that are rounded up.
use Rattle.std.proofs.Common.{ℕ, ◌≡◌, ◌+◌, ◌-◌, ◌*◌, ◌/◌, ◌%◌, min, ◌≤◌, ◌<◌, ◌∙◌, ap, arith}
use Rattle.std.proofs.lemmas.Nat.{div-add-mod', div-mul-add}
use Rattle.std.specs.Int.{div_ceil}
use native.Mathlib.Decide.{dec_le}
use Rattle.search.specs.Inside.{ceil}

-- as std has it, and as Algorithm 1 over heights
pub ceil_is : (x w : ℕ) → 0 < w → div_ceil x w ≡ ceil x w
unfolding ceil
ceil_is x w p = go (dec_le 1 (x % w))
  where
    go : Dec (1 ≤ x % w) → x / w + min 1 (x % w) ≡ (x + (w - 1)) / w
    go (yes l) =
        let e : x + (w - 1) ≡ (x / w + 1) * w + (x % w - 1) = omega (arith, div-add-mod' x w) in
        omega (arith, ap (λ (n : ℕ). n / w) e ∙ div-mul-add (x / w + 1) w (x % w - 1) (omega arith))
    go (no l) =
        let e : x + (w - 1) ≡ x / w * w + (w - 1) = omega (arith, div-add-mod' x w) in
        omega (arith, ap (λ (n : ℕ). n / w) e ∙ div-mul-add (x / w) w (w - 1) (omega arith))
