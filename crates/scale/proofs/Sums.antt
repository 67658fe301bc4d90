-- Grains over the lowest end in signed numbers of 64 bits: each step fits, and the bits hold the number.
use Prim.Native.Nat.{ℕ, zero, suc, ◌+◌, ◌*◌, ◌^◌, ◌≤◌, ◌<◌}
use native.Mathlib.Nat.{mul-le-mul}
use native.Mathlib.Omega.{arith}
use mathlib.Core.Path.{◌≡◌, ap, ◌∙◌}
use lib.IntN.{ℤ, pos, negsuc, neg_ℤ, ◌+ℤ◌, ◌*ℤ◌}
use lib.Signed.{mag}
use borrow.Author.Rules.{sfits_of}
use borrow.Author.Tests.{lt-ltb}
use mir.Syntax.{w64}
use mir.Val.{SFits, to_z, of_z}
use mir.ValLaws.{to_z-of_z}
use Rattle.line.proofs.Signs.{mag-add}

as-pos : (n : ℕ) → n < 2 ^ 63 → to_z w64 n ≡ pos n
as-pos n h = to_z-of_z w64 (pos n) (sfits_of h)

pub read_back : (z : ℤ) → mag z < 2 ^ 63 → to_z w64 (of_z w64 z) ≡ z
read_back z h = to_z-of_z w64 z (sfits_of h)

mag-neg : (r : ℕ) → mag (neg_ℤ (pos r)) ≤ r
mag-neg zero = omega arith
mag-neg (suc r) = omega arith

mag-mul : (z : ℤ) (g : ℕ) → mag (z *ℤ pos g) ≤ (mag z + 1) * g
mag-mul (pos a) g = mul-le-mul (omega arith) (omega arith)
mag-mul (negsuc a) g =
    let k : mag (neg_ℤ (pos (suc a * g))) ≤ suc a * g = mag-neg (suc a * g) in
    let e : a + 1 ≡ suc a = omega arith in
    rw e k

module _ (z : ℤ) (g h : ℕ) (hz : mag z ≤ 1000000) (hg : g ≤ 16777216) (hh : h ≤ 35184372088832) where
  product : mag (z *ℤ pos g) ≤ 16777232777216
  product =
      let up : mag z + 1 ≤ 1000001 = omega arith in
      let k : (mag z + 1) * g ≤ 1000001 * 16777216 = mul-le-mul up hg in
      omega (arith, mag-mul z g)

  pub few-digits : mag (z *ℤ pos g +ℤ pos h) < 99999999999999
  few-digits = omega (arith, product, mag-add (z *ℤ pos g) (pos h))

  pub sum : mag (z *ℤ pos g +ℤ pos h) < 2 ^ 63
  sum = omega (arith, few-digits)

  mul_is : to_z w64 (of_z w64 z) *ℤ to_z w64 g ≡ z *ℤ pos g
  mul_is = rw (read_back z (omega arith), as-pos g (omega arith))

  pub mul-fits : SFits w64 (to_z w64 (of_z w64 z) *ℤ to_z w64 g)
  mul-fits = rw mul_is (sfits_of (omega (arith, product)))

  add_is : to_z w64 (of_z w64 (to_z w64 (of_z w64 z) *ℤ to_z w64 g)) +ℤ to_z w64 h ≡ z *ℤ pos g +ℤ pos h
  add_is = rw (mul_is, read_back (z *ℤ pos g) (omega (arith, product)), as-pos h (omega arith))

  pub add-fits : SFits w64 (to_z w64 (of_z w64 (to_z w64 (of_z w64 z) *ℤ to_z w64 g)) +ℤ to_z w64 h)
  add-fits = rw add_is (sfits_of sum)

  pub over-is : to_z w64 (of_z w64 (to_z w64 (of_z w64 (to_z w64 (of_z w64 z) *ℤ to_z w64 g)) +ℤ to_z w64 h)) ≡ z *ℤ pos g +ℤ pos h
  over-is = rw add_is (read_back (z *ℤ pos g +ℤ pos h) sum)

-- the grains that a call computed, as they are handed on
pub grains-back : (lowest : ℤ) (grain height : ℕ) (r : ℤ) → mag lowest ≤ 1000000 → grain ≤ 16777216 → height ≤ 35184372088832
    → r ≡ to_z w64 (of_z w64 lowest) *ℤ pos grain +ℤ pos height → to_z w64 (of_z w64 r) ≡ lowest *ℤ pos grain +ℤ pos height
grains-back lowest grain height r a b c e =
    let made : r ≡ lowest *ℤ pos grain +ℤ pos height = e ∙ ap (λ (z : ℤ). z *ℤ pos grain +ℤ pos height) (read_back lowest (omega (arith, a))) in
    ap (λ (z : ℤ). to_z w64 (of_z w64 z)) made ∙ read_back (lowest *ℤ pos grain +ℤ pos height) (sum lowest grain height a b c)

-- ---- the lowest end in grains

pub base-small : (z : ℤ) (g : ℕ) → mag z ≤ 1000000 → g ≤ 16777216 → mag (z *ℤ pos g +ℤ pos 0) ≤ 35184372088832
base-small z g hz hg = omega (arith, product z g 0 hz hg (omega arith), mag-add (z *ℤ pos g) (pos 0))

pub plus_none : (z : ℤ) → z +ℤ pos 0 ≡ z
plus_none (pos a) = ap pos (omega arith)
plus_none (negsuc a) = rw (lt-ltb 0 (suc a) (omega arith)) (ap negsuc (omega arith))
