-- Signed numbers of 64 bits: what fits is read back from its bits, and so is its negative.
use Prim.Native.Nat.{zero, suc, ◌+◌, ◌^◌, ◌≤◌, ◌<◌}
use mathlib.Core.Path.{◌≡◌, refl}
use native.Mathlib.Omega.{arith}
use lib.IntN.{ℤ, pos, negsuc, neg_ℤ, nat_abs, ◌-ℤ◌, +ℤ_idl}
use lib.Signed.{mag}
use borrow.Author.Rules.{sfits_of}
use mir.Syntax.{w64}
use mir.Val.{SFits, to_z, of_z}
use mir.ValLaws.{to_z-of_z}

pub mag-abs : (z : ℤ) → mag z ≤ nat_abs z
mag-abs (pos n) = omega arith
mag-abs (negsuc n) = omega arith

pub abs_mag : (z : ℤ) → nat_abs z ≤ mag z + 1
abs_mag (pos n) = omega arith
abs_mag (negsuc n) = omega arith

pub abs_neg : (z : ℤ) → nat_abs (neg_ℤ z) ≡ nat_abs z
abs_neg (pos zero) = refl
abs_neg (pos (suc n)) = refl
abs_neg (negsuc n) = refl

pub fits : (z : ℤ) → nat_abs z < 2 ^ 63 → SFits w64 z
fits z h = sfits_of (omega (arith, mag-abs z))

module _ (z : ℤ) (h : nat_abs z < 2 ^ 63) where
  pub back : to_z w64 (of_z w64 z) ≡ z
  back = to_z-of_z w64 z (fits z h)

  neg_is : pos 0 -ℤ to_z w64 (of_z w64 z) ≡ neg_ℤ z
  neg_is = rw back (+ℤ_idl (neg_ℤ z))

  neg-room : SFits w64 (neg_ℤ z)
  neg-room = fits (neg_ℤ z) (rw (abs_neg z) h)

  pub neg-fits : SFits w64 (pos 0 -ℤ to_z w64 (of_z w64 z))
  neg-fits = rw neg_is neg-room

  pub neg-back : to_z w64 (of_z w64 (pos 0 -ℤ to_z w64 (of_z w64 z))) ≡ neg_ℤ z
  neg-back = rw neg_is (to_z-of_z w64 (neg_ℤ z) neg-room)
