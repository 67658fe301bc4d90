-- Signed numbers of 64 bits, as tests and casts leave them.
use Prim.Native.Nat.{ℕ, zero, suc, ◌+◌, ◌^◌, ◌<◌, ◌≤◌}
use mathlib.Core.Path.{◌≡◌, refl, ◌∙◌}
use mathlib.Core.Bool.{Bool, true, false}
use native.Mathlib.Omega.{arith}
use borrow.Author.Tests.{ltb-true}
use borrow.Author.Rules.{sfits_of}
use lib.Dec.{T, eqb, ltb}
use lib.IntN.{ℤ, pos, negsuc, neg_ℤ, nat_abs, sub_ℕ, ◌+ℤ◌, ◌-ℤ◌}
use lib.Signed.{mag, lt_z, non_neg}
use mir.Syntax.{w64}
use mir.Val.{Fits, to_z, of_z}
use mir.ValLaws.{to_z-of_z}
use Rattle.std.specs.Int.{int_max}
use Rattle.field.specs.declared.Field.TheVariants.{Number}
use Rattle.line.specs.Line.{to_nat, has_number}

pub true-ne-false : ◌≡◌ {A = Bool} true false → ⊥
true-ne-false e = let z : ◌≡◌ {A = ℕ} 0 1 = cc in omega arith

-- a natural is not below zero, and a negative number is
pub no-neg : (n : ℕ) → lt_z (pos n) (pos 0) ≡ true → ⊥
no-neg n t = let l : n < 0 = ltb-true n 0 t in omega arith

pub no-pos : (n : ℕ) → lt_z (negsuc n) (pos 0) ≡ false → ⊥
no-pos n t = true-ne-false t

pub nat-neg : (z : ℤ) → lt_z z (pos 0) ≡ true → 0 ≡ to_nat z
nat-neg (pos n) t = absurd (no-neg n t)
nat-neg (negsuc n) t = refl

pub nat-abs : (z : ℤ) → lt_z z (pos 0) ≡ false → nat_abs z ≡ to_nat z
nat-abs (pos n) t = refl
nat-abs (negsuc n) t = absurd (no-pos n t)

pub nat-casts : (z : ℤ) → lt_z z (pos 0) ≡ false → mag z < 2 ^ 63 → T (non_neg z) × Fits w64 (nat_abs z)
nat-casts (pos n) t h = (tt, record { fits = omega arith })
nat-casts (negsuc n) t h = absurd (no-pos n t)

pub has-number-neg : (n : ℕ) (z : ℤ) → lt_z z (pos 0) ≡ true → false ≡ has_number n (Number z)
has-number-neg n (pos m) t = absurd (no-neg m t)
has-number-neg n (negsuc m) t = refl

pub has-number-nat : (n : ℕ) (z : ℤ) → lt_z z (pos 0) ≡ false → eqb (to_nat z) n ≡ has_number n (Number z)
has-number-nat n (pos m) t = refl
has-number-nat n (negsuc m) t = absurd (no-pos m t)

-- how large a difference is
mag-sub : (a b : ℕ) (t : Bool) → ltb a b ≡ t → mag (sub_ℕ a b) ≤ a + b
mag-sub a b true e = rw e (omega arith)
mag-sub a b false e = rw e (omega arith)

pub mag-add : (y z : ℤ) → mag (y +ℤ z) ≤ mag y + mag z + 1
mag-add (pos m) (pos n) = omega arith
mag-add (pos m) (negsuc n) = omega (arith, mag-sub m (suc n) (ltb m (suc n)) refl)
mag-add (negsuc m) (pos n) = omega (arith, mag-sub n (suc m) (ltb n (suc m)) refl)
mag-add (negsuc m) (negsuc n) = omega arith

mag-neg : (z : ℤ) → mag (neg_ℤ z) ≤ mag z + 1
mag-neg (pos zero) = omega arith
mag-neg (pos (suc n)) = omega arith
mag-neg (negsuc n) = omega arith

pub mag-diff : (y z : ℤ) → mag y ≤ 1000000 → mag z ≤ 1000000 → mag (y -ℤ z) ≤ 2000002
mag-diff y z h k = omega (arith, mag-add y (neg_ℤ z), mag-neg z)

pub nat-mag : (z : ℤ) → to_nat z ≤ mag z
nat-mag (pos n) = omega arith
nat-mag (negsuc n) = omega arith

-- ---- `z.max(0).unsigned_abs()`

max-nat : (z : ℤ) → nat_abs (int_max z (pos 0)) ≡ to_nat z
max-nat (pos n) = grind arith
max-nat (negsuc n) = refl

max-mag : (z : ℤ) → mag (int_max z (pos 0)) ≤ mag z
max-mag (pos n) = grind arith
max-mag (negsuc n) = omega arith

pub clip-nat : (z m : ℤ) (n : ℕ) → mag z < 2 ^ 63 → m ≡ int_max (to_z w64 (of_z w64 z)) (pos 0) → n ≡ nat_abs (to_z w64 (of_z w64 m)) → n ≡ to_nat z
clip-nat z m n h e f =
    let back-z : to_z w64 (of_z w64 z) ≡ z = to_z-of_z w64 z (sfits_of h) in
    let is : m ≡ int_max z (pos 0) = rw back-z at e in
    let back-m : to_z w64 (of_z w64 m) ≡ m = to_z-of_z w64 m (sfits_of (rw is (omega (arith, h, max-mag z)))) in
    f ∙ rw (back-m, is) (max-nat z)

-- the same of a difference
pub rise-nat : (y z m : ℤ) (n : ℕ) → mag y ≤ 1000000 → mag z ≤ 1000000
    → m ≡ int_max (to_z w64 (of_z w64 (to_z w64 (of_z w64 y) -ℤ to_z w64 (of_z w64 z)))) (pos 0) → n ≡ nat_abs (to_z w64 (of_z w64 m)) → n ≡ to_nat (y -ℤ z)
rise-nat y z m n h k e f =
    let back-y : to_z w64 (of_z w64 y) ≡ y = to_z-of_z w64 y (sfits_of (omega (arith, h))) in
    let back-z : to_z w64 (of_z w64 z) ≡ z = to_z-of_z w64 z (sfits_of (omega (arith, k))) in
    clip-nat (y -ℤ z) m n (omega (arith, mag-diff y z h k)) (rw (back-y, back-z) at e) f
