-- T times numbers: order, sums and differences are kept, and dividing by T gives the number back.
use Prim.Native.Nat.{ℕ, ◌+◌, ◌*◌, ◌-◌, min, max, ◌≤◌, ◌<◌}
use mathlib.Core.Path.{◌≡◌, sym, ap, ap₂, ◌∙◌}
use mathlib.Core.Bool.{Bool, cond}
use native.Mathlib.Nat.{mul-le-mul_left, le_of_mul-le-mul_left, mul-sub, mul_comm, max-add-min, max-eq_left, max-eq_right}
use native.Mathlib.Decide.{dec_le}
use native.Mathlib.Omega.{arith}
use lib.Dec.{leb, leb→le, le→leb}
use lib.IntN.{ℤ, pos, ◌+ℤ◌, ◌-ℤ◌, ◌*ℤ◌, +ℤ-neg_ℤ_cancel, -ℤ-+ℤ_cancel}
use lib.Signed.{le_z}
use Rattle.numbers.specs.Integers.{max_z, min_z, floor_z}
use Rattle.numbers.proofs.Signs.{same_test, plus, minus, parts, is-unique, is_eq, is-add, is_mul, is_le, is-floor}
use Rattle.search.proofs.Steps.{cond_map}

-- ---- natural numbers

pub mul-max : (T a b : ℕ) → max (T * a) (T * b) ≡ T * max a b
mul-max T a b =
    elim (dec_le a b) [
      | yes h ↦ max-eq_right (mul-le-mul_left T h) ∙ ap (λ x. T * x) (sym (max-eq_right h))
      | no h ↦ let l : b ≤ a = omega arith in max-eq_left (mul-le-mul_left T l) ∙ ap (λ x. T * x) (sym (max-eq_left l))
    ]

pub mul-min : (T a b : ℕ) → min (T * a) (T * b) ≡ T * min a b
mul-min T a b = omega (arith, mul-max T a b, ap (λ (x : ℕ). T * x) (max-add-min a b))

pub mul-test : (T x y : ℕ) → 0 < T → leb (T * x) (T * y) ≡ leb x y
mul-test T x y p =
    same_test (leb (T * x) (T * y)) (leb x y)
    (λ h. le→leb x y (le_of_mul-le-mul_left (leb→le (T * x) (T * y) h) p))
    (λ h. le→leb (T * x) (T * y) (mul-le-mul_left T (leb→le x y h)))

pub mul-apart : (T a b : ℕ) → T * a - T * b ≡ (a - b) * T
mul-apart T a b = sym (mul_comm (a - b) T ∙ mul-sub T a b)

-- ---- integers

module _ (T : ℕ) where
  abbrev times : ℤ → ℤ
  times z = pos T *ℤ z

  pub times-plus : (y z : ℤ) → pos T *ℤ (y +ℤ z) ≡ pos T *ℤ y +ℤ pos T *ℤ z
  times-plus y z =
      is-unique (times (y +ℤ z)) (times y +ℤ times z) (T * plus y + T * plus z) (T * minus y + T * minus z)
      (is_eq (times (y +ℤ z)) (T * (plus y + plus z)) (T * (minus y + minus z)) _ _ (is_mul T (y +ℤ z) _ _ (is-add y z _ _ _ _ (parts y) (parts z))) (omega arith))
      (is-add (times y) (times z) _ _ _ _ (is_mul T y _ _ (parts y)) (is_mul T z _ _ (parts z)))

  pub times-minus : (y z : ℤ) → pos T *ℤ (y -ℤ z) ≡ pos T *ℤ y -ℤ pos T *ℤ z
  times-minus y z =
      sym (ap (λ (x : ℤ). x -ℤ times z) (ap times (sym (-ℤ-+ℤ_cancel y z)) ∙ times-plus (y -ℤ z) z) ∙ +ℤ-neg_ℤ_cancel (times (y -ℤ z)) (times z))

  pub times-order : (y z : ℤ) → 0 < T → le_z (pos T *ℤ y) (pos T *ℤ z) ≡ le_z y z
  times-order y z p =
      let a : ℕ = plus y in
      let b : ℕ = minus y in
      let c : ℕ = plus z in
      let d : ℕ = minus z in
      let left : T * a + T * d ≡ T * (a + d) = omega arith in
      let right : T * c + T * b ≡ T * (c + b) = omega arith in
      is_le (times y) (times z) (T * a) (T * b) (T * c) (T * d) (is_mul T y a b (parts y)) (is_mul T z c d (parts z))
      ∙ ap₂ leb left right ∙ mul-test T (a + d) (c + b) p ∙ sym (is_le y z a b c d (parts y) (parts z))

  pub times-max : (y z : ℤ) → 0 < T → max_z (pos T *ℤ y) (pos T *ℤ z) ≡ pos T *ℤ max_z y z
  unfolding max_z
  times-max y z p = ap (λ (b : Bool). cond b (times z) (times y)) (times-order y z p) ∙ cond_map times z y (le_z y z)

  pub times-min : (y z : ℤ) → 0 < T → min_z (pos T *ℤ y) (pos T *ℤ z) ≡ pos T *ℤ min_z y z
  unfolding min_z
  times-min y z p = ap (λ (b : Bool). cond b (times y) (times z)) (times-order y z p) ∙ cond_map times y z (le_z y z)

  pub times-over : (y : ℤ) → 0 < T → floor_z (pos T *ℤ y) T ≡ y
  times-over y p =
      is-unique (floor_z (times y) T) y (plus y) (minus y)
      (is-floor T (times y) (T * plus y) (T * minus y) (plus y) (minus y) p (is_mul T y _ _ (parts y)) (omega arith) (omega arith)) (parts y)
