-- Numbers that lie so much above a number b, as worths and bounds lie above the lowest end.
use Prim.Native.Nat.{ℕ, ◌+◌, ◌*◌, min, max, ◌≤◌}
use mathlib.Core.Path.{◌≡◌, ◌∙◌}
use mathlib.Core.Bool.{true}
use native.Mathlib.Omega.{arith}
use borrow.Author.Tests.{le-leb}
use lib.IntN.{ℤ, pos, ◌+ℤ◌, ◌*ℤ◌, *ℤ_comm}
use lib.Signed.{le_z}
use Rattle.numbers.specs.Integers.{max_z, min_z}
use Rattle.numbers.proofs.Signs.{Is, plus, minus, parts, is-unique, is_eq, is-add, is_mul, is_le, is-max, is-min}

pub is-times : (G : ℕ) (z : ℤ) (a b : ℕ) → Is z a b → Is (z *ℤ pos G) (G * a) (G * b)
is-times G z a b p = rw (*ℤ_comm z (pos G)) (is_mul G z a b p)

pub lift : (z : ℤ) (a b h : ℕ) → Is z a b → Is (z +ℤ pos h) (a + h) b
lift z a b h p = is_eq (z +ℤ pos h) (a + h) (b + 0) (a + h) b (is-add z (pos h) a b h 0 p (omega arith)) (omega arith)

-- in grains
pub leaf-shift : (lo : ℤ) (h G : ℕ) → (lo +ℤ pos h) *ℤ pos G ≡ lo *ℤ pos G +ℤ pos (h * G)
leaf-shift lo h G =
    let a : ℕ = plus lo in
    let b : ℕ = minus lo in
    is-unique ((lo +ℤ pos h) *ℤ pos G) (lo *ℤ pos G +ℤ pos (h * G)) (G * (a + h)) (G * b)
    (is-times G (lo +ℤ pos h) (a + h) b (lift lo a b h (parts lo)))
    (is_eq (lo *ℤ pos G +ℤ pos (h * G)) (G * a + h * G) (G * b) (G * (a + h)) (G * b)
    (lift (lo *ℤ pos G) (G * a) (G * b) (h * G) (is-times G lo a b (parts lo))) (omega arith))

module _ (b : ℤ) where
  pub lifted : (h : ℕ) → Is (b +ℤ pos h) (plus b + h) (minus b)
  lifted h = lift b (plus b) (minus b) h (parts b)

  -- a number that lies h above b
  pub at-height : (z : ℤ) (p q h : ℕ) → Is z p q → p + minus b ≡ plus b + h + q → z ≡ b +ℤ pos h
  at-height z p q h i e = is-unique z (b +ℤ pos h) (plus b + h) (minus b) (is_eq z p q (plus b + h) (minus b) i e) (lifted h)

  pub max-shift : (x y : ℕ) → max_z (b +ℤ pos x) (b +ℤ pos y) ≡ b +ℤ pos (max x y)
  max-shift x y = at-height (max_z (b +ℤ pos x) (b +ℤ pos y)) _ _ (max x y) (is-max (b +ℤ pos x) (b +ℤ pos y) _ _ _ _ (lifted x) (lifted y)) (omega arith)

  pub min-shift : (x y : ℕ) → min_z (b +ℤ pos x) (b +ℤ pos y) ≡ b +ℤ pos (min x y)
  min-shift x y = at-height (min_z (b +ℤ pos x) (b +ℤ pos y)) _ _ (min x y) (is-min (b +ℤ pos x) (b +ℤ pos y) _ _ _ _ (lifted x) (lifted y)) (omega arith)

  -- more above b
  pub le-above : (x y : ℕ) → x ≤ y → le_z (b +ℤ pos x) (b +ℤ pos y) ≡ true
  le-above x y h =
      let p : ℕ = plus b in
      let q : ℕ = minus b in
      is_le (b +ℤ pos x) (b +ℤ pos y) (p + x) q (p + y) q (lifted x) (lifted y) ∙ le-leb (p + x + q) (p + y + q) (omega arith)
