-- A number of few digits is small, and so is one that a field of few columns holds.
use Prim.Native.Nat.{ℕ, suc, ◌+◌, ◌-◌, ◌*◌, ◌/◌, ◌^◌, ◌≤◌, ◌<◌}
use mathlib.Core.Path.{◌≡◌}
use mathlib.Core.Bool.{Bool, true, false, not, cond}
use mathlib.Core.List.{List, [], ◌∷◌}
use native.Mathlib.Numerals.{add-one}
use native.Mathlib.Nat.{pow-suc, pow-le-pow_right}
use native.Mathlib.Omega.{arith}
use lib.Dec.{T as Holds, eqb, ltb, lit<, nltb→le}
use lib.ListN.{length, take, drop, length-take}
use lib.IntN.{ℤ, pos, nat_abs}
use Rattle.std.specs.Prelude.{Option, Some, None}
use Rattle.field.specs.Field.{strip, digits, whole, plain, minus, signed, field_of}
use Rattle.field.specs.declared.Field.{Field}
use Rattle.field.specs.declared.Field.TheVariants.{Blank, Ill, Number}
use Rattle.field.proofs.Bits.{abs_neg}

-- by cases on a test
pub choose : {A : Type 0} {x y : A} (P : A → Type 0) (b : Bool) → (Holds b → P x) → (Holds (not b) → P y) → P (cond b x y)
choose P true f g = f tt
choose P false f g = g tt

pub one-or-none : (b : Bool) → cond b 1 0 ≤ 1
one-or-none true = omega arith
one-or-none false = omega arith

-- a digit more, a digit less, and room to spare
pub more-digits : (n i d : ℕ) → n < 10 ^ i → d < 10 → n * 10 + d < 10 ^ (i + 1)
more-digits n i d h k = rw (add-one, pow-suc) (omega arith)

pub tenth : (n i : ℕ) → n < 10 ^ suc i → n / 10 < 10 ^ i
tenth n i h = let s : n < 10 ^ i * 10 = rw pow-suc at h in omega arith

pub wider : (n i k : ℕ) → n < 10 ^ i → i ≤ k → n < 10 ^ k
wider n i k h g = omega (arith, pow-le-pow_right {n = 10} (lit< tt) g)

-- a number, if it is one, of at most k digits
abbrev Few : ℕ → Option ℕ → Type 0
Few k (Some m) = m < 10 ^ k
Few k None = Unit

abbrev Near : ℕ → Field → Type 0
Near k (Number z) = nat_abs z < 10 ^ k
Near k Ill = Unit
Near k Blank = Unit

digits-few : (k : ℕ) (s : List ℕ) (n j : ℕ) → n < 10 ^ j → j + length s ≤ k → Few k (digits n s)
unfolding digits
digits-few k [] n j h g = wider n j k h (omega arith)
digits-few k (b ∷ s) n j h g =
    choose (Few k) (ltb b 48) (λ _. tt)
    (λ _. choose (Few k) (ltb 57 b) (λ _. tt)
    (λ q.
    let d : b - 48 < 10 = omega (arith, nltb→le 57 b q) in
    digits-few k s (n * 10 + (b - 48)) (j + 1) (more-digits n j (b - 48) h d) (omega arith)))

whole-few : (k : ℕ) (s : List ℕ) → length s ≤ k → Few k (whole s)
unfolding whole
whole-few k [] h = tt
whole-few k (b ∷ s) h = digits-few k (b ∷ s) 0 0 (lit< tt) (omega arith)

pub digits_small : (s : List ℕ) (m : ℕ) → digits 0 s ≡ Some m → length s ≤ 18 → m < 10 ^ 18
digits_small s m e h = rw e at (digits-few 18 s 0 0 (lit< tt) (omega arith))

plain-near : (k : ℕ) (n : Option ℕ) → Few k n → Near k (plain n)
plain-near k (Some m) h = h
plain-near k None h = tt

minus-near : (k : ℕ) (n : Option ℕ) → Few k n → Near k (minus n)
minus-near k (Some m) h = choose (Near k) (eqb m 0) (λ _. tt) (λ _. rw (abs_neg (pos m)) h)
minus-near k None h = tt

signed-near : (k : ℕ) (t : List ℕ) → length t ≤ k → Near k (signed t)
unfolding signed
signed-near k [] h = tt
signed-near k (b ∷ s) h =
    choose (Near k) (eqb b 45)
    (λ _. minus-near k (whole s) (whole-few k s (omega arith)))
    (λ _. plain-near k (whole (b ∷ s)) (whole-few k (b ∷ s) h))

pub strip-shorter : (t : List ℕ) → length (strip t) ≤ length t
unfolding strip
strip-shorter [] = omega arith
strip-shorter (b ∷ s) =
    choose {x = strip s} (λ l. length l ≤ suc (length s)) (eqb b 32) (λ _. omega (arith, strip-shorter s)) (λ _. omega arith)

-- the number in a field of `width` columns has at most as many digits
pub small : (s : List ℕ) (from width : ℕ) (z : ℤ) → field_of s from width ≡ Number z → nat_abs z < 10 ^ width
small s from width z e =
    let t : List ℕ = take width (drop from s) in
    rw e at (signed-near width (strip t) (omega (arith, strip-shorter t, length-take width (drop from s))))
