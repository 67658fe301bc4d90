-- An integer as a difference of two naturals, `Is z a b` (z is a - b): what the operations do to such differences.
use Prim.Native.Nat.{ℕ, zero, suc, ◌+◌, ◌*◌, ◌-◌, ◌/◌, min, max, ◌≤◌, ◌<◌}
use mathlib.Core.Path.{◌≡◌, refl, sym, ap, subst, ◌∙◌}
use mathlib.Core.Bool.{Bool, true, false, not, cond}
use native.Mathlib.Nat.{add_comm, le-div_iff_mul-le, div-lt_iff_lt-mul, lt_of_mul-lt-mul_left}
use native.Mathlib.Omega.{arith}
use borrow.Author.Tests.{ne_eqb}
use lib.Dec.{T as Holds, leb, ltb, eqb, eqb→eq, eqb_refl, leb→le, le→leb, ltb→lt, nltb→le, nleb→lt}
use lib.IntN.{ℤ, pos, negsuc, neg_ℤ, sub_ℕ, ◌+ℤ◌, ◌-ℤ◌, ◌*ℤ◌}
use lib.Signed.{le_z}
use Rattle.numbers.specs.Integers.{max_z, min_z, eq_z, floor_z}

pub same_test : (b c : Bool) → (Holds b → Holds c) → (Holds c → Holds b) → b ≡ c
same_test true true f g = refl
same_test true false f g = absurd (f tt)
same_test false true f g = absurd (g tt)
same_test false false f g = refl

same-equal : (m n a b : ℕ) → (m ≡ n → a ≡ b) → (a ≡ b → m ≡ n) → eqb m n ≡ eqb a b
same-equal m n a b f g =
    same_test (eqb m n) (eqb a b) (λ h. holds a b (f (eqb→eq m n h))) (λ h. holds m n (g (eqb→eq a b h)))
  where
    holds : (x y : ℕ) → x ≡ y → Holds (eqb x y)
    holds x y e = subst (λ (v : ℕ). Holds (eqb x v)) e (eqb_refl x)

abbrev pub Is : ℤ → ℕ → ℕ → Type 0
Is (pos n) a b = n + b ≡ a
Is (negsuc n) a b = suc n + a ≡ b

-- an integer's two parts
abbrev pub plus : ℤ → ℕ
plus (pos n) = n
plus (negsuc n) = 0

abbrev pub minus : ℤ → ℕ
minus (pos n) = 0
minus (negsuc n) = suc n

pub parts : (z : ℤ) → Is z (plus z) (minus z)
parts (pos n) = omega arith
parts (negsuc n) = omega arith

pub is-unique : (y z : ℤ) (a b : ℕ) → Is y a b → Is z a b → y ≡ z
is-unique (pos m) (pos n) a b p q = ap pos (omega arith)
is-unique (pos m) (negsuc n) a b p q = absurd (omega arith)
is-unique (negsuc m) (pos n) a b p q = absurd (omega arith)
is-unique (negsuc m) (negsuc n) a b p q = ap negsuc (omega arith)

pub is_eq : (z : ℤ) (a b c d : ℕ) → Is z a b → a + d ≡ c + b → Is z c d
is_eq (pos n) a b c d p e = omega arith
is_eq (negsuc n) a b c d p e = omega arith

is-pick : (t : Bool) (a b : ℕ) → (Holds t → a < b) → (Holds (not t) → b ≤ a) → Is (cond t (negsuc (b - suc a)) (pos (a - b))) a b
is-pick true a b f g = omega (arith, f tt)
is-pick false a b f g = omega (arith, g tt)

is-sub : (a b : ℕ) → Is (sub_ℕ a b) a b
is-sub a b = is-pick (ltb a b) a b (ltb→lt a b) (nltb→le a b)

pub is-add : (y z : ℤ) (a b c d : ℕ) → Is y a b → Is z c d → Is (y +ℤ z) (a + c) (b + d)
is-add (pos m) (pos n) a b c d p q = omega arith
is-add (pos m) (negsuc n) a b c d p q = is_eq (sub_ℕ m (suc n)) m (suc n) _ _ (is-sub m (suc n)) (omega arith)
is-add (negsuc m) (pos n) a b c d p q = is_eq (sub_ℕ n (suc m)) n (suc m) _ _ (is-sub n (suc m)) (omega arith)
is-add (negsuc m) (negsuc n) a b c d p q = omega arith

pub is-neg : (z : ℤ) (a b : ℕ) → Is z a b → Is (neg_ℤ z) b a
is-neg (pos zero) a b p = omega arith
is-neg (pos (suc n)) a b p = omega arith
is-neg (negsuc n) a b p = omega arith

pub is-minus : (y z : ℤ) (a b c d : ℕ) → Is y a b → Is z c d → Is (y -ℤ z) (a + d) (b + c)
is-minus y z a b c d p q = is-add y (neg_ℤ z) a b d c p (is-neg z c d q)

pub is_mul : (w : ℕ) (z : ℤ) (a b : ℕ) → Is z a b → Is (pos w *ℤ z) (w * a) (w * b)
is_mul w (pos n) a b p = omega (arith, ap (λ x. w * x) p)
is_mul w (negsuc n) a b p = is-neg (pos (w * suc n)) (w * b) (w * a) (omega (arith, ap (λ x. w * x) p))

is_same : (y z : ℤ) (a b c d : ℕ) → Is y a b → Is z c d → eq_z y z ≡ eqb (a + d) (c + b)
is_same (pos m) (pos n) a b c d p q = same-equal m n (a + d) (c + b) (λ h. omega arith) (λ h. omega arith)
is_same (pos m) (negsuc n) a b c d p q = sym (ne_eqb (a + d) (c + b) (λ h. absurd (omega arith)))
is_same (negsuc m) (pos n) a b c d p q = sym (ne_eqb (a + d) (c + b) (λ h. absurd (omega arith)))
is_same (negsuc m) (negsuc n) a b c d p q = same-equal m n (a + d) (c + b) (λ h. omega arith) (λ h. omega arith)

pub same-flip : (y z : ℤ) → eq_z y z ≡ eq_z z y
same-flip (pos m) (pos n) = same-equal m n n m sym sym
same-flip (pos m) (negsuc n) = refl
same-flip (negsuc m) (pos n) = refl
same-flip (negsuc m) (negsuc n) = same-equal m n n m sym sym

-- two integers are equal where their difference is 0
pub minus-none : (y z : ℤ) → eq_z (y -ℤ z) (pos 0) ≡ eq_z y z
minus-none y z =
    let a : ℕ = plus y in
    let b : ℕ = minus y in
    let c : ℕ = plus z in
    let d : ℕ = minus z in
    is_same (y -ℤ z) (pos 0) (a + d) (b + c) 0 0 (is-minus y z a b c d (parts y) (parts z)) refl
    ∙ same-equal (a + d + 0) (0 + (b + c)) (a + d) (c + b) (λ h. omega arith) (λ h. omega arith)
    ∙ sym (is_same y z a b c d (parts y) (parts z))

pub is_le : (y z : ℤ) (a b c d : ℕ) → Is y a b → Is z c d → le_z y z ≡ leb (a + d) (c + b)
is_le (pos m) (pos n) a b c d p q =
    same_test (leb m n) (leb (a + d) (c + b))
    (λ h. le→leb (a + d) (c + b) (omega (arith, leb→le m n h)))
    (λ h. le→leb m n (omega (arith, leb→le (a + d) (c + b) h)))
is_le (pos m) (negsuc n) a b c d p q = same_test false (leb (a + d) (c + b)) absurd (λ h. absurd (omega (arith, leb→le (a + d) (c + b) h)))
is_le (negsuc m) (pos n) a b c d p q = same_test true (leb (a + d) (c + b)) (λ h. le→leb (a + d) (c + b) (omega arith)) (λ h. tt)
is_le (negsuc m) (negsuc n) a b c d p q =
    same_test (leb n m) (leb (a + d) (c + b))
    (λ h. le→leb (a + d) (c + b) (omega (arith, leb→le n m h)))
    (λ h. le→leb n m (omega (arith, leb→le (a + d) (c + b) h)))

-- the one of two numbers that a test t picks
is-either : (t : Bool) (y z : ℤ) (a b c d m : ℕ) → Is y a b → Is z c d → (Holds t → m ≡ c + b) → (Holds (not t) → m ≡ a + d) → Is (cond t z y) m (b + d)
is-either true y z a b c d m p q f g = is_eq z c d m (b + d) q (omega (arith, f tt))
is-either false y z a b c d m p q f g = is_eq y a b m (b + d) p (omega (arith, g tt))

pub is-max : (y z : ℤ) (a b c d : ℕ) → Is y a b → Is z c d → Is (max_z y z) (max (a + d) (c + b)) (b + d)
unfolding max_z
is-max y z a b c d p q =
    rw (is_le y z a b c d p q) (is-either (leb (a + d) (c + b)) y z a b c d (max (a + d) (c + b)) p q
    (λ h. omega (arith, leb→le (a + d) (c + b) h)) (λ h. omega (arith, nleb→lt (a + d) (c + b) h)))

pub is-min : (y z : ℤ) (a b c d : ℕ) → Is y a b → Is z c d → Is (min_z y z) (min (a + d) (c + b)) (b + d)
unfolding min_z
is-min y z a b c d p q =
    rw (is_le y z a b c d p q, add_comm b d) (is-either (leb (a + d) (c + b)) z y c d a b (min (a + d) (c + b)) q p
    (λ h. omega (arith, leb→le (a + d) (c + b) h)) (λ h. omega (arith, nleb→lt (a + d) (c + b) h)))

-- m - n is the quotient of a - b by w, rounded down
pub is-floor : (w : ℕ) (z : ℤ) (a b m n : ℕ) → 0 < w → Is z a b → w * m + b ≤ a + w * n → a + w * n < w * m + w + b → Is (floor_z z w) m n
unfolding floor_z
is-floor w (pos x) a b m n w-pos p l u =
    let d : n < suc m = lt_of_mul-lt-mul_left w (omega arith) in
    let e : m ≡ n + (m - n) = omega arith in
    let f : w * m ≡ w * (n + (m - n)) = ap (λ y. w * y) e in
    let low : m - n ≤ x / w = (le-div_iff_mul-le w-pos).1 (omega arith) in
    let high : x / w < suc (m - n) = (div-lt_iff_lt-mul w-pos).1 (omega arith) in
    omega arith
is-floor w (negsuc x) a b m n w-pos p l u =
    let d : m < n = lt_of_mul-lt-mul_left w (omega arith) in
    let e : n ≡ m + (n - m) = omega arith in
    let f : w * n ≡ w * (m + (n - m)) = ap (λ y. w * y) e in
    let low : n - m ≤ (suc x + (w - 1)) / w = (le-div_iff_mul-le w-pos).1 (omega arith) in
    let high : (suc x + (w - 1)) / w < suc (n - m) = (div-lt_iff_lt-mul w-pos).1 (omega arith) in
    is-neg (pos ((suc x + (w - 1)) / w)) n m (omega arith)
