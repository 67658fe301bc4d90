-- What holds of `below`, by which plays are compared. Document 02, Item 6.
use Prim.Native.Nat.{ℕ, ◌≤◌}
use mathlib.Core.Path.{◌≡◌, refl, sym, ap₂}
use mathlib.Core.Bool.{Bool, true, false, not, ◌&&◌, ◌||◌}
use native.Mathlib.Omega.{arith}
use borrow.Author.Tests.{ltb-true, ltb-false, lt-ltb, le-ltb}
use lib.Dec.{ltb}
use Rattle.field.proofs.Reader.{by_cases}
use Rattle.line.proofs.Signs.{true-ne-false}
use Rattle.search.specs.Search.{below}

-- p || (not q && r), as `below` has it: where it is true and p is not, where it is not, and how it becomes true
pub tied : (p q r : Bool) → (p || (not q && r)) ≡ true → p ≡ false → (q ≡ false) × (r ≡ true)
tied true q r h e = absurd (true-ne-false e)
tied false true r h e = absurd (true-ne-false (sym h))
tied false false r h e = (refl, h)

pub untied : (p q r : Bool) → (p || (not q && r)) ≡ false → (p ≡ false) × (q ≡ false → r ≡ false)
untied true q r h = absurd (true-ne-false h)
untied false true r h = (refl, λ e. absurd (true-ne-false e))
untied false false r h = (refl, λ e. h)

pub by_first : (p q r : Bool) → p ≡ true → (p || (not q && r)) ≡ true
by_first true q r e = refl
by_first false q r e = absurd (true-ne-false (sym e))

pub by-second : (p q r : Bool) → q ≡ false → r ≡ true → (p || (not q && r)) ≡ true
by-second true q r e f = refl
by-second false true r e f = absurd (true-ne-false e)
by-second false false r e f = f

pub below-le : (a b x y : ℕ) → below ltb a b x y ≡ true → a ≤ b
unfolding below
below-le a b x y h =
    by_cases (ltb a b) (λ e. omega (arith, ltb-true a b e)) (λ e. ltb-false b a (tied (ltb a b) (ltb b a) (ltb x y) h e).0)

pub below-ge : (a b x y : ℕ) → below ltb a b x y ≡ false → b ≤ a
unfolding below
below-ge a b x y h = ltb-false a b (untied (ltb a b) (ltb b a) (ltb x y) h).0

-- where there is a tie, and where there is none
pub below-tie : (a b x y : ℕ) → a ≡ b → below ltb a b x y ≡ ltb x y
unfolding below
below-tie a b x y e = rw (le-ltb a b (omega arith), le-ltb b a (omega arith)) refl

pub below_apart : (a b x y : ℕ) → (a ≡ b → ⊥) → below ltb a b x y ≡ ltb a b
unfolding below
below_apart a b x y ne = go (ltb a b) refl
  where
    go : (t : Bool) → ltb a b ≡ t → (t || (not (ltb b a) && ltb x y)) ≡ t
    go true e = refl
    go false e = rw (lt-ltb b a (omega (arith, ltb-false a b e, ne))) refl

-- the same comparisons of other numbers
pub below-same : {A B : Type 0} (less : A → A → Bool) (also : B → B → Bool) (a b x y : A) (c d u v : B)
    → less a b ≡ also c d → less b a ≡ also d c → less x y ≡ also u v → below less a b x y ≡ below also c d u v
unfolding below
below-same less also a b x y c d u v p q r = ap₂ ◌||◌ p (ap₂ (λ (m n : Bool). not m && n) q r)
