-- The comparison of plays is a strict order where that of numbers is, and that of the integers is. Document 02, Item 6.
use Prim.Native.Nat.{ℕ}
use mathlib.Core.Path.{◌≡◌, refl, sym, ◌∙◌}
use mathlib.Core.Bool.{Bool, true, false, not, ◌&&◌, ◌||◌}
use native.Mathlib.Omega.{arith}
use borrow.Author.Tests.{ltb-true, ltb-false, lt-ltb, le-ltb}
use lib.Dec.{ltb}
use lib.IntN.{ℤ, pos, negsuc}
use lib.Signed.{lt_z}
use Rattle.field.proofs.Reader.{by_cases}
use Rattle.line.proofs.Signs.{true-ne-false}
use Rattle.table.specs.Root.{Side, AtM, AtN}
use Rattle.search.specs.Search.{below}
use Rattle.search.proofs.Below.{tied, untied, by_first, by-second}
use Rattle.promise.specs.Entered.{Entered, worse}

-- where a is less than c, b is above a or below c
pub record Strict {A : Type 0} (less : A → A → Bool) : Type 0 where
  pub asym : (a b : A) → less a b ≡ true → less b a ≡ false
  pub past : (a b c : A) → less a c ≡ true → less a b ≡ false → less b c ≡ true

module _ {A : Type 0} (less : A → A → Bool) (strict : Strict less) where
  -- the same from the other side
  reversed : Strict (λ (a b : A). less b a)
  reversed = record {
    asym = λ a b h. strict.asym b a h;
    past = λ a b c h k. by_cases (less c b) (λ e. e) (λ e. absurd (true-ne-false (sym (strict.past c b a h e) ∙ k)));
  }

  below-asym : (a b x y : A) → below less a b x y ≡ true → below less b a y x ≡ false
  unfolding below
  below-asym a b x y = go (less a b) (less b a) (less x y) refl refl refl
    where
      go : (p q r : Bool) → less a b ≡ p → less b a ≡ q → less x y ≡ r → (p || (not q && r)) ≡ true → (q || (not p && less y x)) ≡ false
      go true true r ab ba xy h = sym ba ∙ strict.asym a b ab
      go true false r ab ba xy h = refl
      go false true r ab ba xy h = absurd (true-ne-false (sym h))
      go false false true ab ba xy h = strict.asym x y xy
      go false false false ab ba xy h = absurd (true-ne-false (sym h))

  below-past : (a b c x y z : A) → below less a c x z ≡ true → below less a b x y ≡ false → below less b c y z ≡ true
  unfolding below
  below-past a b c x y z h k =
      let n = untied (less a b) (less b a) (less x y) k in
      by_cases (less a c)
      (λ ac. by_first (less b c) (less c b) (less y z) (strict.past a b c ac n.0))
      (λ ac.
      let t = tied (less a c) (less c a) (less x z) h ac in
      by_cases (less b a)
      (λ ba. by_first (less b c) (less c b) (less y z) (reversed.past a c b ba t.0))
      (λ ba. by-second (less b c) (less c b) (less y z) (by_cases (less c b) (λ cb. absurd (true-ne-false (sym (strict.past c a b cb t.0) ∙ n.0))) (λ cb. cb)) (strict.past x y z t.1 (n.1 ba))))

module _ {A : Type 0} (less : A → A → Bool) (strict : Strict less) where
  by_two : (f g : Entered A → A) → Strict (λ (x y : Entered A). below less (f x) (f y) (g x) (g y))
  by_two f g = record {
    asym = λ x y. below-asym less strict (f x) (f y) (g x) (g y);
    past = λ x y z. below-past less strict (f x) (f y) (f z) (g x) (g y) (g z);
  }

  pub worse-strict : (side : Side) → Strict (worse less side)
  worse-strict AtM = by_two (λ x. x.low) (λ x. x.high)
  worse-strict AtN = reversed (λ (x y : Entered A). below less x.high y.high x.low y.low) (by_two (λ x. x.high) (λ x. x.low))

-- ---- the order of the integers

past_n : (a b c : ℕ) → ltb a c ≡ true → ltb a b ≡ false → ltb b c ≡ true
past_n a b c h k = lt-ltb b c (omega (arith, ltb-true a c h, ltb-false a b k))

asym_n : (a b : ℕ) → ltb a b ≡ true → ltb b a ≡ false
asym_n a b h = le-ltb b a (omega (arith, ltb-true a b h))

asym_z : (a b : ℤ) → lt_z a b ≡ true → lt_z b a ≡ false
asym_z (pos m) (pos n) h = asym_n m n h
asym_z (pos m) (negsuc n) h = absurd (true-ne-false (sym h))
asym_z (negsuc m) (pos n) h = refl
asym_z (negsuc m) (negsuc n) h = asym_n n m h

past_z : (a b c : ℤ) → lt_z a c ≡ true → lt_z a b ≡ false → lt_z b c ≡ true
past_z (pos a) (pos b) (pos c) h k = past_n a b c h k
past_z (pos a) (pos b) (negsuc c) h k = absurd (true-ne-false (sym h))
past_z (pos a) (negsuc b) (pos c) h k = refl
past_z (pos a) (negsuc b) (negsuc c) h k = absurd (true-ne-false (sym h))
past_z (negsuc a) (pos b) (pos c) h k = absurd (true-ne-false k)
past_z (negsuc a) (pos b) (negsuc c) h k = absurd (true-ne-false k)
past_z (negsuc a) (negsuc b) (pos c) h k = refl
past_z (negsuc a) (negsuc b) (negsuc c) h k = lt-ltb c b (omega (arith, ltb-true c a h, ltb-false b a k))

pub strict-whole : Strict lt_z
strict-whole = record { asym = asym_z; past = past_z }
