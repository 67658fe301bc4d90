-- What the code that reads a field from its end knows, and what the field then is.
use Prim.Native.Nat.{ℕ, suc, ◌+◌, ◌-◌, ◌*◌, ◌≤◌, ◌<◌, ◌^◌}
use mathlib.Core.Path.{◌≡◌, refl, ap, sym, ◌∙◌}
use mathlib.Core.Bool.{Bool, true, false, cond}
use mathlib.Core.List.{List, [], ◌∷◌, ◌++◌, append_assoc, append-nil}
use native.Mathlib.Nat.{pow-suc}
use native.Mathlib.Omega.{arith}
use borrow.Author.Tests.{eqb-true}
use lib.Dec.{eqb}
use lib.ListN.{length, get_or, take, drop, take-append-drop, length-drop}
use lib.Seq.{drop-cons}
use Rattle.std.specs.Prelude.{Some, None}
use Rattle.std.specs.Char.{is_ascii_digit}
use Rattle.std.specs.List.{list_all, IsLastAndRest}
use Rattle.std.proofs.Math.Seq.{take-suc}
use Rattle.std.proofs.lemmas.List.{take_all, drop_all, length-take-le}
use Rattle.std.proofs.lemmas.Bool.Decides.{nat_tests}
use Rattle.std.proofs.lemmas.Grind.{common_steps}
use Rattle.field.specs.Field.{strip, digits, whole, plain, minus, signed}
use Rattle.field.specs.Inside.{off, with_sign}
use Rattle.field.specs.declared.Field.{Field}
use Rattle.field.specs.declared.Field.TheVariants.{Blank, Ill, Number}

pub by_cases : {P : Type 0} (b : Bool) → (b ≡ true → P) → (b ≡ false → P) → P
by_cases true f g = f refl
by_cases false f g = g refl

-- ---- digits

is-digit : (b n m : ℕ) (s : List ℕ) → digits n (b ∷ s) ≡ Some m → is_ascii_digit b ≡ true
unfolding digits
is-digit b n m s e = grind (arith, nat_tests)

on : (b n m : ℕ) (s : List ℕ) → digits n (b ∷ s) ≡ Some m → digits (n * 10 + (b - 48)) s ≡ Some m
unfolding digits
on b n m s e = grind (arith, nat_tests)

step : (b n : ℕ) (s : List ℕ) → is_ascii_digit b ≡ true → digits n (b ∷ s) ≡ digits (n * 10 + (b - 48)) s
unfolding digits
step b n s h = grind (arith, nat_tests)

none-more : (n m : ℕ) → digits n [] ≡ Some m → n ≡ m
unfolding digits
none-more n m e = cc

pub no-digits : (t : List ℕ) → digits 0 (drop (length t) t) ≡ Some 0
unfolding digits
no-digits t = rw (drop_all (length t) t (omega arith))

-- what stands before digits counts as many times as they have columns
more-left : (s : List ℕ) (a m v : ℕ) → digits a s ≡ Some v → digits (a + m) s ≡ Some (v + 10 ^ length s * m)
unfolding digits
more-left [] a m v e = let r : a + m ≡ v + 1 * m = omega (arith, none-more a v e) in ap Some r
more-left (b ∷ s) a m v e =
    let n : (a + m) * 10 + (b - 48) ≡ a * 10 + (b - 48) + m * 10 = omega arith in
    let p : 10 ^ length s * (m * 10) ≡ 10 ^ suc (length s) * m = rw pow-suc (omega arith) in
    step b (a + m) s (is-digit b a v s e) ∙ rw n (more-left s (a * 10 + (b - 48)) (m * 10) v (on b a v s e) ∙ rw p)

pub left-digit
    : (t : List ℕ) (i n : ℕ)
    → 0 < i
    → i ≤ length t
    → is_ascii_digit (get_or t (i - 1) 0) ≡ true
    → digits 0 (drop i t) ≡ Some n
    → digits 0 (drop (i - 1) t) ≡ Some (n + 10 ^ (length t - i) * (get_or t (i - 1) 0 - 48))
left-digit t i n p l d e =
    let k : suc (i - 1) ≡ i = omega arith in
    rw (drop-cons t (i - 1) 0 (omega arith), k, step (get_or t (i - 1) 0) 0 (drop i t) d)
    (rw (length-drop i t) at (more-left (drop i t) 0 (get_or t (i - 1) 0 - 48) n e))

-- ---- a byte that is no digit

other-none : (b n : ℕ) (s : List ℕ) → is_ascii_digit b ≡ false → digits n (b ∷ s) ≡ None
unfolding digits
other-none b n s h = grind (arith, nat_tests)

none-in : (p : List ℕ) (c n : ℕ) (s : List ℕ) → is_ascii_digit c ≡ false → digits n (p ++ (c ∷ s)) ≡ None
unfolding digits
none-in [] c n s h = other-none c n s h
none-in (b ∷ p) c n s h = grind (arith, none-in p c (n * 10 + (b - 48)) s h)

whole-none : (p : List ℕ) (c : ℕ) (s : List ℕ) → is_ascii_digit c ≡ false → whole (p ++ (c ∷ s)) ≡ None
unfolding whole
whole-none [] c s h = none-in [] c 0 s h
whole-none (b ∷ p) c s h = none-in (b ∷ p) c 0 s h

-- after any byte, and alone
later-ill : (b : ℕ) (p : List ℕ) (c : ℕ) (s : List ℕ) → is_ascii_digit c ≡ false → signed (b ∷ (p ++ (c ∷ s))) ≡ Ill
unfolding signed
later-ill b p c s h = grind (arith, whole-none p c s h, whole-none (b ∷ p) c s h)

sole-ill : (c : ℕ) → eqb c 32 ≡ false → is_ascii_digit c ≡ false → signed (strip (c ∷ [])) ≡ Ill
unfolding strip signed whole
sole-ill c h g = grind (arith, other-none c 0 [] g)

-- ---- blanks

abbrev blank : List ℕ → Bool
blank f = list_all (λ b. eqb b 32) f

cleared : (f s : List ℕ) → blank f ≡ true → strip (f ++ s) ≡ strip s
unfolding strip
cleared [] s h = refl
cleared (b ∷ f) s h = grind (arith, cleared f s)

unclear : (f : List ℕ) (c : ℕ) (s : List ℕ) → blank f ≡ false → is_ascii_digit c ≡ false → signed (strip (f ++ (c ∷ s))) ≡ Ill
unfolding strip
unclear [] c s h g = absurd (grind arith)
unclear (b ∷ f) c s h g = grind (arith, unclear f c s, later-ill b f c s)

unclear-last : (f : List ℕ) (c : ℕ) → blank (f ++ (c ∷ [])) ≡ false → is_ascii_digit c ≡ false → signed (strip (f ++ (c ∷ []))) ≡ Ill
unclear-last f c h g =
    by_cases (blank f)
    (λ q. rw (cleared f (c ∷ []) q) (sole-ill c (grind (arith, common_steps)) g))
    (λ q. unclear f c [] q g)

-- ---- digits with a byte before them

opened
    : (c b n : ℕ) (s : List ℕ)
    → is_ascii_digit c ≡ false
    → digits 0 (b ∷ s) ≡ Some n
    → signed (strip (c ∷ b ∷ s)) ≡ cond (eqb c 32) (plain (whole (b ∷ s))) (cond (eqb c 45) (minus (whole (b ∷ s))) Ill)
unfolding strip signed
opened c b n s g m = grind (arith, nat_tests, is-digit b 0 n s m, whole-none [] c (b ∷ s) g)

-- what n means with c before its digits
abbrev pub after : ℕ → ℕ → Field
after c n = cond (off c n) Ill (Number (with_sign (eqb c 45) n))

after-is : (c n : ℕ) (t : List ℕ) → 0 < length t → is_ascii_digit c ≡ false → digits 0 t ≡ Some n → signed (strip (c ∷ t)) ≡ after c n
unfolding whole
after-is c n [] l g m = absurd (omega arith)
after-is c n (b ∷ s) l g m =
    rw (opened c b n s g m, m)
    (by_cases (eqb c 32)
    (λ q. let e : c ≡ 32 = eqb-true c 32 q in rw e)
    (λ q. by_cases (eqb c 45)
    (λ p. let e : c ≡ 45 = eqb-true c 45 p in rw e)
    (λ p. rw (q, p))))

-- ---- the columns t, of which those from k on are the digits of n, and the one before them is none

last-of : (f : List ℕ) → 0 < length f → IsLastAndRest f (get_or f (length f - 1) 0) (take (length f - 1) f)
last-of f h =
    let n : suc (length f - 1) ≡ length f = omega arith in
    let all : take (suc (length f - 1)) f ≡ f = take_all (suc (length f - 1)) f (omega arith) in
    (sym all ∙ take-suc f (length f - 1) 0 (omega arith), omega (arith, length-take-le (length f - 1) f (omega arith)))

blank-first : (s : List ℕ) → strip (32 ∷ s) ≡ strip s
unfolding strip
blank-first s = refl

none-blank : signed (strip []) ≡ Blank
unfolding signed strip
none-blank = refl

module _ (t : List ℕ) (k : ℕ) (within : k ≤ length t) (stops : 0 < k → is_ascii_digit (get_or t (k - 1) 0) ≡ false) where
  module _ (no-digit : k ≡ length t) where
    all : take k t ≡ t
    all = take_all k t (omega arith)

    pub all-blank : blank (take k t) ≡ true → Blank ≡ signed (strip t)
    all-blank h = sym (ap (λ x. signed (strip x)) (sym (append-nil t)) ∙ ap signed (cleared t [] (rw all at h)) ∙ none-blank)

    pub not-blank : blank (take k t) ≡ false → Ill ≡ signed (strip t)
    not-blank h =
        let some : 0 < length t = grind (arith, common_steps) in
        let l = last-of t some in
        let other : is_ascii_digit (get_or t (length t - 1) 0) ≡ false = rw no-digit at (stops (omega arith)) in
        sym (ap (λ x. signed (strip x)) l.0 ∙ unclear-last (take (length t - 1) t) (get_or t (length t - 1) 0) (rw (all, l.0) at h) other)

  module _ (n : ℕ) (number : digits 0 (drop k t) ≡ Some n) (some : k ≡ length t → ⊥) where
    after-digits : (c : ℕ) → is_ascii_digit c ≡ false → after c n ≡ signed (strip (c ∷ drop k t))
    after-digits c g = sym (after-is c n (drop k t) (omega (arith, length-drop k t)) g number)

    pub bare : length (take k t) ≡ 0 → after 32 n ≡ signed (strip t)
    bare e =
        let z : k ≡ 0 = omega (arith, length-take-le k t within) in
        let d : drop k t ≡ t = rw z in
        after-digits 32 refl ∙ ap signed (blank-first (drop k t) ∙ ap strip d)

    module _ (c : ℕ) (r : List ℕ) (l : IsLastAndRest (take k t) c r) where
      parted : r ++ (c ∷ drop k t) ≡ t
      parted = rw (l.0, append_assoc) at (take-append-drop k t)

      other : is_ascii_digit c ≡ false
      other =
          let i : length r ≡ k - 1 = omega (arith, length-take-le k t within) in
          let p : 0 < k = omega (arith, length-take-le k t within) in
          let here : get_or (r ++ (c ∷ drop k t)) (length r) 0 ≡ c = grind (arith, common_steps) in
          let e : c ≡ get_or t (k - 1) 0 = rw (← i) (sym here ∙ ap (λ x. get_or x (length r) 0) parted) in
          rw e (stops p)

      pub clear : blank r ≡ true → after c n ≡ signed (strip t)
      clear h = after-digits c other ∙ ap signed (sym (cleared r (c ∷ drop k t) h) ∙ ap strip parted)

      pub not-clear : blank r ≡ false → Ill ≡ signed (strip t)
      not-clear h = sym (ap (λ x. signed (strip x)) (sym parted) ∙ unclear r c (drop k t) h other)
