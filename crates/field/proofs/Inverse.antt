-- The columns of which a number was read hold it in some padding.
use Prim.Native.Nat.{ℕ, zero, suc, ◌+◌, ◌-◌, ◌*◌, ◌/◌, ◌^◌, ◌≤◌, ◌<◌}
use mathlib.Core.Path.{◌≡◌, refl, sym, ap, ap₂, subst, ◌∙◌}
use mathlib.Core.Bool.{Bool, true, false, cond}
use mathlib.Core.List.{List, [], ◌∷◌, ◌++◌, append_assoc, append-nil}
use native.Mathlib.Omega.{arith}
use borrow.Author.Tests.{eqb-true, eqb-false, ltb-false, ne_eqb}
use lib.Dec.{eqb, ltb}
use lib.ListN.{length, take, drop, replicate, length-replicate, length-take, length-drop}
use lib.Seq.{length-take-le}
use lib.IntN.{ℤ, pos, negsuc, neg_ℤ, nat_abs}
use Rattle.std.specs.Prelude.{Option, Some, None}
use Rattle.field.specs.Field.{strip, digits, whole, plain, minus, signed, field_of, digit, leading, decimal}
use Rattle.field.specs.Padding.{sign_of, Pads}
use Rattle.field.specs.declared.Field.TheVariants.{Blank, Ill, Number}
use Rattle.field.proofs.Small.{more-digits, wider, strip-shorter, small}
use Rattle.field.proofs.Writing.{leading-all}

-- ---- digits

wrong-digits : {A : Type 0} (m : ℕ) → None ≡ Some m → A
wrong-digits m e = let z : ◌≡◌ {A = ℕ} 0 1 = cc in absurd (omega arith)

ill-number : {A : Type 0} (z : ℤ) → Ill ≡ Number z → A
ill-number z e = let z : ◌≡◌ {A = ℕ} 0 1 = cc in absurd (omega arith)

-- the first of some digits is one, and the others go on from it
record Goes (n b : ℕ) (s : List ℕ) (m : ℕ) : Type 0 where
  low : 48 ≤ b
  high : b ≤ 57
  on : digits (n * 10 + (b - 48)) s ≡ Some m

goes : (n b : ℕ) (s : List ℕ) (m : ℕ) → digits n (b ∷ s) ≡ Some m → Goes n b s m
unfolding digits
goes n b s m e = go (ltb b 48) (ltb 57 b) refl refl e
  where
    go : (t u : Bool) → ltb b 48 ≡ t → ltb 57 b ≡ u → cond t None (cond u None (digits (n * 10 + (b - 48)) s)) ≡ Some m → Goes n b s m
    go true u x y e = wrong-digits m e
    go false true x y e = wrong-digits m e
    go false false x y e = record { low = ltb-false b 48 x; high = ltb-false 57 b y; on = e }

-- a digit written after the number n
digit-more : (n b : ℕ) → 0 < n → n < 10 ^ 14 → 48 ≤ b → b ≤ 57 → leading 15 (n * 10 + (b - 48)) ≡ leading 15 n ++ (b ∷ [])
unfolding leading
digit-more n b p h l u =
    let q : (n * 10 + (b - 48)) / 10 ≡ n = omega arith in
    let d : digit (n * 10 + (b - 48)) ≡ b = omega arith in
    rw (ne_eqb (n * 10 + (b - 48)) 0 (omega arith), q, d, leading-all 14 n h) refl

-- the digits s after the number n, which has at most j of them
digits-text : (s : List ℕ) (n j m : ℕ) → 0 < n → n < 10 ^ j → j + length s ≤ 15 → digits n s ≡ Some m
    → (0 < m) × (leading 15 n ++ s ≡ leading 15 m)
unfolding digits
digits-text [] n j m p h g e = let q : n ≡ m = cc in (omega arith, append-nil (leading 15 n) ∙ ap (leading 15) q)
digits-text (b ∷ s) n j m p h g e =
    let c = goes n b s m e in
    let d : b - 48 < 10 = omega (arith, c.low, c.high) in
    let r = digits-text s (n * 10 + (b - 48)) (j + 1) m (omega arith) (more-digits n j (b - 48) h d) (omega arith) c.on in
    let f = digit-more n b p (wider n j 14 h (omega arith)) c.low c.high in
    (r.0, sym (append_assoc (leading 15 n) (b ∷ []) s) ∙ ap (λ (x : List ℕ). x ++ s) (sym f) ∙ r.1)

-- 15 digits or fewer are all of a number's digits
decimal-all : (m : ℕ) → 0 < m → leading 15 m ≡ decimal m
unfolding leading
decimal-all m p = rw (ne_eqb m 0 (omega arith))

-- zeros, then the digits of m
record Zeroed (s : List ℕ) (m : ℕ) : Type 0 where
  zeros : ℕ
  is : s ≡ replicate zeros 48 ++ decimal m

digits-zeroed : (b : ℕ) (s : List ℕ) (m : ℕ) → length (b ∷ s) ≤ 15 → digits 0 (b ∷ s) ≡ Some m → Zeroed (b ∷ s) m
unfolding digits leading
digits-zeroed b [] m h e =
    let c = goes 0 b [] m e in
    let f : 0 * 10 + (b - 48) ≡ m = cc in
    let q : m / 10 ≡ 0 = omega (arith, c.low, c.high) in
    let d : b ≡ digit m = omega (arith, c.low, c.high) in
    record { zeros = 0; is = rw q (ap (λ (x : ℕ). x ∷ []) d) }
digits-zeroed b (c ∷ s) m h e = go (eqb b 48) refl (λ d. digits-zeroed c s m (omega arith) d)
  where
    g : Goes 0 b (c ∷ s) m
    g = goes 0 b (c ∷ s) m e

    go : (t : Bool) → eqb b 48 ≡ t → (digits 0 (c ∷ s) ≡ Some m → Zeroed (c ∷ s) m) → Zeroed (b ∷ c ∷ s) m
    go true x rest =
        let q : b ≡ 48 = eqb-true b 48 x in
        let z : 0 * 10 + (b - 48) ≡ 0 = omega arith in
        let r = rest (ap (λ (n : ℕ). digits n (c ∷ s)) (sym z) ∙ g.on) in
        record { zeros = suc r.zeros; is = ap₂ ◌∷◌ q r.is }
    go false x rest =
        let n : ℕ = 0 * 10 + (b - 48) in
        let o : b ≡ 48 → ⊥ = eqb-false b 48 x in
        let p : 0 < n = omega (arith, g.low) in
        let u : n < 10 ^ 1 = omega (arith, g.high) in
        let r = digits-text (c ∷ s) n 1 m p u (omega arith) g.on in
        let q : n / 10 ≡ 0 = omega arith in
        let d : digit n ≡ b = omega (arith, g.low) in
        let first : leading 15 n ≡ b ∷ [] = decimal-all n p ∙ rw (q, d) in
        record { zeros = 0; is = ap (λ (x : List ℕ). x ++ (c ∷ s)) (sym first) ∙ r.1 ∙ decimal-all m r.0 }

whole-zeroed : (s : List ℕ) (m : ℕ) → length s ≤ 15 → whole s ≡ Some m → Zeroed s m
unfolding whole
whole-zeroed [] m h e = wrong-digits m e
whole-zeroed (b ∷ s) m h e = digits-zeroed b s m h e

-- ---- the sign

-- the sign, zeros, then the digits of z
record Signed (s : List ℕ) (z : ℤ) : Type 0 where
  zeros : ℕ
  is : s ≡ sign_of z ++ (replicate zeros 48 ++ decimal (nat_abs z))

plain-signed : (w : Option ℕ) (z : ℤ) (s : List ℕ) → plain w ≡ Number z → ((m : ℕ) → w ≡ Some m → Zeroed s m) → Signed s z
plain-signed None z s e f = ill-number z e
plain-signed (Some n) z s e f =
    let q : pos n ≡ z = cc in
    let r = f n refl in
    subst (Signed s) q (record { zeros = r.zeros; is = r.is })

minus-signed : (w : Option ℕ) (z : ℤ) (s : List ℕ) → minus w ≡ Number z → ((m : ℕ) → w ≡ Some m → Zeroed s m) → Signed (45 ∷ s) z
minus-signed None z s e f = ill-number z e
minus-signed (Some zero) z s e f = ill-number z e
minus-signed (Some (suc n)) z s e f = go (eqb (suc n) 0) refl e
  where
    go : (t : Bool) → eqb (suc n) 0 ≡ t → cond t Ill (Number (negsuc n)) ≡ Number z → Signed (45 ∷ s) z
    go true x e = ill-number z e
    go false x e =
        let q : negsuc n ≡ z = cc in
        let r = f (suc n) refl in
        subst (Signed (45 ∷ s)) q (record { zeros = r.zeros; is = ap (λ (x : List ℕ). 45 ∷ x) r.is })

signed-text : (s : List ℕ) (z : ℤ) → length s ≤ 15 → signed s ≡ Number z → Signed s z
unfolding signed
signed-text [] z h e = let z : ◌≡◌ {A = ℕ} 0 1 = cc in absurd (omega arith)
signed-text (b ∷ s) z h e = go (eqb b 45) refl e
  where
    go : (t : Bool) → eqb b 45 ≡ t → cond t (minus (whole s)) (plain (whole (b ∷ s))) ≡ Number z → Signed (b ∷ s) z
    go true x e =
        subst (λ (c : ℕ). Signed (c ∷ s) z) (sym (eqb-true b 45 x)) (minus-signed (whole s) z s e (λ m. whole-zeroed s m (omega arith)))
    go false x e = plain-signed (whole (b ∷ s)) z (b ∷ s) e (λ m. whole-zeroed (b ∷ s) m h)

plain-filled : {A : Type 0} (w : Option ℕ) → plain w ≡ Blank → A
plain-filled None e = let z : ◌≡◌ {A = ℕ} 0 1 = cc in absurd (omega arith)
plain-filled (Some n) e = let z : ◌≡◌ {A = ℕ} 0 1 = cc in absurd (omega arith)

minus-filled : {A : Type 0} (w : Option ℕ) → minus w ≡ Blank → A
minus-filled None e = let z : ◌≡◌ {A = ℕ} 0 1 = cc in absurd (omega arith)
minus-filled {A} (Some n) e = go (eqb n 0) e
  where
    go : (t : Bool) → cond t Ill (Number (neg_ℤ (pos n))) ≡ Blank → A
    go true e = let z : ◌≡◌ {A = ℕ} 0 1 = cc in absurd (omega arith)
    go false e = let z : ◌≡◌ {A = ℕ} 0 1 = cc in absurd (omega arith)

signed-blank : (s : List ℕ) → signed s ≡ Blank → s ≡ []
unfolding signed
signed-blank [] e = refl
signed-blank (b ∷ s) e = go (eqb b 45) e
  where
    go : (t : Bool) → cond t (minus (whole s)) (plain (whole (b ∷ s))) ≡ Blank → b ∷ s ≡ []
    go true e = minus-filled (whole s) e
    go false e = plain-filled (whole (b ∷ s)) e

-- ---- the blanks before it

-- blanks, then what stands after them
record Stripped (t : List ℕ) : Type 0 where
  blanks : ℕ
  is : t ≡ replicate blanks 32 ++ strip t

stripped : (t : List ℕ) → Stripped t
unfolding strip
stripped [] = record { blanks = 0; is = refl }
stripped (b ∷ t) = go (stripped t) (eqb b 32) refl
  where
    go : Stripped t → (c : Bool) → eqb b 32 ≡ c → Stripped (b ∷ t)
    go r true x = record { blanks = suc r.blanks; is = rw x (ap₂ ◌∷◌ (eqb-true b 32 x) r.is) }
    go r false x = record { blanks = 0; is = rw x refl }

all-blank : (t : List ℕ) → strip t ≡ [] → t ≡ replicate (length t) 32
all-blank t e =
    let r = stripped t in
    let is : t ≡ replicate r.blanks 32 = r.is ∙ ap (λ (x : List ℕ). replicate r.blanks 32 ++ x) e ∙ append-nil (replicate r.blanks 32) in
    is ∙ ap (λ (k : ℕ). replicate k 32) (sym (ap length is ∙ length-replicate r.blanks 32))

-- ---- a field

module _ (s : List ℕ) (from width : ℕ) where
  abbrev part : List ℕ
  part = take width (drop from s)

  part-short : length part ≤ width
  part-short = omega (arith, length-take width (drop from s))

  pub number-pads : (z : ℤ) → width ≤ 15 → field_of s from width ≡ Number z → Pads z part
  number-pads z h e =
      let b = stripped part in
      let t = signed-text (strip part) z (omega (arith, strip-shorter part, part-short)) e in
      record {
        blanks = b.blanks;
        zeros = t.zeros;
        is = b.is ∙ ap (λ (x : List ℕ). replicate b.blanks 32 ++ x) t.is;
        small = wider (nat_abs z) width 15 (small s from width z e) h;
      }

  pub blank-text : from + width ≤ length s → field_of s from width ≡ Blank → part ≡ replicate width 32
  blank-text room e =
      all-blank part (signed-blank (strip part) e)
      ∙ ap (λ (n : ℕ). replicate n 32) (length-take-le width (drop from s) (omega (arith, length-drop from s)))
