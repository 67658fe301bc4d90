-- One argument over the totals: at every node the grain count is divided by the sums of the C on the path down to it, whichever totals these are; and
-- where there is one total, its uses are all the C. Document 02, Item 5.
use Prim.Native.Nat.{ℕ, ◌+◌, ◌*◌, ◌-◌, ◌^◌, max, ◌≤◌, ◌<◌, ◌∣◌}
use mathlib.Core.Path.{◌≡◌, refl, sym, ap, subst, ◌∙◌}
use mathlib.Core.Bool.{Bool, true, false, ◌||◌, ◌&&◌, cond}
use mathlib.Core.List.{List, [], ◌∷◌, ◌++◌}
use native.Mathlib.Nat.{dvd_trans, dvd-mul_left, dvd_refl, mul-dvd-mul, mul_assoc, mul_left_comm, mul-one, mul-pos, pow-zero, one-le-pow, sub-le}
use native.Mathlib.Omega.{arith}
use borrow.Author.Tests.{eqb-true, eq-eqb}
use lib.Dec.{eqb}
use lib.IntN.{ℤ}
use Rattle.numbers.proofs.Powers.{power-dvd, power-more}
use Rattle.line.specs.declared.Head.{Head}
use Rattle.line.specs.declared.Line.{Line}
use Rattle.line.specs.Line.{totals, among}
use Rattle.line.proofs.Signs.{true-ne-false}
use Rattle.table.specs.Tree.{Kind, MAX, MIN, CHANCE, Forest, end, leaf, inner, is_chance, weigh, powers, used, uses, grain_of}
use Rattle.table.specs.Table.{greatest}
use Rattle.table.specs.Inside.{deepest}
use Rattle.table.specs.Accepted.{one, flat, Totals, Balanced}
use Rattle.table.proofs.Heights.{map_forest, map-weigh, map-uses}

-- ---- what holds of each total

pub totals-all : {A : Type 0} (P Q : ℕ → Type 0) → ((n : ℕ) → P n → Q n) → (F : Forest A) → Totals P F → Totals Q F
totals-all P Q f end b = tt
totals-all P Q f (leaf n w v rest) b = totals-all P Q f rest b
totals-all P Q f (inner n w k under rest) b = (λ i. f (weigh under) (b.0 i), totals-all P Q f under b.1, totals-all P Q f rest b.2)

-- ---- powers

-- one use less of t
abbrev less : (ℕ → ℕ) → ℕ → ℕ → ℕ
less K t u = K u - cond (eqb t u) 1 0

powers-dvd : (ts : List ℕ) (K J : ℕ → ℕ) → ((t : ℕ) → J t ≤ K t) → powers ts J ∣ powers ts K
unfolding powers
powers-dvd [] K J h = dvd_refl 1
powers-dvd (t ∷ ts) K J h = mul-dvd-mul (t ^ J t) (powers ts J) (power-dvd t (J t) (K t) (h t)) (powers-dvd ts K J h)

power-step : (t a : ℕ) → 1 ≤ a → t * t ^ (a - 1) ∣ t ^ a
power-step t a h = let e : a - 1 + 1 ≡ a = omega arith in rw (← power-more t (a - 1), e) (dvd_refl (t ^ a))

-- a use of t taken out
powers-step : (ts : List ℕ) (K : ℕ → ℕ) (t : ℕ) → among t ts ≡ true → 1 ≤ K t → t * powers ts (less K t) ∣ powers ts K
unfolding powers among
powers-step [] K t m h = absurd (true-ne-false (sym m))
powers-step (x ∷ xs) K t m h = go (powers-step xs K t) (eqb t x) refl m
  where
    rest : powers xs (less K t) ∣ powers xs K
    rest = powers-dvd xs K (less K t) (λ u. sub-le (K u) (cond (eqb t u) 1 0))

    go : (among t xs ≡ true → 1 ≤ K t → t * powers xs (less K t) ∣ powers xs K) → (b : Bool) → eqb t x ≡ b → (b || among t xs) ≡ true
        → t * (x ^ (K x - cond b 1 0) * powers xs (less K t)) ∣ x ^ K x * powers xs K
    go ih true e m =
        let z : t ≡ x = eqb-true t x e in
        rw (← z, ← mul_assoc t (t ^ (K t - 1)) (powers xs (less K t)))
        (mul-dvd-mul (t * t ^ (K t - 1)) (powers xs (less K t)) (power-step t (K t) h) rest)
    go ih false e m =
        rw (mul_left_comm t (x ^ (K x - 0)) (powers xs (less K t)))
        (mul-dvd-mul (x ^ (K x - 0)) (t * powers xs (less K t)) (power-dvd x (K x - 0) (K x) (sub-le (K x) 0)) (ih m h))

pub powers-none : (ts : List ℕ) (K : ℕ → ℕ) → ((t : ℕ) → K t ≡ 0) → powers ts K ≡ 1
unfolding powers
powers-none [] K h = refl
powers-none (t ∷ ts) K h = rw (h t, pow-zero t, powers-none ts K h) refl

pub powers-some : (ts : List ℕ) (K : ℕ → ℕ) → ((t : ℕ) → among t ts ≡ true → 0 < t) → 0 < powers ts K
unfolding powers among
powers-some [] K h = omega arith
powers-some (t ∷ ts) K h =
    mul-pos (one-le-pow (K t) t (h t (rw (eq-eqb t t refl) refl))) (powers-some ts K (λ u m. h u (or-more (eqb u t) (among u ts) m)))
  where
    or-more : (a b : Bool) → b ≡ true → (a || b) ≡ true
    or-more true b m = refl
    or-more false b m = m

-- ---- the divisor, carried down the tree

-- what divides the worths under a node of the kind k, where g divides its own and its weights sum to T
abbrev pub grade : Kind → ℕ → ℕ → ℕ
grade MAX T g = g
grade MIN T g = g
grade CHANCE T g = T * g

-- at every node, g and the sums of the C on the path down to it, multiplied, divide G
abbrev pub Divided : {A : Type 0} → (G g : ℕ) → Forest A → Type 0
Divided G g end = Unit {0}
Divided G g (leaf n w v rest) = (g ∣ G) × Divided G g rest
Divided G g (inner n w k under rest) = (grade k (weigh under) g ∣ G) × Divided G (grade k (weigh under) g) under × Divided G g rest

one-use : (t : ℕ) → ◌≡◌ {A = ℕ} (cond (eqb t t) 1 0) 1
one-use t = rw (eq-eqb t t refl)

-- what is left of the powers under a C
under-chance : (ts : List ℕ) (K : ℕ → ℕ) (T g G : ℕ) → among T ts ≡ true → 1 ≤ K T → powers ts K * g ∣ G → powers ts (less K T) * (T * g) ∣ G
under-chance ts K T g G m h d =
    let P : ℕ = powers ts (less K T) in
    let e : P * (T * g) ≡ T * P * g = omega arith in
    rw e (dvd_trans (T * P * g) (mul-dvd-mul (T * P) g (powers-step ts K T m h) (dvd_refl g)) d)

-- what is left of the powers under a node, and enough for the uses there
record Left {A : Type 0} (ts : List ℕ) (G g : ℕ) (under : Forest A) : Type 0 where
  often : ℕ → ℕ
  enough : (t : ℕ) → uses t under ≤ often t
  divides : powers ts often * g ∣ G

module _ {A : Type 0} (ts : List ℕ) (G : ℕ) where
  left-under : (k : Kind) (under : Forest A) (K : ℕ → ℕ) (g : ℕ) → (is_chance k ≡ true → among (weigh under) ts ≡ true) → ((t : ℕ) → used t k under + uses t under ≤ K t)
      → powers ts K * g ∣ G → Left ts G (grade k (weigh under) g) under
  left-under MAX under K g b u d = record { often = K; enough = λ t. omega (arith, u t); divides = d }
  left-under MIN under K g b u d = record { often = K; enough = λ t. omega (arith, u t); divides = d }
  left-under CHANCE under K g b u d =
      let T : ℕ = weigh under in
      record { often = less K T; enough = λ t. omega (arith, u t); divides = under-chance ts K T g G (b refl) (omega (arith, u T, one-use T)) d }

  divided-by : (f : Forest A) (K : ℕ → ℕ) (g : ℕ) → Balanced ts f → ((t : ℕ) → uses t f ≤ K t) → powers ts K * g ∣ G → Divided G g f
  unfolding uses
  divided-by end K g b u d = tt
  divided-by (leaf n w v rest) K g b u d = (dvd_trans g (dvd-mul_left g (powers ts K)) d, divided-by rest K g b u d)
  divided-by (inner n w k under rest) K g b u d =
      let j : ℕ = grade k (weigh under) g in
      let L : Left ts G j under = left-under k under K g b.0 (λ t. omega (arith, u t)) d in (
        dvd_trans j (dvd-mul_left j (powers ts L.often)) L.divides,
        divided-by under L.often j b.1 L.enough L.divides,
        divided-by rest K g b.2 (λ t. omega (arith, u t)) d,
      )

-- the grain count of these nodes is divided so
pub divided : {A : Type 0} (ts : List ℕ) (f : Forest A) → Balanced ts f → Divided (grain_of ts f) 1 f
divided ts f b =
    divided-by ts (grain_of ts f) f (λ (t : ℕ). uses t f) 1 b (λ t. omega arith) (rw (mul-one (grain_of ts f)) (dvd_refl (grain_of ts f)))

-- other values at the leaves change nothing in it
pub map-grain : {A B : Type 0} (h : A → B) (ts : List ℕ) (f : Forest A) → grain_of ts (map_forest h f) ≡ grain_of ts f
map-grain h ts f i = powers ts (λ (t : ℕ). map-uses h t f i)

pub map-divided : {A B : Type 0} (h : A → B) (G g : ℕ) (f : Forest A) → Divided G g f → Divided G g (map_forest h f)
map-divided h G g end d = tt
map-divided h G g (leaf n w v rest) d = (d.0, map-divided h G g rest d.1)
map-divided h G g (inner n w k under rest) d =
    rw (map-weigh h under) (d.0, map-divided h G (grade k (weigh under) g) under d.1, map-divided h G g rest d.2)

-- ---- C on a path

greatest-both : (xs ys : List Line) → greatest (xs ++ ys) ≡ max (greatest xs) (greatest ys)
unfolding greatest
greatest-both [] ys = omega arith
greatest-both (x ∷ xs) ys = rw (greatest-both xs ys) (omega arith)

-- below c C
flat-deepest : (p c : ℕ) (f : Forest ℤ) → max c (greatest (flat p c f)) ≡ c + deepest f
unfolding greatest flat deepest
flat-deepest p c end = omega arith
flat-deepest p c (leaf n w v rest) = omega (arith, flat-deepest p c rest)
flat-deepest p c (inner n w k under rest) =
    rw (greatest-both (flat n (c + one k) under) (flat p c rest)) (omega (arith, flat-deepest n (c + one k) under, flat-deepest p c rest))

pub root-deepest : (f : Forest ℤ) → greatest (flat 0 0 f) ≡ deepest f
root-deepest f = omega (arith, flat-deepest 0 0 f)

used-few : (b c : Bool) → cond (b && c) 1 0 ≤ cond b 1 0
used-few true true = omega arith
used-few true false = omega arith
used-few false c = omega arith

-- no total has more uses than there are C
pub uses-few : {A : Type 0} (t : ℕ) (f : Forest A) → uses t f ≤ deepest f
unfolding uses deepest
uses-few t end = omega arith
uses-few t (leaf n w v rest) = uses-few t rest
uses-few t (inner n w k under rest) = omega (arith, used-few (is_chance k) (eqb (weigh under) t), uses-few t under, uses-few t rest)

-- ---- one total

only : (n T : ℕ) → among n (T ∷ []) ≡ true → eqb n T ≡ true
unfolding among
only n T m = go (eqb n T) m
  where
    go : (b : Bool) → (b || false) ≡ true → b ≡ true
    go true m = refl
    go false m = absurd (true-ne-false (sym m))

used-one : {A : Type 0} (T : ℕ) (k : Kind) (under : Forest A) → (is_chance k ≡ true → among (weigh under) (T ∷ []) ≡ true) → used T k under ≡ one k
used-one T MAX under b = refl
used-one T MIN under b = refl
used-one T CHANCE under b = rw (only (weigh under) T (b refl))

-- every C is a use of it
uses-one : {A : Type 0} (T : ℕ) (f : Forest A) → Balanced (T ∷ []) f → uses T f ≡ deepest f
unfolding uses deepest
uses-one T end b = refl
uses-one T (leaf n w v rest) b = uses-one T rest b
uses-one T (inner n w k under rest) b = rw (used-one T k under b.0, uses-one T under b.1, uses-one T rest b.2)

-- so the grain count is "T to the power K"
pub grain-one : {A : Type 0} (h : Head) (f : Forest A) → h.second ≡ 0 → Balanced (totals h) f → grain_of (totals h) f ≡ h.total ^ deepest f
unfolding powers
grain-one h f none b =
    let T : ℕ = h.total in
    let e : totals h ≡ T ∷ [] = rw none refl in
    ap (λ (ts : List ℕ). grain_of ts f) e
    ∙ ap (λ (j : ℕ). T ^ j * 1) (uses-one T f (subst (λ (ts : List ℕ). Balanced ts f) e b))
    ∙ mul-one (T ^ deepest f)
