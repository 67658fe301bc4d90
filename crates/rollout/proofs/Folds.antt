-- The maximum or minimum over two lists, entry beside entry.
use Prim.Native.Nat.{ℕ, min, max, ◌≤◌}
use mathlib.Core.Path.{◌≡◌, refl}
use mathlib.Core.List.{List, [], ◌∷◌}
use native.Mathlib.Decide.{dec_le}
use native.Mathlib.Omega.{arith}
use Rattle.table.specs.Tree.{Kind, MAX, MIN, CHANCE}
use Rattle.rollout.specs.Inside.Heights.{natural}
use Rattle.rollout.specs.Rollout.{joined, over}

abbrev pub Some : {A : Type 0} → List A → Type 0
Some [] = ⊥
Some (x ∷ l) = Unit {0}

-- R of each two entries that stand beside one another
pub data Beside {A B : Type 0} (R : A → B → Type 0) : List A → List B → Type 0 where
  done : Beside R [] []
  also : {x : A} {y : B} {l : List A} {m : List B} → R x y → Beside R l m → Beside R (x ∷ l) (y ∷ m)

-- whatever stands for an empty list
pub over_any : (k : Kind) (a b : ℕ) (l : List ℕ) → Some l → over natural k a l ≡ over natural k b l
unfolding over
over_any k a b [] s = absurd s
over_any k a b (x ∷ []) s = refl
over_any k a b (x ∷ y ∷ l) s = rw (over_any k a b (y ∷ l) tt)

-- what every two entries have, and the greater or the lesser of two keeps, the two extremes have
pub over-both : (R : ℕ → ℕ → Type 0) (k : Kind) → ((x y u v : ℕ) → R x u → R y v → R (joined natural k x y) (joined natural k u v))
    → (a b : ℕ) {l m : List ℕ} → Some l → Beside R l m → R (over natural k a l) (over natural k b m)
unfolding over
over-both R k f a b s done = absurd s
over-both R k f a b s (also r done) = r
over-both R k f a b s (also r (also q t)) = f _ _ _ _ r (over-both R k f a b tt (also q t))

joined-le : (k : Kind) (x y u v : ℕ) → x ≤ u → y ≤ v → joined natural k x y ≤ joined natural k u v
joined-le MAX x y u v p q = omega arith
joined-le MIN x y u v p q = omega arith
joined-le CHANCE x y u v p q = omega arith

pub over-le : (k : Kind) (a b : ℕ) {l m : List ℕ} → Some l → Beside (λ (x y : ℕ). x ≤ y) l m → over natural k a l ≤ over natural k b m
over-le k a b s t = over-both (λ (x y : ℕ). x ≤ y) k (joined-le k) a b s t

-- the window α to β met with the bounds l and h is empty
abbrev pub Shut : (α β l h : ℕ) → Type 0
Shut α β l h = min β h ≤ max α l

-- `omega` splits at most six times
low-more : (a x l m : ℕ) → (m ≤ max a x → m ≤ max a (max x l)) × (m ≤ max a l → m ≤ max a (max x l))
low-more a x l m = (λ p. omega arith, λ p. omega arith)

high-less : (b y h m : ℕ) → (min b y ≤ m → min b (min y h) ≤ m) × (min b h ≤ m → min b (min y h) ≤ m)
high-less b y h m = (λ p. omega arith, λ p. omega arith)

max-shut : (α β x y u v : ℕ) → Shut α β x u → Shut α β y v → Shut α β (max x y) (max u v)
max-shut α β x y u v p q =
    elim (dec_le u v) [
      | yes r ↦ let e : max u v ≡ v = omega arith in rw e ((low-more α x y (min β v)).1 q)
      | no r ↦ let e : max u v ≡ u = omega arith in rw e ((low-more α x y (min β u)).0 p)
    ]

min-shut : (α β x y u v : ℕ) → Shut α β x u → Shut α β y v → Shut α β (min x y) (min u v)
min-shut α β x y u v p q =
    elim (dec_le x y) [
      | yes r ↦ let e : min x y ≡ x = omega arith in rw e ((high-less β u v (max α x)).0 p)
      | no r ↦ let e : min x y ≡ y = omega arith in rw e ((high-less β u v (max α y)).1 q)
    ]

joined-shut : (α β : ℕ) (k : Kind) (x y u v : ℕ) → Shut α β x u → Shut α β y v → Shut α β (joined natural k x y) (joined natural k u v)
joined-shut α β MAX x y u v p q = max-shut α β x y u v p q
joined-shut α β MIN x y u v p q = min-shut α β x y u v p q
joined-shut α β CHANCE x y u v p q = max-shut α β x y u v p q

pub over-shut : (α β : ℕ) (k : Kind) (a b : ℕ) {l m : List ℕ} → Some l → Beside (Shut α β) l m → Shut α β (over natural k a l) (over natural k b m)
over-shut α β k a b s t = over-both (Shut α β) k (joined-shut α β k) a b s t
