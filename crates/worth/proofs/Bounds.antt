-- Worths over heights: every node is worth at most the span in grains, and a sum under a C at most its own total times that.
use Prim.Native.Nat.{ℕ, suc, ◌+◌, ◌*◌, ◌≤◌, min, max}
use mathlib.Core.Path.{◌≡◌, refl, ap}
use mathlib.Core.Bool.{Bool}
use mathlib.Core.List.{List, [], ◌∷◌}
use native.Mathlib.Decide.{dec_le}
use native.Mathlib.Nat.{max-eq_left, max-eq_right, min-eq_left, min-eq_right, mul-le-mul_left, mul-le-mul_right, div-le_of_le-mul}
use native.Mathlib.Omega.{arith}
use Rattle.table.specs.Tree.{Kind, MAX, MIN, CHANCE, Forest, end, leaf, inner, is_chance, weigh}
use Rattle.table.specs.Accepted.{one, Proper}
use Rattle.worth.specs.Worth.{Share, total}
use Rattle.worth.specs.Inside.Heights.{tallest, shortest, summed, height_value, height_shares, SmallWorths}

-- ---- lists of shares

-- P of each worth
abbrev pub Each : (ℕ → Type 0) → List (Share ℕ) → Type 0
Each P [] = Unit {0}
Each P (x ∷ xs) = P x.worth × Each P xs

-- the greater and the lesser are one of the two
max-one : (P : ℕ → Type 0) (a b : ℕ) → P a → P b → P (max a b)
max-one P a b p q = elim (dec_le a b) [ yes h ↦ rw (max-eq_right h) q | no h ↦ let l : b ≤ a = omega arith in rw (max-eq_left l) p ]

min-one : (P : ℕ → Type 0) (a b : ℕ) → P a → P b → P (min a b)
min-one P a b p q = elim (dec_le a b) [ yes h ↦ rw (min-eq_left h) p | no h ↦ let l : b ≤ a = omega arith in rw (min-eq_right l) q ]

pub tallest-one : (P : ℕ → Type 0) → P 0 → (xs : List (Share ℕ)) → Each P xs → P (tallest xs)
unfolding tallest
tallest-one P z [] e = z
tallest-one P z (x ∷ []) e = e.0
tallest-one P z (x ∷ y ∷ ys) e = max-one P x.worth (tallest (y ∷ ys)) e.0 (tallest-one P z (y ∷ ys) e.1)

pub shortest-one : (P : ℕ → Type 0) → P 0 → (xs : List (Share ℕ)) → Each P xs → P (shortest xs)
unfolding shortest
shortest-one P z [] e = z
shortest-one P z (x ∷ []) e = e.0
shortest-one P z (x ∷ y ∷ ys) e = min-one P x.worth (shortest (y ∷ ys)) e.0 (shortest-one P z (y ∷ ys) e.1)

pub summed-le : (M : ℕ) (xs : List (Share ℕ)) → Each (λ (x : ℕ). x ≤ M) xs → summed xs ≤ total xs * M
unfolding summed total
summed-le M [] e = omega arith
summed-le M (x ∷ xs) e = omega (arith, mul-le-mul_left x.weight e.0, summed-le M xs e.1)

-- one node, from its children
value-le : (M : ℕ) (k : Kind) (xs : List (Share ℕ)) → Each (λ (x : ℕ). x ≤ M) xs → height_value k xs ≤ M
unfolding height_value
value-le M MAX xs e = tallest-one (λ (x : ℕ). x ≤ M) (omega arith) xs e
value-le M MIN xs e = shortest-one (λ (x : ℕ). x ≤ M) (omega arith) xs e
value-le M CHANCE xs e = div-le_of_le-mul (total xs) (summed-le M xs e)

-- ---- forests

module _ (G : ℕ) where
  pub weights-shares : (F : Forest ℕ) → total (height_shares G F) ≡ weigh F
  unfolding total height_shares weigh
  weights-shares end = refl
  weights-shares (leaf n w h rest) = ap (λ (x : ℕ). w + x) (weights-shares rest)
  weights-shares (inner n w k under rest) = ap (λ (x : ℕ). w + x) (weights-shares rest)

  pub small-each : (M : ℕ) (F : Forest ℕ) → SmallWorths G M F → Each (λ (x : ℕ). x ≤ M) (height_shares G F)
  unfolding height_shares
  small-each M end s = tt
  small-each M (leaf n w h rest) s = (s.0, small-each M rest s.1)
  small-each M (inner n w k under rest) s = (s.0, small-each M rest s.2)

  pub small : (T K S d c : ℕ) (u : Bool) (F : Forest ℕ) → Proper T K (λ (x : ℕ). x ≤ S) d c u F → SmallWorths G (S * G) F
  small T K S d c u end p = tt
  small T K S d c u (leaf n w h rest) p = (mul-le-mul_right G p.1, small T K S d c u rest p.4)
  small T K S d c u (inner n w k under rest) p =
      let s : SmallWorths G (S * G) under = small T K S (suc d) (c + one k) (is_chance k) under p.3 in
      (value-le (S * G) k (height_shares G under) (small-each (S * G) under s), s, small T K S d c u rest p.4)
