-- Worths over heights: no division by a C's own sum leaves a remainder, as the grain count is divided by the sums on each path.
use Prim.Native.Nat.{ℕ, ◌*◌, ◌/◌, ◌<◌, ◌∣◌}
use mathlib.Core.Path.{◌≡◌, refl, sym}
use mathlib.Core.Bool.{true}
use mathlib.Core.List.{List, [], ◌∷◌}
use native.Mathlib.Nat.{dvd_trans, dvd-zero, dvd-add, dvd-mul_right, dvd-mul_left_of_dvd, dvd_of_mul-dvd-mul_left, mul-div_cancel'}
use Rattle.line.proofs.Signs.{true-ne-false}
use Rattle.table.specs.Tree.{Kind, MAX, MIN, CHANCE, Forest, end, leaf, inner, is_chance, weigh}
use Rattle.table.specs.Accepted.{Totals}
use Rattle.table.proofs.Totals.{grade, Divided}
use Rattle.worth.specs.Worth.{Share, total}
use Rattle.worth.specs.Inside.Heights.{summed, height_value, height_shares, ExactHeights}
use Rattle.worth.proofs.Bounds.{Each, tallest-one, shortest-one, weights-shares}

-- a divisor of each worth divides the sum
summed-dvd : (g : ℕ) (xs : List (Share ℕ)) → Each (λ (x : ℕ). g ∣ x) xs → g ∣ summed xs
unfolding summed
summed-dvd g [] e = dvd-zero g
summed-dvd g (x ∷ xs) e = dvd-add g (dvd-mul_left_of_dvd g e.0 x.weight) (summed-dvd g xs e.1)

-- what T times g divides is divided by T without a remainder, and g divides the quotient
share-whole : (T g s : ℕ) → T * g ∣ s → T * (s / T) ≡ s
share-whole T g s h = mul-div_cancel' T (dvd_trans T (dvd-mul_right T g) h)

share-dvd : (T g s : ℕ) → 0 < T → T * g ∣ s → g ∣ s / T
share-dvd T g s p h = dvd_of_mul-dvd-mul_left g p (rw (share-whole T g s h) h)

-- one node, from its children: where they are divided by its own sum times g, or g at M and N, g divides its worth
value-dvd : (g : ℕ) (k : Kind) (xs : List (Share ℕ)) → (is_chance k ≡ true → 0 < total xs) → Each (λ (x : ℕ). grade k (total xs) g ∣ x) xs → g ∣ height_value k xs
unfolding height_value
value-dvd g MAX xs p e = tallest-one (λ (x : ℕ). g ∣ x) (dvd-zero g) xs e
value-dvd g MIN xs p e = shortest-one (λ (x : ℕ). g ∣ x) (dvd-zero g) xs e
value-dvd g CHANCE xs p e = share-dvd (total xs) g (summed xs) (p refl) (summed-dvd (total xs * g) xs e)

value-whole : (g : ℕ) (k : Kind) (xs : List (Share ℕ)) → Each (λ (x : ℕ). grade k (total xs) g ∣ x) xs → is_chance k ≡ true
    → total xs * height_value k xs ≡ summed xs
unfolding height_value
value-whole g MAX xs e i = absurd (true-ne-false (sym i))
value-whole g MIN xs e i = absurd (true-ne-false (sym i))
value-whole g CHANCE xs e i = share-whole (total xs) g (summed xs) (summed-dvd (total xs * g) xs e)

module _ (G : ℕ) where
  -- a leaf of G grains to the point is divided by what divides G
  even : (g : ℕ) (F : Forest ℕ) → Divided G g F → Totals (λ (n : ℕ). 0 < n) F → Each (λ (x : ℕ). g ∣ x) (height_shares G F)
  unfolding height_shares
  even g end d b = tt
  even g (leaf n w h rest) d b = (dvd-mul_left_of_dvd g d.0 h, even g rest d.1 b)
  even g (inner n w k under rest) d b =
      let e = weights-shares G under in (
        value-dvd g k (height_shares G under) (λ i. rw e (b.0 i)) (rw e (even (grade k (weigh under) g) under d.1 b.1)),
        even g rest d.2 b.2,
      )

  pub exact-heights : (g : ℕ) (F : Forest ℕ) → Divided G g F → Totals (λ (n : ℕ). 0 < n) F → ExactHeights G F
  exact-heights g end d b = tt
  exact-heights g (leaf n w h rest) d b = exact-heights g rest d.1 b
  exact-heights g (inner n w k under rest) d b = (
    value-whole g k (height_shares G under) (rw (weights-shares G under) (even (grade k (weigh under) g) under d.1 b.1)),
    exact-heights (grade k (weigh under) g) under d.1 b.1,
    exact-heights g rest d.2 b.2,
  )
