-- The worth over the integers is the lowest end in grains and the worth over heights.
use Prim.Native.Nat.{ℕ, suc, ◌+◌, ◌*◌, ◌/◌, ◌<◌}
use mathlib.Core.Path.{◌≡◌, refl, sym, ap, ap₂, ◌∙◌}
use mathlib.Core.Bool.{Bool, true, false}
use mathlib.Core.List.{List, [], ◌∷◌, map}
use native.Mathlib.Nat.{lt-mul-div-succ, mul-div-le}
use native.Mathlib.Omega.{arith}
use lib.IntN.{ℤ, pos, ◌+ℤ◌, ◌*ℤ◌}
use Rattle.numbers.specs.Integers.{max_z, min_z, floor_z}
use Rattle.numbers.proofs.Signs.{Is, plus, minus, parts, is-unique, is_eq, is-add, is_mul, is-floor}
use Rattle.numbers.proofs.Above.{lift, lifted, at-height, max-shift, min-shift}
use Rattle.line.specs.declared.Head.{Head}
use Rattle.line.specs.Line.{Within}
use Rattle.line.proofs.Signs.{true-ne-false}
use Rattle.table.specs.Tree.{Kind, MAX, MIN, CHANCE, Forest, end, leaf, inner, is_chance, is_end, weigh}
use Rattle.table.specs.Accepted.{one, Filled, Totals, Proper}
use Rattle.table.proofs.Heights.{above, map_forest, map-end, map-weigh}
use Rattle.table.proofs.Ends.{utility-shift}
use Rattle.worth.specs.Worth.{Share, total, largest, smallest, weighted, value, shares, first_worth, Exact}
use Rattle.worth.specs.Inside.Heights.{tallest, shortest, summed, height_value, height_shares, first_height, raised, ExactHeights}
use Rattle.worth.proofs.Bounds.{weights-shares}

-- a list that is not empty
abbrev pub Some : List (Share ℕ) → Type 0
Some [] = ⊥
Some (x ∷ xs) = Unit {0}

module _ (b : ℤ) where
  -- ---- one node

  largest-shift : (xs : List (Share ℕ)) → Some xs → largest (map (raised b) xs) ≡ b +ℤ pos (tallest xs)
  unfolding largest tallest
  largest-shift [] s = absurd s
  largest-shift (x ∷ []) s = refl
  largest-shift (x ∷ y ∷ ys) s =
      ap (max_z (b +ℤ pos x.worth)) (largest-shift (y ∷ ys) tt) ∙ max-shift b x.worth (tallest (y ∷ ys))

  smallest-shift : (xs : List (Share ℕ)) → Some xs → smallest (map (raised b) xs) ≡ b +ℤ pos (shortest xs)
  unfolding smallest shortest
  smallest-shift [] s = absurd s
  smallest-shift (x ∷ []) s = refl
  smallest-shift (x ∷ y ∷ ys) s =
      ap (min_z (b +ℤ pos x.worth)) (smallest-shift (y ∷ ys) tt) ∙ min-shift b x.worth (shortest (y ∷ ys))

  weighted-is : (p q : ℕ) → Is b p q → (xs : List (Share ℕ)) → Is (weighted (map (raised b) xs)) (total xs * p + summed xs) (total xs * q)
  unfolding weighted total summed
  weighted-is p q i [] = omega arith
  weighted-is p q i (x ∷ xs) =
      let w : ℕ = x.weight in
      let v : ℕ = x.worth in
      let y : ℤ = pos w *ℤ (b +ℤ pos v) in
      let z : ℤ = weighted (map (raised b) xs) in
      let W : ℕ = total xs in
      let s : ℕ = summed xs in
      is_eq (y +ℤ z) (w * (p + v) + (W * p + s)) (w * q + W * q) ((w + W) * p + (w * v + s)) ((w + W) * q)
      (is-add y z (w * (p + v)) (w * q) (W * p + s) (W * q) (is_mul w (b +ℤ pos v) (p + v) q (lift b p q v i)) (weighted-is p q i xs)) (omega arith)

  total-shift : (xs : List (Share ℕ)) → total (map (raised b) xs) ≡ total xs
  unfolding total
  total-shift [] = refl
  total-shift (x ∷ xs) = ap (λ (n : ℕ). x.weight + n) (total-shift xs)

  floor-shift : (xs : List (Share ℕ)) → 0 < total xs → floor_z (weighted (map (raised b) xs)) (total (map (raised b) xs)) ≡ b +ℤ pos (summed xs / total xs)
  floor-shift xs some =
      let p : ℕ = plus b in
      let q : ℕ = minus b in
      let s : ℕ = summed xs in
      let T : ℕ = total xs in
      ap (floor_z (weighted (map (raised b) xs))) (total-shift xs)
      ∙ at-height b (floor_z (weighted (map (raised b) xs)) T) (p + s / T) q (s / T)
      (is-floor T (weighted (map (raised b) xs)) (T * p + s) (T * q) (p + s / T) q some (weighted-is p q (parts b) xs)
      (omega (arith, mul-div-le s T)) (omega (arith, lt-mul-div-succ s some)))
      refl

  value-shift : (k : Kind) (xs : List (Share ℕ)) → Some xs → (is_chance k ≡ true → 0 < total xs)
      → value k (map (raised b) xs) ≡ b +ℤ pos (height_value k xs)
  unfolding value height_value
  value-shift MAX xs s w = largest-shift xs s
  value-shift MIN xs s w = smallest-shift xs s
  value-shift CHANCE xs s w = floor-shift xs (w refl)

  -- the total times a worth is the sum where it is so over heights
  whole-shift : (v : ℕ) (xs : List (Share ℕ)) → total xs * v ≡ summed xs
      → pos (total (map (raised b) xs)) *ℤ (b +ℤ pos v) ≡ weighted (map (raised b) xs)
  whole-shift v xs f =
      let p : ℕ = plus b in
      let q : ℕ = minus b in
      let T : ℕ = total xs in
      ap (λ (n : ℕ). pos n *ℤ (b +ℤ pos v)) (total-shift xs)
      ∙ is-unique (pos T *ℤ (b +ℤ pos v)) (weighted (map (raised b) xs)) (T * (p + v)) (T * q)
      (is_mul T (b +ℤ pos v) (p + v) q (lifted b v))
      (is_eq (weighted (map (raised b) xs)) (T * p + summed xs) (T * q) (T * (p + v)) (T * q) (weighted-is p q (parts b) xs) (omega arith))

  pub first-shift : (xs : List (Share ℕ)) → Some xs → first_worth (map (raised b) xs) ≡ b +ℤ pos (first_height xs)
  first-shift [] s = absurd s
  first-shift (x ∷ xs) s = refl

-- ---- forests

pub some-shares : (G : ℕ) (F : Forest ℕ) → is_end F ≡ false → Some (height_shares G F)
unfolding height_shares
some-shares G end e = absurd (true-ne-false e)
some-shares G (leaf n w v rest) e = tt
some-shares G (inner n w k under rest) e = tt

-- every C's own total is above 0
abbrev pub Divides : Forest ℤ → Type 0
Divides F = Totals (λ (n : ℕ). 0 < n) F

module _ (G : ℕ) (h : Head) where
  -- the lowest end in grains, and the tree over heights
  abbrev base : ℤ
  base = h.lowest *ℤ pos G

  abbrev lowered : Forest ℤ → Forest ℕ
  lowered F = map_forest (above h.lowest) F

  abbrev Shifts : Forest ℤ → Type 0
  Shifts F = shares G F ≡ map (raised base) (height_shares G (lowered F))

  pub node-shift : (k : Kind) (F : Forest ℤ) → Shifts F → is_end F ≡ false → (is_chance k ≡ true → 0 < weigh F)
      → value k (shares G F) ≡ base +ℤ pos (height_value k (height_shares G (lowered F)))
  node-shift k F ih f w =
      ap (value k) ih
      ∙ value-shift base k (height_shares G (lowered F)) (some-shares G (lowered F) (map-end (above h.lowest) F ∙ f))
      (λ i. omega (arith, weights-shares G (lowered F), map-weigh (above h.lowest) F, w i))

  module _ (T K : ℕ) where
    pub shares-shift : (d c : ℕ) (u : Bool) (F : Forest ℤ) → Proper T K (Within h) d c u F → Filled F → Divides F → Shifts F
    unfolding shares height_shares
    shares-shift d c u end p f w = refl
    shares-shift d c u (leaf n w v rest) p f b =
        ap₂ (λ (x : ℤ) (r : List (Share ℤ)). record { weight = w; worth = x } ∷ r) (utility-shift G h v p.1) (shares-shift d c u rest p.4 f b)
    shares-shift d c u (inner n w k under rest) p f b =
        ap₂ (λ (x : ℤ) (r : List (Share ℤ)). record { weight = w; worth = x } ∷ r)
        (node-shift k under (shares-shift (suc d) (c + one k) (is_chance k) under p.3 f.1 b.1) f.0 b.0)
        (shares-shift d c u rest p.4 f.2 b.2)

    node-exact : (k : Kind) (F : Forest ℤ) → Shifts F → is_end F ≡ false → (is_chance k ≡ true → 0 < weigh F)
        → (is_chance k ≡ true → total (height_shares G (lowered F)) * height_value k (height_shares G (lowered F)) ≡ summed (height_shares G (lowered F)))
        → is_chance k ≡ true → pos (total (shares G F)) *ℤ value k (shares G F) ≡ weighted (shares G F)
    node-exact k F ih f w e i =
        ap₂ (λ (xs : List (Share ℤ)) (z : ℤ). pos (total xs) *ℤ z) ih (node-shift k F ih f w)
        ∙ whole-shift base (height_value k (height_shares G (lowered F))) (height_shares G (lowered F)) (e i)
        ∙ sym (ap weighted ih)

    pub exact-shift : (d c : ℕ) (u : Bool) (F : Forest ℤ) → Proper T K (Within h) d c u F → Filled F → Divides F
        → ExactHeights G (lowered F) → Exact G F
    exact-shift d c u end p f b e = tt
    exact-shift d c u (leaf n w v rest) p f b e = exact-shift d c u rest p.4 f b e
    exact-shift d c u (inner n w k under rest) p f b e = (
      node-exact k under (shares-shift (suc d) (c + one k) (is_chance k) under p.3 f.1 b.1) f.0 b.0 e.0,
      exact-shift (suc d) (c + one k) (is_chance k) under p.3 f.1 b.1 e.1,
      exact-shift d c u rest p.4 f.2 b.2 e.2,
    )
