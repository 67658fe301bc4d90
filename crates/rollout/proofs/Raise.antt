-- A map that keeps the order commutes with rollouts.
use Prim.Native.Nat.{ℕ, zero, suc, pred}
use mathlib.Core.Path.{◌≡◌, refl, sym, ap, ap₂, ◌∙◌}
use mathlib.Core.Bool.{Bool, ◌&&◌, cond}
use mathlib.Core.List.{List, [], ◌∷◌, ◌++◌, map, map-append}
use lib.Dec.{eqb}
use Rattle.table.specs.Tree.{Kind, MAX, MIN, CHANCE, Forest, end, leaf, inner, leaves}
use Rattle.table.proofs.Heights.{map_forest, map-leaves}
use Rattle.search.proofs.Steps.{cond_map}
use Rattle.rollout.specs.Inside.Raised.{map_kept, map_pair, map_walk, map_rolled}
use Rattle.rollout.specs.Rollout.{Order, Kept, none, tip, knot, Pair, Walk, Rolled, pick, spend, fresh, lows, highs, records, first_or, past_tip, past_knot, joined, over, candidate, candidates, walk, roll, rollouts}

-- the greater, the lesser and the test are kept
pub record Keeps {A B : Type 0} (O : Order A) (P : Order B) (g : A → B) : Type 0 where
  pub greater : (x y : A) → P.high-of (g x) (g y) ≡ g (O.high-of x y)
  pub lesser : (x y : A) → P.low_of (g x) (g y) ≡ g (O.low_of x y)
  pub test : (x y : A) → P.below (g x) (g y) ≡ O.below x y

module _ {A B : Type 0} (g : A → B) where
  pub lows-map : (f : Kept A) → lows (map_kept g f) ≡ map g (lows f)
  unfolding lows map_kept
  lows-map none = refl
  lows-map (tip n v l h rest) = ap (λ (r : List B). g l ∷ r) (lows-map rest)
  lows-map (knot n k l h under rest) = ap (λ (r : List B). g l ∷ r) (lows-map rest)

  pub highs-map : (f : Kept A) → highs (map_kept g f) ≡ map g (highs f)
  unfolding highs map_kept
  highs-map none = refl
  highs-map (tip n v l h rest) = ap (λ (r : List B). g h ∷ r) (highs-map rest)
  highs-map (knot n k l h under rest) = ap (λ (r : List B). g h ∷ r) (highs-map rest)

  pub records-map : (f : Kept A) → records (map_kept g f) ≡ map (map_pair g) (records f)
  unfolding records map_kept
  records-map none = refl
  records-map (tip n v l h rest) = ap (λ (r : List (Pair B)). record { low = g l; high = g h } ∷ r) (records-map rest)
  records-map (knot n k l h under rest) =
      ap (λ (r : List (Pair B)). record { low = g l; high = g h } ∷ r)
      (ap₂ ◌++◌ (records-map under) (records-map rest) ∙ sym (map-append (map_pair g) (records under) (records rest)))

  pub first-map : (a : A) (l : List A) → first_or (g a) (map g l) ≡ g (first_or a l)
  first-map a [] = refl
  first-map a (x ∷ l) = refl

  pub fresh-map : (bottom top : A) (f : Forest A) → fresh (g bottom) (g top) (map_forest g f) ≡ map_kept g (fresh bottom top f)
  unfolding fresh map_kept
  fresh-map bottom top end = refl
  fresh-map bottom top (leaf n w v rest) = ap (λ (r : Kept B). tip n (g v) (g bottom) (g top) r) (fresh-map bottom top rest)
  fresh-map bottom top (inner n w k under rest) =
      ap₂ (λ (u r : Kept B). knot n k (g bottom) (g top) u r) (fresh-map bottom top under) (fresh-map bottom top rest)

  module _ (O : Order A) (P : Order B) (keeps : Keeps O P g) where
    joined-map : (k : Kind) (x y : A) → joined P k (g x) (g y) ≡ g (joined O k x y)
    joined-map MAX x y = keeps.greater x y
    joined-map MIN x y = keeps.lesser x y
    joined-map CHANCE x y = keeps.greater x y

    over-map : (k : Kind) (a : A) (l : List A) → over P k (g a) (map g l) ≡ g (over O k a l)
    unfolding over
    over-map k a [] = refl
    over-map k a (x ∷ []) = refl
    over-map k a (x ∷ y ∷ l) = ap (joined P k (g x)) (over-map k a (y ∷ l)) ∙ joined-map k x (over O k a (y ∷ l))

    test-map : (α β l h : A) → candidate P (g α) (g β) (g l) (g h) ≡ candidate O α β l h
    test-map α β l h = ap₂ P.below (keeps.greater α l) (keeps.lesser β h) ∙ keeps.test (O.high-of α l) (O.low_of β h)

    count_map : (α β : A) (f : Kept A) → candidates P (g α) (g β) (map_kept g f) ≡ candidates O α β f
    unfolding candidates map_kept
    count_map α β none = refl
    count_map α β (tip n v l h rest) = rw (test-map α β l h, count_map α β rest)
    count_map α β (knot n k l h under rest) = rw (test-map α β l h, count_map α β rest)

    pub walk-map : (α β : A) (j : ℕ) (p : List ℕ) (f : Kept A) → walk P (g α) (g β) j p (map_kept g f) ≡ map_walk g (walk O α β j p f)
    unfolding walk map_kept
    walk-map α β j p none = refl
    walk-map α β j p (tip n v l h rest) =
        let t : Bool = candidate O α β l h in
        let r : Walk A = walk O α β (cond t (pred j) j) p rest in
        rw (test-map α β l h, walk-map α β (cond t (pred j) j) p rest)
        (cond_map (map_walk g) (record { kept = tip n v v v rest; read = n ∷ []; policy = p }) (past_tip n v l h r) (t && eqb j 0))
    walk-map α β j p (knot n k l h under rest) =
        let t : Bool = candidate O α β l h in
        let a : A = O.high-of α l in
        let b : A = O.low_of β h in
        let u : Walk A = walk O a b (pick (candidates O a b under) p) (spend p) under in
        let r : Walk A = walk O α β (cond t (pred j) j) p rest in
        rw (
          test-map α β l h,
          walk-map α β (cond t (pred j) j) p rest,
          keeps.greater α l,
          keeps.lesser β h,
          count_map a b under,
          walk-map a b (pick (candidates O a b under) p) (spend p) under,
          lows-map u.kept,
          highs-map u.kept,
          over-map k l (lows u.kept),
          over-map k h (highs u.kept),
        )
        (cond_map (map_walk g)
        (record { kept = knot n k (over O k l (lows u.kept)) (over O k h (highs u.kept)) u.kept rest; read = u.read; policy = u.policy })
        (past_knot n k l h under r) (t && eqb j 0))

    pub roll-map : (bottom top : A) (n : ℕ) (p : List ℕ) (f : Kept A)
        → roll P (g bottom) (g top) n p (map_kept g f) ≡ map_rolled g (roll O bottom top n p f)
    unfolding roll
    roll-map bottom top zero p f = refl
    roll-map bottom top (suc n) p f =
        let low : A = first_or bottom (lows f) in
        let high : A = first_or top (highs f) in
        let r : Walk A = walk O low high 0 p f in
        let d : Rolled A = roll O bottom top n r.policy r.kept in
        rw (lows-map f, highs-map f, first-map bottom (lows f), first-map top (highs f), keeps.test low high, walk-map low high 0 p f, roll-map bottom top n r.policy r.kept)
        (cond_map (map_rolled g) (record { kept = d.kept; read = r.read ++ d.read }) (record { kept = f; read = [] }) (O.below low high))

    pub rollouts-map : (bottom top : A) (p : List ℕ) (f : Forest A)
        → rollouts P (g bottom) (g top) p (map_forest g f) ≡ map_rolled g (rollouts O bottom top p f)
    rollouts-map bottom top p f =
        rw (map-leaves g f, fresh-map bottom top f) (roll-map bottom top (leaves f) p (fresh bottom top f))
