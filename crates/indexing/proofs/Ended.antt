-- The ends of each inner node, made of least numbers: of heights, and of how far these lie below the span.
use Prim.Native.Nat.{ℕ, ◌+◌, ◌-◌, min, ◌≤◌, ◌<◌}
use mathlib.Core.Path.{◌≡◌, refl, ap, ap₂, subst, ◌∙◌}
use mathlib.Core.Bool.{false}
use mathlib.Core.List.{List}
use native.Mathlib.Omega.{arith}
use native.Mathlib.Nat.{le_refl}
use native.Mathlib.Decide.{dec_le}
use lib.ListN.{get_or}
use Rattle.table.specs.Tree.{Kind, Forest, end, leaf, inner, is_end, code_of}
use Rattle.table.specs.Accepted.{Filled}
use Rattle.table.specs.Inside.{Slices, slices, Spans}
use Rattle.table.proofs.Spans.{spans-le}
use Rattle.table.proofs.Nodes.{code-pos}
use Rattle.table.proofs.Heights.{map_forest, map-end, map-filled}
use Rattle.index.specs.Inside.{least_of, greatest_of}
use Rattle.index.proofs.Laws.{least-low, ordered}
use Rattle.indexing.specs.Inside.{tops, Leasts, Small, Dropped, OwnEnds, Ended}

-- ---- the leaves' numbers

-- no height of a node that stands there is above S
pub greatest-within : (t : Slices) (S n c e : ℕ) (F : Forest ℕ) → Small S t.heights n → e ≤ n → Spans t c e F → greatest_of F ≤ S
unfolding Spans greatest_of
greatest-within t S n c e end h l s = omega arith
greatest-within t S n c e (leaf i w v rest) h l s =
    let b = spans-le t (c + 1) e rest s.5 in
    omega (arith, h c (omega arith), s.4, greatest-within t S n (c + 1) e rest h l s.5)
greatest-within t S n c e (inner i w k under rest) h l s =
    let x = get_or t.stops c 0 in
    let b = spans-le t x e rest s.4 in
    omega (arith, greatest-within t S n (c + 1) x under h (omega arith) s.3, greatest-within t S n x e rest h l s.4)

module _ (K T W : List ℕ) where
  -- the same nodes with other numbers g of the heights at the leaves
  spans-with : (g : ℕ → ℕ) (H P : List ℕ) (n : ℕ) → ((i : ℕ) → i < n → get_or K i 0 ≡ 0 → get_or P i 0 ≡ g (get_or H i 0))
      → (c e : ℕ) (F : Forest ℕ) → e ≤ n → Spans (slices K T W H) c e F → Spans (slices K T W P) c e (map_forest g F)
  unfolding Spans
  spans-with g H P n q c e end l s = s
  spans-with g H P n q c e (leaf i w v rest) l s =
      let b = spans-le (slices K T W H) (c + 1) e rest s.5 in
      (s.0, s.1, s.2, s.3, q c (omega arith) s.1 ∙ ap g s.4, spans-with g H P n q (c + 1) e rest l s.5)
  spans-with g H P n q c e (inner i w k under rest) l s =
      let x = get_or T c 0 in
      let b = spans-le (slices K T W H) x e rest s.4 in
      (s.0, s.1, s.2, spans-with g H P n q (c + 1) x under (omega arith) s.3, spans-with g H P n q x e rest l s.4)

-- ---- least numbers of all under a node

least_start : (S B : ℕ) → S ≤ B → (F : Forest ℕ) → least_of S F ≡ min S (least_of B F)
unfolding least_of
least_start S B l end = omega arith
least_start S B l (leaf i w v rest) = omega (arith, least_start S B l rest)
least_start S B l (inner i w k under rest) = omega (arith, least_start S B l under, least_start S B l rest)

-- where there is a leaf, and none above S, the least may start from any number that is not below S
least-any : (S B : ℕ) → S ≤ B → (F : Forest ℕ) → Filled F → is_end F ≡ false → greatest_of F ≤ S → least_of B F ≡ least_of S F
least-any S B l F f e g = omega (arith, least_start S B l F, ordered B F f e)

-- the least of the drops is how far the greatest height lies below S
least-drops : (S : ℕ) (F : Forest ℕ) → least_of S (map_forest (λ (h : ℕ). S - h) F) ≡ S - greatest_of F
unfolding least_of greatest_of
least-drops S end = omega arith
least-drops S (leaf i w v rest) = omega (arith, least-drops S rest)
least-drops S (inner i w k under rest) = omega (arith, least-drops S under, least-drops S rest)

greatest-drops : (S : ℕ) (F : Forest ℕ) → greatest_of (map_forest (λ (h : ℕ). S - h) F) ≤ S
unfolding greatest_of
greatest-drops S end = omega arith
greatest-drops S (leaf i w v rest) = omega (arith, greatest-drops S rest)
greatest-drops S (inner i w k under rest) = omega (arith, greatest-drops S under, greatest-drops S rest)

module _ (K T W H P : List ℕ) (n : ℕ) (L : Leasts K T H P n) where
  abbrev here : Slices
  here = slices K T W H

  inner-kind : (c : ℕ) (k : Kind) → get_or K c 0 ≡ code_of k → get_or K c 0 ≡ 0 → ⊥
  inner-kind c k e z = omega (arith, code-pos k)

  inner-at : (c : ℕ) (k : Kind) (under : Forest ℕ) → get_or K c 0 ≡ code_of k → get_or T c 0 ≤ n → Spans here (c + 1) (get_or T c 0) under
      → get_or P c 0 ≡ tops P under
  inner-at c k under e l s =
      let b = spans-le here (c + 1) (get_or T c 0) under s in
      (L c (omega arith)).1 (inner-kind c k e) (record { kinds = K; weights = W; heights = H; forest = under; spans = s })

  -- the least points of nodes are the least height among and under them
  tops-least : (c e : ℕ) (F : Forest ℕ) → e ≤ n → Spans here c e F → tops P F ≡ least_of 4294967295 F
  unfolding Spans tops least_of
  tops-least c e end l s = refl
  tops-least c e (leaf i w v rest) l s =
      let b = spans-le here (c + 1) e rest s.5 in
      rw (s.0, (L c (omega arith)).0 s.1, s.4, tops-least (c + 1) e rest l s.5)
  tops-least c e (inner i w k under rest) l s =
      let x = get_or T c 0 in
      let b = spans-le here x e rest s.4 in
      rw (s.0, inner-at c k under s.1 (omega arith) s.3, tops-least (c + 1) x under (omega arith) s.3, tops-least x e rest l s.4)

  module _ (S : ℕ) (small : S ≤ 4294967295) where
    -- an inner node's points are the least height under it
    own-least : (c : ℕ) (k : Kind) (under : Forest ℕ) → get_or K c 0 ≡ code_of k → get_or T c 0 ≤ n → Spans here (c + 1) (get_or T c 0) under
        → is_end under ≡ false → Filled under → greatest_of under ≤ S → get_or P c 0 ≡ least_of S under
    own-least c k under e l s z f g =
        inner-at c k under e l s ∙ tops-least (c + 1) (get_or T c 0) under l s ∙ least-any S 4294967295 small under f z g

    -- none is above S
    points-low : (c e : ℕ) (F : Forest ℕ) → e ≤ n → Spans here c e F → Filled F → greatest_of F ≤ S → (i : ℕ) → c ≤ i → i < e → get_or P i 0 ≤ S
    unfolding Spans greatest_of
    points-low c e end l s f g i a b = absurd (omega arith)
    points-low c e (leaf j w v rest) l s f g i a b = go (points-low (c + 1) e rest l s.5 f (omega arith) i) (dec_le (c + 1) i)
      where
        go : (c + 1 ≤ i → i < e → get_or P i 0 ≤ S) → Dec (c + 1 ≤ i) → get_or P i 0 ≤ S
        go ih (yes q) = ih q b
        go ih (no q) = let z : i ≡ c = omega arith in rw z (omega (arith, (L c (omega arith)).0 s.1, s.4))
    points-low c e (inner j w k under rest) l s f g i a b =
        go (points-low (c + 1) (get_or T c 0) under (omega (arith, spans-le here (get_or T c 0) e rest s.4)) s.3 f.1 (omega arith) i)
        (points-low (get_or T c 0) e rest l s.4 f.2 (omega arith) i) (dec_le (c + 1) i) (dec_le (get_or T c 0) i)
      where
        go : (c + 1 ≤ i → i < get_or T c 0 → get_or P i 0 ≤ S) → (get_or T c 0 ≤ i → i < e → get_or P i 0 ≤ S)
            → Dec (c + 1 ≤ i) → Dec (get_or T c 0 ≤ i) → get_or P i 0 ≤ S
        go ih jh (yes p) (yes q) = jh q b
        go ih jh (yes p) (no q) = ih p (omega arith)
        go ih jh (no p) d =
            let z : i ≡ c = omega arith in
            let r = spans-le here (get_or T c 0) e rest s.4 in
            rw z (omega (arith, own-least c k under s.1 (omega arith) s.3 f.0 f.1 (omega arith), least-low S under))

-- ---- both

map-id : (F : Forest ℕ) → map_forest (λ (h : ℕ). h) F ≡ F
map-id end = refl
map-id (leaf i w v rest) = ap (leaf i w v) (map-id rest)
map-id (inner i w k under rest) = ap₂ (inner i w k) (map-id under) (map-id rest)

module _ (K T W H D H' D' : List ℕ) (n S : ℕ) (small : S ≤ 4294967295) (drops : Dropped S H D n) (LH : Leasts K T H H' n) (LD : Leasts K T D D' n) where
  abbrev dropped : Forest ℕ → Forest ℕ
  dropped F = map_forest (λ (h : ℕ). S - h) F

  spans-dropped : (c e : ℕ) (F : Forest ℕ) → e ≤ n → Spans (slices K T W H) c e F → Spans (slices K T W D) c e (dropped F)
  spans-dropped c e F l s = spans-with K T W (λ (h : ℕ). S - h) H D n (λ i a z. drops i a) c e F l s

  own-ends : (c e : ℕ) (F : Forest ℕ) → e ≤ n → Spans (slices K T W H) c e F → Filled F → greatest_of F ≤ S → OwnEnds S H' D' F
  unfolding Spans greatest_of
  own-ends c e end l s f g = tt
  own-ends c e (leaf i w v rest) l s f g = own-ends (c + 1) e rest l s.5 f (omega arith)
  own-ends c e (inner i w k under rest) l s f g =
      let x = get_or T c 0 in
      let b : x ≤ n = omega (arith, spans-le (slices K T W H) x e rest s.4) in
      let h = own-least K T W H H' n LH S small c k under s.1 b s.3 f.0 f.1 (omega arith) in
      let d = own-least K T W D D' n LD S small c k (dropped under) s.1 b (spans-dropped (c + 1) x under b s.3)
      (map-end (λ (h : ℕ). S - h) under ∙ f.0) (map-filled (λ (h : ℕ). S - h) under f.1) (greatest-drops S under) in (
        rw s.0 h,
        rw s.0 (d ∙ least-drops S under),
        own-ends (c + 1) x under b s.3 f.1 (omega arith),
        own-ends x e rest l s.4 f.2 (omega arith),
      )

  pub ended : (F : Forest ℕ) → Small S H n → Spans (slices K T W H) 0 n F → Filled F → Ended K T W n S H' D' F
  ended F h s f =
      let g = greatest-within (slices K T W H) S n 0 n F h (le_refl n) s in
      record {
        spans = subst (λ (F : Forest ℕ). Spans (slices K T W H') 0 n F) (map-id F) (spans-with K T W (λ (h : ℕ). h) H H' n (λ i a z. (LH i a).0 z) 0 n F (le_refl n) s);
        ends = own-ends 0 n F (le_refl n) s f g;
        small-rise = λ i a. points-low K T W H H' n LH S small 0 n F (le_refl n) s f g i (omega arith) a;
        small-drops = λ i a. points-low K T W D D' n LD S small 0 n (dropped F) (le_refl n) (spans-dropped 0 n F (le_refl n) s)
            (map-filled (λ (h : ℕ). S - h) F f) (greatest-drops S F) i (omega arith) a;
      }
