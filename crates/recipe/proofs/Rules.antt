-- The lines of a recipe: how many they are, and that they keep the rules of document 01, 'The table on paper'.
use Prim.Native.Nat.{ℕ, zero, suc, ◌+◌, ◌-◌, ◌*◌, ◌%◌, ◌^◌, ◌≤◌, ◌<◌}
use mathlib.Core.Path.{◌≡◌, refl, sym, ap, subst, ◌∙◌}
use mathlib.Core.Bool.{Bool, true, false, ◌&&◌, cond}
use mathlib.Core.List.{[], ◌∷◌}
use native.Mathlib.Omega.{arith}
use native.Mathlib.Nat.{le_trans, mul-le-mul, mul-le-mul_right, pow-zero, pow-suc, one-le-pow, pow-le-pow_right}
use borrow.Author.Tests.{eq-eqb, ne_eqb, le-ltb, eqb-true, eqb-false, ltb-true, ltb-false}
use lib.Dec.{eqb, ltb}
use lib.IntN.{ℤ, pos}
use Rattle.line.specs.Line.{among, Within}
use Rattle.line.specs.Inside.{Weighs}
use Rattle.table.specs.Tree.{Kind, MAX, MIN, CHANCE, Forest, is_chance, is_end, weigh}
use Rattle.table.specs.Accepted.{one, Filled, Balanced, Proper}
use Rattle.table.proofs.Runs.{size, Numbered}
use Rattle.recipe.specs.Recipe.{next_state, later, points, levels, chance_at, kind_at, plays, weight_of, nodes, row, recipe_head}

below : (c p : ℕ) → c ≤ p → (c ≡ p → ⊥) → c < p
below c p h n = omega arith

-- ---- C on a path

-- how many stand on a path from a line of the level l down, r lines above the leaves
unfoldable pub chances_in : Bool → ℕ → ℕ → ℕ
chances_in dice zero l = 0
chances_in dice (suc r) l = cond (chance_at dice l) 1 0 + chances_in dice r (suc l)

chances-none : (r l : ℕ) → chances_in false r l ≡ 0
unfolding chances_in
chances-none zero l = refl
chances-none (suc r) l = rw (chances-none r (suc l))

-- from a line of an even level every second one
chances-dice : (d l : ℕ) → l % 2 ≡ 0 → chances_in true (2 * d) l ≡ d
unfolding chances_in
chances-dice zero l e = refl
chances-dice (suc d) l e =
    let two : 2 * suc d ≡ suc (suc (2 * d)) = omega arith in
    rw (two, ne_eqb (l % 2) 1 (λ f. omega arith), eq-eqb (suc l % 2) 1 (omega arith), chances-dice d (suc (suc l)) (omega arith)) (omega arith)

pub chances-all : (dice : Bool) (depth : ℕ) → chances_in dice (levels dice depth) 0 ≡ cond dice depth 0
chances-all true depth = chances-dice depth 0 refl
chances-all false depth = chances-none depth 0

module _ (b : ℕ) (dice : Bool) where
  -- ---- how many

  pub row-size : (r l : ℕ) (u : Bool) (p m c i s : ℕ) → size (row b dice r l u p m c i s) ≡ m * nodes b r
  unfolding row nodes
  row-size zero l u p zero c i s = refl
  row-size zero l u p (suc m) c i s = rw (row-size zero l u p m (suc c) (suc i) (next_state s)) (omega arith)
  row-size (suc r) l u p zero c i s = omega arith
  row-size (suc r) l u p (suc m) c i s =
      rw (
        row-size r (suc l) (chance_at dice l) c b 1 (suc i) s,
        row-size (suc r) l u p m (suc c) (i + nodes b (suc r)) (later (b ^ suc r) s),
      )
      (omega arith)

  pub row-numbered : (r l : ℕ) (u : Bool) (p m c i s : ℕ) → Numbered i (row b dice r l u p m c i s)
  unfolding row nodes
  row-numbered zero l u p zero c i s = tt
  row-numbered zero l u p (suc m) c i s = (refl, row-numbered zero l u p m (suc c) (suc i) (next_state s))
  row-numbered (suc r) l u p zero c i s = tt
  row-numbered (suc r) l u p (suc m) c i s =
      let j : ℕ = i + nodes b (suc r) in
      let t : ℕ = later (b ^ suc r) s in
      let U : Forest ℤ = row b dice r (suc l) (chance_at dice l) c b 1 (suc i) s in
      let e : j ≡ suc i + size U = omega (arith, row-size r (suc l) (chance_at dice l) c b 1 (suc i) s) in (
        refl,
        row-numbered r (suc l) (chance_at dice l) c b 1 (suc i) s,
        subst (λ (n : ℕ). Numbered n (row b dice (suc r) l u p m (suc c) j t)) e (row-numbered (suc r) l u p m (suc c) j t),
      )

  -- ---- every line but a leaf has a child

  row-some : (r l : ℕ) (u : Bool) (p m c i s : ℕ) → 0 < m → is_end (row b dice r l u p m c i s) ≡ false
  unfolding row
  row-some r l u p zero c i s h = absurd (omega arith)
  row-some zero l u p (suc m) c i s h = refl
  row-some (suc r) l u p (suc m) c i s h = refl

  pub row-filled : 0 < b → (r l : ℕ) (u : Bool) (p m c i s : ℕ) → Filled (row b dice r l u p m c i s)
  unfolding row
  row-filled h zero l u p zero c i s = tt
  row-filled h zero l u p (suc m) c i s = row-filled h zero l u p m (suc c) (suc i) (next_state s)
  row-filled h (suc r) l u p zero c i s = tt
  row-filled h (suc r) l u p (suc m) c i s = (
    row-some r (suc l) (chance_at dice l) c b 1 (suc i) s h,
    row-filled h r (suc l) (chance_at dice l) c b 1 (suc i) s,
    row-filled h (suc r) l u p m (suc c) (i + nodes b (suc r)) (later (b ^ suc r) s),
  )

  -- ---- weights

  -- those of m children from number c on, summed
  unfoldable weights : Bool → ℕ → ℕ → ℕ → ℕ
  weights u p zero c = 0
  weights u p (suc m) c = weight_of b u p c + weights u p m (suc c)

  row-weigh : (r l : ℕ) (u : Bool) (p m c i s : ℕ) → weigh (row b dice r l u p m c i s) ≡ weights u p m c
  unfolding row weigh weights
  row-weigh zero l u p zero c i s = refl
  row-weigh zero l u p (suc m) c i s = ap (λ (x : ℕ). weight_of b u p c + x) (row-weigh zero l u p m (suc c) (suc i) (next_state s))
  row-weigh (suc r) l u p zero c i s = refl
  row-weigh (suc r) l u p (suc m) c i s =
      ap (λ (x : ℕ). weight_of b u p c + x) (row-weigh (suc r) l u p m (suc c) (i + nodes b (suc r)) (later (b ^ suc r) s))

  -- past the play's own child each weighs 1
  weights-past : (p m c : ℕ) → p < c → weights true p m c ≡ m
  unfolding weights
  weights-past p zero c h = refl
  weights-past p (suc m) c h = rw (ne_eqb c p (λ e. omega arith), weights-past p m (suc c) (omega arith)) (omega arith)

  weights-all : (p m c : ℕ) → c ≤ p → p < c + m → weights true p m c + 1 ≡ 4 * (b - 1) + m
  unfolding weights
  weights-all p zero c h g = absurd (omega arith)
  weights-all p (suc m) c h g = go (weights-all p m (suc c)) (eqb c p) refl
    where
      go : (suc c ≤ p → p < suc c + m → weights true p m (suc c) + 1 ≡ 4 * (b - 1) + m) → (t : Bool) → eqb c p ≡ t
          → (cond t (4 * (b - 1)) 1 + weights true p m (suc c)) + 1 ≡ 4 * (b - 1) + suc m
      go ih true e = omega (arith, weights-past p m (suc c) (omega (arith, eqb-true c p e)))
      go ih false e =
          let n : c < p = below c p h (eqb-false c p e) in
          omega (arith, ih n (omega arith))

  pub kind-chance : (l : ℕ) → is_chance (kind_at dice l) ≡ chance_at dice l
  kind-chance l = go (chance_at dice l) (eqb (plays dice l % 2) 0)
    where
      go : (t u : Bool) → is_chance (cond t CHANCE (cond u MAX MIN)) ≡ t
      go true u = refl
      go false true = refl
      go false false = refl

  dice-chance : (l : ℕ) → chance_at dice l ≡ true → dice ≡ true
  dice-chance l e = go dice (eqb (l % 2) 1) e
    where
      go : (t u : Bool) → (t && u) ≡ true → t ≡ true
      go true u e = refl
      go false u e = e

  abbrev total : ℕ
  total = (recipe_head b dice).total

  sums : (r l : ℕ) (c i s : ℕ) → 0 < c → c ≤ b → is_chance (kind_at dice l) ≡ true → weigh (row b dice r (suc l) (chance_at dice l) c b 1 i s) ≡ total
  sums r l c i s h g e =
      let q : chance_at dice l ≡ true = sym (kind-chance l) ∙ e in
      let d : dice ≡ true = dice-chance l q in
      row-weigh r (suc l) (chance_at dice l) c b 1 i s
      ∙ ap (λ (u : Bool). weights u c b 1) q
      ∙ omega (arith, weights-all c b 1 h (omega arith), ap (λ (t : Bool). cond t (5 * (b - 1)) 1) d)

  among-total : (n : ℕ) → n ≡ total → among n (total ∷ []) ≡ true
  unfolding among
  among-total n e = rw (eq-eqb n total e)

  pub row-balanced : (r l : ℕ) (u : Bool) (p m c i s : ℕ) → 0 < c → c + m ≤ suc b → Balanced (total ∷ []) (row b dice r l u p m c i s)
  unfolding row
  row-balanced zero l u p zero c i s h g = tt
  row-balanced zero l u p (suc m) c i s h g = row-balanced zero l u p m (suc c) (suc i) (next_state s) (omega arith) (omega arith)
  row-balanced (suc r) l u p zero c i s h g = tt
  row-balanced (suc r) l u p (suc m) c i s h g = (
    λ e. among-total _ (sums r l c (suc i) s h (omega arith) e),
    row-balanced r (suc l) (chance_at dice l) c b 1 (suc i) s (omega arith) (omega arith),
    row-balanced (suc r) l u p m (suc c) (i + nodes b (suc r)) (later (b ^ suc r) s) (omega arith) (omega arith),
  )

  -- ---- ranges

  weighs : (u : Bool) (p c : ℕ) → 2 ≤ b → (u ≡ true → dice ≡ true) → Weighs u total (weight_of b u p c)
  weighs false p c h d = refl
  weighs true p c h d = rw (d refl) (go (eqb c p))
    where
      go : (t : Bool) → (0 < cond t (4 * (b - 1)) 1) × (cond t (4 * (b - 1)) 1 ≤ 5 * (b - 1))
      go true = (omega arith, omega arith)
      go false = (omega arith, omega arith)

  within : (s : ℕ) → Within (recipe_head b dice) (pos (points s))
  within s = (le-ltb (points s) 0 (omega arith), le-ltb 100 (points s) (omega arith))

  one-chance : (l : ℕ) → one (kind_at dice l) ≡ cond (chance_at dice l) 1 0
  one-chance l = ap (λ (t : Bool). cond t 1 0) (kind-chance l)

  pub row-proper : 2 ≤ b → (r l : ℕ) (u : Bool) (p m c i s D C : ℕ) → (u ≡ true → dice ≡ true) → D + r < 64 → C + chances_in dice r l ≤ 4
      → Proper total 4 (Within (recipe_head b dice)) D C u (row b dice r l u p m c i s)
  unfolding row chances_in
  row-proper q zero l u p zero c i s D C d h g = tt
  row-proper q zero l u p (suc m) c i s D C d h g = (
    weighs u p c q d,
    within (next_state s),
    omega arith,
    omega arith,
    row-proper q zero l u p m (suc c) (suc i) (next_state s) D C d h g,
  )
  row-proper q (suc r) l u p zero c i s D C d h g = tt
  row-proper q (suc r) l u p (suc m) c i s D C d h g =
      let k : Kind = kind_at dice l in
      let o = one-chance l in (
        weighs u p c q d,
        omega arith,
        omega arith,
        subst (λ (v : Bool). Proper total 4 (Within (recipe_head b dice)) (suc D) (C + one k) v (row b dice r (suc l) (chance_at dice l) c b 1 (suc i) s)) (sym (kind-chance l))
            (row-proper q r (suc l) (chance_at dice l) c b 1 (suc i) s (suc D) (C + one k) (dice-chance l) (omega arith) (omega arith)),
        row-proper q (suc r) l u p m (suc c) (i + nodes b (suc r)) (later (b ^ suc r) s) D C d h g,
      )

-- ---- "more than 1,024 nodes"

module _ (b : ℕ) where
  pub nodes-leaf : nodes b 0 ≡ 1
  unfolding nodes
  nodes-leaf = refl

  pub nodes-more : (r : ℕ) → nodes b (suc r) ≡ 1 + b * nodes b r
  unfolding nodes
  nodes-more r = refl

  nodes-double : 2 ≤ b → (r : ℕ) → 1 + 2 * nodes b r ≤ nodes b (suc r)
  unfolding nodes
  nodes-double h r = omega (arith, mul-le-mul_right (nodes b r) h)

  nodes-ten : 2 ≤ b → 1025 ≤ nodes b 10
  nodes-ten h =
      let d = nodes-double h in
      omega (arith, d 0, d 1, d 2, d 3, d 4, d 5, d 6, d 7, d 8, d 9, nodes-leaf)

  nodes-deep : 2 ≤ b → (r : ℕ) → 9 < r → 1025 ≤ nodes b r
  nodes-deep h zero g = absurd (omega arith)
  nodes-deep h (suc r) g = go (nodes-deep h r) (eqb r 9) refl
    where
      go : (9 < r → 1025 ≤ nodes b r) → (t : Bool) → eqb r 9 ≡ t → 1025 ≤ nodes b (suc r)
      go ih true e = subst (λ (n : ℕ). 1025 ≤ nodes b (suc n)) (sym (eqb-true r 9 e)) (nodes-ten h)
      go ih false e = omega (arith, ih (below 9 r (omega arith) (λ q. eqb-false r 9 e (sym q))), nodes-double h r)

  pub nodes-few : 2 ≤ b → (r : ℕ) → nodes b r ≤ 1024 → r ≤ 9
  nodes-few h r g = go (ltb 9 r) refl
    where
      go : (t : Bool) → ltb 9 r ≡ t → r ≤ 9
      go true e = absurd (omega (arith, nodes-deep h r (ltb-true 9 r e)))
      go false e = ltb-false 9 r e

  six : (r : ℕ) → b ≤ 5 → nodes b r ≤ 6 ^ r
  six zero h = rw (nodes-leaf, pow-zero) (omega arith)
  six (suc r) h =
      let p : 0 < 6 ^ r = one-le-pow r 6 (omega arith) in
      rw (nodes-more r, pow-suc 6 r) (omega (arith, six r h, mul-le-mul h (six r h)))

  -- with one level more they fit a number
  pub nodes-fit : (r n : ℕ) → n ≡ nodes b r → b ≤ 5 → r < 18 → b * n ≤ 5 * 6 ^ 17
  nodes-fit r n e h g = let few : r ≤ 17 = omega arith in rw e (mul-le-mul h (le_trans (six r h) (pow-le-pow_right (omega arith) few)))
