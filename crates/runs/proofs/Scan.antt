-- The nodes that meet a condition, found entry by entry.
use Prim.Native.Nat.{ℕ, zero, suc, ◌+◌, ◌-◌, ◌*◌, ◌≤◌, ◌<◌}
use mathlib.Core.Path.{◌≡◌, refl, sym, ap, subst, ◌∙◌}
use mathlib.Core.Bool.{Bool, true, false, not, ◌&&◌, cond}
use mathlib.Core.List.{List, [], ◌∷◌, ◌++◌}
use native.Mathlib.Omega.{arith}
use borrow.Author.Tests.{eq-eqb, ne_eqb, lt-ltb, le-ltb}
use lib.ListN.{get_or}
use Rattle.std.specs.Prelude.{Option, None, Some, MatchOption}
use Rattle.std.specs.List.{filter, find, range_with_len}
use Rattle.std.proofs.lemmas.List.Elements.{filter-append}
use lib.Dec.{eqb}
use native.Mathlib.Decide.{dec_le}
use Rattle.table.specs.Tree.{Kind, Forest, end, leaf, inner, code_of, is_chance, is_end, weigh, nodes_where}
use Rattle.table.specs.Inside.{Slices, Spans}
use Rattle.table.proofs.Runs.{code-inner, code-chance}
use Rattle.table.proofs.Spans.{spans-le}
use Rattle.table.proofs.Nodes.{code-pos}
use Rattle.runs.specs.Inside.{first_where, bare_at, weigh_at, odd_at, Has}

abbrev pub first_of : List ℕ → Option ℕ
first_of [] = None
first_of (x ∷ xs) = Some x

module _ (test : ℕ → Bool) where
  -- the first of the m numbers from i on that meets it
  first_from : (i m : ℕ) (r : Option ℕ)
      → MatchOption r ((k : ℕ) → i ≤ k → k < i + m → test k ≡ false) (λ x. (i ≤ x) × (x < i + m) × (test x ≡ true) × ((k : ℕ) → i ≤ k → k < x → test k ≡ false))
      → r ≡ find test (range_with_len i m)
  first_from i zero None h = refl
  first_from i zero (Some x) h = absurd (omega (arith, h))
  first_from i (suc m) None h =
      rw (h i (omega arith) (omega arith)) (first_from (i + 1) m None (λ k a b. h k (omega arith) (omega arith)))
  first_from i (suc m) (Some x) h = go (test i) refl (dec_le (i + 1) x) (first_from (i + 1) m (Some x))
    where
      go : (b : Bool) → test i ≡ b → Dec (i + 1 ≤ x)
          → ((i + 1 ≤ x) × (x < i + 1 + m) × (test x ≡ true) × ((k : ℕ) → i + 1 ≤ k → k < x → test k ≡ false) → Some x ≡ find test (range_with_len (i + 1) m))
          → Some x ≡ cond (test i) (Some i) (find test (range_with_len (i + 1) m))
      go true e (yes l) ih = let z : true ≡ false = sym e ∙ h.3 i (omega arith) (omega (arith, l)) in cc
      go true e (no l) ih = let z : x ≡ i = omega (arith, h.0) in rw (e, z)
      go false e (yes l) ih = rw e (ih (l, omega (arith, h.1), h.2, λ k a b. h.3 k (omega arith) b))
      go false e (no l) ih = let z : x ≡ i = omega (arith, h.0) in let f : true ≡ false = sym (rw z at h.2) ∙ e in cc

  pub first_is : (n : ℕ) (r : Option ℕ)
      → MatchOption r ((k : ℕ) → 0 ≤ k → k < n → test k ≡ false) (λ x. (0 ≤ x) × (x < n) × (test x ≡ true) × ((k : ℕ) → 0 ≤ k → k < x → test k ≡ false))
      → r ≡ first_where test n
  first_is n r h = let e : 0 + n ≡ n = omega arith in first_from 0 n r (rw e h)

  -- those from c on and below e that meet it
  abbrev pub scan : ℕ → ℕ → List ℕ
  scan c e = filter test (range_with_len c (e - c))

  first-filtered : (xs : List ℕ) → find test xs ≡ first_of (filter test xs)
  first-filtered [] = refl
  first-filtered (x ∷ xs) = go (test x) (first-filtered xs)
    where
      go : (b : Bool) → find test xs ≡ first_of (filter test xs) → cond b (Some x) (find test xs) ≡ first_of (cond b (x ∷ filter test xs) (filter test xs))
      go true ih = refl
      go false ih = ih

  pub first-scan : (n : ℕ) → first_where test n ≡ first_of (scan 0 n)
  first-scan n = let e : n - 0 ≡ n = omega arith in rw e (first-filtered (range_with_len 0 n))

  range-split : (i m k : ℕ) → range_with_len i (m + k) ≡ range_with_len i m ++ range_with_len (i + m) k
  range-split i zero k = let a : 0 + k ≡ k = omega arith in let b : i + 0 ≡ i = omega arith in rw (a, b)
  range-split i (suc m) k =
      let a : suc m + k ≡ suc (m + k) = omega arith in
      let b : i + 1 + m ≡ i + suc m = omega arith in
      rw (a, range-split (i + 1) m k, b)

  -- a node, what is under it, and what comes after
  scan-node : (c x e : ℕ) → c < x → x ≤ e → scan c e ≡ cond (test c) (c ∷ []) [] ++ (scan (c + 1) x ++ scan x e)
  scan-node c x e p q =
      let a : e - c ≡ suc (x - (c + 1) + (e - x)) = omega arith in
      let b : c + 1 + (x - (c + 1)) ≡ x = omega arith in
      rw (a, range-split (c + 1) (x - (c + 1)) (e - x), b, here (test c) (filter test (range_with_len (c + 1) (x - (c + 1)) ++ range_with_len x (e - x))), filter-append test (range_with_len (c + 1) (x - (c + 1))) (range_with_len x (e - x)))
    where
      here : (t : Bool) (l : List ℕ) → cond t (c ∷ l) l ≡ cond t (c ∷ []) [] ++ l
      here true l = refl
      here false l = refl

module _ (S : Slices) where
  pub spans-weigh : (k c e : ℕ) (f : Forest ℕ) → Spans S c e f → e ≤ c + k → weigh_at S.stops S.weights k c e ≡ weigh f
  unfolding Spans weigh_at weigh
  spans-weigh zero c e end h l = refl
  spans-weigh zero c e (leaf n w v rest) h l = absurd (omega (arith, spans-le S (c + 1) e rest h.5))
  spans-weigh zero c e (inner n w j under rest) h l =
      absurd (omega (arith, spans-le S (c + 1) (get_or S.stops c 0) under h.3, spans-le S (get_or S.stops c 0) e rest h.4))
  spans-weigh (suc k) c e end h l = rw (le-ltb c e (omega arith))
  spans-weigh (suc k) c e (leaf n w v rest) h l =
      let b = spans-le S (c + 1) e rest h.5 in
      rw (lt-ltb c e (omega arith), h.3, h.2, spans-weigh k (c + 1) e rest h.5 (omega arith))
  spans-weigh (suc k) c e (inner n w j under rest) h l =
      let a = spans-le S (c + 1) (get_or S.stops c 0) under h.3 in
      let b = spans-le S (get_or S.stops c 0) e rest h.4 in
      rw (lt-ltb c e (omega arith), h.2, spans-weigh k (get_or S.stops c 0) e rest h.4 (omega arith))

  -- a test of an entry that says what `bad` says of a node
  pub record Tests (bad : Kind → Forest ℕ → Bool) (test : ℕ → Bool) (e : ℕ) : Type 0 where
    pub at_leaf : (c : ℕ) → get_or S.kinds c 0 ≡ 0 → test c ≡ false
    pub at_inner : (c : ℕ) (k : Kind) (under : Forest ℕ) → get_or S.kinds c 0 ≡ code_of k → get_or S.stops c 0 ≤ e
        → Spans S (c + 1) (get_or S.stops c 0) under → test c ≡ bad k under

  pub spans-where : (bad : Kind → Forest ℕ → Bool) (test : ℕ → Bool) (N : ℕ) → Tests bad test N → (c e : ℕ) (f : Forest ℕ) → e ≤ N → Spans S c e f
      → nodes_where bad f ≡ scan test c e
  unfolding Spans nodes_where
  spans-where bad test N t c e end l h = let z : e - c ≡ 0 = omega arith in rw z
  spans-where bad test N t c e (leaf n w v rest) l h =
      let b = spans-le S (c + 1) e rest h.5 in
      let z : c + 1 - (c + 1) ≡ 0 = omega arith in
      spans-where bad test N t (c + 1) e rest l h.5 ∙ sym (scan-node test c (c + 1) e (omega arith) b ∙ rw (t.at_leaf c h.1, z))
  spans-where bad test N t c e (inner n w k under rest) l h =
      let x = get_or S.stops c 0 in
      let a = spans-le S (c + 1) x under h.3 in
      let b = spans-le S x e rest h.4 in
      rw (spans-where bad test N t (c + 1) x under (omega arith) h.3, spans-where bad test N t x e rest l h.4, ← t.at_inner c k under h.1 (omega arith) h.3, h.0)
      (sym (scan-node test c x e (omega arith) b))

  -- one node more of those with one parent
  pub record Next (j e : ℕ) (f : Forest ℕ) : Type 0 where
    pub rest : Forest ℕ
    pub spans : Spans S (get_or S.stops j 0) e rest
    pub weighs : weigh f ≡ get_or S.weights j 0 + weigh rest
    pub later : j < get_or S.stops j 0
    pub within : get_or S.stops j 0 ≤ e

  pub spans-next : (j e : ℕ) (f : Forest ℕ) → j < e → Spans S j e f → Next j e f
  unfolding Spans weigh
  spans-next j e end l h = absurd (omega arith)
  spans-next j e (leaf n w v rest) l h =
      record {
        rest = rest;
        spans = subst (λ (x : ℕ). Spans S x e rest) (sym h.2) h.5;
        weighs = ap (λ (x : ℕ). x + weigh rest) (sym h.3);
        later = omega (arith, h.2);
        within = omega (arith, h.2, spans-le S (j + 1) e rest h.5);
      }
  spans-next j e (inner n w k under rest) l h =
      record {
        rest = rest;
        spans = h.4;
        weighs = ap (λ (x : ℕ). x + weigh rest) (sym h.2);
        later = omega (arith, spans-le S (j + 1) (get_or S.stops j 0) under h.3);
        within = spans-le S (get_or S.stops j 0) e rest h.4;
      }

  -- the run of a leaf is itself alone
  leaf-stop : (j e : ℕ) (f : Forest ℕ) → j < e → Spans S j e f → get_or S.kinds j 0 ≡ 0 → get_or S.stops j 0 ≡ j + 1
  unfolding Spans
  leaf-stop j e end l h z = absurd (omega arith)
  leaf-stop j e (leaf n w v rest) l h z = h.2
  leaf-stop j e (inner n w k under rest) l h z = absurd (omega (arith, code-pos k, h.1))

  -- what stands under the inner node at entry i
  pub record Under (i e : ℕ) : Type 0 where
    pub forest : Forest ℕ
    pub spans : Spans S (i + 1) (get_or S.stops i 0) forest
    pub within : get_or S.stops i 0 ≤ e

  under-wider : (i d e : ℕ) → d ≤ e → Under i d → Under i e
  under-wider i d e l u = record { forest = u.forest; spans = u.spans; within = omega (arith, u.within) }

  pub spans-under : (c e : ℕ) (f : Forest ℕ) → Spans S c e f → (i : ℕ) → c ≤ i → i < e → (get_or S.kinds i 0 ≡ 0 → ⊥) → Under i e
  unfolding Spans
  spans-under c e end h i a b k = absurd (omega arith)
  spans-under c e (leaf n w v rest) h i a b k = go (spans-under (c + 1) e rest h.5 i) (dec_le (c + 1) i)
    where
      go : (c + 1 ≤ i → i < e → (get_or S.kinds i 0 ≡ 0 → ⊥) → Under i e) → Dec (c + 1 ≤ i) → Under i e
      go ih (yes l) = ih l b k
      go ih (no l) = let z : i ≡ c = omega arith in absurd (k (ap (λ (x : ℕ). get_or S.kinds x 0) z ∙ h.1))
  spans-under c e (inner n w j under rest) h i a b k =
      go (spans-under (c + 1) (get_or S.stops c 0) under h.3 i) (spans-under (get_or S.stops c 0) e rest h.4 i) (dec_le (c + 1) i) (dec_le (get_or S.stops c 0) i)
    where
      go : (c + 1 ≤ i → i < get_or S.stops c 0 → (get_or S.kinds i 0 ≡ 0 → ⊥) → Under i (get_or S.stops c 0))
          → (get_or S.stops c 0 ≤ i → i < e → (get_or S.kinds i 0 ≡ 0 → ⊥) → Under i e) → Dec (c + 1 ≤ i) → Dec (get_or S.stops c 0 ≤ i) → Under i e
      go ih jh (yes l) (yes m) = jh m b k
      go ih jh (yes l) (no m) =
          under-wider i (get_or S.stops c 0) e (spans-le S (get_or S.stops c 0) e rest h.4) (ih l (omega arith) k)
      go ih jh (no l) d =
          let z : c ≡ i = omega arith in
          subst (λ (y : ℕ). Under y e) z (record { forest = under; spans = h.3; within = spans-le S (get_or S.stops c 0) e rest h.4 })

module _ (S : Slices) where
  spans-empty : (c e : ℕ) (f : Forest ℕ) → Spans S c e f → eqb e c ≡ is_end f
  unfolding Spans
  spans-empty c e end h = eq-eqb e c (sym h)
  spans-empty c e (leaf n w v rest) h = ne_eqb e c (λ z. omega (arith, spans-le S (c + 1) e rest h.5))
  spans-empty c e (inner n w k under rest) h =
      ne_eqb e c (λ z. omega (arith, spans-le S (c + 1) (get_or S.stops c 0) under h.3, spans-le S (get_or S.stops c 0) e rest h.4))

  pub bare-tests : (e : ℕ) → Tests S (λ (k : Kind) (under : Forest ℕ). is_end under) (bare_at S.kinds S.stops) e
  bare-tests e =
      record {
        at_leaf = λ c h. rw h;
        at_inner = λ c k under h l s. rw (h, code-inner k) (spans-empty (c + 1) (get_or S.stops c 0) under s);
      }

  pub odd-tests : (T U e : ℕ) → e ≤ 1024
      → Tests S (λ (k : Kind) (under : Forest ℕ). is_chance k && (not (eqb (weigh under) T) && not (eqb (weigh under) U)))
      (odd_at S.kinds S.stops S.weights T U) e
  odd-tests T U e small =
      record {
        at_leaf = λ c h. rw h;
        at_inner = λ c k under h l s. rw (h, code-chance k, spans-weigh S 1024 (c + 1) (get_or S.stops c 0) under s (omega arith));
      }

-- ---- the weights of nodes with one parent, summed so far up to entry j

module _ (ks ss ws : List ℕ) (c e : ℕ) where
  abbrev slices : List ℕ → Slices
  slices hs = record { kinds = ks; stops = ss; weights = ws; heights = hs }

  pub record Summing (sum j : ℕ) : Type 0 where
    pub heights : List ℕ
    pub rest : Forest ℕ
    pub spans : Spans (slices heights) j e rest
    pub total : weigh_at ss ws 1024 c e ≡ sum + weigh rest
    pub bound : sum + 256 * e ≤ 256 * 1024 + 256 * j
    pub within : j ≤ e

  pub summing-none : e ≤ 1024 → Has ks ss ws c e → Summing 0 c
  summing-none small h =
      let l = spans-le (slices h.heights) c e h.forest h.spans in
      record {
        heights = h.heights;
        rest = h.forest;
        spans = h.spans;
        total = spans-weigh (slices h.heights) 1024 c e h.forest h.spans (omega arith) ∙ omega arith;
        bound = omega arith;
        within = l;
      }

  module _ (sum j : ℕ) (S : Summing sum j) (l : j < e) where
    abbrev step : Next (slices S.heights) j e S.rest
    step = spans-next (slices S.heights) j e S.rest l S.spans

    pub summing-later : (j < get_or ss j 0) × (get_or ss j 0 ≤ e)
    summing-later = (step.later, step.within)

    pub summing-leaf : get_or ks j 0 ≡ 0 → get_or ss j 0 ≡ j + 1
    summing-leaf z = leaf-stop (slices S.heights) j e S.rest l S.spans z

    pub summing-more : get_or ws j 0 < 256 → Summing (sum + get_or ws j 0) (get_or ss j 0)
    summing-more b =
        record {
          heights = S.heights;
          rest = step.rest;
          spans = step.spans;
          total = S.total ∙ rw step.weighs (omega arith);
          bound = omega (arith, S.bound, step.later);
          within = step.within;
        }

  pub summing-done : (sum j : ℕ) → Summing sum j → e ≤ j → sum ≡ weigh_at ss ws 1024 c e
  unfolding Spans weigh
  summing-done sum j S l = sym (S.total ∙ none S.rest S.spans)
    where
      none : (f : Forest ℕ) → Spans (slices S.heights) j e f → sum + weigh f ≡ sum
      none end h = omega arith
      none (leaf n w v rest) h = absurd (omega (arith, spans-le (slices S.heights) (j + 1) e rest h.5))
      none (inner n w k under rest) h =
          absurd (omega (arith, spans-le (slices S.heights) (j + 1) (get_or ss j 0) under h.3, spans-le (slices S.heights) (get_or ss j 0) e rest h.4))
