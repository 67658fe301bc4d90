-- Nodes in slices, one at a time.
use Prim.Native.Nat.{ℕ, ◌+◌, ◌≤◌, ◌<◌}
use mathlib.Core.Path.{◌≡◌, refl, sym, subst, ◌∙◌}
use mathlib.Core.Bool.{true, false}
use native.Mathlib.Omega.{arith}
use lib.ListN.{get_or}
use Rattle.line.proofs.Signs.{true-ne-false}
use Rattle.table.specs.Tree.{Kind, MAX, MIN, CHANCE, Forest, end, leaf, inner, code_of, is_end, weigh, leaves}
use Rattle.table.specs.Inside.{Slices, Spans}
use Rattle.table.specs.Accepted.{Rooted}
use Rattle.table.proofs.Spans.{spans-le}

pub code-inj : (i j : Kind) → code_of i ≡ code_of j → i ≡ j
code-inj MAX MAX h = refl
code-inj MAX MIN h = absurd (omega arith)
code-inj MAX CHANCE h = absurd (omega arith)
code-inj MIN MAX h = absurd (omega arith)
code-inj MIN MIN h = refl
code-inj MIN CHANCE h = absurd (omega arith)
code-inj CHANCE MAX h = absurd (omega arith)
code-inj CHANCE MIN h = absurd (omega arith)
code-inj CHANCE CHANCE h = refl

pub code-pos : (j : Kind) → 0 < code_of j
code-pos MAX = omega arith
code-pos MIN = omega arith
code-pos CHANCE = omega arith

-- ---- the first node

abbrev pub stop_of : Slices → ℕ → ℕ
stop_of t c = get_or t.stops c 0

abbrev pub rest_of : Forest ℕ → Forest ℕ
rest_of end = end
rest_of (leaf i w h rest) = rest
rest_of (inner i w k under rest) = rest

abbrev pub number_of : Forest ℕ → ℕ
number_of end = 0
number_of (leaf i w h rest) = i
number_of (inner i w k under rest) = i

abbrev pub weight_of : Forest ℕ → ℕ
weight_of end = 0
weight_of (leaf i w h rest) = w
weight_of (inner i w k under rest) = w

-- how many leaves it has
abbrev pub own_leaves : Forest ℕ → ℕ
own_leaves end = 0
own_leaves (leaf i w h rest) = 1
own_leaves (inner i w k under rest) = leaves under

pub leaves-split : (F : Forest ℕ) → leaves F ≡ own_leaves F + leaves (rest_of F)
unfolding leaves
leaves-split end = refl
leaves-split (leaf i w h rest) = refl
leaves-split (inner i w k under rest) = refl

pub weigh-split : (F : Forest ℕ) → weigh F ≡ weight_of F + weigh (rest_of F)
unfolding weigh
weigh-split end = refl
weigh-split (leaf i w h rest) = refl
weigh-split (inner i w j under rest) = refl

-- ---- in slices

-- there is a first node, and what is known of it
pub record Step (t : Slices) (c e : ℕ) (F : Forest ℕ) : Type 0 where
  pub some : is_end F ≡ false
  pub below : c < stop_of t c
  pub within : stop_of t c ≤ e
  pub rest : Spans t (stop_of t c) e (rest_of F)
  pub weight : get_or t.weights c 0 ≡ weight_of F
  pub number : c ≡ number_of F

pub step : (t : Slices) (c e : ℕ) (F : Forest ℕ) → Spans t c e F → c < e → Step t c e F
unfolding Spans
step t c e end h lt = absurd (omega arith)
step t c e (leaf i w x rest) h lt =
    let r : Spans t (stop_of t c) e rest = subst (λ (n : ℕ). Spans t n e rest) (sym h.2) h.5 in
    record { some = refl; below = omega (arith, h.2); within = spans-le t (stop_of t c) e rest r; rest = r; weight = h.3; number = sym h.0 }
step t c e (inner i w k under rest) h lt =
    let u = spans-le t (c + 1) (stop_of t c) under h.3 in
    record { some = refl; below = omega arith; within = spans-le t (stop_of t c) e rest h.4; rest = h.4; weight = h.2; number = sym h.0 }

pub spans-last : (t : Slices) (c e : ℕ) (F : Forest ℕ) → Spans t c e F → c ≡ e → is_end F ≡ true
unfolding Spans
spans-last t c e end h q = refl
spans-last t c e (leaf i w x rest) h q = let r = spans-le t (c + 1) e rest h.5 in absurd (omega arith)
spans-last t c e (inner i w k under rest) h q =
    let u = spans-le t (c + 1) (stop_of t c) under h.3 in
    let r = spans-le t (stop_of t c) e rest h.4 in
    absurd (omega arith)

pub spans-more : (t : Slices) (c e : ℕ) (F : Forest ℕ) → Spans t c e F → ((c ≡ e) → ⊥) → is_end F ≡ false
unfolding Spans
spans-more t c e end h q = absurd (q h)
spans-more t c e (leaf i w x rest) h q = refl
spans-more t c e (inner i w k under rest) h q = refl

pub spans-lt : (t : Slices) (c e : ℕ) (F : Forest ℕ) → Spans t c e F → is_end F ≡ false → c < e
unfolding Spans
spans-lt t c e end h q = absurd (true-ne-false q)
spans-lt t c e (leaf i w x rest) h q = let r = spans-le t (c + 1) e rest h.5 in omega arith
spans-lt t c e (inner i w k under rest) h q =
    let u = spans-le t (c + 1) (stop_of t c) under h.3 in
    let r = spans-le t (stop_of t c) e rest h.4 in
    omega arith

-- the entries say which nodes they are
pub spans-same : (t : Slices) (c e : ℕ) (F H : Forest ℕ) → Spans t c e F → Spans t c e H → F ≡ H
unfolding Spans
spans-same t c e end end x y = refl
spans-same t c e end (leaf n w h rest) x y = absurd (omega (arith, x, spans-le t (c + 1) e rest y.5))
spans-same t c e end (inner n w k under rest) x y =
    absurd (omega (arith, x, spans-le t (c + 1) (stop_of t c) under y.3, spans-le t (stop_of t c) e rest y.4))
spans-same t c e (leaf n w h rest) end x y = absurd (omega (arith, y, spans-le t (c + 1) e rest x.5))
spans-same t c e (leaf n w h rest) (leaf n2 w2 h2 rest2) x y =
    let r = spans-same t (c + 1) e rest rest2 x.5 y.5 in
    λ i. leaf ((x.0 ∙ sym y.0) i) ((sym x.3 ∙ y.3) i) ((sym x.4 ∙ y.4) i) (r i)
spans-same t c e (leaf n w h rest) (inner n2 w2 k under rest2) x y = absurd (omega (arith, code-pos k, x.1, y.1))
spans-same t c e (inner n w k under rest) end x y =
    absurd (omega (arith, y, spans-le t (c + 1) (stop_of t c) under x.3, spans-le t (stop_of t c) e rest x.4))
spans-same t c e (inner n w k under rest) (leaf n2 w2 h rest2) x y = absurd (omega (arith, code-pos k, x.1, y.1))
spans-same t c e (inner n w k under rest) (inner n2 w2 k2 under2 rest2) x y =
    let u = spans-same t (c + 1) (stop_of t c) under under2 x.3 y.3 in
    let r = spans-same t (stop_of t c) e rest rest2 x.4 y.4 in
    let j : k ≡ k2 = code-inj k k2 (sym x.1 ∙ y.1) in
    λ i. inner ((x.0 ∙ sym y.0) i) ((sym x.2 ∙ y.2) i) (j i) (u i) (r i)

-- ---- the root

pub root-stop : (t : Slices) (n : ℕ) (F : Forest ℕ) → Spans t 0 n F → Rooted F → stop_of t 0 ≡ n
unfolding Spans
root-stop t n end s r = absurd r
root-stop t n (leaf i w h rest) s r =
    let x : Spans t 1 n end = subst (λ (F : Forest ℕ). Spans t 1 n F) r.2 s.5 in
    s.2 ∙ x
root-stop t n (inner i w k under rest) s r = subst (λ (F : Forest ℕ). Spans t (stop_of t 0) n F) r.2 s.4

pub root-some : (t : Slices) (n : ℕ) (F : Forest ℕ) → Spans t 0 n F → Rooted F → 0 < n
unfolding Spans
root-some t n end s r = absurd r
root-some t n (leaf i w h rest) s r = let x = spans-le t 1 n rest s.5 in omega arith
root-some t n (inner i w k under rest) s r =
    let x = spans-le t 1 (stop_of t 0) under s.3 in
    let y = spans-le t (stop_of t 0) n rest s.4 in
    omega arith
