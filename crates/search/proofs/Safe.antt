-- No number of the search is above the highest end, and no difference is below zero.
use Prim.Native.Nat.{ℕ, ◌+◌, ◌*◌, ◌-◌, ◌/◌, max, ◌≤◌, ◌<◌}
use mathlib.Core.Path.{◌≡◌}
use mathlib.Core.Bool.{Bool, true, false, cond}
use mathlib.Core.List.{List}
use native.Mathlib.Nat.{mul-le-mul_left, mul-sub, mul-div-le, le_of_mul-le-mul_left, le_trans, sub-le, min-le_left}
use native.Mathlib.Omega.{arith}
use Rattle.table.specs.Tree.{Kind, MAX, MIN, CHANCE, Forest, weigh}
use Rattle.search.specs.Search.{Frame, Play, no_play, child, Seen, State, begin, lower, upper, better, update}
use Rattle.search.specs.Inside.{natural}
use Rattle.search.proofs.Heights.{Sound}

-- the same distances from the bottom
pub drop : (B : ℕ) {x y : ℕ} → x ≤ y → x - B ≤ y - B
drop B h = omega arith

pub drop-top : (B S rh : ℕ) → B ≤ rh → S - B - (rh - B) ≡ S - rh
drop-top B S rh p = omega arith

-- a child's share off the top leaves at least nothing
pub share-fits : (D T w W lo hi rh y : ℕ) → 0 < T → T * y ≤ w * (D - rh) → T * lo + (w + W) * D ≤ T * hi → y ≤ hi
share-fits D T w W lo hi rh y p e h = le_of_mul-le-mul_left (omega (arith, mul-le-mul_left w (sub-le D rh))) p

room : (D T w W lo hi rl rh x y : ℕ) → rl ≤ rh → rh ≤ D → T * x ≤ w * rl → T * y ≤ w * (D - rh) → T * lo + (w + W) * D ≤ T * hi
    → T * (lo + x) + W * D ≤ T * (hi - y)
room D T w W lo hi rl rh x y lh r_s ex ey h = omega (arith, mul-sub T hi y, mul-sub w D rh, mul-le-mul_left w lh, mul-le-mul_left w r_s)

module _ (S : ℕ) where
  abbrev pub Low : Play ℕ → Type 0
  Low no_play = Unit {0}
  Low (child m l h) = (l ≤ S) × (h ≤ S)

  abbrev pub Safe : Frame ℕ → Kind → ℕ → State ℕ → Type 0
  Safe e MAX W s = (s.alpha ≤ S) × (s.beta ≤ S) × (s.lo ≤ S) × (s.hi ≤ S) × Low s.play
  Safe e MIN W s = (s.alpha ≤ S) × (s.beta ≤ S) × (s.lo ≤ S) × (s.hi ≤ S) × Low s.play
  Safe e CHANCE W s = (s.alpha ≤ S) × (s.beta ≤ S) × (e.total * s.lo + W * (e.top - e.bottom) ≤ e.total * s.hi) × (s.hi ≤ S) × (0 < e.total)

  pub safe-window : (e : Frame ℕ) (k : Kind) (W : ℕ) (s : State ℕ) → Safe e k W s → (s.alpha ≤ S) × (s.beta ≤ S)
  safe-window e MAX W s i = (i.0, i.1)
  safe-window e MIN W s i = (i.0, i.1)
  safe-window e CHANCE W s i = (i.0, i.1)

  pub safe-begin : (e : Frame ℕ) (k : Kind) (f : Forest ℕ) (a b : ℕ) (l : List ℕ) → Sound e k f → e.top ≤ S → a ≤ S → b ≤ S
      → Safe e k (weigh f) (begin e k a b l)
  unfolding begin
  safe-begin e MAX f a b l q t x y = (x, y, omega (arith, q.ends), omega (arith, q.ends), tt)
  safe-begin e MIN f a b l q t x y = (x, y, t, t, tt)
  safe-begin e CHANCE f a b l q t x y =
      (x, y, rw q.weighed (omega (arith, mul-sub e.total e.top e.bottom, mul-le-mul_left e.total q.ends)), t, q.paid)

  pub safe-lower : (e : Frame ℕ) (k : Kind) (w W : ℕ) (s : State ℕ) → e.bottom ≤ S → e.top ≤ S → Safe e k W s → lower natural e k w s ≤ S
  unfolding lower
  safe-lower e MAX w W s b t i = i.0
  safe-lower e MIN w W s b t i = i.0
  safe-lower e CHANCE w W s b t i = omega arith

  pub safe-upper : (e : Frame ℕ) (k : Kind) (w W : ℕ) (s : State ℕ) → e.top ≤ S → Safe e k W s → upper natural e k w s ≤ S
  unfolding upper
  safe-upper e MAX w W s t i = i.1
  safe-upper e MIN w W s t i = i.1
  safe-upper e CHANCE w W s t i = omega arith

  low-better : (k : Kind) (n : ℕ) (p : Play ℕ) (r : Seen ℕ) → r.low ≤ S → r.high ≤ S → Low p → Low (better natural k n p r)
  unfolding better
  low-better k n no_play r p q i = (p, q)
  low-better k n (child m l h) r p q i = pick (natural.beats k r.low r.high l h)
    where
      pick : (b : Bool) → Low (cond b (child n r.low r.high) (child m l h))
      pick true = (p, q)
      pick false = i

  pub safe-update : (e : Frame ℕ) (k : Kind) (n w W : ℕ) (s : State ℕ) (r : Seen ℕ) → e.top ≤ S → e.bottom ≤ r.low → r.low ≤ r.high
      → r.high ≤ e.top → Safe e k (w + W) s → Safe e k W (update natural e k n w s r)
  unfolding update
  safe-update e MAX n w W s r t bl lh r_s i =
      let l : r.low ≤ S = omega arith in let h : r.high ≤ S = omega arith in
      (omega (arith, i.0, i.2), le_trans (min-le_left _ _) i.1, omega (arith, i.2), omega (arith, i.3), low-better MAX n s.play r l h i.4)
  safe-update e MIN n w W s r t bl lh r_s i =
      let l : r.low ≤ S = omega arith in let h : r.high ≤ S = omega arith in
      (omega (arith, i.0), omega (arith, i.1), omega (arith, i.2), omega (arith, i.3), low-better MIN n s.play r l h i.4)
  safe-update e CHANCE n w W s r t bl lh r_s i =
      let B : ℕ = e.bottom in
      let T : ℕ = e.total in
      let x : ℕ = w * (r.low - B) / T in
      let y : ℕ = w * (e.top - r.high) / T in
      let ey : T * y ≤ w * (e.top - B - (r.high - B)) = rw (drop-top B e.top r.high (le_trans bl lh)) (mul-div-le _ T) in
      let j = room (e.top - B) T w W s.lo s.hi (r.low - B) (r.high - B) x y (drop B lh) (drop B r_s) (mul-div-le _ T) ey i.2 in
      let l : s.lo + x ≤ s.hi - y = le_of_mul-le-mul_left (omega (arith, j)) i.4 in
      (lift s.alpha s.hi (s.lo + x) y i.0 i.3 l, le_trans (min-le_left _ _) i.1, j, le_trans (sub-le _ _) i.3, i.4)
    where
      lift : (al hi l y : ℕ) → al ≤ S → hi ≤ S → l ≤ hi - y → max al l ≤ S
      lift al hi l y p q r = omega arith
