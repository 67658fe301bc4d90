-- What the search returns contains the worth.
use Prim.Native.Nat.{ℕ, ◌+◌, ◌*◌, ◌-◌, min, max, ◌≤◌}
use mathlib.Core.List.{List}
use native.Mathlib.Nat.{le-div_iff_mul-le, div-le_of_le-mul, mul-le-mul_left, mul-div-le, mul-sub, le_trans}
use native.Mathlib.Omega.{arith}
use Rattle.field.proofs.Small.{choose}
use Rattle.table.specs.Tree.{Kind, MAX, MIN, CHANCE, Forest, end, leaf, inner, weigh}
use Rattle.table.specs.Inside.{taken, sealed}
use Rattle.search.specs.Search.{Frame, Seen, State, Rules, begin, lower, upper, update, finish, cut, stop, point, met_spent, met, scan}
use Rattle.search.specs.Inside.{natural}
use Rattle.search.proofs.Steps.{seen_under, seen_after}
use Rattle.search.proofs.Heights.{Paid, Sound, Within, start, total, worth}

-- where the total of the children ends, from a
abbrev Bound : Frame ℕ → Kind → ℕ → ℕ → ℕ → Type 0
Bound e MAX W a t = (a ≤ t) × (t ≤ max a e.top)
Bound e MIN W a t = (min a e.bottom ≤ t) × (t ≤ a)
Bound e CHANCE W a t = (a + W * e.bottom ≤ t) × (t ≤ a + W * e.top)

abbrev pub Inside : Frame ℕ → ℕ → Type 0
Inside e v = (e.bottom ≤ v) × (v ≤ e.top)

bound-end : (e : Frame ℕ) (k : Kind) (a : ℕ) → Bound e k 0 a a
bound-end e MAX a = omega arith
bound-end e MIN a = omega arith
bound-end e CHANCE a = omega arith

bound-step : (e : Frame ℕ) (k : Kind) (w W a v t : ℕ) → Inside e v → Bound e k W (taken k a w v) t → Bound e k (w + W) a t
bound-step e MAX w W a v t h b = omega arith
bound-step e MIN w W a v t h b = omega arith
bound-step e CHANCE w W a v t h b = omega (arith, mul-le-mul_left w h.0, mul-le-mul_left w h.1)

bound-seal : (e : Frame ℕ) (k : Kind) (t : ℕ) (f : Forest ℕ) → Sound e k f → Bound e k (weigh f) (start e k) t → Inside e (sealed e.total k t)
unfolding start
bound-seal e MAX t f q b = omega arith
bound-seal e MIN t f q b = omega arith
bound-seal e CHANCE t f q b =
    let b2 = rw q.weighed at b in ((le-div_iff_mul-le q.paid).1 (omega arith), div-le_of_le-mul e.total (omega arith))

module _ (frame : ℕ → Forest ℕ → Frame ℕ) where
  pub bound : (e : Frame ℕ) (k : Kind) (f : Forest ℕ) (a : ℕ) → Within frame e f → Bound e k (weigh f) a (total frame k f a)
  unfolding weigh total
  bound e k end a i = bound-end e k a
  bound e k (leaf n w h rest) a i = bound-step e k w _ a h _ (i.0, i.1) (bound e k rest _ i.2)
  bound e k (inner n w c under rest) a i =
      let v = bound-seal (frame n under) c _ under i.2 (bound (frame n under) c under _ i.3) in
      bound-step e k w _ a _ _ (le_trans i.0 v.0, le_trans v.1 i.1) (bound e k rest _ i.4)

  -- a node's worth lies between its ends
  pub inside : (e : Frame ℕ) (k : Kind) (f : Forest ℕ) → Sound e k f → Within frame e f → Inside e (worth frame e k f)
  unfolding worth
  inside e k f q i = bound-seal e k _ f q (bound e k f (start e k) i)

-- what a node gave contains its worth v, and lies in the frame
abbrev pub Holding : Frame ℕ → ℕ → Seen ℕ → Type 0
Holding e v r = (e.bottom ≤ r.low) × (r.low ≤ v) × (v ≤ r.high) × (r.high ≤ e.top)

-- the state after some children, whose total is a, where the others weigh W
abbrev pub Kept : Frame ℕ → Kind → ℕ → State ℕ → ℕ → Type 0
Kept e MAX W s a = (e.bottom ≤ s.lo) × (s.lo ≤ a) × (a ≤ s.hi) × (s.hi ≤ e.top)
Kept e MIN W s a = (e.bottom ≤ s.lo) × (s.lo ≤ a) × (a ≤ s.hi) × (s.hi ≤ e.top)
Kept e CHANCE W s a = (e.bottom ≤ s.lo) × (e.total * s.lo ≤ a + W * e.bottom) × (a + W * e.top ≤ e.total * s.hi) × (s.hi ≤ e.top)

pub kept-begin : (e : Frame ℕ) (k : Kind) (f : Forest ℕ) (a b : ℕ) (l : List ℕ) → Sound e k f → Kept e k (weigh f) (begin e k a b l) (start e k)
unfolding begin start
kept-begin e MAX f a b l q = omega arith
kept-begin e MIN f a b l q = omega arith
kept-begin e CHANCE f a b l q = (omega arith, rw q.weighed (omega arith), rw q.weighed (omega arith), omega arith)

kept-finish : (e : Frame ℕ) (k : Kind) (s : State ℕ) (a : ℕ) → Paid e k → Kept e k 0 s a → Holding e (sealed e.total k a) (finish s)
unfolding finish
kept-finish e MAX s a q i = i
kept-finish e MIN s a q i = i
kept-finish e CHANCE s a q i = (i.0, (le-div_iff_mul-le q).1 (omega arith), div-le_of_le-mul e.total (omega arith), i.3)

kept-cut : (e : Frame ℕ) (k : Kind) (W : ℕ) (s : State ℕ) (a t : ℕ) → Paid e k → Kept e k W s a → Bound e k W a t
    → Holding e (sealed e.total k t) (cut e k s)
unfolding cut
kept-cut e MAX W s a t q i b = omega arith
kept-cut e MIN W s a t q i b = omega arith
kept-cut e CHANCE W s a t q i b = (i.0, (le-div_iff_mul-le q).1 (omega arith), div-le_of_le-mul e.total (omega arith), i.3)

pub hold-point : (e : Frame ℕ) (n h : ℕ) (l : List ℕ) → Inside e h → Holding e h (point n h l)
unfolding point
hold-point e n h l q = omega arith

hold_spent : (e : Frame ℕ) (v : ℕ) (l : List ℕ) → Inside e v → Holding e v (met_spent e l)
unfolding met_spent
hold_spent e v l q = omega arith

pub hold-under : (e d : Frame ℕ) (v : ℕ) (r : Seen ℕ) → e.bottom ≤ d.bottom → d.top ≤ e.top → Holding d v r → Holding e v r
hold-under e d v r p q h = (le_trans p h.0, h.1, h.2, le_trans h.3 q)

module _ (R : Rules ℕ) where
  -- a node met unread lies between the two ends
  pub hold-met : (e : Frame ℕ) (l : List ℕ) (v : ℕ) (r : Seen ℕ) → Holding e v r → Holding e v (met R e l r)
  hold-met e l v r h =
      choose (Holding e v) (R.full l) (λ _. hold_spent e v l (le_trans h.0 h.1, le_trans h.2 h.3)) (λ _. h)

  pub kept-update : (e : Frame ℕ) (k : Kind) (n w W : ℕ) (s : State ℕ) (a : ℕ) (r : Seen ℕ) (v : ℕ) → Kept e k (w + W) s a → Holding e v r
      → Kept e k W (update natural e k n w s r) (taken k a w v)
  unfolding update
  kept-update e MAX n w W s a r v i h = omega arith
  kept-update e MIN n w W s a r v i h = omega arith
  kept-update e CHANCE n w W s a r v i h = (
    omega arith,
    omega
        (arith, mul-div-le (w * (r.low - e.bottom)) e.total, mul-sub w r.low e.bottom, mul-le-mul_left w h.0, mul-le-mul_left w h.1),
    rw mul-sub
        (omega (arith, mul-div-le (w * (e.top - r.high)) e.total, mul-sub w e.top r.high, mul-le-mul_left w h.2, mul-le-mul_left w h.3)),
    omega arith,
  )

  kept-after : (e : Frame ℕ) (k : Kind) (rest : Forest ℕ) (t : State ℕ) (a : ℕ) → Paid e k → Within R.frame e rest → Kept e k (weigh rest) t a
      → Holding e (sealed e.total k (total R.frame k rest a)) (scan natural R e k rest t)
      → Holding e (sealed e.total k (total R.frame k rest a)) (seen_after natural R e k rest t)
  kept-after e k rest t a q i j h =
      choose (Holding e (sealed e.total k (total R.frame k rest a))) (stop natural R.margin rest t)
      (λ _. kept-cut e k (weigh rest) t a _ q j (bound R.frame e k rest a i)) (λ _. h)

  pub contain : (e : Frame ℕ) (k : Kind) (f : Forest ℕ) (s : State ℕ) (a : ℕ) → Paid e k → Within R.frame e f → Kept e k (weigh f) s a
      → Holding e (sealed e.total k (total R.frame k f a)) (scan natural R e k f s)
  unfolding weigh total scan
  contain e k end s a q i j = kept-finish e k s a q j
  contain e k (leaf n w h rest) s a q i j =
      let r : Seen ℕ = point n h s.read in
      let j2 = kept-update e k n w (weigh rest) s a _ h j (hold-met e s.read h r (hold-point e n h _ (i.0, i.1))) in
      kept-after e k rest _ _ q i.2 j2 (contain e k rest _ _ q i.2 j2)
  contain e k (inner n w c under rest) s a q i j =
      let d : Frame ℕ = R.frame n under in
      let r : Seen ℕ = seen_under natural R e k n w c under s in
      let u = contain d c under _ _ i.2.paid i.3 (kept-begin d c under (lower natural e k w s) (upper natural e k w s) s.read i.2) in
      let j2 = kept-update e k n w (weigh rest) s a _ _ j (hold-under e d _ (met R d s.read r) i.0 i.1 (hold-met d s.read _ r u)) in
      kept-after e k rest _ _ q i.4 j2 (contain e k rest _ _ q i.4 j2)

  -- low ≤ worth ≤ high inside the frame, whatever the window
  pub contained : (e : Frame ℕ) (k : Kind) (f : Forest ℕ) (a b : ℕ) (l : List ℕ) → Sound e k f → Within R.frame e f
      → Holding e (worth R.frame e k f) (scan natural R e k f (begin e k a b l))
  unfolding worth
  contained e k f a b l q i = contain e k f _ _ q.paid i (kept-begin e k f a b l q)
