-- Every bound of the search is divided by what divides the worths.
use Prim.Native.Nat.{ℕ, ◌*◌, ◌/◌, min, max, ◌≤◌, ◌<◌, ◌∣◌}
use mathlib.Core.Path.{◌≡◌}
use mathlib.Core.List.{List}
use native.Mathlib.Nat.{dvd_trans, dvd-mul_right, dvd-mul_left, dvd-mul_left_of_dvd, dvd_of_mul-dvd-mul_left, mul-div_cancel', dvd-add, dvd-sub, max-eq_left, max-eq_right, min-eq_left, min-eq_right}
use native.Mathlib.Decide.{dec_le}
use native.Mathlib.Omega.{arith}
use Rattle.field.proofs.Small.{choose}
use Rattle.table.specs.Tree.{Kind, MAX, MIN, CHANCE, Forest, end, leaf, inner}
use Rattle.search.specs.Search.{Frame, Seen, State, Rules, begin, lower, upper, update, finish, cut, stop, point, met_spent, met, scan}
use Rattle.search.specs.Inside.{natural}
use Rattle.search.proofs.Steps.{seen_under, seen_after}
use Rattle.search.proofs.Heights.{Paid, Within}
use Rattle.search.proofs.Fit.{grade, Even, Fit}

pub dvd-max : (g : ℕ) {a b : ℕ} → g ∣ a → g ∣ b → g ∣ max a b
dvd-max g {a} {b} p q = elim (dec_le a b) [ yes h ↦ rw (max-eq_right h) q | no h ↦ let l : b ≤ a = omega arith in rw (max-eq_left l) p ]

pub dvd-min : (g : ℕ) {a b : ℕ} → g ∣ a → g ∣ b → g ∣ min a b
dvd-min g {a} {b} p q = elim (dec_le a b) [ yes h ↦ rw (min-eq_left h) p | no h ↦ let l : b ≤ a = omega arith in rw (min-eq_right l) q ]

-- a child's share is exact, and one grade less
pub share : (T g w : ℕ) {x : ℕ} → T * g ∣ x → T * (w * x / T) ≡ w * x
share T g w h = mul-div_cancel' T (dvd-mul_left_of_dvd T (dvd_trans T (dvd-mul_right T g) h) w)

share-grade : (T g w : ℕ) {x : ℕ} → 0 < T → T * g ∣ x → g ∣ w * x / T
share-grade T g w p h = dvd_of_mul-dvd-mul_left g p (rw (share T g w h) (dvd-mul_left_of_dvd (T * g) h w))

pub below : (e : Frame ℕ) (k : Kind) (g : ℕ) {x : ℕ} → grade e k g ∣ x → g ∣ x
below e MAX g h = h
below e MIN g h = h
below e CHANCE g h = dvd_trans g (dvd-mul_left g e.total) h

abbrev pub EvenR : ℕ → Seen ℕ → Type 0
EvenR g r = (g ∣ r.low) × (g ∣ r.high)

abbrev pub EvenS : ℕ → State ℕ → Type 0
EvenS g s = (g ∣ s.lo) × (g ∣ s.hi)

pub even-begin : (e : Frame ℕ) (k : Kind) (g a b : ℕ) (l : List ℕ) → Even g e → EvenS g (begin e k a b l)
unfolding begin
even-begin e MAX g a b l h = (h.0, h.0)
even-begin e MIN g a b l h = (h.1, h.1)
even-begin e CHANCE g a b l h = h

even-cut : (e : Frame ℕ) (k : Kind) (g : ℕ) (s : State ℕ) → Even (grade e k g) e → EvenS g s → EvenR g (cut e k s)
unfolding cut
even-cut e MAX g s h i = (i.0, h.1)
even-cut e MIN g s h i = (h.0, i.1)
even-cut e CHANCE g s h i = i

module _ (R : Rules ℕ) where
  even-update : (e : Frame ℕ) (k : Kind) (g n w : ℕ) (s : State ℕ) (r : Seen ℕ) → Paid e k → Even (grade e k g) e → EvenR (grade e k g) r → EvenS g s
      → EvenS g (update natural e k n w s r)
  unfolding update
  even-update e MAX g n w s r q h x i = (dvd-max g i.0 x.0, dvd-max g i.1 x.1)
  even-update e MIN g n w s r q h x i = (dvd-min g i.0 x.0, dvd-min g i.1 x.1)
  even-update e CHANCE g n w s r q h x i =
      (dvd-add g i.0 (share-grade e.total g w q (dvd-sub (e.total * g) x.0 h.0)), dvd-sub g i.1 (share-grade e.total g w q (dvd-sub (e.total * g) h.1 x.1)))

  -- a node met unread has the two ends
  pub even-met : (e : Frame ℕ) (l : List ℕ) (r : Seen ℕ) (g : ℕ) → Even g e → EvenR g r → EvenR g (met R e l r)
  unfolding met_spent
  even-met e l r g h x = choose (EvenR g) (R.full l) (λ _. h) (λ _. x)

  even-after : (e : Frame ℕ) (k : Kind) (rest : Forest ℕ) (t : State ℕ) (g : ℕ) → Even (grade e k g) e → EvenS g t
      → EvenR g (scan natural R e k rest t) → EvenR g (seen_after natural R e k rest t)
  even-after e k rest t g h i x = choose (EvenR g) (stop natural R.margin rest t) (λ _. even-cut e k g t h i) (λ _. x)

  pub even : (e : Frame ℕ) (k : Kind) (f : Forest ℕ) (s : State ℕ) (g : ℕ) → Paid e k → Within R.frame e f → Even (grade e k g) e
      → Fit R.frame (grade e k g) f → EvenS g s → EvenR g (scan natural R e k f s)
  unfolding scan finish point
  even e k end s g q y h i j = j
  even e k (leaf n w x rest) s g q y h i j =
      let j2 = even-update e k g n w s _ q h (even-met e s.read (point n x s.read) (grade e k g) h (i.0, i.0)) j in
      even-after e k rest _ g h j2 (even e k rest _ g q y.2 h i.1 j2)
  even e k (inner n w c under rest) s g q y h i j =
      let d : Frame ℕ = R.frame n under in
      let lo : Even (grade e k g) d = (below d c (grade e k g) i.0.0, below d c (grade e k g) i.0.1) in
      let u = even d c under _ (grade e k g) y.2.paid y.3 i.0 i.1
      (even-begin d c (grade e k g) (lower natural e k w s) (upper natural e k w s) s.read lo) in
      let r : Seen ℕ = seen_under natural R e k n w c under s in
      let t : State ℕ = update natural e k n w s (met R d s.read r) in
      let j2 = even-update e k g n w s (met R d s.read r) q h (even-met d s.read r (grade e k g) lo u) j in
      even-after e k rest t g h j2 (even e k rest t g q y.4 h i.2 j2)
