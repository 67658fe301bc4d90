-- What the search with running sums gives lies between the ends, and no number of it is large.
use Prim.Native.Nat.{ℕ, ◌+◌, ◌*◌, ◌-◌, ◌≤◌, ◌<◌}
use mathlib.Core.List.{List}
use native.Mathlib.Nat.{le-div_iff_mul-le, div-le_of_le-mul, mul-div-le, mul-le-mul_left, mul-sub, le_refl, le_trans, min-le_left}
use native.Mathlib.Omega.{arith}
use Rattle.field.proofs.Small.{choose}
use Rattle.table.specs.Tree.{Kind, MAX, MIN, CHANCE, Forest, end, leaf, inner, weigh}
use Rattle.search.specs.Search.{Frame, Seen, State, Rules, begin, finish, cut, point, met_spent, met, lower, upper, update, stop}
use Rattle.search.specs.Sums.{scaled, keep, leave, scan_sums}
use Rattle.search.specs.Inside.{natural, natural_sums, height_sums}
use Rattle.search.proofs.Steps.{sums_under, sums_after}
use Rattle.search.proofs.Heights.{Paid, Sound, Within}

-- what a node gave lies between these ends
abbrev pub Between : Frame ℕ → Seen ℕ → Type 0
Between e r = (e.bottom ≤ r.low) × (r.low ≤ r.high) × (r.high ≤ e.top)

-- the low and the high of a line, on its scale, after some children, where the others weigh W
abbrev pub Ranked : Frame ℕ → Kind → ℕ → State ℕ → Type 0
Ranked e MAX W s = (e.bottom ≤ s.lo) × (s.lo ≤ s.hi) × (s.hi ≤ e.top)
Ranked e MIN W s = (e.bottom ≤ s.lo) × (s.lo ≤ s.hi) × (s.hi ≤ e.top)
Ranked e CHANCE W s = (e.total * e.bottom ≤ s.lo) × (s.lo + W * (e.top - e.bottom) ≤ s.hi) × (s.hi ≤ e.total * e.top)

-- its window, on its scale
abbrev pub Small : ℕ → Frame ℕ → Kind → State ℕ → Type 0
Small S e k s = (s.alpha ≤ scaled e k S) × (s.beta ≤ scaled e k S)

-- ---- before the first child

pub ranked-begin : (e : Frame ℕ) (k : Kind) (f : Forest ℕ) (a b : ℕ) (l : List ℕ) → Sound e k f → Ranked e k (weigh f) (keep height_sums e k (begin e k a b l))
unfolding keep begin
ranked-begin e MAX f a b l q = (le_refl _, le_refl _, q.ends)
ranked-begin e MIN f a b l q = (q.ends, le_refl _, le_refl _)
ranked-begin e CHANCE f a b l q =
    (le_refl _, rw q.weighed (omega (arith, mul-sub e.total e.top e.bottom, mul-le-mul_left e.total q.ends)), le_refl _)

pub small-begin : (S : ℕ) (e : Frame ℕ) (k : Kind) (a b : ℕ) (l : List ℕ) → a ≤ S → b ≤ S → Small S e k (keep height_sums e k (begin e k a b l))
unfolding keep begin scaled
small-begin S e MAX a b l x y = (x, y)
small-begin S e MIN a b l x y = (x, y)
small-begin S e CHANCE a b l x y = (mul-le-mul_left e.total x, mul-le-mul_left e.total y)

-- ---- after a child

-- a child's shares leave room for the others
room : (B A w W lo hi l h : ℕ) → B ≤ l → l ≤ h → h ≤ A → lo + (w + W) * (A - B) ≤ hi → lo + w * (l - B) + W * (A - B) ≤ hi - w * (A - h)
room B A w W lo hi l h p q r i = let m : w * (l - B + (A - h)) ≤ w * (A - B) = mul-le-mul_left w (omega arith) in omega arith

pub ranked-update : (e : Frame ℕ) (k : Kind) (n w W : ℕ) (s : State ℕ) (r : Seen ℕ) → Between e r → Ranked e k (w + W) s → Ranked e k W (update natural_sums e k n w s r)
unfolding update
ranked-update e MAX n w W s r b i = (omega (arith, i.0), omega (arith, i.1, b.1), omega (arith, i.2, b.2))
ranked-update e MIN n w W s r b i = (omega (arith, i.0, b.0), omega (arith, i.1, b.1), omega (arith, i.2))
ranked-update e CHANCE n w W s r b i =
    (omega (arith, i.0), room e.bottom e.top w W s.lo s.hi r.low r.high b.0 b.1 b.2 i.1, omega (arith, i.2))

pub small-update : (S : ℕ) (e : Frame ℕ) (k : Kind) (n w W : ℕ) (s : State ℕ) (r : Seen ℕ) → e.top ≤ S → Between e r → Ranked e k (w + W) s → Small S e k s
    → Small S e k (update natural_sums e k n w s r)
unfolding update scaled
small-update S e MAX n w W s r t b i x =
    (omega (arith, x.0, i.1, i.2, b.1, b.2), le_trans (min-le_left _ _) x.1)
small-update S e MIN n w W s r t b i x = (omega (arith, x.0, i.0, i.1, i.2), le_trans (min-le_left _ _) x.1)
small-update S e CHANCE n w W s r t b i x =
    let j = room e.bottom e.top w W s.lo s.hi r.low r.high b.0 b.1 b.2 i.1 in
    let m : e.total * e.top ≤ e.total * S = mul-le-mul_left e.total t in
    (omega (arith, x.0, j, i.2, m), le_trans (min-le_left _ _) x.1)

-- ---- where a line is left

between-over : (e : Frame ℕ) (lo hi : ℕ) → 0 < e.total → e.total * e.bottom ≤ lo → lo ≤ hi → hi ≤ e.total * e.top
    → (e.bottom ≤ height_sums.over e.total lo) × (height_sums.over e.total lo ≤ height_sums.over e.total hi) × (height_sums.over e.total hi ≤ e.top)
between-over e lo hi p b o t = ((le-div_iff_mul-le p).1 (omega arith), (le-div_iff_mul-le p).1 (omega (arith, mul-div-le lo e.total)), div-le_of_le-mul e.total t)

between-finish : (e : Frame ℕ) (k : Kind) (s : State ℕ) → Paid e k → Ranked e k 0 s → Between e (leave height_sums e k (finish s))
unfolding leave finish
between-finish e MAX s q i = i
between-finish e MIN s q i = i
between-finish e CHANCE s q i = between-over e s.lo s.hi q i.0 (omega (arith, i.1)) i.2

between-cut : (e : Frame ℕ) (k : Kind) (W : ℕ) (s : State ℕ) → Paid e k → Ranked e k W s → Between e (leave height_sums e k (cut e k s))
unfolding leave cut
between-cut e MAX W s q i = (i.0, le_trans i.1 i.2, le_refl _)
between-cut e MIN W s q i = (le_refl _, le_trans i.0 i.1, i.2)
between-cut e CHANCE W s q i = between-over e s.lo s.hi q i.0 (omega (arith, i.1)) i.2

pub between-point : (e : Frame ℕ) (n h : ℕ) (l : List ℕ) → e.bottom ≤ h → h ≤ e.top → Between e (point n h l)
unfolding point
between-point e n h l p q = (p, le_refl h, q)

pub between-under : (e d : Frame ℕ) (r : Seen ℕ) → e.bottom ≤ d.bottom → d.top ≤ e.top → Between d r → Between e r
between-under e d r p q b = (le_trans p b.0, b.1, le_trans b.2 q)

module _ (R : Rules ℕ) where
  pub between-met : (e : Frame ℕ) (l : List ℕ) (r : Seen ℕ) → Between e r → Between e (met R e l r)
  unfolding met_spent
  between-met e l r b = choose (Between e) (R.full l) (λ _. (le_refl _, le_trans b.0 (le_trans b.1 b.2), le_refl _)) (λ _. b)

  between-after : (e : Frame ℕ) (k : Kind) (rest : Forest ℕ) (t : State ℕ) → Paid e k → Ranked e k (weigh rest) t → Between e (scan_sums height_sums natural R e k rest t)
      → Between e (sums_after height_sums natural R e k rest t)
  between-after e k rest t q i b = choose (Between e) (stop natural (scaled e k R.margin) rest t) (λ _. between-cut e k (weigh rest) t q i) (λ _. b)

  between-scan : (e : Frame ℕ) (k : Kind) (f : Forest ℕ) (s : State ℕ) → Paid e k → Within R.frame e f → Ranked e k (weigh f) s → Between e (scan_sums height_sums natural R e k f s)
  unfolding weigh scan_sums
  between-scan e k end s q y i = between-finish e k s q i
  between-scan e k (leaf n w h rest) s q y i =
      let j = ranked-update e k n w (weigh rest) s _ (between-met e s.read (point n h s.read) (between-point e n h s.read y.0 y.1)) i in
      between-after e k rest _ q j (between-scan e k rest _ q y.2 j)
  between-scan e k (inner n w c under rest) s q y i =
      let d : Frame ℕ = R.frame n under in
      let r : Seen ℕ = sums_under height_sums natural R e k n w c under s in
      let b = between-met d s.read r
      (between-scan d c under _ y.2.paid y.3 (ranked-begin d c under (lower natural_sums e k w s) (upper natural_sums e k w s) s.read y.2)) in
      let j = ranked-update e k n w (weigh rest) s _ (between-under e d (met R d s.read r) y.0 y.1 b) i in
      between-after e k rest _ q j (between-scan e k rest _ q y.4 j)

  -- whatever the window
  pub between : (e : Frame ℕ) (k : Kind) (f : Forest ℕ) (a b : ℕ) (l : List ℕ) → Sound e k f → Within R.frame e f
      → Between e (scan_sums height_sums natural R e k f (keep height_sums e k (begin e k a b l)))
  between e k f a b l q i = between-scan e k f _ q.paid i (ranked-begin e k f a b l q)
