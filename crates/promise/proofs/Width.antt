-- The bounds that the search returns are within the margin, inside the window, where its budget is never spent.
use Prim.Native.Nat.{ℕ, ◌+◌, ◌*◌, ◌-◌, ◌/◌, min, max, ◌≤◌, ◌<◌}
use mathlib.Core.Path.{◌≡◌, refl}
use mathlib.Core.Bool.{false}
use mathlib.Core.List.{List, []}
use native.Mathlib.Nat.{mul-le-mul_left, mul-le-mul_right, mul-sub, le_of_mul-le-mul_left, dvd-sub, le_trans, le-add_left, le-add_right, le_refl}
use native.Mathlib.Decide.{dec_le}
use native.Mathlib.Omega.{arith}
use lib.Dec.{T as Holds, leb→le}
use Rattle.field.proofs.Small.{choose}
use Rattle.table.specs.Tree.{Kind, MAX, MIN, CHANCE, Forest, end, leaf, inner, weigh}
use Rattle.search.specs.Search.{Frame, Seen, State, Rules, begin, lower, upper, update, finish, cut, stop, point, scan, search}
use Rattle.search.specs.Inside.{natural, ceil}
use Rattle.search.proofs.Steps.{seen_under, seen_after}
use Rattle.search.proofs.Heights.{Paid, Sound, Within}
use Rattle.search.proofs.Contain.{contained}
use Rattle.search.proofs.Safe.{drop, drop-top}
use Rattle.search.proofs.Shift.{ceil-le}
use Rattle.search.proofs.Fit.{grade, Even, Fit}
use Rattle.search.proofs.Exact.{share, even, EvenR, even-begin, below}

-- A child of a chance node whose bounds are further apart than the margin, inside its own window: the node's window is then shut.
gap-a : (T ε w lo be rl bc x : ℕ) → 0 < T → w ≤ T → (be - lo) * T ≤ w * bc → T * x ≡ w * rl → bc ≤ rl + ε → lo + x + ε < be → ⊥
gap-a T ε w lo be rl bc x T-pos w_t e1 ex near c1 =
    let d : x + ε + 1 ≤ be - lo = omega arith in
    omega (arith, mul-le-mul_left w near, mul-le-mul_right ε w_t, mul-le-mul_right T d)

gap-b : (S T ε w W lo hi al be ac bc : ℕ) → 0 < T → w ≤ T → ac ≤ S → T * lo + (w + W) * S ≤ T * hi → (be - lo) * T ≤ w * bc
    → (hi - al) * T ≤ w * (S - ac) → bc ≤ ac + ε → al + ε < be → ⊥
gap-b S T ε w W lo hi al be ac bc T-pos w_t a_s room e1 e2 near c2 =
    let d1 : be ≤ be - lo + lo = omega arith in
    let d2 : hi ≤ hi - al + al = omega arith in
    omega
    (arith, mul-le-mul_left w near, mul-le-mul_right ε w_t, mul-le-mul_left T d1, mul-le-mul_left T d2, mul-le-mul_left T c2, mul-sub w S ac, mul-le-mul_left w a_s)

gap-c : (S T ε w hi al rh ac y : ℕ) → 0 < T → w ≤ T → rh ≤ S → ac ≤ S → (hi - al) * T ≤ w * (S - ac) → T * y ≡ w * (S - rh) → rh ≤ ac + ε
    → al + ε < hi - y → ⊥
gap-c S T ε w hi al rh ac y T-pos w_t r_s a_s e2 ey near c3 =
    let d2 : hi ≤ hi - al + al = omega arith in
    let d3 : al + ε + 1 + y ≤ hi = omega arith in
    omega
    (arith, mul-le-mul_left w near, mul-le-mul_right ε w_t, mul-le-mul_left T d2, mul-le-mul_left T d3, mul-sub w S ac, mul-sub w S rh, mul-le-mul_left w a_s, mul-le-mul_left w r_s)

gap : (S T ε w W lo hi al be rl rh ac bc x y : ℕ) → 0 < T → w ≤ T → rh ≤ S → ac ≤ S
    → T * lo + (w + W) * S ≤ T * hi
    → (bc < S → (be - lo) * T ≤ w * bc)
    → (0 < ac → (hi - al) * T ≤ w * (S - ac))
    → T * x ≡ w * rl → T * y ≡ w * (S - rh)
    → min rh bc ≤ max rl ac + ε
    → rl + ε < rh
    → lo + x + ε < be → al + ε < be → al + ε < hi - y → ⊥
gap S T ε w W lo hi al be rl rh ac bc x y T-pos w_t r_s a_s room h1 h2 ex ey width far c1 c2 c3 =
    elim (dec_le rh bc) [
      | yes p ↦ gap-c S T ε w hi al rh ac y T-pos w_t r_s a_s (h2 (omega arith)) ey (omega arith) c3
      | no p ↦ elim (dec_le ac rl) [
        | yes q ↦ gap-a T ε w lo be rl bc x T-pos w_t (h1 (omega arith)) ex (omega arith) c1
        | no q ↦ gap-b S T ε w W lo hi al be ac bc T-pos w_t a_s room (h1 (omega arith)) (h2 (omega arith)) (omega arith) c2
      ]
    ]

-- the ends of a child's window, from the bottom
upper-ok : (B S X w : ℕ) → 0 < w → min S (B + ceil X w) - B < S - B → X ≤ w * (min S (B + ceil X w) - B)
upper-ok B S X w p h = let e : min S (B + ceil X w) - B ≡ ceil X w = omega arith in rw e (ceil-le X w p)

lower-ok : (B S X w : ℕ) → 0 < w → 0 < max B (S - ceil X w) - B → X ≤ w * (S - B - (max B (S - ceil X w) - B))
lower-ok B S X w p h = let e : S - B - (max B (S - ceil X w) - B) ≡ ceil X w = omega arith in rw e (ceil-le X w p)

open-window : (a b lo hi al be x y ε : ℕ) → al ≤ max a lo → min b hi ≤ be → max a (lo + x) + ε < min b (hi - y)
    → (lo + x + ε < be) × (al + ε < be) × (al + ε < hi - y) × (max a lo + ε < min b hi)
open-window a b lo hi al be x y ε h1 h2 h = omega arith

share-far : (w rl rh ε : ℕ) → (0 < w → rl + ε < rh → ⊥) → w * rh ≤ w * rl + w * ε
share-far w rl rh ε h =
    elim (dec_le rh (rl + ε)) [
      | yes p ↦ omega (arith, mul-le-mul_left w p)
      | no p ↦ elim (dec_le w 0) [ yes q ↦ omega (arith, mul-le-mul_right rh q) | no q ↦ absurd (h (omega arith) (omega arith)) ]
    ]

room-step : (S T w W lo hi rl rh x y : ℕ) → rl ≤ rh → rh ≤ S → T * x ≡ w * rl → T * y ≡ w * (S - rh) → T * lo + (w + W) * S ≤ T * hi
    → T * (lo + x) + W * S ≤ T * (hi - y)
room-step S T w W lo hi rl rh x y lh r_s ex ey room =
    omega (arith, mul-sub T hi y, mul-sub w S rh, mul-le-mul_left w lh, mul-le-mul_left w r_s)

tight-step : (S T ε w W lo hi rl rh x y : ℕ) → rl ≤ rh → rh ≤ S → T * x ≡ w * rl → T * y ≡ w * (S - rh) → T * lo + (w + W) * S ≤ T * hi
    → w * rh ≤ w * rl + w * ε → T * hi + (w + W) * ε ≤ T * lo + T * ε + (w + W) * S → T * (hi - y) + W * ε ≤ T * (lo + x) + T * ε + W * S
tight-step S T ε w W lo hi rl rh x y lh r_s ex ey room near tight =
    omega (arith, mul-sub T hi y, mul-sub w S rh, mul-le-mul_left w lh, mul-le-mul_left w r_s)

-- `omega` splits at most six times, so each of these has at most six `min` and `max`
max-join : (a lo rl al m : ℕ) → m ≡ max (max lo rl) a → al ≤ max a lo → (lo ≤ m) × (rl ≤ m) × (a ≤ m) × (al ≤ m)
max-join a lo rl al m e h = omega arith

max-alpha : (a lo rl al : ℕ) → al ≤ max a lo → max al (max lo rl) ≤ max a (max lo rl)
max-alpha a lo rl al h = omega arith

max-step : (hi rh b be lo rl a al m ε : ℕ) → (lo ≤ m) × (rl ≤ m) × (a ≤ m) × (al ≤ m) → b ≤ be → min hi b ≤ max lo a + ε → min rh be ≤ max rl al + ε
    → min (max hi rh) b ≤ m + ε
max-step hi rh b be lo rl a al m ε j h1 h2 h3 = omega arith

min-join : (b hi rh be n : ℕ) → n ≡ min (min hi rh) b → min b hi ≤ be → (n ≤ hi) × (n ≤ rh) × (n ≤ b) × (n ≤ be)
min-join b hi rh be n e h = omega arith

min-beta : (b hi rh be : ℕ) → min b hi ≤ be → min b (min hi rh) ≤ min be (min hi rh)
min-beta b hi rh be h = omega arith

min-step : (hi rh b be lo rl a al n ε : ℕ) → (n ≤ hi) × (n ≤ rh) × (n ≤ b) × (n ≤ be) → al ≤ a → min hi b ≤ max lo a + ε → min rh be ≤ max rl al + ε
    → n ≤ max (min lo rl) a + ε
min-step hi rh b be lo rl a al n ε j h1 h2 h3 = omega arith

chance-alpha : (a lo al x : ℕ) → al ≤ max a lo → max al (lo + x) ≤ max a (lo + x)
chance-alpha a lo al x h = omega arith

chance-beta : (b hi be y : ℕ) → min b hi ≤ be → min b (hi - y) ≤ min be (hi - y)
chance-beta b hi be y h = omega arith

-- a child's bounds lie inside the ends, so a window met with them is as good
meet-top : (b A be rh x : ℕ) → min b A ≤ be → rh ≤ A → min rh be ≤ x → min rh b ≤ x
meet-top b A be rh x p q h = omega arith

meet-bottom : (a B al rl x ε : ℕ) → al ≤ max a B → B ≤ rl → x ≤ max rl al + ε → x ≤ max rl a + ε
meet-bottom a B al rl x ε p q h = omega arith

-- the same distances from the bottom
drop_min : (B x y : ℕ) → min (x - B) (y - B) ≡ min x y - B
drop_min B x y = omega arith

drop-max : (B x y : ℕ) → max (x - B) (y - B) ≡ max x y - B
drop-max B x y = omega arith

drop-margin : (B x y ε : ℕ) → x ≤ y + ε → x - B ≤ y - B + ε
drop-margin B x y ε h = omega arith

drop-width : (B rl rh ac bc ε : ℕ) → min rh bc ≤ max rl ac + ε → min (rh - B) (bc - B) ≤ max (rl - B) (ac - B) + ε
drop-width B rl rh ac bc ε h = rw (drop_min, drop-max) (drop-margin B (min rh bc) (max rl ac) ε h)

drop-lower : (B S c : ℕ) → max B (S - c) - B ≤ S - B
drop-lower B S c = omega arith

module _ (R : Rules ℕ) where
  abbrev ε : ℕ
  ε = R.margin

  abbrev span : Frame ℕ → ℕ
  span e = e.top - e.bottom

  abbrev pub Tight : ℕ → ℕ → Seen ℕ → Type 0
  Tight a b r = min r.high b ≤ max r.low a + ε

  -- the state of a node that was given the window from a to b, where the children to come weigh W
  abbrev Narrow : ℕ → ℕ → Frame ℕ → Kind → ℕ → State ℕ → Type 0
  Narrow a b e MAX W s = (s.alpha ≤ max a s.lo) × (min b e.top ≤ s.beta) × (min s.hi b ≤ max s.lo a + ε)
  Narrow a b e MIN W s = (s.alpha ≤ max a e.bottom) × (min b s.hi ≤ s.beta) × (min s.hi b ≤ max s.lo a + ε)
  Narrow a b e CHANCE W s =
      (s.alpha ≤ max a s.lo) × (min b s.hi ≤ s.beta) × (e.total * s.lo + W * span e ≤ e.total * s.hi) × (W ≤ e.total)
      × (max a s.lo + ε < min b s.hi → e.total * s.hi + W * ε ≤ e.total * s.lo + e.total * ε + W * span e)

  stop-shut : (rest : Forest ℕ) (t : State ℕ) → Holds (stop natural R.margin rest t) → t.beta ≤ t.alpha + ε
  unfolding stop
  stop-shut end t h = absurd h
  stop-shut (leaf n w x rest) t h = leb→le _ _ h
  stop-shut (inner n w c under rest) t h = leb→le _ _ h

  module _ (a b : ℕ) where
    narrow-begin : (e : Frame ℕ) (k : Kind) (f : Forest ℕ) (l : List ℕ) → Sound e k f → Narrow a b e k (weigh f) (begin e k a b l)
    unfolding begin
    narrow-begin e MAX f l q = omega arith
    narrow-begin e MIN f l q = omega arith
    narrow-begin e CHANCE f l q =
        let m = mul-sub e.total e.top e.bottom in
        let n = mul-le-mul_left e.total q.ends in
        rw q.weighed (omega arith, omega arith, omega arith, omega arith, λ _. omega arith)

    narrow-update : (e : Frame ℕ) (k : Kind) (g n w W : ℕ) (s : State ℕ) (r : Seen ℕ) → Paid e k → Even (grade e k g) e → EvenR (grade e k g) r
        → e.bottom ≤ r.low → r.low ≤ r.high → r.high ≤ e.top
        → Tight (lower natural e k w s) (upper natural e k w s) r → Narrow a b e k (w + W) s → Narrow a b e k W (update natural e k n w s r)
    unfolding update lower upper
    narrow-update e MAX g n w W s r T-pos d x bl lh r_s t i = (
      max-alpha a _ _ _ i.0,
      omega (arith, i.1),
      max-step s.hi r.high b b s.lo r.low a s.alpha _ ε (max-join a s.lo r.low s.alpha _ refl i.0) (le_refl b) i.2
          (meet-top b e.top s.beta r.high _ i.1 r_s t),
    )
    narrow-update e MIN g n w W s r T-pos d x bl lh r_s t i = (
      omega (arith, i.0),
      min-beta b s.hi r.high s.beta i.1,
      min-step s.hi r.high b s.beta s.lo r.low a a _ ε (min-join b s.hi r.high s.beta _ refl i.1) (le_refl a) i.2
          (meet-bottom a e.bottom s.alpha r.low _ ε i.0 bl t),
    )
    narrow-update e CHANCE g n w W s r T-pos d x bl lh r_s t i =
        let T : ℕ = e.total in
        let B : ℕ = e.bottom in
        let rl : ℕ = r.low - B in
        let rh : ℕ = r.high - B in
        let ac : ℕ = max B (e.top - ceil ((s.hi - s.alpha) * T) w) in
        let bc : ℕ = min e.top (B + ceil ((s.beta - s.lo) * T) w) in
        let lh2 : rl ≤ rh = drop B lh in
        let r_s2 : rh ≤ span e = drop B r_s in
        let ex : T * (w * rl / T) ≡ w * rl = share T g w (dvd-sub (T * g) x.0 d.0) in
        let ey : T * (w * (e.top - r.high) / T) ≡ w * (span e - rh) = rw (drop-top B e.top r.high (le_trans bl lh))
        (share T g w (dvd-sub (T * g) d.1 x.1)) in (
          chance-alpha a s.lo s.alpha _ i.0,
          chance-beta b s.hi s.beta _ i.1,
          room-step (span e) T w W _ _ rl rh _ _ lh2 r_s2 ex ey i.2,
          le_trans (le-add_left W w) i.3,
          λ h. let o = open-window a b s.lo s.hi s.alpha s.beta _ _ ε i.0 i.1 h in
              tight-step (span e) T ε w W _ _ rl rh _ _ lh2 r_s2 ex ey i.2
              (share-far w rl rh ε λ wp far. gap (span e) T ε w W _ _ _ _ rl rh (ac - B) (bc - B) _ _ T-pos (le_trans (le-add_right w W) i.3) r_s2 (drop-lower B e.top _) i.2
              (upper-ok B e.top _ w wp) (lower-ok B e.top _ w wp) ex ey (drop-width B r.low r.high ac bc ε t) far o.0 o.1 o.2)
              (i.4 o.3),
        )

    narrow-finish : (e : Frame ℕ) (k : Kind) (s : State ℕ) → Paid e k → Narrow a b e k 0 s → Tight a b (finish s)
    unfolding finish
    narrow-finish e MAX s q i = i.2
    narrow-finish e MIN s q i = i.2
    narrow-finish e CHANCE s q i =
        elim (dec_le (min s.hi b) (max s.lo a + ε)) [
          | yes h ↦ h
          | no h ↦
              let m : e.total * s.hi ≤ e.total * (s.lo + ε) = omega (arith, i.4 (omega arith)) in
              let n : s.hi ≤ s.lo + ε = le_of_mul-le-mul_left m q in
              omega arith
        ]

    narrow_cut : (e : Frame ℕ) (k : Kind) (W : ℕ) (s : State ℕ) → s.beta ≤ s.alpha + ε → Narrow a b e k W s → Tight a b (cut e k s)
    unfolding cut
    narrow_cut e MAX W s h i = omega arith
    narrow_cut e MIN W s h i = omega arith
    narrow_cut e CHANCE W s h i = omega arith

    narrow-after : (e : Frame ℕ) (k : Kind) (rest : Forest ℕ) (t : State ℕ) → Narrow a b e k (weigh rest) t → Tight a b (scan natural R e k rest t)
        → Tight a b (seen_after natural R e k rest t)
    narrow-after e k rest t i x =
        choose (Tight a b) (stop natural R.margin rest t) (λ h. narrow_cut e k (weigh rest) t (stop-shut rest t h) i) (λ _. x)

  -- with a budget that is never spent
  module _ (never : (l : List ℕ) → R.full l ≡ false) where
    pub narrow : (e : Frame ℕ) (k : Kind) (f : Forest ℕ) (s : State ℕ) (a b g : ℕ) → Paid e k → Within R.frame e f → Even (grade e k g) e
        → Fit R.frame (grade e k g) f → Narrow a b e k (weigh f) s → Tight a b (scan natural R e k f s)
    unfolding scan weigh point
    narrow e k end s a b g q i d x j = narrow-finish a b e k s q j
    narrow e k (leaf n w v rest) s a b g q i d x j = rw (never s.read) (
        let j2 = narrow-update a b e k g n w (weigh rest) s (point n v s.read) q d (x.0, x.0) i.0 (omega arith) i.1 (omega arith) j in
        narrow-after a b e k rest _ j2 (narrow e k rest _ a b g q i.2 d x.1 j2))
    narrow e k (inner n w c under rest) s a b g q i d x j = rw (never s.read) (
        let la : ℕ = lower natural e k w s in
        let ub : ℕ = upper natural e k w s in
        let m : Frame ℕ = R.frame n under in
        let r : Seen ℕ = seen_under natural R e k n w c under s in
        let u : Tight la ub r = narrow m c under _ la ub (grade e k g) i.2.paid i.3 x.0 x.1
        (narrow-begin la ub m c under s.read i.2) in
        let v = contained R m c under la ub s.read i.2 i.3 in
        let y = even R m c under _ (grade e k g) i.2.paid i.3 x.0 x.1
        (even-begin m c (grade e k g) la ub s.read (below m c (grade e k g) x.0.0, below m c (grade e k g) x.0.1)) in
        let j2 = narrow-update a b e k g n w (weigh rest) s r q d y (le_trans i.0 v.0) (le_trans v.1 v.2) (le_trans v.3 i.1) u j in
        narrow-after a b e k rest _ j2 (narrow e k rest _ a b g q i.4 d x.2 j2))

    -- at the root
    pub width : (e : Frame ℕ) (k : Kind) (f : Forest ℕ) (g : ℕ) → Sound e k f → Within R.frame e f → Even (grade e k g) e
        → Fit R.frame (grade e k g) f → (search natural R e k f).high ≤ (search natural R e k f).low + ε
    unfolding search
    width e k f g q i d x = rw (never []) (
        let v = contained R e k f e.bottom e.top [] q i in
        omega (arith, v, narrow e k f _ e.bottom e.top g q.paid i d x (narrow-begin e.bottom e.top e k f [] q)))
