-- The search over the integers is the search over heights, from the lowest end up: with the windows of document 01, and with those of document 02, Item 14,
-- where a new alpha is also at most the greatest value and a new beta at least the least.
use Prim.Native.Nat.{ℕ, ◌+◌, ◌*◌, ◌-◌, ◌/◌, min, max, ◌≤◌, ◌<◌}
use mathlib.Core.Path.{◌≡◌, refl, sym, ap, ap₂, subst, ◌∙◌}
use mathlib.Core.Bool.{Bool, true, false, not, ◌&&◌, cond, true≢false, false≢true}
use mathlib.Core.List.{List, [], ◌∷◌, ◌++◌}
use native.Mathlib.Nat.{lt-mul-div-succ, mul-div-le, mul-le-mul_left, mul-sub, le_trans, div-eq_of_lt}
use native.Mathlib.Omega.{arith}
use native.Mathlib.Decide.{dec_le}
use lib.Dec.{T as Holds, leb, ltb, leb→le, le→leb, nleb→lt, lt→ltb, ltb→lt, not_T}
use lib.IntN.{ℤ, pos, negsuc, neg_ℤ, ◌+ℤ◌, ◌-ℤ◌, ◌*ℤ◌}
use lib.Signed.{lt_z, le_z}
use Rattle.numbers.specs.Integers.{max_z, min_z, floor_z, ceil_z}
use Rattle.numbers.proofs.Signs.{same_test, Is, is_eq, is-add, is-neg, is-minus, is_mul, is_le, is-max, is-min, is-floor}
use Rattle.table.specs.Tree.{Kind, MAX, MIN, CHANCE, Forest, end, leaf, inner, is_end, weigh}
use Rattle.search.specs.Search.{Frame, Play, no_play, child, Seen, State, Arith, Rules, begin, lower, upper, safer, better, update, finish, cut, stop, point, met_spent, met, scan, search, search_root}
use Rattle.search.specs.Whole.{whole_with, down_z, up_z, down_own, up_own, gain_z, loss_z}
use Rattle.search.specs.Inside.{natural, ceil}
use Rattle.search.proofs.Steps.{seen_under, seen_after}
use Rattle.search.proofs.Heights.{Sound, Within, Pays, Positive, shift}
use Rattle.search.proofs.Contain.{contained, Holding, hold-point, hold-under, hold-met}
use Rattle.search.proofs.Below.{below-same}
use Rattle.search.proofs.Safe.{drop-top, share-fits, Safe, safe-begin, safe-lower, safe-upper, safe-update}

-- m - n is the quotient of a - b by w, rounded up
is-ceil : (w : ℕ) (z : ℤ) (a b m n : ℕ) → 0 < w → Is z a b → a + w * n ≤ w * m + b → w * m + b < a + w * n + w → Is (ceil_z z w) m n
unfolding ceil_z
is-ceil w z a b m n w-pos p l u = is-neg (floor_z (neg_ℤ z) w) n m (is-floor w (neg_ℤ z) b a n m w-pos (is-neg z a b p) (omega arith) (omega arith))

pub ceil-le : (x w : ℕ) → 0 < w → x ≤ w * ceil x w
unfolding ceil
ceil-le x w p = omega (arith, lt-mul-div-succ (x + (w - 1)) p)

ceil-lt : (x w : ℕ) → 0 < w → w * ceil x w < x + w
unfolding ceil
ceil-lt x w p = omega (arith, mul-div-le (x + (w - 1)) w)

pub less-natural : (a b : ℕ) → ltb a b ≡ not (leb b a)
less-natural a b =
    same_test (ltb a b) (not (leb b a)) (λ h. not_T (leb b a) (λ x. omega (arith, leb→le b a x, ltb→lt a b h))) (λ h. lt→ltb a b (nleb→lt b a h))

pub less-whole : (y z : ℤ) → lt_z y z ≡ not (le_z z y)
less-whole (pos m) (pos n) = less-natural m n
less-whole (pos m) (negsuc n) = refl
less-whole (negsuc m) (pos n) = refl
less-whole (negsuc m) (negsuc n) = less-natural n m

is_end-shift : (Lo : ℤ) (f : Forest ℕ) → is_end (shift Lo f) ≡ is_end f
unfolding shift
is_end-shift Lo end = refl
is_end-shift Lo (leaf n w h rest) = refl
is_end-shift Lo (inner n w k under rest) = refl

pub shift-weigh : (Lo : ℤ) (f : Forest ℕ) → weigh (shift Lo f) ≡ weigh f
unfolding shift weigh
shift-weigh Lo end = refl
shift-weigh Lo (leaf n w h rest) = ap (λ (x : ℕ). w + x) (shift-weigh Lo rest)
shift-weigh Lo (inner n w k under rest) = ap (λ (x : ℕ). w + x) (shift-weigh Lo rest)

pick-rel : {A B : Type 0} (R : A → B → Type 0) (x y : A) (x2 y2 : B) (b c : Bool) → c ≡ b → (Holds b → R x x2) → (Holds (not b) → R y y2)
    → R (cond b x y) (cond c x2 y2)
pick-rel R x y x2 y2 true true e p q = p tt
pick-rel R x y x2 y2 true false e p q = absurd (false≢true e)
pick-rel R x y x2 y2 false true e p q = absurd (true≢false e)
pick-rel R x y x2 y2 false false e p q = q tt

still_open : (b c : Bool) → Holds (not (not b && c)) → Holds (not b) → Holds (not c)
still_open true c h e = absurd e
still_open false c h e = h

open-fits : (al be l h ε : ℕ) → max al l + ε < min be h → (l ≤ min be h) × (max al l ≤ h)
open-fits al be l h ε o = omega arith

-- whole grains: where there is a clamp, by Item 14's lines 9 and 10
abbrev down_by : (clamp : Bool) (e : Frame ℤ) (w : ℕ) (α U : ℤ) → ℤ
down_by false = down_z
down_by true = down_own

abbrev up_by : (clamp : Bool) (e : Frame ℤ) (w : ℕ) (β L : ℤ) → ℤ
up_by false = up_z
up_by true = up_own

abbrev pub whole_by : (clamp : Bool) → Arith ℤ
whole_by clamp = whole_with (down_by clamp) (up_by clamp)

-- where there is no clamp, a chance node's child to come has a window that is not below or above what is possible
abbrev pub Open : (clamp : Bool) → Kind → Bool → State ℕ → Type 0
Open clamp MAX e s = Unit {0}
Open clamp MIN e s = Unit {0}
Open clamp CHANCE e s = Holds (not clamp) → Holds (not e) → (s.lo ≤ s.beta) × (s.alpha ≤ s.hi)

pub open-begin : (clamp : Bool) (d : Frame ℕ) (k : Kind) (x : Bool) (a b : ℕ) (l : List ℕ) → (Holds (not clamp) → (d.bottom ≤ b) × (a ≤ d.top))
    → Open clamp k x (begin d k a b l)
unfolding begin
open-begin clamp d MAX x a b l h = tt
open-begin clamp d MIN x a b l h = tt
open-begin clamp d CHANCE x a b l h = λ c _. h c

pub open-update : (clamp : Bool) (ε : ℕ) (e : Frame ℕ) (k : Kind) (n w : ℕ) (s : State ℕ) (r : Seen ℕ) (rest : Forest ℕ)
    → Holds (not (stop natural ε rest (update natural e k n w s r))) → Open clamp k (is_end rest) (update natural e k n w s r)
unfolding update stop
open-update clamp ε e MAX n w s r rest h = tt
open-update clamp ε e MIN n w s r rest h = tt
open-update clamp ε e CHANCE n w s r rest h = λ _ x. open-fits _ _ _ _ ε (nleb→lt _ _ (still_open (is_end rest) _ h x))

-- ---- over plain numbers: what the clamp leaves as it is, and what it brings back

-- nothing, rounded up
ceil-none : (x y T w : ℕ) → 0 < w → x ≤ y → ceil ((x - y) * T) w ≡ 0
unfolding ceil
ceil-none x y T w p h =
    let z : x - y ≡ 0 = omega arith in
    let e : 0 * T + (w - 1) ≡ w - 1 = omega arith in
    ap (λ (a : ℕ). (a * T + (w - 1)) / w) z ∙ ap (λ (a : ℕ). a / w) e ∙ div-eq_of_lt (omega arith)

clip-low : (A B x : ℕ) → B ≤ A → min A (max B (A - x)) ≡ max B (A - x)
clip-low A B x h = omega arith

clip-high : (A B x : ℕ) → B ≤ A → max B (min A (B + x)) ≡ min A (B + x)
clip-high A B x h = omega arith

clip-over : (A B x c : ℕ) → B ≤ A → c ≡ 0 → min A (max B (A + x)) ≡ max B (A - c)
clip-over A B x c h e = omega arith

-- both stand p above and q below
module _ (p q : ℕ) where
  -- the integer z has the height h
  abbrev pub Rel : ℕ → ℤ → Type 0
  Rel h z = Is z (p + h) q

  pub rel-max : (a b : ℕ) (y z : ℤ) → Rel a y → Rel b z → Rel (max a b) (max_z y z)
  rel-max a b y z i j = is_eq (max_z y z) _ _ _ _ (is-max y z _ _ _ _ i j) (omega arith)

  pub rel-min : (a b : ℕ) (y z : ℤ) → Rel a y → Rel b z → Rel (min a b) (min_z y z)
  rel-min a b y z i j = is_eq (min_z y z) _ _ _ _ (is-min y z _ _ _ _ i j) (omega arith)

  pub rel-le : (ε a b : ℕ) (y z : ℤ) → Rel a y → Rel b z → le_z z (y +ℤ pos ε) ≡ leb b (a + ε)
  rel-le ε a b y z i j =
      is_le z (y +ℤ pos ε) (p + b) q (p + a + ε) (q + 0) j (is-add y (pos ε) (p + a) q ε 0 i (omega arith))
      ∙ same_test (leb (p + b + (q + 0)) (p + a + ε + q)) (leb b (a + ε))
      (λ h. le→leb b (a + ε) (omega (arith, leb→le (p + b + (q + 0)) (p + a + ε + q) h)))
      (λ h. le→leb (p + b + (q + 0)) (p + a + ε + q) (omega (arith, leb→le b (a + ε) h)))

  rel-low-chance : (T w B lo rl : ℕ) (b y z : ℤ) → 0 < T → B ≤ rl → Rel B b → Rel lo y → Rel rl z
      → Rel (lo + w * (rl - B) / T) (y +ℤ floor_z (pos w *ℤ (z -ℤ b)) T)
  rel-low-chance T w B lo rl b y z T-pos bl ib i j =
      let m = is_mul w (z -ℤ b) _ _ (is-minus z b _ _ _ _ j ib) in
      let e = mul-sub w rl B in
      let l = mul-le-mul_left w bl in
      let f = is-floor T (pos w *ℤ (z -ℤ b)) _ _ (w * (rl - B) / T) 0 T-pos m (omega (arith, mul-div-le (w * (rl - B)) T))
      (omega (arith, lt-mul-div-succ (w * (rl - B)) T-pos)) in
      is_eq (y +ℤ floor_z (pos w *ℤ (z -ℤ b)) T) _ _ _ _ (is-add y (floor_z (pos w *ℤ (z -ℤ b)) T) _ _ _ _ i f) (omega arith)

  rel-high-chance : (T w A hi rh : ℕ) (t y z : ℤ) → 0 < T → rh ≤ A → w * (A - rh) / T ≤ hi → Rel A t → Rel hi y → Rel rh z
      → Rel (hi - w * (A - rh) / T) (y -ℤ floor_z (pos w *ℤ (t -ℤ z)) T)
  rel-high-chance T w A hi rh t y z T-pos r_s fits it i j =
      let m = is_mul w (t -ℤ z) _ _ (is-minus t z _ _ _ _ it j) in
      let e = mul-sub w A rh in
      let l = mul-le-mul_left w r_s in
      let f = is-floor T (pos w *ℤ (t -ℤ z)) _ _ (w * (A - rh) / T) 0 T-pos m (omega (arith, mul-div-le (w * (A - rh)) T))
      (omega (arith, lt-mul-div-succ (w * (A - rh)) T-pos)) in
      is_eq (y -ℤ floor_z (pos w *ℤ (t -ℤ z)) T) _ _ _ _ (is-minus y (floor_z (pos w *ℤ (t -ℤ z)) T) _ _ _ _ i f) (omega arith)

  module _ (T w B A : ℕ) (b t : ℤ) (w-pos : 0 < w) (BA : B ≤ A) (ib : Rel B b) (it : Rel A t) where
    lower-fit : (al hi : ℕ) (y z : ℤ) → al ≤ hi → Rel al y → Rel hi z
        → Rel (max B (A - ceil ((hi - al) * T) w)) (max_z b (floor_z (pos T *ℤ (y -ℤ z)) w +ℤ t))
    lower-fit al hi y z fits i j =
        let x : ℤ = pos T *ℤ (y -ℤ z) in
        let m = is_mul T (y -ℤ z) _ _ (is-minus y z _ _ _ _ i j) in
        let e = mul-sub T hi al in
        let l = mul-le-mul_left T fits in
        let f = is-floor w x _ _ 0 (ceil ((hi - al) * T) w) w-pos m (omega (arith, ceil-le ((hi - al) * T) w w-pos))
        (omega (arith, ceil-lt ((hi - al) * T) w w-pos)) in
        is_eq (max_z b (floor_z x w +ℤ t)) _ _ _ _ (is-max b (floor_z x w +ℤ t) _ _ _ _ ib (is-add (floor_z x w) t _ _ _ _ f it)) (omega arith)

    upper-fit : (be lo : ℕ) (y z : ℤ) → lo ≤ be → Rel be y → Rel lo z
        → Rel (min A (B + ceil ((be - lo) * T) w)) (min_z t (ceil_z (pos T *ℤ (y -ℤ z)) w +ℤ b))
    upper-fit be lo y z fits i j =
        let x : ℤ = pos T *ℤ (y -ℤ z) in
        let m = is_mul T (y -ℤ z) _ _ (is-minus y z _ _ _ _ i j) in
        let e = mul-sub T be lo in
        let l = mul-le-mul_left T fits in
        let f = is-ceil w x _ _ (ceil ((be - lo) * T) w) 0 w-pos m (omega (arith, ceil-le ((be - lo) * T) w w-pos))
        (omega (arith, ceil-lt ((be - lo) * T) w w-pos)) in
        is_eq (min_z t (ceil_z x w +ℤ b)) _ _ _ _ (is-min t (ceil_z x w +ℤ b) _ _ _ _ it (is-add (ceil_z x w) b _ _ _ _ f ib)) (omega arith)

    -- a node whose window lies above its high
    lower-over : (al hi : ℕ) (y z : ℤ) → hi < al → Rel al y → Rel hi z
        → Rel (max B (A - ceil ((hi - al) * T) w)) (min_z t (max_z b (floor_z (pos T *ℤ (y -ℤ z)) w +ℤ t)))
    lower-over al hi y z over i j =
        let x : ℤ = pos T *ℤ (y -ℤ z) in
        let m = is_mul T (y -ℤ z) _ _ (is-minus y z _ _ _ _ i j) in
        let d : ℕ = (al - hi) * T in
        let le : hi ≤ al = omega arith in
        let e = mul-sub T al hi in
        let l = mul-le-mul_left T le in
        let f = is-floor w x _ _ (d / w) 0 w-pos m (omega (arith, mul-div-le d w)) (omega (arith, lt-mul-div-succ d w-pos)) in
        let g : Rel (A + d / w) (floor_z x w +ℤ t) = is_eq (floor_z x w +ℤ t) _ _ _ _ (is-add (floor_z x w) t _ _ _ _ f it) (omega arith) in
        let k = rel-min A (max B (A + d / w)) t (max_z b (floor_z x w +ℤ t)) it (rel-max B (A + d / w) b (floor_z x w +ℤ t) ib g) in
        subst (λ (h : ℕ). Rel h (min_z t (max_z b (floor_z x w +ℤ t)))) (clip-over A B (d / w) (ceil ((hi - al) * T) w) BA (ceil-none hi al T w w-pos le)) k

    -- and one whose window lies below its low
    upper-under : (be lo : ℕ) (y z : ℤ) → be < lo → Rel be y → Rel lo z
        → Rel (min A (B + ceil ((be - lo) * T) w)) (max_z b (min_z t (ceil_z (pos T *ℤ (y -ℤ z)) w +ℤ b)))
    upper-under be lo y z over i j =
        let x : ℤ = pos T *ℤ (y -ℤ z) in
        let m = is_mul T (y -ℤ z) _ _ (is-minus y z _ _ _ _ i j) in
        let d : ℕ = (lo - be) * T in
        let le : be ≤ lo = omega arith in
        let e = mul-sub T lo be in
        let l = mul-le-mul_left T le in
        let f = is-ceil w x _ _ 0 (d / w) w-pos m (omega (arith, mul-div-le d w)) (omega (arith, lt-mul-div-succ d w-pos)) in
        let g = is-add (ceil_z x w) b _ _ _ _ f ib in
        let k = is-max b (min_z t (ceil_z x w +ℤ b)) _ _ _ _ ib (is-min t (ceil_z x w +ℤ b) _ _ _ _ it g) in
        is_eq (max_z b (min_z t (ceil_z x w +ℤ b))) _ _ _ _ k (under-is A B (d / w) (ceil ((be - lo) * T) w) BA (ceil-none be lo T w w-pos le))
      where
        under-is : (A B x c : ℕ) → B ≤ A → c ≡ 0
            → max (p + B + (q + (x + q))) (min (p + A + (x + q)) (0 + (p + B) + q) + q) + q ≡ p + min A (B + c) + (q + (q + (x + q)))
        under-is A B x c h e = omega arith

    -- lines 9 and 10, with the clamp or without
    lower-clamp : (clamp : Bool) (al hi : ℕ) (y z : ℤ) → (Holds (not clamp) → al ≤ hi) → Rel al y → Rel hi z
        → Rel (max B (A - ceil ((hi - al) * T) w)) (down_by clamp (record { bottom = b; top = t; total = T }) w y z)
    unfolding down_z down_own
    lower-clamp false al hi y z r i j = lower-fit al hi y z (r tt) i j
    lower-clamp true al hi y z r i j =
        elim (dec_le al hi) [
          | yes h ↦ subst (λ (x : ℕ). Rel x (min_z t (max_z b (floor_z (pos T *ℤ (y -ℤ z)) w +ℤ t)))) (clip-low A B (ceil ((hi - al) * T) w) BA)
              (rel-min A _ t (max_z b (floor_z (pos T *ℤ (y -ℤ z)) w +ℤ t)) it (lower-fit al hi y z h i j))
          | no h ↦ lower-over al hi y z (omega arith) i j
        ]

    upper-clamp : (clamp : Bool) (be lo : ℕ) (y z : ℤ) → (Holds (not clamp) → lo ≤ be) → Rel be y → Rel lo z
        → Rel (min A (B + ceil ((be - lo) * T) w)) (up_by clamp (record { bottom = b; top = t; total = T }) w y z)
    unfolding up_z up_own
    upper-clamp false be lo y z r i j = upper-fit be lo y z (r tt) i j
    upper-clamp true be lo y z r i j =
        elim (dec_le lo be) [
          | yes h ↦ subst (λ (x : ℕ). Rel x (max_z b (min_z t (ceil_z (pos T *ℤ (y -ℤ z)) w +ℤ b)))) (clip-high A B (ceil ((be - lo) * T) w) BA)
              (rel-max B _ b (min_z t (ceil_z (pos T *ℤ (y -ℤ z)) w +ℤ b)) ib (upper-fit be lo y z h i j))
          | no h ↦ upper-under be lo y z (omega arith) i j
        ]

  pub record RelFrame (e : Frame ℕ) (z : Frame ℤ) : Type 0 where
    pub bottom : Rel e.bottom z.bottom
    pub top : Rel e.top z.top
    pub total : z.total ≡ e.total

  abbrev pub RelPlay : Play ℕ → Play ℤ → Type 0
  RelPlay no_play no_play = Unit {0}
  RelPlay no_play (child m l h) = ⊥
  RelPlay (child m l h) no_play = ⊥
  RelPlay (child m l h) (child m2 l2 h2) = (m2 ≡ m) × Rel l l2 × Rel h h2

  pub record RelState (s : State ℕ) (z : State ℤ) : Type 0 where
    pub alpha : Rel s.alpha z.alpha
    pub beta : Rel s.beta z.beta
    pub lo : Rel s.lo z.lo
    pub hi : Rel s.hi z.hi
    pub play : RelPlay s.play z.play
    pub read : z.read ≡ s.read
    pub spent : z.spent ≡ s.spent

  pub record RelSeen (s : Seen ℕ) (z : Seen ℤ) : Type 0 where
    pub low : Rel s.low z.low
    pub high : Rel s.high z.high
    pub play : RelPlay s.play z.play
    pub read : z.read ≡ s.read
    pub spent : z.spent ≡ s.spent

  pub rel-begin : (e : Frame ℕ) (ez : Frame ℤ) (k : Kind) (a b : ℕ) (y z : ℤ) (l m : List ℕ) → RelFrame e ez → Rel a y → Rel b z → m ≡ l
      → RelState (begin e k a b l) (begin ez k y z m)
  unfolding begin
  rel-begin e ez MAX a b y z l m f i j r = record { alpha = i; beta = j; lo = f.bottom; hi = f.bottom; play = tt; read = r; spent = refl }
  rel-begin e ez MIN a b y z l m f i j r = record { alpha = i; beta = j; lo = f.top; hi = f.top; play = tt; read = r; spent = refl }
  rel-begin e ez CHANCE a b y z l m f i j r = record { alpha = i; beta = j; lo = f.bottom; hi = f.top; play = tt; read = r; spent = refl }

  rel-cut : (e : Frame ℕ) (ez : Frame ℤ) (k : Kind) (s : State ℕ) (z : State ℤ) → RelFrame e ez → RelState s z → RelSeen (cut e k s) (cut ez k z)
  unfolding cut
  rel-cut e ez MAX s z f i = record { low = i.lo; high = f.top; play = i.play; read = i.read; spent = i.spent }
  rel-cut e ez MIN s z f i = record { low = f.bottom; high = i.hi; play = i.play; read = i.read; spent = i.spent }
  rel-cut e ez CHANCE s z f i = record { low = i.lo; high = i.hi; play = i.play; read = i.read; spent = i.spent }

  pub le_same : (a b : ℕ) (y z : ℤ) → Rel a y → Rel b z → le_z y z ≡ leb a b
  le_same a b y z i j =
      is_le y z (p + a) q (p + b) q i j
      ∙ same_test (leb (p + a + q) (p + b + q)) (leb a b) (λ h. le→leb a b (omega (arith, leb→le (p + a + q) (p + b + q) h)))
      (λ h. le→leb (p + a + q) (p + b + q) (omega (arith, leb→le a b h)))

  less-same : (a b : ℕ) (y z : ℤ) → Rel a y → Rel b z → lt_z y z ≡ ltb a b
  less-same a b y z i j = less-whole y z ∙ ap not (le_same b a z y j i) ∙ sym (less-natural a b)

  same : (k : Kind) (l h bl bh : ℕ) (zl zh zbl zbh : ℤ) → Rel l zl → Rel h zh → Rel bl zbl → Rel bh zbh
      → (whole_by false).beats k zl zh zbl zbh ≡ natural.beats k l h bl bh
  unfolding safer
  same MAX l h bl bh zl zh zbl zbh a b c d =
      below-same lt_z ltb zbl zl zbh zh bl l bh h (less-same bl l zbl zl c a) (less-same l bl zl zbl a c) (less-same bh h zbh zh d b)
  same MIN l h bl bh zl zh zbl zbh a b c d =
      below-same lt_z ltb zh zbh zl zbl h bh l bl (less-same h bh zh zbh b d) (less-same bh h zbh zh d b) (less-same l bl zl zbl a c)
  same CHANCE l h bl bh zl zh zbl zbh a b c d = refl

  -- with the clamp or without
  module _ (clamp : Bool) where
    abbrev whole : Arith ℤ
    whole = whole_by clamp

    pub rel-lower : (e : Frame ℕ) (ez : Frame ℤ) (k : Kind) (w : ℕ) (s : State ℕ) (z : State ℤ) → Pays k w → e.bottom ≤ e.top → RelFrame e ez
        → Open clamp k false s → RelState s z → Rel (lower natural e k w s) (lower (whole_by clamp) ez k w z)
    unfolding lower
    rel-lower e ez MAX w s z wp o f r i = i.alpha
    rel-lower e ez MIN w s z wp o f r i = i.alpha
    rel-lower e ez CHANCE w s z wp o f r i =
        subst (λ (T : ℕ). Rel (lower natural e CHANCE w s) (down_by clamp (record { bottom = ez.bottom; top = ez.top; total = T }) w z.alpha z.hi)) (sym f.total)
        (lower-clamp e.total w _ _ ez.bottom ez.top wp o f.bottom f.top clamp _ _ z.alpha z.hi (λ c. (r c tt).1) i.alpha i.hi)

    pub rel-upper : (e : Frame ℕ) (ez : Frame ℤ) (k : Kind) (w : ℕ) (s : State ℕ) (z : State ℤ) → Pays k w → e.bottom ≤ e.top → RelFrame e ez
        → Open clamp k false s → RelState s z → Rel (upper natural e k w s) (upper (whole_by clamp) ez k w z)
    unfolding upper
    rel-upper e ez MAX w s z wp o f r i = i.beta
    rel-upper e ez MIN w s z wp o f r i = i.beta
    rel-upper e ez CHANCE w s z wp o f r i =
        subst (λ (T : ℕ). Rel (upper natural e CHANCE w s) (up_by clamp (record { bottom = ez.bottom; top = ez.top; total = T }) w z.beta z.lo)) (sym f.total)
        (upper-clamp e.total w _ _ ez.bottom ez.top wp o f.bottom f.top clamp _ _ z.beta z.lo (λ c. (r c tt).0) i.beta i.lo)

    rel-better : (k : Kind) (n : ℕ) (u : Play ℕ) (v : Play ℤ) (r : Seen ℕ) (x : Seen ℤ) → RelPlay u v → RelSeen r x
        → RelPlay (better natural k n u r) (better whole k n v x)
    unfolding better
    rel-better k n no_play no_play r x i o = (refl, o.low, o.high)
    rel-better k n no_play (child m l h) r x i o = absurd i
    rel-better k n (child m l h) no_play r x i o = absurd i
    rel-better k n (child m l h) (child m2 l2 h2) r x i o =
        pick-rel RelPlay _ _ _ _ (natural.beats k r.low r.high l h) (whole.beats k x.low x.high l2 h2)
        (same k _ _ _ _ x.low x.high l2 h2 o.low o.high i.1 i.2) (λ _. (refl, o.low, o.high)) (λ _. i)

    pub rel-update : (S : ℕ) (e : Frame ℕ) (ez : Frame ℤ) (k : Kind) (n w W : ℕ) (s : State ℕ) (z : State ℤ) (r : Seen ℕ) (x : Seen ℤ) → RelFrame e ez
        → e.bottom ≤ r.low → r.low ≤ r.high → r.high ≤ e.top → Safe S e k (w + W) s
        → RelState s z → RelSeen r x → RelState (update natural e k n w s r) (update whole ez k n w z x)
    unfolding update gain_z loss_z
    rel-update S e ez MAX n w W s z r x f bl lh r_s j i o =
        let l = rel-max _ _ z.lo x.low i.lo o.low in
        let h = rel-max _ _ z.hi x.high i.hi o.high in
        record { alpha = rel-max _ _ z.alpha _ i.alpha l; beta = rel-min _ _ z.beta _ i.beta f.top; lo = l; hi = h; play = rel-better MAX n s.play z.play r x i.play o; read = o.read; spent = o.spent }
    rel-update S e ez MIN n w W s z r x f bl lh r_s j i o =
        let l = rel-min _ _ z.lo x.low i.lo o.low in
        let h = rel-min _ _ z.hi x.high i.hi o.high in
        record { alpha = rel-max _ _ z.alpha _ i.alpha f.bottom; beta = rel-min _ _ z.beta _ i.beta h; lo = l; hi = h; play = rel-better MIN n s.play z.play r x i.play o; read = o.read; spent = o.spent }
    rel-update S e ez CHANCE n w W s z r x f bl lh r_s j i o =
        let T : ℕ = e.total in
        let B : ℕ = e.bottom in
        let ey : T * (w * (e.top - r.high) / T) ≤ w * (e.top - B - (r.high - B)) = rw (drop-top B e.top r.high (le_trans bl lh))
        (mul-div-le _ T) in
        let fits = share-fits (e.top - B) T w W s.lo s.hi (r.high - B) (w * (e.top - r.high) / T) j.4 ey j.2 in
        rw f.total (
        let l = rel-low-chance T w B s.lo r.low ez.bottom z.lo x.low j.4 bl f.bottom i.lo o.low in
        let h = rel-high-chance T w e.top s.hi r.high ez.top z.hi x.high j.4 r_s fits f.top i.hi o.high in
        record { alpha = rel-max _ _ z.alpha _ i.alpha l; beta = rel-min _ _ z.beta _ i.beta h; lo = l; hi = h; play = tt; read = o.read; spent = o.spent })

    module _ (Lo : ℤ) (is_lo : Is Lo p q) (S : ℕ) (R : Rules ℕ) (frame_z : ℕ → Forest ℤ → Frame ℤ)
        (flat : Holds (not clamp) → (n : ℕ) (f : Forest ℕ) → ((R.frame n f).bottom ≡ 0) × ((R.frame n f).top ≡ S)) where
      -- the frame of each inner node over heights is its frame over the integers
      abbrev pub RelFrames : Forest ℕ → Type 0
      RelFrames end = Unit {0}
      RelFrames (leaf n w h rest) = RelFrames rest
      RelFrames (inner n w k under rest) = RelFrame (R.frame n under) (frame_z n (shift Lo under)) × RelFrames under × RelFrames rest

      -- in the search of a root; a lone leaf has a frame where it is met unread
      abbrev pub RelFramesRoot : Forest ℕ → Type 0
      RelFramesRoot end = RelFrame (R.frame 0 end) (frame_z 0 end)
      RelFramesRoot (leaf n w h rest) = Holds (R.full []) → RelFrame (R.frame n end) (frame_z n end)
      RelFramesRoot (inner n w k under rest) = RelFrame (R.frame n under) (frame_z n (shift Lo under)) × RelFrames under

      abbrev Z : Rules ℤ
      Z = record { frame = frame_z; margin = R.margin; full = R.full }

      rel-lift : (h : ℕ) → Rel h (Lo +ℤ pos h)
      rel-lift h = is_eq (Lo +ℤ pos h) (p + h) (q + 0) _ _ (is-add Lo (pos h) p q h 0 is_lo (omega arith)) (omega arith)

      pub rel-point : (n h : ℕ) (l m : List ℕ) → m ≡ l → RelSeen (point n h l) (point n (Lo +ℤ pos h) m)
      unfolding point
      rel-point n h l m r = record { low = rel-lift h; high = rel-lift h; play = tt; read = ap (λ x. x ++ (n ∷ [])) r; spent = refl }

      pub rel-met : (e : Frame ℕ) (ez : Frame ℤ) (l m : List ℕ) (r : Seen ℕ) (x : Seen ℤ) → (Holds (R.full l) → RelFrame e ez) → m ≡ l → RelSeen r x
          → RelSeen (met R e l r) (met Z ez m x)
      unfolding met_spent
      rel-met e ez l m r x f q i =
          pick-rel RelSeen _ _ _ _ (R.full l) (R.full m) (ap R.full q)
          (λ h. record { low = (f h).bottom; high = (f h).top; play = tt; read = q; spent = refl }) (λ _. i)

      pub rel-stop : (rest : Forest ℕ) (s : State ℕ) (z : State ℤ) → RelState s z
          → stop whole R.margin (shift Lo rest) z ≡ stop natural R.margin rest s
      unfolding stop
      rel-stop rest s z i = ap₂ (λ x y. not x && y) (is_end-shift Lo rest) (rel-le R.margin _ _ z.alpha z.beta i.alpha i.beta)

      rel-after : (e : Frame ℕ) (ez : Frame ℤ) (k : Kind) (rest : Forest ℕ) (s : State ℕ) (z : State ℤ) → RelFrame e ez → RelState s z
          → (Holds (not (stop natural R.margin rest s)) → RelSeen (scan natural R e k rest s) (scan whole Z ez k (shift Lo rest) z))
          → RelSeen (seen_after natural R e k rest s) (seen_after whole Z ez k (shift Lo rest) z)
      rel-after e ez k rest s z f i g =
          pick-rel RelSeen _ _ _ _ (stop natural R.margin rest s) (stop whole R.margin (shift Lo rest) z) (rel-stop rest s z i)
          (λ _. rel-cut e ez k s z f i) g

      -- a child has given r, over the integers x
      rel-step : (e : Frame ℕ) (ez : Frame ℤ) (k : Kind) (n w : ℕ) (rest : Forest ℕ) (s : State ℕ) (z : State ℤ) (r : Seen ℕ) (x : Seen ℤ) (v : ℕ)
          → RelFrame e ez → e.top ≤ S → Holding e v r → Safe S e k (w + weigh rest) s → RelState s z → RelSeen r x
          → ((t : State ℕ) (y : State ℤ) → Safe S e k (weigh rest) t → Open clamp k (is_end rest) t → RelState t y → RelSeen (scan natural R e k rest t) (scan whole Z ez k (shift Lo rest) y))
          → RelSeen (seen_after natural R e k rest (update natural e k n w s r)) (seen_after whole Z ez k (shift Lo rest) (update whole ez k n w z x))
      rel-step e ez k n w rest s z r x v f t h j i o ih =
          let lh = le_trans h.1 h.2 in
          let j2 = safe-update S e k n w (weigh rest) s r t h.0 lh h.3 j in
          let e2 = rel-update S e ez k n w (weigh rest) s z r x f h.0 lh h.3 j i o in
          rel-after e ez k rest _ _ f e2 (λ more. ih _ _ j2 (open-update clamp R.margin e k n w s r rest more) e2)

      pub shifted : (e : Frame ℕ) (ez : Frame ℤ) (k : Kind) (f : Forest ℕ) (s : State ℕ) (z : State ℤ) → RelFrame e ez → e.bottom ≤ e.top → e.top ≤ S
          → RelFrames f → Within R.frame e f → Positive k f → Safe S e k (weigh f) s → Open clamp k (is_end f) s → RelState s z
          → RelSeen (scan natural R e k f s) (scan whole Z ez k (shift Lo f) z)
      unfolding scan shift weigh finish
      shifted e ez k end s z f b t m i o j r g = record { low = g.lo; high = g.hi; play = g.play; read = g.read; spent = g.spent }
      shifted e ez k (leaf n w h rest) s z f b t m i o j r g =
          let r : Seen ℕ = point n h s.read in
          let x : Seen ℤ = point n (Lo +ℤ pos h) z.read in
          rel-step e ez k n w rest s z (met R e s.read r) (met Z ez z.read x) h f t (hold-met R e s.read h r (hold-point e n h s.read (i.0, i.1))) j g
          (rel-met e ez s.read z.read r x (λ _. f) g.read (rel-point n h s.read z.read g.read))
          (λ u y j2 r2 g2. shifted e ez k rest u y f b t m i.2 o.1 j2 r2 g2)
      shifted e ez k (inner n w c under rest) s z f b t m i o j r g =
          let d : Frame ℕ = R.frame n under in
          let dz : Frame ℤ = frame_z n (shift Lo under) in
          let la : ℕ = lower natural e k w s in
          let ub : ℕ = upper natural e k w s in
          let y : Seen ℕ = seen_under natural R e k n w c under s in
          let v = contained R d c under la ub s.read i.2 i.3 in
          let la-fits : la ≤ S = safe-lower S e k w _ s (le_trans b t) t j in
          let ub-fits : ub ≤ S = safe-upper S e k w _ s t j in
          let u = shifted d dz c under (begin d c la ub s.read) (begin dz c (lower whole ez k w z) (upper whole ez k w z) z.read) m.0
          i.2.ends (le_trans i.1 t) m.1 i.3 o.1
          (safe-begin S d c under la ub s.read i.2 (le_trans i.1 t) la-fits ub-fits)
          (open-begin clamp d c (is_end under) la ub s.read (λ x. let q = flat x n under in (rw q.0 (omega arith), rw q.1 la-fits)))
          (rel-begin d dz c la ub (lower whole ez k w z) (upper whole ez k w z) s.read z.read m.0 (rel-lower e ez k w s z o.0 b f r g) (rel-upper e ez k w s z o.0 b f r g) g.read) in
          let x : Seen ℤ = seen_under whole Z ez k n w c (shift Lo under) z in
          rel-step e ez k n w rest s z (met R d s.read y) (met Z dz z.read x) _ f t (hold-under e d _ (met R d s.read y) i.0 i.1 (hold-met R d s.read _ y v)) j g
          (rel-met d dz s.read z.read y x (λ _. m.0) g.read u)
          (λ u y j2 r2 g2. shifted e ez k rest u y f b t m.2 i.4 o.2 j2 r2 g2)

      pub shifted-search : (n : ℕ) (k : Kind) (f : Forest ℕ) → Sound (R.frame n f) k f → (R.frame n f).top ≤ S
          → RelFrame (R.frame n f) (frame_z n (shift Lo f)) → RelFrames f → Within R.frame (R.frame n f) f
          → Positive k f → RelSeen (search natural R (R.frame n f) k f) (search whole Z (frame_z n (shift Lo f)) k (shift Lo f))
      unfolding search
      shifted-search n k f x t g m i o =
          let e : Frame ℕ = R.frame n f in
          let ez : Frame ℤ = frame_z n (shift Lo f) in
          let s : State ℕ = begin e k e.bottom e.top [] in
          let z : State ℤ = begin ez k ez.bottom ez.top [] in
          rel-met e ez [] [] (scan natural R e k f s) (scan whole Z ez k (shift Lo f) z) (λ _. g) refl
          (shifted e ez k f s z g x.ends t m i o
          (safe-begin S e k f e.bottom e.top [] x t (le_trans x.ends t) t)
          (open-begin clamp e k (is_end f) e.bottom e.top [] (λ _. (x.ends, x.ends)))
          (rel-begin e ez k e.bottom e.top ez.bottom ez.top [] [] g g.bottom g.top refl))

      -- the search of a root
      pub shifted-root : (e : Frame ℕ) (f : Forest ℕ) → e.top ≤ S → RelFramesRoot f → Within R.frame e f → Positive MAX f
          → RelSeen (search_root natural R f) (search_root whole Z (shift Lo f))
      unfolding search_root shift
      shifted-root e end t m i o = record { low = m.bottom; high = m.top; play = tt; read = refl; spent = refl }
      shifted-root e (leaf n w h rest) t m i o =
          rel-met (R.frame n end) (frame_z n end) [] [] (point n h []) (point n (Lo +ℤ pos h) []) m refl (rel-point n h [] [] refl)
      shifted-root e (inner n w k under rest) t m i o = shifted-search n k under i.2 (le_trans i.1 t) m.0 m.1 i.3 o.1

      -- where every frame is the same over heights and over the integers
      pub frames-all : ((n : ℕ) (f : Forest ℕ) → RelFrame (R.frame n f) (frame_z n (shift Lo f))) → (f : Forest ℕ) → RelFrames f
      frames-all h end = tt
      frames-all h (leaf n w v rest) = frames-all h rest
      frames-all h (inner n w k under rest) = (h n under, frames-all h under, frames-all h rest)

      pub frames-all-root : ((n : ℕ) (f : Forest ℕ) → RelFrame (R.frame n f) (frame_z n (shift Lo f))) → (f : Forest ℕ) → RelFramesRoot f
      unfolding shift
      frames-all-root h end = h 0 end
      frames-all-root h (leaf n w v rest) = λ _. h n end
      frames-all-root h (inner n w k under rest) = (h n under, frames-all h under)
