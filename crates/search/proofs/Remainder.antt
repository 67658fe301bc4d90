-- The divisions of lines 20 and 21 leave no remainder: over heights, and so over the integers, where both searches are walked side by side.
use Prim.Native.Nat.{ℕ, ◌+◌, ◌*◌, ◌-◌, ◌/◌, ◌≤◌, ◌<◌}
use mathlib.Core.Path.{◌≡◌, refl, sym, ap, ◌∙◌}
use mathlib.Core.Bool.{Bool, false, not}
use mathlib.Core.List.{[]}
use native.Mathlib.Nat.{dvd-sub, mul-div-le, lt-mul-div-succ, mul-sub, mul-le-mul_left, le_trans}
use native.Mathlib.Omega.{arith}
use lib.Dec.{T as Holds}
use lib.IntN.{ℤ, pos, ◌+ℤ◌, ◌-ℤ◌, ◌*ℤ◌}
use Rattle.numbers.specs.Integers.{floor_z}
use Rattle.numbers.proofs.Signs.{Is, is-unique, is_eq, is-minus, is_mul, is-floor}
use Rattle.table.specs.Tree.{Kind, MAX, MIN, CHANCE, Forest, end, leaf, inner, is_end, weigh}
use Rattle.search.specs.Search.{Frame, Seen, State, Arith, Rules, begin, point, met, lower, upper, enter, update, stop}
use Rattle.search.specs.Inside.{natural}
use Rattle.search.proofs.Steps.{seen_under}
use Rattle.search.proofs.Heights.{Paid, Within, Positive, shift}
use Rattle.search.proofs.Contain.{Holding, hold-point, hold-under, hold-met, contained}
use Rattle.search.proofs.Safe.{Safe, safe-begin, safe-lower, safe-upper, safe-update}
use Rattle.search.proofs.Shift.{whole_by, Rel, RelFrame, RelFrames, RelFramesRoot, RelState, RelSeen, Open, rel-begin, rel-lower, rel-upper, rel-update, rel-point, rel-met, rel-stop, open-begin, open-update, shifted}
use Rattle.search.specs.Exact.{AtChance, EachTaken, EachTakenRoot, WholeQuotients}
use Rattle.search.proofs.Fit.{grade, Even, Fit}
use Rattle.search.proofs.Exact.{share, even, EvenR, even-begin, even-met, below}

-- ---- over heights

abbrev pub WholeHeights : Frame ℕ → ℕ → Seen ℕ → Type 0
WholeHeights e w r =
    (e.total * (w * (r.low - e.bottom) / e.total) ≡ w * (r.low - e.bottom)) ×
    (e.total * (w * (e.top - r.high) / e.total) ≡ w * (e.top - r.high))

module _ (R : Rules ℕ) where
  whole-at : (e : Frame ℕ) (k : Kind) (g w : ℕ) (r : Seen ℕ) → Even (grade e k g) e → EvenR (grade e k g) r → AtChance natural R WholeHeights e k w r
  whole-at e MAX g w r h x = tt
  whole-at e MIN g w r h x = tt
  whole-at e CHANCE g w r h x =
      (share e.total g w (dvd-sub (e.total * g) x.0 h.0), share e.total g w (dvd-sub (e.total * g) h.1 x.1))

  whole-heights : (e : Frame ℕ) (k : Kind) (f : Forest ℕ) (s : State ℕ) (g : ℕ) → Paid e k → Within R.frame e f → Even (grade e k g) e
      → Fit R.frame (grade e k g) f → EachTaken natural R WholeHeights e k f s
  unfolding point
  whole-heights e k end s g q y h i = tt
  whole-heights e k (leaf n w v rest) s g q y h i =
      (whole-at e k g w _ h (even-met R e s.read (point n v s.read) (grade e k g) h (i.0, i.0)), λ _. whole-heights e k rest _ g q y.2 h i.1)
  whole-heights e k (inner n w c under rest) s g q y h i =
      let d : Frame ℕ = R.frame n under in
      let j : ℕ = grade e k g in
      let la : ℕ = lower natural e k w s in
      let ub : ℕ = upper natural e k w s in
      let lo : Even j d = (below d c j i.0.0, below d c j i.0.1) in
      let u : EvenR j (seen_under natural R e k n w c under s) =
      even R d c under (begin d c la ub s.read) j y.2.paid y.3 i.0 i.1 (even-begin d c j la ub s.read lo) in (
        whole-at e k g w _ h (even-met R d s.read (seen_under natural R e k n w c under s) j lo u),
        λ _. whole-heights d c under (begin d c la ub s.read) j y.2.paid y.3 i.0 i.1,
        λ _. whole-heights e k rest _ g q y.4 h i.2,
      )

  pub heights-root : (e : Frame ℕ) (g : ℕ) (f : Forest ℕ) → Within R.frame e f → Fit R.frame g f → EachTakenRoot natural R WholeHeights f
  heights-root e g end i x = tt
  heights-root e g (leaf n w h rest) i x = tt
  heights-root e g (inner n w k under rest) i x =
      let d : Frame ℕ = R.frame n under in
      λ _. whole-heights d k under (begin d k d.bottom d.top []) g i.2.paid i.3 x.0 x.1

-- ---- over the integers

-- a quotient without a remainder: x is a - b
floor-whole : (T : ℕ) (z : ℤ) (a b x : ℕ) → 0 < T → Is z a b → a ≡ x + b → T * (x / T) ≡ x → pos T *ℤ floor_z z T ≡ z
floor-whole T z a b x T-pos i e h =
    let f : Is (floor_z z T) (x / T) 0 = is-floor T z a b (x / T) 0 T-pos i (omega (arith, mul-div-le x T)) (omega (arith, lt-mul-div-succ x T-pos)) in
    is-unique (pos T *ℤ floor_z z T) z a b (is_eq (pos T *ℤ floor_z z T) (T * (x / T)) (T * 0) a b (is_mul T (floor_z z T) (x / T) 0 f) (omega arith)) i

module _ (p q : ℕ) where
  -- w times the difference of two integers of heights a and b
  share-whole : (T w a b : ℕ) (y z : ℤ) → 0 < T → b ≤ a → Rel p q a y → Rel p q b z → T * (w * (a - b) / T) ≡ w * (a - b)
      → pos T *ℤ floor_z (pos w *ℤ (y -ℤ z)) T ≡ pos w *ℤ (y -ℤ z)
  share-whole T w a b y z T-pos le i j h =
      floor-whole T (pos w *ℤ (y -ℤ z)) (w * (p + a + q)) (w * (q + (p + b))) (w * (a - b)) T-pos
      (is_mul w (y -ℤ z) (p + a + q) (q + (p + b)) (is-minus y z (p + a) q (p + b) q i j))
      (omega (arith, mul-sub w a b, mul-le-mul_left w le)) h

  module _ (clamp : Bool) (Lo : ℤ) (is_lo : Is Lo p q) (S : ℕ) (R : Rules ℕ) (frame_z : ℕ → Forest ℤ → Frame ℤ)
      (flat : Holds (not clamp) → (n : ℕ) (f : Forest ℕ) → ((R.frame n f).bottom ≡ 0) × ((R.frame n f).top ≡ S)) where
    abbrev whole : Arith ℤ
    whole = whole_by clamp

    abbrev Met : Forest ℕ → Type 0
    Met f = RelFrames p q clamp Lo is_lo S R frame_z flat f

    abbrev MetRoot : Forest ℕ → Type 0
    MetRoot f = RelFramesRoot p q clamp Lo is_lo S R frame_z flat f

    abbrev Z : Rules ℤ
    Z = record { frame = frame_z; margin = R.margin; full = R.full }

    at-shift : (e : Frame ℕ) (ez : Frame ℤ) (k : Kind) (w W v : ℕ) (s : State ℕ) (r : Seen ℕ) (x : Seen ℤ) → RelFrame p q e ez → Holding e v r
        → Safe S e k W s
        → RelSeen p q r x → AtChance natural R WholeHeights e k w r → AtChance whole Z WholeQuotients ez k w x
    at-shift e ez MAX w W v s r x f h j o a = tt
    at-shift e ez MIN w W v s r x f h j o a = tt
    at-shift e ez CHANCE w W v s r x f h j o a = rw f.total (
      share-whole e.total w r.low e.bottom x.low ez.bottom j.4 h.0 o.low f.bottom a.0,
      share-whole e.total w e.top r.high ez.top x.high j.4 h.3 f.top o.high a.1,
    )

    -- ---- the two searches side by side

    -- before a child of weight w they stand at s and z; what it gave is r and x, and held v
    pub record Pair (e : Frame ℕ) (ez : Frame ℤ) (k : Kind) (n w : ℕ) (s : State ℕ) (z : State ℤ) (r : Seen ℕ) (x : Seen ℤ) : Type 0 where
      pub frame : RelFrame p q e ez
      pub before : RelState p q s z
      pub seen : RelSeen p q r x
      pub after : RelState p q (update natural e k n w s r) (update whole ez k n w z x)
      pub worth : ℕ
      pub held : Holding e worth r
      pub others : ℕ
      pub safe : Safe S e k others s

    -- of every child that both come to
    abbrev pub EachPair : (e : Frame ℕ) (ez : Frame ℤ) (k : Kind) (f : Forest ℕ) (s : State ℕ) (z : State ℤ) → Type 0
    EachPair e ez k end s z = Unit {0}
    EachPair e ez k (leaf n w h rest) s z =
        let r : Seen ℕ = met R e s.read (point n h s.read) in
        let x : Seen ℤ = met Z ez z.read (point n (Lo +ℤ pos h) z.read) in
        Pair e ez k n w s z r x
        × (stop natural R.margin rest (update natural e k n w s r) ≡ false → EachPair e ez k rest (update natural e k n w s r) (update whole ez k n w z x))
    EachPair e ez k (inner n w c under rest) s z =
        let d : Frame ℕ = R.frame n under in
        let dz : Frame ℤ = frame_z n (shift Lo under) in
        let r : Seen ℕ = met R d s.read (seen_under natural R e k n w c under s) in
        let x : Seen ℤ = met Z dz z.read (seen_under whole Z ez k n w c (shift Lo under) z) in
        Pair e ez k n w s z r x
        × (R.full s.read ≡ false → EachPair d dz c under (enter natural e k w d c s) (enter whole ez k w dz c z))
        × (stop natural R.margin rest (update natural e k n w s r) ≡ false → EachPair e ez k rest (update natural e k n w s r) (update whole ez k n w z x))

    pair : (e : Frame ℕ) (ez : Frame ℤ) (k : Kind) (n w W : ℕ) (s : State ℕ) (z : State ℤ) (r : Seen ℕ) (x : Seen ℤ) (v : ℕ)
        → RelFrame p q e ez → Holding e v r → Safe S e k (w + W) s → RelState p q s z → RelSeen p q r x → Pair e ez k n w s z r x
    pair e ez k n w W s z r x v f h j i o =
        record { frame = f; before = i; seen = o; after = rel-update p q clamp S e ez k n w W s z r x f h.0 (le_trans h.1 h.2) h.3 j i o; worth = v; held = h; others = w + W; safe = j }

    -- what is left to do once a child has given r, over the integers x
    pair-rest : (e : Frame ℕ) (ez : Frame ℤ) (k : Kind) (n w : ℕ) (rest : Forest ℕ) (s : State ℕ) (z : State ℤ) (r : Seen ℕ) (x : Seen ℤ) (v : ℕ)
        → e.top ≤ S → Holding e v r → Safe S e k (w + weigh rest) s → RelState p q (update natural e k n w s r) (update whole ez k n w z x)
        → ((t : State ℕ) (y : State ℤ) → Safe S e k (weigh rest) t → Open clamp k (is_end rest) t → RelState p q t y → EachPair e ez k rest t y)
        → stop natural R.margin rest (update natural e k n w s r) ≡ false → EachPair e ez k rest (update natural e k n w s r) (update whole ez k n w z x)
    pair-rest e ez k n w rest s z r x v t h j i ih d =
        ih (update natural e k n w s r) (update whole ez k n w z x) (safe-update S e k n w (weigh rest) s r t h.0 (le_trans h.1 h.2) h.3 j)
        (open-update clamp R.margin e k n w s r rest (rw d tt)) i

    pairs : (e : Frame ℕ) (ez : Frame ℤ) (k : Kind) (f : Forest ℕ) (s : State ℕ) (z : State ℤ) → RelFrame p q e ez → e.bottom ≤ e.top → e.top ≤ S
        → Met f → Within R.frame e f → Positive k f → Safe S e k (weigh f) s → Open clamp k (is_end f) s → RelState p q s z → EachPair e ez k f s z
    unfolding weigh
    pairs e ez k end s z f b t m i o j r g = tt
    pairs e ez k (leaf n w h rest) s z f b t m i o j r g =
        let y : Seen ℕ = met R e s.read (point n h s.read) in
        let yz : Seen ℤ = met Z ez z.read (point n (Lo +ℤ pos h) z.read) in
        let v = hold-met R e s.read h (point n h s.read) (hold-point e n h s.read (i.0, i.1)) in
        let u : RelSeen p q y yz = rel-met p q clamp Lo is_lo S R frame_z flat e ez s.read z.read _ _ (λ _. f) g.read
        (rel-point p q clamp Lo is_lo S R frame_z flat n h s.read z.read g.read) in
        let x = pair e ez k n w (weigh rest) s z y yz h f v j g u in
        (x, pair-rest e ez k n w rest s z y yz h t v j x.after (λ x y j2 r2 g2. pairs e ez k rest x y f b t m i.2 o.1 j2 r2 g2))
    pairs e ez k (inner n w c under rest) s z f b t m i o j r g =
        let d : Frame ℕ = R.frame n under in
        let dz : Frame ℤ = frame_z n (shift Lo under) in
        let la : ℕ = lower natural e k w s in
        let ub : ℕ = upper natural e k w s in
        let x : Seen ℕ = seen_under natural R e k n w c under s in
        let y : Seen ℕ = met R d s.read x in
        let yz : Seen ℤ = met Z dz z.read (seen_under whole Z ez k n w c (shift Lo under) z) in
        let v = hold-under e d _ y i.0 i.1 (hold-met R d s.read _ x (contained R d c under la ub s.read i.2 i.3)) in
        let la-fits : la ≤ S = safe-lower S e k w _ s (le_trans b t) t j in
        let ub-fits : ub ≤ S = safe-upper S e k w _ s t j in
        let s2 : State ℕ = begin d c la ub s.read in
        let z2 : State ℤ = begin dz c (lower whole ez k w z) (upper whole ez k w z) z.read in
        let j2 = safe-begin S d c under la ub s.read i.2 (le_trans i.1 t) la-fits ub-fits in
        let r2 = open-begin clamp d c (is_end under) la ub s.read (λ x. let q = flat x n under in (rw q.0 (omega arith), rw q.1 la-fits)) in
        let g2 = rel-begin p q d dz c la ub (lower whole ez k w z) (upper whole ez k w z) s.read z.read m.0
        (rel-lower p q clamp e ez k w s z o.0 b f r g) (rel-upper p q clamp e ez k w s z o.0 b f r g) g.read in
        let u : RelSeen p q y yz = rel-met p q clamp Lo is_lo S R frame_z flat d dz s.read z.read _ _ (λ _. m.0) g.read
        (shifted p q clamp Lo is_lo S R frame_z flat d dz c under s2 z2 m.0 i.2.ends (le_trans i.1 t) m.1 i.3 o.1 j2 r2 g2) in
        let a = pair e ez k n w (weigh rest) s z y yz _ f v j g u in (
          a,
          λ _. pairs d dz c under s2 z2 m.0 i.2.ends (le_trans i.1 t) m.1 i.3 o.1 j2 r2 g2,
          pair-rest e ez k n w rest s z y yz _ t v j a.after (λ x y j2 r2 g2. pairs e ez k rest x y f b t m.2 i.4 o.2 j2 r2 g2),
        )

    -- in the search of a root
    abbrev pub EachPairRoot : Forest ℕ → Type 0
    EachPairRoot end = Unit {0}
    EachPairRoot (leaf n w h rest) = Unit {0}
    EachPairRoot (inner n w k under rest) =
        let d : Frame ℕ = R.frame n under in
        let dz : Frame ℤ = frame_z n (shift Lo under) in
        EachPair d dz k under (begin d k d.bottom d.top []) (begin dz k dz.bottom dz.top [])

    pub pairs-root : (e : Frame ℕ) (f : Forest ℕ) → e.top ≤ S → MetRoot f → Within R.frame e f → Positive MAX f → EachPairRoot f
    pairs-root e end t m i o = tt
    pairs-root e (leaf n w h rest) t m i o = tt
    pairs-root e (inner n w k under rest) t m i o =
        let d : Frame ℕ = R.frame n under in
        let dz : Frame ℤ = frame_z n (shift Lo under) in
        let y : RelFrame p q d dz = m.0 in
        let u : d.top ≤ S = le_trans i.1 t in
        pairs d dz k under (begin d k d.bottom d.top []) (begin dz k dz.bottom dz.top []) y i.2.ends u m.1 i.3 o.1
        (safe-begin S d k under d.bottom d.top [] i.2 u (le_trans i.2.ends u) u)
        (open-begin clamp d k (is_end under) d.bottom d.top [] (λ _. (i.2.ends, i.2.ends)))
        (rel-begin p q d dz k d.bottom d.top dz.bottom dz.top [] [] y y.bottom y.top refl)

    -- ---- no remainder over the integers

    at_pair : (e : Frame ℕ) (ez : Frame ℤ) (k : Kind) (n w : ℕ) (s : State ℕ) (z : State ℤ) (r : Seen ℕ) (x : Seen ℤ) → Pair e ez k n w s z r x
        → AtChance natural R WholeHeights e k w r → AtChance whole Z WholeQuotients ez k w x
    at_pair e ez k n w s z r x a h = at-shift e ez k w a.others a.worth s r x a.frame a.held a.safe a.seen h

    -- the two go on together
    pub together : (e : Frame ℕ) (ez : Frame ℤ) (k : Kind) (n w : ℕ) (rest : Forest ℕ) (s : State ℕ) (z : State ℤ) (r : Seen ℕ) (x : Seen ℤ) → Pair e ez k n w s z r x
        → stop whole R.margin (shift Lo rest) (update whole ez k n w z x) ≡ false → stop natural R.margin rest (update natural e k n w s r) ≡ false
    together e ez k n w rest s z r x a c = sym (rel-stop p q clamp Lo is_lo S R frame_z flat rest (update natural e k n w s r) (update whole ez k n w z x) a.after) ∙ c

    taken-pairs : (e : Frame ℕ) (ez : Frame ℤ) (k : Kind) (f : Forest ℕ) (s : State ℕ) (z : State ℤ) → EachPair e ez k f s z
        → EachTaken natural R WholeHeights e k f s → EachTaken whole Z WholeQuotients ez k (shift Lo f) z
    unfolding shift
    taken-pairs e ez k end s z a h = tt
    taken-pairs e ez k (leaf n w v rest) s z a h =
        (at_pair e ez k n w s z _ _ a.0 h.0, λ c. let d = together e ez k n w rest s z _ _ a.0 c in taken-pairs e ez k rest _ _ (a.1 d) (h.1 d))
    taken-pairs e ez k (inner n w c under rest) s z a h = (
      at_pair e ez k n w s z _ _ a.0 h.0,
      λ m. let l = ap R.full (sym a.0.before.read) ∙ m in taken-pairs (R.frame n under) (frame_z n (shift Lo under)) c under _ _ (a.1 l) (h.1 l),
      λ m. let d = together e ez k n w rest s z _ _ a.0 m in taken-pairs e ez k rest _ _ (a.2 d) (h.2 d),
    )

    -- in the search of a root that is not below a C
    pub whole-root : (e : Frame ℕ) (g : ℕ) (f : Forest ℕ) → e.top ≤ S → MetRoot f → Within R.frame e f → Positive MAX f → Fit R.frame g f
        → EachTakenRoot whole Z WholeQuotients (shift Lo f)
    unfolding shift
    whole-root e g end t m i o x = tt
    whole-root e g (leaf n w h rest) t m i o x = tt
    whole-root e g (inner n w k under rest) t m i o x =
        λ z. taken-pairs (R.frame n under) (frame_z n (shift Lo under)) k under _ _ (pairs-root e (inner n w k under rest) t m i o) (heights-root R e g (inner n w k under rest) i x z)
