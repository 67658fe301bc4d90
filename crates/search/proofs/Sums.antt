-- The search with running sums, over any arithmetic: before each child the sums are T times Algorithm 1's low and high, and every result is as before.
-- Document 02, Item 4.
use Prim.Native.Nat.{ℕ, ◌*◌, ◌<◌}
use mathlib.Core.Path.{◌≡◌, refl, sym, ap, ap₂, subst, ◌∙◌}
use mathlib.Core.Bool.{Bool, false, not, ◌&&◌, cond}
use mathlib.Core.List.{[]}
use Rattle.table.specs.Tree.{Kind, MAX, MIN, CHANCE, Forest, end, leaf, inner, is_end}
use Rattle.search.specs.Search.{Frame, Play, no_play, child, Seen, State, Arith, Rules, begin, finish, cut, point, met, lower, upper, prefer, update, stop, enter, scan, search, search_root}
use Rattle.search.specs.Exact.{AtChance, EachTaken, EachTakenRoot}
use Rattle.search.specs.Sums.{SumArith, on_sums, scaled, kept, divided, keep, leave, enter_sums, scan_sums, search_sums, root_sums, AreSums, EachBefore, EachBeforeRoot}
use Rattle.search.proofs.Steps.{cond-else, seen_under, seen_after, sums_after}
use Rattle.search.proofs.Heights.{Paid, PaidUnder}

-- What sums need of an arithmetic: T times keeps order, a sum of T times x divided by T is x, and lines 9, 10, 20 and 21 are the same on the two scales;
-- 20 and 21 where Q holds of the child, which is that their quotients leave no remainder.
pub record SumLaws {A : Type 0} (O : Arith A) (P : SumArith A) (Q : Frame A → ℕ → Seen A → Type 0) : Type 0 where
  pub high-of : (T : ℕ) (a b : A) → 0 < T → O.high-of (P.times T a) (P.times T b) ≡ P.times T (O.high-of a b)
  pub low_of : (T : ℕ) (a b : A) → 0 < T → O.low_of (P.times T a) (P.times T b) ≡ P.times T (O.low_of a b)
  pub near : (T ε : ℕ) (α β : A) → 0 < T → O.near (T * ε) (P.times T α) (P.times T β) ≡ O.near ε α β
  pub over : (T : ℕ) (x : A) → 0 < T → P.over T (P.times T x) ≡ x
  pub down : (e : Frame A) (w : ℕ) (α U : A) → P.down e w (P.times e.total α) (P.times e.total U) ≡ O.down e w α U
  pub up : (e : Frame A) (w : ℕ) (β L : A) → P.up e w (P.times e.total β) (P.times e.total L) ≡ O.up e w β L
  pub gain : (e : Frame A) (w : ℕ) (L : A) (r : Seen A) → Q e w r → P.gain e w (P.times e.total L) r.low ≡ P.times e.total (O.gain e w L r.low)
  pub loss : (e : Frame A) (w : ℕ) (U : A) (r : Seen A) → Q e w r → P.loss e w (P.times e.total U) r.high ≡ P.times e.total (O.loss e w U r.high)

module _ {A : Type 0} (O : Arith A) (P : SumArith A) (Q : Frame A → ℕ → Seen A → Type 0) (L : SumLaws O P Q) (R : Rules A) where
  -- ---- the steps of a line on its scale

  keep-lower : (e : Frame A) (k : Kind) (w : ℕ) (s : State A) → lower (on_sums O P) e k w (keep P e k s) ≡ lower O e k w s
  unfolding lower keep
  keep-lower e MAX w s = refl
  keep-lower e MIN w s = refl
  keep-lower e CHANCE w s = L.down e w s.alpha s.hi

  keep-upper : (e : Frame A) (k : Kind) (w : ℕ) (s : State A) → upper (on_sums O P) e k w (keep P e k s) ≡ upper O e k w s
  unfolding upper keep
  keep-upper e MAX w s = refl
  keep-upper e MIN w s = refl
  keep-upper e CHANCE w s = L.up e w s.beta s.lo

  keep-enter : (e : Frame A) (k : Kind) (w : ℕ) (d : Frame A) (c : Kind) (s : State A) → enter_sums P O e k w d c (keep P e k s) ≡ keep P d c (enter O e k w d c s)
  unfolding keep
  keep-enter e k w d c s = ap₂ (λ (a b : A). keep P d c (begin d c a b s.read)) (keep-lower e k w s) (keep-upper e k w s)

  keep-divided : (e : Frame A) (k : Kind) (x : A) → Paid e k → divided P e k (kept P e k x) ≡ x
  unfolding divided kept
  keep-divided e MAX x q = refl
  keep-divided e MIN x q = refl
  keep-divided e CHANCE x q = L.over e.total x q

  keep-finish : (e : Frame A) (k : Kind) (s : State A) → Paid e k → leave P e k (finish (keep P e k s)) ≡ finish s
  unfolding leave finish keep
  keep-finish e k s q = λ i. record { low = keep-divided e k s.lo q i; high = keep-divided e k s.hi q i; play = s.play; read = s.read; spent = s.spent }

  keep-cut : (e : Frame A) (k : Kind) (s : State A) → Paid e k → leave P e k (cut e k (keep P e k s)) ≡ cut e k s
  unfolding leave cut keep
  keep-cut e MAX s q = refl
  keep-cut e MIN s q = refl
  keep-cut e CHANCE s q = λ i. record { low = keep-divided e CHANCE s.lo q i; high = keep-divided e CHANCE s.hi q i; play = s.play; read = s.read; spent = s.spent }

  keep-stop : (e : Frame A) (k : Kind) (rest : Forest A) (s : State A) → Paid e k → stop O (scaled e k R.margin) rest (keep P e k s) ≡ stop O R.margin rest s
  unfolding stop scaled keep
  keep-stop e MAX rest s q = refl
  keep-stop e MIN rest s q = refl
  keep-stop e CHANCE rest s q = ap (λ (b : Bool). not (is_end rest) && b) (L.near e.total R.margin s.alpha s.beta q)

  keep-prefer : (k : Kind) (n : ℕ) (p : Play A) (r : Seen A) → prefer (on_sums O P) k n p r ≡ prefer O k n p r
  unfolding prefer
  keep-prefer MAX n no_play r = refl
  keep-prefer MAX n (child m l h) r = refl
  keep-prefer MIN n no_play r = refl
  keep-prefer MIN n (child m l h) r = refl
  keep-prefer CHANCE n p r = refl

  keep_update : (e : Frame A) (k : Kind) (n w : ℕ) (s : State A) (r : Seen A) → Paid e k → AtChance O R Q e k w r
      → update (on_sums O P) e k n w (keep P e k s) r ≡ keep P e k (update O e k n w s r)
  unfolding update keep
  keep_update e MAX n w s r q x =
      let t : State A = update O e MAX n w s r in
      λ i. record { alpha = t.alpha; beta = t.beta; lo = t.lo; hi = t.hi; play = keep-prefer MAX n s.play r i; read = r.read; spent = r.spent }
  keep_update e MIN n w s r q x =
      let t : State A = update O e MIN n w s r in
      λ i. record { alpha = t.alpha; beta = t.beta; lo = t.lo; hi = t.hi; play = keep-prefer MIN n s.play r i; read = r.read; spent = r.spent }
  keep_update e CHANCE n w s r q x =
      let T : ℕ = e.total in
      let l = L.gain e w s.lo r x in
      let h = L.loss e w s.hi r x in
      let a = ap (O.high-of (P.times T s.alpha)) l ∙ L.high-of T s.alpha (O.gain e w s.lo r.low) q in
      let b = ap (O.low_of (P.times T s.beta)) h ∙ L.low_of T s.beta (O.loss e w s.hi r.high) q in
      λ i. record { alpha = a i; beta = b i; lo = l i; hi = h i; play = no_play; read = r.read; spent = r.spent }

  are-sums : (e : Frame A) (k : Kind) (s : State A) → AreSums P e k (keep P e k s) s
  unfolding keep
  are-sums e MAX s = tt
  are-sums e MIN s = tt
  are-sums e CHANCE s = (refl, refl)

  -- ---- every result is as before

  -- a child that gives the same
  same_step : (e : Frame A) (k : Kind) (n w : ℕ) (rest : Forest A) (s : State A) (r' r : Seen A) → Paid e k → r' ≡ r → AtChance O R Q e k w r
      → (stop O R.margin rest (update O e k n w s r) ≡ false → scan_sums P O R e k rest (keep P e k (update O e k n w s r)) ≡ scan O R e k rest (update O e k n w s r))
      → sums_after P O R e k rest (update (on_sums O P) e k n w (keep P e k s) r') ≡ seen_after O R e k rest (update O e k n w s r)
  same_step e k n w rest s r' r q z x ih =
      let t : State A = update O e k n w s r in
      ap (sums_after P O R e k rest) (ap (update (on_sums O P) e k n w (keep P e k s)) z ∙ keep_update e k n w s r q x)
      ∙ ap₂ (λ (b : Bool) (y : Seen A). cond b y (scan_sums P O R e k rest (keep P e k t))) (keep-stop e k rest t q) (keep-cut e k t q)
      ∙ cond-else (stop O R.margin rest t) (cut e k t) ih

  -- what an inner child gives, met unread or not
  same-under : (e d : Frame A) (k c : Kind) (w : ℕ) (under : Forest A) (s : State A)
      → (R.full s.read ≡ false → scan_sums P O R d c under (keep P d c (enter O e k w d c s)) ≡ scan O R d c under (enter O e k w d c s))
      → met R d (keep P e k s).read (scan_sums P O R d c under (enter_sums P O e k w d c (keep P e k s))) ≡ met R d s.read (scan O R d c under (enter O e k w d c s))
  unfolding keep
  same-under e d k c w under s ih = cond-else (R.full s.read) _ (λ z. ap (scan_sums P O R d c under) (keep-enter e k w d c s) ∙ ih z)

  same : (e : Frame A) (k : Kind) (f : Forest A) (s : State A) → Paid e k → PaidUnder R.frame f → EachTaken O R Q e k f s
      → scan_sums P O R e k f (keep P e k s) ≡ scan O R e k f s
  unfolding scan_sums scan keep
  same e k end s q y h = keep-finish e k s q
  same e k (leaf n w v rest) s q y h = same_step e k n w rest s _ (met R e s.read (point n v s.read)) q refl h.0 (λ z. same e k rest _ q y (h.1 z))
  same e k (inner n w c under rest) s q y h =
      let d : Frame A = R.frame n under in
      same_step e k n w rest s _ (met R d s.read (seen_under O R e k n w c under s)) q
      (same-under e d k c w under s (λ z. same d c under (enter O e k w d c s) y.0 y.1 (h.1 z))) h.0 (λ z. same e k rest _ q y.2 (h.2 z))

  pub same-root : (f : Forest A) → PaidUnder R.frame f → EachTakenRoot O R Q f → root_sums P O R f ≡ search_root O R f
  unfolding root_sums search_sums search_root search
  same-root end y h = refl
  same-root (leaf n w v rest) y h = refl
  same-root (inner n w k under rest) y h = cond-else (R.full []) _ (λ z. same (R.frame n under) k under _ y.0 y.1 (h z))

  -- ---- before each child

  before-step : (e : Frame A) (k : Kind) (n w : ℕ) (rest : Forest A) (s : State A) (r' r : Seen A) → Paid e k → r' ≡ r → AtChance O R Q e k w r
      → EachBefore P O R e k rest (keep P e k (update O e k n w s r)) (update O e k n w s r)
      → EachBefore P O R e k rest (update (on_sums O P) e k n w (keep P e k s) r') (update O e k n w s r)
  before-step e k n w rest s r' r q z x h =
      subst (λ (u : State A). EachBefore P O R e k rest u (update O e k n w s r)) (sym (ap (update (on_sums O P) e k n w (keep P e k s)) z ∙ keep_update e k n w s r q x)) h

  before : (e : Frame A) (k : Kind) (f : Forest A) (s : State A) → Paid e k → PaidUnder R.frame f → EachTaken O R Q e k f s → EachBefore P O R e k f (keep P e k s) s
  unfolding keep
  before e k end s q y h = tt
  before e k (leaf n w v rest) s q y h =
      (are-sums e k s, λ z. before-step e k n w rest s _ (met R e s.read (point n v s.read)) q refl h.0 (before e k rest _ q y (h.1 z)))
  before e k (inner n w c under rest) s q y h =
      let d : Frame A = R.frame n under in
      let j : State A = enter O e k w d c s in (
        are-sums e k s,
        λ z. subst (λ (u : State A). EachBefore P O R d c under u j) (sym (keep-enter e k w d c s)) (before d c under j y.0 y.1 (h.1 z)),
        λ z. before-step e k n w rest s _ (met R d s.read (scan O R d c under j)) q
            (same-under e d k c w under s (λ x. same d c under j y.0 y.1 (h.1 x))) h.0 (before e k rest _ q y.2 (h.2 z)),
      )

  pub before_root : (f : Forest A) → PaidUnder R.frame f → EachTakenRoot O R Q f → EachBeforeRoot P O R f
  before_root end y h = tt
  before_root (leaf n w v rest) y h = tt
  before_root (inner n w k under rest) y h = λ z. before (R.frame n under) k under _ y.0 y.1 (h z)
