-- The search of a tree turned about is the search turned about.
use Prim.Native.Nat.{ℕ, ◌+◌, ◌*◌, ◌-◌, ◌/◌, min, max, ◌≤◌}
use mathlib.Core.Path.{◌≡◌, refl, ap, ap₂, ◌∙◌}
use mathlib.Core.Bool.{false, not, ◌&&◌}
use mathlib.Core.List.{List, []}
use native.Mathlib.Nat.{mul-div-le, le_trans}
use native.Mathlib.Omega.{arith}
use lib.Dec.{leb, ltb, leb→le, le→leb, ltb→lt, lt→ltb}
use Rattle.numbers.proofs.Signs.{same_test}
use Rattle.table.specs.Tree.{Kind, MAX, MIN, CHANCE, Forest, end, leaf, inner, is_end, weigh}
use Rattle.turn.specs.Turn.{turn_kind}
use Rattle.search.specs.Search.{Frame, Play, no_play, child, Seen, State, Rules, begin, lower, upper, below, safer, better, update, finish, cut, stop, point, met_spent, met, scan, search, search_root}
use Rattle.search.specs.Inside.{natural}
use Rattle.search.proofs.Steps.{cond_map, seen_under, seen_after}
use Rattle.search.proofs.Below.{below-same}
use Rattle.search.proofs.Heights.{Sound, Within}
use Rattle.search.proofs.Contain.{contained, Holding, hold-point, hold-under, hold-met}
use Rattle.search.proofs.Safe.{drop-top, share-fits, Low, Safe, safe-window, safe-begin, safe-lower, safe-upper, safe-update}

-- the same tree from the other side, its ends S apart
unfoldable pub turn : ℕ → Forest ℕ → Forest ℕ
turn S end = end
turn S (leaf n w h rest) = leaf n w (S - h) (turn S rest)
turn S (inner n w k under rest) = inner n w (turn_kind k) (turn S under) (turn S rest)

abbrev pub turn_frame : ℕ → Frame ℕ → Frame ℕ
turn_frame S e = record { bottom = S - e.top; top = S - e.bottom; total = e.total }

abbrev pub turn_play : ℕ → Play ℕ → Play ℕ
turn_play S no_play = no_play
turn_play S (child m l h) = child m (S - h) (S - l)

abbrev pub turn_seen : ℕ → Seen ℕ → Seen ℕ
turn_seen S r = record { low = S - r.high; high = S - r.low; play = turn_play S r.play; read = r.read; spent = r.spent }

abbrev pub reframe : Rules ℕ → (ℕ → Forest ℕ → Frame ℕ) → Rules ℕ
reframe R frame = record { frame = frame; margin = R.margin; full = R.full }

pub same-state : {s t : State ℕ} → s.alpha ≡ t.alpha → s.beta ≡ t.beta → s.lo ≡ t.lo → s.hi ≡ t.hi → s.play ≡ t.play → s.read ≡ t.read
    → s.spent ≡ t.spent → s ≡ t
same-state p q u v w r x = λ i. record { alpha = p i; beta = q i; lo = u i; hi = v i; play = w i; read = r i; spent = x i }

-- a function of either answer of a test
sub-max : (S a b : ℕ) → min (S - a) (S - b) ≡ S - max a b
sub-max S a b = omega arith

sub-min : (S a b : ℕ) → max (S - a) (S - b) ≡ S - min a b
sub-min S a b = omega arith

leb-turn : (S ε a b : ℕ) → a ≤ S → b ≤ S → leb (S - a) (S - b + ε) ≡ leb b (a + ε)
leb-turn S ε a b p q =
    same_test (leb (S - a) (S - b + ε)) (leb b (a + ε))
    (λ h. le→leb b (a + ε) (omega (arith, leb→le (S - a) (S - b + ε) h)))
    (λ h. le→leb (S - a) (S - b + ε) (omega (arith, leb→le b (a + ε) h)))

ltb-turn : (S a b : ℕ) → a ≤ S → b ≤ S → ltb (S - a) (S - b) ≡ ltb b a
ltb-turn S a b p q =
    same_test (ltb (S - a) (S - b)) (ltb b a) (λ h. lt→ltb b a (omega (arith, ltb→lt (S - a) (S - b) h)))
    (λ h. lt→ltb (S - a) (S - b) (omega (arith, ltb→lt b a h)))

sub_back : (S x y : ℕ) → y ≤ x → x ≤ S → S - x + y ≡ S - (x - y)
sub_back S x y p q = omega arith

sub-both : (S x y : ℕ) → S - x - y ≡ S - (x + y)
sub-both S x y = omega arith

sub-swap : (S x y : ℕ) → x ≤ S → S - y - (S - x) ≡ x - y
sub-swap S x y p = omega arith

turn-lower : (S B A c : ℕ) → max (S - A) (S - B - c) ≡ S - min A (B + c)
turn-lower S B A c = omega arith

turn-upper : (S B A c : ℕ) → A ≤ S → min (S - B) (S - A + c) ≡ S - max B (A - c)
turn-upper S B A c p = omega arith

below-turn : (S a b x y : ℕ) → a ≤ S → b ≤ S → x ≤ S → y ≤ S → below ltb (S - a) (S - b) (S - x) (S - y) ≡ below ltb b a y x
below-turn S a b x y p q u v =
    below-same ltb ltb (S - a) (S - b) (S - x) (S - y) b a y x (ltb-turn S a b p q) (ltb-turn S b a q p) (ltb-turn S x y u v)

-- the rule for the play is the same from the other side
beats-turn : (S : ℕ) (k : Kind) (l h bl bh : ℕ) → l ≤ S → h ≤ S → bl ≤ S → bh ≤ S
    → natural.beats (turn_kind k) (S - h) (S - l) (S - bh) (S - bl) ≡ natural.beats k l h bl bh
unfolding safer
beats-turn S MAX l h bl bh p q u v = below-turn S l bl h bh p u q v
beats-turn S MIN l h bl bh p q u v = below-turn S bh h bl l v q u p
beats-turn S CHANCE l h bl bh p q u v = refl

is_end-turn : (S : ℕ) (f : Forest ℕ) → is_end (turn S f) ≡ is_end f
unfolding turn
is_end-turn S end = refl
is_end-turn S (leaf n w h rest) = refl
is_end-turn S (inner n w k under rest) = refl

pub turn-weigh : (S : ℕ) (f : Forest ℕ) → weigh (turn S f) ≡ weigh f
unfolding turn weigh
turn-weigh S end = refl
turn-weigh S (leaf n w h rest) = ap (λ (x : ℕ). w + x) (turn-weigh S rest)
turn-weigh S (inner n w k under rest) = ap (λ (x : ℕ). w + x) (turn-weigh S rest)

module _ (S : ℕ) where
  unfoldable pub turn_state : State ℕ → State ℕ
  turn_state s =
      record { alpha = S - s.beta; beta = S - s.alpha; lo = S - s.hi; hi = S - s.lo; play = turn_play S s.play; read = s.read; spent = s.spent }

  module _ (R : Rules ℕ) where
    better-turn : (k : Kind) (n : ℕ) (p : Play ℕ) (r : Seen ℕ) → r.low ≤ S → r.high ≤ S → Low S p
        → better natural (turn_kind k) n (turn_play S p) (turn_seen S r) ≡ turn_play S (better natural k n p r)
    unfolding better
    better-turn k n no_play r p q i = refl
    better-turn k n (child m l h) r p q i =
        rw (beats-turn S k r.low r.high l h p q i.0 i.1) (cond_map (turn_play S) _ _ (natural.beats k r.low r.high l h))

    update-turn : (e : Frame ℕ) (k : Kind) (n w W : ℕ) (s : State ℕ) (r : Seen ℕ) → e.top ≤ S → e.bottom ≤ r.low → r.low ≤ r.high
        → r.high ≤ e.top → Safe S e k (w + W) s
        → update natural (turn_frame S e) (turn_kind k) n w (turn_state s) (turn_seen S r) ≡ turn_state (update natural e k n w s r)
    unfolding update turn_state
    update-turn e MAX n w W s r t bl lh r_s i =
        same-state (sub-min S _ _) (simp sub-max) (sub-max S _ _) (sub-max S _ _)
        (better-turn MAX n s.play r (le_trans lh (le_trans r_s t)) (le_trans r_s t) i.4) refl refl
    update-turn e MIN n w W s r t bl lh r_s i =
        same-state (simp sub-min) (sub-max S _ _) (sub-min S _ _) (sub-min S _ _)
        (better-turn MIN n s.play r (le_trans lh (le_trans r_s t)) (le_trans r_s t) i.4) refl refl
    update-turn e CHANCE n w W s r t bl lh r_s i =
        let B : ℕ = e.bottom in
        let T : ℕ = e.total in
        let ey : T * (w * (e.top - r.high) / T) ≤ w * (e.top - B - (r.high - B)) = rw (drop-top B e.top r.high (le_trans bl lh))
        (mul-div-le _ T) in
        let el : S - s.hi + w * (S - r.high - (S - e.top)) / T ≡ S - (s.hi - w * (e.top - r.high) / T)
        = rw (sub-swap S e.top r.high t) (sub_back S _ _ (share-fits (e.top - B) T w W _ _ (r.high - B) _ i.4 ey i.2) i.3) in
        let eh : S - s.lo - w * (S - B - (S - r.low)) / T ≡ S - (s.lo + w * (r.low - B) / T) = rw
        (sub-swap S r.low B (le_trans lh (le_trans r_s t))) (sub-both S _ _) in
        same-state (rw el (sub-min S _ _)) (rw eh (sub-max S _ _)) el eh refl refl refl

    stop-turn : (rest : Forest ℕ) (t : State ℕ) → t.alpha ≤ S → t.beta ≤ S
        → stop natural R.margin (turn S rest) (turn_state t) ≡ stop natural R.margin rest t
    unfolding stop turn_state
    stop-turn rest t p q = ap₂ (λ x y. not x && y) (is_end-turn S rest) (leb-turn S R.margin t.alpha t.beta p q)

  begin-turn : (e : Frame ℕ) (k : Kind) (a b : ℕ) (l : List ℕ) → begin (turn_frame S e) (turn_kind k) (S - b) (S - a) l ≡ turn_state (begin e k a b l)
  unfolding begin turn_state
  begin-turn e MAX a b l = refl
  begin-turn e MIN a b l = refl
  begin-turn e CHANCE a b l = refl

  cut-turn : (e : Frame ℕ) (k : Kind) (s : State ℕ) → cut (turn_frame S e) (turn_kind k) (turn_state s) ≡ turn_seen S (cut e k s)
  unfolding cut turn_state
  cut-turn e MAX s = refl
  cut-turn e MIN s = refl
  cut-turn e CHANCE s = refl

  lower-turn : (e : Frame ℕ) (k : Kind) (w W : ℕ) (s : State ℕ) → Safe S e k W s
      → lower natural (turn_frame S e) (turn_kind k) w (turn_state s) ≡ S - upper natural e k w s
  unfolding lower upper turn_state
  lower-turn e MAX w W s i = refl
  lower-turn e MIN w W s i = refl
  lower-turn e CHANCE w W s i = rw (sub-swap S s.beta s.lo i.1) (turn-lower S _ _ _)

  upper-turn : (e : Frame ℕ) (k : Kind) (w W : ℕ) (s : State ℕ) → e.top ≤ S → Safe S e k W s
      → upper natural (turn_frame S e) (turn_kind k) w (turn_state s) ≡ S - lower natural e k w s
  unfolding lower upper turn_state
  upper-turn e MAX w W s t i = refl
  upper-turn e MIN w W s t i = refl
  upper-turn e CHANCE w W s t i = rw (sub-swap S s.hi s.alpha i.3) (turn-upper S _ _ _ t)

  module _ (R : Rules ℕ) (frame : ℕ → Forest ℕ → Frame ℕ) (frames : (n : ℕ) (f : Forest ℕ) → frame n (turn S f) ≡ turn_frame S (R.frame n f)) where
    abbrev R2 : Rules ℕ
    R2 = reframe R frame

    met-turn : (e : Frame ℕ) (l : List ℕ) (r : Seen ℕ) → met R2 (turn_frame S e) l (turn_seen S r) ≡ turn_seen S (met R e l r)
    unfolding met_spent
    met-turn e l r = cond_map (turn_seen S) (met_spent e l) r (R.full l)

    after_turn : (e : Frame ℕ) (k : Kind) (rest : Forest ℕ) (t : State ℕ) → t.alpha ≤ S → t.beta ≤ S
        → scan natural R2 (turn_frame S e) (turn_kind k) (turn S rest) (turn_state t) ≡ turn_seen S (scan natural R e k rest t)
        → seen_after natural R2 (turn_frame S e) (turn_kind k) (turn S rest) (turn_state t) ≡ turn_seen S (seen_after natural R e k rest t)
    after_turn e k rest t p q x =
        rw (stop-turn R2 rest t p q, cut-turn e k t, x)
        (cond_map (turn_seen S) (cut e k t) (scan natural R e k rest t) (stop natural R.margin rest t))

    step-turn : (e : Frame ℕ) (k : Kind) (n w : ℕ) (rest : Forest ℕ) (s : State ℕ) (r r2 : Seen ℕ) (v : ℕ) → e.top ≤ S → Holding e v r
        → Safe S e k (w + weigh rest) s → r2 ≡ turn_seen S r
        → ((t : State ℕ) → Safe S e k (weigh rest) t → scan natural R2 (turn_frame S e) (turn_kind k) (turn S rest) (turn_state t) ≡ turn_seen S (scan natural R e k rest t))
        → seen_after natural R2 (turn_frame S e) (turn_kind k) (turn S rest) (update natural (turn_frame S e) (turn_kind k) n w (turn_state s) (r2)) ≡ turn_seen S (seen_after natural R e k rest (update natural e k n w s r))
    step-turn e k n w rest s r r2 v t h j x ih =
        let j2 = safe-update S e k n w (weigh rest) s r t h.0 (le_trans h.1 h.2) h.3 j in
        let q = safe-window S e k (weigh rest) _ j2 in
        ap (λ y. seen_after natural R2 (turn_frame S e) (turn_kind k) (turn S rest) (update natural (turn_frame S e) (turn_kind k) n w (turn_state s) y)) x
        ∙
        (ap (seen_after natural R2 (turn_frame S e) (turn_kind k) (turn S rest)) (update-turn R2 e k n w (weigh rest) s r t h.0 (le_trans h.1 h.2) h.3 j)
        ∙ after_turn e k rest _ q.0 q.1 (ih _ j2))

    pub turned : (e : Frame ℕ) (k : Kind) (f : Forest ℕ) (s : State ℕ) → e.bottom ≤ e.top → e.top ≤ S → Within R.frame e f
        → Safe S e k (weigh f) s → scan natural R2 (turn_frame S e) (turn_kind k) (turn S f) (turn_state s) ≡ turn_seen S (scan natural R e k f s)
    unfolding scan turn weigh finish turn_state point
    turned e k end s o t i j = refl
    turned e k (leaf n w h rest) s o t i j =
        let r : Seen ℕ = point n h s.read in
        step-turn e k n w rest s (met R e s.read r) _ h t (hold-met R e s.read h r (hold-point e n h s.read (i.0, i.1))) j
        (met-turn e s.read r) (λ z y. turned e k rest z o t i.2 y)
    turned e k (inner n w c under rest) s o t i j =
        let d : Frame ℕ = R.frame n under in
        let la : ℕ = lower natural e k w s in
        let ub : ℕ = upper natural e k w s in
        let r : Seen ℕ = seen_under natural R e k n w c under s in
        let u = hold-under e d _ (met R d s.read r) i.0 i.1 (hold-met R d s.read _ r (contained R d c under la ub s.read i.2 i.3)) in
        let b : e.bottom ≤ S = le_trans o t in
        let x : seen_under natural R2 (turn_frame S e) (turn_kind k) n w (turn_kind c) (turn S under) (turn_state s) ≡ turn_seen S r
        = ap
        (λ m. scan natural R2 m (turn_kind c) (turn S under) (begin m (turn_kind c) (lower natural (turn_frame S e) (turn_kind k) w (turn_state s)) (upper natural (turn_frame S e) (turn_kind k) w (turn_state s)) s.read))
        (frames n under)
        ∙
        (ap (scan natural R2 (turn_frame S d) (turn_kind c) (turn S under)) (ap₂ (λ x y. begin (turn_frame S d) (turn_kind c) x y s.read) (lower-turn e k w _ s j) (upper-turn e k w _ s t j) ∙ begin-turn d c la ub s.read)
        ∙ turned d c under (begin d c la ub s.read) i.2.ends (le_trans i.1 t) i.3
        (safe-begin S d c under la ub s.read i.2 (le_trans i.1 t) (safe-lower S e k w _ s b t j) (safe-upper S e k w _ s t j))) in
        step-turn e k n w rest s (met R d s.read r) _ _ t u j
        (ap₂ (λ (m : Frame ℕ) (y : Seen ℕ). met R2 m s.read y) (frames n under) x ∙ met-turn d s.read r) (λ z y. turned e k rest z o t i.4 y)

    pub turned-search : (e : Frame ℕ) (k : Kind) (f : Forest ℕ) → e.top ≤ S → Sound e k f → Within R.frame e f
        → search natural R2 (turn_frame S e) (turn_kind k) (turn S f) ≡ turn_seen S (search natural R e k f)
    unfolding search
    turned-search e k f t q i =
        let s : State ℕ = begin e k e.bottom e.top [] in
        ap (met R2 (turn_frame S e) [])
        (ap (scan natural R2 (turn_frame S e) (turn_kind k) (turn S f)) (begin-turn e k e.bottom e.top []) ∙ turned e k f s q.ends t i
        (safe-begin S e k f e.bottom e.top [] q t (le_trans q.ends t) t))
        ∙ met-turn e [] (scan natural R e k f s)

    -- the search of a root
    pub turned-root : (e : Frame ℕ) (f : Forest ℕ) → e.top ≤ S → Within R.frame e f
        → search_root natural R2 (turn S f) ≡ turn_seen S (search_root natural R f)
    unfolding search_root turn point
    turned-root e end t i = ap (λ (d : Frame ℕ). record { low = d.bottom; high = d.top; play = no_play; read = []; spent = false }) (frames 0 end)
    turned-root e (leaf n w h rest) t i =
        ap (λ (d : Frame ℕ). met R2 d [] (point n (S - h) [])) (frames n end) ∙ met-turn (R.frame n end) [] (point n h [])
    turned-root e (inner n w k under rest) t i =
        ap (λ (d : Frame ℕ). search natural R2 d (turn_kind k) (turn S under)) (frames n under) ∙ turned-search (R.frame n under) k under
        (le_trans i.1 t) i.2 i.3
