-- The code's states stand for those of Algorithm 1 over heights, with the running sums of a C.
-- Of the best child the code keeps the number and the bound by which a tie is broken: its low is the low of an M so far, and its high the high of an N.
use Prim.Native.Nat.{ℕ, ◌+◌, ◌*◌, ◌≤◌}
use mathlib.Core.Path.{◌≡◌, refl, sym, ap, ap₂, ◌∙◌}
use mathlib.Core.Bool.{Bool, true, false, ◌||◌, cond}
use mathlib.Core.List.{List, [], ◌∷◌, ◌++◌, append-nil, append_assoc}
use native.Mathlib.Omega.{arith}
use lib.Dec.{ltb, leb, leb→le, le→leb}
use lib.ListN.{length, length-append}
use Rattle.numbers.proofs.Signs.{same_test}
use Rattle.line.proofs.Signs.{true-ne-false}
use Rattle.table.specs.Tree.{Kind, MAX, MIN, CHANCE, Forest, end, leaf, inner, is_end}
use Rattle.table.proofs.Nodes.{rest_of, number_of, weight_of}
use Rattle.search.specs.Search as alg
use Rattle.search.specs.Search.{Frame, Play, no_play, child, Seen, Arith, Rules, limited, begin, finish, cut, point, met_spent, met, lower, upper, below, safer, prefer, update, stop, framed, node_of}
use Rattle.search.specs.Sums.{SumArith, on_sums, scaled, keep, leave, scan_sums}
use Rattle.search.specs.Inside.{natural, natural_sums, height_sums, grained}
use Rattle.search.proofs.Steps.{cond_map, sums_under, sums_after}
use Rattle.search.proofs.Below.{below-le, below-ge}
use Rattle.table.specs.Root.{play_of}
use Rattle.table.specs.declared.Play as found
use Rattle.table.specs.declared.Play.TheVariants.{Child, NoPlay}
use Rattle.steps.specs.declared.Ends.{Ends}
use Rattle.steps.specs.declared.State.{State}
use Rattle.steps.specs.declared.Window.{Window}
use Rattle.steps.specs.Inside.{frame_at, lift, window_for, is_first, takes, after, leaf_seen}
use Rattle.searching.specs.Inside.{Way, rules_of, seen_in, node_seen}

-- ---- the leaves read before change nothing else

module _ {A : Type 0} where
  abbrev pub ahead : List ℕ → Seen A → Seen A
  ahead l r = record { low = r.low; high = r.high; play = r.play; read = l ++ r.read; spent = r.spent }

  abbrev ahead_s : List ℕ → alg.State A → alg.State A
  ahead_s l s = record { alpha = s.alpha; beta = s.beta; lo = s.lo; hi = s.hi; play = s.play; read = l ++ s.read; spent = s.spent }

  module _ (O : Arith A) where
    prefer-ahead : (k : Kind) (n : ℕ) (p : Play A) (l : List ℕ) (r : Seen A) → prefer O k n p (ahead l r) ≡ prefer O k n p r
    unfolding prefer
    prefer-ahead MAX n no_play l r = refl
    prefer-ahead MAX n (child m a b) l r = refl
    prefer-ahead MIN n no_play l r = refl
    prefer-ahead MIN n (child m a b) l r = refl
    prefer-ahead CHANCE n p l r = refl

    update-ahead : (e : Frame A) (k : Kind) (n w : ℕ) (s : alg.State A) (l : List ℕ) (r : Seen A)
        → update O e k n w (ahead_s l s) (ahead l r) ≡ ahead_s l (update O e k n w s r)
    unfolding update
    update-ahead e k n w s l r =
        let t : alg.State A = update O e k n w s r in
        λ i. record { alpha = t.alpha; beta = t.beta; lo = t.lo; hi = t.hi; play = prefer-ahead k n s.play l r i; read = l ++ r.read; spent = r.spent }

    lower-ahead : (e : Frame A) (k : Kind) (w : ℕ) (s : alg.State A) (l : List ℕ) → lower O e k w (ahead_s l s) ≡ lower O e k w s
    unfolding lower
    lower-ahead e MAX w s l = refl
    lower-ahead e MIN w s l = refl
    lower-ahead e CHANCE w s l = refl

    upper-ahead : (e : Frame A) (k : Kind) (w : ℕ) (s : alg.State A) (l : List ℕ) → upper O e k w (ahead_s l s) ≡ upper O e k w s
    unfolding upper
    upper-ahead e MAX w s l = refl
    upper-ahead e MIN w s l = refl
    upper-ahead e CHANCE w s l = refl

  module _ (P : SumArith A) where
    begin-ahead : (e : Frame A) (k : Kind) (a b : A) (l m : List ℕ) → keep P e k (begin e k a b (l ++ m)) ≡ ahead_s l (keep P e k (begin e k a b m))
    unfolding begin keep
    begin-ahead e k a b l m = refl

    -- `full'` says of the leaves behind l what `full` says of all
    module _ (O : Arith A) (frame : ℕ → Forest A → Frame A) (ε : ℕ) (l : List ℕ) (full full' : List ℕ → Bool) (behind : (m : List ℕ) → full (l ++ m) ≡ full' m) where
      abbrev R : Rules A
      R = record { frame = frame; margin = ε; full = full }

      abbrev R' : Rules A
      R' = record { frame = frame; margin = ε; full = full' }

      abbrev N : Arith A
      N = on_sums O P

      met-ahead : (e : Frame A) (m : List ℕ) (r r2 : Seen A) → r2 ≡ ahead l r → met R e (l ++ m) r2 ≡ ahead l (met R' e m r)
      unfolding met_spent
      met-ahead e m r r2 q =
          ap₂ (λ (b : Bool) (x : Seen A). cond b (ahead l (met_spent e m)) x) (behind m) q ∙ cond_map (ahead l) (met_spent e m) r (full' m)

      after-ahead : (e : Frame A) (k : Kind) (rest : Forest A) (t : alg.State A)
          → scan_sums P O R e k rest (ahead_s l t) ≡ ahead l (scan_sums P O R' e k rest t) → sums_after P O R e k rest (ahead_s l t) ≡ ahead l (sums_after P O R' e k rest t)
      unfolding cut stop leave
      after-ahead e k rest t x =
          let b : Bool = stop O (scaled e k ε) rest t in
          let c : Seen A = leave P e k (cut e k t) in
          ap (λ (y : Seen A). cond b (ahead l c) y) x ∙ cond_map (ahead l) c (scan_sums P O R' e k rest t) b

      step-ahead : (e d : Frame A) (k : Kind) (n w : ℕ) (rest : Forest A) (s : alg.State A) (r r2 : Seen A) → r2 ≡ ahead l r
          → ((t : alg.State A) → scan_sums P O R e k rest (ahead_s l t) ≡ ahead l (scan_sums P O R' e k rest t))
          → sums_after P O R e k rest (update N e k n w (ahead_s l s) (met R d (l ++ s.read) r2)) ≡ ahead l (sums_after P O R' e k rest (update N e k n w s (met R' d s.read r)))
      step-ahead e d k n w rest s r r2 q ih =
          let c : Seen A = met R' d s.read r in
          ap (λ (x : Seen A). sums_after P O R e k rest (update N e k n w (ahead_s l s) x)) (met-ahead d s.read r r2 q)
          ∙ ap (sums_after P O R e k rest) (update-ahead N e k n w s l c)
          ∙ after-ahead e k rest (update N e k n w s c) (ih (update N e k n w s c))

      scan-ahead : (e : Frame A) (k : Kind) (f : Forest A) (s : alg.State A) → scan_sums P O R e k f (ahead_s l s) ≡ ahead l (scan_sums P O R' e k f s)
      unfolding scan_sums finish point leave
      scan-ahead e k end s = refl
      scan-ahead e k (leaf n w v rest) s =
          step-ahead e e k n w rest s (point n v s.read) (point n v (l ++ s.read))
          (ap (λ (x : List ℕ). record { low = v; high = v; play = no_play; read = x; spent = false }) (append_assoc l s.read (n ∷ []))) (λ t. scan-ahead e k rest t)
      scan-ahead e k (inner n w c under rest) s =
          let d : Frame A = frame n under in
          step-ahead e d k n w rest s (sums_under P O R' e k n w c under s) (sums_under P O R e k n w c under (ahead_s l s))
          (ap₂ (λ (x y : A). scan_sums P O R d c under (keep P d c (begin d c x y (l ++ s.read)))) (lower-ahead N e k w s l) (upper-ahead N e k w s l)
          ∙ ap (scan_sums P O R d c under) (begin-ahead d c (lower N e k w s) (upper N e k w s) l s.read)
          ∙ scan-ahead d c under (keep P d c (begin d c (lower N e k w s) (upper N e k w s) s.read))) (λ t. scan-ahead e k rest t)

-- what is left of a budget once l is read
limited-behind : (left budget : ℕ) (l : List ℕ) → left + length l ≡ budget → (m : List ℕ) → limited budget (l ++ m) ≡ limited left m
limited-behind left budget l q m =
    ap (leb budget) (length-append l m)
    ∙ same_test (leb budget (length l + length m)) (leb left (length m))
    (λ h. le→leb left (length m) (omega (arith, leb→le budget (length l + length m) h)))
    (λ h. le→leb budget (length l + length m) (omega (arith, leb→le left (length m) h)))

-- ---- one child

lower-lift : (e : Frame ℕ) (k : Kind) (w : ℕ) (s : State) (p : Play ℕ) (l : List ℕ) (x : Bool) → lower natural_sums e k w (lift s p l x) ≡ (window_for e k w s).alpha
unfolding lower
lower-lift e MAX w s p l x = refl
lower-lift e MIN w s p l x = refl
lower-lift e CHANCE w s p l x = refl

upper-lift : (e : Frame ℕ) (k : Kind) (w : ℕ) (s : State) (p : Play ℕ) (l : List ℕ) (x : Bool) → upper natural_sums e k w (lift s p l x) ≡ (window_for e k w s).beta
unfolding upper
upper-lift e MAX w s p l x = refl
upper-lift e MIN w s p l x = refl
upper-lift e CHANCE w s p l x = refl

pub update-lift : (e : Frame ℕ) (k : Kind) (i w : ℕ) (s : State) (p : Play ℕ) (l : List ℕ) (x : Bool) (A : Seen ℕ)
    → update natural_sums e k i w (lift s p l x) A ≡ lift (after e k i w s A.low A.high) (prefer natural_sums k i p A) A.read A.spent
unfolding update
update-lift e k i w s p l x A = refl

module _ (g : Way) (v : Ends) (left budget : ℕ) (l : List ℕ) (q : left + length l ≡ budget) where
  -- a node met with l read, of which r2 is what it would give
  met-behind : (e : Frame ℕ) (r r2 : Seen ℕ) → r2 ≡ ahead l r → met (rules_of g budget) e l r2 ≡ ahead l (met (rules_of g left) e [] r)
  met-behind e r r2 same =
      ap (λ (x : List ℕ). met (rules_of g budget) e x r2) (sym (append-nil l))
      ∙ met-ahead height_sums natural (rules_of g left).frame g.rule.margin l (limited budget) (limited left) (limited-behind left budget l q) e [] r r2 same

  -- the first child is taken
  pub scan_step : (N : ℕ) (k : Kind) (F : Forest ℕ) (s : State) (p : Play ℕ) (x : Bool) → is_end F ≡ false →
      let e : Frame ℕ = frame_at v N in
      let C : Seen ℕ = node_seen g v left F (window_for e k (weight_of F) s) in
      scan_sums height_sums natural (rules_of g budget) e k (grained g.rule.grain F) (lift s p l x)
      ≡ sums_after height_sums natural (rules_of g budget) e k (grained g.rule.grain (rest_of F)) (lift (after e k (number_of F) (weight_of F) s C.low C.high) (prefer natural_sums k (number_of F) p (ahead l C)) (l ++ C.read) C.spent)
  unfolding scan_sums grained point met_spent
  scan_step N k end s p x some = absurd (true-ne-false some)
  scan_step N k (leaf n w h rest) s p x some =
      let e : Frame ℕ = frame_at v N in
      let C : Seen ℕ = leaf_seen v left n (h * g.rule.grain) in
      ap (λ (y : Seen ℕ). sums_after height_sums natural (rules_of g budget) e k (grained g.rule.grain rest) (update natural_sums e k n w (lift s p l x) y))
      (met-behind e (point n (h * g.rule.grain) []) (point n (h * g.rule.grain) l) refl)
      ∙ ap (sums_after height_sums natural (rules_of g budget) e k (grained g.rule.grain rest)) (update-lift e k n w s p l x (ahead l C))
  scan_step N k (inner n w j under rest) s p x some =
      let e : Frame ℕ = frame_at v N in
      let R : Rules ℕ = rules_of g budget in
      let f : Forest ℕ = grained g.rule.grain under in
      let u : Ends = g.own n in
      let d : Frame ℕ = framed u.bottom u.top f in
      let y : Window = window_for e k w s in
      let C : Seen ℕ = seen_in g u left j under y in
      let start : alg.State ℕ = keep height_sums d j (begin d j y.alpha y.beta []) in
      let same : sums_under height_sums natural R e k n w j f (lift s p l x) ≡ ahead l (scan_sums height_sums natural (rules_of g left) d j f start) =
      ap₂ (λ (a b : ℕ). scan_sums height_sums natural R d j f (keep height_sums d j (begin d j a b l))) (lower-lift e k w s p l x) (upper-lift e k w s p l x)
      ∙ ap (λ (z : List ℕ). scan_sums height_sums natural R d j f (keep height_sums d j (begin d j y.alpha y.beta z))) (sym (append-nil l))
      ∙ ap (scan_sums height_sums natural R d j f) (begin-ahead height_sums d j y.alpha y.beta l [])
      ∙ scan-ahead height_sums natural R.frame g.rule.margin l (limited budget) (limited left) (limited-behind left budget l q) d j f start in
      ap (λ (z : Seen ℕ). sums_after height_sums natural R e k (grained g.rule.grain rest) (update natural_sums e k n w (lift s p l x) z))
      (met-behind d (scan_sums height_sums natural (rules_of g left) d j f start) (sums_under height_sums natural R e k n w j f (lift s p l x)) same)
      ∙ ap (sums_after height_sums natural R e k (grained g.rule.grain rest)) (update-lift e k n w s p l x (ahead l C))

-- ---- the play

abbrev Fresh : Frame ℕ → Kind → State → Type 0
Fresh e MAX s = s.low ≡ e.bottom
Fresh e MIN s = s.high ≡ e.top
Fresh e CHANCE s = Unit {0}

abbrev Best : Kind → State → ℕ → ℕ → Type 0
Best MAX s l h = (l ≡ s.low) × (h ≡ s.other)
Best MIN s l h = (h ≡ s.high) × (l ≡ s.other)
Best CHANCE s l h = ⊥

-- p is the play of the state s
abbrev pub Plays : Frame ℕ → Kind → State → Play ℕ → Type 0
Plays e k s no_play = (s.play ≡ NoPlay) × Fresh e k s
Plays e k s (child m l h) = (s.play ≡ Child m) × Best k s l h

pub plays-number : (e : Frame ℕ) (k : Kind) (s : State) (p : Play ℕ) → Plays e k s p → s.play ≡ play_of (node_of p)
plays-number e k s no_play h = h.0
plays-number e k s (child m l x) h = h.0

-- the first child is taken; later ones where they beat the best
first_taken : {play : found.Play} (b : Bool) → play ≡ NoPlay → (is_first play || b) ≡ true
first_taken b e = rw e refl

later-taken : {play : found.Play} {m : ℕ} (b c : Bool) → play ≡ Child m → b ≡ c → (is_first play || b) ≡ c
later-taken b c p q = rw (p, q) refl

module _ (e : Frame ℕ) (i w m low high : ℕ) (s : State) (q : s.play ≡ Child m) where
  -- a later child of an M: it is better than the best so far, or not
  max_later : (b : Bool) → below ltb s.low low s.other high ≡ b
      → Plays e MAX (after e MAX i w s low high) (cond b (child i low high) (child m s.low s.other))
  unfolding update
  max_later true t =
      let x : takes MAX s low high ≡ true = later-taken _ true q t in
      (rw x refl, (omega (arith, below-le s.low low s.other high t), rw x refl))
  max_later false t =
      let x : takes MAX s low high ≡ false = later-taken _ false q t in
      (rw x q, (omega (arith, below-ge s.low low s.other high t), rw x refl))

  min_later : (b : Bool) → below ltb high s.high low s.other ≡ b
      → Plays e MIN (after e MIN i w s low high) (cond b (child i low high) (child m s.other s.high))
  unfolding update
  min_later true t =
      let x : takes MIN s low high ≡ true = later-taken _ true q t in
      (rw x refl, (omega (arith, below-le high s.high low s.other t), rw x refl))
  min_later false t =
      let x : takes MIN s low high ≡ false = later-taken _ false q t in
      (rw x q, (omega (arith, below-ge high s.high low s.other t), rw x refl))

-- A is what the child i gave
pub plays-after : (e : Frame ℕ) (k : Kind) (i w : ℕ) (s : State) (p : Play ℕ) (A : Seen ℕ) → e.bottom ≤ A.low → A.high ≤ e.top → Plays e k s p
    → Plays e k (after e k i w s A.low A.high) (prefer natural_sums k i p A)
unfolding prefer safer update
plays-after e MAX i w s no_play A low high h =
    let x : takes MAX s A.low A.high ≡ true = first_taken _ h.0 in (rw x refl, (omega (arith, h.1), rw x refl))
plays-after e MIN i w s no_play A low high h =
    let x : takes MIN s A.low A.high ≡ true = first_taken _ h.0 in (rw x refl, (omega (arith, h.1), rw x refl))
plays-after e CHANCE i w s no_play A low high h = (h.0, tt)
plays-after e CHANCE i w s (child m l x) A low high h = absurd h.1
plays-after e MAX i w s (child m l x) A low high h = rw (h.1.0, h.1.1) (max_later e i w m A.low A.high s h.0 _ refl)
plays-after e MIN i w s (child m l x) A low high h = rw (h.1.0, h.1.1) (min_later e i w m A.low A.high s h.0 _ refl)
