-- The play named is worth at least low at MAX, at most high at MIN, and within the margin where the bounds are.
use Prim.Native.Nat.{ℕ, min, max, ◌≤◌}
use mathlib.Core.Path.{◌≡◌, refl}
use mathlib.Core.List.{List, []}
use native.Mathlib.Nat.{le_trans}
use native.Mathlib.Omega.{arith}
use Rattle.field.proofs.Small.{choose}
use Rattle.table.specs.Tree.{Kind, MAX, MIN, CHANCE, Forest, end, leaf, inner}
use Rattle.table.specs.Inside.{sealed}
use Rattle.search.specs.Search.{Frame, Play, no_play, child, Seen, State, Rules, begin, lower, upper, safer, prefer, update, finish, cut, stop, point, met_spent, met, scan, search}
use Rattle.search.specs.Inside.{natural}
use Rattle.search.proofs.Steps.{cond-is, seen_under, seen_after}
use Rattle.search.proofs.Below.{below-le, below-ge}
use Rattle.search.proofs.Heights.{Within, start, total, worth}
use Rattle.search.proofs.Contain.{Holding, hold-point, hold-under, hold-met, contained}

module _ (frame : ℕ → Forest ℕ → Frame ℕ) where
  -- the child of number m is worth v
  pub data Child (m v : ℕ) : Forest ℕ → Type 0 where
    here-leaf : {w : ℕ} {rest : Forest ℕ} → Child m v (leaf m w v rest)
    here-inner : {w : ℕ} {c : Kind} {under rest : Forest ℕ} → v ≡ worth frame (frame m under) c under → Child m v (inner m w c under rest)
    next-leaf : {n w h : ℕ} {rest : Forest ℕ} → Child m v rest → Child m v (leaf n w h rest)
    next-inner : {n w : ℕ} {c : Kind} {under rest : Forest ℕ} → Child m v rest → Child m v (inner n w c under rest)

module _ (frame : ℕ → Forest ℕ → Frame ℕ) (g : Forest ℕ) where
  -- the play so far is a child of g, and as good as the bound so far
  abbrev pub Marked : Frame ℕ → Kind → ℕ → ℕ → Play ℕ → Type 0
  Marked e MAX lo hi no_play = lo ≤ e.bottom
  Marked e MAX lo hi (child m l h) = (v : ℕ) × Child frame m v g × (lo ≤ l) × (l ≤ v)
  Marked e MIN lo hi no_play = e.top ≤ hi
  Marked e MIN lo hi (child m l h) = (v : ℕ) × Child frame m v g × (h ≤ hi) × (v ≤ h)
  Marked e CHANCE lo hi no_play = Unit {0}
  Marked e CHANCE lo hi (child m l h) = ⊥

module _ (R : Rules ℕ) (g : Forest ℕ) where
  abbrev pub MarkedS : Frame ℕ → Kind → State ℕ → Type 0
  MarkedS e k s = Marked R.frame g e k s.lo s.hi s.play

  abbrev pub MarkedR : Frame ℕ → Kind → Seen ℕ → Type 0
  MarkedR e k r = Marked R.frame g e k r.low r.high r.play

  mark-max : (e : Frame ℕ) (n : ℕ) (lo hi : ℕ) (p : Play ℕ) (r : Seen ℕ) (v : ℕ) → Child R.frame n v g → Holding e v r
      → Marked R.frame g e MAX lo hi p → Marked R.frame g e MAX (max lo r.low) (max hi r.high) (prefer natural MAX n p r)
  unfolding prefer safer
  mark-max e n lo hi no_play r v c h j = (v, c, omega arith, h.1)
  mark-max e n lo hi (child m l b) r v c h j =
      cond-is (Marked R.frame g e MAX (max lo r.low) (max hi r.high)) (natural.beats MAX r.low r.high l b)
      (λ p. (v, c, omega (arith, below-le l r.low b r.high p, j.2), h.1))
      (λ p. (j.0, j.1, omega (arith, below-ge l r.low b r.high p, j.2), j.3))

  mark-min : (e : Frame ℕ) (n : ℕ) (lo hi : ℕ) (p : Play ℕ) (r : Seen ℕ) (v : ℕ) → Child R.frame n v g → Holding e v r
      → Marked R.frame g e MIN lo hi p → Marked R.frame g e MIN (min lo r.low) (min hi r.high) (prefer natural MIN n p r)
  unfolding prefer safer
  mark-min e n lo hi no_play r v c h j = (v, c, omega arith, h.2)
  mark-min e n lo hi (child m l b) r v c h j =
      cond-is (Marked R.frame g e MIN (min lo r.low) (min hi r.high)) (natural.beats MIN r.low r.high l b)
      (λ p. (v, c, omega (arith, below-le r.high b r.low l p, j.2), h.2))
      (λ p. (j.0, j.1, omega (arith, below-ge r.high b r.low l p, j.2), j.3))

  mark-update : (e : Frame ℕ) (k : Kind) (n w : ℕ) (s : State ℕ) (r : Seen ℕ) (v : ℕ) → Child R.frame n v g → Holding e v r → MarkedS e k s
      → MarkedS e k (update natural e k n w s r)
  unfolding update
  mark-update e MAX n w s r v c h j = mark-max e n s.lo s.hi s.play r v c h j
  mark-update e MIN n w s r v c h j = mark-min e n s.lo s.hi s.play r v c h j
  mark-update e CHANCE n w s r v c h j = tt

  mark-cut : (e : Frame ℕ) (k : Kind) (s : State ℕ) → MarkedS e k s → MarkedR e k (cut e k s)
  unfolding cut
  mark-cut e MAX s j = weaken s.play j
    where
      weaken : (p : Play ℕ) → Marked R.frame g e MAX s.lo s.hi p → Marked R.frame g e MAX s.lo e.top p
      weaken no_play j = j
      weaken (child m l h) j = j
  mark-cut e MIN s j = weaken s.play j
    where
      weaken : (p : Play ℕ) → Marked R.frame g e MIN s.lo s.hi p → Marked R.frame g e MIN e.bottom s.hi p
      weaken no_play j = j
      weaken (child m l h) j = j
  mark-cut e CHANCE s j = weaken s.play j
    where
      weaken : (p : Play ℕ) → Marked R.frame g e CHANCE s.lo s.hi p → Marked R.frame g e CHANCE s.lo s.hi p
      weaken no_play j = j
      weaken (child m l h) j = j

  mark-begin : (e : Frame ℕ) (k : Kind) (a b : ℕ) (l : List ℕ) → MarkedS e k (begin e k a b l)
  unfolding begin
  mark-begin e MAX a b l = omega arith
  mark-begin e MIN a b l = omega arith
  mark-begin e CHANCE a b l = tt

  mark-after : (e : Frame ℕ) (k : Kind) (rest : Forest ℕ) (t : State ℕ) → MarkedS e k t → MarkedR e k (scan natural R e k rest t)
      → MarkedR e k (seen_after natural R e k rest t)
  mark-after e k rest t j h = choose (MarkedR e k) (stop natural R.margin rest t) (λ _. mark-cut e k t j) (λ _. h)

  mark : (e : Frame ℕ) (k : Kind) (f : Forest ℕ) (s : State ℕ) → Within R.frame e f → ((m v : ℕ) → Child R.frame m v f → Child R.frame m v g)
      → MarkedS e k s → MarkedR e k (scan natural R e k f s)
  unfolding scan finish worth
  mark e k end s i up j = j
  mark e k (leaf n w h rest) s i up j =
      let r : Seen ℕ = point n h s.read in
      let j2 = mark-update e k n w s (met R e s.read r) h (up n h here-leaf) (hold-met R e s.read h r (hold-point e n h _ (i.0, i.1))) j in
      mark-after e k rest _ j2 (mark e k rest _ i.2 (λ m v c. up m v (next-leaf c)) j2)
  mark e k (inner n w c under rest) s i up j =
      let d : Frame ℕ = R.frame n under in
      let r : Seen ℕ = seen_under natural R e k n w c under s in
      let u = hold-met R d s.read _ r (contained R d c under (lower natural e k w s) (upper natural e k w s) s.read i.2 i.3) in
      let t : State ℕ = update natural e k n w s (met R d s.read r) in
      let j2 = mark-update e k n w s (met R d s.read r) _ (up n _ (here-inner refl)) (hold-under e d _ (met R d s.read r) i.0 i.1 u) j in
      mark-after e k rest t j2 (mark e k rest t i.4 (λ m v c. up m v (next-inner c)) j2)

module _ (frame : ℕ → Forest ℕ → Frame ℕ) where
  grow : (f : Forest ℕ) (a : ℕ) → a ≤ total frame MAX f a
  unfolding total
  grow end a = omega arith
  grow (leaf n w h rest) a = omega (arith, grow rest (max a h))
  grow (inner n w c under rest) a = omega (arith, grow rest (max a (sealed (frame n under).total c (total frame c under (start (frame n under) c)))))

  shrink : (f : Forest ℕ) (a : ℕ) → total frame MIN f a ≤ a
  unfolding total
  shrink end a = omega arith
  shrink (leaf n w h rest) a = omega (arith, shrink rest (min a h))
  shrink (inner n w c under rest) a =
      omega (arith, shrink rest (min a (sealed (frame n under).total c (total frame c under (start (frame n under) c)))))

  child-max : {m v : ℕ} {f : Forest ℕ} (a : ℕ) → Child frame m v f → v ≤ total frame MAX f a
  unfolding total worth
  child-max {m} {v} a (here-leaf {w} {rest}) = omega (arith, grow rest (max a v))
  child-max {m} {v} a (here-inner {w} {c} {under} {rest} q) =
      omega (arith, grow rest (max a (sealed (frame m under).total c (total frame c under (start (frame m under) c)))))
  child-max a (next-leaf p) = child-max _ p
  child-max a (next-inner p) = child-max _ p

  child-min : {m v : ℕ} {f : Forest ℕ} (a : ℕ) → Child frame m v f → total frame MIN f a ≤ v
  unfolding total worth
  child-min {m} {v} a (here-leaf {w} {rest}) = omega (arith, shrink rest (min a v))
  child-min {m} {v} a (here-inner {w} {c} {under} {rest} q) =
      omega (arith, shrink rest (min a (sealed (frame m under).total c (total frame c under (start (frame m under) c)))))
  child-min a (next-leaf p) = child-min _ p
  child-min a (next-inner p) = child-min _ p

  -- what the play named promises
  abbrev pub Promise : Frame ℕ → Kind → Forest ℕ → ℕ → ℕ → Play ℕ → Type 0
  Promise e MAX f low high no_play = Unit {0}
  Promise e MAX f low high (child m l h) = (v : ℕ) × Child frame m v f × (low ≤ v) × (v ≤ worth frame e MAX f)
  Promise e MIN f low high no_play = Unit {0}
  Promise e MIN f low high (child m l h) = (v : ℕ) × Child frame m v f × (v ≤ high) × (worth frame e MIN f ≤ v)
  Promise e CHANCE f low high no_play = Unit {0}
  Promise e CHANCE f low high (child m l h) = ⊥

  -- nothing where none is named
  no-promise : (e : Frame ℕ) (k : Kind) (f : Forest ℕ) (low high : ℕ) → Promise e k f low high no_play
  no-promise e MAX f low high = tt
  no-promise e MIN f low high = tt
  no-promise e CHANCE f low high = tt

  promise : (e : Frame ℕ) (k : Kind) (f : Forest ℕ) (lo hi : ℕ) (p : Play ℕ) → Marked frame f e k lo hi p → Promise e k f lo hi p
  unfolding worth
  promise e MAX f lo hi no_play j = tt
  promise e MAX f lo hi (child m l h) j = (j.0, j.1, le_trans j.2 j.3, child-max _ j.1)
  promise e MIN f lo hi no_play j = tt
  promise e MIN f lo hi (child m l h) j = (j.0, j.1, le_trans j.3 j.2, child-min _ j.1)
  promise e CHANCE f lo hi no_play j = tt
  promise e CHANCE f lo hi (child m l h) j = j

-- the play of a search
pub named : (R : Rules ℕ) (e : Frame ℕ) (k : Kind) (f : Forest ℕ) → Within R.frame e f
    → Promise R.frame e k f (search natural R e k f).low (search natural R e k f).high (search natural R e k f).play
unfolding search met_spent
named R e k f i =
    choose (λ (r : Seen ℕ). Promise R.frame e k f r.low r.high r.play) (R.full []) (λ _. no-promise R.frame e k f e.bottom e.top)
    (λ _. promise R.frame e k f _ _ _ (mark R f e k f (begin e k e.bottom e.top []) i (λ m v c. c) (mark-begin R f e k e.bottom e.top [])))
