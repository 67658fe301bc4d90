-- Walks one after another, over heights: they end closed on the worth, and no leaf is read twice.
use Prim.Native.Nat.{ℕ, zero, suc, min, max, ◌≤◌, ◌<◌}
use mathlib.Core.Path.{◌≡◌, refl, ap, ◌∙◌}
use mathlib.Core.Bool.{Bool, true, false, cond}
use mathlib.Core.List.{List, [], ◌∷◌, ◌++◌}
use native.Mathlib.Omega.{arith}
use borrow.Author.Tests.{ltb-true, ltb-false, lt-ltb, le-ltb}
use lib.Dec.{ltb, ltb→lt, nltb→le}
use lib.ListN.{length}
use Rattle.field.proofs.Small.{choose}
use Rattle.table.specs.Leaves.{Drops, now, later, Picks, nothing, this}
use Rattle.table.proofs.Leaves.{drops-length}
use Rattle.rollout.specs.Inside.Heights.{natural}
use Rattle.rollout.specs.Inside.Sound.{SomeNode, Sound}
use Rattle.rollout.specs.Rollout.{Kept, none, tip, knot, Walk, Rolled, lows, highs, first_or, over, candidate, candidates, walk, roll}
use Rattle.rollout.proofs.Folds.{Some, Beside, done, also, over-le}
use Rattle.rollout.proofs.Turns.{Turns, at-tip, at-knot, past-tip, past-knot, Reads, some-lows, walk-reads, turns-some, turns-sound}

-- ---- the exact worths

unfoldable pub exacts : Kept ℕ → List ℕ
exacts none = []
exacts (tip n v l h rest) = v ∷ exacts rest
exacts (knot n k l h under rest) = over natural k 0 (exacts under) ∷ exacts rest

pub some-exacts : (f : Kept ℕ) → SomeNode f → Some (exacts f)
unfolding exacts
some-exacts none s = s
some-exacts (tip n v l h rest) s = tt
some-exacts (knot n k l h under rest) s = tt

pub lows-exact : (f : Kept ℕ) → Sound f → Beside (λ (x y : ℕ). x ≤ y) (lows f) (exacts f)
unfolding lows exacts
lows-exact none i = done
lows-exact (tip n v l h rest) i = also i.0 (lows-exact rest i.2)
lows-exact (knot n k l h under rest) i =
    let a : l ≤ over natural k 0 (exacts under) = rw i.1 (over-le k 0 0 (some-lows under i.0) (lows-exact under i.3)) in
    also a (lows-exact rest i.4)

pub exact-highs : (f : Kept ℕ) → Sound f → Beside (λ (x y : ℕ). x ≤ y) (exacts f) (highs f)
unfolding highs exacts
exact-highs none i = done
exact-highs (tip n v l h rest) i = also i.1 (exact-highs rest i.2)
exact-highs (knot n k l h under rest) i =
    let a : over natural k 0 (exacts under) ≤ h = rw i.2 (over-le k 0 0 (some-exacts under i.0) (exact-highs under i.3)) in
    also a (exact-highs rest i.4)

first-beside : (R : ℕ → ℕ → Type 0) (a b : ℕ) {l m : List ℕ} → Some l → Beside R l m → R (first_or a l) (first_or b m)
first-beside R a b s done = absurd s
first-beside R a b s (also r t) = r

-- no walk changes a worth
pub turns-exacts : {f f2 : Kept ℕ} {n : ℕ} → Turns f n f2 → exacts f2 ≡ exacts f
unfolding exacts
turns-exacts (at-tip h) = refl
turns-exacts (at-knot {k} {rest} t) = ap (λ (x : List ℕ). over natural k 0 x ∷ exacts rest) (turns-exacts t)
turns-exacts (past-tip {v} t) = ap (λ (x : List ℕ). v ∷ x) (turns-exacts t)
turns-exacts (past-knot {k} {under} t) = ap (λ (x : List ℕ). over natural k 0 (exacts under) ∷ x) (turns-exacts t)

-- ---- the unread leaves

unfoldable pub unread : Kept ℕ → List ℕ
unread none = []
unread (tip n v l h rest) = cond (ltb l h) (n ∷ unread rest) (unread rest)
unread (knot n k l h under rest) = unread under ++ unread rest

drops-left : {n : ℕ} {l m : List ℕ} (r : List ℕ) → Drops n l m → Drops n (l ++ r) (m ++ r)
drops-left r now = now
drops-left r (later d) = later (drops-left r d)

drops-right : {n : ℕ} {l m : List ℕ} (r : List ℕ) → Drops n l m → Drops n (r ++ l) (r ++ m)
drops-right [] d = d
drops-right (x ∷ r) d = later (drops-right r d)

skip : {n : ℕ} {l m : List ℕ} (b : Bool) (a : ℕ) → Drops n l m → Drops n (cond b (a ∷ l) l) (cond b (a ∷ m) m)
skip true a d = later d
skip false a d = d

turns-drops : {f f2 : Kept ℕ} {n : ℕ} → Turns f n f2 → Drops n (unread f) (unread f2)
unfolding unread
turns-drops (at-tip {v} {l} {h} {rest} p) = rw (lt-ltb l h p, le-ltb v v (omega arith)) now
turns-drops (at-knot {rest} t) = drops-left (unread rest) (turns-drops t)
turns-drops (past-tip {m} {l} {h} t) = skip (ltb l h) m (turns-drops t)
turns-drops (past-knot {under} t) = drops-right (unread under) (turns-drops t)

-- ---- walks one after another

pub data Rolls : Kept ℕ → List ℕ → Kept ℕ → Type 0 where
  still : {f : Kept ℕ} → Rolls f [] f
  again : {f f2 f3 : Kept ℕ} {n : ℕ} {l : List ℕ} → Turns f n f2 → Rolls f2 l f3 → Rolls f (n ∷ l) f3

pub rolls-more : {f f2 f3 : Kept ℕ} {n : ℕ} {l : List ℕ} → Rolls f l f2 → Turns f2 n f3 → Rolls f (l ++ (n ∷ [])) f3
rolls-more still t = again t still
rolls-more (again u r) t = again u (rolls-more r t)

pub rolls-sound : {f f2 : Kept ℕ} {l : List ℕ} → Rolls f l f2 → Sound f → Sound f2
rolls-sound still i = i
rolls-sound (again t r) i = rolls-sound r (turns-sound t i)

pub rolls-some : {f f2 : Kept ℕ} {l : List ℕ} → Rolls f l f2 → SomeNode f → SomeNode f2
rolls-some still i = i
rolls-some (again t r) i = rolls-some r (turns-some t)

pub rolls-exacts : {f f2 : Kept ℕ} {l : List ℕ} → Rolls f l f2 → exacts f2 ≡ exacts f
rolls-exacts still = refl
rolls-exacts (again t r) = rolls-exacts r ∙ turns-exacts t

pub rolls-picks : {f f2 : Kept ℕ} {l : List ℕ} → Rolls f l f2 → Picks (unread f) l
rolls-picks still = nothing
rolls-picks (again t r) = this (turns-drops t) (rolls-picks r)

module _ (bottom top : ℕ) where
  abbrev pub root_low : Kept ℕ → ℕ
  root_low f = first_or bottom (lows f)

  abbrev pub root_high : Kept ℕ → ℕ
  root_high f = first_or top (highs f)

  first_counted : (l h m : ℕ) → l < h → 0 < cond (candidate natural l h l h) (suc m) m
  first_counted l h m o = rw (lt-ltb (max l l) (min h h) (omega arith)) (omega arith)

  root-counted : (f : Kept ℕ) → SomeNode f → root_low f < root_high f → 0 < candidates natural (root_low f) (root_high f) f
  unfolding candidates lows highs
  root-counted none s o = absurd s
  root-counted (tip n v l h rest) s o = first_counted l h (candidates natural l h rest) o
  root-counted (knot n k l h under rest) s o = first_counted l h (candidates natural l h rest) o

  -- document 003, Lemma 3: while the root is open, a walk reads a leaf that was unread
  pub root-reads : (p : List ℕ) (f : Kept ℕ) → Sound f → SomeNode f → ltb (root_low f) (root_high f) ≡ true
      → Reads f (walk natural (root_low f) (root_high f) 0 p f)
  root-reads p f i s e = walk-reads (root_low f) (root_high f) 0 p f i (root-counted f s (ltb-true (root_low f) (root_high f) e))

  pub roll-rolls : (n : ℕ) (p : List ℕ) (f : Kept ℕ) → Sound f → SomeNode f
      → Rolls f (roll natural bottom top n p f).read (roll natural bottom top n p f).kept
  unfolding roll
  roll-rolls zero p f i s = still
  roll-rolls (suc n) p f i s =
      choose (λ (r : Rolled ℕ). Rolls f r.read r.kept) (ltb (root_low f) (root_high f))
      (λ o.
      let r : Walk ℕ = walk natural (root_low f) (root_high f) 0 p f in
      let x : Reads f r = root-reads p f i s (lt-ltb (root_low f) (root_high f) (ltb→lt (root_low f) (root_high f) o)) in
      rw x.read (again x.turns (roll-rolls n r.policy r.kept (turns-sound x.turns i) (turns-some x.turns))))
      (λ _. still)

  -- as many walks as there are unread leaves are enough
  pub roll-closes : (n : ℕ) (p : List ℕ) (f : Kept ℕ) → Sound f → SomeNode f → length (unread f) ≤ n
      → root_high (roll natural bottom top n p f).kept ≤ root_low (roll natural bottom top n p f).kept
  unfolding roll
  roll-closes zero p f i s m = ltb-false (root_low f) (root_high f) (shut (ltb (root_low f) (root_high f)) refl)
    where
      shut : (b : Bool) → ltb (root_low f) (root_high f) ≡ b → b ≡ false
      shut true e = absurd (omega (arith, drops-length (turns-drops (root-reads p f i s e).turns)))
      shut false e = refl
  roll-closes (suc n) p f i s m =
      choose (λ (r : Rolled ℕ). root_high r.kept ≤ root_low r.kept) (ltb (root_low f) (root_high f))
      (λ o.
      let r : Walk ℕ = walk natural (root_low f) (root_high f) 0 p f in
      let x : Reads f r = root-reads p f i s (lt-ltb (root_low f) (root_high f) (ltb→lt (root_low f) (root_high f) o)) in
      roll-closes n r.policy r.kept (turns-sound x.turns i) (turns-some x.turns) (omega (arith, drops-length (turns-drops x.turns))))
      (λ o. nltb→le (root_low f) (root_high f) o)

  -- the root's bounds hold its worth
  pub root-holds : (f : Kept ℕ) → Sound f → SomeNode f → (root_low f ≤ first_or 0 (exacts f)) × (first_or 0 (exacts f) ≤ root_high f)
  root-holds f i s = (
    first-beside (λ (x y : ℕ). x ≤ y) bottom 0 (some-lows f s) (lows-exact f i),
    first-beside (λ (x y : ℕ). x ≤ y) 0 top (some-exacts f s) (exact-highs f i),
  )

  -- rollouts end on the worth, and the root's high is the worth too
  pub roll-ends : (n : ℕ) (p : List ℕ) (f : Kept ℕ) → Sound f → SomeNode f → length (unread f) ≤ n
      → (root_low (roll natural bottom top n p f).kept ≡ first_or 0 (exacts f)) × (root_high (roll natural bottom top n p f).kept ≡ first_or 0 (exacts f))
  roll-ends n p f i s m =
      let z : Kept ℕ = (roll natural bottom top n p f).kept in
      let r = roll-rolls n p f i s in
      let c = roll-closes n p f i s m in
      let h : (root_low z ≤ first_or 0 (exacts f)) × (first_or 0 (exacts f) ≤ root_high z) = rw (rolls-exacts r) at (root-holds z (rolls-sound r i) (rolls-some r s)) in
      (omega arith, omega arith)
