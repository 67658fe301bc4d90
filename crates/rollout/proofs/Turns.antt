-- A walk over heights reads one leaf that was unread, and recomputes the bounds above it: document 003, Lemma 3.
use Prim.Native.Nat.{ℕ, zero, suc, pred, min, max, ◌≤◌, ◌<◌}
use mathlib.Core.Path.{◌≡◌, refl}
use mathlib.Core.Bool.{Bool, true, false, ◌&&◌, cond}
use mathlib.Core.List.{List, [], ◌∷◌}
use native.Mathlib.Nat.{mod-lt}
use native.Mathlib.Omega.{arith}
use borrow.Author.Tests.{ltb-true, ltb-false}
use lib.Dec.{eqb, eqb-suc-zero}
use Rattle.table.specs.Tree.{Kind}
use Rattle.rollout.specs.Inside.Heights.{natural}
use Rattle.rollout.specs.Inside.Sound.{SomeNode, Sound}
use Rattle.rollout.specs.Rollout.{Kept, none, tip, knot, Walk, pick, spend, lows, highs, over, candidate, candidates, walk}
use Rattle.rollout.proofs.Folds.{Some, Beside, done, also, over_any, Shut, over-shut}

-- One leaf more is read: n, which was unread; the bounds above it are taken again from all children.
pub data Turns : Kept ℕ → ℕ → Kept ℕ → Type 0 where
  at-tip : {n v l h : ℕ} {rest : Kept ℕ} → l < h → Turns (tip n v l h rest) n (tip n v v v rest)
  at-knot : {n m l h : ℕ} {k : Kind} {under under2 rest : Kept ℕ} → Turns under n under2
      → Turns (knot m k l h under rest) n (knot m k (over natural k l (lows under2)) (over natural k h (highs under2)) under2 rest)
  past-tip : {n m v l h : ℕ} {rest rest2 : Kept ℕ} → Turns rest n rest2 → Turns (tip m v l h rest) n (tip m v l h rest2)
  past-knot : {n m l h : ℕ} {k : Kind} {under rest rest2 : Kept ℕ} → Turns rest n rest2 → Turns (knot m k l h under rest) n (knot m k l h under rest2)

-- ---- lists of bounds

pub some-lows : (f : Kept ℕ) → SomeNode f → Some (lows f)
unfolding lows
some-lows none s = s
some-lows (tip n v l h rest) s = tt
some-lows (knot n k l h under rest) s = tt

pub some-highs : (f : Kept ℕ) → SomeNode f → Some (highs f)
unfolding highs
some-highs none s = s
some-highs (tip n v l h rest) s = tt
some-highs (knot n k l h under rest) s = tt

-- ---- Lemma 3

pub test-true : (α β l h : ℕ) → candidate natural α β l h ≡ true → max α l < min β h
test-true α β l h e = ltb-true (max α l) (min β h) e

none-counted : (t : Bool) (m : ℕ) → cond t (suc m) m ≡ 0 → (t ≡ false) × (m ≡ 0)
none-counted true m e = absurd (omega arith)
none-counted false m e = (refl, e)

-- where no child is a candidate, every child's window is empty
all-shut : (α β : ℕ) (f : Kept ℕ) → candidates natural α β f ≡ 0 → Beside (Shut α β) (lows f) (highs f)
unfolding candidates lows highs
all-shut α β none e = done
all-shut α β (tip n v l h rest) e =
    let c = none-counted (candidate natural α β l h) (candidates natural α β rest) e in
    also (ltb-false (max α l) (min β h) c.0) (all-shut α β rest c.1)
all-shut α β (knot n k l h under rest) e =
    let c = none-counted (candidate natural α β l h) (candidates natural α β rest) e in
    also (ltb-false (max α l) (min β h) c.0) (all-shut α β rest c.1)

above_zero : (m : ℕ) → (m ≡ 0 → ⊥) → 0 < m
above_zero zero f = absurd (f refl)
above_zero (suc m) f = omega arith

-- a node with an open window has a candidate among its children
pub some-candidate : (k : Kind) (α β : ℕ) (f : Kept ℕ) → SomeNode f → over natural k 0 (lows f) ≤ α → β ≤ over natural k 0 (highs f) → α < β
    → 0 < candidates natural α β f
some-candidate k α β f s p q o =
    above_zero (candidates natural α β f) (λ e.
    let z : Shut α β (over natural k 0 (lows f)) (over natural k 0 (highs f)) = over-shut α β k 0 0 (some-lows f s) (all-shut α β f e) in
    omega arith)

pub pick_less : (m : ℕ) (p : List ℕ) → 0 < m → pick m p < m
pick_less m [] h = h
pick_less m (b ∷ p) h = mod-lt b h

-- ---- a walk

-- what a walk to a candidate of f leaves
pub record Reads (f : Kept ℕ) (r : Walk ℕ) : Type 0 where
  pub node : ℕ
  pub read : r.read ≡ node ∷ []
  pub turns : Turns f node r.kept

pass : {x y : Walk ℕ} (P : Walk ℕ → Type 0) (t : Bool) (j m : ℕ) → (t ≡ true → P x) → (cond t (pred j) j < m → P y)
    → j < cond t (suc m) m → P (cond (t && eqb j 0) x y)
pass P true zero m f g h = f refl
pass P true (suc j) m f g h = rw (eqb-suc-zero j) (g (omega arith))
pass P false j m f g h = g h

pub walk-reads : (α β j : ℕ) (p : List ℕ) (f : Kept ℕ) → Sound f → j < candidates natural α β f → Reads f (walk natural α β j p f)
unfolding walk candidates
walk-reads α β j p none i q = absurd (omega arith)
walk-reads α β j p (tip n v l h rest) i q =
    let t : Bool = candidate natural α β l h in
    pass (Reads (tip n v l h rest)) t j (candidates natural α β rest)
    (λ e. record { node = n; read = refl; turns = at-tip (omega (arith, test-true α β l h e)) })
    (λ z. let r = walk-reads α β (cond t (pred j) j) p rest i.2 z in record { node = r.node; read = r.read; turns = past-tip r.turns }) q
walk-reads α β j p (knot n k l h under rest) i q =
    let t : Bool = candidate natural α β l h in
    let a : ℕ = max α l in
    let b : ℕ = min β h in
    let m : ℕ = candidates natural a b under in
    pass (Reads (knot n k l h under rest)) t j (candidates natural α β rest)
    (λ e.
    let some : 0 < m = some-candidate k a b under i.0 (omega (arith, i.1)) (omega (arith, i.2)) (test-true α β l h e) in
    let r = walk-reads a b (pick m p) (spend p) under i.3 (pick_less m p some) in
    record { node = r.node; read = r.read; turns = at-knot r.turns })
    (λ z. let r = walk-reads α β (cond t (pred j) j) p rest i.4 z in record { node = r.node; read = r.read; turns = past-knot r.turns }) q

-- ---- what a walk keeps

pub turns-some : {f f2 : Kept ℕ} {n : ℕ} → Turns f n f2 → SomeNode f2
turns-some (at-tip h) = tt
turns-some (at-knot t) = tt
turns-some (past-tip t) = tt
turns-some (past-knot t) = tt

pub turns-sound : {f f2 : Kept ℕ} {n : ℕ} → Turns f n f2 → Sound f → Sound f2
turns-sound (at-tip h) i = (omega arith, omega arith, i.2)
turns-sound (at-knot {l} {h} {k} {under2} t) i = (
  turns-some t,
  over_any k l 0 (lows under2) (some-lows under2 (turns-some t)),
  over_any k h 0 (highs under2) (some-highs under2 (turns-some t)),
  turns-sound t i.3,
  i.4,
)
turns-sound (past-tip t) i = (i.0, i.1, turns-sound t i.2)
turns-sound (past-knot t) i = (i.0, i.1, i.2, i.3, turns-sound t i.4)
