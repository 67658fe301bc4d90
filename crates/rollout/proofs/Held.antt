-- Every store that rollouts leave holds the worth of every node.
use Prim.Native.Nat.{ℕ, suc, ◌+◌, ◌≤◌}
use mathlib.Core.Path.{◌≡◌, refl, sym, ap, ap₂, ◌∙◌}
use mathlib.Core.Bool.{Bool}
use mathlib.Core.List.{List, [], ◌∷◌, ◌++◌, map, map-append}
use borrow.Author.Tests.{le-leb}
use lib.IntN.{ℤ, pos, ◌+ℤ◌, ◌*ℤ◌}
use Rattle.numbers.proofs.Above.{leaf-shift}
use Rattle.line.specs.declared.Head.{Head}
use Rattle.line.specs.Line.{Within}
use Rattle.table.specs.Tree.{Kind, Forest, end, leaf, inner, is_chance}
use Rattle.table.specs.Accepted.{one, Filled, Proper}
use Rattle.table.proofs.Heights.{above as height, height-back, map_forest, map-proper}
use Rattle.worth.specs.Worth.{value, shares, first_worth}
use Rattle.worth.specs.Inside.Heights.{height_value, height_shares}
use Rattle.worth.proofs.Shift.{Divides, shares-shift}
use Rattle.search.specs.Inside.{grained}
use Rattle.rollout.specs.Inside.Heights.{natural}
use Rattle.rollout.specs.Inside.Raised.{map_pair}
use Rattle.rollout.specs.Inside.Sound.{Sound}
use Rattle.rollout.specs.Rollout.{Kept, none, tip, knot, Pair, fresh, records, over}
use Rattle.rollout.specs.Store.{tree_worths, Holds}
use Rattle.rollout.proofs.Shift.{le-above}
use Rattle.rollout.proofs.Folds.{Beside, done, also, over-le}
use Rattle.rollout.proofs.Turns.{Turns, at-tip, at-knot, past-tip, past-knot, some-lows}
use Rattle.rollout.proofs.Rolls.{exacts, some-exacts, lows-exact, exact-highs, turns-exacts, Rolls, still, again}
use Rattle.rollout.proofs.Fresh.{value-over, fresh-exacts}

-- ---- over heights

-- the exact worth of every node, by node number
unfoldable pub every_exact : Kept ℕ → List ℕ
every_exact none = []
every_exact (tip n v l h rest) = v ∷ every_exact rest
every_exact (knot n k l h under rest) = over natural k 0 (exacts under) ∷ (every_exact under ++ every_exact rest)

abbrev pub Between : ℕ → Pair ℕ → Type 0
Between v r = (r.low ≤ v) × (v ≤ r.high)

beside-append : {l m : List ℕ} {q r : List (Pair ℕ)} → Beside Between l q → Beside Between m r → Beside Between (l ++ m) (q ++ r)
beside-append done b = b
beside-append (also x a) b = also x (beside-append a b)

pub sound-holds : (f : Kept ℕ) → Sound f → Beside Between (every_exact f) (records f)
unfolding every_exact records
sound-holds none i = done
sound-holds (tip n v l h rest) i = also (i.0, i.1) (sound-holds rest i.2)
sound-holds (knot n k l h under rest) i =
    let a : l ≤ over natural k 0 (exacts under) = rw i.1 (over-le k 0 0 (some-lows under i.0) (lows-exact under i.3)) in
    let b : over natural k 0 (exacts under) ≤ h = rw i.2 (over-le k 0 0 (some-exacts under i.0) (exact-highs under i.3)) in
    also (a, b) (beside-append (sound-holds under i.3) (sound-holds rest i.4))

turns-every : {f f2 : Kept ℕ} {n : ℕ} → Turns f n f2 → every_exact f2 ≡ every_exact f
unfolding every_exact
turns-every (at-tip h) = refl
turns-every (at-knot {k} {rest} t) =
    ap₂ (λ (x y : List ℕ). over natural k 0 x ∷ (y ++ every_exact rest)) (turns-exacts t) (turns-every t)
turns-every (past-tip {v} t) = ap (λ (x : List ℕ). v ∷ x) (turns-every t)
turns-every (past-knot {k} {under} t) = ap (λ (x : List ℕ). over natural k 0 (exacts under) ∷ (every_exact under ++ x)) (turns-every t)

pub rolls-every : {f f2 : Kept ℕ} {l : List ℕ} → Rolls f l f2 → every_exact f2 ≡ every_exact f
rolls-every still = refl
rolls-every (again t r) = rolls-every r ∙ turns-every t

-- ---- over the integers

pub holds-above : (b : ℤ) {l : List ℕ} {r : List (Pair ℕ)} → Beside Between l r
    → Holds (map (λ (x : ℕ). b +ℤ pos x) l) (map (map_pair (λ (x : ℕ). b +ℤ pos x)) r)
holds-above b done = tt
holds-above b (also {x} {y} p t) = (
  le-above b y.low x ∙ le-leb y.low x p.0,
  le-above b x y.high ∙ le-leb x y.high p.1,
  holds-above b t,
)

module _ (T G : ℕ) (h : Head) (bottom top : ℕ) where
  -- the bounds that stand in the fresh tree do not matter
  abbrev start : Forest ℤ → Kept ℕ
  start F = fresh bottom top (grained G (map_forest (height h.lowest) F))

  abbrev raise : ℕ → ℤ
  raise x = h.lowest *ℤ pos G +ℤ pos x

  -- one node
  node-above : (n w d c : ℕ) (k : Kind) (u : Bool) (F : Forest ℤ) → Proper T 0 (Within h) d c u (inner n w k F end) → Filled (inner n w k F end)
      → Divides (inner n w k F end) → value k (shares G F) ≡ raise (height_value k (height_shares G (map_forest (height h.lowest) F)))
  unfolding shares height_shares
  node-above n w d c k u F p f b = ap first_worth (shares-shift G h T 0 d c u (inner n w k F end) p f b)

  -- the same node, from what the fresh tree has under it
  exact_above : (d c : ℕ) (k : Kind) (F : Forest ℤ) → Proper T 0 (Within h) d (c + one k) (is_chance k) F → c + one k ≤ 0
      → over natural k 0 (exacts (start F)) ≡ height_value k (height_shares G (map_forest (height h.lowest) F))
  exact_above d c k F p z =
      ap (over natural k 0) (fresh-exacts T (λ (x : ℕ). Unit {0}) G bottom top d (c + one k) (is_chance k) (map_forest (height h.lowest) F)
      (map-proper (height h.lowest) T 0 (Within h) (λ (x : ℕ). Unit {0}) (λ v w. tt) d (c + one k) (is_chance k) F p))
      ∙ value-over c k (height_shares G (map_forest (height h.lowest) F)) z

  pub worths-above : (d c : ℕ) (u : Bool) (F : Forest ℤ) → Proper T 0 (Within h) d c u F → Filled F → Divides F
      → tree_worths G F ≡ map raise (every_exact (start F))
  unfolding tree_worths every_exact fresh grained
  worths-above d c u end p f b = refl
  worths-above d c u (leaf n w v rest) p f b =
      ap₂ (λ (x : ℤ) (r : List ℤ). x ∷ r)
      (ap (λ (z : ℤ). z *ℤ pos G) (sym (height-back h.lowest v p.1.0)) ∙ leaf-shift h.lowest (height h.lowest v) G)
      (worths-above d c u rest p.4 f b)
  worths-above d c u (inner n w k under rest) p f b =
      ap₂ (λ (x : ℤ) (r : List ℤ). x ∷ r)
      (node-above n w d c k u under (p.0, p.1, p.2, p.3, tt) (f.0, f.1, tt) (b.0, b.1, tt) ∙ ap raise (sym (exact_above (suc d) c k under p.3 p.2)))
      (ap₂ ◌++◌ (worths-above (suc d) (c + one k) (is_chance k) under p.3 f.1 b.1) (worths-above d c u rest p.4 f.2 b.2)
      ∙ sym (map-append raise (every_exact (start under)) (every_exact (start rest))))
