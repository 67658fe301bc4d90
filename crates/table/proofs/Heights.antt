-- Heights in place of utilities: the tree of heights is the tree with each leaf's value replaced.
use Prim.Native.Nat.{ℕ, zero, suc, ◌+◌, ◌-◌, ◌≤◌}
use mathlib.Core.Path.{◌≡◌, refl, ap, ◌∙◌}
use mathlib.Core.Bool.{Bool, true, false, cond}
use mathlib.Core.List.{List, [], ◌∷◌}
use native.Mathlib.Omega.{arith}
use borrow.Author.Tests.{ltb-false, le-ltb}
use lib.ListN.{length}
use lib.IntN.{ℤ, pos, negsuc, sub_ℕ, ◌+ℤ◌, ◌-ℤ◌, +ℤ_comm, -ℤ-+ℤ_cancel}
use lib.Signed.{lt_z}
use Rattle.line.specs.declared.Line.{Line}
use Rattle.line.specs.Line.{to_nat, code, is_leaf}
use Rattle.line.proofs.Signs.{true-ne-false}
use Rattle.table.specs.Tree.{Forest, end, leaf, inner, is_chance, is_end, kind_of, run, after, forest, weigh, uses, leaves}
use Rattle.table.specs.Table.{Table, tree}
use Rattle.table.specs.Slices.{height_of}
use Rattle.table.specs.Inside.{height_tree, deepest}
use Rattle.table.specs.Accepted.{one, Filled, Totals, Proper, Rooted}

-- ---- differences of integers

sub_is : (a b : ℕ) → b ≤ a → sub_ℕ a b ≡ pos (a - b)
sub_is a b h = rw (le-ltb a b h)

-- z is not below lo: their difference as a natural
above-pos : (l m : ℕ) → l ≤ m → pos m -ℤ pos l ≡ pos (m - l)
above-pos zero m h = ap pos (omega arith)
above-pos (suc l) m h = sub_is m (suc l) h

above-neg : (l m : ℕ) → m ≤ l → negsuc m -ℤ negsuc l ≡ pos (l - m)
above-neg l m h = sub_is (suc l) (suc m) (omega arith) ∙ ap pos (omega arith)

above-natural : (lo z : ℤ) → lt_z z lo ≡ false → pos (to_nat (z -ℤ lo)) ≡ z -ℤ lo
above-natural (pos l) (pos m) h = rw (above-pos l m (ltb-false m l h))
above-natural (pos l) (negsuc m) h = absurd (true-ne-false h)
above-natural (negsuc l) (pos m) h = refl
above-natural (negsuc l) (negsuc m) h = rw (above-neg l m (ltb-false l m h))

pub height-back : (lo z : ℤ) → lt_z z lo ≡ false → lo +ℤ pos (to_nat (z -ℤ lo)) ≡ z
height-back lo z h = ap (λ (y : ℤ). lo +ℤ y) (above-natural lo z h) ∙ +ℤ_comm lo (z -ℤ lo) ∙ -ℤ-+ℤ_cancel z lo

pub height-span : (lo hi z : ℤ) → lt_z z lo ≡ false → lt_z hi z ≡ false → to_nat (z -ℤ lo) ≤ to_nat (hi -ℤ lo)
height-span (pos l) (pos u) (pos m) a b =
    let p : l ≤ m = ltb-false m l a in
    let q : m ≤ u = ltb-false u m b in
    rw (above-pos l m p, above-pos l u (omega arith)) (omega arith)
height-span (pos l) (negsuc u) (pos m) a b = absurd (true-ne-false b)
height-span (pos l) hi (negsuc m) a b = absurd (true-ne-false a)
height-span (negsuc l) (pos u) (pos m) a b = omega (arith, ltb-false u m b)
height-span (negsuc l) (negsuc u) (pos m) a b = absurd (true-ne-false b)
height-span (negsuc l) (pos u) (negsuc m) a b = rw (above-neg l m (ltb-false l m a)) (omega arith)
height-span (negsuc l) (negsuc u) (negsuc m) a b =
    let p : m ≤ l = ltb-false l m a in
    let q : u ≤ m = ltb-false m u b in
    rw (above-neg l m p, above-neg l u (omega arith)) (omega arith)

-- ---- other values at the leaves

module _ {A B : Type 0} (g : A → B) where
  abbrev pub map_forest : Forest A → Forest B
  map_forest end = end
  map_forest (leaf n w v rest) = leaf n w (g v) (map_forest rest)
  map_forest (inner n w k under rest) = inner n w k (map_forest under) (map_forest rest)

  pub map-end : (T : Forest A) → is_end (map_forest T) ≡ is_end T
  map-end end = refl
  map-end (leaf n w v rest) = refl
  map-end (inner n w k under rest) = refl

  pub map-weigh : (T : Forest A) → weigh (map_forest T) ≡ weigh T
  unfolding weigh
  map-weigh end = refl
  map-weigh (leaf n w v rest) = ap (λ (x : ℕ). w + x) (map-weigh rest)
  map-weigh (inner n w k under rest) = ap (λ (x : ℕ). w + x) (map-weigh rest)

  pub map-leaves : (T : Forest A) → leaves (map_forest T) ≡ leaves T
  unfolding leaves
  map-leaves end = refl
  map-leaves (leaf n w v rest) = ap (λ (x : ℕ). 1 + x) (map-leaves rest)
  map-leaves (inner n w k under rest) = rw (map-leaves under, map-leaves rest)

  pub map-filled : (T : Forest A) → Filled T → Filled (map_forest T)
  map-filled end f = tt
  map-filled (leaf n w v rest) f = map-filled rest f
  map-filled (inner n w k under rest) f = (map-end under ∙ f.0, map-filled under f.1, map-filled rest f.2)

  pub map-totals : (P : ℕ → Type 0) (F : Forest A) → Totals P F → Totals P (map_forest F)
  map-totals P end b = tt
  map-totals P (leaf n w v rest) b = map-totals P rest b
  map-totals P (inner n w k under rest) b = (λ e. rw (map-weigh under) (b.0 e), map-totals P under b.1, map-totals P rest b.2)

  pub map-uses : (t : ℕ) (F : Forest A) → uses t (map_forest F) ≡ uses t F
  unfolding uses
  map-uses t end = refl
  map-uses t (leaf n w v rest) = map-uses t rest
  map-uses t (inner n w k under rest) = rw (map-weigh under, map-uses t under, map-uses t rest)

  pub map-deepest : (F : Forest A) → deepest (map_forest F) ≡ deepest F
  unfolding deepest
  map-deepest end = refl
  map-deepest (leaf n w v rest) = map-deepest rest
  map-deepest (inner n w k under rest) = rw (map-deepest under, map-deepest rest)

  pub map-rooted : (T : Forest A) → Rooted T → Rooted (map_forest T)
  map-rooted end r = r
  map-rooted (leaf n w v rest) r = (r.0, r.1, ap map_forest r.2)
  map-rooted (inner n w k under rest) r = (r.0, r.1, ap map_forest r.2)

  pub map-proper : (T K : ℕ) (ok : A → Type 0) (ok' : B → Type 0) → ((v : A) → ok v → ok' (g v))
      → (d c : ℕ) (u : Bool) (F : Forest A) → Proper T K ok d c u F → Proper T K ok' d c u (map_forest F)
  map-proper T K ok ok' f d c u end p = tt
  map-proper T K ok ok' f d c u (leaf n w v rest) p = (p.0, f v p.1, p.2, p.3, map-proper T K ok ok' f d c u rest p.4)
  map-proper T K ok ok' f d c u (inner n w k under rest) p =
      (p.0, p.1, p.2, map-proper T K ok ok' f (suc d) (c + one k) (is_chance k) under p.3, map-proper T K ok ok' f d c u rest p.4)

-- ---- the heights

module _ (lo : ℤ) where
  -- how far above lo
  abbrev pub above : ℤ → ℕ
  above z = to_nat (z -ℤ lo)

  grow-map : (l : Line) (b : Bool) (U T : Forest ℤ)
      → cond b (leaf l.node l.weight (cond b (above l.utility) 0) (map_forest above T))
      (inner l.node l.weight (kind_of (code l.kind)) (map_forest above U) (map_forest above T))
      ≡ map_forest above (cond b (leaf l.node l.weight l.utility T) (inner l.node l.weight (kind_of (code l.kind)) U T))
  grow-map l true U T = refl
  grow-map l false U T = refl

  pub heights-forest : (k : ℕ) (ls : List Line) → forest (height_of lo) k ls ≡ map_forest above (forest (λ (l : Line). l.utility) k ls)
  unfolding forest
  heights-forest zero ls = refl
  heights-forest (suc k) [] = refl
  heights-forest (suc k) (l ∷ ls) =
      let under : Forest ℤ = forest (λ (l : Line). l.utility) k (run l.node ls) in
      let rest : Forest ℤ = forest (λ (l : Line). l.utility) k (after l.node ls) in
      rw (heights-forest k (run l.node ls), heights-forest k (after l.node ls)) (grow-map l (is_leaf l.kind) under rest)

-- for every table, accepted or not
pub heights-map : (t : Table) → height_tree t ≡ map_forest (above t.head.lowest) (tree t)
heights-map t = heights-forest t.head.lowest (length t.lines) t.lines
