-- The root child of a number: its worth over the integers, from its worth over heights.
use Prim.Native.Nat.{ℕ, suc, ◌+◌, ◌≤◌, ◌<◌}
use mathlib.Core.Path.{◌≡◌, refl, sym, ap, ◌∙◌}
use mathlib.Core.Bool.{Bool, true, false, cond}
use mathlib.Core.Option.{some}
use native.Mathlib.Omega.{arith}
use borrow.Author.Tests.{eq-eqb, ne_eqb}
use lib.Dec.{eqb}
use lib.ListN.{get_or}
use lib.IntN.{ℤ, pos, ◌+ℤ◌, ◌*ℤ◌}
use Rattle.line.specs.declared.Head.{Head}
use Rattle.line.specs.Line.{Within}
use Rattle.table.specs.Tree.{Kind, Forest, end, leaf, inner, is_chance}
use Rattle.table.specs.Inside.{Slices, Spans}
use Rattle.table.specs.Accepted.{one, Filled, Proper}
use Rattle.table.specs.Root.{children, root_of}
use Rattle.table.proofs.Heights.{above, map_forest, map-end, map-filled}
use Rattle.table.proofs.Spans.{spans-le}
use Rattle.table.proofs.Ends.{utility-shift}
use Rattle.worth.specs.Inside.Heights.{SmallWorths}
use Rattle.worth.proofs.Shift.{node-shift, shares-shift, Divides}
use Rattle.search.specs.Search.{Frame}
use Rattle.search.specs.Inside.{grained}
use Rattle.search.proofs.Steps.{cond-past}
use Rattle.search.proofs.Grains.{plain}
use Rattle.promise.specs.Play.{worth_at}
use Rattle.promise.proofs.Play.{Child, here-leaf, here-inner, next-leaf, next-inner}
use Rattle.promise.proofs.Worths.{worth-value}

-- ---- no two nodes with one parent have the same number

-- numbers that rise, from c on
abbrev pub Rising : ℕ → Forest ℕ → Type 0
Rising c end = Unit {0}
Rising c (leaf n w h rest) = (c ≤ n) × Rising (suc n) rest
Rising c (inner n w k under rest) = (c ≤ n) × Rising (suc n) rest

rising-from : (b c : ℕ) (f : Forest ℕ) → b ≤ c → Rising c f → Rising b f
rising-from b c end h r = tt
rising-from b c (leaf n w v rest) h r = (omega (arith, r.0), r.1)
rising-from b c (inner n w k under rest) h r = (omega (arith, r.0), r.1)

rising : (s : Slices) (c e : ℕ) (f : Forest ℕ) → Spans s c e f → Rising c f
unfolding Spans
rising s c e end x = tt
rising s c e (leaf n w h rest) x = (omega (arith, x.0), rising-from (suc n) (c + 1) rest (omega (arith, x.0)) (rising s (c + 1) e rest x.5))
rising s c e (inner n w k under rest) x =
    let j : ℕ = get_or s.stops c 0 in
    (omega (arith, x.0), rising-from (suc n) j rest (omega (arith, x.0, spans-le s (c + 1) j under x.3)) (rising s j e rest x.4))

-- the children of the first node
pub rising-under : (s : Slices) (c e n w : ℕ) (k : Kind) (under rest : Forest ℕ) → Spans s c e (inner n w k under rest) → Rising (c + 1) under
unfolding Spans
rising-under s c e n w k under rest x = rising s (c + 1) (get_or s.stops c 0) under x.3

child-from : (frame : ℕ → Forest ℕ → Frame ℕ) (G m c : ℕ) (f : Forest ℕ) → Rising c f → (v : ℕ) → Child frame m v (grained G f) → c ≤ m
unfolding grained
child-from frame G m c end r v x = elim x [ ]
child-from frame G m c (leaf n w h rest) r v here-leaf = r.0
child-from frame G m c (leaf n w h rest) r v (next-leaf x) = omega (arith, r.0, child-from frame G m (suc n) rest r.1 v x)
child-from frame G m c (inner n w k under rest) r v (here-inner x) = r.0
child-from frame G m c (inner n w k under rest) r v (next-inner x) = omega (arith, r.0, child-from frame G m (suc n) rest r.1 v x)

pub root-same : (G : ℕ) (g : ℤ → ℕ) (f : Forest ℤ) → root_of (grained G (map_forest g f)) ≡ root_of f
unfolding grained
root-same G g end = refl
root-same G g (leaf n w v rest) = refl
root-same G g (inner n w k under rest) = refl

-- ---- over the integers

cond-here : {A : Type 0} (b : Bool) (x y : A) → b ≡ true → cond b x y ≡ x
cond-here b x y e = rw e refl

module _ (T G K S : ℕ) (h : Head) where
  abbrev base : ℤ
  base = h.lowest *ℤ pos G

  abbrev lowered : Forest ℤ → Forest ℕ
  lowered f = map_forest (above h.lowest) f

  child-worth : (d c : ℕ) (u : Bool) (f : Forest ℤ) → Proper T K (Within h) d c u f → Filled f → Divides f → SmallWorths G S (lowered f)
      → (b : ℕ) → Rising b (lowered f) → (m v : ℕ) → Child (plain S) m v (grained G (lowered f)) → worth_at G m f ≡ some (base +ℤ pos v)
  unfolding worth_at grained
  child-worth d c u end p fl bl s b r m v i = elim i [ ]
  child-worth d c u (leaf n w x rest) p fl bl s b r m v here-leaf =
      cond-here (eqb n n) _ _ (eq-eqb n n refl) ∙ ap some (utility-shift G h x p.1)
  child-worth d c u (leaf n w x rest) p fl bl s b r m v (next-leaf i) =
      let past : n < m = child-from (plain S) G m (suc n) (lowered rest) r.1 v i in
      cond-past (eqb n m) _ _ (ne_eqb n m (λ e. omega arith)) ∙ child-worth d c u rest p.4 fl bl s.1 (suc n) r.1 m v i
  child-worth d c u (inner n w k under rest) p fl bl s b r m v (here-inner e) =
      cond-here (eqb n n) _ _ (eq-eqb n n refl)
      ∙ ap some
      (node-shift G h k under (shares-shift G h T K (suc d) (c + one k) (is_chance k) under p.3 fl.1 bl.1) fl.0 bl.0
      ∙ ap (λ (y : ℕ). base +ℤ pos y)
      (sym (e ∙ worth-value S G k (lowered under) (map-end (above h.lowest) under ∙ fl.0) (map-filled (above h.lowest) under fl.1) s.1)))
  child-worth d c u (inner n w k under rest) p fl bl s b r m v (next-inner i) =
      let past : n < m = child-from (plain S) G m (suc n) (lowered rest) r.1 v i in
      cond-past (eqb n m) _ _ (ne_eqb n m (λ e. omega arith)) ∙ child-worth d c u rest p.4 fl.2 bl.2 s.2 (suc n) r.1 m v i

  -- a root child of these nodes, which stand in slices
  pub play-worth : (f : Forest ℤ) → Proper T K (Within h) 0 0 false f → Filled f → Divides f → SmallWorths G S (lowered f)
      → (s : Slices) (e : ℕ) → Spans s 0 e (lowered f) → (m v : ℕ) → Child (plain S) m v (children (grained G (lowered f)))
      → worth_at G m (children f) ≡ some (base +ℤ pos v)
  unfolding grained
  play-worth end p fl bl sm s e x m v i = elim i [ ]
  play-worth (leaf n w h rest) p fl bl sm s e x m v i = elim i [ ]
  play-worth (inner n w k under rest) p fl bl sm s e x m v i =
      child-worth 1 (0 + one k) (is_chance k) under p.3 fl.1 bl.1 sm.1 1 (rising-under s 0 e n w k (lowered under) (lowered rest) x) m v i
