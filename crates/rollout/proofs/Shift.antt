-- Rollouts of a table over the integers are those over heights, every bound above the lowest end.
use Prim.Native.Nat.{ℕ, suc, ◌+◌, ◌*◌, ◌<◌, ◌≤◌}
use mathlib.Core.Path.{◌≡◌, refl, sym, ap, ap₂, ◌∙◌}
use mathlib.Core.Bool.{Bool, false, not}
use mathlib.Core.List.{List}
use native.Mathlib.Decide.{dec_le}
use native.Mathlib.Omega.{arith}
use borrow.Author.Tests.{le-leb, lt-leb}
use lib.Dec.{ltb, leb}
use lib.IntN.{ℤ, pos, ◌+ℤ◌, ◌*ℤ◌, +ℤ_idr}
use lib.Signed.{lt_z, le_z}
use Rattle.numbers.proofs.Signs.{plus, minus, parts, is_le}
use Rattle.numbers.proofs.Above.{lift, leaf-shift, max-shift, min-shift}
use Rattle.line.specs.declared.Head.{Head}
use Rattle.line.specs.Line.{larger, Within}
use Rattle.line.specs.Refusal.{fine}
use Rattle.table.specs.Tree.{Forest, end, leaf, inner, is_chance}
use Rattle.table.specs.Table.{Table, tree, read_text, greatest, grain}
use Rattle.table.specs.Inside.{height_tree}
use Rattle.table.specs.Accepted.{one, span, Proper}
use Rattle.table.proofs.Heights.{above as height, height-back, map_forest, heights-map}
use Rattle.table.proofs.Accepted.{accepted-ranged, accepted-proper}
use Rattle.search.specs.Whole.{in_grains}
use Rattle.search.specs.Inside.{grained}
use Rattle.search.proofs.Shift.{less-natural, less-whole}
use Rattle.rollout.specs.Inside.Heights.{natural, height_rolled}
use Rattle.rollout.specs.Inside.Raised.{map_rolled, above}
use Rattle.rollout.specs.Rollout.{fresh, roll, rollouts}
use Rattle.rollout.specs.Whole.{whole, bottom, top, rolled}
use Rattle.rollout.specs.Store.{after_walks}
use Rattle.rollout.proofs.Raise.{Keeps, fresh-map, roll-map, rollouts-map}

-- ---- the order above b

leb-same : (x y u v : ℕ) → (x ≤ y → u ≤ v) → (u ≤ v → x ≤ y) → leb x y ≡ leb u v
leb-same x y u v f g =
    elim (dec_le x y) [ yes h ↦ rw (le-leb x y h, le-leb u v (f h)) | no h ↦ let l : y < x = omega arith in let m : v < u = elim (dec_le u v) [ yes i ↦ absurd (h (g i)) | no i ↦ omega arith ] in rw (lt-leb x y l, lt-leb u v m) ]

pub le-above : (b : ℤ) (x y : ℕ) → le_z (b +ℤ pos x) (b +ℤ pos y) ≡ leb x y
le-above b x y =
    let p : ℕ = plus b in
    let q : ℕ = minus b in
    is_le (b +ℤ pos x) (b +ℤ pos y) (p + x) q (p + y) q (lift b p q x (parts b)) (lift b p q y (parts b))
    ∙ leb-same (p + x + q) (p + y + q) x y (λ h. omega arith) (λ h. omega arith)

pub lt_above : (b : ℤ) (x y : ℕ) → lt_z (b +ℤ pos x) (b +ℤ pos y) ≡ ltb x y
lt_above b x y = less-whole (b +ℤ pos x) (b +ℤ pos y) ∙ ap not (le-above b y x) ∙ sym (less-natural x y)

pub keeps : (b : ℤ) → Keeps natural whole (λ (x : ℕ). b +ℤ pos x)
keeps b = record { greater = max-shift b; lesser = min-shift b; test = lt_above b }

-- ---- the tree

module _ (T G K : ℕ) (h : Head) where
  pub tree-above : (d c : ℕ) (u : Bool) (F : Forest ℤ) → Proper T K (Within h) d c u F
      → in_grains G F ≡ map_forest (λ (x : ℕ). h.lowest *ℤ pos G +ℤ pos x) (grained G (map_forest (height h.lowest) F))
  unfolding in_grains grained
  tree-above d c u end p = refl
  tree-above d c u (leaf n w v rest) p =
      ap₂ (λ (x : ℤ) (r : Forest ℤ). leaf n w x r)
      (ap (λ (z : ℤ). z *ℤ pos G) (sym (height-back h.lowest v p.1.0)) ∙ leaf-shift h.lowest (height h.lowest v) G)
      (tree-above d c u rest p.4)
  tree-above d c u (inner n w k under rest) p =
      ap₂ (λ (x r : Forest ℤ). inner n w k x r) (tree-above (suc d) (c + one k) (is_chance k) under p.3) (tree-above d c u rest p.4)

module _ (s : List ℕ) (t : Table) (h : read_text s ≡ fine t) where
  pub grains-above : in_grains (grain t) (tree t) ≡ map_forest (above t) (grained (grain t) (height_tree t))
  grains-above = rw (heights-map t) (tree-above (larger t.head) (grain t) (greatest t.lines) t.head 0 0 false (tree t) (accepted-proper s t h))

  pub bottom-above : bottom t ≡ above t 0
  bottom-above = sym (+ℤ_idr (bottom t))

  pub top_above : top t ≡ above t (span t.head * grain t)
  top_above =
      ap (λ (z : ℤ). z *ℤ pos (grain t)) (sym (height-back t.head.lowest t.head.highest (accepted-ranged s t h).order))
      ∙ leaf-shift t.head.lowest (span t.head) (grain t)

  pub rolled-above : (p : List ℕ) → rolled t p ≡ map_rolled (above t) (height_rolled t p)
  rolled-above p =
      ap₂ (λ (b c : ℤ). rollouts whole b c p (in_grains (grain t) (tree t))) bottom-above top_above
      ∙ ap (λ (f : Forest ℤ). rollouts whole (above t 0) (above t (span t.head * grain t)) p f) grains-above
      ∙ rollouts-map (above t) natural whole (keeps (bottom t)) 0 (span t.head * grain t) p (grained (grain t) (height_tree t))

  pub after-above : (n : ℕ) (p : List ℕ)
      → after_walks t n p
      ≡ map_rolled (above t) (roll natural 0 (span t.head * grain t) n p (fresh 0 (span t.head * grain t) (grained (grain t) (height_tree t))))
  after-above n p =
      let S : ℕ = span t.head * grain t in
      let F : Forest ℕ = grained (grain t) (height_tree t) in
      ap₂ (λ (b c : ℤ). roll whole b c n p (fresh b c (in_grains (grain t) (tree t)))) bottom-above top_above
      ∙ ap (λ (f : Forest ℤ). roll whole (above t 0) (above t S) n p (fresh (above t 0) (above t S) f)) grains-above
      ∙ ap (roll whole (above t 0) (above t S) n p) (fresh-map (above t) 0 S F)
      ∙ roll-map (above t) natural whole (keeps (bottom t)) 0 S n p (fresh 0 S F)
