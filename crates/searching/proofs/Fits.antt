-- Nodes that can be searched are what the laws of the search ask for; what the search of one gives.
use Prim.Native.Nat.{ℕ, ◌+◌, ◌*◌, ◌≤◌}
use mathlib.Core.Path.{◌≡◌, refl, sym, ap, ◌∙◌}
use mathlib.Core.Bool.{false}
use mathlib.Core.List.{[]}
use native.Mathlib.Omega.{arith}
use Rattle.line.proofs.Signs.{true-ne-false}
use Rattle.table.specs.Tree.{Kind, MAX, MIN, CHANCE, Forest, end, leaf, inner, is_end, weigh}
use Rattle.table.proofs.Nodes.{rest_of, weight_of, weigh-split}
use Rattle.search.specs.Search.{Frame, Seen, Rules, begin, point, met, framed}
use Rattle.search.specs.Sums.{keep, scan_sums}
use Rattle.search.specs.Inside.{natural, height_sums, grained}
use Rattle.search.proofs.Heights.{Sound, Within}
use Rattle.search.proofs.Between.{Between, between-point, between-under, between-met, between}
use Rattle.search.proofs.Grains.{grained-weigh}
use Rattle.steps.specs.declared.Ends.{Ends}
use Rattle.steps.specs.declared.Window.{Window}
use Rattle.steps.specs.Inside.{frame_at}
use Rattle.searching.specs.Inside.{Way, rules_of, node_seen, Pays, Fit}

-- the first node's weight, and those of the others
pub grained-split : (G : ℕ) (F : Forest ℕ) → weigh (grained G F) ≡ weight_of F + weigh (grained G (rest_of F))
grained-split G F = grained-weigh G F ∙ weigh-split F ∙ ap (λ (n : ℕ). weight_of F + n) (sym (grained-weigh G (rest_of F)))

module _ (g : Way) where
  pub fit-rest : (v : Ends) (k : Kind) (F : Forest ℕ) → Fit g v k F → Fit g v k (rest_of F)
  unfolding Fit
  fit-rest v k end f = tt
  fit-rest v k (leaf n w h rest) f = f.3
  fit-rest v k (inner n w j under rest) f = f.5

  pub fit-weight : (v : Ends) (k : Kind) (F : Forest ℕ) → is_end F ≡ false → Fit g v k F → Pays k (weight_of F)
  unfolding Fit
  fit-weight v k end q f = absurd (true-ne-false q)
  fit-weight v k (leaf n w h rest) q f = f.0
  fit-weight v k (inner n w j under rest) q f = f.0

  pub fit-sound : (v : Ends) → v.bottom ≤ v.top → (k : Kind) (F : Forest ℕ) → is_end F ≡ false → Fit g v k F
      → Sound (framed v.bottom v.top (grained g.rule.grain F)) k (grained g.rule.grain F)
  fit-sound v o MAX F q f = record { ends = o; paid = tt; weighed = tt }
  fit-sound v o MIN F q f = record { ends = o; paid = tt; weighed = tt }
  fit-sound v o CHANCE F q f = record { ends = o; paid = omega (arith, grained-split g.rule.grain F, fit-weight v CHANCE F q f refl); weighed = refl }

  -- whatever the parent's total N
  fit-within : (v : Ends) (left N : ℕ) (k : Kind) (F : Forest ℕ) → Fit g v k F → Within (rules_of g left).frame (frame_at v N) (grained g.rule.grain F)
  unfolding Fit grained
  fit-within v left N k end f = tt
  fit-within v left N k (leaf n w h rest) f = (f.1, f.2, fit-within v left N k rest f.3)
  fit-within v left N k (inner n w j under rest) f =
      let x = f.3 in
      let u : Ends = g.own n in
      (x.bottom, x.top, fit-sound u x.order j under f.1 f.4, fit-within u left _ j under f.4, fit-within v left N k rest f.5)

  -- what the first node gives lies between its parent's ends
  pub node-between : (v : Ends) (left N : ℕ) (k : Kind) (F : Forest ℕ) (y : Window) → is_end F ≡ false → Fit g v k F → Between (frame_at v N) (node_seen g v left F y)
  unfolding Fit
  node-between v left N k end y q f = absurd (true-ne-false q)
  node-between v left N k (leaf n w h rest) y q f =
      let x : ℕ = h * g.rule.grain in
      between-met (rules_of g left) (frame_at v 0) [] (point n x []) (between-point (frame_at v 0) n x [] f.1 f.2)
  node-between v left N k (inner n w j under rest) y q f =
      let R : Rules ℕ = rules_of g left in
      let x = f.3 in
      let u : Ends = g.own n in
      let b : Forest ℕ = grained g.rule.grain under in
      let d : Frame ℕ = framed u.bottom u.top b in
      let r : Seen ℕ = scan_sums height_sums natural R d j b (keep height_sums d j (begin d j y.alpha y.beta [])) in
      between-under (frame_at v N) d (met R d [] r) x.bottom x.top
      (between-met R d [] r (between R d j b y.alpha y.beta [] (fit-sound u x.order j under f.1 f.4) (fit-within u left d.total j under f.4)))
