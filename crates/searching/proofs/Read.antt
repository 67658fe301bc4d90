-- A node's numbers as the code reads them.
use Rattle.std.proofs.Common.{ℕ, ◌≡◌, sym, ap, ◌∙◌, List, get_or, refl}
use Rattle.std.proofs.Math.ListN.{get_or-map}
use Rattle.line.specs.Line.{code}
use Rattle.line.specs.declared.Kind.{Kind}
use Rattle.line.specs.declared.Kind.TheVariants.{Leaf, Max, Min, Chance}
use Rattle.table.specs.declared.Node.{Node}
use Rattle.table.specs.Nodes.{kinds_in, stops_in, weights_in}

abbrev none : Node
none = record { kind = Leaf; stop = 0; weight = 0; height = 0 }

inner : (k : Kind) → (k ≡ Leaf → ⊥) → code k ≡ 0 → ⊥
inner Leaf p z = p refl
inner Max p z = cc
inner Min p z = cc
inner Chance p z = cc

chance : (k : Kind) → (k ≡ Leaf → ⊥) → (k ≡ Max → ⊥) → (k ≡ Min → ⊥) → k ≡ Chance
chance Leaf p q r = absurd (p refl)
chance Max p q r = absurd (q refl)
chance Min p q r = absurd (r refl)
chance Chance p q r = refl

module _ (ns : List Node) (i : ℕ) where
  pub stop_at : {x : ℕ} → x ≡ (get_or ns i none).stop → x ≡ get_or (stops_in ns) i 0
  stop_at p = p ∙ sym (get_or-map (λ (n : Node). n.stop) ns i none)

  pub weight_at : {x : ℕ} → x ≡ (get_or ns i none).weight → x ≡ get_or (weights_in ns) i 0
  weight_at p = p ∙ sym (get_or-map (λ (n : Node). n.weight) ns i none)

  pub kind_at : {k : Kind} → (get_or ns i none).kind ≡ k → get_or (kinds_in ns) i 0 ≡ code k
  kind_at p = get_or-map (λ (n : Node). code n.kind) ns i none ∙ ap code p

  pub inner_at : ((get_or ns i none).kind ≡ Leaf → ⊥) → get_or (kinds_in ns) i 0 ≡ 0 → ⊥
  inner_at p z = inner (get_or ns i none).kind p (sym (get_or-map (λ (n : Node). code n.kind) ns i none) ∙ z)

  pub chance_at : ((get_or ns i none).kind ≡ Leaf → ⊥) → ((get_or ns i none).kind ≡ Max → ⊥) → ((get_or ns i none).kind ≡ Min → ⊥) → get_or (kinds_in ns) i 0 ≡ 3
  chance_at p q r = kind_at (chance (get_or ns i none).kind p q r)
