-- A run of one line: its node is a leaf.
use Prim.Native.Nat.{ℕ, ◌+◌, ◌-◌, ◌*◌}
use mathlib.Core.Path.{◌≡◌, refl, sym, ap, subst, ◌∙◌}
use mathlib.Core.List.{List, [], ◌∷◌}
use native.Mathlib.Decide.{dec_le}
use native.Mathlib.Omega.{arith}
use lib.ListN.{get_or, take, drop}
use Rattle.table.specs.Tree.{MAX}
use Rattle.scale.specs.declared.Scale.{Scale}
use Rattle.worth.specs.Worth.{Share}
use Rattle.worth.specs.Inside.Heights.{tallest, height_value, height_shares}
use Rattle.worth.specs.Inside.{kind_in, Beside, ReadyRun}
use Rattle.worth.proofs.Run.{lays-none, Front, front}
use Rattle.worth.proofs.Shift.{Some, some-shares}

value-one : (x : Share ℕ) → x.worth ≡ height_value MAX (x ∷ [])
unfolding height_value tallest
value-one x = refl

module _ (S : Beside) (g : Scale) (c e : ℕ) (s : List ℕ) (one : c + 1 ≡ e) (R : ReadyRun S g MAX c e s) where
  first : Front S g c e s R.nodes
  first = front S g c e s R.nodes R.lays R.fits (omega arith) R.long R.room R.few R.scale

  -- an inner node has a child, whose line would be the second
  no-child : (kind_in (take 25 s) ≡ 0 → ⊥) → ⊥
  no-child z =
      let j : ℕ = get_or S.stops c 0 in
      let C = (first.child z).ready in
      let none = lays-none S g.grain (c + 1) j (take (25 * (j - (c + 1))) (drop 25 s)) C.nodes C.lays (omega (arith, first.within)) in
      subst Some none (some-shares g.grain C.nodes C.some)

  leafy : kind_in (take 25 s) ≡ 0
  leafy = elim (dec_le (kind_in (take 25 s)) 0) [ yes h ↦ omega arith | no h ↦ absurd (no-child (λ z. omega (arith, z))) ]

  pub lone-worth : (r : ℕ) → r ≡ get_or S.heights c 0 * g.grain → r ≡ height_value MAX (height_shares g.grain R.nodes)
  lone-worth r e' =
      let F = first in
      let G : ℕ = g.grain in
      let j : ℕ = get_or S.stops c 0 in
      let none = lays-none S G j e (drop (25 * (j - c)) s) F.rest F.lays (omega (arith, F.later)) in
      e' ∙ sym (F.leafy leafy) ∙ value-one F.share
      ∙ sym (ap (height_value MAX) (F.shares ∙ ap (λ (xs : List (Share ℕ)). F.share ∷ xs) none))
