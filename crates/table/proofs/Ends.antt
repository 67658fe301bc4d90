-- The ends of an accepted table: how far they are apart, in points and in grains.
use Prim.Native.Nat.{ℕ, ◌+◌, ◌*◌, ◌≤◌}
use mathlib.Core.Path.{◌≡◌, refl, sym, ap, ◌∙◌}
use mathlib.Core.Bool.{false}
use mathlib.Core.List.{List}
use native.Mathlib.Nat.{mul-le-mul}
use native.Mathlib.Omega.{arith}
use lib.IntN.{ℤ, pos, negsuc, nat_abs, ◌+ℤ◌, ◌-ℤ◌, ◌*ℤ◌}
use Rattle.numbers.proofs.Signs.{Is, plus, minus, parts, is-minus}
use Rattle.numbers.proofs.Above.{leaf-shift}
use Rattle.line.specs.declared.Head.{Head}
use Rattle.line.specs.Refusal.{fine}
use Rattle.line.specs.Line.{to_nat, Within}
use Rattle.table.specs.Tree.{Forest, end, leaf, inner, is_end}
use Rattle.table.specs.Table.{Table, read_text, grain}
use Rattle.table.specs.Accepted.{span, Rooted}
use Rattle.table.proofs.Heights.{above, height-back}
use Rattle.table.proofs.Accepted.{accepted-ranged, accepted-grain}

plus-abs : (z : ℤ) → plus z ≤ nat_abs z
plus-abs (pos n) = omega arith
plus-abs (negsuc n) = omega arith

minus-abs : (z : ℤ) → minus z ≤ nat_abs z
minus-abs (pos n) = omega arith
minus-abs (negsuc n) = omega arith

natural-le : (z : ℤ) (a b M : ℕ) → Is z a b → a ≤ M + b → to_nat z ≤ M
natural-le (pos n) a b M i h = omega arith
natural-le (negsuc n) a b M i h = omega arith

span-le : (lo hi : ℤ) → nat_abs lo ≤ 1000000 → nat_abs hi ≤ 1000000 → to_nat (hi -ℤ lo) ≤ 2000000
span-le lo hi e f =
    natural-le (hi -ℤ lo) (plus hi + minus lo) (minus hi + plus lo) 2000000 (is-minus hi lo (plus hi) (minus hi) (plus lo) (minus lo) (parts hi) (parts lo))
    (omega (arith, plus-abs hi, minus-abs lo))

pub accepted-span : (s : List ℕ) (t : Table) → read_text s ≡ fine t → span t.head ≤ 2000000
accepted-span s t h = span-le t.head.lowest t.head.highest (accepted-ranged s t h).lowest (accepted-ranged s t h).highest

pub rooted-some : (F : Forest ℕ) → Rooted F → is_end F ≡ false
rooted-some end r = absurd r
rooted-some (leaf n w v rest) r = refl
rooted-some (inner n w k under rest) r = refl

-- a utility in grains
pub utility-shift : (G : ℕ) (h : Head) (v : ℤ) → Within h v → v *ℤ pos G ≡ h.lowest *ℤ pos G +ℤ pos (above h.lowest v * G)
utility-shift G h v w =
    ap (λ (z : ℤ). z *ℤ pos G) (sym (height-back h.lowest v w.0)) ∙ leaf-shift h.lowest (above h.lowest v) G

module _ (s : List ℕ) (t : Table) (h : read_text s ≡ fine t) where
  pub span-grains : span t.head * grain t ≤ 2000000 * 16777216
  span-grains = mul-le-mul (accepted-span s t h) (accepted-grain s t h)

  -- the highest end in grains
  pub top : t.head.highest *ℤ pos (grain t) ≡ t.head.lowest *ℤ pos (grain t) +ℤ pos (span t.head * grain t)
  top =
      ap (λ (z : ℤ). z *ℤ pos (grain t)) (sym (height-back t.head.lowest t.head.highest (accepted-ranged s t h).order))
      ∙ leaf-shift t.head.lowest (span t.head) (grain t)
