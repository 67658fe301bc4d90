-- What an accepted table's tree of heights, in grains, has: every height within the ends, and weights of at least 1.
use Prim.Native.Nat.{ℕ, suc, ◌+◌, ◌*◌, ◌≤◌}
use mathlib.Core.Path.{◌≡◌, refl, ap, ap₂, ◌∙◌}
use mathlib.Core.Bool.{Bool, true}
use native.Mathlib.Nat.{mul-le-mul_right, le_refl}
use native.Mathlib.Omega.{arith}
use lib.IntN.{ℤ, pos, ◌*ℤ◌}
use Rattle.line.specs.declared.Head.{Head}
use Rattle.line.specs.Inside.{Weighs}
use Rattle.line.specs.Line.{Within as Between}
use Rattle.table.specs.Tree.{Kind, MAX, MIN, CHANCE, Forest, end, leaf, inner, is_end, is_chance, weigh, leaves}
use Rattle.table.specs.Accepted.{one, OkTotal, Filled, Totals, Proper, Rooted}
use Rattle.table.proofs.Heights.{above, map_forest}
use Rattle.table.proofs.Ends.{utility-shift}
use Rattle.search.specs.Search.{Frame, framed}
use Rattle.search.specs.Whole.{in_grains}
use Rattle.search.specs.Inside.{grained}
use Rattle.search.proofs.Heights.{Sound, Within, Pays, Positive, shift}

-- the ends 0 and S at every node
abbrev pub plain : ℕ → ℕ → Forest ℕ → Frame ℕ
plain S n f = framed 0 S f

pub grained-map : (G : ℕ) (f : Forest ℕ) → grained G f ≡ map_forest (λ (h : ℕ). h * G) f
unfolding grained
grained-map G end = refl
grained-map G (leaf n w h rest) = ap (leaf n w (h * G)) (grained-map G rest)
grained-map G (inner n w k under rest) = ap₂ (inner n w k) (grained-map G under) (grained-map G rest)

pub grained-weigh : (G : ℕ) (f : Forest ℕ) → weigh (grained G f) ≡ weigh f
unfolding grained weigh
grained-weigh G end = refl
grained-weigh G (leaf n w h rest) = ap (λ (x : ℕ). w + x) (grained-weigh G rest)
grained-weigh G (inner n w k under rest) = ap (λ (x : ℕ). w + x) (grained-weigh G rest)

pub grained-leaves : (G : ℕ) (f : Forest ℕ) → leaves (grained G f) ≡ leaves f
unfolding grained leaves
grained-leaves G end = refl
grained-leaves G (leaf n w h rest) = ap (λ (a : ℕ). 1 + a) (grained-leaves G rest)
grained-leaves G (inner n w k under rest) = ap₂ (λ (a b : ℕ). a + b) (grained-leaves G under) (grained-leaves G rest)

pub grains-map : (G : ℕ) (f : Forest ℤ) → in_grains G f ≡ map_forest (λ (z : ℤ). z *ℤ pos G) f
unfolding in_grains
grains-map G end = refl
grains-map G (leaf n w u rest) = ap (leaf n w (u *ℤ pos G)) (grains-map G rest)
grains-map G (inner n w k under rest) = ap₂ (inner n w k) (grains-map G under) (grains-map G rest)

-- grains change no leaf's place
pub grains-leaves : (G : ℕ) (f : Forest ℤ) → leaves (in_grains G f) ≡ leaves f
unfolding in_grains leaves
grains-leaves G end = refl
grains-leaves G (leaf n w u rest) = ap (λ (a : ℕ). 1 + a) (grains-leaves G rest)
grains-leaves G (inner n w k under rest) = ap₂ (λ (a b : ℕ). a + b) (grains-leaves G under) (grains-leaves G rest)

module _ (T S G : ℕ) where
  sound : (k : Kind) (f : Forest ℕ) → (is_chance k ≡ true → OkTotal (weigh f)) → Sound (framed 0 (S * G) (grained G f)) k (grained G f)
  sound MAX f b = record { ends = omega arith; paid = tt; weighed = tt }
  sound MIN f b = record { ends = omega arith; paid = tt; weighed = tt }
  sound CHANCE f b = record { ends = omega arith; paid = omega (arith, grained-weigh G f, (b refl).0); weighed = refl }

  pays : (k : Kind) (w : ℕ) → Weighs (is_chance k) T w → Pays k w
  pays MAX w h = tt
  pays MIN w h = tt
  pays CHANCE w h = h.0

  module _ (K : ℕ) where
    abbrev Ok : ℕ → Type 0
    Ok x = x ≤ S

    -- whatever the parent's total N
    pub within : (N d c : ℕ) (u : Bool) (f : Forest ℕ) → Proper T K Ok d c u f → Totals OkTotal f
        → Within (plain (S * G)) (record { bottom = 0; top = S * G; total = N }) (grained G f)
    unfolding grained
    within N d c u end p b = tt
    within N d c u (leaf n w h rest) p b = (omega arith, mul-le-mul_right G p.1, within N d c u rest p.4 b)
    within N d c u (inner n w k under rest) p b = (
      omega arith,
      le_refl (S * G),
      sound k under b.0,
      within (weigh (grained G under)) (suc d) (c + one k) (is_chance k) under p.3 b.1,
      within N d c u rest p.4 b.2,
    )

    pub positive : (d c : ℕ) (k : Kind) (f : Forest ℕ) → Proper T K Ok d c (is_chance k) f → Positive k (grained G f)
    unfolding grained
    positive d c k end p = tt
    positive d c k (leaf n w h rest) p = (pays k w p.0, positive d c k rest p.4)
    positive d c k (inner n w j under rest) p = (pays k w p.0, positive (suc d) (c + one j) j under p.3, positive d c k rest p.4)

-- leaves in grains, from the lowest end up
pub grains-shift : (T G K : ℕ) (h : Head) (d c : ℕ) (u : Bool) (f : Forest ℤ) → Proper T K (Between h) d c u f
    → in_grains G f ≡ shift (h.lowest *ℤ pos G) (grained G (map_forest (above h.lowest) f))
unfolding in_grains shift grained
grains-shift T G K h d c u end p = refl
grains-shift T G K h d c u (leaf n w v rest) p = rw (utility-shift G h v p.1, grains-shift T G K h d c u rest p.4) refl
grains-shift T G K h d c u (inner n w k under rest) p =
    rw (grains-shift T G K h (suc d) (c + one k) (is_chance k) under p.3, grains-shift T G K h d c u rest p.4) refl

-- grains change no node's place
pub grains-end : (G : ℕ) (f : Forest ℤ) → is_end (in_grains G f) ≡ is_end f
unfolding in_grains
grains-end G end = refl
grains-end G (leaf n w v rest) = refl
grains-end G (inner n w k under rest) = refl

pub grains-filled : (G : ℕ) (f : Forest ℤ) → Filled f → Filled (in_grains G f)
unfolding in_grains
grains-filled G end x = tt
grains-filled G (leaf n w v rest) x = grains-filled G rest x
grains-filled G (inner n w k under rest) x = (grains-end G under ∙ x.0, grains-filled G under x.1, grains-filled G rest x.2)

pub grains-rooted : (G : ℕ) (f : Forest ℤ) → Rooted f → Rooted (in_grains G f)
unfolding in_grains
grains-rooted G end x = x
grains-rooted G (leaf n w v rest) x = (x.0, x.1, ap (in_grains G) x.2)
grains-rooted G (inner n w k under rest) x = (x.0, x.1, ap (in_grains G) x.2)
