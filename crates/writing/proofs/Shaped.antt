-- What has the shape of a forest that keeps the rules keeps them too.
use Prim.Native.Nat.{ℕ, suc, ◌+◌}
use mathlib.Core.Path.{◌≡◌, refl, sym, ap, ap₂, ◌∙◌}
use mathlib.Core.Bool.{Bool, false}
use mathlib.Core.List.{List}
use native.Mathlib.Omega.{arith}
use lib.IntN.{ℤ}
use Rattle.line.specs.declared.Head.{Head}
use Rattle.line.specs.Line.{totals, among, larger, Within}
use Rattle.line.specs.Inside.{Ranged}
use Rattle.table.specs.Tree.{Kind, Forest, end, leaf, inner, is_chance, is_end, weigh, powers, uses, grain_of}
use Rattle.table.specs.Accepted.{one, Filled, Balanced, Proper, Rooted}
use Rattle.table.proofs.Runs.{size, Numbered}
use Rattle.writing.proofs.Reread.{Sound}

module _ (h g : Head) where
  -- the same nodes and weights, a C for a C alone, and leaf values within the ends of g where the old ones are within those of h
  pub data Shaped : Forest ℤ → Forest ℤ → Type 0 where
    shaped-end : Shaped end end
    shaped-leaf : {n w : ℕ} {v z : ℤ} {rest rest2 : Forest ℤ}
        → (Within h v → Within g z) → Shaped rest rest2 → Shaped (leaf n w v rest) (leaf n w z rest2)
    shaped-inner : {n w : ℕ} {k j : Kind} {under under2 rest rest2 : Forest ℤ}
        → is_chance j ≡ is_chance k → Shaped under under2 → Shaped rest rest2 → Shaped (inner n w k under rest) (inner n w j under2 rest2)

  -- ---- sums and grains

  weigh-shaped : {F G : Forest ℤ} → Shaped F G → weigh G ≡ weigh F
  unfolding weigh
  weigh-shaped shaped-end = refl
  weigh-shaped (shaped-leaf {w = w} q b) = ap (λ (x : ℕ). w + x) (weigh-shaped b)
  weigh-shaped (shaped-inner {w = w} e a b) = ap (λ (x : ℕ). w + x) (weigh-shaped b)

  uses-shaped : (t : ℕ) {F G : Forest ℤ} → Shaped F G → uses t G ≡ uses t F
  unfolding uses
  uses-shaped t shaped-end = refl
  uses-shaped t (shaped-leaf q b) = uses-shaped t b
  uses-shaped t (shaped-inner e a b) = rw (e, weigh-shaped a, uses-shaped t a, uses-shaped t b) refl

  grain-shaped : (ts : List ℕ) {F G : Forest ℤ} → Shaped F G → grain_of ts G ≡ grain_of ts F
  grain-shaped ts s i = powers ts (λ (t : ℕ). uses-shaped t s i)

  -- ---- the rules, one by one

  none-shaped : {G : Forest ℤ} → Shaped end G → G ≡ end
  none-shaped shaped-end = refl

  end-shaped : {F G : Forest ℤ} → Shaped F G → is_end G ≡ is_end F
  end-shaped shaped-end = refl
  end-shaped (shaped-leaf q b) = refl
  end-shaped (shaped-inner e a b) = refl

  size-shaped : {F G : Forest ℤ} → Shaped F G → size G ≡ size F
  size-shaped shaped-end = refl
  size-shaped (shaped-leaf q b) = ap suc (size-shaped b)
  size-shaped (shaped-inner e a b) = ap suc (ap₂ ◌+◌ (size-shaped a) (size-shaped b))

  numbered-shaped : (i : ℕ) {F G : Forest ℤ} → Shaped F G → Numbered i F → Numbered i G
  numbered-shaped i shaped-end N = tt
  numbered-shaped i (shaped-leaf q b) N = (N.0, numbered-shaped (suc i) b N.1)
  numbered-shaped i (shaped-inner {under = under} e a b) N =
      (N.0, numbered-shaped (suc i) a N.1, rw (size-shaped a) (numbered-shaped (suc i + size under) b N.2))

  rooted-shaped : {F G : Forest ℤ} → Shaped F G → Rooted F → Rooted G
  rooted-shaped shaped-end R = R
  rooted-shaped (shaped-leaf q b) R = (R.0, R.1, none-shaped (rw R.2 at b))
  rooted-shaped (shaped-inner e a b) R = (R.0, R.1, none-shaped (rw R.2 at b))

  filled-shaped : {F G : Forest ℤ} → Shaped F G → Filled F → Filled G
  filled-shaped shaped-end x = tt
  filled-shaped (shaped-leaf q b) x = filled-shaped b x
  filled-shaped (shaped-inner e a b) x = (end-shaped a ∙ x.0, filled-shaped a x.1, filled-shaped b x.2)

  balanced-shaped : (ts : List ℕ) {F G : Forest ℤ} → Shaped F G → Balanced ts F → Balanced ts G
  balanced-shaped ts shaped-end x = tt
  balanced-shaped ts (shaped-leaf q b) x = balanced-shaped ts b x
  balanced-shaped ts (shaped-inner e a b) x =
      (λ c. ap (λ (m : ℕ). among m ts) (weigh-shaped a) ∙ x.0 (sym e ∙ c), balanced-shaped ts a x.1, balanced-shaped ts b x.2)

  proper-shaped : (T K d c : ℕ) (u : Bool) {F G : Forest ℤ} → Shaped F G → Proper T K (Within h) d c u F → Proper T K (Within g) d c u G
  proper-shaped T K d c u shaped-end x = tt
  proper-shaped T K d c u (shaped-leaf q b) x = (x.0, q x.1, x.2, x.3, proper-shaped T K d c u b x.4)
  proper-shaped T K d c u (shaped-inner {k = k} e a b) x =
      rw e (x.0, x.1, x.2, proper-shaped T K (suc d) (c + one k) (is_chance k) a x.3, proper-shaped T K d c u b x.4)

  pub sound-shaped : Ranged g → totals g ≡ totals h → larger g ≡ larger h → {F G : Forest ℤ} → Shaped F G → Sound h F → Sound g G
  sound-shaped r t l s S =
      record {
        ranged = r;
        numbered = numbered-shaped 0 s S.numbered;
        rooted = rooted-shaped s S.rooted;
        filled = filled-shaped s S.filled;
        balanced = rw t (balanced-shaped (totals h) s S.balanced);
        proper = rw l (proper-shaped (larger h) 4 0 0 false s S.proper);
        few = omega (arith, size-shaped s, S.few);
        grains = rw t (omega (arith, grain-shaped (totals h) s, S.grains));
      }
