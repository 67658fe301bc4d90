-- No bound is ever above the highest end, over heights: so every record fits its number.
use Prim.Native.Nat.{ℕ, suc, ◌+◌, ◌*◌, ◌≤◌, ◌<◌}
use mathlib.Core.Path.{◌≡◌}
use mathlib.Core.Bool.{Bool}
use mathlib.Core.List.{List}
use native.Mathlib.Decide.{dec_le}
use native.Mathlib.Nat.{mul-le-mul_right}
use native.Mathlib.Omega.{arith}
use Rattle.table.specs.Tree.{Kind, MAX, MIN, CHANCE, Forest, end, leaf, inner, is_chance}
use Rattle.table.specs.Accepted.{one, Proper}
use Rattle.table.proofs.Runs.{size, Numbered}
use Rattle.search.specs.Inside.{grained}
use Rattle.rollout.specs.Rollout.{Kept, none, tip, knot, fresh, lows, highs, joined}
use Rattle.rollout.specs.Inside.Heights.{natural}
use Rattle.rollout.proofs.Folds.{Beside, done, also, over-both}
use Rattle.rollout.proofs.Turns.{Turns, at-tip, at-knot, past-tip, past-knot, some-lows, some-highs, turns-some}
use Rattle.rollout.proofs.Rolls.{Rolls, still, again}
use Rattle.rolling.specs.Inside.Lists.{Store, low_at, high_at, keep}

module _ (S : ℕ) where
  abbrev pub Capped : Kept ℕ → Type 0
  Capped none = Unit {0}
  Capped (tip n v l h rest) = (v ≤ S) × (l ≤ S) × (h ≤ S) × Capped rest
  Capped (knot n k l h under rest) = (l ≤ S) × (h ≤ S) × Capped under × Capped rest

  joined-capped : (k : Kind) (x y u v : ℕ) → x ≤ S → y ≤ S → joined natural k x y ≤ S
  joined-capped MAX x y u v p q = omega arith
  joined-capped MIN x y u v p q = omega arith
  joined-capped CHANCE x y u v p q = omega arith

  lows-capped : (f : Kept ℕ) → Capped f → Beside (λ (x y : ℕ). x ≤ S) (lows f) (lows f)
  unfolding lows
  lows-capped none c = done
  lows-capped (tip n v l h rest) c = also c.1 (lows-capped rest c.3)
  lows-capped (knot n k l h under rest) c = also c.0 (lows-capped rest c.3)

  highs-capped : (f : Kept ℕ) → Capped f → Beside (λ (x y : ℕ). x ≤ S) (highs f) (highs f)
  unfolding highs
  highs-capped none c = done
  highs-capped (tip n v l h rest) c = also c.2 (highs-capped rest c.3)
  highs-capped (knot n k l h under rest) c = also c.1 (highs-capped rest c.3)

  turns-capped : {f f2 : Kept ℕ} {n : ℕ} → Turns f n f2 → Capped f → Capped f2
  turns-capped (at-tip o) c = (c.0, c.0, c.0, c.3)
  turns-capped (at-knot {l} {h} {k} {under2} t) c =
      let u : Capped under2 = turns-capped t c.2 in (
        over-both (λ (x y : ℕ). x ≤ S) k (joined-capped k) l l (some-lows under2 (turns-some t)) (lows-capped under2 u),
        over-both (λ (x y : ℕ). x ≤ S) k (joined-capped k) h h (some-highs under2 (turns-some t)) (highs-capped under2 u),
        u,
        c.3,
      )
  turns-capped (past-tip t) c = (c.0, c.1, c.2, turns-capped t c.3)
  turns-capped (past-knot t) c = (c.0, c.1, c.2, turns-capped t c.3)

  pub rolls-capped : {f f2 : Kept ℕ} {l : List ℕ} → Rolls f l f2 → Capped f → Capped f2
  rolls-capped still c = c
  rolls-capped (again t r) c = rolls-capped r (turns-capped t c)

  -- in the store
  pub capped_at : (G : ℕ) (F : Forest ℕ) (a : ℕ) (st : Store) → Numbered a F → Capped (keep G F st) → (i : ℕ) → a ≤ i → i < a + size F
      → (low_at st i ≤ S) × (high_at st i ≤ S)
  unfolding keep
  capped_at G end a st q c i o m = absurd (omega arith)
  capped_at G (leaf n w x rest) a st q c i o m = elim (dec_le (suc a) i) [
    | yes y ↦ capped_at G rest (suc a) st q.1 c.3 i y (omega arith)
    | no y ↦ let e : n ≡ i = omega (arith, q.0) in rw (← e) (c.1, c.2)
  ]
  capped_at G (inner n w k under rest) a st q c i o m = elim (dec_le (suc a) i) [
    | yes y ↦ elim (dec_le (suc a + size under) i) [
      | yes z ↦ capped_at G rest (suc a + size under) st q.2 c.3 i z (omega arith)
      | no z ↦ capped_at G under (suc a) st q.1 c.2 i y (omega arith)
    ]
    | no y ↦ let e : n ≡ i = omega (arith, q.0) in rw (← e) (c.0, c.1)
  ]

pub fresh-capped : (T K S G d c : ℕ) (u : Bool) (F : Forest ℕ) → Proper T K (λ (x : ℕ). x ≤ S) d c u F → Capped (S * G) (fresh 0 (S * G) (grained G F))
unfolding fresh grained
fresh-capped T K S G d c u end p = tt
fresh-capped T K S G d c u (leaf n w v rest) p = (mul-le-mul_right G p.1, omega arith, omega arith, fresh-capped T K S G d c u rest p.4)
fresh-capped T K S G d c u (inner n w k under rest) p =
    (omega arith, omega arith, fresh-capped T K S G (suc d) (c + one k) (is_chance k) under p.3, fresh-capped T K S G d c u rest p.4)
