-- Over heights: no child is better than an M or N node's worth, and some child is worth just that.
use Prim.Native.Nat.{ℕ, zero, suc, ◌≤◌, min, max}
use mathlib.Core.Path.{◌≡◌, refl}
use mathlib.Core.List.{List, [], ◌∷◌}
use mathlib.Core.Option.{some}
use native.Mathlib.Decide.{dec_le}
use native.Mathlib.Nat.{max-eq_left, max-eq_right, min-eq_left, min-eq_right}
use native.Mathlib.Omega.{arith}
use lib.ListN.{get_elem?}
use Rattle.table.specs.Tree.{Kind, MAX, MIN, CHANCE, Forest, end, leaf, inner}
use Rattle.table.specs.Accepted.{Filled}
use Rattle.table.specs.Root.{Side, AtM, AtN, nobody, to_play, side_of, root_of, children}
use Rattle.worth.specs.Worth.{Share}
use Rattle.worth.specs.Inside.Heights.{tallest, shortest, height_value, height_shares, first_height}
use Rattle.worth.proofs.Bounds.{Each}
use Rattle.worth.proofs.Shift.{Some, some-shares}
use Rattle.judge.specs.Inside.Heights.{height_loss, height_levels, Ahead}

-- where somebody is to play, it is not nobody
pub nobody-plays : (s : Side) → nobody ≡ to_play s → ⊥
nobody-plays s e = let z : ◌≡◌ {A = ℕ} 0 1 = cc in absurd (omega arith)

abbrev pub kind_at : Side → Kind
kind_at AtM = MAX
kind_at AtN = MIN

other-m : to_play AtM ≡ to_play AtN → ⊥
other-m e = let z : ◌≡◌ {A = ℕ} 0 1 = cc in absurd (omega arith)

other-n : to_play AtN ≡ to_play AtM → ⊥
other-n e = let z : ◌≡◌ {A = ℕ} 0 1 = cc in absurd (omega arith)

pub kind-side : (k : Kind) (s : Side) → side_of k ≡ to_play s → k ≡ kind_at s
kind-side MAX AtM e = refl
kind-side MAX AtN e = absurd (other-m e)
kind-side MIN AtM e = absurd (other-n e)
kind-side MIN AtN e = refl
kind-side CHANCE s e = absurd (nobody-plays s e)

-- ---- none is better

tallest-top : (b : ℕ) (xs : List (Share ℕ)) → tallest xs ≤ b → Each (λ (v : ℕ). v ≤ b) xs
unfolding tallest
tallest-top b [] h = tt
tallest-top b (x ∷ []) h = (h, tt)
tallest-top b (x ∷ y ∷ ys) h = (below x.worth (tallest (y ∷ ys)) h, tallest-top b (y ∷ ys) (below' x.worth (tallest (y ∷ ys)) h))
  where
    below : (m n : ℕ) → max m n ≤ b → m ≤ b
    below m n h = omega arith

    below' : (m n : ℕ) → max m n ≤ b → n ≤ b
    below' m n h = omega arith

shortest-bottom : (b : ℕ) (xs : List (Share ℕ)) → b ≤ shortest xs → Each (λ (v : ℕ). b ≤ v) xs
unfolding shortest
shortest-bottom b [] h = tt
shortest-bottom b (x ∷ []) h = (h, tt)
shortest-bottom b (x ∷ y ∷ ys) h = (over x.worth (shortest (y ∷ ys)) h, shortest-bottom b (y ∷ ys) (over' x.worth (shortest (y ∷ ys)) h))
  where
    over : (m n : ℕ) → b ≤ min m n → b ≤ m
    over m n h = omega arith

    over' : (m n : ℕ) → b ≤ min m n → b ≤ n
    over' m n h = omega arith

value-ahead : (s : Side) (xs : List (Share ℕ)) → Each (Ahead s (height_value (kind_at s) xs)) xs
unfolding height_value
value-ahead AtM xs = tallest-top (tallest xs) xs (omega arith)
value-ahead AtN xs = shortest-bottom (shortest xs) xs (omega arith)

-- ---- some is as good

-- an entry of worth v, and its place
pub record Met (xs : List (Share ℕ)) (v : ℕ) : Type 0 where
  pub place : ℕ
  pub share : Share ℕ
  pub there : get_elem? xs place ≡ some share
  pub worth : share.worth ≡ v

met-first : (x : Share ℕ) (xs : List (Share ℕ)) → Met (x ∷ xs) x.worth
met-first x xs = record { place = 0; share = x; there = refl; worth = refl }

met-later : (x : Share ℕ) (xs : List (Share ℕ)) (v : ℕ) → Met xs v → Met (x ∷ xs) v
met-later x xs v m = record { place = suc m.place; share = m.share; there = m.there; worth = m.worth }

tallest-met : (xs : List (Share ℕ)) → Some xs → Met xs (tallest xs)
unfolding tallest
tallest-met [] s = absurd s
tallest-met (x ∷ []) s = met-first x []
tallest-met (x ∷ y ∷ ys) s = go (tallest-met (y ∷ ys) tt)
  where
    go : Met (y ∷ ys) (tallest (y ∷ ys)) → Met (x ∷ y ∷ ys) (max x.worth (tallest (y ∷ ys)))
    go m = elim (dec_le x.worth (tallest (y ∷ ys))) [
      | yes h ↦ rw (max-eq_right h) (met-later x (y ∷ ys) (tallest (y ∷ ys)) m)
      | no h ↦ let l : tallest (y ∷ ys) ≤ x.worth = omega arith in rw (max-eq_left l) (met-first x (y ∷ ys))
    ]

shortest-met : (xs : List (Share ℕ)) → Some xs → Met xs (shortest xs)
unfolding shortest
shortest-met [] s = absurd s
shortest-met (x ∷ []) s = met-first x []
shortest-met (x ∷ y ∷ ys) s = go (shortest-met (y ∷ ys) tt)
  where
    go : Met (y ∷ ys) (shortest (y ∷ ys)) → Met (x ∷ y ∷ ys) (min x.worth (shortest (y ∷ ys)))
    go m = elim (dec_le x.worth (shortest (y ∷ ys))) [
      | yes h ↦ rw (min-eq_left h) (met-first x (y ∷ ys))
      | no h ↦ let l : shortest (y ∷ ys) ≤ x.worth = omega arith in rw (min-eq_right l) (met-later x (y ∷ ys) (shortest (y ∷ ys)) m)
    ]

value-met : (s : Side) (xs : List (Share ℕ)) → Some xs → Met xs (height_value (kind_at s) xs)
unfolding height_value
value-met AtM xs m = tallest-met xs m
value-met AtN xs m = shortest-met xs m

-- ---- losses

pub none-lost : (s : Side) (b v : ℕ) → v ≡ b → height_loss s b v ≡ 0
none-lost AtM b v e = omega arith
none-lost AtN b v e = omega arith

-- an entry as good as the best is level with it
pub met-level : (s : Side) (b k : ℕ) (xs : List (Share ℕ)) (x : Share ℕ)
    → get_elem? xs k ≡ some x → x.worth ≡ b → 1 ≤ height_levels s b xs
unfolding height_levels
met-level s b k [] x e w = let z : ◌≡◌ {A = ℕ} 0 1 = cc in absurd (omega arith)
met-level s b zero (y ∷ ys) x e w =
    let same : y ≡ x = cc in
    let none : height_loss s b y.worth ≡ 0 = none-lost s b y.worth (rw same w) in
    rw none (omega arith)
met-level s b (suc k) (y ∷ ys) x e w = omega (arith, met-level s b k ys x e w)

-- ---- the root

module _ (G : ℕ) where
  pub best-ahead : (s : Side) (F : Forest ℕ) → root_of F ≡ to_play s
      → Each (Ahead s (first_height (height_shares G F))) (height_shares G (children F))
  unfolding height_shares
  best-ahead s end e = absurd (nobody-plays s e)
  best-ahead s (leaf n w v rest) e = absurd (nobody-plays s e)
  best-ahead s (inner n w k under rest) e = rw (kind-side k s e) (value-ahead s (height_shares G under))

  pub best-met : (s : Side) (F : Forest ℕ) → Filled F → root_of F ≡ to_play s
      → Met (height_shares G (children F)) (first_height (height_shares G F))
  unfolding height_shares
  best-met s end f e = absurd (nobody-plays s e)
  best-met s (leaf n w v rest) f e = absurd (nobody-plays s e)
  best-met s (inner n w k under rest) f e =
      rw (kind-side k s e) (value-met s (height_shares G under) (some-shares G under f.0))
