-- The worths of the root's children as a list of numbers: the best of them, and those level with it.
use Prim.Native.Nat.{ℕ, zero, suc, ◌+◌, ◌-◌, ◌≤◌, ◌<◌}
use mathlib.Core.Path.{◌≡◌, refl, sym, ap, ◌∙◌}
use mathlib.Core.List.{List, [], ◌∷◌}
use mathlib.Core.Option.{some}
use native.Mathlib.Omega.{arith}
use lib.ListN.{length, get_or, get_elem?}
use Rattle.std.specs.List.{fold}
use Rattle.std.proofs.lemmas.List.Elements.{All-nil, All-cons}
use Rattle.std.proofs.lemmas.List.Sums.{sum_by-cons}
use mathlib.Core.Bool.{cond}
use lib.Dec.{eqb}
use lib.IntN.{ℤ, pos, negsuc}
use Rattle.line.specs.Line.{to_nat}
use Rattle.table.specs.Tree.{Forest, end, leaf, inner}
use Rattle.table.specs.Accepted.{Filled}
use Rattle.table.specs.Root.{Side, AtM, AtN, to_play, root_of, children, numbered}
use Rattle.worth.specs.Worth.{Share}
use Rattle.worth.specs.Inside.Heights.{tallest, shortest, height_value, height_shares, first_height}
use Rattle.worth.proofs.Shift.{Some, some-shares}
use Rattle.worth.proofs.Bounds.{Each}
use Rattle.judge.specs.Inside.Heights.{height_loss, height_levels, Ahead}
use Rattle.judge.specs.Inside.{heights_in, better, best_in, AllAhead, levels_in}
use Rattle.judge.proofs.Best.{nobody-plays, kind_at, kind-side}

-- ---- of shares

-- the share of number z has its worth at this place
entry-worth : (k : ℕ) (xs : List (Share ℕ)) (x : Share ℕ) → get_elem? xs k ≡ some x → (k < length (heights_in xs)) × (get_or (heights_in xs) k 0 ≡ x.worth)
entry-worth k [] x e = let z : ◌≡◌ {A = ℕ} 0 1 = cc in absurd (omega arith)
entry-worth zero (y ∷ ys) x e = let same : y ≡ x = cc in (omega arith, ap (λ (v : Share ℕ). v.worth) same)
entry-worth (suc k) (y ∷ ys) x e = let r = entry-worth k ys x e in (omega (arith, r.0), r.1)

pub numbered-worth : (z : ℤ) (xs : List (Share ℕ)) (x : Share ℕ) → numbered z xs ≡ some x
    → (0 < to_nat z) × (to_nat z ≤ length (heights_in xs)) × (get_or (heights_in xs) (to_nat z - 1) 0 ≡ x.worth)
numbered-worth (pos zero) xs x e = let z : ◌≡◌ {A = ℕ} 0 1 = cc in absurd (omega arith)
numbered-worth (pos (suc k)) xs x e =
    let r = entry-worth k xs x e in
    let z : suc k - 1 ≡ k = omega arith in
    (omega arith, omega (arith, r.0), ap (λ (m : ℕ). get_or (heights_in xs) m 0) z ∙ r.1)
numbered-worth (negsuc k) xs x e = let z : ◌≡◌ {A = ℕ} 0 1 = cc in absurd (omega arith)

-- one child more
value-more : (s : Side) (x y : Share ℕ) (ys : List (Share ℕ))
    → height_value (kind_at s) (x ∷ y ∷ ys) ≡ better s x.worth (height_value (kind_at s) (y ∷ ys))
unfolding height_value tallest shortest
value-more AtM x y ys = refl
value-more AtN x y ys = refl

value-one : (s : Side) (x : Share ℕ) → height_value (kind_at s) (x ∷ []) ≡ x.worth
unfolding height_value tallest shortest
value-one AtM x = refl
value-one AtN x = refl

better-assoc : (s : Side) (a b c : ℕ) → better s (better s a b) c ≡ better s a (better s b c)
better-assoc AtM a b c = omega arith
better-assoc AtN a b c = omega arith

best-from : (s : Side) (a : ℕ) (x : Share ℕ) (xs : List (Share ℕ))
    → fold (better s) a (heights_in (x ∷ xs)) ≡ better s a (height_value (kind_at s) (x ∷ xs))
best-from s a x [] = ap (better s a) (sym (value-one s x))
best-from s a x (y ∷ ys) =
    best-from s (better s a x.worth) y ys ∙ better-assoc s a x.worth (height_value (kind_at s) (y ∷ ys))
    ∙ ap (better s a) (sym (value-more s x y ys))

best-value : (s : Side) (xs : List (Share ℕ)) → Some xs → best_in s (heights_in xs) ≡ height_value (kind_at s) xs
best-value s [] m = absurd m
best-value s (x ∷ []) m = sym (value-one s x)
best-value s (x ∷ y ∷ ys) m = best-from s x.worth y ys ∙ sym (value-more s x y ys)

module _ (G : ℕ) where
  -- an M or N node is worth the best of its children's worths
  pub best-root : (s : Side) (F : Forest ℕ) → Filled F → root_of F ≡ to_play s
      → best_in s (heights_in (height_shares G (children F))) ≡ first_height (height_shares G F)
  unfolding height_shares
  best-root s end f e = absurd (nobody-plays s e)
  best-root s (leaf n w v rest) f e = absurd (nobody-plays s e)
  best-root s (inner n w k under rest) f e =
      rw (kind-side k s e) (best-value s (height_shares G under) (some-shares G under f.0))

pub all-ahead : (s : Side) (best : ℕ) (xs : List (Share ℕ)) → Each (Ahead s best) xs → AllAhead s best (heights_in xs)
all-ahead s best [] e = All-nil (Ahead s best)
all-ahead s best (x ∷ xs) e = All-cons (Ahead s best) x.worth (heights_in xs) e.0 (all-ahead s best xs e.1)

pub levels-worths : (s : Side) (best : ℕ) (xs : List (Share ℕ)) → levels_in s best (heights_in xs) ≡ height_levels s best xs
unfolding height_levels
levels-worths s best [] = refl
levels-worths s best (x ∷ xs) =
    let one : ℕ → ℕ = λ h. cond (eqb (height_loss s best h) 0) 1 0 in
    sum_by-cons one x.worth (heights_in xs) ∙ ap (λ (k : ℕ). one x.worth + k) (levels-worths s best xs)
