-- Before the first walk, over heights: what holds of the bounds, the worths and the unread leaves of a table's tree.
use Prim.Native.Nat.{ℕ, suc, ◌+◌, ◌*◌, min, max, ◌≤◌, ◌<◌}
use mathlib.Core.Path.{◌≡◌, refl, sym, ap, ap₂, ◌∙◌}
use mathlib.Core.Bool.{Bool, false}
use mathlib.Core.List.{List, [], ◌∷◌, map}
use native.Mathlib.Nat.{mul-le-mul_right}
use native.Mathlib.Omega.{arith}
use borrow.Author.Tests.{lt-ltb}
use Rattle.line.proofs.Signs.{true-ne-false}
use Rattle.table.specs.Tree.{Kind, MAX, MIN, CHANCE, Forest, end, leaf, inner, is_end, is_chance}
use Rattle.table.specs.Leaves.{leaf_nodes}
use Rattle.table.specs.Accepted.{one, Proper, Filled}
use Rattle.worth.specs.Worth.{Share}
use Rattle.worth.specs.Inside.Heights.{tallest, shortest, height_value, height_shares}
use Rattle.search.specs.Inside.{grained}
use Rattle.rollout.specs.Inside.Heights.{natural}
use Rattle.rollout.specs.Inside.Sound.{SomeNode, Sound}
use Rattle.rollout.specs.Rollout.{fresh, lows, highs, joined, over}
use Rattle.rollout.proofs.Folds.{Beside, done, also, over-both}
use Rattle.rollout.proofs.Turns.{some-lows, some-highs}
use Rattle.rollout.proofs.Rolls.{exacts, unread}

-- ---- the bounds

joined_same : (c : ℕ) (k : Kind) (x y u v : ℕ) → x ≡ c → y ≡ c → joined natural k x y ≡ c
joined_same c MAX x y u v p q = omega arith
joined_same c MIN x y u v p q = omega arith
joined_same c CHANCE x y u v p q = omega arith

module _ (bottom top : ℕ) where
  same-lows : (F : Forest ℕ) → Beside (λ (x y : ℕ). x ≡ bottom) (lows (fresh bottom top F)) (lows (fresh bottom top F))
  unfolding fresh lows
  same-lows end = done
  same-lows (leaf n w v rest) = also refl (same-lows rest)
  same-lows (inner n w k under rest) = also refl (same-lows rest)

  same-highs : (F : Forest ℕ) → Beside (λ (x y : ℕ). x ≡ top) (highs (fresh bottom top F)) (highs (fresh bottom top F))
  unfolding fresh highs
  same-highs end = done
  same-highs (leaf n w v rest) = also refl (same-highs rest)
  same-highs (inner n w k under rest) = also refl (same-highs rest)

  over-low : (k : Kind) (F : Forest ℕ) → SomeNode (fresh bottom top F) → over natural k 0 (lows (fresh bottom top F)) ≡ bottom
  over-low k F s = over-both (λ (x y : ℕ). x ≡ bottom) k (joined_same bottom k) 0 0 (some-lows (fresh bottom top F) s) (same-lows F)

  over-high : (k : Kind) (F : Forest ℕ) → SomeNode (fresh bottom top F) → over natural k 0 (highs (fresh bottom top F)) ≡ top
  over-high k F s = over-both (λ (x y : ℕ). x ≡ top) k (joined_same top k) 0 0 (some-highs (fresh bottom top F) s) (same-highs F)

  pub fresh-some : (G : ℕ) (F : Forest ℕ) → is_end F ≡ false → SomeNode (fresh bottom top (grained G F))
  unfolding fresh grained
  fresh-some G end e = absurd (true-ne-false e)
  fresh-some G (leaf n w v rest) e = tt
  fresh-some G (inner n w k under rest) e = tt

module _ (T K S G : ℕ) where
  pub fresh-sound : (d c : ℕ) (u : Bool) (F : Forest ℕ) → Proper T K (λ (x : ℕ). x ≤ S) d c u F → Filled F
      → Sound (fresh 0 (S * G) (grained G F))
  unfolding fresh grained
  fresh-sound d c u end p f = tt
  fresh-sound d c u (leaf n w v rest) p f = (omega arith, mul-le-mul_right G p.1, fresh-sound d c u rest p.4 f)
  fresh-sound d c u (inner n w k under rest) p f =
      let s : SomeNode (fresh 0 (S * G) (grained G under)) = fresh-some 0 (S * G) G under f.0 in (
        s,
        sym (over-low 0 (S * G) k (grained G under) s),
        sym (over-high 0 (S * G) k (grained G under) s),
        fresh-sound (suc d) (c + one k) (is_chance k) under p.3 f.1,
        fresh-sound d c u rest p.4 f.2,
      )

-- ---- the worths

tallest-over : (xs : List (Share ℕ)) → over natural MAX 0 (map (λ (x : Share ℕ). x.worth) xs) ≡ tallest xs
unfolding over tallest
tallest-over [] = refl
tallest-over (x ∷ []) = refl
tallest-over (x ∷ y ∷ xs) = ap (max x.worth) (tallest-over (y ∷ xs))

shortest-over : (xs : List (Share ℕ)) → over natural MIN 0 (map (λ (x : Share ℕ). x.worth) xs) ≡ shortest xs
unfolding over shortest
shortest-over [] = refl
shortest-over (x ∷ []) = refl
shortest-over (x ∷ y ∷ xs) = ap (min x.worth) (shortest-over (y ∷ xs))

pub value-over : (c : ℕ) (k : Kind) (xs : List (Share ℕ)) → c + one k ≤ 0 → over natural k 0 (map (λ (x : Share ℕ). x.worth) xs) ≡ height_value k xs
unfolding height_value
value-over c MAX xs p = tallest-over xs
value-over c MIN xs p = shortest-over xs
value-over c CHANCE xs p = absurd (omega arith)

-- where there is no C
pub fresh-exacts : (T : ℕ) (ok : ℕ → Type 0) (G bottom top d c : ℕ) (u : Bool) (F : Forest ℕ) → Proper T 0 ok d c u F
    → exacts (fresh bottom top (grained G F)) ≡ map (λ (x : Share ℕ). x.worth) (height_shares G F)
unfolding fresh grained exacts height_shares
fresh-exacts T ok G b e d c u end p = refl
fresh-exacts T ok G b e d c u (leaf n w v rest) p = ap (λ (l : List ℕ). v * G ∷ l) (fresh-exacts T ok G b e d c u rest p.4)
fresh-exacts T ok G b e d c u (inner n w k under rest) p =
    ap₂ (λ (x : ℕ) (l : List ℕ). x ∷ l)
    (ap (over natural k 0) (fresh-exacts T ok G b e (suc d) (c + one k) (is_chance k) under p.3) ∙ value-over c k (height_shares G under) p.2)
    (fresh-exacts T ok G b e d c u rest p.4)

-- ---- the leaves

pub grained-nodes : (G : ℕ) (F : Forest ℕ) → leaf_nodes (grained G F) ≡ leaf_nodes F
unfolding grained leaf_nodes
grained-nodes G end = refl
grained-nodes G (leaf n w v rest) = ap (λ (l : List ℕ). n ∷ l) (grained-nodes G rest)
grained-nodes G (inner n w k under rest) = rw (grained-nodes G under, grained-nodes G rest)

-- at first every leaf is unread, unless the ends are equal
pub all-unread : (top : ℕ) (F : Forest ℕ) → 0 < top → unread (fresh 0 top F) ≡ leaf_nodes F
unfolding fresh unread leaf_nodes
all-unread top end o = refl
all-unread top (leaf n w v rest) o = rw (lt-ltb 0 top o) (ap (λ (l : List ℕ). n ∷ l) (all-unread top rest o))
all-unread top (inner n w k under rest) o = rw (all-unread top under o, all-unread top rest o)

pub none-unread : (F : Forest ℕ) → unread (fresh 0 0 F) ≡ []
unfolding fresh unread
none-unread end = refl
none-unread (leaf n w v rest) = none-unread rest
none-unread (inner n w k under rest) = rw (none-unread under, none-unread rest)
