-- From child to child by the stops: the child of a number.
use Prim.Native.Nat.{ℕ, zero, suc, ◌-◌, ◌≤◌, ◌<◌}
use mathlib.Core.Path.{◌≡◌, refl, sym, ap, ◌∙◌}
use mathlib.Core.List.{List, [], ◌∷◌}
use mathlib.Core.Option.{Option, none, some}
use native.Mathlib.Omega.{arith}
use lib.ListN.{get_or, get_elem?}
use lib.IntN.{ℤ, pos, negsuc}
use Rattle.line.specs.Line.{to_nat}
use Rattle.table.specs.Root.{numbered}
use Rattle.judge.specs.Inside.{Chained, Chain}

module _ {A : Type 0} where
  -- `numbered` by a number that is not negative
  abbrev pub nth : ℕ → List A → Option A
  nth zero xs = none
  nth (suc k) xs = get_elem? xs k

  pub numbered-nth : (i : ℤ) (xs : List A) → numbered i xs ≡ nth (to_nat i) xs
  numbered-nth (pos zero) xs = refl
  numbered-nth (pos (suc k)) xs = refl
  numbered-nth (negsuc k) xs = refl

  nth-none : (k : ℕ) → nth k [] ≡ none
  nth-none zero = refl
  nth-none (suc k) = refl

  nth-later : (k : ℕ) (x : A) (xs : List A) → 1 ≤ k → (k ≡ 1 → ⊥) → nth k (x ∷ xs) ≡ nth (k - 1) xs
  nth-later zero x xs h j = absurd (omega arith)
  nth-later (suc zero) x xs h j = absurd (j refl)
  nth-later (suc (suc k)) x xs h j = let z : suc k ≡ suc (suc k) - 1 = omega arith in ap (λ (m : ℕ). nth m xs) z

pub chained-le : (S : List ℕ) (n i : ℕ) (ns : List ℕ) → Chained S n i ns → i ≤ n
chained-le S n i [] c = omega (arith, c)
chained-le S n i (m ∷ ms) c = omega (arith, c.1, chained-le S n (get_or S i 0) ms c.2)

-- the first node that is left
pub record Ahead (S : List ℕ) (n i : ℕ) (ns : List ℕ) : Type 0 where
  pub later : i < get_or S i 0
  pub within : get_or S i 0 ≤ n
  pub rest : List ℕ
  pub nodes : ns ≡ i ∷ rest
  pub chained : Chained S n (get_or S i 0) rest

ahead : (S : List ℕ) (n i : ℕ) (ns : List ℕ) → Chained S n i ns → i < n → Ahead S n i ns
ahead S n i [] c h = absurd (omega (arith, c))
ahead S n i (m ∷ ms) c h =
    record { later = c.1; within = chained-le S n (get_or S i 0) ms c.2; rest = ms; nodes = ap (λ (x : ℕ). x ∷ ms) c.0; chained = c.2 }

none_left : (S : List ℕ) (n i : ℕ) (ns : List ℕ) → Chained S n i ns → n ≤ i → ns ≡ []
none_left S n i [] c h = refl
none_left S n i (m ∷ ms) c h = absurd (omega (arith, c.1, chained-le S n (get_or S i 0) ms c.2))

-- at node i: number `left` from here on is number k of all
pub record Walking (S : List ℕ) (n k left i : ℕ) (ns : List ℕ) : Type 0 where
  pub rest : List ℕ
  pub chained : Chained S n i rest
  pub same : nth k ns ≡ nth left rest

module _ (S : List ℕ) (n k : ℕ) where
  abbrev pub WalkingAll : ℕ → ℕ → Type 0
  WalkingAll left i = (C : Chain S n) → Walking S n k left i C.nodes

  pub walk_start : (left : ℕ) → left ≡ k → WalkingAll left 1
  walk_start left e C = record { rest = C.nodes; chained = C.chained; same = ap (λ (m : ℕ). nth m C.nodes) (sym e) }

  module _ (left i : ℕ) (ns : List ℕ) (w : Walking S n k left i ns) where
    pub walk-on : i < n → Ahead S n i w.rest
    walk-on h = ahead S n i w.rest w.chained h

    pub walk_turn : (more j : ℕ) → i < n → 1 ≤ left → (left ≡ 1 → ⊥) → more ≡ left - 1 → j ≡ get_or S i 0 → Walking S n k more j ns
    walk_turn more j h l m e f =
        let a = walk-on h in
        rw (e, f)
        (record {
          rest = a.rest;
          chained = a.chained;
          same = w.same ∙ ap (nth left) a.nodes ∙ nth-later left i a.rest l m;
        })

    pub walk-found : i < n → left ≡ 1 → nth k ns ≡ some i
    walk-found h e =
        let a = walk-on h in
        w.same ∙ ap (nth left) a.nodes ∙ ap (λ (m : ℕ). nth m (i ∷ a.rest)) e

    pub walk_none : n ≤ i → nth k ns ≡ none
    walk_none h = w.same ∙ ap (nth left) (none_left S n i w.rest w.chained h) ∙ nth-none left
