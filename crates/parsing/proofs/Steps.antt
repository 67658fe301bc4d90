-- The last of d steps of a path, where the steps stand in a slice, the root's first.
use Prim.Native.Nat.{ℕ, zero, suc, ◌-◌, ◌≤◌, ◌<◌}
use mathlib.Core.Path.{◌≡◌, refl, ap, sym, ◌∙◌}
use mathlib.Core.Bool.{true, false}
use mathlib.Core.List.{List, [], ◌∷◌, reverse}
use native.Mathlib.Omega.{arith}
use lib.ListN.{length, get_or, take}
use lib.Seq.{take-suc}
use lib.IntN.{ℤ, pos, negsuc, nat_abs}
use lib.Signed.{le_z}
use borrow.Author.Tests.{eq-eqb, ne_eqb}
use Rattle.std.proofs.lemmas.List.{reverse-append, reverse-reverse, take-take}
use Rattle.line.specs.declared.Step.{Step}
use Rattle.field.specs.declared.Field.TheVariants.{Blank, Number}
use Rattle.line.specs.Line.{wrong, path, climb, ancestors, is_leaf}
use Rattle.line.proofs.Signs.{true-ne-false}
use Rattle.parsing.specs.Inside.{lowest}

last : (ss : List Step) (x : Step) (d : ℕ) → 0 < d → d ≤ length ss
    → reverse (take d ss) ≡ get_or ss (d - 1) x ∷ reverse (take (d - 1) ss)
last ss x zero l h = absurd (omega arith)
last ss x (suc d) l h =
    let s : suc d - 1 ≡ d = omega arith in
    rw s (ap reverse (take-suc ss d x h) ∙ reverse-append (take d ss) (get_or ss d x ∷ []))

pub lowest-taken : (ss : List Step) (d n : ℕ) → d ≤ n → lowest d (reverse (take n ss)) ≡ reverse (take d ss)
lowest-taken ss d n h = rw (reverse-reverse (take n ss), take-take d n ss h)

module _ (p : ℕ) (ss : List Step) (x : Step) (d : ℕ) (l : 0 < d) (h : d ≤ length ss) where
  pub climb-leaf : (get_or ss (d - 1) x).node ≡ p → is_leaf (get_or ss (d - 1) x).kind ≡ true → climb p (reverse (take d ss)) ≡ wrong
  unfolding climb
  climb-leaf e k = rw (last ss x d l h) (simp (eq-eqb _ p e, k))

  pub climb-here : (get_or ss (d - 1) x).node ≡ p → is_leaf (get_or ss (d - 1) x).kind ≡ false
      → climb p (reverse (take d ss)) ≡ path (reverse (take d ss))
  unfolding climb
  climb-here e k = rw (last ss x d l h) (simp (eq-eqb _ p e, k))

  pub climb-on : ((get_or ss (d - 1) x).node ≡ p → ⊥) → climb p (reverse (take d ss)) ≡ climb p (reverse (take (d - 1) ss))
  unfolding climb
  climb-on e = rw (last ss x d l h) (simp (ne_eqb _ p e))

pub climb-none : (p d : ℕ) (ss : List Step) → d ≡ 0 → climb p (reverse (take d ss)) ≡ wrong
unfolding climb
climb-none p d ss e = rw e refl

-- a parent's field
pub above-filled : (P : List Step) → (length P ≡ 0 → ⊥) → wrong ≡ ancestors Blank P
above-filled [] n = absurd (n refl)
above-filled (s ∷ P) n = refl

pub above-number : (z : ℤ) (P : List Step) → le_z (pos 0) z ≡ true → climb (nat_abs z) P ≡ ancestors (Number z) P
unfolding climb
above-number (pos n) [] t = refl
above-number (pos n) (s ∷ P) t = refl
above-number (negsuc n) P t = absurd (true-ne-false (sym t))
