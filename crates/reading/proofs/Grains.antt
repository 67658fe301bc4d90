-- Sums that are totals, and the grain count from the uses of each. Document 02, Item 5.
use Prim.Native.Nat.{ℕ, ◌*◌, ◌^◌, ◌≤◌, ◌<◌}
use mathlib.Core.Path.{◌≡◌, refl, sym, ap, ◌∙◌}
use mathlib.Core.Bool.{Bool, true, false, not, ◌||◌, ◌&&◌}
use mathlib.Core.List.{List, [], ◌∷◌}
use native.Mathlib.Nat.{mul-one, mul-le-mul}
use mir.Syntax.{w64}
use mir.Val.{Fits}
use Rattle.numbers.proofs.Powers.{power_small}
use native.Mathlib.Omega.{arith}
use borrow.Author.Tests.{ne_eqb}
use lib.Dec.{eqb}
use Rattle.std.proofs.Common.{None}
use Rattle.line.specs.declared.Head.{Head}
use Rattle.line.specs.Line.{totals, among}
use Rattle.line.specs.Inside.{other}
use Rattle.line.proofs.Fine.{among-either}
use Rattle.table.specs.Tree.{Kind, Forest, is_chance, weigh, nodes_where, unbalanced, powers, uses, grain_of}
use Rattle.table.specs.Inside.{Slices, Spans}
use Rattle.table.specs.Accepted.{Balanced}
use Rattle.table.proofs.Totals.{uses-few, grain-one}
use Rattle.table.proofs.Accepted.{balanced}
use Rattle.runs.specs.Inside.{first_where, odd_at, Has}
use Rattle.runs.proofs.Scan.{first_of, scan, first-scan, spans-where, odd-tests}
use Rattle.reading.specs.Inside.{Summed}

-- ---- 9

neither : (a b : Bool) → (not a && not b) ≡ not (a || b)
neither true b = refl
neither false b = refl

module _ (h : Head) where
  abbrev T : ℕ
  T = h.total

  abbrev U : ℕ
  U = other h

  -- a sum that is neither total is none of them
  odd_is : (k : Kind) (n : ℕ) → (is_chance k && (not (eqb n T) && not (eqb n U))) ≡ (is_chance k && not (among n (totals h)))
  odd_is k n = ap (λ (b : Bool). is_chance k && b) (neither (eqb n T) (eqb n U) ∙ ap not (sym (among-either h n)))

  module _ (S : Slices) (n : ℕ) (small : n ≤ 1024) (F : Forest ℕ) (spans : Spans S 0 n F) where
    pub odd-scan : scan (odd_at S.kinds S.stops S.weights T U) 0 n ≡ unbalanced (totals h) F
    odd-scan =
        sym (spans-where S _ (odd_at S.kinds S.stops S.weights T U) n (odd-tests S T U n small) 0 n F (omega arith) spans)
        ∙ (λ i. nodes_where (λ (k : Kind) (f : Forest ℕ). odd_is k (weigh f) i) F)

    -- where no node is found
    pub odd-none : first_where (odd_at S.kinds S.stops S.weights T U) n ≡ None → Balanced (totals h) F
    odd-none l =
        balanced (totals h) F (sym odd-scan ∙ none (scan (odd_at S.kinds S.stops S.weights T U) 0 n) (sym (first-scan (odd_at S.kinds S.stops S.weights T U) n) ∙ l))
      where
        none : (xs : List ℕ) → first_of xs ≡ None → xs ≡ []
        none [] e = refl
        none (x ∷ xs) e = cc

-- ---- the grain count

pub power_fits : (b j : ℕ) → b ≤ 64 → j ≤ 4 → b ^ j < 18446744073709551616
power_fits b j h k = omega (arith, power_small b j h k)

pub powers-fit : (a i b j : ℕ) → a ≤ 64 → i ≤ 4 → b ≤ 64 → j ≤ 4 → Fits w64 (a ^ i * b ^ j)
powers-fit a i b j h k l m = omega (arith, mul-le-mul (power_small a i h k) (power_small b j l m))

module _ (h : Head) (ks ss ws : List ℕ) (n most : ℕ) (S : Summed ks ss ws n most (totals h)) where
  abbrev F : Forest ℕ
  F = S.counted.forest

  abbrev pub has_of : Has ks ss ws 0 n
  has_of = record { heights = S.counted.heights; forest = F; spans = S.counted.spans }

  pub grain-single : h.second ≡ 0 → h.total ^ most ≡ grain_of (totals h) F
  grain-single z = ap (λ (k : ℕ). h.total ^ k) S.counted.deep ∙ sym (grain-one h F z S.balanced)

  pub grain-double : (h.second ≡ 0 → ⊥) → h.total ^ uses h.total F * h.second ^ uses h.second F ≡ grain_of (totals h) F
  unfolding powers
  grain-double z = rw (ne_eqb h.second 0 z, mul-one (h.second ^ uses h.second F)) refl

  -- no total has more than four uses
  pub four-uses : most ≤ 4 → (t : ℕ) → uses t F ≤ 4
  four-uses few t = omega (arith, uses-few t F, S.counted.deep)
