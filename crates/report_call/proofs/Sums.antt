-- The totals with one entry more.
use Prim.Native.Nat.{ℕ, ◌+◌}
use mathlib.Core.Path.{◌≡◌, sym, ap, ap₂, ◌∙◌}
use mathlib.Core.List.{List, [], ◌∷◌, ◌++◌}
use native.Mathlib.Omega.{arith}
use lib.ListN.{length, length-append}
use Rattle.report.specs.declared.Row.{Row}
use Rattle.report.specs.declared.Tally.{Tally}
use Rattle.report.specs.declared.Totals.{Totals}
use Rattle.report.specs.Report.{counts, total_of, tally_of, totals_of}
use Rattle.report_call.specs.Inside.{with_loss, with_row}

module _ (side : ℕ) (r : Row) where
  total-more : (n : ℕ → ℕ) (rs : List Row) → total_of side n (rs ++ (r ∷ [])) ≡ total_of side n rs + counts side n r.kind r.loss
  unfolding total_of
  total-more n [] = omega arith
  total-more n (x ∷ xs) = omega (arith, total-more n xs)

  tally-more : (rs : List Row) → with_loss (tally_of side rs) side r.kind r.loss ≡ tally_of side (rs ++ (r ∷ []))
  tally-more rs =
      ap₂ (λ (x y : ℕ). record { decisions = x; sum = y }) (sym (total-more (λ x. 1) rs)) (sym (total-more (λ x. x) rs))

pub totals-more : (rs : List Row) (r : Row) → with_row (totals_of rs) r ≡ totals_of (rs ++ (r ∷ []))
totals-more rs r =
    ap (λ (n : ℕ). record { positions = n; max = with_loss (tally_of 1 rs) 1 r.kind r.loss; min = with_loss (tally_of 2 rs) 2 r.kind r.loss })
    (sym (length-append rs (r ∷ [])))
    ∙ ap₂ (λ (x y : Tally). record { positions = length (rs ++ (r ∷ [])); max = x; min = y }) (tally-more 1 r rs) (tally-more 2 r rs)

-- the totals of no entries
pub no-totals : (t : Totals)
    → (t.positions ≡ 0) × (((t.max.decisions ≡ 0) × (t.max.sum ≡ 0)) × ((t.min.decisions ≡ 0) × (t.min.sum ≡ 0))) → t ≡ totals_of []
unfolding total_of
no-totals t h = all t.positions t.max.decisions t.max.sum t.min.decisions t.min.sum h.0 h.1.0.0 h.1.0.1 h.1.1.0 h.1.1.1
  where
    all : (n d s e u : ℕ) → n ≡ 0 → d ≡ 0 → s ≡ 0 → e ≡ 0 → u ≡ 0
        → ◌≡◌ {A = Totals} (record { positions = n; max = record { decisions = d; sum = s }; min = record { decisions = e; sum = u } }) (totals_of [])
    all n d s e u p q r x y = rw (p, q, r, x, y)
