-- What the call answers of any file: a refusal's number, line and position, or totals that fit.
use Rattle.std.proofs.Common.{Err, Ok, Result, sym, ap}
use Rattle.mark.specs.declared.Marking.{Marking}
use Rattle.report_call.specs.declared.Unreported.{Unreported}
use Prim.Native.Nat.{ℕ, ◌≤◌}
use mathlib.Core.Path.{◌≡◌, refl, subst}
use mathlib.Core.Bool.{Bool, true, false, cond}
use mathlib.Core.List.{List}
use native.Mathlib.Omega.{arith}
use lib.Dec.{ltb}
use lib.ListN.{length}
use lib.IntN.{ℤ, pos}
use Rattle.line.specs.declared.Refusal.{Refusal}
use Rattle.line.specs.declared.Refusal.TheVariants.{NoRoom, BadScale}
use Rattle.line.specs.Refusal.{number_of, line_of}
use Rattle.report.specs.declared.Totals.{Totals}
use Rattle.report.specs.Report.{Outcome, stopped, rows, match_of}
use Rattle.report.specs.Inside.{SmallTotals}
use Rattle.report.proofs.Rows.{totals-small}
use Rattle.report.proofs.Refusals.{Named, match-refused, match-rows}
use Rattle.mark.proofs.Marks.{choices}
use Rattle.report_call.specs.Call.{by_scale, fit, report_answer, report_call}

-- by a scale that is known
abbrev Sized : Result Totals Unreported → Type 0
Sized (Err u) = (u.position ≤ 501) × Named 1024 u.refusal
Sized (Ok t) = SmallTotals t

-- by any scale
abbrev pub Coded : Result Totals Unreported → Type 0
Coded (Err u) = (u.position ≤ 501) × (2 ≤ number_of u.refusal) × (line_of u.refusal ≤ 1024)
Coded (Ok t) = Unit {0}

module _ (file : List ℕ) (room : ℕ) where
  known-sized : Sized (report_answer (fit room (match_of file)))
  known-sized = go (match_of file) refl
    where
      short : (o : Outcome) → Sized (report_answer o) → (b : Bool) → Sized (report_answer (cond b (stopped NoRoom 0) o))
      short o h true = (omega arith, (omega arith, omega arith, omega arith))
      short o h false = h

      go : (o : Outcome) → match_of file ≡ o → Sized (report_answer (fit room o))
      go (stopped r k) e = let h = match-refused file r k e in (h.1, h.2)
      go (rows rs) e = let h = match-rows file rs e in short (rows rs) (totals-small rs h.1 h.0) (ltb room (length rs))

  module _ (scale : ℤ) where
    -- any answer, by the choice of the scale
    answers : (P : Result Totals Unreported → Type 0) → (Sized (report_answer (fit room (match_of file))) → P (report_answer (fit room (match_of file))))
        → ((scale ≡ pos 1 → ⊥) → (scale ≡ pos 2 → ⊥) → P (Err (record { refusal = BadScale; position = 0 }))) → P (report_call file scale room)
    answers P known unknown =
        choices (λ (c : Result Marking Refusal). P (report_answer (by_scale c (fit room (match_of file))))) scale (λ e. known known-sized) (λ e. known known-sized) unknown

    -- "1 is not given here"; a line of at most 1,024, and a position of at most 501
    pub report-refused : (r : Refusal) (k : ℕ) → report_call file scale room ≡ Err (record { refusal = r; position = k }) → Coded (Err (record { refusal = r; position = k }))
    report-refused r k =
        answers (λ (a : Result Totals Unreported). a ≡ Err (record { refusal = r; position = k }) → Coded (Err (record { refusal = r; position = k })))
        (λ h e. let n = subst Sized e h in (n.0, n.1.0, n.1.2))
        (λ f g e. subst Coded e (omega arith, omega arith, omega arith))

    pub report-totals : (t : Totals) → report_call file scale room ≡ Ok t → SmallTotals t
    report-totals t =
        answers (λ (a : Result Totals Unreported). a ≡ Ok t → SmallTotals t) (λ h e. subst Sized e h)
        (λ f g e. let z : ◌≡◌ {A = ℕ} 0 1 = cc in absurd (omega arith))

    -- 20 is for another scale's number alone
    pub report-twenty : (k : ℕ) → report_call file scale room ≡ Err (record { refusal = BadScale; position = k }) → (scale ≡ pos 1 → ⊥) × (scale ≡ pos 2 → ⊥) × (k ≡ 0)
    report-twenty k =
        answers (λ (a : Result Totals Unreported). a ≡ Err (record { refusal = BadScale; position = k }) → (scale ≡ pos 1 → ⊥) × (scale ≡ pos 2 → ⊥) × (k ≡ 0))
        (λ h e. let n = subst Sized e h in absurd (omega (arith, n.1.1 (omega arith))))
        (λ f g e. let same : ◌≡◌ {A = Unreported} (record { refusal = BadScale; position = 0 }) (record { refusal = BadScale; position = k }) = cc in (f, g, sym (ap (λ (u : Unreported). u.position) same)))
