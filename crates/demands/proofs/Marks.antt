-- The marking scales, over losses and at the public call.
use Rattle.std.proofs.Common.{None, Option, Result, Some}
use Rattle.line.specs.declared.Refusal.{Refusal}
use Prim.Native.Nat.{ℕ, ◌≤◌}
use mathlib.Core.Path.{◌≡◌, refl, sym, ap, ap₂, ◌∙◌}
use mathlib.Core.List.{List, [], ◌∷◌, map}
use native.Mathlib.Omega.{arith}
use lib.ListN.{get_elem?}
use lib.IntN.{ℤ, pos, negsuc}
use Rattle.judge.proofs.Shift.{mapped, entry-map}
use Rattle.report.specs.declared.Row.{Row}
use Rattle.report.specs.Report.{loss_code, losses_in}
use Rattle.mark.specs.declared.Mark.TheVariants.{NoMark, Doubtful, Error, Blunder}
use Rattle.mark.specs.declared.Marking.{Marking}
use Rattle.mark.specs.declared.Marking.TheVariants.{Printed, New}
use Rattle.mark.specs.Marks.{steps, printed_mark, new_mark, mark_by, mark_code, marks_in}
use Rattle.mark.proofs.Marks.{from-doubtful, from-error, from-blunder, below-doubtful, below-error, below-blunder, earlier-steps, choice-none}
use Rattle.report_call.specs.Call.{by_scale, filled, reported, report_answer, report_losses}
use Rattle.report_call.proofs.Answered.{report-twenty}
use Rattle.demands.specs.Marks.{BeginAt, PrintedSteps, NewSteps, mark_for, MarksFollow, SameOtherwise, NeverMilder, TwentyIs}

-- ---- where the marks of a scale begin

begin-at : (d e b : ℕ) → d ≤ e → e ≤ b → BeginAt (steps d e b) d e b
begin-at d e b p q = (
  λ loss. (from-doubtful d e b loss, below-doubtful d e b loss p q),
  λ loss. (from-error d e b loss, below-error d e b loss p q),
  λ loss. (from-blunder d e b loss, below-blunder d e b loss p q),
)

pub printed-steps : PrintedSteps
printed-steps = begin-at 40 80 160 (omega arith) (omega arith)

pub new-steps : NewSteps
new-steps = begin-at 20 50 100 (omega arith) (omega arith)

-- by computation, beside every step
printed-known : map printed_mark (39 ∷ 40 ∷ 79 ∷ 80 ∷ 159 ∷ 160 ∷ []) ≡ NoMark ∷ Doubtful ∷ Doubtful ∷ Error ∷ Error ∷ Blunder ∷ []
printed-known = refl

new-known : map new_mark (19 ∷ 20 ∷ 49 ∷ 50 ∷ 99 ∷ 100 ∷ []) ≡ NoMark ∷ Doubtful ∷ Doubtful ∷ Error ∷ Error ∷ Blunder ∷ []
new-known = refl

-- ---- at the call

mark-listed : (s : Marking) (l : Option ℕ) → mark_code s l ≡ mark_for (mark_by s) (loss_code l)
mark-listed s None = refl
mark-listed s (Some n) = refl

marks-listed : (s : Marking) (rs : List Row) → marks_in s rs ≡ map (mark_for (mark_by s)) (losses_in rs)
marks-listed s [] = refl
marks-listed s (r ∷ rs) = ap₂ ◌∷◌ (mark-listed s r.loss) (marks-listed s rs)

pub marks-follow : MarksFollow
marks-follow file room = (marks-listed Printed (filled (reported file (pos 1) room)), marks-listed New (filled (reported file (pos 2) room)))

pub same_otherwise : SameOtherwise
same_otherwise file room = (refl, refl, refl)

milder : (z : ℤ) → mark_for printed_mark z ≤ mark_for new_mark z
milder (pos n) = earlier-steps 40 80 160 20 50 100 n (omega arith) (omega arith) (omega arith)
milder (negsuc n) = omega arith

pub never-milder : NeverMilder
never-milder a b m n i j z p q = (
  mark_for printed_mark z,
  mark_for new_mark z,
  ap (λ (ms : List ℕ). get_elem? ms i) (marks-follow a m).0 ∙ entry-map (mark_for printed_mark) (report_losses a (pos 1) m) i
      ∙ ap (mapped (mark_for printed_mark)) p,
  ap (λ (ms : List ℕ). get_elem? ms j) (marks-follow b n).1 ∙ entry-map (mark_for new_mark) (report_losses b (pos 2) n) j
      ∙ ap (mapped (mark_for new_mark)) q,
  milder z,
)

pub twenty-is : TwentyIs
twenty-is file scale room = (
  λ o. ap (λ (c : Result Marking Refusal). report_answer (by_scale c (reported file (pos 1) room))) (sym (choice-none scale o.0 o.1)),
  λ k e. let h = report-twenty file room scale k e in ((h.0, h.1), h.2),
)
