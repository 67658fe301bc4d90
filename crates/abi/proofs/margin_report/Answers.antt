-- `abi::margin_report` meets its contract.
use Prim.Native.Nat.{ℕ}
use mathlib.Core.Path.{◌≡◌, sym, ap, subst, ◌∙◌}
use mathlib.Core.List.{List}
use lib.IntN.{ℤ}
use mir.Syntax.{w64}
use mir.Val.{to_z, of_z}
use mir.ValLaws.{to_z-of_z}
use Rattle.report_call.specs.Call.{room_in, report_call}
use Rattle.codes.specs.Inside.{SmallReported}
use Rattle.abi.proofs.Answers.{reported-small}
use Rattle.abi.proofs.margin_report.Goals as goal
use Rattle.abi.proofs.margin_report.Goals.{After-report, Start}

abbrev start_of : After-report → Start
start_of E = (goal.at.After-report E).Start

abbrev file-of : After-report → List ℕ
file-of E = (start_of E).args.file.now

abbrev room_of : After-report → ℕ
room_of E = let a = (start_of E).args in room_in a.kinds.now a.losses.now a.marks.now

-- the number is handed on as bits
scale-is : (E : After-report) → to_z w64 (of_z w64 (start_of E).args.scale) ≡ (start_of E).args.scale
scale-is E = to_z-of_z w64 (start_of E).args.scale (start_of E).ranges.scale

called : (E : After-report) → E.report.result ≡ report_call (file-of E) (start_of E).args.scale (room_of E)
called E = E.report.ensures.answers ∙ ap (λ (z : ℤ). report_call (file-of E) z (room_of E)) (scale-is E)

pub put_reported-requires : goal.put_reported-requires
put_reported-requires c =
    subst SmallReported (sym (called (goal.at.put_reported-requires c).After-report)) (reported-small (file-of (goal.at.put_reported-requires c).After-report) (start_of (goal.at.put_reported-requires c).After-report).args.scale (room_of (goal.at.put_reported-requires c).After-report))
