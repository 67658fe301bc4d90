-- What the call `report` answers, and what it fills. Document 02, Items 1 and 11.
use Rattle.mark.specs.declared.Marking.{Marking}
use Rattle.line.specs.declared.Refusal.{Refusal}
use Rattle.report.specs.declared.Totals.{Totals}
use Rattle.report_call.specs.declared.Unreported.{Unreported}
use Rattle.std.specs.Prelude.{ℕ, min, cond, List, [], ltb, length, ℤ, Err, Ok, Result}
use Rattle.line.specs.declared.Refusal.TheVariants.{NoRoom}
use Rattle.line.specs.Refusal.{number_of, line_of}
use Rattle.report.specs.declared.Row.{Row}
use Rattle.report.specs.Report.{Outcome, stopped, rows, match_of, kinds_in, losses_in, totals_of}
use Rattle.mark.specs.Marks.{choice_of, marks_in}

-- ---- the refusals around those of the match

-- Item 11: "Refused: 20, another scale number, before all else, line 0, position 0"
abbrev pub by_scale : Result Marking Refusal → Outcome → Outcome
by_scale (Err r) o = stopped r 0
by_scale (Ok scale) o = o

-- "11, a list with fewer entries than positions, comes last. A refusal of no one position has position 0": `room` is how many entries there is
-- room for
abbrev pub fit : (room : ℕ) → Outcome → Outcome
fit room (stopped r k) = stopped r k
fit room (rows rs) = cond (ltb room (length rs)) (stopped NoRoom 0) (rows rs)

-- the room in the three lists that are lent: the shortest decides
abbrev pub room_in : (kinds : List ℕ) (losses : List ℤ) (marks : List ℕ) → ℕ
room_in kinds losses marks = min (min (length kinds) (length losses)) (length marks)

-- what a file gives by the scale of this number, with so much room
abbrev pub reported : List ℕ → (scale : ℤ) (room : ℕ) → Outcome
reported file scale room = by_scale (choice_of scale) (fit room (match_of file))

-- ---- the answer

-- "It returns the number of positions, and for M and N ..", or "that refusal with the position's number, from 1, and no totals"
abbrev pub report_answer : Outcome → Result Totals Unreported
report_answer (stopped r k) = Err (record { refusal = r; position = k })
report_answer (rows rs) = Ok (totals_of rs)

abbrev pub report_call : List ℕ → (scale : ℤ) (room : ℕ) → Result Totals Unreported
report_call file scale room = report_answer (reported file scale room)

-- the number, the line and the position of every answer, 0 where there is no refusal
abbrev pub report_number : Result Totals Unreported → ℕ
report_number (Ok t) = 0
report_number (Err u) = number_of u.refusal

abbrev pub report_line : Result Totals Unreported → ℕ
report_line (Ok t) = 0
report_line (Err u) = line_of u.refusal

abbrev pub report_position : Result Totals Unreported → ℕ
report_position (Ok t) = 0
report_position (Err u) = u.position

-- ---- the lists

-- "The report fills a lent list"; where it is refused, document 01: "A refused call leaves every lent list, store and text unchanged"
abbrev pub filled : Outcome → List Row
filled (stopped r k) = []
filled (rows rs) = rs

abbrev pub report_kinds : List ℕ → (scale : ℤ) (room : ℕ) → List ℕ
report_kinds file scale room = kinds_in (filled (reported file scale room))

abbrev pub report_losses : List ℕ → (scale : ℤ) (room : ℕ) → List ℤ
report_losses file scale room = losses_in (filled (reported file scale room))

-- Item 11: "and lists a mark with each loss"
abbrev pub marks_by : Result Marking Refusal → List Row → List ℕ
marks_by (Err r) rs = []
marks_by (Ok scale) rs = marks_in scale rs

abbrev pub report_marks : List ℕ → (scale : ℤ) (room : ℕ) → List ℕ
report_marks file scale room = marks_by (choice_of scale) (filled (reported file scale room))
