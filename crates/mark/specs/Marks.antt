-- The marks that a report lists with its losses. Document 02, Item 11.
use Rattle.line.specs.declared.Refusal.{Refusal}
use Rattle.std.specs.Prelude.{ℕ, cond, List, map, leb, ℤ, pos, Err, None, Ok, Option, Result, Some}
use Rattle.numbers.specs.Integers.{eq_z}
use Rattle.line.specs.declared.Refusal.TheVariants.{BadScale}
use Rattle.report.specs.declared.Row.{Row}
use Rattle.mark.specs.declared.Mark.{Mark}
use Rattle.mark.specs.declared.Mark.TheVariants.{NoMark, Doubtful, Error, Blunder}
use Rattle.mark.specs.declared.Marking.{Marking}
use Rattle.mark.specs.declared.Marking.TheVariants.{Printed, New}

-- ---- the mark of a loss

-- "mark a loss from .. thousandths as doubtful, from .. as an error, from .. as a blunder", ""no mark" below the first step"
abbrev pub steps : (doubtful error blunder : ℕ) → (loss : ℕ) → Mark
steps doubtful error blunder loss = cond (leb blunder loss) Blunder (cond (leb error loss) Error (cond (leb doubtful loss) Doubtful NoMark))

-- "Books up to this year mark a loss from 40 thousandths as doubtful, from 80 as an error, from 160 as a blunder."
abbrev pub printed_mark : ℕ → Mark
printed_mark loss = steps 40 80 160 loss

-- "New books use 20, 50 and 100."
abbrev pub new_mark : ℕ → Mark
new_mark loss = steps 20 50 100 loss

abbrev pub mark_by : Marking → ℕ → Mark
mark_by Printed loss = printed_mark loss
mark_by New loss = new_mark loss

-- ---- the scale

-- "The report takes the scale's number, 1 or 2"; "books in print are made again with scale 1"; "20, another scale number"
abbrev pub choice_of : ℤ → Result Marking Refusal
choice_of number = cond (eq_z number (pos 1)) (Ok Printed) (cond (eq_z number (pos 2)) (Ok New) (Err BadScale))

-- ---- what is listed

-- a milder mark has the smaller number
abbrev pub mark_number : Mark → ℕ
mark_number NoMark = 1
mark_number Doubtful = 2
mark_number Error = 3
mark_number Blunder = 4

-- "lists a mark with each loss, .. and none for "no decision"": 0 is none
abbrev pub mark_code : Marking → Option ℕ → ℕ
mark_code scale None = 0
mark_code scale (Some loss) = mark_number (mark_by scale loss)

abbrev pub marks_in : Marking → List Row → List ℕ
marks_in scale rs = map (λ (r : Row). mark_code scale r.loss) rs
