-- The marking scales. Document 02, Item 11; over losses, and over files at the public call. proofs/Marks.antt has the theorems.
use Rattle.std.specs.Prelude.{ℕ, ◌≤◌, ◌<◌, ◌≡◌, List, map, ℤ, pos, negsuc, Err}
use Rattle.std.proofs.Math.Option.{some}
use Rattle.std.proofs.Math.ListN.{get_elem?}
use Rattle.line.specs.declared.Refusal.TheVariants.{BadScale}
use Rattle.mark.specs.declared.Mark.{Mark}
use Rattle.mark.specs.declared.Mark.TheVariants.{Doubtful, Error, Blunder}
use Rattle.mark.specs.Marks.{printed_mark, new_mark, mark_number}
use Rattle.report_call.specs.Call.{report_call, report_kinds, report_losses, report_marks}

-- ---- where the marks of a scale begin

-- from this loss on, in thousandths, the mark is m or a worse one, and below it a milder one
abbrev pub From : (ℕ → Mark) → Mark → (step : ℕ) → Type 0
From mark m step =
    (loss : ℕ) → (step ≤ loss → mark_number m ≤ mark_number (mark loss)) × (loss < step → mark_number (mark loss) < mark_number m)

abbrev pub BeginAt : (ℕ → Mark) → (doubtful error blunder : ℕ) → Type 0
BeginAt mark doubtful error blunder = From mark Doubtful doubtful × From mark Error error × From mark Blunder blunder

-- "Books up to this year mark a loss from 40 thousandths as doubtful, from 80 as an error, from 160 as a blunder."
abbrev pub PrintedSteps : Type 0
PrintedSteps = BeginAt printed_mark 40 80 160

-- "New books use 20, 50 and 100."
abbrev pub NewSteps : Type 0
NewSteps = BeginAt new_mark 20 50 100

-- ---- at the call

-- the number that belongs to a listed loss: its mark's, and 0 for "no decision", which is listed as -1
abbrev pub mark_for : (ℕ → Mark) → ℤ → ℕ
mark_for mark (pos loss) = mark_number (mark loss)
mark_for mark (negsuc n) = 0

-- "The report takes the scale's number, 1 or 2, and lists a mark with each loss, .. and none for "no decision"": by what stands in the lists
abbrev pub MarksFollow : Type 0
MarksFollow =
    (file : List ℕ) (room : ℕ)
    → (report_marks file (pos 1) room ≡ map (mark_for printed_mark) (report_losses file (pos 1) room))
    × (report_marks file (pos 2) room ≡ map (mark_for new_mark) (report_losses file (pos 2) room))

-- the two scales differ in nothing else
abbrev pub SameOtherwise : Type 0
SameOtherwise =
    (file : List ℕ) (room : ℕ)
    → (report_call file (pos 1) room ≡ report_call file (pos 2) room)
    × (report_kinds file (pos 1) room ≡ report_kinds file (pos 2) room)
    × (report_losses file (pos 1) room ≡ report_losses file (pos 2) room)

-- "For equal losses scale 2 never gives a milder mark than scale 1": where the i-th loss of one report is the j-th of another
abbrev pub NeverMilder : Type 0
NeverMilder =
    (a b : List ℕ) (m n i j : ℕ) (loss : ℤ) → get_elem? (report_losses a (pos 1) m) i ≡ some loss → get_elem? (report_losses b (pos 2) n) j ≡ some loss
    → (x y : ℕ) × (get_elem? (report_marks a (pos 1) m) i ≡ some x) × (get_elem? (report_marks b (pos 2) n) j ≡ some y) × (x ≤ y)

-- "another scale number"
abbrev pub OtherScale : ℤ → Type 0
OtherScale scale = (scale ≡ pos 1 → ⊥) × (scale ≡ pos 2 → ⊥)

-- "Refused: 20, another scale number, before all else, line 0, position 0": whatever the file and the room are; and 20 is given for nothing else
abbrev pub TwentyIs : Type 0
TwentyIs =
    (file : List ℕ) (scale : ℤ) (room : ℕ)
    → (OtherScale scale → report_call file scale room ≡ Err (record { refusal = BadScale; position = 0 }))
    × ((k : ℕ) → report_call file scale room ≡ Err (record { refusal = BadScale; position = k }) → OtherScale scale × (k ≡ 0))
