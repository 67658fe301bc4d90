-- What the call `turn_table` answers. Document 01, 'Judging and turning' and 'Refused tables and calls'; document 02, Item 9: "Turning writes blanks".
use Rattle.line.specs.declared.Refusal.{Refusal}
use Rattle.std.specs.Prelude.{ℕ, List, [], ◌∷◌, ltb, length, Err, Ok, Result}
use Rattle.line.specs.declared.Refusal.TheVariants.{NoRoom}
use Rattle.line.specs.Refusal.{Verdict, refused, fine, unless, next, number_of, line_of}
use Rattle.table.specs.Table.{Table}
use Rattle.turn.specs.Turn.{turned_text}

-- the turned table's text, for a buffer of so many bytes: after the table's refusals 11, "turned text longer than its buffer"
abbrev pub turn_of : Verdict Table → ℕ → Verdict (List ℕ)
turn_of v room =
    next v (λ (t : Table). unless (record { holds = ltb room (length (turned_text t)); gives = NoRoom } ∷ []) (turned_text t))

-- how many bytes are written
abbrev pub turn_answer : Verdict (List ℕ) → Result ℕ Refusal
turn_answer (refused r) = Err r
turn_answer (fine s) = Ok (length s)

-- the bytes at the start of the buffer; nothing is written where the call is refused
abbrev pub turn_written : Verdict (List ℕ) → List ℕ
turn_written (refused r) = []
turn_written (fine s) = s

abbrev pub turn_call : Verdict Table → ℕ → Result ℕ Refusal
turn_call v room = turn_answer (turn_of v room)

abbrev pub turn_bytes : Verdict Table → ℕ → List ℕ
turn_bytes v room = turn_written (turn_of v room)

-- document 01's number and line of every answer, 0 where there is no refusal
abbrev pub turned_number : Result ℕ Refusal → ℕ
turned_number (Ok n) = 0
turned_number (Err r) = number_of r

abbrev pub turned_line : Result ℕ Refusal → ℕ
turned_line (Ok n) = 0
turned_line (Err r) = line_of r
