-- Demand 1: "A refused call changes no byte of the lists and stores it was lent." Each call's promise says what then stands in everything that it was
-- lent; this is that it is as it was, where the call is refused. A text is lent for reading alone. proofs/Untouched.antt has the theorems.
use Rattle.std.specs.Prelude.{ℕ, ◌+◌, ◌*◌, ◌≡◌, List, length, ℤ, Err}
use Rattle.line.specs.declared.Refusal.{Refusal}
use Rattle.line.specs.Refusal.{Verdict, number_of, line_of}
use Rattle.table.specs.Table.{Table, read_text, answer}
use Rattle.table.specs.Slices.{laid, fitted, kinds_of, stops_of, weights_of, heights_of, decoded}
use Rattle.worth.specs.Call.{exact_call}
use Rattle.judge.specs.Call.{judge_call}
use Rattle.turn_call.specs.Call.{turn_call, turn_bytes}
use Rattle.recipe_call.specs.Call.{recipe_call, recipe_bytes}
use Rattle.search_call.specs.Call.{search_call, search_reads, within_call, within_reads}
use Rattle.index_call.specs.Call.{index_call, index_lows, index_highs, indexed_call, indexed_reads, room_in as room_for_index}
use Rattle.index.specs.Index.{written}
use Rattle.rollout_call.specs.declared.Record.{Record}
use Rattle.rolled.specs.Call.{roll_call, roll_reads, roll_store}
use Rattle.rollout_call.specs.Records.{recorded}
use Rattle.report_call.specs.Call.{room_in, report_call, report_kinds, report_losses, report_marks}
use Rattle.codes.specs.Numbers.{read_code, numbers_of, worth_code, worth_numbers, judge_code, judge_numbers, search_code, search_numbers, roll_code, roll_numbers, turned_code, recipe_code, recipe_numbers, index_code, report_code, report_numbers, put}

-- ---- the calls of Rattle; the exact worth and the judgement are lent nothing but the text

-- the four slices that a table is decoded into
abbrev pub SlicesKept : Verdict Table → (kind stop weight height : List ℕ) → Type 0
SlicesKept v kind stop weight height =
    (fitted (decoded kinds_of v) kind ≡ kind)
    × (fitted (decoded stops_of v) stop ≡ stop)
    × (fitted (decoded weights_of v) weight ≡ weight)
    × (fitted (decoded heights_of v) height ≡ height)

abbrev pub ReadUntouched : Type 0
ReadUntouched =
    (s kind stop weight height : List ℕ) (r : Refusal) → answer (read_text s) ≡ Err r
    → SlicesKept (read_text s) kind stop weight height

abbrev pub SearchUntouched : Type 0
SearchUntouched =
    (s : List ℕ) (m : ℤ) (list : List ℕ) (r : Refusal) → search_call (read_text s) m (length list) ≡ Err r
    → laid (search_reads (read_text s) m (length list)) list ≡ list

-- the same within a budget (document 02, Item 3)
abbrev pub WithinUntouched : Type 0
WithinUntouched =
    (s : List ℕ) (m b : ℤ) (list : List ℕ) (r : Refusal) → within_call (read_text s) m b (length list) ≡ Err r
    → laid (within_reads (read_text s) m b (length list)) list ≡ list

abbrev pub TurnUntouched : Type 0
TurnUntouched =
    (s : List ℕ) (buffer : List ℕ) (r : Refusal) → turn_call (read_text s) (length buffer) ≡ Err r
    → laid (turn_bytes (read_text s) (length buffer)) buffer ≡ buffer

-- a recipe takes numbers alone (document 02, Item 7)
abbrev pub RecipeUntouched : Type 0
RecipeUntouched =
    (seed branching depth dice : ℤ) (buffer : List ℕ) (r : Refusal) → recipe_call seed branching depth dice (length buffer) ≡ Err r
    → laid (recipe_bytes seed branching depth dice (length buffer)) buffer ≡ buffer

abbrev pub RollUntouched : Type 0
RollUntouched =
    (s p list : List ℕ) (store : List Record) (r : Refusal) → roll_call (read_text s) p (length list) (length store) ≡ Err r
    → (laid (roll_reads (read_text s) p (length list) (length store)) list ≡ list)
    × (recorded (roll_store (read_text s) p (length list) (length store)) store ≡ store)

-- the two lists that an index is built in (document 02, Item 14)
abbrev pub IndexKept : (s : List ℕ) (lows highs : List ℤ) → Type 0
IndexKept s lows highs =
    let room = room_for_index lows highs in
    (written (index_lows (read_text s) room) lows ≡ lows) × (written (index_highs (read_text s) room) highs ≡ highs)

abbrev pub IndexUntouched : Type 0
IndexUntouched =
    (s : List ℕ) (lows highs : List ℤ) (r : Refusal) → index_call (read_text s) (room_for_index lows highs) ≡ Err r → IndexKept s lows highs

-- the search with an index, which is lent for reading alone
abbrev pub IndexedUntouched : Type 0
IndexedUntouched =
    (s : List ℕ) (m : ℤ) (lows highs : List ℤ) (list : List ℕ) (r : Refusal)
    → indexed_call (read_text s) m lows highs (length list) ≡ Err r
    → laid (indexed_reads (read_text s) m lows highs (length list)) list ≡ list

-- the three lists of a match report (document 02, Items 1 and 11)
abbrev pub ListsKept : (file : List ℕ) (scale : ℤ) (kinds : List ℕ) (losses : List ℤ) (marks : List ℕ) → Type 0
ListsKept file scale kinds losses marks =
    let room = room_in kinds losses marks in
    (laid (report_kinds file scale room) kinds ≡ kinds) × (laid (report_losses file scale room) losses ≡ losses) × (laid (report_marks file scale room) marks ≡ marks)

abbrev pub ReportUntouched : Type 0
ReportUntouched =
    (file : List ℕ) (scale : ℤ) (kinds : List ℕ) (losses : List ℤ) (marks : List ℕ) (r : Refusal) (k : ℕ)
    → report_call file scale (room_in kinds losses marks) ≡ Err (record { refusal = r; position = k }) → ListsKept file scale kinds losses marks

-- ---- the calls of the C interface, where the number that is returned is not 0

-- a number returned by a refused call
abbrev pub Refuses : ℕ → Type 0
Refuses code = code ≡ 0 → ⊥

-- that is every refused call: each but the report returns this number of its refusal
abbrev pub CodesRefuse : Type 0
CodesRefuse = (r : Refusal) → Refuses (100 * line_of r + number_of r)

-- and the report this
abbrev pub ReportCodesRefuse : Type 0
ReportCodesRefuse = (r : Refusal) (k : ℕ) → Refuses (report_code (Err (record { refusal = r; position = k })))

abbrev pub CReadUntouched : Type 0
CReadUntouched =
    (s : List ℕ) (numbers : List ℤ) (kind stop weight height : List ℕ) → Refuses (read_code (answer (read_text s)))
    → (put 0 (numbers_of (answer (read_text s))) numbers ≡ numbers)
    × SlicesKept (read_text s) kind stop weight height

abbrev pub CWorthUntouched : Type 0
CWorthUntouched =
    (s : List ℕ) (numbers : List ℤ) → Refuses (worth_code (exact_call (read_text s))) → put 0 (worth_numbers (exact_call (read_text s))) numbers ≡ numbers

abbrev pub CJudgeUntouched : Type 0
CJudgeUntouched =
    (s : List ℕ) (number : ℤ) (numbers : List ℕ) → Refuses (judge_code (judge_call (read_text s) number))
    → put 0 (judge_numbers (judge_call (read_text s) number)) numbers ≡ numbers

abbrev pub CSearchUntouched : Type 0
CSearchUntouched =
    (s : List ℕ) (m : ℤ) (list : List ℕ) (numbers : List ℤ) → Refuses (search_code (search_call (read_text s) m (length list)))
    → (put 0 (search_numbers (search_call (read_text s) m (length list))) numbers ≡ numbers)
    × (laid (search_reads (read_text s) m (length list)) list ≡ list)

abbrev pub CWithinUntouched : Type 0
CWithinUntouched =
    (s : List ℕ) (m b : ℤ) (list : List ℕ) (numbers : List ℤ) → Refuses (search_code (within_call (read_text s) m b (length list)))
    → (put 0 (search_numbers (within_call (read_text s) m b (length list))) numbers ≡ numbers)
    × (laid (within_reads (read_text s) m b (length list)) list ≡ list)

abbrev pub CIndexUntouched : Type 0
CIndexUntouched =
    (s : List ℕ) (lows highs : List ℤ) → Refuses (index_code (index_call (read_text s) (room_for_index lows highs))) → IndexKept s lows highs

abbrev pub CIndexedUntouched : Type 0
CIndexedUntouched =
    (s : List ℕ) (m : ℤ) (lows highs : List ℤ) (list : List ℕ) (numbers : List ℤ) → Refuses (search_code (indexed_call (read_text s) m lows highs (length list)))
    → (put 0 (search_numbers (indexed_call (read_text s) m lows highs (length list))) numbers ≡ numbers)
    × (laid (indexed_reads (read_text s) m lows highs (length list)) list ≡ list)

abbrev pub CTurnUntouched : Type 0
CTurnUntouched =
    (s buffer : List ℕ) → Refuses (turned_code (turn_call (read_text s) (length buffer))) → laid (turn_bytes (read_text s) (length buffer)) buffer ≡ buffer

abbrev pub CRecipeUntouched : Type 0
CRecipeUntouched =
    (seed branching depth dice : ℤ) (buffer : List ℕ) (numbers : List ℤ) → Refuses (recipe_code (recipe_call seed branching depth dice (length buffer)))
    → (put 0 (recipe_numbers (recipe_call seed branching depth dice (length buffer))) numbers ≡ numbers)
    × (laid (recipe_bytes seed branching depth dice (length buffer)) buffer ≡ buffer)

abbrev pub CRollUntouched : Type 0
CRollUntouched =
    (s p list : List ℕ) (store : List Record) (numbers : List ℤ) → Refuses (roll_code (roll_call (read_text s) p (length list) (length store)))
    → (put 0 (roll_numbers (roll_call (read_text s) p (length list) (length store))) numbers ≡ numbers)
    × (laid (roll_reads (read_text s) p (length list) (length store)) list ≡ list)
    × (recorded (roll_store (read_text s) p (length list) (length store)) store ≡ store)

abbrev pub CReportUntouched : Type 0
CReportUntouched =
    (file : List ℕ) (scale : ℤ) (kinds : List ℕ) (losses : List ℤ) (marks : List ℕ) (numbers : List ℤ)
    → Refuses (report_code (report_call file scale (room_in kinds losses marks)))
    → (put 0 (report_numbers (report_call file scale (room_in kinds losses marks))) numbers ≡ numbers) × ListsKept file scale kinds losses marks
