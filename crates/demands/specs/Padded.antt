-- Zero-padded tables. Document 02, Item 9, which is quoted: of a field, of every call over texts, of match files and of the margin program. What turning
-- writes is in Demands.antt (`TurningTwice`). proofs/Padded.antt has the theorems.
use Rattle.std.specs.Prelude.{ℕ, ◌≤◌, ◌≡◌, List, ◌∷◌, ◌++◌, take, replicate, ℤ, pos}
use Rattle.field.specs.Field.{strip, signed, field_of}
use Rattle.field.specs.Padding.{Pads}
use Rattle.field.specs.declared.Field.TheVariants.{Ill, Number}
use Rattle.line.specs.Refusal.{fine}
use Rattle.table.specs.Table.{Table, read_text, answer}
use Rattle.table.specs.Slices.{kinds_of, stops_of, weights_of, heights_of, decoded}
use Rattle.table.specs.Padding.{columns_of, SameText}
use Rattle.worth.specs.Call.{exact_call}
use Rattle.judge.specs.Call.{judge_call}
use Rattle.turn_call.specs.Call.{turn_call, turn_bytes}
use Rattle.search_call.specs.Call.{search_call, search_reads, within_call, within_reads}
use Rattle.index_call.specs.Call.{index_call, index_lows, index_highs, indexed_call, indexed_reads}
use Rattle.rolled.specs.Call.{roll_call, roll_reads, roll_store}
use Rattle.report.specs.Padding.{SameMatch}
use Rattle.report_call.specs.Call.{report_call, report_kinds, report_losses, report_marks}
use Rattle.printing.specs.Program.{output_of}
use Rattle.printing.specs.Padding.{SameInput}

-- ---- a field

-- "Whoever reads a field gets the same number for every padding."
abbrev pub EveryPadding : Type 0
EveryPadding = (z : ℤ) (c : List ℕ) → Pads z c → signed (strip c) ≡ Number z

-- and the number of none but its paddings
abbrev pub OnlyPaddings : Type 0
OnlyPaddings = (s : List ℕ) (from width : ℕ) (z : ℤ) → width ≤ 15 → field_of s from width ≡ Number z → Pads z (columns_of s from width)

-- "minus with only zeros is still ill-written", with none too
abbrev pub MinusZeros : Type 0
MinusZeros = (blanks zeros : ℕ) → signed (strip (replicate blanks 32 ++ (45 ∷ replicate zeros 48))) ≡ Ill

-- "Only zeros in header columns 5-6 mean no second total, and T has columns 5-8."
abbrev pub ZerosNoSecond : Type 0
ZerosNoSecond =
    (s : List ℕ) (t : Table) → read_text s ≡ fine t → field_of (take 25 s) 4 2 ≡ Number (pos 0)
    → (t.head.second ≡ 0) × (field_of (take 25 s) 4 4 ≡ Number (pos t.head.total))

-- ---- a text

-- Texts that differ in padding alone are accepted as the same table, or refused alike; and texts that are accepted as one table differ in nothing else.
abbrev pub SameReading : Type 0
SameReading = (s u : List ℕ) → SameText s u → read_text s ≡ read_text u

abbrev pub OneTable : Type 0
OneTable = (s u : List ℕ) (t : Table) → read_text s ≡ fine t → read_text u ≡ fine t → SameText s u

-- So every call gives the same answer, the same refusal and the same entries of everything lent, whatever else it is given. The calls of C return and
-- write these in numbers.
pub record SameAnswers (s u : List ℕ) : Type 0 where
  pub read : answer (read_text s) ≡ answer (read_text u)
  pub kinds : decoded kinds_of (read_text s) ≡ decoded kinds_of (read_text u)
  pub stops : decoded stops_of (read_text s) ≡ decoded stops_of (read_text u)
  pub weights : decoded weights_of (read_text s) ≡ decoded weights_of (read_text u)
  pub heights : decoded heights_of (read_text s) ≡ decoded heights_of (read_text u)
  pub worth : exact_call (read_text s) ≡ exact_call (read_text u)
  pub judged : (i : ℤ) → judge_call (read_text s) i ≡ judge_call (read_text u) i
  pub turned : (room : ℕ) → (turn_call (read_text s) room ≡ turn_call (read_text u) room) × (turn_bytes (read_text s) room ≡ turn_bytes (read_text u) room)
  pub searched : (m : ℤ) (room : ℕ) → (search_call (read_text s) m room ≡ search_call (read_text u) m room) × (search_reads (read_text s) m room ≡ search_reads (read_text u) m room)
  pub within : (m b : ℤ) (room : ℕ) → (within_call (read_text s) m b room ≡ within_call (read_text u) m b room) × (within_reads (read_text s) m b room ≡ within_reads (read_text u) m b room)
  pub index : (room : ℕ)
      → (index_call (read_text s) room ≡ index_call (read_text u) room)
      × (index_lows (read_text s) room ≡ index_lows (read_text u) room)
      × (index_highs (read_text s) room ≡ index_highs (read_text u) room)
  pub indexed : (m : ℤ) (lows highs : List ℤ) (room : ℕ)
      → (indexed_call (read_text s) m lows highs room ≡ indexed_call (read_text u) m lows highs room)
      × (indexed_reads (read_text s) m lows highs room ≡ indexed_reads (read_text u) m lows highs room)
  pub rolled : (p : List ℕ) (list room : ℕ)
      → (roll_call (read_text s) p list room ≡ roll_call (read_text u) p list room)
      × (roll_reads (read_text s) p list room ≡ roll_reads (read_text u) p list room)
      × (roll_store (read_text s) p list room ≡ roll_store (read_text u) p list room)

abbrev pub EveryCall : Type 0
EveryCall = (s u : List ℕ) → SameText s u → SameAnswers s u

-- ---- a match file

pub record SameReport (a b : List ℕ) (scale : ℤ) (room : ℕ) : Type 0 where
  pub answers : report_call a scale room ≡ report_call b scale room
  pub kinds : report_kinds a scale room ≡ report_kinds b scale room
  pub losses : report_losses a scale room ≡ report_losses b scale room
  pub marks : report_marks a scale room ≡ report_marks b scale room

abbrev pub EveryReport : Type 0
EveryReport = (a b : List ℕ) → SameMatch a b → (scale : ℤ) (room : ℕ) → SameReport a b scale room

-- ---- an input of the margin program

abbrev pub EveryOutput : Type 0
EveryOutput = (a b : List ℕ) → SameInput a b → output_of a ≡ output_of b
