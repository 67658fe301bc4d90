-- The turned text, line by line in a lent buffer: what the contracts cite. No promise of a public call names these.
use Rattle.std.specs.Prelude.{ℕ, zero, suc, cond, List, [], ◌++◌, take, drop, eqb, neg_ℤ}
use Rattle.field.specs.declared.Field.{Field}
use Rattle.field.specs.declared.Field.TheVariants.{Blank, Ill, Number}
use Rattle.line.specs.declared.Entry.{Entry}
use Rattle.line.specs.Line.{entry_of}
use Rattle.writing.specs.Inside.{entry_text, Roomy}

-- "M and N exchanged": M is 77, N is 78
abbrev pub turn_letter : ℕ → ℕ
turn_letter b = cond (eqb b 77) 78 (cond (eqb b 78) 77 b)

-- "utilities negated"
abbrev pub negated : Field → Field
negated Blank = Blank
negated Ill = Ill
negated (Number z) = Number (neg_ℤ z)

abbrev pub turn_entry : Entry → Entry
turn_entry e = record { number = e.number; letter = turn_letter e.letter; parent = e.parent; weight = e.weight; utility = negated e.utility }

-- ---- n node lines one after another, those of the text s

unfoldable pub turned_rows : ℕ → List ℕ → List ℕ
turned_rows zero s = []
turned_rows (suc n) s = entry_text (turn_entry (entry_of (take 25 s))) ++ turned_rows n (drop 25 s)

unfoldable pub RowsRoomy : ℕ → List ℕ → Type 0
RowsRoomy zero s = Unit {0}
RowsRoomy (suc n) s = Roomy (turn_entry (entry_of (take 25 s))) × RowsRoomy n (drop 25 s)
