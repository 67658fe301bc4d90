-- What the margin program prints, for every input. Document 01, 'The margin program'.
use Rattle.std.specs.Prelude.{ℕ, suc, ◌-◌, cond, List, [], ◌∷◌, ◌++◌, map, eqb, length, get_or, drop, replicate, ℤ, pos, negsuc}
use Rattle.std.proofs.Math.Option.{Option, none, some}
use Rattle.field.specs.declared.Field.{Field}
use Rattle.field.specs.declared.Field.TheVariants.{Blank, Ill, Number}
use Rattle.field.specs.Field.{field_of, text_of, justified}
use Rattle.line.specs.Refusal.{Verdict, refused, fine, number_of, line_of}
use Rattle.table.specs.Table.{tree, read_text, grain}
use Rattle.table.specs.Root.{children, nodes}
use Rattle.search.specs.Search.{node_of}
use Rattle.search_call.specs.Call.{Sought, sought}

-- ---- the input

-- "an ill-written margin line is refused 12, at 12's place in the sequence": it stands for the margin -1, which is refused there
abbrev pub margin_in : Field → ℤ
margin_in Blank = negsuc 0
margin_in Ill = negsuc 0
margin_in (Number z) = z

-- "a margin in 14 columns and a newline" (byte 10); a shorter input has no newline there
abbrev pub margin_of : List ℕ → ℤ
margin_of s = cond (eqb (get_or s 14 0) 10) (margin_in (field_of s 0 14)) (negsuc 0)

-- "The table is all after byte 15, and empty if the input is shorter"
abbrev pub table_of : List ℕ → List ℕ
table_of s = drop 15 s

-- ---- a line of the output

pub data Word : Type 0 where
  Low High Grain Play Leaves Leaf Refuse Line : Word

-- low, high, grain, play, leaves, leaf, refuse and line as bytes
abbrev pub spelled : Word → List ℕ
spelled Low = 108 ∷ 111 ∷ 119 ∷ []
spelled High = 104 ∷ 105 ∷ 103 ∷ 104 ∷ []
spelled Grain = 103 ∷ 114 ∷ 97 ∷ 105 ∷ 110 ∷ []
spelled Play = 112 ∷ 108 ∷ 97 ∷ 121 ∷ []
spelled Leaves = 108 ∷ 101 ∷ 97 ∷ 118 ∷ 101 ∷ 115 ∷ []
spelled Leaf = 108 ∷ 101 ∷ 97 ∷ 102 ∷ []
spelled Refuse = 114 ∷ 101 ∷ 102 ∷ 117 ∷ 115 ∷ 101 ∷ []
spelled Line = 108 ∷ 105 ∷ 110 ∷ 101 ∷ []

pub record WordLine : Type 0 where
  pub word : Word
  pub number : ℤ

-- "a word left-justified in 6 columns"
abbrev pub columns : Word → List ℕ
columns w = spelled w ++ replicate (6 - length (spelled w)) 32

-- "a number right-justified in 15", and the newline
abbrev pub row_of : List ℕ → ℤ → List ℕ
row_of word z = word ++ (justified 15 (text_of z) ++ (10 ∷ []))

unfoldable pub printed : List WordLine → List ℕ
printed [] = []
printed (r ∷ rs) = row_of (columns r.word) r.number ++ printed rs

-- ---- the output

-- how many of them stand up to n, with n: the place of n, from 1; a play is among the root's children (`play-numbered`)
unfoldable pub place : ℕ → List ℕ → ℕ
place n [] = 0
place n (m ∷ ms) = cond (eqb m n) 1 (suc (place n ms))

-- "plays count root children from 1, 0 means none"
abbrev pub play_number : Option ℕ → List ℕ → ℕ
play_number none ns = 0
play_number (some n) ns = place n ns

-- "one `leaf` line with a node number for each leaf read"
abbrev pub leaf_row : ℕ → WordLine
leaf_row n = record { word = Leaf; number = pos n }

-- "Output: .."; "A refusal prints two such lines, `refuse` and `line`"
abbrev pub rows_of : Verdict Sought → List WordLine
rows_of (refused r) = record { word = Refuse; number = pos (number_of r) } ∷ record { word = Line; number = pos (line_of r) } ∷ []
rows_of (fine s) =
    record { word = Low; number = s.seen.low }
    ∷ record { word = High; number = s.seen.high }
    ∷ record { word = Grain; number = pos (grain s.table) }
    ∷ record { word = Play; number = pos (play_number (node_of s.seen.play) (nodes (children (tree s.table)))) }
    ∷ record { word = Leaves; number = pos (length s.seen.read) }
    ∷ map leaf_row s.seen.read

-- the bytes that are printed for the input s; the leaf list has an entry for every node that a table can have
abbrev pub output_of : List ℕ → List ℕ
output_of s = printed (rows_of (sought (read_text (table_of s)) (margin_of s) 1024))
