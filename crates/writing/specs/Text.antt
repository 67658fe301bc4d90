-- The blank-padded text of a table. Document 01, 'The table on paper'; of the totals document 02, Item 5; that "Turning writes blanks" Item 9.
use Rattle.std.specs.Prelude.{ℕ, cond, List, [], ◌∷◌, ◌++◌, length, replicate, eqb, ℤ, pos}
use Rattle.field.specs.Field.{text_of, justified}
use Rattle.line.specs.declared.Head.{Head}
use Rattle.line.specs.declared.Line.{Line}
use Rattle.line.specs.Line.{letter, is_leaf}
use Rattle.table.specs.Table.{Table}

-- "A number stands right-justified in its columns, blanks before it"
abbrev pub columns : ℕ → ℤ → List ℕ
columns width z = justified width (text_of z)

abbrev pub blank : ℕ → List ℕ
blank width = replicate width 32

-- "A line is 24 characters and a newline (byte 10)."
abbrev pub newline : List ℕ
newline = 10 ∷ []

-- "5-8 the total T"; a second total stands in "columns 5-6, blank so far", and the first "then has columns 7-8"
abbrev pub totals_text : Head → List ℕ
totals_text h = cond (eqb h.second 0) (columns 4 (pos h.total)) (columns 2 (pos h.second) ++ columns 2 (pos h.total))

-- "columns 1-4 count of nodes, .. 9-16 the lowest end, 17-24 the highest end"
abbrev pub header_text : Head → ℕ → List ℕ
header_text h n = columns 4 (pos n) ++ (totals_text h ++ (columns 8 h.lowest ++ (columns 8 h.highest ++ newline)))

-- "Only node 0, the root, has a blank parent."
abbrev pub parent_text : Line → List ℕ
parent_text l = cond (eqb l.node 0) (blank 5) (columns 5 (pos l.parent))

-- "A weight stands exactly on children of a C": the others have the weight 0, and weights are at least 1
abbrev pub weight_text : Line → List ℕ
weight_text l = cond (eqb l.weight 0) (blank 5) (columns 5 (pos l.weight))

-- "a utility exactly on an L"
abbrev pub utility_text : Line → List ℕ
utility_text l = cond (is_leaf l.kind) (columns 8 l.utility) (blank 8)

-- "1-4 node number, 5 blank, 6 kind, 7-11 parent, 12-16 weight, 17-24 utility"
abbrev pub line_text : Line → List ℕ
line_text l = columns 4 (pos l.node) ++ (32 ∷ letter l.kind ∷ (parent_text l ++ (weight_text l ++ (utility_text l ++ newline))))

unfoldable pub lines_text : List Line → List ℕ
lines_text [] = []
lines_text (l ∷ ls) = line_text l ++ lines_text ls

abbrev pub table_text : Table → List ℕ
table_text t = header_text t.head (length t.lines) ++ lines_text t.lines
