-- The turned table: the same position from the other side. Document 01, 'Judging and turning', last paragraph.
use Rattle.std.specs.Prelude.{ℕ, List, map, ℤ, neg_ℤ}
use Rattle.line.specs.declared.Head.{Head}
use Rattle.line.specs.declared.Kind.{Kind as LineKind}
use Rattle.line.specs.declared.Kind.TheVariants.{Leaf, Max, Min, Chance}
use Rattle.line.specs.declared.Line.{Line}
use Rattle.table.specs.Tree.{Kind, MAX, MIN, CHANCE, Forest, end, leaf, inner}
use Rattle.table.specs.Table.{Table}
use Rattle.writing.specs.Text.{table_text}

-- "M and N exchanged"
abbrev pub exchanged : LineKind → LineKind
exchanged Leaf = Leaf
exchanged Max = Min
exchanged Min = Max
exchanged Chance = Chance

-- "utilities negated", "all else is kept"
abbrev pub turn_line : Line → Line
turn_line l =
    record { node = l.node; kind = exchanged l.kind; parent = l.parent; weight = l.weight; utility = neg_ℤ l.utility; chances = l.chances }

-- "lowest end = minus the old highest, highest = minus the old lowest"; the totals are kept
abbrev pub turn_head : Head → Head
turn_head h = record { total = h.total; second = h.second; lowest = neg_ℤ h.highest; highest = neg_ℤ h.lowest }

abbrev pub turn_table : Table → Table
turn_table t = record { head = turn_head t.head; lines = map turn_line t.lines }

-- "Turning writes the table with M and N exchanged, utilities negated, ..": the turned table's text
abbrev pub turned_text : Table → List ℕ
turned_text t = table_text (turn_table t)

-- the same of the tree that the lines mean
abbrev pub turn_kind : Kind → Kind
turn_kind MAX = MIN
turn_kind MIN = MAX
turn_kind CHANCE = CHANCE

unfoldable pub turn_tree : Forest ℤ → Forest ℤ
turn_tree end = end
turn_tree (leaf n w u rest) = leaf n w (neg_ℤ u) (turn_tree rest)
turn_tree (inner n w k under rest) = inner n w (turn_kind k) (turn_tree under) (turn_tree rest)
