-- Document 01's example of the margin program, and its refusals, by computation.
use Prim.Native.Nat.{ℕ}
use mathlib.Core.Path.{◌≡◌, refl}
use mathlib.Core.List.{List, [], ◌∷◌, ◌++◌}
use lib.ListN.{take, drop}
use Rattle.field.specs.Field.{strip, digits, whole as whole_field, signed, leading}
use Rattle.numbers.specs.Integers.{max_z, min_z, floor_z, ceil_z}
use Rattle.line.specs.Refusal.{unless, unless_at}
use Rattle.line.specs.Line.{climb, among}
use Rattle.table.specs.Tree.{run, after as after_run, forest, weigh, nodes_where, powers, uses, leaves}
use Rattle.table.specs.Examples.{table-b}
use Rattle.table.specs.Table.{node_lines, complete, read_text, greatest}
use Rattle.table.specs.Root.{nodes}
use Rattle.search.specs.Search.{begin, finish, cut, point, lower, upper, safer, update, stop, scan, search, search_root}
use Rattle.search.specs.Whole.{down_z, up_z, gain_z, loss_z, in_grains}
use Rattle.printing.specs.Program.{printed, place, output_of}

-- "            12"
abbrev margin-12 : List ℕ
margin-12 = 32 ∷ 32 ∷ 32 ∷ 32 ∷ 32 ∷ 32 ∷ 32 ∷ 32 ∷ 32 ∷ 32 ∷ 32 ∷ 32 ∷ 49 ∷ 50 ∷ 10 ∷ []

-- "            -1"
abbrev margin-below : List ℕ
margin-below = 32 ∷ 32 ∷ 32 ∷ 32 ∷ 32 ∷ 32 ∷ 32 ∷ 32 ∷ 32 ∷ 32 ∷ 32 ∷ 32 ∷ 45 ∷ 49 ∷ 10 ∷ []

-- "              "
abbrev margin-blank : List ℕ
margin-blank = 32 ∷ 32 ∷ 32 ∷ 32 ∷ 32 ∷ 32 ∷ 32 ∷ 32 ∷ 32 ∷ 32 ∷ 32 ∷ 32 ∷ 32 ∷ 32 ∷ 10 ∷ []

-- "40000000000001"
abbrev margin-large : List ℕ
margin-large = 52 ∷ 48 ∷ 48 ∷ 48 ∷ 48 ∷ 48 ∷ 48 ∷ 48 ∷ 48 ∷ 48 ∷ 48 ∷ 48 ∷ 48 ∷ 49 ∷ 10 ∷ []

-- "low                20"
abbrev low-line : List ℕ
low-line = 108 ∷ 111 ∷ 119 ∷ 32 ∷ 32 ∷ 32 ∷ 32 ∷ 32 ∷ 32 ∷ 32 ∷ 32 ∷ 32 ∷ 32 ∷ 32 ∷ 32 ∷ 32 ∷ 32 ∷ 32 ∷ 32 ∷ 50 ∷ 48 ∷ 10 ∷ []

-- "high               32"
abbrev high-line : List ℕ
high-line = 104 ∷ 105 ∷ 103 ∷ 104 ∷ 32 ∷ 32 ∷ 32 ∷ 32 ∷ 32 ∷ 32 ∷ 32 ∷ 32 ∷ 32 ∷ 32 ∷ 32 ∷ 32 ∷ 32 ∷ 32 ∷ 32 ∷ 51 ∷ 50 ∷ 10 ∷ []

-- "grain               4"
abbrev grain-line : List ℕ
grain-line = 103 ∷ 114 ∷ 97 ∷ 105 ∷ 110 ∷ 32 ∷ 32 ∷ 32 ∷ 32 ∷ 32 ∷ 32 ∷ 32 ∷ 32 ∷ 32 ∷ 32 ∷ 32 ∷ 32 ∷ 32 ∷ 32 ∷ 32 ∷ 52 ∷ 10 ∷ []

-- "play                1"
abbrev play-line : List ℕ
play-line = 112 ∷ 108 ∷ 97 ∷ 121 ∷ 32 ∷ 32 ∷ 32 ∷ 32 ∷ 32 ∷ 32 ∷ 32 ∷ 32 ∷ 32 ∷ 32 ∷ 32 ∷ 32 ∷ 32 ∷ 32 ∷ 32 ∷ 32 ∷ 49 ∷ 10 ∷ []

-- "leaves              1"
abbrev leaves-line : List ℕ
leaves-line = 108 ∷ 101 ∷ 97 ∷ 118 ∷ 101 ∷ 115 ∷ 32 ∷ 32 ∷ 32 ∷ 32 ∷ 32 ∷ 32 ∷ 32 ∷ 32 ∷ 32 ∷ 32 ∷ 32 ∷ 32 ∷ 32 ∷ 32 ∷ 49 ∷ 10 ∷ []

-- "leaf                1"
abbrev leaf-line : List ℕ
leaf-line = 108 ∷ 101 ∷ 97 ∷ 102 ∷ 32 ∷ 32 ∷ 32 ∷ 32 ∷ 32 ∷ 32 ∷ 32 ∷ 32 ∷ 32 ∷ 32 ∷ 32 ∷ 32 ∷ 32 ∷ 32 ∷ 32 ∷ 32 ∷ 49 ∷ 10 ∷ []

-- "refuse             12"
abbrev refuse-12 : List ℕ
refuse-12 = 114 ∷ 101 ∷ 102 ∷ 117 ∷ 115 ∷ 101 ∷ 32 ∷ 32 ∷ 32 ∷ 32 ∷ 32 ∷ 32 ∷ 32 ∷ 32 ∷ 32 ∷ 32 ∷ 32 ∷ 32 ∷ 32 ∷ 49 ∷ 50 ∷ 10 ∷ []

-- "line                0"
abbrev line-0 : List ℕ
line-0 = 108 ∷ 105 ∷ 110 ∷ 101 ∷ 32 ∷ 32 ∷ 32 ∷ 32 ∷ 32 ∷ 32 ∷ 32 ∷ 32 ∷ 32 ∷ 32 ∷ 32 ∷ 32 ∷ 32 ∷ 32 ∷ 32 ∷ 32 ∷ 48 ∷ 10 ∷ []

-- "refuse              1"
abbrev refuse-1 : List ℕ
refuse-1 = 114 ∷ 101 ∷ 102 ∷ 117 ∷ 115 ∷ 101 ∷ 32 ∷ 32 ∷ 32 ∷ 32 ∷ 32 ∷ 32 ∷ 32 ∷ 32 ∷ 32 ∷ 32 ∷ 32 ∷ 32 ∷ 32 ∷ 32 ∷ 49 ∷ 10 ∷ []

-- "refuse              9"
abbrev refuse-9 : List ℕ
refuse-9 = 114 ∷ 101 ∷ 102 ∷ 117 ∷ 115 ∷ 101 ∷ 32 ∷ 32 ∷ 32 ∷ 32 ∷ 32 ∷ 32 ∷ 32 ∷ 32 ∷ 32 ∷ 32 ∷ 32 ∷ 32 ∷ 32 ∷ 32 ∷ 57 ∷ 10 ∷ []

-- "line                3"
abbrev line-3 : List ℕ
line-3 = 108 ∷ 105 ∷ 110 ∷ 101 ∷ 32 ∷ 32 ∷ 32 ∷ 32 ∷ 32 ∷ 32 ∷ 32 ∷ 32 ∷ 32 ∷ 32 ∷ 32 ∷ 32 ∷ 32 ∷ 32 ∷ 32 ∷ 32 ∷ 51 ∷ 10 ∷ []

-- "Input, table B" at margin 12, and the output that document 01 prints
pub worked-b : output_of (margin-12 ++ table-b) ≡ low-line ++ high-line ++ grain-line ++ play-line ++ leaves-line ++ leaf-line
unfolding strip digits whole_field signed leading unless unless_at climb run after_run forest weigh nodes_where node_lines complete read_text greatest among uses powers nodes search_root search scan begin lower upper update safer finish cut stop point max_z min_z floor_z ceil_z down_z up_z gain_z loss_z in_grains printed place leaves
worked-b = refl

-- "an ill-written margin line is refused 12": below zero, blank, too large, and without its newline
pub worked-margins : (output_of (margin-below ++ table-b) ≡ refuse-12 ++ line-0)
    × (output_of (margin-blank ++ table-b) ≡ refuse-12 ++ line-0)
    × (output_of (margin-large ++ table-b) ≡ refuse-12 ++ line-0)
    × (output_of (take 14 margin-12 ++ (32 ∷ []) ++ table-b) ≡ refuse-12 ++ line-0)
unfolding strip digits whole_field signed leading unless unless_at climb run after_run forest weigh nodes_where node_lines complete read_text greatest among uses powers nodes search_root search scan begin lower upper update safer finish cut stop point max_z min_z floor_z ceil_z down_z up_z gain_z loss_z in_grains printed place leaves
worked-margins = (refl, refl, refl, refl)

-- "at 12's place in the sequence, so a bad table is named first": no table, a text that is cut short, and "B with weight 2 in node 3: refused 9, line 3"
pub worked-tables : (output_of [] ≡ refuse-1 ++ line-0)
    × (output_of (margin-below ++ drop 1 table-b) ≡ refuse-1 ++ line-0)
    × (output_of (margin-blank ++ (take 115 table-b ++ (50 ∷ []) ++ drop 116 table-b)) ≡ refuse-9 ++ line-3)
unfolding strip digits whole_field signed leading unless unless_at climb run after_run forest weigh nodes_where node_lines complete read_text greatest among uses powers nodes search_root search scan begin lower upper update safer finish cut stop point max_z min_z floor_z ceil_z down_z up_z gain_z loss_z in_grains printed place leaves
worked-tables = (refl, refl, refl)
