-- Table B of document 01 and its refusal, and a table with two totals and its refusals, by computation.
use Rattle.std.proofs.Common.{Err, Ok}
use Prim.Native.Nat.{ℕ}
use mathlib.Core.Path.{◌≡◌, refl}
use mathlib.Core.List.{List, [], ◌∷◌, ◌++◌}
use lib.IntN.{pos}
use Rattle.field.specs.Field.{strip, digits, whole, signed}
use Rattle.line.specs.declared.Refusal.TheVariants.{IllWritten, OutOfRange, WrongSum, TooManyGrains}
use Rattle.line.specs.Refusal.{unless, unless_at}
use Rattle.line.specs.Line.{climb, among}
use Rattle.table.specs.Tree.{run, after, forest, weigh, nodes_where, powers, uses}
use Rattle.table.specs.Examples.{max-root, b-head, b1, chance, b4, table-b, open0, open1, open2, open3, open4, open-head, openings}
use Rattle.table.specs.Table.{node_lines, complete, read_text, greatest, leaf_lines, answer}

-- "   3 L    2    2       2"
light : List ℕ
light = 32 ∷ 32 ∷ 32 ∷ 51 ∷ 32 ∷ 76 ∷ 32 ∷ 32 ∷ 32 ∷ 32 ∷ 50 ∷ 32 ∷ 32 ∷ 32 ∷ 32 ∷ 50 ∷ 32 ∷ 32 ∷ 32 ∷ 32 ∷ 32 ∷ 32 ∷ 32 ∷ 50 ∷ 10 ∷ []

accepted-b : answer (read_text table-b)
    ≡ Ok (record { nodes = 5; total = 4; lowest = pos 0; highest = pos 8; chances = 1; grain = 4; leaves = 3; second = 0 })
unfolding light strip digits whole signed unless unless_at climb run after forest weigh nodes_where among uses powers node_lines complete read_text greatest leaf_lines
accepted-b = refl

-- "B with weight 2 in node 3: refused 9, line 3"
light-b : answer (read_text (b-head ++ (max-root ++ (b1 ++ (chance ++ (light ++ b4)))))) ≡ Err (WrongSum 3)
unfolding light strip digits whole signed unless unless_at climb run after forest weigh nodes_where among uses powers node_lines complete read_text greatest leaf_lines
light-b = refl

-- ---- two totals

-- the root uses 3 and the C below it 4, so that G is 4 times 3
accepted-openings : answer (read_text openings)
    ≡ Ok (record { nodes = 5; total = 4; lowest = pos 0; highest = pos 12; chances = 2; grain = 12; leaves = 3; second = 3 })
unfolding strip digits whole signed unless unless_at climb run after forest weigh nodes_where among uses powers node_lines complete read_text greatest leaf_lines
accepted-openings = refl

-- "   5 4 4       0      12"
same_head : List ℕ
same_head = 32 ∷ 32 ∷ 32 ∷ 53 ∷ 32 ∷ 52 ∷ 32 ∷ 52 ∷ 32 ∷ 32 ∷ 32 ∷ 32 ∷ 32 ∷ 32 ∷ 32 ∷ 48 ∷ 32 ∷ 32 ∷ 32 ∷ 32 ∷ 32 ∷ 32 ∷ 49 ∷ 50 ∷ 10 ∷ []

-- "   5 0 4       0      12"
zero-head : List ℕ
zero-head = 32 ∷ 32 ∷ 32 ∷ 53 ∷ 32 ∷ 48 ∷ 32 ∷ 52 ∷ 32 ∷ 32 ∷ 32 ∷ 32 ∷ 32 ∷ 32 ∷ 32 ∷ 48 ∷ 32 ∷ 32 ∷ 32 ∷ 32 ∷ 32 ∷ 32 ∷ 49 ∷ 50 ∷ 10 ∷ []

-- "   565 4       0      12"
far-head : List ℕ
far-head = 32 ∷ 32 ∷ 32 ∷ 53 ∷ 54 ∷ 53 ∷ 32 ∷ 52 ∷ 32 ∷ 32 ∷ 32 ∷ 32 ∷ 32 ∷ 32 ∷ 32 ∷ 48 ∷ 32 ∷ 32 ∷ 32 ∷ 32 ∷ 32 ∷ 32 ∷ 49 ∷ 50 ∷ 10 ∷ []

-- "   5 100       0      12"
hundred-head : List ℕ
hundred-head = 32 ∷ 32 ∷ 32 ∷ 53 ∷ 32 ∷ 49 ∷ 48 ∷ 48 ∷ 32 ∷ 32 ∷ 32 ∷ 32 ∷ 32 ∷ 32 ∷ 32 ∷ 48 ∷ 32 ∷ 32 ∷ 32 ∷ 32 ∷ 32 ∷ 32 ∷ 49 ∷ 50 ∷ 10 ∷ []

-- "   3 L    2    1       2"
odd3 : List ℕ
odd3 = 32 ∷ 32 ∷ 32 ∷ 51 ∷ 32 ∷ 76 ∷ 32 ∷ 32 ∷ 32 ∷ 32 ∷ 50 ∷ 32 ∷ 32 ∷ 32 ∷ 32 ∷ 49 ∷ 32 ∷ 32 ∷ 32 ∷ 32 ∷ 32 ∷ 32 ∷ 32 ∷ 50 ∷ 10 ∷ []

-- a second total that is the first; zeros in columns 5-6 and then " 0 4" as one field; a second total above 64; " 100" in columns 5-8, a second total
-- of 1 and a first of 0; a sum that is neither total
abbrev below : List ℕ
below = open0 ++ (open1 ++ (open2 ++ (open3 ++ open4)))

refused-seconds : (answer (read_text (same_head ++ below)) ≡ Err (OutOfRange 0)) × (answer (read_text (zero-head ++ below)) ≡ Err (IllWritten 0))
    × (answer (read_text (far-head ++ below)) ≡ Err (OutOfRange 0)) × (answer (read_text (hundred-head ++ below)) ≡ Err (OutOfRange 0))
unfolding same_head zero-head far-head hundred-head strip digits whole signed unless unless_at climb run after forest weigh nodes_where among uses powers node_lines complete read_text greatest leaf_lines
refused-seconds = (refl, refl, refl, refl)

odd-sum : answer (read_text (open-head ++ (open0 ++ (open1 ++ (open2 ++ (odd3 ++ open4)))))) ≡ Err (WrongSum 3)
unfolding odd3 strip digits whole signed unless unless_at climb run after forest weigh nodes_where among uses powers node_lines complete read_text greatest leaf_lines
odd-sum = refl

-- "   86364       0       1"
many-head : List ℕ
many-head = 32 ∷ 32 ∷ 32 ∷ 56 ∷ 54 ∷ 51 ∷ 54 ∷ 52 ∷ 32 ∷ 32 ∷ 32 ∷ 32 ∷ 32 ∷ 32 ∷ 32 ∷ 48 ∷ 32 ∷ 32 ∷ 32 ∷ 32 ∷ 32 ∷ 32 ∷ 32 ∷ 49 ∷ 10 ∷ []

-- "   0 M                  "
many0 : List ℕ
many0 = 32 ∷ 32 ∷ 32 ∷ 48 ∷ 32 ∷ 77 ∷ 32 ∷ 32 ∷ 32 ∷ 32 ∷ 32 ∷ 32 ∷ 32 ∷ 32 ∷ 32 ∷ 32 ∷ 32 ∷ 32 ∷ 32 ∷ 32 ∷ 32 ∷ 32 ∷ 32 ∷ 32 ∷ 10 ∷ []

-- "   1 C    0             "
many1 : List ℕ
many1 = 32 ∷ 32 ∷ 32 ∷ 49 ∷ 32 ∷ 67 ∷ 32 ∷ 32 ∷ 32 ∷ 32 ∷ 48 ∷ 32 ∷ 32 ∷ 32 ∷ 32 ∷ 32 ∷ 32 ∷ 32 ∷ 32 ∷ 32 ∷ 32 ∷ 32 ∷ 32 ∷ 32 ∷ 10 ∷ []

-- "   2 C    1   64        "
many2 : List ℕ
many2 = 32 ∷ 32 ∷ 32 ∷ 50 ∷ 32 ∷ 67 ∷ 32 ∷ 32 ∷ 32 ∷ 32 ∷ 49 ∷ 32 ∷ 32 ∷ 32 ∷ 54 ∷ 52 ∷ 32 ∷ 32 ∷ 32 ∷ 32 ∷ 32 ∷ 32 ∷ 32 ∷ 32 ∷ 10 ∷ []

-- "   3 C    2   64        "
many3 : List ℕ
many3 = 32 ∷ 32 ∷ 32 ∷ 51 ∷ 32 ∷ 67 ∷ 32 ∷ 32 ∷ 32 ∷ 32 ∷ 50 ∷ 32 ∷ 32 ∷ 32 ∷ 54 ∷ 52 ∷ 32 ∷ 32 ∷ 32 ∷ 32 ∷ 32 ∷ 32 ∷ 32 ∷ 32 ∷ 10 ∷ []

-- "   4 C    3   64        "
many4 : List ℕ
many4 = 32 ∷ 32 ∷ 32 ∷ 52 ∷ 32 ∷ 67 ∷ 32 ∷ 32 ∷ 32 ∷ 32 ∷ 51 ∷ 32 ∷ 32 ∷ 32 ∷ 54 ∷ 52 ∷ 32 ∷ 32 ∷ 32 ∷ 32 ∷ 32 ∷ 32 ∷ 32 ∷ 32 ∷ 10 ∷ []

-- "   5 L    4   64       1"
many5 : List ℕ
many5 = 32 ∷ 32 ∷ 32 ∷ 53 ∷ 32 ∷ 76 ∷ 32 ∷ 32 ∷ 32 ∷ 32 ∷ 52 ∷ 32 ∷ 32 ∷ 32 ∷ 54 ∷ 52 ∷ 32 ∷ 32 ∷ 32 ∷ 32 ∷ 32 ∷ 32 ∷ 32 ∷ 49 ∷ 10 ∷ []

-- "   6 C    0             "
many6 : List ℕ
many6 = 32 ∷ 32 ∷ 32 ∷ 54 ∷ 32 ∷ 67 ∷ 32 ∷ 32 ∷ 32 ∷ 32 ∷ 48 ∷ 32 ∷ 32 ∷ 32 ∷ 32 ∷ 32 ∷ 32 ∷ 32 ∷ 32 ∷ 32 ∷ 32 ∷ 32 ∷ 32 ∷ 32 ∷ 10 ∷ []

-- "   7 L    6   63       0"
many7 : List ℕ
many7 = 32 ∷ 32 ∷ 32 ∷ 55 ∷ 32 ∷ 76 ∷ 32 ∷ 32 ∷ 32 ∷ 32 ∷ 54 ∷ 32 ∷ 32 ∷ 32 ∷ 54 ∷ 51 ∷ 32 ∷ 32 ∷ 32 ∷ 32 ∷ 32 ∷ 32 ∷ 32 ∷ 48 ∷ 10 ∷ []

-- four uses of 64 on one path and one of 63 on another: 64 to the power 4 is the limit, and 63 times as many grains are too many
too_many : answer (read_text (many-head ++ (many0 ++ (many1 ++ (many2 ++ (many3 ++ (many4 ++ (many5 ++ (many6 ++ many7))))))))) ≡ Err TooManyGrains
unfolding many-head many0 many1 many2 many3 many4 many5 many6 many7 strip digits whole signed unless unless_at climb run after forest weigh nodes_where among uses powers node_lines complete read_text greatest leaf_lines
too_many = refl

-- ---- zeros before the numbers

-- "000500040000000000000008"
zero-b-head : List ℕ
zero-b-head = 48 ∷ 48 ∷ 48 ∷ 53 ∷ 48 ∷ 48 ∷ 48 ∷ 52 ∷ 48 ∷ 48 ∷ 48 ∷ 48 ∷ 48 ∷ 48 ∷ 48 ∷ 48 ∷ 48 ∷ 48 ∷ 48 ∷ 48 ∷ 48 ∷ 48 ∷ 48 ∷ 56 ∷ 10 ∷ []

-- "0000 M                  "
zero-b0 : List ℕ
zero-b0 = 48 ∷ 48 ∷ 48 ∷ 48 ∷ 32 ∷ 77 ∷ 32 ∷ 32 ∷ 32 ∷ 32 ∷ 32 ∷ 32 ∷ 32 ∷ 32 ∷ 32 ∷ 32 ∷ 32 ∷ 32 ∷ 32 ∷ 32 ∷ 32 ∷ 32 ∷ 32 ∷ 32 ∷ 10 ∷ []

-- "0001 L00000     00000005"
zero-b1 : List ℕ
zero-b1 = 48 ∷ 48 ∷ 48 ∷ 49 ∷ 32 ∷ 76 ∷ 48 ∷ 48 ∷ 48 ∷ 48 ∷ 48 ∷ 32 ∷ 32 ∷ 32 ∷ 32 ∷ 32 ∷ 48 ∷ 48 ∷ 48 ∷ 48 ∷ 48 ∷ 48 ∷ 48 ∷ 53 ∷ 10 ∷ []

-- "0002 C00000             "
zero-b2 : List ℕ
zero-b2 = 48 ∷ 48 ∷ 48 ∷ 50 ∷ 32 ∷ 67 ∷ 48 ∷ 48 ∷ 48 ∷ 48 ∷ 48 ∷ 32 ∷ 32 ∷ 32 ∷ 32 ∷ 32 ∷ 32 ∷ 32 ∷ 32 ∷ 32 ∷ 32 ∷ 32 ∷ 32 ∷ 32 ∷ 10 ∷ []

-- "0003 L000020000300000002"
zero-b3 : List ℕ
zero-b3 = 48 ∷ 48 ∷ 48 ∷ 51 ∷ 32 ∷ 76 ∷ 48 ∷ 48 ∷ 48 ∷ 48 ∷ 50 ∷ 48 ∷ 48 ∷ 48 ∷ 48 ∷ 51 ∷ 48 ∷ 48 ∷ 48 ∷ 48 ∷ 48 ∷ 48 ∷ 48 ∷ 50 ∷ 10 ∷ []

-- "0004 L000020000100000008"
zero-b4 : List ℕ
zero-b4 = 48 ∷ 48 ∷ 48 ∷ 52 ∷ 32 ∷ 76 ∷ 48 ∷ 48 ∷ 48 ∷ 48 ∷ 50 ∷ 48 ∷ 48 ∷ 48 ∷ 48 ∷ 49 ∷ 48 ∷ 48 ∷ 48 ∷ 48 ∷ 48 ∷ 48 ∷ 48 ∷ 56 ∷ 10 ∷ []

-- table B as a spreadsheet pads it is table B
zero-b : read_text (zero-b-head ++ (zero-b0 ++ (zero-b1 ++ (zero-b2 ++ (zero-b3 ++ zero-b4))))) ≡ read_text table-b
unfolding zero-b-head zero-b0 zero-b1 zero-b2 zero-b3 zero-b4 strip digits whole signed unless unless_at climb run after forest weigh nodes_where among uses powers node_lines complete read_text
zero-b = refl
