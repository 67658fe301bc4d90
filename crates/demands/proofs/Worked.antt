-- Match files of document 01's tables and others, reported by computation.
use Rattle.std.proofs.Common.{Err, Ok, Result, Some}
use Rattle.report.specs.declared.Totals.{Totals}
use Rattle.report_call.specs.declared.Unreported.{Unreported}
use Prim.Native.Nat.{ℕ}
use mathlib.Core.Path.{◌≡◌, refl}
use mathlib.Core.List.{List, [], ◌∷◌, ◌++◌}
use lib.ListN.{take}
use lib.IntN.{ℤ, pos, negsuc}
use Rattle.field.specs.Field.{strip, digits, whole, signed}
use Rattle.line.specs.Refusal.{unless, unless_at}
use Rattle.line.specs.declared.Refusal.TheVariants.{NoRoom, NoChild, NoPosition, BadScale}
use Rattle.line.specs.Line.{climb, among}
use Rattle.table.specs.Tree.{run, after, forest, weigh, nodes_where, powers, uses}
use Rattle.table.specs.Examples.{max-root, chance, table-a, table-b, turned-b, lone-leaf, toss, forced-b}
use Rattle.table.specs.Root.{nodes}
use Rattle.table.specs.Table.{node_lines, complete, read_text, greatest}
use Rattle.numbers.specs.Integers.{max_z, min_z, floor_z}
use Rattle.worth.specs.Worth.{largest, smallest, weighted, total, value, shares}
use Rattle.judge.specs.Judge.{levels}
use Rattle.judge.specs.Call.{judge_call}
use Rattle.report.specs.Report.{position_of, match_from, total_of}
use Rattle.report_call.specs.Call.{report_call, report_kinds, report_losses, report_marks}

-- a position: the byte of a digit as the play number, and a table
position : ℕ → List ℕ → List ℕ
position digit table = 32 ∷ 32 ∷ 32 ∷ digit ∷ 10 ∷ table

-- "   5   3       0       1"
thirds-head : List ℕ
thirds-head = 32 ∷ 32 ∷ 32 ∷ 53 ∷ 32 ∷ 32 ∷ 32 ∷ 51 ∷ 32 ∷ 32 ∷ 32 ∷ 32 ∷ 32 ∷ 32 ∷ 32 ∷ 48 ∷ 32 ∷ 32 ∷ 32 ∷ 32 ∷ 32 ∷ 32 ∷ 32 ∷ 49 ∷ 10 ∷ []

-- "   1 L    0            1"
thirds1 : List ℕ
thirds1 = 32 ∷ 32 ∷ 32 ∷ 49 ∷ 32 ∷ 76 ∷ 32 ∷ 32 ∷ 32 ∷ 32 ∷ 48 ∷ 32 ∷ 32 ∷ 32 ∷ 32 ∷ 32 ∷ 32 ∷ 32 ∷ 32 ∷ 32 ∷ 32 ∷ 32 ∷ 32 ∷ 49 ∷ 10 ∷ []

-- "   3 L    2    1       1"
thirds3 : List ℕ
thirds3 = 32 ∷ 32 ∷ 32 ∷ 51 ∷ 32 ∷ 76 ∷ 32 ∷ 32 ∷ 32 ∷ 32 ∷ 50 ∷ 32 ∷ 32 ∷ 32 ∷ 32 ∷ 49 ∷ 32 ∷ 32 ∷ 32 ∷ 32 ∷ 32 ∷ 32 ∷ 32 ∷ 49 ∷ 10 ∷ []

-- "   4 L    2    2       0"
thirds4 : List ℕ
thirds4 = 32 ∷ 32 ∷ 32 ∷ 52 ∷ 32 ∷ 76 ∷ 32 ∷ 32 ∷ 32 ∷ 32 ∷ 50 ∷ 32 ∷ 32 ∷ 32 ∷ 32 ∷ 50 ∷ 32 ∷ 32 ∷ 32 ∷ 32 ∷ 32 ∷ 32 ∷ 32 ∷ 48 ∷ 10 ∷ []

-- a third of a point is a grain, and play 2 loses two of them
thirds : List ℕ
thirds = thirds-head ++ (max-root ++ (thirds1 ++ (chance ++ (thirds3 ++ thirds4))))

-- play 2 of tables A, B, B turned and the one of thirds, and any number of a forced play, of a C and of a lone leaf
match : List ℕ
match =
    position 50 table-a
    ++ (position 50 table-b ++ (position 50 turned-b ++ (position 50 thirds ++ (position 57 forced-b ++ (position 57 toss ++ position 48 lone-leaf)))))

-- the answer and the lists, by the scale of this number and for lists of so many entries
record Answer : Type 0 where
  answer : Result Totals Unreported
  kinds : List ℕ
  losses : List ℤ
  marks : List ℕ

answered : List ℕ → ℤ → ℕ → Answer
answered file scale room =
    record {
      answer = report_call file scale room;
      kinds = report_kinds file scale room;
      losses = report_losses file scale room;
      marks = report_marks file scale room;
    }

refusal : Result Totals Unreported → Answer
refusal r = record { answer = r; kinds = []; losses = []; marks = [] }

-- an empty file; the match; the match with a list too short; the same by a scale that there is none of, which is refused first; table B twice, the
-- second time with a play that there is none of; the match cut short
known : (answered [] (pos 1) 0
    ∷ answered match (pos 1) 7
    ∷ answered match (pos 2) 6
    ∷ answered match (pos 3) 6
    ∷ answered (position 50 table-b ++ position 51 table-b) (pos 2) 4
    ∷ answered (take 270 match) (pos 1) 4
    ∷ [])
    ≡ record { answer = Ok (record { positions = 0; max = record { decisions = 0; sum = 0 }; min = record { decisions = 0; sum = 0 } }); kinds = []; losses = []; marks = [] }
    ∷ record {
      answer = Ok (record { positions = 7; max = record { decisions = 3; sum = 3166 }; min = record { decisions = 1; sum = 1500 } });
      kinds = 1 ∷ 1 ∷ 2 ∷ 1 ∷ 1 ∷ 3 ∷ 0 ∷ [];
      losses = pos 1000 ∷ pos 1500 ∷ pos 1500 ∷ pos 666 ∷ negsuc 0 ∷ negsuc 0 ∷ negsuc 0 ∷ [];
      marks = 4 ∷ 4 ∷ 4 ∷ 4 ∷ 0 ∷ 0 ∷ 0 ∷ [];
    }
    ∷ refusal (Err (record { refusal = NoRoom; position = 0 }))
    ∷ refusal (Err (record { refusal = BadScale; position = 0 }))
    ∷ refusal (Err (record { refusal = NoChild; position = 2 }))
    ∷ refusal (Err (record { refusal = NoPosition; position = 2 }))
    ∷ []
unfolding refusal position thirds-head thirds1 thirds3 thirds4 thirds match answered max_z min_z floor_z largest smallest weighted total value shares levels strip digits whole signed unless unless_at climb run after forest weigh nodes_where node_lines complete read_text greatest among uses powers position_of match_from total_of nodes
known = refl

-- "   7  36       0       1"
grain-head : List ℕ
grain-head = 32 ∷ 32 ∷ 32 ∷ 55 ∷ 32 ∷ 32 ∷ 51 ∷ 54 ∷ 32 ∷ 32 ∷ 32 ∷ 32 ∷ 32 ∷ 32 ∷ 32 ∷ 48 ∷ 32 ∷ 32 ∷ 32 ∷ 32 ∷ 32 ∷ 32 ∷ 32 ∷ 49 ∷ 10 ∷ []

-- "   1 L    0            0"
grain1 : List ℕ
grain1 = 32 ∷ 32 ∷ 32 ∷ 49 ∷ 32 ∷ 76 ∷ 32 ∷ 32 ∷ 32 ∷ 32 ∷ 48 ∷ 32 ∷ 32 ∷ 32 ∷ 32 ∷ 32 ∷ 32 ∷ 32 ∷ 32 ∷ 32 ∷ 32 ∷ 32 ∷ 32 ∷ 48 ∷ 10 ∷ []

-- "   3 L    2   35       0"
grain3 : List ℕ
grain3 = 32 ∷ 32 ∷ 32 ∷ 51 ∷ 32 ∷ 76 ∷ 32 ∷ 32 ∷ 32 ∷ 32 ∷ 50 ∷ 32 ∷ 32 ∷ 32 ∷ 51 ∷ 53 ∷ 32 ∷ 32 ∷ 32 ∷ 32 ∷ 32 ∷ 32 ∷ 32 ∷ 48 ∷ 10 ∷ []

-- "   4 C    2    1        "
grain4 : List ℕ
grain4 = 32 ∷ 32 ∷ 32 ∷ 52 ∷ 32 ∷ 67 ∷ 32 ∷ 32 ∷ 32 ∷ 32 ∷ 50 ∷ 32 ∷ 32 ∷ 32 ∷ 32 ∷ 49 ∷ 32 ∷ 32 ∷ 32 ∷ 32 ∷ 32 ∷ 32 ∷ 32 ∷ 32 ∷ 10 ∷ []

-- "   5 L    4   35       0"
grain5 : List ℕ
grain5 = 32 ∷ 32 ∷ 32 ∷ 53 ∷ 32 ∷ 76 ∷ 32 ∷ 32 ∷ 32 ∷ 32 ∷ 52 ∷ 32 ∷ 32 ∷ 32 ∷ 51 ∷ 53 ∷ 32 ∷ 32 ∷ 32 ∷ 32 ∷ 32 ∷ 32 ∷ 32 ∷ 48 ∷ 10 ∷ []

-- "   6 L    4    1       1"
grain6 : List ℕ
grain6 = 32 ∷ 32 ∷ 32 ∷ 54 ∷ 32 ∷ 76 ∷ 32 ∷ 32 ∷ 32 ∷ 32 ∷ 52 ∷ 32 ∷ 32 ∷ 32 ∷ 32 ∷ 49 ∷ 32 ∷ 32 ∷ 32 ∷ 32 ∷ 32 ∷ 32 ∷ 32 ∷ 49 ∷ 10 ∷ []

-- a point has 1,296 grains, and play 1 loses one of them: play 2 is a C over a C, with one chance in 36 of it and in it one of the point
grain-off : List ℕ
grain-off = grain-head ++ (max-root ++ (grain1 ++ (chance ++ (grain3 ++ (grain4 ++ (grain5 ++ grain6))))))

-- Document 02, Item 8: the play is not level, and "Losses in the report stay in thousandths", where it is listed with 0
listed-not-level : (judge_call (read_text grain-off) (pos 1) ≡ Ok (Some (record { loss = 1; level = 1 })))
    × (answered (position 49 grain-off) (pos 2) 1
    ≡ record {
      answer = Ok (record { positions = 1; max = record { decisions = 1; sum = 0 }; min = record { decisions = 0; sum = 0 } });
      kinds = 1 ∷ [];
      losses = pos 0 ∷ [];
      marks = 1 ∷ [];
    })
unfolding position grain-head grain1 grain3 grain4 grain5 grain6 grain-off answered max_z min_z floor_z largest smallest weighted total value shares levels strip digits whole signed unless unless_at climb run after forest weigh nodes_where node_lines complete read_text greatest among uses powers position_of match_from total_of nodes
listed-not-level = (refl, refl)

-- "   5  36       0       1"
chance-head : List ℕ
chance-head = 32 ∷ 32 ∷ 32 ∷ 53 ∷ 32 ∷ 32 ∷ 51 ∷ 54 ∷ 32 ∷ 32 ∷ 32 ∷ 32 ∷ 32 ∷ 32 ∷ 32 ∷ 48 ∷ 32 ∷ 32 ∷ 32 ∷ 32 ∷ 32 ∷ 32 ∷ 32 ∷ 49 ∷ 10 ∷ []

-- "   4 L    2    1       1"
chance4 : List ℕ
chance4 = 32 ∷ 32 ∷ 32 ∷ 52 ∷ 32 ∷ 76 ∷ 32 ∷ 32 ∷ 32 ∷ 32 ∷ 50 ∷ 32 ∷ 32 ∷ 32 ∷ 32 ∷ 49 ∷ 32 ∷ 32 ∷ 32 ∷ 32 ∷ 32 ∷ 32 ∷ 32 ∷ 49 ∷ 10 ∷ []

-- play 2 is one chance in 36 of a point, and play 1 loses it
one-chance : List ℕ
one-chance = chance-head ++ (max-root ++ (grain1 ++ (chance ++ (grain3 ++ chance4))))

-- Document 02, Item 11: a loss of 27 thousandths is listed with "no mark" by scale 1 and is doubtful by scale 2, and no decision has none
marked : (report_marks (position 49 one-chance ++ position 57 toss) (pos 1) 2 ≡ 1 ∷ 0 ∷ [])
    × (report_marks (position 49 one-chance ++ position 57 toss) (pos 2) 2 ≡ 2 ∷ 0 ∷ [])
    × (report_losses (position 49 one-chance ++ position 57 toss) (pos 2) 2 ≡ pos 27 ∷ negsuc 0 ∷ [])
unfolding position chance-head chance4 one-chance grain1 grain3 max_z min_z floor_z largest smallest weighted total value shares levels strip digits whole signed unless unless_at climb run after forest weigh nodes_where node_lines complete read_text greatest among uses powers position_of match_from total_of nodes
marked = (refl, refl, refl)
