-- Tables of document 01 and others, judged by computation.
use Prim.Native.Nat.{ℕ}
use mathlib.Core.Path.{◌≡◌, refl}
use mathlib.Core.List.{List, [], ◌∷◌, ◌++◌, map}
use lib.IntN.{ℤ, pos, negsuc}
use Rattle.field.specs.Field.{strip, digits, whole, signed}
use Rattle.numbers.specs.Integers.{max_z, min_z, floor_z}
use Rattle.line.specs.declared.Refusal.TheVariants.{NoChild}
use Rattle.line.specs.Refusal.{Verdict, refused, fine, unless, unless_at, next}
use Rattle.line.specs.Line.{climb, among}
use Rattle.table.specs.Tree.{run, after, forest, weigh, nodes_where, powers, uses}
use Rattle.table.specs.Examples.{max-root, b-head, chance, b3, b4, table-b, turned-b, min-root, forced-head, forced1, forced2, forced3, lone-leaf, toss, forced-b}
use Rattle.table.specs.Root.{nodes}
use Rattle.table.specs.Table.{Table, node_lines, complete, read_text, greatest}
use Rattle.worth.specs.Worth.{largest, smallest, weighted, total, value, shares}
use Rattle.judge.specs.Judge.{levels, Judgement, no_decision, judged, judge}

-- the judgements of the root children of these numbers
found : List ℤ → Table → Verdict (List (Verdict Judgement))
found is t = fine (map (judge t) is)

-- "   1 L    0            4"
near1 : List ℕ
near1 = 32 ∷ 32 ∷ 32 ∷ 49 ∷ 32 ∷ 76 ∷ 32 ∷ 32 ∷ 32 ∷ 32 ∷ 48 ∷ 32 ∷ 32 ∷ 32 ∷ 32 ∷ 32 ∷ 32 ∷ 32 ∷ 32 ∷ 32 ∷ 32 ∷ 32 ∷ 32 ∷ 52 ∷ 10 ∷ []

-- "   8   4       0       8"
three-head : List ℕ
three-head = 32 ∷ 32 ∷ 32 ∷ 56 ∷ 32 ∷ 32 ∷ 32 ∷ 52 ∷ 32 ∷ 32 ∷ 32 ∷ 32 ∷ 32 ∷ 32 ∷ 32 ∷ 48 ∷ 32 ∷ 32 ∷ 32 ∷ 32 ∷ 32 ∷ 32 ∷ 32 ∷ 56 ∷ 10 ∷ []

-- "   1 L    0            3"
three1 : List ℕ
three1 = 32 ∷ 32 ∷ 32 ∷ 49 ∷ 32 ∷ 76 ∷ 32 ∷ 32 ∷ 32 ∷ 32 ∷ 48 ∷ 32 ∷ 32 ∷ 32 ∷ 32 ∷ 32 ∷ 32 ∷ 32 ∷ 32 ∷ 32 ∷ 32 ∷ 32 ∷ 32 ∷ 51 ∷ 10 ∷ []

-- "   3 L    2    1       3"
three3 : List ℕ
three3 = 32 ∷ 32 ∷ 32 ∷ 51 ∷ 32 ∷ 76 ∷ 32 ∷ 32 ∷ 32 ∷ 32 ∷ 50 ∷ 32 ∷ 32 ∷ 32 ∷ 32 ∷ 49 ∷ 32 ∷ 32 ∷ 32 ∷ 32 ∷ 32 ∷ 32 ∷ 32 ∷ 51 ∷ 10 ∷ []

-- "   4 L    2    3       2"
three4 : List ℕ
three4 = 32 ∷ 32 ∷ 32 ∷ 52 ∷ 32 ∷ 76 ∷ 32 ∷ 32 ∷ 32 ∷ 32 ∷ 50 ∷ 32 ∷ 32 ∷ 32 ∷ 32 ∷ 51 ∷ 32 ∷ 32 ∷ 32 ∷ 32 ∷ 32 ∷ 32 ∷ 32 ∷ 50 ∷ 10 ∷ []

-- "   5 C    0             "
three5 : List ℕ
three5 = 32 ∷ 32 ∷ 32 ∷ 53 ∷ 32 ∷ 67 ∷ 32 ∷ 32 ∷ 32 ∷ 32 ∷ 48 ∷ 32 ∷ 32 ∷ 32 ∷ 32 ∷ 32 ∷ 32 ∷ 32 ∷ 32 ∷ 32 ∷ 32 ∷ 32 ∷ 32 ∷ 32 ∷ 10 ∷ []

-- "   6 L    5    2       2"
three6 : List ℕ
three6 = 32 ∷ 32 ∷ 32 ∷ 54 ∷ 32 ∷ 76 ∷ 32 ∷ 32 ∷ 32 ∷ 32 ∷ 53 ∷ 32 ∷ 32 ∷ 32 ∷ 32 ∷ 50 ∷ 32 ∷ 32 ∷ 32 ∷ 32 ∷ 32 ∷ 32 ∷ 32 ∷ 50 ∷ 10 ∷ []

-- "   7 L    5    2       4"
three7 : List ℕ
three7 = 32 ∷ 32 ∷ 32 ∷ 55 ∷ 32 ∷ 76 ∷ 32 ∷ 32 ∷ 32 ∷ 32 ∷ 53 ∷ 32 ∷ 32 ∷ 32 ∷ 32 ∷ 50 ∷ 32 ∷ 32 ∷ 32 ∷ 32 ∷ 32 ∷ 32 ∷ 32 ∷ 52 ∷ 10 ∷ []

-- examples/level.txt after its root: plays worth 3, 2 1/4 and 3 points
three : List ℕ
three = three1 ++ (chance ++ (three3 ++ (three4 ++ (three5 ++ (three6 ++ three7)))))

-- table B: the second child played loses 6 and one child is level; there is no child 0, 3 or -1
judged-b : next (read_text table-b) (found (pos 2 ∷ pos 1 ∷ pos 0 ∷ pos 3 ∷ negsuc 0 ∷ [])) ≡ fine (fine (judged (pos 6) 1) ∷ fine (judged (pos 0) 1) ∷ refused NoChild ∷ refused NoChild ∷ refused NoChild ∷ [])
unfolding found max_z min_z floor_z largest smallest weighted total value shares levels strip digits whole signed unless unless_at climb run after forest weigh nodes_where node_lines complete read_text greatest among uses powers nodes
judged-b = refl

-- B with 4 in place of 5: the second child loses 2 grains of the 4 that a point has, and is not level
judged-near : next (read_text (b-head ++ (max-root ++ (near1 ++ (chance ++ (b3 ++ b4)))))) (found (pos 2 ∷ pos 1 ∷ [])) ≡ fine (fine (judged (pos 2) 1) ∷ fine (judged (pos 0) 1) ∷ [])
unfolding near1 found max_z min_z floor_z largest smallest weighted total value shares levels strip digits whole signed unless unless_at climb run after forest weigh nodes_where node_lines complete read_text greatest among uses powers nodes
judged-near = refl

-- B turned: the same at an N root
judged-turned : next (read_text turned-b) (found (pos 2 ∷ pos 1 ∷ pos 0 ∷ pos 3 ∷ negsuc 0 ∷ [])) ≡ fine (fine (judged (pos 6) 1) ∷ fine (judged (pos 0) 1) ∷ refused NoChild ∷ refused NoChild ∷ refused NoChild ∷ [])
unfolding found max_z min_z floor_z largest smallest weighted total value shares levels strip digits whole signed unless unless_at climb run after forest weigh nodes_where node_lines complete read_text greatest among uses powers nodes
judged-turned = refl

-- three plays: two of them are level, and the other is three quarters of a point worse
judged-level : next (read_text (three-head ++ (max-root ++ three))) (found (pos 1 ∷ pos 2 ∷ pos 3 ∷ [])) ≡ fine (fine (judged (pos 0) 2) ∷ fine (judged (pos 3) 2) ∷ fine (judged (pos 0) 2) ∷ [])
unfolding three-head three1 three3 three4 three5 three6 three7 three found max_z min_z floor_z largest smallest weighted total value shares levels strip digits whole signed unless unless_at climb run after forest weigh nodes_where node_lines complete read_text greatest among uses powers nodes
judged-level = refl

-- the same plays at an N root, where that one is the best alone
judged-level-n : next (read_text (three-head ++ (min-root ++ three))) (found (pos 1 ∷ pos 2 ∷ pos 3 ∷ [])) ≡ fine (fine (judged (pos 3) 1) ∷ fine (judged (pos 0) 1) ∷ fine (judged (pos 3) 1) ∷ [])
unfolding three-head three1 three3 three4 three5 three6 three7 three found max_z min_z floor_z largest smallest weighted total value shares levels strip digits whole signed unless unless_at climb run after forest weigh nodes_where node_lines complete read_text greatest among uses powers nodes
judged-level-n = refl

-- a lone leaf: no decision, whatever the number
judged-lone : next (read_text lone-leaf) (found (pos 1 ∷ pos 7 ∷ pos 0 ∷ negsuc 0 ∷ [])) ≡ fine (fine no_decision ∷ fine no_decision ∷ fine no_decision ∷ fine no_decision ∷ [])
unfolding found max_z min_z floor_z largest smallest weighted total value shares levels strip digits whole signed unless unless_at climb run after forest weigh nodes_where node_lines complete read_text greatest among uses powers nodes
judged-lone = refl

-- a C root: the same
judged-toss : next (read_text toss) (found (pos 1 ∷ pos 2 ∷ pos 3 ∷ pos 0 ∷ negsuc 0 ∷ [])) ≡ fine (fine no_decision ∷ fine no_decision ∷ fine no_decision ∷ fine no_decision ∷ fine no_decision ∷ [])
unfolding found max_z min_z floor_z largest smallest weighted total value shares levels strip digits whole signed unless unless_at climb run after forest weigh nodes_where node_lines complete read_text greatest among uses powers nodes
judged-toss = refl

-- B's C alone under an M: forced, and no decision for its own number and for others
judged-forced : next (read_text forced-b) (found (pos 1 ∷ pos 2 ∷ pos 0 ∷ negsuc 0 ∷ [])) ≡ fine (fine no_decision ∷ fine no_decision ∷ fine no_decision ∷ fine no_decision ∷ [])
unfolding found max_z min_z floor_z largest smallest weighted total value shares levels strip digits whole signed unless unless_at climb run after forest weigh nodes_where node_lines complete read_text greatest among uses powers nodes
judged-forced = refl

-- the same under an N
judged-forced-n : next (read_text (forced-head ++ (min-root ++ (forced1 ++ (forced2 ++ forced3))))) (found (pos 1 ∷ pos 2 ∷ pos 0 ∷ negsuc 0 ∷ [])) ≡ fine (fine no_decision ∷ fine no_decision ∷ fine no_decision ∷ fine no_decision ∷ [])
unfolding found max_z min_z floor_z largest smallest weighted total value shares levels strip digits whole signed unless unless_at climb run after forest weigh nodes_where node_lines complete read_text greatest among uses powers nodes
judged-forced-n = refl
