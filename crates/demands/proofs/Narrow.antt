-- A table with a C whose own ends are narrower than the table's: its index, and its searches, by computation. Document 02, Item 14.
use Rattle.std.proofs.Common.{Err, Ok, Result}
use Rattle.search_call.specs.declared.Bounds.{Bounds}
use Prim.Native.Nat.{ℕ}
use mathlib.Core.Path.{◌≡◌, refl}
use mathlib.Core.Bool.{false}
use mathlib.Core.List.{List, [], ◌∷◌, ◌++◌}
use lib.IntN.{ℤ, pos, negsuc}
use Rattle.field.specs.Field.{strip, digits, whole as whole_field, signed, leading}
use Rattle.numbers.specs.Integers.{max_z, min_z, floor_z, ceil_z}
use Rattle.line.specs.declared.Refusal.{Refusal}
use Rattle.line.specs.declared.Refusal.TheVariants.{NoRoom, BadMargin, BadIndex}
use Rattle.line.specs.Refusal.{unless, unless_at}
use Rattle.line.specs.Line.{climb, among}
use Rattle.table.specs.Tree.{run, after as after_run, forest, weigh, nodes_where, powers, uses, leaves}
use Rattle.table.specs.Table.{node_lines, complete, read_text, greatest}
use Rattle.table.specs.Examples.{max-root, b1, chance}
use Rattle.table.specs.declared.Play.TheVariants.{Child}
use Rattle.writing.specs.Text.{lines_text}
use Rattle.turn_call.specs.Call.{turn_bytes}
use Rattle.index.specs.Index.{values_of, lowest_of, highest_of, entries, written, agrees}
use Rattle.search.specs.Search.{begin, finish, cut, point, met_spent, lower, upper, safer, update, stop, scan, search, search_root}
use Rattle.search.specs.Whole.{down_z, up_z, gain_z, loss_z, down_own, up_own, in_grains}
use Rattle.search_call.specs.Call.{search_call, search_reads}
use Rattle.index_call.specs.Call.{index_call, index_lows, index_highs, indexed_call, indexed_reads}

-- "   7   4       0     100"
abbrev narrow-head : List ℕ
narrow-head = 32 ∷ 32 ∷ 32 ∷ 55 ∷ 32 ∷ 32 ∷ 32 ∷ 52 ∷ 32 ∷ 32 ∷ 32 ∷ 32 ∷ 32 ∷ 32 ∷ 32 ∷ 48 ∷ 32 ∷ 32 ∷ 32 ∷ 32 ∷ 32 ∷ 49 ∷ 48 ∷ 48 ∷ 10 ∷ []

-- "   3 L    2    2       4"
abbrev narrow3 : List ℕ
narrow3 = 32 ∷ 32 ∷ 32 ∷ 51 ∷ 32 ∷ 76 ∷ 32 ∷ 32 ∷ 32 ∷ 32 ∷ 50 ∷ 32 ∷ 32 ∷ 32 ∷ 32 ∷ 50 ∷ 32 ∷ 32 ∷ 32 ∷ 32 ∷ 32 ∷ 32 ∷ 32 ∷ 52 ∷ 10 ∷ []

-- "   4 L    2    1       6"
abbrev narrow4 : List ℕ
narrow4 = 32 ∷ 32 ∷ 32 ∷ 52 ∷ 32 ∷ 76 ∷ 32 ∷ 32 ∷ 32 ∷ 32 ∷ 50 ∷ 32 ∷ 32 ∷ 32 ∷ 32 ∷ 49 ∷ 32 ∷ 32 ∷ 32 ∷ 32 ∷ 32 ∷ 32 ∷ 32 ∷ 54 ∷ 10 ∷ []

-- "   5 L    2    1       5"
abbrev narrow5 : List ℕ
narrow5 = 32 ∷ 32 ∷ 32 ∷ 53 ∷ 32 ∷ 76 ∷ 32 ∷ 32 ∷ 32 ∷ 32 ∷ 50 ∷ 32 ∷ 32 ∷ 32 ∷ 32 ∷ 49 ∷ 32 ∷ 32 ∷ 32 ∷ 32 ∷ 32 ∷ 32 ∷ 32 ∷ 53 ∷ 10 ∷ []

-- "   5 L    2    1       4"
abbrev other5 : List ℕ
other5 = 32 ∷ 32 ∷ 32 ∷ 53 ∷ 32 ∷ 76 ∷ 32 ∷ 32 ∷ 32 ∷ 32 ∷ 50 ∷ 32 ∷ 32 ∷ 32 ∷ 32 ∷ 49 ∷ 32 ∷ 32 ∷ 32 ∷ 32 ∷ 32 ∷ 32 ∷ 32 ∷ 52 ∷ 10 ∷ []

-- "   5 L    2    1       7"
abbrev wider5 : List ℕ
wider5 = 32 ∷ 32 ∷ 32 ∷ 53 ∷ 32 ∷ 76 ∷ 32 ∷ 32 ∷ 32 ∷ 32 ∷ 50 ∷ 32 ∷ 32 ∷ 32 ∷ 32 ∷ 49 ∷ 32 ∷ 32 ∷ 32 ∷ 32 ∷ 32 ∷ 32 ∷ 32 ∷ 55 ∷ 10 ∷ []

-- "   6 L    0            9"
abbrev narrow6 : List ℕ
narrow6 = 32 ∷ 32 ∷ 32 ∷ 54 ∷ 32 ∷ 76 ∷ 32 ∷ 32 ∷ 32 ∷ 32 ∷ 48 ∷ 32 ∷ 32 ∷ 32 ∷ 32 ∷ 32 ∷ 32 ∷ 32 ∷ 32 ∷ 32 ∷ 32 ∷ 32 ∷ 32 ∷ 57 ∷ 10 ∷ []

-- Plays 1 and 3 are worth 5 and 9, and play 2 rolls 4, 6 or 5. The table's ends are 0 and 100, the root's own 4 and 9, and the C's own 4 and 6.
abbrev narrow : List ℕ
narrow = narrow-head ++ max-root ++ b1 ++ chance ++ narrow3 ++ narrow4 ++ narrow5 ++ narrow6

-- the same with other utilities for node 5: one that leaves the index unchanged, and one that does not
abbrev other : List ℕ
other = narrow-head ++ max-root ++ b1 ++ chance ++ narrow3 ++ narrow4 ++ other5 ++ narrow6

abbrev wider : List ℕ
wider = narrow-head ++ max-root ++ b1 ++ chance ++ narrow3 ++ narrow4 ++ wider5 ++ narrow6

abbrev turned : List ℕ
turned = turn_bytes (read_text narrow) 25625

-- lists of eight entries, one more than there are nodes
abbrev lent-lows : List ℤ
lent-lows = pos 70 ∷ pos 71 ∷ pos 72 ∷ pos 73 ∷ pos 74 ∷ pos 75 ∷ pos 76 ∷ pos 77 ∷ []

abbrev lent-highs : List ℤ
lent-highs = pos 80 ∷ pos 81 ∷ pos 82 ∷ pos 83 ∷ pos 84 ∷ pos 85 ∷ pos 86 ∷ pos 87 ∷ []

-- what building the index leaves in them: entries 0 and 2 are new
abbrev lows : List ℤ
lows = pos 4 ∷ pos 71 ∷ pos 4 ∷ pos 73 ∷ pos 74 ∷ pos 75 ∷ pos 76 ∷ pos 77 ∷ []

abbrev highs : List ℤ
highs = pos 9 ∷ pos 81 ∷ pos 6 ∷ pos 83 ∷ pos 84 ∷ pos 85 ∷ pos 86 ∷ pos 87 ∷ []

-- an index of seven entries with these ends of the root and of the C, and 0 for every leaf
abbrev ends : (root under : ℤ) → List ℤ
ends root under = root ∷ pos 0 ∷ under ∷ pos 0 ∷ pos 0 ∷ pos 0 ∷ pos 0 ∷ []

built : (index_call (read_text narrow) 8 ≡ (Ok tt))
    × (written (index_lows (read_text narrow) 8) lent-lows ≡ lows)
    × (written (index_highs (read_text narrow) 8) lent-highs ≡ highs)
    × (index_call (read_text narrow) 7 ≡ (Ok tt))
    × (index_call (read_text narrow) 6 ≡ Err NoRoom)
unfolding strip digits whole_field signed leading lines_text unless unless_at climb run after_run forest weigh nodes_where leaves node_lines complete read_text greatest among uses powers max_z min_z floor_z ceil_z values_of lowest_of highest_of entries written agrees begin finish cut point met_spent lower upper safer update stop scan search search_root down_z up_z gain_z loss_z down_own up_own in_grains
built = (refl, refl, refl, refl, refl)

-- an answer, and the leaves that were read
record Answer : Type 0 where
  answer : Result Bounds Refusal
  read : List ℕ

abbrev found : (z : ℤ) (count : ℕ) (read : List ℕ) → Answer
found z count read =
    record { answer = Ok (record { low = z; high = z; difference = pos 0; play = Child 6; leaves = count; spent = false; grain = 4 }); read = read }

abbrev refusal : Refusal → Answer
refusal r = record { answer = Err r; read = [] }

abbrev plain : (text : List ℕ) → Answer
plain text = record { answer = search_call (read_text text) (pos 0) 5; read = search_reads (read_text text) (pos 0) 5 }

abbrev indexed : (text : List ℕ) (m : ℤ) (lows highs : List ℤ) (room : ℕ) → Answer
indexed text m lows highs room = record { answer = indexed_call (read_text text) m lows highs room; read = indexed_reads (read_text text) m lows highs room }

-- Without the index all leaves of the C are read. With it the first is enough: the C is then worth at most 5, which play 1 is worth already. The same with
-- other entries for the leaves, and with another utility for an unread leaf; and of the table turned, with its own index.
fewer-leaves : (plain narrow ≡ found (pos 36) 5 (1 ∷ 3 ∷ 4 ∷ 5 ∷ 6 ∷ []))
    × (indexed narrow (pos 0) lows highs 5 ≡ found (pos 36) 3 (1 ∷ 3 ∷ 6 ∷ []))
    × (indexed narrow (pos 0) (ends (pos 4) (pos 4)) (ends (pos 9) (pos 6)) 5 ≡ found (pos 36) 3 (1 ∷ 3 ∷ 6 ∷ []))
    × (indexed other (pos 0) lows highs 5 ≡ found (pos 36) 3 (1 ∷ 3 ∷ 6 ∷ []))
    × (plain turned ≡ found (negsuc 35) 5 (1 ∷ 3 ∷ 4 ∷ 5 ∷ 6 ∷ []))
    × (indexed turned (pos 0) (ends (negsuc 8) (negsuc 5)) (ends (negsuc 3) (negsuc 3)) 5 ≡ found (negsuc 35) 3 (1 ∷ 3 ∷ 6 ∷ []))
unfolding strip digits whole_field signed leading lines_text unless unless_at climb run after_run forest weigh nodes_where leaves node_lines complete read_text greatest among uses powers max_z min_z floor_z ceil_z values_of lowest_of highest_of entries written agrees begin finish cut point met_spent lower upper safer update stop scan search search_root down_z up_z gain_z loss_z down_own up_own in_grains
fewer-leaves = (refl, refl, refl, refl, refl, refl)

-- A low of the C that is one too high, a high of the root that is one too low, a list that is one too short; the index of another table, and of the table
-- that was turned; then 22 before 12 and 11, 12 before 11, and 11.
refusals : (indexed narrow (pos 0) (ends (pos 4) (pos 5)) highs 5
    ∷ indexed narrow (pos 0) lows (ends (pos 8) (pos 6)) 5
    ∷ indexed narrow (pos 0) lows (pos 9 ∷ pos 0 ∷ pos 6 ∷ pos 0 ∷ pos 0 ∷ pos 0 ∷ []) 5
    ∷ indexed wider (pos 0) lows highs 5
    ∷ indexed turned (pos 0) lows highs 5
    ∷ indexed narrow (negsuc 0) lent-lows lent-highs 0
    ∷ indexed narrow (negsuc 0) lows highs 0
    ∷ indexed narrow (pos 0) lows highs 4
    ∷ [])
    ≡ refusal BadIndex
    ∷ refusal BadIndex
    ∷ refusal BadIndex
    ∷ refusal BadIndex
    ∷ refusal BadIndex
    ∷ refusal BadIndex
    ∷ refusal BadMargin
    ∷ refusal NoRoom
    ∷ []
unfolding strip digits whole_field signed leading lines_text unless unless_at climb run after_run forest weigh nodes_where leaves node_lines complete read_text greatest among uses powers max_z min_z floor_z ceil_z values_of lowest_of highest_of entries written agrees begin finish cut point met_spent lower upper safer update stop scan search search_root down_z up_z gain_z loss_z down_own up_own in_grains
refusals = refl
