-- What the calls `search_table` and `search_within` answer. Document 01, 'The search' and 'Refused tables and calls'; document 02, Item 3.
use Rattle.line.specs.declared.Refusal.{Refusal}
use Rattle.std.specs.Prelude.{ℕ, Bool, ◌||◌, List, [], ◌∷◌, ltb, length, ℤ, pos, ◌-ℤ◌, Err, Ok, Result}
use Rattle.std.specs.Int.Signed.{lt_z}
use Rattle.line.specs.declared.Refusal.TheVariants.{NoRoom, BadMargin, BadBudget}
use Rattle.line.specs.Refusal.{Verdict, refused, fine, unless, next, number_of, line_of}
use Rattle.line.specs.Line.{to_nat}
use Rattle.table.specs.Tree.{leaves}
use Rattle.table.specs.Table.{Table, tree, grain}
use Rattle.table.specs.Root.{play_of}
use Rattle.search.specs.Search.{Seen, node_of}
use Rattle.search.specs.Whole.{searched, searched_within}
use Rattle.search_call.specs.declared.Bounds.{Bounds}

-- z is none of the whole numbers from 0 to top
abbrev pub beyond : (top z : ℤ) → Bool
beyond top z = lt_z z (pos 0) || lt_z top z

-- 12: "margin not a whole number from 0 to 40,000,000,000,000"
abbrev pub bad_margin : ℤ → Bool
bad_margin m = beyond (pos 40000000000000) m

-- Item 3: "a number of leaf reads, 0 to 1,024", and 17 for "any other budget"
abbrev pub bad_budget : ℤ → Bool
bad_budget b = beyond (pos 1024) b

-- an accepted table, and what its search gave
pub record Sought : Type 0 where
  pub table : Table
  pub seen : Seen ℤ

-- The search at the margin m, with a leaf list of so many entries: after the table's refusals 12, then 11, "leaf list shorter than the
-- table's leaves".
abbrev pub sought : Verdict Table → ℤ → ℕ → Verdict Sought
sought v m room =
    next v
    (λ (t : Table).
    unless (record { holds = bad_margin m; gives = BadMargin } ∷ record { holds = ltb room (leaves (tree t)); gives = NoRoom } ∷ [])
    (record { table = t; seen = searched t (to_nat m) }))

-- The same within a budget b: "Refused: 17, any other budget, after 12."
abbrev pub sought_within : Verdict Table → ℤ → ℤ → ℕ → Verdict Sought
sought_within v m b room =
    next v
    (λ (t : Table).
    unless
    (record { holds = bad_margin m; gives = BadMargin }
    ∷ record { holds = bad_budget b; gives = BadBudget }
    ∷ record { holds = ltb room (leaves (tree t)); gives = NoRoom }
    ∷ [])
    (record { table = t; seen = searched_within t (to_nat m) (to_nat b) }))

-- "The answer tells low, high, their difference, the play, leaves read, and whether the budget was spent", and G
abbrev pub bounds_of : Sought → Bounds
bounds_of s =
    record {
      low = s.seen.low;
      high = s.seen.high;
      difference = s.seen.high -ℤ s.seen.low;
      play = play_of (node_of s.seen.play);
      leaves = length s.seen.read;
      spent = s.seen.spent;
      grain = grain s.table;
    }

abbrev pub search_answer : Verdict Sought → Result Bounds Refusal
search_answer (refused r) = Err r
search_answer (fine s) = Ok (bounds_of s)

-- "their node numbers fill the lent list in reading sequence"; nothing is written where the call is refused
abbrev pub search_list : Verdict Sought → List ℕ
search_list (refused r) = []
search_list (fine s) = s.seen.read

abbrev pub search_call : Verdict Table → ℤ → ℕ → Result Bounds Refusal
search_call v m room = search_answer (sought v m room)

abbrev pub search_reads : Verdict Table → ℤ → ℕ → List ℕ
search_reads v m room = search_list (sought v m room)

abbrev pub within_call : Verdict Table → ℤ → ℤ → ℕ → Result Bounds Refusal
within_call v m b room = search_answer (sought_within v m b room)

abbrev pub within_reads : Verdict Table → ℤ → ℤ → ℕ → List ℕ
within_reads v m b room = search_list (sought_within v m b room)

-- the documents' number and line of every answer, 0 where there is no refusal
abbrev pub search_number : Result Bounds Refusal → ℕ
search_number (Ok b) = 0
search_number (Err r) = number_of r

abbrev pub search_line : Result Bounds Refusal → ℕ
search_line (Ok b) = 0
search_line (Err r) = line_of r
