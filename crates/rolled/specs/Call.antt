-- What the call `rollouts` answers. Document 01, 'Rollouts' and 'Refused tables and calls'.
use Rattle.rolled.specs.declared.RolledOut.{RolledOut}
use Rattle.line.specs.declared.Refusal.{Refusal}
use Rattle.std.specs.Prelude.{ℕ, ◌||◌, List, [], ◌∷◌, ltb, length, ℤ, Err, Ok, Result}
use Rattle.line.specs.declared.Refusal.TheVariants.{NoRoom, HasChance}
use Rattle.line.specs.Refusal.{Verdict, refused, fine, unless, next, number_of, line_of}
use Rattle.table.specs.Tree.{leaves}
use Rattle.table.specs.Table.{Table, tree}
use Rattle.rollout.specs.Rollout.{Pair}
use Rattle.rollout.specs.Whole.{has_chance, rolled, rolled_worth, rolled_store}

-- The table, where it is rolled out with a leaf list of `list` entries and a store of `room` records: after the table's refusals 13,
-- "rollouts on a table with a C", then 11, "leaf list shorter than the table's leaves, store shorter than its nodes".
abbrev pub rolls : Verdict Table → (list room : ℕ) → Verdict Table
rolls v list room =
    next v
    (λ (t : Table).
    unless
    (record { holds = has_chance t; gives = HasChance }
    ∷ record { holds = ltb list (leaves (tree t)) || ltb room (length t.lines); gives = NoRoom } ∷ [])
    t)

-- "Answer: the worth, the leaves read as above, and the store as last updated"; nothing is written where the call is refused
abbrev pub roll_answer : List ℕ → Verdict Table → Result RolledOut Refusal
roll_answer p (refused r) = Err r
roll_answer p (fine t) = Ok (record { worth = rolled_worth t p; leaves = length (rolled t p).read })

abbrev pub roll_list : List ℕ → Verdict Table → List ℕ
roll_list p (refused r) = []
roll_list p (fine t) = (rolled t p).read

abbrev pub roll_records : List ℕ → Verdict Table → List (Pair ℤ)
roll_records p (refused r) = []
roll_records p (fine t) = rolled_store t p

-- under the policy list p
abbrev pub roll_call : Verdict Table → (p : List ℕ) (list room : ℕ) → Result RolledOut Refusal
roll_call v p list room = roll_answer p (rolls v list room)

abbrev pub roll_reads : Verdict Table → (p : List ℕ) (list room : ℕ) → List ℕ
roll_reads v p list room = roll_list p (rolls v list room)

abbrev pub roll_store : Verdict Table → (p : List ℕ) (list room : ℕ) → List (Pair ℤ)
roll_store v p list room = roll_records p (rolls v list room)

-- document 01's number and line of every answer, 0 where there is no refusal
abbrev pub roll_number : Result RolledOut Refusal → ℕ
roll_number (Ok w) = 0
roll_number (Err r) = number_of r

abbrev pub roll_line : Result RolledOut Refusal → ℕ
roll_line (Ok w) = 0
roll_line (Err r) = line_of r
