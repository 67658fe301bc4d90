-- What the calls `build_index` and `search_indexed` answer. Document 02, Item 14.
use Rattle.search_call.specs.declared.Bounds.{Bounds}
use Rattle.line.specs.declared.Refusal.{Refusal}
use Rattle.std.specs.Prelude.{ℕ, min, List, [], ◌∷◌, ltb, length, ℤ, Err, Ok, Result}
use Rattle.std.proofs.Math.Option.{Option}
use Rattle.line.specs.declared.Refusal.TheVariants.{NoRoom, BadMargin, BadIndex}
use Rattle.line.specs.Refusal.{Verdict, refused, fine, unless, next, number_of, line_of}
use Rattle.line.specs.Line.{to_nat}
use Rattle.table.specs.Tree.{leaves}
use Rattle.table.specs.Table.{Table, tree}
use Rattle.index.specs.Index.{lows_of, highs_of, not_own}
use Rattle.search.specs.Whole.{searched_own}
use Rattle.search_call.specs.Call.{Sought, bad_margin, search_answer, search_list}

-- ---- "a call builds it"

-- how many entries both lists have room for
abbrev pub room_in : (lows highs : List ℤ) → ℕ
room_in lows highs = min (length lows) (length highs)

-- The index of a table, for lists of so many entries: after the table's refusals, "a buffer too short to build it in is 11".
abbrev pub indexed : Verdict Table → (room : ℕ) → Verdict Table
indexed v room = next v (λ (t : Table). unless (record { holds = ltb room (length t.lines); gives = NoRoom } ∷ []) t)

abbrev pub index_answer : Verdict Table → Result Unit Refusal
index_answer (refused r) = Err r
index_answer (fine t) = (Ok tt)

-- the entries that are written; nothing is where the call is refused
abbrev pub index_entries : (Table → List (Option ℤ)) → Verdict Table → List (Option ℤ)
index_entries f (refused r) = []
index_entries f (fine t) = f t

abbrev pub index_call : Verdict Table → (room : ℕ) → Result Unit Refusal
index_call v room = index_answer (indexed v room)

abbrev pub index_lows : Verdict Table → (room : ℕ) → List (Option ℤ)
index_lows v room = index_entries lows_of (indexed v room)

abbrev pub index_highs : Verdict Table → (room : ℕ) → List (Option ℤ)
index_highs v room = index_entries highs_of (indexed v room)

-- the documents' number and line of every answer, 0 where there is no refusal
abbrev pub index_number : Result Unit Refusal → ℕ
index_number (Ok tt) = 0
index_number (Err r) = number_of r

abbrev pub index_line : Result Unit Refusal → ℕ
index_line (Ok tt) = 0
index_line (Err r) = line_of r

-- ---- "and another search uses it"

-- The search with a lent index at the margin m, with a leaf list of so many entries: "Refused: 22, .. after 18"; then 12 and 11, as in the plain search.
abbrev pub sought_indexed : Verdict Table → ℤ → (lows highs : List ℤ) → (room : ℕ) → Verdict Sought
sought_indexed v m lows highs room =
    next v
    (λ (t : Table).
    unless
    (record { holds = not_own t lows highs; gives = BadIndex }
    ∷ record { holds = bad_margin m; gives = BadMargin }
    ∷ record { holds = ltb room (leaves (tree t)); gives = NoRoom }
    ∷ [])
    (record { table = t; seen = searched_own t (to_nat m) }))

abbrev pub indexed_call : Verdict Table → ℤ → (lows highs : List ℤ) → (room : ℕ) → Result Bounds Refusal
indexed_call v m lows highs room = search_answer (sought_indexed v m lows highs room)

abbrev pub indexed_reads : Verdict Table → ℤ → (lows highs : List ℤ) → (room : ℕ) → List ℕ
indexed_reads v m lows highs room = search_list (sought_indexed v m lows highs room)
