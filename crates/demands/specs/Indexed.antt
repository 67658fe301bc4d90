-- An index of ends. Document 02, Item 14; over texts, at the public calls: what the index is, the call that builds it and the search that uses it. What is
-- quoted is the item, where no other paper is named. proofs/Index.antt and proofs/Indexed.antt have the theorems, proofs/Narrow.antt an example.
use Rattle.std.specs.Prelude.{ℕ, suc, ◌≤◌, ◌<◌, ◌≡◌, true, false, cond, length, ℤ, neg_ℤ, ◌-ℤ◌, Err, Ok, Result}
use mathlib.Core.List.{List, [], ◌∷◌, Memᴰ, map}
use Rattle.std.proofs.Math.Option.{Option, none, some}
use Rattle.std.specs.Int.Signed.{lt_z, le_z}
use Rattle.line.specs.declared.Line.{Line}
use Rattle.line.specs.declared.Refusal.{Refusal}
use Rattle.line.specs.declared.Refusal.TheVariants.{NoRoom, BadMargin, BadIndex}
use Rattle.line.specs.Refusal.{refused, fine}
use Rattle.line.specs.Line.{to_nat, is_leaf}
use Rattle.table.specs.Tree.{run, leaves}
use Rattle.table.specs.Table.{Table, tree, read_text, grain}
use Rattle.table.specs.Root.{Side, nobody, to_play, root_of}
use Rattle.table.specs.declared.Play.TheVariants.{Child, NoPlay}
use Rattle.index.specs.Index.{Ends, index_of, written}
use Rattle.worth.specs.Call.{exact_call}
use Rattle.turn_call.specs.Call.{turn_of}
use Rattle.search.specs.Exact.{OwnNoRemainder}
use Rattle.search.specs.Whole.{searched_own}
use Rattle.search_call.specs.declared.Bounds.{Bounds}
use Rattle.search_call.specs.Call.{bad_margin, bounds_of, search_line}
use Rattle.index_call.specs.Call.{room_in, index_call, index_lows, index_highs, index_line, indexed_call, indexed_reads}
use Rattle.promise.specs.Entered.{Entered, worse, FirstBest, entered_own}
use Rattle.promise.specs.Turned.{turn_entry}
use Rattle.line.specs.declared.Kind.TheVariants.{Leaf}
use Rattle.demands.specs.Demands.{Promised, LongEnough, Differ, Mirrors}

-- ---- what the index is, from a table's lines

-- the utilities of the leaves among these lines
unfoldable pub utilities_of : List Line → List ℤ
utilities_of [] = []
utilities_of (l ∷ ls) = cond (is_leaf l.kind) (l.utility ∷ utilities_of ls) (utilities_of ls)

-- "the lowest and highest utility under it": z is one of these numbers, and none of them is lower
pub record Lowest (xs : List ℤ) (z : ℤ) : Type 0 where
  pub one : Memᴰ z xs
  pub bound : (x : ℤ) → Memᴰ x xs → le_z z x ≡ true

-- and none is higher
pub record Highest (xs : List ℤ) (z : ℤ) : Type 0 where
  pub one : Memᴰ z xs
  pub bound : (x : ℤ) → Memᴰ x xs → le_z x z ≡ true

-- there is no more than one of each
abbrev pub OneEnd : Type 0
OneEnd = ((xs : List ℤ) (y z : ℤ) → Lowest xs y → Lowest xs z → y ≡ z) × ((xs : List ℤ) (y z : ℤ) → Highest xs y → Highest xs z → y ≡ z)

-- "By node number an index holds for each line but leaves .. the lowest and highest utility under it": the lines from node i on, with an entry each. What
-- stands under a line is its run among the lines after it.
pub data Indexes : ℕ → List Line → List (Option Ends) → Type 0 where
  indexes-none : {i : ℕ} → Indexes i [] []
  indexes-leaf : {i : ℕ} {l : Line} {ls : List Line} {es : List (Option Ends)} → l.node ≡ i → l.kind ≡ Leaf → Indexes (suc i) ls es
      → Indexes i (l ∷ ls) (none ∷ es)
  indexes-line : {i : ℕ} {l : Line} {ls : List Line} {e : Ends} {es : List (Option Ends)} → l.node ≡ i → (l.kind ≡ Leaf → ⊥)
      → Lowest (utilities_of (run i ls)) e.low → Highest (utilities_of (run i ls)) e.high → Indexes (suc i) ls es
      → Indexes i (l ∷ ls) (some e ∷ es)

-- there is an entry for each node
abbrev pub IndexIs : Type 0
IndexIs = (s : List ℕ) (t : Table) → read_text s ≡ fine t → Indexes 0 t.lines (index_of t) × (length (index_of t) ≡ length t.lines)

-- ---- "a call builds it", in two lists

-- What a list is before and after, where IsEnd is one of the two above: a line's entry is then its own end, "their entries are not written" of leaves, and
-- what stands behind the nodes is as it was.
pub data Fills (IsEnd : List ℤ → ℤ → Type 0) : ℕ → List Line → (before later : List ℤ) → Type 0 where
  fills-behind : {i : ℕ} {a : List ℤ} → Fills IsEnd i [] a a
  fills-leaf : {i : ℕ} {l : Line} {ls : List Line} {x : ℤ} {a b : List ℤ} → l.node ≡ i → l.kind ≡ Leaf → Fills IsEnd (suc i) ls a b
      → Fills IsEnd i (l ∷ ls) (x ∷ a) (x ∷ b)
  fills-line : {i : ℕ} {l : Line} {ls : List Line} {x y : ℤ} {a b : List ℤ} → l.node ≡ i → (l.kind ≡ Leaf → ⊥)
      → IsEnd (utilities_of (run i ls)) y → Fills IsEnd (suc i) ls a b → Fills IsEnd i (l ∷ ls) (x ∷ a) (y ∷ b)

-- the lists as the call leaves them
abbrev pub built_lows : (s : List ℕ) (lows highs : List ℤ) → List ℤ
built_lows s lows highs = written (index_lows (read_text s) (room_in lows highs)) lows

abbrev pub built_highs : (s : List ℕ) (lows highs : List ℤ) → List ℤ
built_highs s lows highs = written (index_highs (read_text s) (room_in lows highs)) highs

abbrev pub Builds : Type 0
Builds =
    (s : List ℕ) (lows highs : List ℤ) → index_call (read_text s) (room_in lows highs) ≡ (Ok tt)
    → (t : Table) × (read_text s ≡ fine t)
    × Fills Lowest 0 t.lines lows (built_lows s lows highs)
    × Fills Highest 0 t.lines highs (built_highs s lows highs)

-- what it answers: the table's refusal; "a buffer too short to build it in is 11", where a list has fewer entries than there are nodes; else it is built
pub data BuildAnswer (s : List ℕ) (lows highs : List ℤ) : Result Unit Refusal → Type 0 where
  build-table : {r : Refusal} → read_text s ≡ refused r → BuildAnswer s lows highs (Err r)
  build-lows : {t : Table} → read_text s ≡ fine t → length lows < length t.lines → BuildAnswer s lows highs (Err NoRoom)
  build-highs : {t : Table} → read_text s ≡ fine t → length highs < length t.lines → BuildAnswer s lows highs (Err NoRoom)
  build-done : {t : Table} → read_text s ≡ fine t → length t.lines ≤ length lows → length t.lines ≤ length highs → BuildAnswer s lows highs (Ok tt)

abbrev pub BuildAnswers : Type 0
BuildAnswers = (s : List ℕ) (lows highs : List ℤ) → BuildAnswer s lows highs (index_call (read_text s) (room_in lows highs))

-- so 11 is given there and only there
abbrev pub ElevenIs : Type 0
ElevenIs =
    (s : List ℕ) (lows highs : List ℤ)
    → ((t : Table) → read_text s ≡ fine t → room_in lows highs < length t.lines
    → index_call (read_text s) (room_in lows highs) ≡ Err NoRoom)
    × (index_call (read_text s) (room_in lows highs) ≡ Err NoRoom
    → (t : Table) × (read_text s ≡ fine t) × (room_in lows highs < length t.lines))

-- ---- 22: "an index given to the search that is shorter than the nodes or not the table's own"

-- A list that is the table's own, where IsEnd is one of the two above: at least as many entries as there are nodes, and the line's own end for each line
-- but leaves, whose entries are not "compared".
pub data Owns (IsEnd : List ℤ → ℤ → Type 0) : ℕ → List Line → List ℤ → Type 0 where
  owns-behind : {i : ℕ} {a : List ℤ} → Owns IsEnd i [] a
  owns-leaf : {i : ℕ} {l : Line} {ls : List Line} {x : ℤ} {a : List ℤ} → l.node ≡ i → l.kind ≡ Leaf → Owns IsEnd (suc i) ls a → Owns IsEnd i (l ∷ ls) (x ∷ a)
  owns-line : {i : ℕ} {l : Line} {ls : List Line} {x : ℤ} {a : List ℤ} → l.node ≡ i → (l.kind ≡ Leaf → ⊥)
      → IsEnd (utilities_of (run i ls)) x → Owns IsEnd (suc i) ls a → Owns IsEnd i (l ∷ ls) (x ∷ a)

abbrev pub OwnIndex : Table → (lows highs : List ℤ) → Type 0
OwnIndex t lows highs = Owns Lowest 0 t.lines lows × Owns Highest 0 t.lines highs

-- of a text
abbrev pub OwnFor : List ℕ → (lows highs : List ℤ) → Type 0
OwnFor s lows highs = (t : Table) → read_text s ≡ fine t → OwnIndex t lows highs

-- 22 is given exactly for an accepted table with lists that are not its own, whatever the margin and the leaf list are
abbrev pub TwentyTwoIs : Type 0
TwentyTwoIs =
    (s : List ℕ) (m : ℤ) (lows highs : List ℤ) (room : ℕ)
    → ((t : Table) → read_text s ≡ fine t → (OwnIndex t lows highs → ⊥) → indexed_call (read_text s) m lows highs room ≡ Err BadIndex)
    × (indexed_call (read_text s) m lows highs room ≡ Err BadIndex
    → (t : Table) × (read_text s ≡ fine t) × (OwnIndex t lows highs → ⊥))

-- so a list "that is shorter than the nodes" is refused 22
abbrev pub ShortRefused : Type 0
ShortRefused =
    (s : List ℕ) (t : Table) (m : ℤ) (lows highs : List ℤ) (room : ℕ) → read_text s ≡ fine t → room_in lows highs < length t.lines
    → indexed_call (read_text s) m lows highs room ≡ Err BadIndex

-- and the index that was built never is, whatever the lists held before
abbrev pub BuiltAccepted : Type 0
BuiltAccepted =
    (s : List ℕ) (lows highs : List ℤ) → index_call (read_text s) (room_in lows highs) ≡ (Ok tt)
    → OwnFor s (built_lows s lows highs) (built_highs s lows highs)
    × ((m : ℤ) (room : ℕ) → indexed_call (read_text s) m (built_lows s lows highs) (built_highs s lows highs) room ≡ Err BadIndex → ⊥)

-- two lists that are equal at every line but leaves, and equally long as far as the nodes go
pub data SameLists : List Line → (a b : List ℤ) → Type 0 where
  lists-behind : {a b : List ℤ} → SameLists [] a b
  lists-short : {l : Line} {ls : List Line} → SameLists (l ∷ ls) [] []
  lists-leaf : {l : Line} {ls : List Line} {x y : ℤ} {a b : List ℤ} → l.kind ≡ Leaf → SameLists ls a b → SameLists (l ∷ ls) (x ∷ a) (y ∷ b)
  lists-line : {l : Line} {ls : List Line} {x : ℤ} {a b : List ℤ} → SameLists ls a b → SameLists (l ∷ ls) (x ∷ a) (x ∷ b)

-- of leaves: "their entries are not .. compared": what stands in them, and behind the nodes, changes nothing
abbrev pub LeavesFree : Type 0
LeavesFree =
    (s : List ℕ) (t : Table) (m : ℤ) (lows highs lows2 highs2 : List ℤ) (room : ℕ) → read_text s ≡ fine t
    → SameLists t.lines lows lows2 → SameLists t.lines highs highs2
    → (indexed_call (read_text s) m lows highs room ≡ indexed_call (read_text s) m lows2 highs2 room)
    × (indexed_reads (read_text s) m lows highs room ≡ indexed_reads (read_text s) m lows2 highs2 room)

-- What the search answers, the first of these: the table's refusals; "22, .. after 18"; then 12 and 11, as in the search without an index; else the bounds.
pub data IndexedAnswer (s : List ℕ) (m : ℤ) (lows highs : List ℤ) (room : ℕ) : Result Bounds Refusal → Type 0 where
  of-table : {r : Refusal} → read_text s ≡ refused r → IndexedAnswer s m lows highs room (Err r)
  of-index : {t : Table} → read_text s ≡ fine t → (OwnIndex t lows highs → ⊥) → IndexedAnswer s m lows highs room (Err BadIndex)
  of-margin : {t : Table} → read_text s ≡ fine t → OwnIndex t lows highs → bad_margin m ≡ true
      → IndexedAnswer s m lows highs room (Err BadMargin)
  of_room : {t : Table} → read_text s ≡ fine t → OwnIndex t lows highs → bad_margin m ≡ false → room < leaves (tree t)
      → IndexedAnswer s m lows highs room (Err NoRoom)
  of-search : {t : Table} → read_text s ≡ fine t → OwnIndex t lows highs → bad_margin m ≡ false → leaves (tree t) ≤ room
      → IndexedAnswer s m lows highs room (Ok (bounds_of (record { table = t; seen = searched_own t (to_nat m) })))

abbrev pub IndexedAnswers : Type 0
IndexedAnswers =
    (s : List ℕ) (m : ℤ) (lows highs : List ℤ) (room : ℕ) → IndexedAnswer s m lows highs room (indexed_call (read_text s) m lows highs room)

-- Item 3: "A refusal for which no line is named has line 0, here and later": of an accepted table 22, 12 and 11, and 11 of building
abbrev pub NoLine : Type 0
NoLine =
    (s : List ℕ) (t : Table) → read_text s ≡ fine t
    → ((room : ℕ) → index_line (index_call (read_text s) room) ≡ 0)
    × ((m : ℤ) (lows highs : List ℤ) (room : ℕ) → search_line (indexed_call (read_text s) m lows highs room) ≡ 0)

-- ---- demand 3: for a text s, a margin m, the lists of an index, a leaf list of `room` entries and the answer b

-- every accepted table is searched with its own index, at every margin in range, with a list that is long enough
abbrev pub AnswersIndexed : Type 0
AnswersIndexed =
    (s : List ℕ) (t : Table) (m : ℤ) (lows highs : List ℤ) (room : ℕ) → read_text s ≡ fine t → OwnIndex t lows highs → bad_margin m ≡ false → LongEnough s room
    → (b : Bounds) × (indexed_call (read_text s) m lows highs room ≡ Ok b)

-- "The exact worth stays within the bounds, the margin is kept, and the play named is worth within the margin of it."
abbrev pub Indexed1 : Type 0
Indexed1 = (s : List ℕ) (m : ℤ) (lows highs : List ℤ) (room : ℕ) (b : Bounds) → indexed_call (read_text s) m lows highs room ≡ Ok b → Promised s m b

-- the other numbers of the answer; there is no budget, and so none is spent
pub record Counts (t : Table) (read : List ℕ) (b : Bounds) : Type 0 where
  pub difference : b.difference ≡ b.high -ℤ b.low
  pub leaves : b.leaves ≡ length read
  pub spent : b.spent ≡ false
  pub grain : b.grain ≡ grain t

abbrev pub IndexedCounts : Type 0
IndexedCounts =
    (s : List ℕ) (t : Table) (m : ℤ) (lows highs : List ℤ) (room : ℕ) (b : Bounds) → read_text s ≡ fine t
    → indexed_call (read_text s) m lows highs room ≡ Ok b → Counts t (indexed_reads (read_text s) m lows highs room) b

-- The play: at an M or N root the first best of the root plays entered, by the bounds that this search gave them (Item 6); document 01: "at C and L there is
-- none"
abbrev pub IndexedPlay : Type 0
IndexedPlay =
    (s : List ℕ) (t : Table) (m : ℤ) (lows highs : List ℤ) (room : ℕ) (b : Bounds) → read_text s ≡ fine t → indexed_call (read_text s) m lows highs room ≡ Ok b
    → ((side : Side) → root_of (tree t) ≡ to_play side
    → (x : Entered ℤ) × (b.play ≡ Child x.node) × FirstBest (worse lt_z side) (entered_own t (to_nat m)) x)
    × (root_of (tree t) ≡ nobody → b.play ≡ NoPlay)

-- "What demand 3 says of unread leaves holds provided the index is unchanged.": the same lists are lent
abbrev pub Indexed2 : Type 0
Indexed2 =
    (s : List ℕ) (m : ℤ) (lows highs : List ℤ) (room : ℕ) (b : Bounds) → indexed_call (read_text s) m lows highs room ≡ Ok b
    → (u : List ℕ) (D : Differ (indexed_reads (read_text s) m lows highs room) s u) → index_of D.new ≡ index_of D.old
    → (other : ℕ) → LongEnough u other
    → (indexed_call (read_text u) m lows highs other ≡ Ok b)
    × (indexed_reads (read_text u) m lows highs other ≡ indexed_reads (read_text s) m lows highs room)
    × Promised u m b

-- the index is unchanged exactly where lists that are the one table's own are the other's too
abbrev pub UnchangedIndex : Type 0
UnchangedIndex =
    (s u read : List ℕ) (D : Differ read s u) (lows highs : List ℤ) → OwnIndex D.old lows highs
    → (OwnIndex D.new lows highs → index_of D.new ≡ index_of D.old)
    × (index_of D.new ≡ index_of D.old → OwnIndex D.new lows highs)

-- "The turned table is searched with its own index, and what demand 3 says of turning then holds here too.": u is the text that turning writes, for some
-- buffer, and lows2 and highs2 are its own index
abbrev pub Indexed3 : Type 0
Indexed3 =
    (s : List ℕ) (m : ℤ) (lows highs : List ℤ) (room : ℕ) (b : Bounds) → indexed_call (read_text s) m lows highs room ≡ Ok b
    → (size : ℕ) (u : List ℕ) → turn_of (read_text s) size ≡ fine u
    → (lows2 highs2 : List ℤ) → OwnFor u lows2 highs2
    → (other : ℕ) → LongEnough u other
    → (c : Bounds)
    × (indexed_call (read_text u) m lows2 highs2 other ≡ Ok c)
    × Mirrors b c
    × (indexed_reads (read_text u) m lows2 highs2 other ≡ indexed_reads (read_text s) m lows highs room)
    × ((z : ℤ) → exact_call (read_text s) ≡ Ok (record { grains = z; grain = b.grain }) → exact_call (read_text u) ≡ Ok (record { grains = neg_ℤ z; grain = b.grain }))
    × Promised u m c

-- its own index is the table's from the other side: both ends negated and exchanged
abbrev pub IndexTurned : Type 0
IndexTurned =
    (s : List ℕ) (t : Table) → read_text s ≡ fine t → (size : ℕ) (u : List ℕ) → turn_of (read_text s) size ≡ fine u
    → ((v : Table) → read_text u ≡ fine v → index_of v ≡ map turn_entry (index_of t))
    × ((lows highs : List ℤ) → OwnIndex t lows highs → OwnFor u (map neg_ℤ highs) (map neg_ℤ lows))

-- document 01: "Every worth, bound, margin and loss is a whole number of grains": in this search too the divisions of lines 20 and 21 leave no remainder
abbrev pub IndexedDivision : Type 0
IndexedDivision = (s : List ℕ) (t : Table) → read_text s ≡ fine t → (ε : ℕ) → OwnNoRemainder t ε
