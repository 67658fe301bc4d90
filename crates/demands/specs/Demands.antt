-- Demand 3 at the public calls, and demand 2's sentence on rollouts, stated over texts. Document 01, 'The search', third paragraph, says what the words of
-- demand 3 mean; what is quoted over the sentences is the demand itself. proofs/Demands.antt has the theorems; demand 1 is in Untouched.antt.
use Rattle.std.specs.Prelude.{ℕ, ◌≤◌, ◌≡◌, true, false, length, ℤ, neg_ℤ, ◌+ℤ◌, Ok}
use mathlib.Core.List.{List, [], ◌∷◌, Memᴰ}
use Rattle.std.proofs.Math.Option.{Option, none, some}
use Rattle.std.specs.Int.Signed.{le_z}
use Rattle.line.specs.declared.Head.{Head}
use Rattle.line.specs.declared.Line.{Line}
use Rattle.line.specs.Refusal.{Verdict, refused, fine}
use Rattle.line.specs.Line.{Within}
use Rattle.table.specs.Tree.{leaves}
use Rattle.table.specs.Table.{Table, tree, read_text}
use Rattle.table.specs.Leaves.{Distinct}
use Rattle.table.specs.Padding.{SameText}
use Rattle.table.specs.declared.Play.TheVariants.{Child}
use Rattle.worth.specs.Call.{exact_call}
use Rattle.writing.specs.Text.{table_text}
use Rattle.turn_call.specs.Call.{turn_of}
use Rattle.search_call.specs.declared.Bounds.{Bounds}
use Rattle.search_call.specs.Call.{bad_margin, search_call, search_reads}
use Rattle.promise.specs.Play.{play_worth}
use Rattle.rollout.specs.Whole.{has_chance}
use Rattle.line.specs.declared.Kind.TheVariants.{Leaf}
use Rattle.rolled.specs.Call.{roll_call, roll_reads}

-- ---- the bounds and the play

-- "a play is worth the exact worth of the root child that it names": of node n as a root child in the text
abbrev pub child_worth : Verdict Table → ℕ → Option ℤ
child_worth (refused r) n = none
child_worth (fine t) n = play_worth t n

-- What is promised of the answer b for the text s at the margin m: "the exact worth lies between the two bounds or on one of them, they differ by at
-- most the margin, and the play named, if any, is worth within the margin of the exact worth". Both worths are the text's own.
pub record Promised (s : List ℕ) (m : ℤ) (b : Bounds) : Type 0 where
  pub worth : ℤ
  pub exact : exact_call (read_text s) ≡ Ok (record { grains = worth; grain = b.grain })
  pub above : le_z b.low worth ≡ true
  pub below : le_z worth b.high ≡ true
  pub narrow : le_z b.high (b.low +ℤ m) ≡ true
  pub near : (n : ℕ) → b.play ≡ Child n → (v : ℤ) × (child_worth (read_text s) n ≡ some v) × (le_z v (worth +ℤ m) ≡ true) × (le_z worth (v +ℤ m) ≡ true)

-- "any leaf list that is long enough": as long as the text's table has leaves
abbrev pub LongEnough : List ℕ → ℕ → Type 0
LongEnough s room = (t : Table) → read_text s ≡ fine t → leaves (tree t) ≤ room

-- ---- other utilities

-- a line with another utility
abbrev pub with_utility : ℤ → Line → Line
with_utility z l = record { node = l.node; kind = l.kind; parent = l.parent; weight = l.weight; utility = z; chances = l.chances }

-- lines that differ in utilities alone, and not where the node's number is in the list: "a leaf is unread when its number is not among them"
pub data SameLines (read : List ℕ) : List Line → List Line → Type 0 where
  same_none : SameLines read [] []
  same_more : {l : Line} {z : ℤ} {ls ms : List Line} → (Memᴰ l.node read → l.utility ≡ z) → SameLines read ls ms → SameLines read (l ∷ ls) (with_utility z l ∷ ms)

-- "if any unread leaves are then given other utilities within the table's ends": each line is as it was, or is a leaf whose number is not in the list,
-- with a utility within the ends of the head h
pub data Given (h : Head) (read : List ℕ) : List Line → List Line → Type 0 where
  given-none : Given h read [] []
  given-kept : {l : Line} {ls ms : List Line} → Given h read ls ms → Given h read (l ∷ ls) (l ∷ ms)
  given-new : {l : Line} {z : ℤ} {ls ms : List Line} → l.kind ≡ Leaf → (Memᴰ l.node read → ⊥) → Within h z → Given h read ls ms → Given h read (l ∷ ls) (with_utility z l ∷ ms)

-- two accepted texts that differ in utilities of unread leaves alone
pub record Differ (read : List ℕ) (s u : List ℕ) : Type 0 where
  pub old : Table
  pub new : Table
  pub is-old : read_text s ≡ fine old
  pub is-new : read_text u ≡ fine new
  pub head : new.head ≡ old.head
  pub lines : SameLines read old.lines new.lines

-- ---- the turned table

-- "its low is minus the old high, its high is minus the old low, its play is the same child or again none"; all else in the answer is as it was
pub record Mirrors (b c : Bounds) : Type 0 where
  pub low : c.low ≡ neg_ℤ b.high
  pub high : c.high ≡ neg_ℤ b.low
  pub difference : c.difference ≡ b.difference
  pub play : c.play ≡ b.play
  pub leaves : c.leaves ≡ b.leaves
  pub spent : c.spent ≡ b.spent
  pub grain : c.grain ≡ b.grain

-- ---- the sentences: "For every table, margin and leaf list that the bounded search accepts", a text s, a margin m and a list of `room` entries

-- these are all that have an accepted table, a margin of 12's range and room for the table's leaves: none is refused
abbrev pub Answers : Type 0
Answers =
    (s : List ℕ) (t : Table) (m : ℤ) (room : ℕ) → read_text s ≡ fine t → bad_margin m ≡ false → LongEnough s room
    → (b : Bounds) × (search_call (read_text s) m room ≡ Ok b)

-- "the exact worth lies between the two bounds or on one of them, they differ by at most the margin, and the play named, if any, is worth within the
-- margin of the exact worth"
abbrev pub Sentence1 : Type 0
Sentence1 = (s : List ℕ) (m : ℤ) (room : ℕ) (b : Bounds) → search_call (read_text s) m room ≡ Ok b → Promised s m b

-- "if any unread leaves are then given other utilities within the table's ends, the same answer and the same leaves in the same sequence come back, and
-- all of this is still true of the new worths"
abbrev pub Sentence2 : Type 0
Sentence2 =
    (s : List ℕ) (m : ℤ) (room : ℕ) (b : Bounds) → search_call (read_text s) m room ≡ Ok b
    → (u : List ℕ) → Differ (search_reads (read_text s) m room) s u
    → (other : ℕ) → LongEnough u other
    → (search_call (read_text u) m other ≡ Ok b)
    × (search_reads (read_text u) m other ≡ search_reads (read_text s) m room)
    × Promised u m b

-- "are then given": whatever utilities unread leaves are given within the ends, there is an accepted text of the lines with them and the same header
abbrev pub GivenText : Type 0
GivenText =
    (s : List ℕ) (t : Table) → read_text s ≡ fine t
    → (read : List ℕ) (lines : List Line) → Given t.head read t.lines lines
    → (u : List ℕ) × (D : Differ read s u) × (D.new.lines ≡ lines)

-- "if the table is turned, the same leaves are read in the same sequence, the same play or again none is named, and the two bounds come back negated
-- and exchanged": u is the text that turning writes, for some buffer
abbrev pub Sentence3 : Type 0
Sentence3 =
    (s : List ℕ) (m : ℤ) (room : ℕ) (b : Bounds) → search_call (read_text s) m room ≡ Ok b
    → (size : ℕ) (u : List ℕ) → turn_of (read_text s) size ≡ fine u
    → (other : ℕ) → LongEnough u other
    → (c : Bounds)
    × (search_call (read_text u) m other ≡ Ok c)
    × Mirrors b c
    × (search_reads (read_text u) m other ≡ search_reads (read_text s) m room)
    × ((z : ℤ) → exact_call (read_text s) ≡ Ok (record { grains = z; grain = b.grain }) → exact_call (read_text u) ≡ Ok (record { grains = neg_ℤ z; grain = b.grain }))
    × Promised u m c

-- Turning needs no more than an accepted text and a buffer as long as it, and writes a text of that length.
abbrev pub TurnAnswers : Type 0
TurnAnswers =
    (s : List ℕ) (t : Table) (size : ℕ) → read_text s ≡ fine t → length s ≤ size → (u : List ℕ) × (turn_of (read_text s) size ≡ fine u) × (length u ≡ length s)

-- document 01: "Turning twice restores the text"; by document 02, Item 9, "turning twice now gives the blank-padded text of the same table". u is what
-- turning s writes, and b is the blank-padded text of the table that s is read as: turning u into a buffer with room for it writes b, and turning b
-- writes u again. b is accepted as that table, and differs from s in padding alone.
abbrev pub TurningTwice : Type 0
TurningTwice =
    (s : List ℕ) (size : ℕ) (u : List ℕ) → turn_of (read_text s) size ≡ fine u
    → (t : Table) × (b : List ℕ)
    × (b ≡ table_text t)
    × (read_text s ≡ fine t)
    × (read_text b ≡ fine t)
    × SameText s b
    × ((other : ℕ) → length u ≤ other → (turn_of (read_text u) other ≡ fine b) × (turn_of (read_text b) other ≡ fine u))

-- ---- demand 2: "Rollouts on tables without dice end on the exact worth under every policy list, and read no leaf twice."

-- p is the policy list; the leaf list has `list` entries and the store `room` records
abbrev pub RolloutsEnd : Type 0
RolloutsEnd =
    (s p : List ℕ) (list room : ℕ) (worth : ℤ) (count : ℕ) → roll_call (read_text s) p list room ≡ Ok (record { worth = worth; leaves = count })
    → ((G : ℕ) × (exact_call (read_text s) ≡ Ok (record { grains = worth; grain = G }))) × Distinct (roll_reads (read_text s) p list room)

-- every accepted table without C is rolled out, under every policy list, with a list and a store that are long enough
abbrev pub RollAnswers : Type 0
RollAnswers =
    (s : List ℕ) (t : Table) (p : List ℕ) (list room : ℕ) → read_text s ≡ fine t → has_chance t ≡ false
    → leaves (tree t) ≤ list → length t.lines ≤ room
    → (worth : ℤ) × (count : ℕ) × (roll_call (read_text s) p list room ≡ Ok (record { worth = worth; leaves = count }))
