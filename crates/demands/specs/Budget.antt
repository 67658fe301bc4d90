-- Document 02, Item 3, at the public calls: the search within a budget of leaf reads against document 01's search, and what of demand 3 it keeps. What is
-- quoted is the item, where no other paper is named. proofs/Budget.antt has the theorems.
use Rattle.std.specs.Prelude.{ℕ, ◌≤◌, ◌≡◌, Bool, true, false, List, [], ◌∷◌, length, take, ℤ, pos, neg_ℤ, ◌-ℤ◌, ◌*ℤ◌, Err, Ok}
use Rattle.std.proofs.Math.Option.{some}
use Rattle.std.specs.Int.Signed.{lt_z, le_z}
use Rattle.line.specs.declared.Refusal.TheVariants.{BadBudget}
use Rattle.line.specs.Refusal.{fine}
use Rattle.table.specs.Table.{Table, tree, read_text, grain}
use Rattle.table.specs.Root.{AtM, AtN, to_play, root_of}
use Rattle.table.specs.Examples.{table-a, table-b}
use Rattle.table.specs.declared.Play.{Play}
use Rattle.table.specs.declared.Play.TheVariants.{Child, NoPlay}
use Rattle.worth.specs.Call.{exact_call}
use Rattle.turn_call.specs.Call.{turn_of}
use Rattle.search_call.specs.declared.Bounds.{Bounds}
use Rattle.search_call.specs.Call.{bad_margin, bad_budget, sought, sought_within, search_call, search_reads, within_call, within_reads}
use Rattle.demands.specs.Demands.{child_worth, Promised, LongEnough, Differ, Mirrors}

-- ---- the budget, for a text s, a margin m, a budget b and a leaf list of `room` entries

-- "where none is named, as in the margin program, which prints as before, it is 1,024": the answer and the leaves of the call without a budget, and
-- what the program prints, go by `sought`
abbrev pub DefaultBudget : Type 0
DefaultBudget = (s : List ℕ) (m : ℤ) (room : ℕ) → sought (read_text s) m room ≡ sought_within (read_text s) m (pos 1024) room

-- and it is never spent
abbrev pub NeverSpent : Type 0
NeverSpent = (s : List ℕ) (m : ℤ) (room : ℕ) (a : Bounds) → search_call (read_text s) m room ≡ Ok a → a.spent ≡ false

-- "whether the budget was spent: yes exactly when the search of document 01 reads more leaves than the budget", c being that search's answer
abbrev pub SpentWhere : Type 0
SpentWhere =
    (s : List ℕ) (m b : ℤ) (room other : ℕ) (a c : Bounds) → within_call (read_text s) m b room ≡ Ok a → search_call (read_text s) m other ≡ Ok c
    → a.spent ≡ lt_z b (pos c.leaves)

-- "A search not spent gives the answer it gives without a budget"
abbrev pub UnspentSame : Type 0
UnspentSame =
    (s : List ℕ) (m b : ℤ) (room : ℕ) (a : Bounds) → within_call (read_text s) m b room ≡ Ok a → a.spent ≡ false
    → (search_call (read_text s) m room ≡ Ok a)
    × (search_reads (read_text s) m room ≡ within_reads (read_text s) m b room)

-- "a spent one lists the first leaves of that search's sequence, as many as the budget"
abbrev pub SpentFirst : Type 0
SpentFirst =
    (s : List ℕ) (m b : ℤ) (room : ℕ) (a : Bounds) → within_call (read_text s) m b room ≡ Ok a → a.spent ≡ true
    → (within_reads (read_text s) m b room ≡ take a.leaves (search_reads (read_text s) m room)) × (pos a.leaves ≡ b)

-- "A node first met when the budget is spent gives the table's two ends as its bounds and reads nothing", of the root, which is so met with a budget of 0:
-- "If the root is so met, no play is named."
pub record Unread (t : Table) (a : Bounds) : Type 0 where
  pub low : a.low ≡ t.head.lowest *ℤ pos (grain t)
  pub high : a.high ≡ t.head.highest *ℤ pos (grain t)
  pub play : a.play ≡ NoPlay
  pub leaves : a.leaves ≡ 0
  pub spent : a.spent ≡ true

abbrev pub RootUnread : Type 0
RootUnread =
    (s : List ℕ) (t : Table) (m : ℤ) (room : ℕ) (a : Bounds) → read_text s ≡ fine t → within_call (read_text s) m (pos 0) room ≡ Ok a → Unread t a

-- ---- 17

-- "Refused: 17, any other budget, after 12": whatever the list, where the table and the margin are accepted, and only there
abbrev pub SeventeenIs : Type 0
SeventeenIs =
    (s : List ℕ) (m b : ℤ) (room : ℕ)
    → ((t : Table) → read_text s ≡ fine t → bad_margin m ≡ false → bad_budget b ≡ true → within_call (read_text s) m b room ≡ Err BadBudget)
    × (within_call (read_text s) m b room ≡ Err BadBudget → (t : Table) × (read_text s ≡ fine t) × (bad_margin m ≡ false) × (bad_budget b ≡ true))

-- "a number of leaf reads, 0 to 1,024"
abbrev pub Budgets : Type 0
Budgets = ((n : ℕ) → n ≤ 1024 → bad_budget (pos n) ≡ false) × ((b : ℤ) → bad_budget b ≡ false → (n : ℕ) × (n ≤ 1024) × (b ≡ pos n))

-- ---- demand 3

-- What always holds of an answer a for the text s: "The exact worth lies within the bounds and a named play is worth at least low at M and at most high
-- at N."
pub record Kept (s : List ℕ) (a : Bounds) : Type 0 where
  pub worth : ℤ
  pub exact : exact_call (read_text s) ≡ Ok (record { grains = worth; grain = a.grain })
  pub above : le_z a.low worth ≡ true
  pub below : le_z worth a.high ≡ true
  pub side : (n : ℕ) → a.play ≡ Child n → (v : ℤ) × (child_worth (read_text s) n ≡ some v) × ((t : Table) → read_text s ≡ fine t
      → (root_of (tree t) ≡ to_play AtM → le_z a.low v ≡ true) × (root_of (tree t) ≡ to_play AtN → le_z v a.high ≡ true))

-- A spent one "need not keep the margin, neither in its width nor for its play"; one not spent keeps all that demand 3 promises.
pub record KeptWithin (s : List ℕ) (m : ℤ) (a : Bounds) : Type 0 where
  pub always : Kept s a
  pub unspent : a.spent ≡ false → Promised s m a

-- every accepted table is searched, at every margin and budget in range, with a list that is long enough
abbrev pub AnswersWithin : Type 0
AnswersWithin =
    (s : List ℕ) (t : Table) (m b : ℤ) (room : ℕ) → read_text s ≡ fine t → bad_margin m ≡ false → bad_budget b ≡ false → LongEnough s room
    → (a : Bounds) × (within_call (read_text s) m b room ≡ Ok a)

-- demand 3's first sentence
abbrev pub Within1 : Type 0
Within1 = (s : List ℕ) (m b : ℤ) (room : ℕ) (a : Bounds) → within_call (read_text s) m b room ≡ Ok a → KeptWithin s m a

-- "The rest of demand 3 holds for it too, at the same budget.": its second sentence, on other utilities of unread leaves
abbrev pub Within2 : Type 0
Within2 =
    (s : List ℕ) (m b : ℤ) (room : ℕ) (a : Bounds) → within_call (read_text s) m b room ≡ Ok a
    → (u : List ℕ) → Differ (within_reads (read_text s) m b room) s u
    → (other : ℕ) → LongEnough u other
    → (within_call (read_text u) m b other ≡ Ok a)
    × (within_reads (read_text u) m b other ≡ within_reads (read_text s) m b room)
    × KeptWithin u m a

-- and its third, on the turned table u
abbrev pub Within3 : Type 0
Within3 =
    (s : List ℕ) (m b : ℤ) (room : ℕ) (a : Bounds) → within_call (read_text s) m b room ≡ Ok a
    → (size : ℕ) (u : List ℕ) → turn_of (read_text s) size ≡ fine u
    → (other : ℕ) → LongEnough u other
    → (c : Bounds)
    × (within_call (read_text u) m b other ≡ Ok c)
    × Mirrors a c
    × (within_reads (read_text u) m b other ≡ within_reads (read_text s) m b room)
    × ((z : ℤ) → exact_call (read_text s) ≡ Ok (record { grains = z; grain = a.grain }) → exact_call (read_text u) ≡ Ok (record { grains = neg_ℤ z; grain = a.grain }))
    × KeptWithin u m c

-- ---- tables A and B of document 01 at a margin and every budget, up to one more than document 01's search reads

pub record Known : Type 0 where
  pub text : List ℕ
  pub margin : ℤ
  pub budget : ℤ
  pub answer : Bounds
  pub read : List ℕ

-- low, high, G, the play, whether the budget is spent, and the leaves
abbrev pub known : (text : List ℕ) (margin budget low high : ℤ) (grain : ℕ) (play : Play) (spent : Bool) (read : List ℕ) → Known
known text margin budget low high grain play spent read =
    record {
      text = text;
      margin = margin;
      budget = budget;
      answer = record { low = low; high = high; difference = high -ℤ low; play = play; leaves = length read; spent = spent; grain = grain };
      read = read;
    }

-- In A with a budget of 1 the second play, met unread, ties with the first and could turn out better (Item 6).
abbrev pub budgets : List Known
budgets =
    known table-a (pos 0) (pos 0) (pos 0) (pos 10) 1 NoPlay true []
    ∷ known table-a (pos 0) (pos 1) (pos 0) (pos 10) 1 (Child 4) true (2 ∷ [])
    ∷ known table-a (pos 0) (pos 2) (pos 3) (pos 10) 1 (Child 1) true (2 ∷ 3 ∷ [])
    ∷ known table-a (pos 0) (pos 3) (pos 3) (pos 3) 1 (Child 1) false (2 ∷ 3 ∷ 5 ∷ [])
    ∷ known table-a (pos 0) (pos 4) (pos 3) (pos 3) 1 (Child 1) false (2 ∷ 3 ∷ 5 ∷ [])
    ∷ known table-b (pos 0) (pos 0) (pos 0) (pos 32) 4 NoPlay true []
    ∷ known table-b (pos 0) (pos 1) (pos 20) (pos 32) 4 (Child 1) true (1 ∷ [])
    ∷ known table-b (pos 0) (pos 2) (pos 20) (pos 20) 4 (Child 1) false (1 ∷ 3 ∷ [])
    ∷ known table-b (pos 0) (pos 3) (pos 20) (pos 20) 4 (Child 1) false (1 ∷ 3 ∷ [])
    ∷ known table-b (pos 12) (pos 0) (pos 0) (pos 32) 4 NoPlay true []
    ∷ known table-b (pos 12) (pos 1) (pos 20) (pos 32) 4 (Child 1) false (1 ∷ [])
    ∷ known table-b (pos 12) (pos 2) (pos 20) (pos 32) 4 (Child 1) false (1 ∷ [])
    ∷ []

abbrev pub AllKnown : List Known → Type 0
AllKnown [] = Unit {0}
AllKnown (k ∷ ks) =
    (within_call (read_text k.text) k.margin k.budget 1024 ≡ Ok k.answer)
    × (within_reads (read_text k.text) k.margin k.budget 1024 ≡ k.read)
    × AllKnown ks
