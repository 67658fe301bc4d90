-- Document 02, Item 6, at the public calls: which of equal plays is named, by the search without a budget and with one, and that all else in the answer
-- is as before. What is quoted is the item. proofs/Safer.antt has the theorems.
use Rattle.std.specs.Prelude.{ℕ, ◌≡◌, Bool, true, false, List, [], ◌∷◌, ◌++◌, ℤ, pos, negsuc, Ok}
use Rattle.std.proofs.Math.Option.{Option, none, some}
use Rattle.std.specs.Int.Signed.{lt_z}
use Rattle.line.specs.Refusal.{Verdict, refused, fine}
use Rattle.line.specs.Line.{to_nat}
use Rattle.table.specs.Table.{Table, tree, read_text}
use Rattle.table.specs.Root.{Side, to_play, root_of}
use Rattle.table.specs.Examples.{max-root, a1, a4}
use Rattle.table.specs.declared.Play.{Play}
use Rattle.table.specs.declared.Play.TheVariants.{Child}
use Rattle.turn_call.specs.Call.{turn_bytes}
use Rattle.search.specs.Search.{unlimited, limited, node_of}
use Rattle.search.specs.Former.{former_until}
use Rattle.search_call.specs.declared.Bounds.{Bounds}
use Rattle.search_call.specs.Call.{bounds_of, search_call, search_reads, within_call, within_reads}
use Rattle.promise.specs.Entered.{Entered, worse, FirstBest, entered_of}
use Rattle.demands.specs.Budget.{Known, known}

-- ---- the play, for a text s with the table t, a margin m, a budget b and a leaf list of `room` entries

-- the play p is the first best of the root plays entered, by the bounds that the search gave them
abbrev pub NamesBest : Table → (ε : ℕ) (full : List ℕ → Bool) → Side → Play → Type 0
NamesBest t ε full side p = (x : Entered ℤ) × (p ≡ Child x.node) × FirstBest (worse lt_z side) (entered_of t ε full) x

-- there is no more than one
abbrev pub OneBest : Type 0
OneBest =
    (side : Side) (xs : List (Entered ℤ)) (x y : Entered ℤ) → FirstBest (worse lt_z side) xs x → FirstBest (worse lt_z side) xs y → x ≡ y

-- "the play is compared with this rule in all searches": without a budget
abbrev pub SaferNamed : Type 0
SaferNamed =
    (s : List ℕ) (t : Table) (m : ℤ) (room : ℕ) (a : Bounds) (side : Side) → read_text s ≡ fine t → root_of (tree t) ≡ to_play side
    → search_call (read_text s) m room ≡ Ok a → NamesBest t (to_nat m) unlimited side a.play

-- "Item 3's too, where a play met unread counts as entered": with a budget, but for the root met unread, which a budget of 0 gives
abbrev pub SaferWithin : Type 0
SaferWithin =
    (s : List ℕ) (t : Table) (m b : ℤ) (room : ℕ) (a : Bounds) (side : Side) → read_text s ≡ fine t → root_of (tree t) ≡ to_play side
    → lt_z (pos 0) b ≡ true → within_call (read_text s) m b room ≡ Ok a → NamesBest t (to_nat m) (limited (to_nat b)) side a.play

-- ---- "Bounds and leaves are compared as before"

-- two answers that are equal in all but the play
pub record SameButPlay (a c : Bounds) : Type 0 where
  pub low : a.low ≡ c.low
  pub high : a.high ≡ c.high
  pub difference : a.difference ≡ c.difference
  pub leaves : a.leaves ≡ c.leaves
  pub spent : a.spent ≡ c.spent
  pub grain : a.grain ≡ c.grain

-- but for the play the answer, and the leaves in their sequence, are those of the search with document 01's play
abbrev pub AsBefore : Type 0
AsBefore =
    (s : List ℕ) (t : Table) (m : ℤ) (room : ℕ) (a : Bounds) → read_text s ≡ fine t → search_call (read_text s) m room ≡ Ok a
    → SameButPlay a (bounds_of (record { table = t; seen = former_until t (to_nat m) unlimited }))
    × (search_reads (read_text s) m room ≡ (former_until t (to_nat m) unlimited).read)

abbrev pub AsBeforeWithin : Type 0
AsBeforeWithin =
    (s : List ℕ) (t : Table) (m b : ℤ) (room : ℕ) (a : Bounds) → read_text s ≡ fine t → within_call (read_text s) m b room ≡ Ok a
    → SameButPlay a (bounds_of (record { table = t; seen = former_until t (to_nat m) (limited (to_nat b)) }))
    × (within_reads (read_text s) m b room ≡ (former_until t (to_nat m) (limited (to_nat b))).read)

-- ---- three plays that tie at M and, turned, at N; their lines as bytes

-- "  10   1       0      10"
abbrev tied-head : List ℕ
tied-head = 32 ∷ 32 ∷ 49 ∷ 48 ∷ 32 ∷ 32 ∷ 32 ∷ 49 ∷ 32 ∷ 32 ∷ 32 ∷ 32 ∷ 32 ∷ 32 ∷ 32 ∷ 48 ∷ 32 ∷ 32 ∷ 32 ∷ 32 ∷ 32 ∷ 32 ∷ 49 ∷ 48 ∷ 10 ∷ []

-- "   2 L    1            2"
abbrev t2 : List ℕ
t2 = 32 ∷ 32 ∷ 32 ∷ 50 ∷ 32 ∷ 76 ∷ 32 ∷ 32 ∷ 32 ∷ 32 ∷ 49 ∷ 32 ∷ 32 ∷ 32 ∷ 32 ∷ 32 ∷ 32 ∷ 32 ∷ 32 ∷ 32 ∷ 32 ∷ 32 ∷ 32 ∷ 50 ∷ 10 ∷ []

-- "   3 L    1            9"
abbrev t3 : List ℕ
t3 = 32 ∷ 32 ∷ 32 ∷ 51 ∷ 32 ∷ 76 ∷ 32 ∷ 32 ∷ 32 ∷ 32 ∷ 49 ∷ 32 ∷ 32 ∷ 32 ∷ 32 ∷ 32 ∷ 32 ∷ 32 ∷ 32 ∷ 32 ∷ 32 ∷ 32 ∷ 32 ∷ 57 ∷ 10 ∷ []

-- "   5 L    4            3"
abbrev t5 : List ℕ
t5 = 32 ∷ 32 ∷ 32 ∷ 53 ∷ 32 ∷ 76 ∷ 32 ∷ 32 ∷ 32 ∷ 32 ∷ 52 ∷ 32 ∷ 32 ∷ 32 ∷ 32 ∷ 32 ∷ 32 ∷ 32 ∷ 32 ∷ 32 ∷ 32 ∷ 32 ∷ 32 ∷ 51 ∷ 10 ∷ []

-- "   6 L    4            5"
abbrev t6 : List ℕ
t6 = 32 ∷ 32 ∷ 32 ∷ 54 ∷ 32 ∷ 76 ∷ 32 ∷ 32 ∷ 32 ∷ 32 ∷ 52 ∷ 32 ∷ 32 ∷ 32 ∷ 32 ∷ 32 ∷ 32 ∷ 32 ∷ 32 ∷ 32 ∷ 32 ∷ 32 ∷ 32 ∷ 53 ∷ 10 ∷ []

-- "   7 N    0             "
abbrev t7 : List ℕ
t7 = 32 ∷ 32 ∷ 32 ∷ 55 ∷ 32 ∷ 78 ∷ 32 ∷ 32 ∷ 32 ∷ 32 ∷ 48 ∷ 32 ∷ 32 ∷ 32 ∷ 32 ∷ 32 ∷ 32 ∷ 32 ∷ 32 ∷ 32 ∷ 32 ∷ 32 ∷ 32 ∷ 32 ∷ 10 ∷ []

-- "   8 L    7            3"
abbrev t8 : List ℕ
t8 = 32 ∷ 32 ∷ 32 ∷ 56 ∷ 32 ∷ 76 ∷ 32 ∷ 32 ∷ 32 ∷ 32 ∷ 55 ∷ 32 ∷ 32 ∷ 32 ∷ 32 ∷ 32 ∷ 32 ∷ 32 ∷ 32 ∷ 32 ∷ 32 ∷ 32 ∷ 32 ∷ 51 ∷ 10 ∷ []

-- "   9 L    7            4"
abbrev t9 : List ℕ
t9 = 32 ∷ 32 ∷ 32 ∷ 57 ∷ 32 ∷ 76 ∷ 32 ∷ 32 ∷ 32 ∷ 32 ∷ 55 ∷ 32 ∷ 32 ∷ 32 ∷ 32 ∷ 32 ∷ 32 ∷ 32 ∷ 32 ∷ 32 ∷ 32 ∷ 32 ∷ 32 ∷ 52 ∷ 10 ∷ []

-- worth 2, 3 and 3; at the margin 3 their bounds are 0 to 2, 0 to 3 and 0 to 3
abbrev pub tied : List ℕ
tied = tied-head ++ max-root ++ a1 ++ t2 ++ t3 ++ a4 ++ t5 ++ t6 ++ t7 ++ t8 ++ t9

abbrev pub turned : List ℕ
turned = turn_bytes (read_text tied) 25625

-- At the margin 3 the first two plays tie, and the second has the better other bound; the third ties with it to the end. With one leaf to read the
-- second and the third are met unread, and tie with each other.
abbrev pub ties : List Known
ties =
    known tied (pos 3) (pos 1024) (pos 0) (pos 3) 1 (Child 4) false (2 ∷ 5 ∷ 8 ∷ [])
    ∷ known turned (pos 3) (pos 1024) (negsuc 2) (pos 0) 1 (Child 4) false (2 ∷ 5 ∷ 8 ∷ [])
    ∷ known tied (pos 3) (pos 1) (pos 0) (pos 10) 1 (Child 4) true (2 ∷ [])
    ∷ known turned (pos 3) (pos 1) (negsuc 9) (pos 0) 1 (Child 4) true (2 ∷ [])
    ∷ []

-- the play by document 01 alone: in all four it is node 1
abbrev pub former_play : Verdict Table → (ε : ℕ) (full : List ℕ → Bool) → Option ℕ
former_play (refused r) ε full = none
former_play (fine t) ε full = node_of (former_until t ε full).play

abbrev pub FormerTies : Type 0
FormerTies =
    (former_play (read_text tied) 3 unlimited ≡ some 1)
    × (former_play (read_text turned) 3 unlimited ≡ some 1)
    × (former_play (read_text tied) 3 (limited 1) ≡ some 1)
    × (former_play (read_text turned) 3 (limited 1) ≡ some 1)
