-- The divisions of lines 20 and 21 leave no remainder: what that says of a search. Document 01, 'Grains'.
use Rattle.std.specs.Prelude.{ℕ, ◌≡◌, Bool, false, List, [], ℤ, pos, ◌-ℤ◌, ◌*ℤ◌}
use Rattle.numbers.specs.Integers.{floor_z}
use Rattle.table.specs.Tree.{Kind, MAX, MIN, CHANCE, Forest, end, leaf, inner}
use Rattle.table.specs.Table.{Table, tree, grain}
use Rattle.search.specs.Search.{Frame, Seen, State, Arith, Rules, begin, point, met, update, stop, enter, scan}
use Rattle.search.specs.Whole.{whole, in_grains, rules, whole_own, own_rules}

-- What Q says of a C's frame, a child's weight and what that child gave, for every child that a search takes under a C: the walk of `scan`, which
-- goes under no node met unread.
module _ {A : Type 0} (O : Arith A) (R : Rules A) (Q : Frame A → ℕ → Seen A → Type 0) where
  abbrev pub AtChance : (e : Frame A) (k : Kind) (w : ℕ) (r : Seen A) → Type 0
  AtChance e MAX w r = Unit {0}
  AtChance e MIN w r = Unit {0}
  AtChance e CHANCE w r = Q e w r

  abbrev pub EachTaken : (e : Frame A) (k : Kind) (f : Forest A) (s : State A) → Type 0
  EachTaken e k end s = Unit {0}
  EachTaken e k (leaf n w v rest) s =
      let r : Seen A = met R e s.read (point n v s.read) in
      let t : State A = update O e k n w s r in
      AtChance e k w r × (stop O R.margin rest t ≡ false → EachTaken e k rest t)
  EachTaken e k (inner n w c under rest) s =
      let d : Frame A = R.frame n under in
      let r : Seen A = met R d s.read (scan O R d c under (enter O e k w d c s)) in
      let t : State A = update O e k n w s r in
      AtChance e k w r
      × (R.full s.read ≡ false → EachTaken d c under (enter O e k w d c s))
      × (stop O R.margin rest t ≡ false → EachTaken e k rest t)

  -- in the search of a root
  abbrev pub EachTakenRoot : Forest A → Type 0
  EachTakenRoot end = Unit {0}
  EachTakenRoot (leaf n w v rest) = Unit {0}
  EachTakenRoot (inner n w k under rest) =
      R.full [] ≡ false → EachTaken (R.frame n under) k under (begin (R.frame n under) k (R.frame n under).bottom (R.frame n under).top [])

-- T times the quotient is what was divided, in `gain_z` and in `loss_z`
abbrev pub WholeQuotients : Frame ℤ → ℕ → Seen ℤ → Type 0
WholeQuotients e w r =
    (pos e.total *ℤ floor_z (pos w *ℤ (r.low -ℤ e.bottom)) e.total ≡ pos w *ℤ (r.low -ℤ e.bottom))
    × (pos e.total *ℤ floor_z (pos w *ℤ (e.top -ℤ r.high)) e.total ≡ pos w *ℤ (e.top -ℤ r.high))

-- "Every worth, bound, margin and loss is a whole number of grains": nothing is rounded in lines 20 and 21 of the search of a table
abbrev pub NoRemainder : Table → (ε : ℕ) (full : List ℕ → Bool) → Type 0
NoRemainder t ε full = EachTakenRoot whole (rules t ε full) WholeQuotients (in_grains (grain t) (tree t))

-- nor in the search of a table with its index
abbrev pub OwnNoRemainder : Table → (ε : ℕ) → Type 0
OwnNoRemainder t ε = EachTakenRoot whole_own (own_rules ε) WholeQuotients (in_grains (grain t) (tree t))
