-- The index of a table, its lines' own ends. Document 02, Item 14.
use Rattle.std.specs.Prelude.{Bool, true, false, not, ◌&&◌, ◌||◌, List, [], ◌∷◌, ◌++◌, map, ℤ, pos}
use Rattle.std.proofs.Math.Option.{Option, none, some}
use Rattle.numbers.specs.Integers.{max_z, min_z, eq_z}
use Rattle.table.specs.Tree.{Forest, end, leaf, inner}
use Rattle.table.specs.Table.{Table, tree}

-- the values of the leaves among and under these nodes: of a table's tree their utilities, of the tree in grains their worths
unfoldable pub values_of : {A : Type 0} → Forest A → List A
values_of end = []
values_of (leaf n w v rest) = v ∷ values_of rest
values_of (inner n w k under rest) = values_of under ++ values_of rest

-- The lowest and the highest of some values. Of none it is 0, which is asked for no line of an accepted table: "every node but an L has a child".
unfoldable pub lowest_of : List ℤ → ℤ
lowest_of [] = pos 0
lowest_of (x ∷ []) = x
lowest_of (x ∷ y ∷ ys) = min_z x (lowest_of (y ∷ ys))

unfoldable pub highest_of : List ℤ → ℤ
highest_of [] = pos 0
highest_of (x ∷ []) = x
highest_of (x ∷ y ∷ ys) = max_z x (highest_of (y ∷ ys))

-- a line's own ends, from the nodes under it: "the lowest and highest utility under it"
pub record Ends : Type 0 where
  pub low : ℤ
  pub high : ℤ

abbrev pub ends_under : Forest ℤ → Ends
ends_under under = record { low = lowest_of (values_of under); high = highest_of (values_of under) }

-- "By node number an index holds for each line but leaves" its own ends: the entries of these nodes and of all under them, in line order; a leaf has none
unfoldable pub entries : Forest ℤ → List (Option Ends)
entries end = []
entries (leaf n w u rest) = none ∷ entries rest
entries (inner n w k under rest) = some (ends_under under) ∷ (entries under ++ entries rest)

abbrev pub index_of : Table → List (Option Ends)
index_of t = entries (tree t)

-- one of the two numbers of each entry
abbrev pub of_entry : (Ends → ℤ) → Option Ends → Option ℤ
of_entry f none = none
of_entry f (some e) = some (f e)

abbrev pub lows_of : Table → List (Option ℤ)
lows_of t = map (of_entry (λ (e : Ends). e.low)) (index_of t)

abbrev pub highs_of : Table → List (Option ℤ)
highs_of t = map (of_entry (λ (e : Ends). e.high)) (index_of t)

-- a lent list with the entries xs at its front, where there is one: those of leaves "are not written"
unfoldable pub written : List (Option ℤ) → List ℤ → List ℤ
written xs [] = []
written [] (z ∷ l) = z ∷ l
written (none ∷ xs) (z ∷ l) = z ∷ written xs l
written (some x ∷ xs) (z ∷ l) = x ∷ written xs l

-- whether a lent list has an entry for each of xs, and the same one where there is one: those of leaves are not "compared"
unfoldable pub agrees : List (Option ℤ) → List ℤ → Bool
agrees [] l = true
agrees (x ∷ xs) [] = false
agrees (none ∷ xs) (z ∷ l) = agrees xs l
agrees (some x ∷ xs) (z ∷ l) = eq_z x z && agrees xs l

-- 22: "an index given to the search that is shorter than the nodes or not the table's own"
abbrev pub not_own : Table → (lows highs : List ℤ) → Bool
not_own t lows highs = not (agrees (lows_of t) lows) || not (agrees (highs_of t) highs)
