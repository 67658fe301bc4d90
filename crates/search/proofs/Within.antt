-- The search of an accepted table with a budget, against document 01's search of it. Document 02, Item 3.
use Prim.Native.Nat.{ℕ, min, ◌≤◌}
use mathlib.Core.Path.{◌≡◌, sym, ap, ◌∙◌}
use mathlib.Core.Bool.{false}
use mathlib.Core.List.{List}
use native.Mathlib.Nat.{min-eq_left, min-eq_right}
use native.Mathlib.Decide.{dec_le}
use native.Mathlib.Omega.{arith}
use lib.Dec.{ltb}
use lib.ListN.{length, take}
use lib.IntN.{ℤ}
use Rattle.line.specs.Refusal.{fine}
use Rattle.table.specs.Tree.{Forest, leaves}
use Rattle.table.specs.Table.{Table, tree, read_text, grain}
use Rattle.table.specs.Accepted.{Filled, Rooted}
use Rattle.table.proofs.Accepted.{accepted-rooted, accepted-filled, accepted-size, accepted-leaves, accepted-leaf-lines}
use Rattle.search.specs.Search.{unlimited}
use Rattle.search.specs.Whole.{whole, in_grains, rules, searched, searched_within}
use Rattle.search.proofs.Grains.{grains-filled, grains-rooted}
use Rattle.search.proofs.Table.{reads-few}
use Rattle.search.proofs.Budget as budget

-- document 01's search meets no node unread
pub unlimited-unspent : (t : Table) (ε : ℕ) → (searched t ε).spent ≡ false
unlimited-unspent t ε = budget.never-spent whole (rules t ε unlimited).frame ε (in_grains (grain t) (tree t))

module _ (s : List ℕ) (t : Table) (r : read_text s ≡ fine t) (ε b : ℕ) where
  abbrev f : Forest ℤ
  f = in_grains (grain t) (tree t)

  rooted : Rooted f
  rooted = grains-rooted (grain t) (tree t) (accepted-rooted s t r)

  filled : Filled f
  filled = grains-filled (grain t) (tree t) (accepted-filled s t r)

  -- "yes exactly when the search of document 01 reads more leaves than the budget"
  pub spent-where : (searched_within t ε b).spent ≡ ltb b (length (searched t ε).read)
  spent-where = budget.spent-where whole (rules t ε unlimited).frame ε b f rooted filled

  -- "A search not spent gives the answer it gives without a budget"
  pub unspent-same : (searched_within t ε b).spent ≡ false → searched_within t ε b ≡ searched t ε
  unspent-same = budget.unspent-same whole (rules t ε unlimited).frame ε b f rooted filled

  -- "the first leaves of that search's sequence, as many as the budget"
  pub first_reads : (searched_within t ε b).read ≡ take b (searched t ε).read
  first_reads = budget.first_reads whole (rules t ε unlimited).frame ε b f rooted filled

  -- a budget of as many reads as there are leaves is never spent
  enough : leaves (tree t) ≤ b → searched_within t ε b ≡ searched t ε
  enough h = budget.enough whole (rules t ε unlimited).frame ε b f rooted filled (omega (arith, reads-few s t r ε unlimited))

-- so that a budget past a list that has room for them need not be counted
pub budget-met : (s : List ℕ) (t : Table) (r : read_text s ≡ fine t) (ε b room : ℕ) → leaves (tree t) ≤ room
    → searched_within t ε (min b room) ≡ searched_within t ε b
budget-met s t r ε b room h =
    elim (dec_le b room) [
      | yes l ↦ ap (searched_within t ε) (min-eq_left l)
      | no l ↦ let past : room ≤ b = omega arith in
          ap (searched_within t ε) (min-eq_right past) ∙ enough s t r ε room h ∙ sym (enough s t r ε b (omega arith))
    ]

-- nor is 1,024 ever spent
pub greatest-budget : (s : List ℕ) (t : Table) (r : read_text s ≡ fine t) (ε : ℕ) → searched_within t ε 1024 ≡ searched t ε
greatest-budget s t r ε =
    enough s t r ε 1024 (omega (arith, accepted-size s t r, accepted-leaves s t r, accepted-leaf-lines s t r))
