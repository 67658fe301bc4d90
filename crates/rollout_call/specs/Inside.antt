-- What the contract of `fill` cites, the store filled from two lists of numbers; no promise of a public call names it.
use Rattle.std.specs.Prelude.{ℕ, zero, suc, List, [], ◌∷◌, ◌++◌, ℤ, drop}
use Rattle.rollout_call.specs.declared.Record.{Record}

-- the first n numbers of the two lists, as records
unfoldable pub records_of : ℕ → List ℤ → List ℤ → List Record
records_of zero ls hs = []
records_of (suc n) [] hs = []
records_of (suc n) (l ∷ ls) [] = []
records_of (suc n) (l ∷ ls) (h ∷ hs) = record { low = l; high = h } ∷ records_of n ls hs

-- "records past the nodes .. stay unchanged"
abbrev pub filled : ℕ → List ℤ → List ℤ → List Record → List Record
filled n ls hs st = records_of n ls hs ++ drop n st
