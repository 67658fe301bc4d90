-- Runs of nodes in the slices, the nodes that 8 or 9 is for, and the uses of a total: what the contracts cite. No promise of a public call names these.
use Rattle.std.specs.Prelude.{ℕ, zero, suc, ◌+◌, ◌≤◌, ◌<◌, Bool, not, ◌&&◌, cond, List, [], ◌∷◌, ◌≡◌, length, get_or, drop, leb, ltb, eqb, Option}
use Rattle.std.specs.List.{find, range_with_len}
use Rattle.table.specs.Tree.{Forest, uses}
use Rattle.table.specs.Inside.{Spans}

-- ---- runs, by the parents' numbers alone

-- how many of the first numbers are n or more
unfoldable pub reach : ℕ → List ℕ → ℕ
reach n [] = 0
reach n (x ∷ xs) = cond (leb n x) (suc (reach n xs)) 0

-- one past the run of node i, where U holds each node's parent
abbrev pub stop_in : List ℕ → ℕ → ℕ
stop_in U i = i + 1 + reach i (drop (i + 1) U)

-- the same of each node, the first of U being node i
unfoldable pub stops_from : ℕ → List ℕ → List ℕ
stops_from i [] = []
stops_from i (x ∷ U) = (i + 1 + reach i U) ∷ stops_from (suc i) U

-- the stops of the nodes from j on are there
abbrev pub HasStops : List ℕ → List ℕ → ℕ → Type 0
HasStops U stops j = (i : ℕ) → j ≤ i → i < length U → get_or stops i 0 ≡ stop_in U i

-- ---- the nodes that meet a condition

-- the first of n nodes that meets it
abbrev pub first_where : (ℕ → Bool) → ℕ → Option ℕ
first_where test n = find test (range_with_len 0 n)

-- 8: a node that is no leaf and whose run is itself alone
abbrev pub bare_at : List ℕ → List ℕ → ℕ → Bool
bare_at kinds stops i = not (eqb (get_or kinds i 0) 0) && eqb (get_or stops i 0) (i + 1)

-- some nodes with one parent stand in the entries from c up to e
pub record Has (kinds stops weights : List ℕ) (c e : ℕ) : Type 0 where
  pub heights : List ℕ
  pub forest : Forest ℕ
  pub spans : Spans (record { kinds = kinds; stops = stops; weights = weights; heights = heights }) c e forest

-- their weights, summed from one to the next; the third argument bounds their number
unfoldable pub weigh_at : List ℕ → List ℕ → ℕ → ℕ → ℕ → ℕ
weigh_at stops weights zero c e = 0
weigh_at stops weights (suc k) c e = cond (ltb c e) (get_or weights c 0 + weigh_at stops weights k (get_or stops c 0) e) 0

-- the weights of the children of node i, summed
abbrev pub sum_at : List ℕ → List ℕ → ℕ → ℕ
sum_at stops weights i = weigh_at stops weights 1024 (i + 1) (get_or stops i 0)

-- 9: a C whose children's weights sum to neither total, T or U
abbrev pub odd_at : List ℕ → List ℕ → List ℕ → ℕ → ℕ → ℕ → Bool
odd_at kinds stops weights T U i = eqb (get_or kinds i 0) 3 && (not (eqb (sum_at stops weights i) T) && not (eqb (sum_at stops weights i) U))

-- ---- the uses of a total

-- 1 for a C whose children's weights sum to T
abbrev pub use_at : List ℕ → List ℕ → List ℕ → ℕ → ℕ → ℕ
use_at kinds stops weights T i = cond (eqb (get_or kinds i 0) 3 && eqb (sum_at stops weights i) T) 1 0

-- r is the greatest number of uses of T on a path down through the nodes in the entries from c up to e
abbrev pub UsedMost : (kinds stops weights : List ℕ) (T c e r : ℕ) → Type 0
UsedMost kinds stops weights T c e r = (R : Has kinds stops weights c e) → r ≡ uses T R.forest
