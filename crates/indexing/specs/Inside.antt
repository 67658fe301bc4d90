-- Least numbers over runs of nodes in the slices, the ends of each inner node, and the entries made of them: what the contracts cite. No promise of a
-- public call names these.
use Rattle.std.specs.Prelude.{ℕ, zero, suc, ◌+◌, ◌-◌, min, ◌≤◌, ◌<◌, cond, List, [], ◌∷◌, ◌≡◌, get_or, eqb, ℤ, pos, ◌+ℤ◌, ◌-ℤ◌}
use Rattle.std.proofs.Math.Option.{Option, none, some}
use Rattle.table.specs.Tree.{Forest, end, leaf, inner}
use Rattle.table.specs.Accepted.{Filled}
use Rattle.table.specs.Inside.{slices, Spans}
use Rattle.index.specs.Inside.{least_of, greatest_of}
use Rattle.indexing.specs.declared.Base.{Base}
use Rattle.indexing.specs.declared.Base.TheVariants.{Lowest, Highest}

-- ---- least numbers

-- the least of the points of these nodes, without those under them, or the greatest number of 32 bits where there is none
unfoldable pub tops : List ℕ → Forest ℕ → ℕ
tops points end = 4294967295
tops points (leaf n w h rest) = min (get_or points n 0) (tops points rest)
tops points (inner n w k under rest) = min (get_or points n 0) (tops points rest)

-- some nodes with one parent stand in the entries from c up to e
pub record Run (stops : List ℕ) (c e : ℕ) : Type 0 where
  pub kinds : List ℕ
  pub weights : List ℕ
  pub heights : List ℕ
  pub forest : Forest ℕ
  pub spans : Spans (slices kinds stops weights heights) c e forest

-- r is the least of their points
abbrev pub LeastOf : (stops points : List ℕ) (c e r : ℕ) → Type 0
LeastOf stops points c e r = (R : Run stops c e) → r ≡ tops points R.forest

-- the n entries are nodes of these kinds
pub record Nodes (kinds stops : List ℕ) (n : ℕ) : Type 0 where
  pub weights : List ℕ
  pub heights : List ℕ
  pub forest : Forest ℕ
  pub spans : Spans (slices kinds stops weights heights) 0 n forest

-- r is a leaf's own number x, and else the least of the points of what stands under entry i
abbrev pub OwnLeast : (kinds stops points : List ℕ) (i x r : ℕ) → Type 0
OwnLeast kinds stops points i x r =
    (get_or kinds i 0 ≡ 0 → r ≡ x) × ((get_or kinds i 0 ≡ 0 → ⊥) → LeastOf stops points (i + 1) (get_or stops i 0) r)

-- so has each of the first n entries, where `before` were the points
abbrev pub Leasts : (kinds stops before points : List ℕ) (n : ℕ) → Type 0
Leasts kinds stops before points n = (i : ℕ) → i < n → OwnLeast kinds stops points i (get_or before i 0) (get_or points i 0)

-- ---- the ends of each inner node

abbrev pub Small : (S : ℕ) (points : List ℕ) (n : ℕ) → Type 0
Small S points n = (i : ℕ) → i < n → get_or points i 0 ≤ S

abbrev pub Dropped : (S : ℕ) (heights drops : List ℕ) (n : ℕ) → Type 0
Dropped S heights drops n = (i : ℕ) → i < n → get_or drops i 0 ≡ S - get_or heights i 0

-- a tree in the slices, each of whose inner nodes has a child
pub record Standing (kinds stops heights : List ℕ) (n : ℕ) : Type 0 where
  pub weights : List ℕ
  pub forest : Forest ℕ
  pub spans : Spans (slices kinds stops weights heights) 0 n forest
  pub filled : Filled forest

-- at each inner node the least height under it, and how far the greatest lies below S
abbrev pub OwnEnds : (S : ℕ) (rise drops : List ℕ) → Forest ℕ → Type 0
OwnEnds S rise drops end = Unit {0}
OwnEnds S rise drops (leaf n w h rest) = OwnEnds S rise drops rest
OwnEnds S rise drops (inner n w k under rest) =
    (get_or rise n 0 ≡ least_of S under) × (get_or drops n 0 ≡ S - greatest_of under) × OwnEnds S rise drops under × OwnEnds S rise drops rest

-- Of any tree that stood there: the leaves' heights are kept, and what is at the inner nodes are their ends. No number is above S.
pub record Ended (kinds stops weights : List ℕ) (n S : ℕ) (rise drops : List ℕ) (F : Forest ℕ) : Type 0 where
  pub spans : Spans (slices kinds stops weights rise) 0 n F
  pub ends : OwnEnds S rise drops F
  pub small-rise : Small S rise n
  pub small-drops : Small S drops n

abbrev pub OwnEndsOf : (kinds stops heights : List ℕ) (n S : ℕ) (rise drops : List ℕ) → Type 0
OwnEndsOf kinds stops heights n S rise drops = (R : Standing kinds stops heights n) → Ended kinds stops R.weights n S rise drops R.forest

-- ---- an index's entries

abbrev pub base_of : Base → ℤ
base_of (Lowest z) = z
base_of (Highest z) = z

-- x points above the lowest end, or below the highest
abbrev pub end_from : Base → (x : ℕ) → ℤ
end_from (Lowest z) x = z +ℤ pos x
end_from (Highest z) x = z -ℤ pos x

-- f of each of the m entries from i on; a leaf has none
unfoldable pub entries_from : (kinds : List ℕ) (f : ℕ → ℤ) (i m : ℕ) → List (Option ℤ)
entries_from kinds f i zero = []
entries_from kinds f i (suc m) = cond (eqb (get_or kinds i 0) 0) none (some (f i)) ∷ entries_from kinds f (suc i) m

-- those of n nodes
abbrev pub entries_of : (kinds points : List ℕ) (base : Base) (n : ℕ) → List (Option ℤ)
entries_of kinds points base n = entries_from kinds (λ (i : ℕ). end_from base (get_or points i 0)) 0 n
