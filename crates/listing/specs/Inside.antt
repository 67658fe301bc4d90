-- What the contracts of internal functions cite; no promise of a public call names these.
use Rattle.std.specs.Prelude.{ℕ, ◌≤◌, ◌<◌, ◌≡◌, Bool, false, List, length, get_or, take, drop}
use Rattle.line.specs.Line.{among}
use Rattle.table.specs.Slices.{laid}
use Rattle.listing.specs.Listing.{add_leaf, add_new}

-- a mark for each node, by its number: set exactly where the node is listed
abbrev pub Marked : (marks : List Bool) (listed : List ℕ) → Type 0
Marked marks listed = (n : ℕ) → n < length marks → get_or marks n false ≡ among n listed

-- the list has room for a leaf that is not listed yet
pub record ReadyLeaf (n : ℕ) (marks : List Bool) (leaves : List ℕ) (count : ℕ) : Type 0 where
  pub node : n < length marks
  pub marked : Marked marks (take count leaves)
  pub within : count ≤ length leaves
  pub room : among n (take count leaves) ≡ false → count < length leaves

-- the list with it: r entries, and those behind them as they were
pub record AddedLeaf (n : ℕ) (leaves : List ℕ) (count r : ℕ) (marks' : List Bool) (leaves' : List ℕ) : Type 0 where
  pub listed : take r leaves' ≡ add_leaf (take count leaves) n
  pub rest : drop r leaves' ≡ drop r leaves
  pub marked : Marked marks' (take r leaves')
  pub within : r ≤ length leaves'
  pub more : count ≤ r

-- the same of the leaves of one reading sequence
pub record ReadyLeaves (read : List ℕ) (marks : List Bool) (leaves : List ℕ) (count : ℕ) : Type 0 where
  pub nodes : (i : ℕ) → i < length read → get_or read i 0 < length marks
  pub marked : Marked marks (take count leaves)
  pub within : count ≤ length leaves
  pub room : length (add_new (take count leaves) read) ≤ length leaves

pub record AddedLeaves (read leaves : List ℕ) (count r : ℕ) (marks' : List Bool) (leaves' : List ℕ) : Type 0 where
  pub list : leaves' ≡ laid (add_new (take count leaves) read) leaves
  pub size : r ≡ length (add_new (take count leaves) read)
  pub marked : Marked marks' (add_new (take count leaves) read)
