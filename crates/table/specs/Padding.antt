-- Texts that differ in padding alone. Document 02, Item 9.
use Rattle.std.specs.Prelude.{ℕ, zero, suc, ◌<◌, ◌≡◌, List, length, get_or, take, drop, pos}
use Rattle.field.specs.Padding.{Pads, Repadded}
use Rattle.table.specs.Table.{count}

-- `width` columns of the line s, from the byte `from` on
abbrev pub columns_of : List ℕ → ℕ → ℕ → List ℕ
columns_of s from width = take width (drop from s)

abbrev pub SameField : List ℕ → List ℕ → ℕ → ℕ → Type 0
SameField s u from width = Repadded (columns_of s from width) (columns_of u from width)

-- "Only zeros in header columns 5-6 mean no second total, and T has columns 5-8": one total, of two digits at most, in columns 5-8; a second in columns
-- 5-6 with the first in 7-8; or four equal columns
pub data SameTotals (s u : List ℕ) : Type 0 where
  one-total : (n : ℕ) → n < 100 → Pads (pos n) (columns_of s 4 4) → Pads (pos n) (columns_of u 4 4) → SameTotals s u
  two-totals : (m n : ℕ) → 0 < m → Pads (pos m) (columns_of s 4 2) → Pads (pos m) (columns_of u 4 2) → Pads (pos n) (columns_of s 6 2) → Pads (pos n) (columns_of u 6 2) → SameTotals s u
  kept-totals : columns_of s 4 4 ≡ columns_of u 4 4 → SameTotals s u

-- two headers
pub record SameHeader (s u : List ℕ) : Type 0 where
  pub count : SameField s u 0 4
  pub totals : SameTotals s u
  pub lowest : SameField s u 8 8
  pub highest : SameField s u 16 8
  pub last : get_or s 24 0 ≡ get_or u 24 0

-- two node lines
pub record SameLine (s u : List ℕ) : Type 0 where
  pub number : SameField s u 0 4
  pub fifth : get_or s 4 0 ≡ get_or u 4 0
  pub letter : get_or s 5 0 ≡ get_or u 5 0
  pub parent : SameField s u 6 5
  pub weight : SameField s u 11 5
  pub utility : SameField s u 16 8
  pub last : get_or s 24 0 ≡ get_or u 24 0

-- n node lines one after another
unfoldable pub SameLines : ℕ → List ℕ → List ℕ → Type 0
SameLines zero s u = Unit {0}
SameLines (suc n) s u = SameLine (take 25 s) (take 25 u) × SameLines n (drop 25 s) (drop 25 u)

-- two texts of a table, accepted or refused
pub record SameText (s u : List ℕ) : Type 0 where
  pub long : length s ≡ length u
  pub head : SameHeader (take 25 s) (take 25 u)
  pub lines : SameLines (count s) (drop 25 s) (drop 25 u)
