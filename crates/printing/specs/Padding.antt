-- Inputs of the margin program that differ in padding alone. Document 02, Item 9.
use Rattle.std.specs.Prelude.{ℕ, ◌≡◌, List, get_or, take}
use Rattle.field.specs.Padding.{Repadded}
use Rattle.table.specs.Padding.{SameText}
use Rattle.printing.specs.Program.{table_of}

-- "a margin in 14 columns and a newline, then a table"
pub record SameInput (a b : List ℕ) : Type 0 where
  pub margin : Repadded (take 14 a) (take 14 b)
  pub newline : get_or a 14 0 ≡ get_or b 14 0
  pub table : SameText (table_of a) (table_of b)
