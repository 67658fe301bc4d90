-- Inputs that differ in padding alone are printed alike. Document 02, Item 9.
use Prim.Native.Nat.{ℕ}
use mathlib.Core.Path.{◌≡◌}
use mathlib.Core.Bool.{cond}
use mathlib.Core.List.{List}
use lib.Dec.{eqb}
use lib.IntN.{negsuc}
use Rattle.field.specs.Field.{field_of}
use Rattle.field.proofs.Padding.{repadded-read}
use Rattle.table.proofs.Padding.{text_same}
use Rattle.search_call.specs.Call.{sought}
use Rattle.printing.specs.Program.{margin_in, table_of, printed, rows_of, output_of}
use Rattle.printing.specs.Padding.{SameInput}

pub output-same : (a b : List ℕ) → SameInput a b → output_of a ≡ output_of b
output-same a b S =
    let margin : field_of a 0 14 ≡ field_of b 0 14 = repadded-read _ _ S.margin in
    let table = text_same (table_of a) (table_of b) S.table in
    λ j. printed (rows_of (sought (table j) (cond (eqb (S.newline j) 10) (margin_in (margin j)) (negsuc 0)) 1024))
