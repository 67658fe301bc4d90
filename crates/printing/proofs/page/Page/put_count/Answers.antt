-- `printing::page::Page::put_count` meets its contract: the number is not below zero, and has at most 15 digits.
use Rattle.std.proofs.Common.{arith}
use Rattle.std.proofs.lemmas.Int.{ints}
use Rattle.printing.proofs.Rows.{count-columns}
use Rattle.printing.proofs.page.Page.put_count.Goals as goal

pub put-requires : goal.put-requires
put-requires c = grind (arith, ints, count-columns)
