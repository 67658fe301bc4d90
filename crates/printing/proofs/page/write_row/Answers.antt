-- `printing::page::write_row` meets its contract.
use Rattle.std.proofs.Common.{◌≡◌, arith, rules, set, drop, ap, ap₂, ◌∙◌, w64, to_z, of_z, length-drop, ◌++◌, List, ℕ, ℤ}
use Rattle.field.specs.Field.{written}
use Rattle.printing.proofs.Rows.{row-written}
use Rattle.printing.proofs.page.write_row.Goals as goal

pub returns : goal.returns
returns c =
    let row = c.args.row.now in
    let z : ℤ = c.args.z in
    let word : List ℕ = c.args.word.now in
    let back : to_z w64 (of_z w64 z) ≡ z = search rules in
    ap (λ (l : List ℕ). set l 21 10)
    (c.write.ensures ∙ ap₂ (λ (l : List ℕ) (n : ℤ). written (l ++ drop 6 row) 6 15 n) c.copy_from_slice.ensures.after back)
    ∙ row-written word (drop 6 row) z c.told-word (omega (arith, length-drop 6 row)) c.requires.2
