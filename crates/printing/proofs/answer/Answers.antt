-- `printing::answer` meets its contract.
use Rattle.std.proofs.Common.{◌≡◌, ℕ, ℤ, List, ◌++◌, min, take, drop, length, ap, ap₂, ◌∙◌, rules, w64, to_z, of_z}
use Rattle.table.specs.Table.{read_text}
use Rattle.search_call.specs.Call.{sought}
use Rattle.printing.specs.Program.{printed, rows_of, output_of}
use Rattle.printing.proofs.Fitted.{part-table, copied}
use Rattle.printing.proofs.answer.Goals as goal
use Rattle.printing.proofs.answer.Goals.{After-bytes-text}

-- what is printed is the definition's
text_is : (c : After-bytes-text) → c.bytes-text.result.now ≡ output_of c.args.input.now
text_is c =
    let margin : to_z w64 (of_z w64 c.margin_of.result) ≡ c.margin_of.result = search rules in
    c.bytes-text.ensures
    ∙ c.print_search.ensures
    ∙ ap₂ (λ (l : List ℕ) (z : ℤ). printed (rows_of (sought (read_text l) z 1024))) (part-table c.args.input.now c.min.result c.min.ensures) (margin ∙ c.margin_of.ensures)

pub returns-clause-bytes : goal.returns-clause-bytes
returns-clause-bytes c =
    c.min-n.ensures ∙ ap (λ (l : List ℕ). min (length l) (length c.args.output.now)) (text_is (goal.at.returns-clause-bytes c).After-bytes-text)

pub returns-clause-output : goal.returns-clause-output
returns-clause-output c =
    let output : List ℕ = c.args.output.now in
    let n : ℕ = c.min-n.result in
    let same = text_is (goal.at.returns-clause-output c).After-bytes-text in
    ap (λ (l : List ℕ). l ++ drop n output) (c.copy_from_slice.ensures.after ∙ ap (take n) same)
    ∙ copied (output_of c.args.input.now) output n (c.min-n.ensures ∙ ap (λ (l : List ℕ). min (length l) (length output)) same)
