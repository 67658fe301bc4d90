-- `recipe::Recipe::write_table` meets its contract.
use mathlib.Core.Path.{refl, ap, ◌∙◌}
use lib.ListN.{length}
use lib.Seq.{sets}
use Rattle.line.specs.declared.Head.{Head}
use Rattle.writing.specs.Text.{header_text}
use Rattle.recipe.proofs.Written.{table-stored}
use Rattle.recipe.proofs.Recipe.write_table.Goals as goal

pub returns : goal.returns
returns c =
    let a = c.args in
    let w = c.write_row in
    let h = c.put_header in
    table-stored a.seed a.self.b a.depth a.self.dice a.n (length a.buffer.now) c.requires a.buffer.now h.new.buffer w.new.buffer w.result refl
    (h.ensures ∙ ap (λ (x : Head). sets a.buffer.now 0 (header_text x a.n)) c.head.ensures)
    (rw c.levels.ensures at w.ensures)
