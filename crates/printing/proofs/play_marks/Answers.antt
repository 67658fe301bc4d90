-- `printing::play_marks` meets its contract.
use Rattle.std.proofs.Common.{List, ℕ, ap, sym, ◌∙◌}
use Rattle.std.proofs.lemmas.List.{take_rest}
use Rattle.printing.specs.Inside.{child_marks, play_marks}
use Rattle.printing.proofs.play_marks.Goals as goal

pub returns-in-Child : goal.returns-in-Child
returns-in-Child c =
    let t : List ℕ = c.args.table.now in
    c.child_marks.ensures
    ∙ ap (λ (l : List ℕ). child_marks l c.in-Child.node) (take_rest t 25)
    ∙ sym (ap (play_marks t) c.in-Child.is)
