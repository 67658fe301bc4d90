-- `turn::turn_line` meets its contract.
use mathlib.Core.Path.{◌≡◌, sym, ap, subst, ◌∙◌}
use lib.Seq.{sets}
use Rattle.field.specs.declared.Field.{Field}
use Rattle.line.specs.declared.Entry.{Entry}
use Rattle.line.specs.Line.{entry_of}
use Rattle.writing.specs.Inside.{Fits, entry_text, Roomy}
use Rattle.turn.specs.Inside.{negated, turn_entry}
use Rattle.turn.proofs.turn_line.Goals as goal
use Rattle.turn.proofs.turn_line.Goals.{After-put_entry-arg-1}

pub negated-requires : goal.negated-requires
negated-requires c = subst (λ (f : Field). Fits 8 (negated f)) (sym c.read-4.ensures) c.requires.2.utility

-- the fields that are handed on
handed : (c : After-put_entry-arg-1)
    → record { number = c.read.result; letter = c.turned_letter.result; parent = c.read-2.result; weight = c.read-3.result; utility = c.negated.result }
    ≡ turn_entry (entry_of c.args.line.now)
handed c =
    let number = c.read.ensures in
    let letter = c.turned_letter.ensures in
    let parent = c.read-2.ensures in
    let weight = c.read-3.ensures in
    let utility = c.negated.ensures ∙ ap negated c.read-4.ensures in
    λ j. record { number = number j; letter = letter j; parent = parent j; weight = weight j; utility = utility j }

pub put_entry-requires : goal.put_entry-requires
put_entry-requires c = (c.requires.1, subst Roomy (sym (handed c)) c.requires.2)

pub returns : goal.returns
returns c =
    let a = c.args in
    c.put_entry.ensures ∙ ap (λ (e : Entry). sets a.buffer.now a.at (entry_text e)) (handed (goal.at.returns c).After-put_entry-arg-1)
