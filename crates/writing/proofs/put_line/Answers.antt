-- `writing::put_line` meets its contract.
use mathlib.Core.Path.{sym, ap, subst, ◌∙◌}
use lib.Seq.{sets}
use Rattle.line.specs.declared.Entry.{Entry}
use Rattle.writing.specs.Inside.{entry_text, Roomy}
use Rattle.writing.proofs.Said.{line-text}
use Rattle.writing.proofs.Again.{line-roomy}
use Rattle.writing.proofs.put_line.Goals as goal

pub put_entry-requires : goal.put_entry-requires
put_entry-requires g c = (c.requires.0, subst Roomy (sym c.entry_for.ensures) (line-roomy c.into.result (c.requires.1 c.into.result c.into.ensures)))

pub returns : goal.returns
returns g c =
    let a = c.args in (
      c.into.result,
      c.into.ensures,
      (c.put_entry.ensures
          ∙ ap (λ (e : Entry). sets a.buffer.now a.at (entry_text e)) c.entry_for.ensures
          ∙ ap (sets a.buffer.now a.at) (sym (line-text c.into.result))),
    )
