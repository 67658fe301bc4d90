-- `turn::turn` meets its contract.
use Prim.Native.Nat.{ℕ}
use mathlib.Core.Path.{refl, sym, ap, subst, ◌∙◌}
use mathlib.Core.List.{List}
use native.Mathlib.Omega.{arith}
use lib.ListN.{drop}
use lib.Seq.{sets}
use Rattle.field.proofs.Stores.{part-stored}
use Rattle.line.specs.declared.Head.{Head}
use Rattle.line.specs.Inside.{Ranged}
use Rattle.writing.specs.Text.{header_text}
use Rattle.writing.proofs.Again.{head-again}
use Rattle.turn.specs.Turn.{turn_head}
use Rattle.turn.specs.Inside.{turned_rows}
use Rattle.turn.proofs.Signs.{ranged-turned}
use Rattle.turn.proofs.turn.Goals as goal

pub put_header-requires : goal.put_header-requires
put_header-requires c =
    (omega (arith, c.requires.1), c.requires.2, subst Ranged (sym c.turned_head.ensures) (ranged-turned c.args.h c.requires.3))

pub returns : goal.returns
returns c =
    let a = c.args in
    let d : List ℕ = a.buffer.now in
    let rows : List ℕ = turned_rows a.n (drop 25 a.text.now) in
    c.turn_lines.ensures
    ∙ ap (λ (l : List ℕ). sets l 25 rows) (c.put_header.ensures ∙ ap (λ (h : Head). sets d 0 (header_text h a.n)) c.turned_head.ensures)
    ∙ sym (part-stored d (header_text (turn_head a.h) a.n) rows 0 25 25 (head-again (turn_head a.h) a.n (ranged-turned a.h c.requires.3) (omega (arith, c.requires.2))).2 refl)
