-- A kind whose number is below 4 is a letter's.
use Rattle.std.proofs.Common.{arith, ◌≡◌, ℕ, ◌+◌, ◌<◌, List, Option, Some, None, refl, get_or, take, drop, sym, ap, ◌∙◌}
use Rattle.std.proofs.Math.Seq.{get_or-take, get_or-drop}
use Rattle.std.specs.Option.{unwrap_or}
use Rattle.line.specs.declared.Kind.{Kind}
use Rattle.line.specs.declared.Kind.TheVariants.{Chance}
use Rattle.line.specs.Line.{code, code_or, kind_from, letter_code}
use Rattle.worth.specs.Inside.{kind_in}
use Rattle.worth.proofs.kind_at.Goals as goal

known : (o : Option Kind) → code_or o < 4 → code (unwrap_or o Chance) ≡ code_or o
known None h = absurd (omega arith)
known (Some k) h = refl

letter : (at : ℕ) (s : List ℕ) → letter_code (get_or s (at + 5) 0) ≡ kind_in (take 25 (drop at s))
letter at s = ap letter_code (sym (get_or-take 25 (drop at s) 5 0 (omega arith) ∙ get_or-drop at s 5 0))

pub returns : goal.returns
returns c h =
    let s = c.args.run.now in
    let e = letter c.args.at s in
    ap code (c.unwrap_or.ensures ∙ ap (λ (o : Option Kind). unwrap_or o Chance) c.from_letter.ensures)
    ∙ known (kind_from (get_or s (c.args.at + 5) 0)) (rw e h) ∙ e
