-- `printing::put_bounds` meets its contract.
use Rattle.std.proofs.Common.{arith, List, [], ◌++◌, take, ℤ, pos, ap, ◌∙◌}
use Rattle.std.proofs.lemmas.Int.{ints}
use Rattle.std.proofs.lemmas.Grind.{common_steps}
use Rattle.field.proofs.Bits.{back}
use Rattle.field.proofs.Width.{few-columns}
use Rattle.search_call.specs.declared.Bounds.{Bounds}
use Rattle.printing.specs.Program.{Low, High, Grain, Play, Leaves, WordLine, columns, row_of, printed}
use Rattle.printing.specs.Inside.{bound_rows}
use Rattle.printing.proofs.Rows.{row-more}
use Rattle.printing.proofs.put_bounds.Goals as goal

pub put-requires : goal.put-requires
put-requires c = grind (arith, common_steps, ints, few-columns c.args.b.low 14 (omega arith) c.requires.1.low)

pub put-requires-2 : goal.put-requires-2
put-requires-2 c = grind (arith, common_steps, ints, few-columns c.args.b.high 14 (omega arith) c.requires.1.high)

pub returns : goal.returns
unfolding printed
returns c =
    let b : Bounds = c.args.b in
    let rows : List WordLine = bound_rows b c.args.play in
    let low = c.put.ensures.bytes ∙ ap (λ (z : ℤ). c.args.page.now ++ row_of (columns Low) z) (back b.low (omega (arith, c.requires.1.low))) in
    let high = c.put-2.ensures.bytes ∙ ap (λ (z : ℤ). c.put.new.self ++ row_of (columns High) z) (back b.high (omega (arith, c.requires.1.high))) in
    row-more (take 4 rows) Leaves (pos b.leaves) c.put_count-2.new.self _
    (row-more (take 3 rows) Play (pos c.args.play) c.put_count.new.self _
    (row-more (take 2 rows) Grain (pos b.grain) c.put-2.new.self _
    (row-more (take 1 rows) High b.high c.put.new.self _
    (row-more [] Low b.low c.args.page.now _ c.requires.0 low)
    high)
    c.put_count.ensures.bytes)
    c.put_count-2.ensures.bytes)
    c.put_count-3.ensures.bytes
