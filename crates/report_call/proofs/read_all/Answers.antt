use mathlib.Core.Path.{◌≡◌, ◌∙◌}
use native.Mathlib.Omega.{arith}
use borrow.Author.Rules.{rules}
use mir.Syntax.{w64}
use mir.Val.{to_z, of_z}
use Rattle.report_call.proofs.Sums.{no-totals}
use Rattle.report_call.proofs.Going.{going-none, going-small, going_end, going-full, going-stopped, entry-small, entry-end, going_on}
use Rattle.report_call.proofs.read_all.Goals as goal

pub loop-reader-init : goal.loop-reader-init
loop-reader-init c = going-none _ _ _ _ _ _ (no-totals _ c.default-t.ensures) c.requires.0 c.requires.1 c.requires.2

pub returns-then-n-eq500 : goal.returns-then-n-eq500
returns-then-n-eq500 c = going-full c.loop-reader.invariant c.loop-reader-test.true c.if-n-eq500.true

pub returns-in-Err : goal.returns-in-Err
returns-in-Err c =
    going-stopped c.loop-reader.invariant c.loop-reader-test.true c.if-n-eq500.false c.in-Err.refusal c.in-Err.ensures

pub loss_code-requires : goal.loss_code-requires
loss_code-requires c = entry-small c.loop-reader.invariant c.loop-reader-test.true c.if-n-eq500.false c.in-Ok.ensures

pub overflow_add-reader : goal.overflow_add-reader
overflow_add-reader c =
    record { fits = omega (arith, entry-end c.loop-reader.invariant c.loop-reader-test.true c.if-n-eq500.false c.in-Ok.ensures) }

pub with_row-t-requires : goal.with_row-t-requires
with_row-t-requires c = (
  going-small c.loop-reader.invariant,
  entry-small c.loop-reader.invariant c.loop-reader-test.true c.if-n-eq500.false c.in-Ok.ensures,
)

pub loop-reader-smaller : goal.loop-reader-smaller
loop-reader-smaller c =
    omega (arith, entry-end c.loop-reader.invariant c.loop-reader-test.true c.if-n-eq500.false c.in-Ok.ensures)

pub loop-reader-preserved : goal.loop-reader-preserved
loop-reader-preserved c =
    let z = c.loss_code in
    let back : to_z w64 (of_z w64 z.result) ≡ z.result = search rules in
    going_on c.loop-reader.invariant c.loop-reader-test.true c.if-n-eq500.false c.in-Ok.ensures (back ∙ z.ensures)
    c.mark_code.ensures c.with_row-t.ensures

pub returns : goal.returns
returns c = going_end c.loop-reader.invariant c.loop-reader-test.false
