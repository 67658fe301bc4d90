-- `reading::decode` meets its contract.
use mathlib.Core.Path.{◌≡◌, sym, ◌∙◌}
use mathlib.Core.Bool.{false}
use native.Mathlib.Omega.{arith}
use lib.ListN.{length, take, get_or}
use lib.Seq.{length-take-le}
use Rattle.std.proofs.lemmas.Result.{err_from_is_err_and}
use Rattle.line.specs.declared.Refusal.TheVariants.{Length}
use Rattle.line.specs.Line.{heading_of}
use Rattle.line.proofs.Fine.{header-ranged}
use Rattle.table.specs.Table.{bad_length, count, read_text}
use Rattle.table.proofs.Top.{good_length, read_length, read-refused, read-lines}
use Rattle.reading.proofs.Top.{decoded-refused}
use Rattle.reading.proofs.decode.Goals as goal
use Rattle.reading.proofs.decode.Goals.{Else-is_bad_length}

pub returns-then-is_bad_length : goal.returns-then-is_bad_length
returns-then-is_bad_length c =
    let s = c.args.text.now in
    decoded-refused (read_text s) Length _ _ _ _ _ _ _ _ (read_length s (sym c.is_bad_length.ensures ∙ c.if-is_bad_length.true))

good : (c : Else-is_bad_length) → bad_length (length c.args.text.now) ≡ false
good c = sym c.is_bad_length.ensures ∙ c.if-is_bad_length.false

-- the header's line
front : (c : Else-is_bad_length) → length (take 25 c.args.text.now) ≡ 25
front c = length-take-le 25 c.args.text.now (omega (arith, (good_length (length c.args.text.now) (good c)).0))

pub slice_bounds-header-end : goal.slice_bounds-header-end
slice_bounds-header-end c = sym (front c)

pub header-requires : goal.header-requires
header-requires c = front c

pub decode_lines-requires : goal.decode_lines-requires
decode_lines-requires c =
    let s = c.args.text.now in
    let l = good_length (length s) (good (goal.at.decode_lines-requires c).Else-is_bad_length) in
    (c.requires, l.1, l.2, l.3, header-ranged (count s) (get_or (take 25 s) 24 0) (heading_of (take 25 s)) c.in_ok-h.h (sym c.in_ok-h.ensures))

pub returns-in_err-h : goal.returns-in_err-h
returns-in_err-h c =
    let s = c.args.text.now in
    let r = c.in_err-h.field-0.0 in
    let p = err_from_is_err_and c.from_residual.result c.from_residual.ensures.1 in
    rw (p.1, p.2) (decoded-refused (read_text s) r _ _ _ _ _ _ _ _ (read-refused s (good (goal.at.returns-in_err-h c).Else-is_bad_length) r (sym c.in_err-h.ensures)))

pub returns : goal.returns
returns c = rw (read-lines c.args.text.now (good (goal.at.returns c).Else-is_bad_length) c.in_ok-h.h (sym c.in_ok-h.ensures)) c.decode_lines.ensures
