-- `writing::put_header` meets its contract.
use Prim.Native.Nat.{ℕ}
use mathlib.Core.Path.{ap, ap₂, ◌∙◌}
use mathlib.Core.List.{List}
use native.Mathlib.Omega.{arith}
use lib.Dec.{lit<, lit≤}
use lib.ListN.{set, length-set}
use lib.Seq.{sets}
use lib.IntN.{ℤ}
use Rattle.writing.specs.Text.{columns, totals_text}
use Rattle.writing.proofs.Stored.{handed, fits-handed, whole-handed, fits-end, header-stored}
use Rattle.writing.proofs.put_header.Goals as goal

pub put-requires : goal.put-requires
put-requires c =
    (omega (arith, c.requires.0), fits-handed c.args.n 4 (lit< tt) (lit≤ tt) (omega (arith, c.requires.1)) (omega (arith, c.requires.1)))

pub put-requires-2 : goal.put-requires-2
put-requires-2 c =
    let r = c.requires.2.lowest in
    rw (whole-handed c.args.h.lowest (omega (arith, r))) (omega (arith, c.requires.0, c.put.auto.buffer, c.put_totals.auto.buffer), fits-end c.args.h.lowest r)

pub put-requires-3 : goal.put-requires-3
put-requires-3 c =
    let r = c.requires.2.highest in
    rw (whole-handed c.args.h.highest (omega (arith, r))) (omega (arith, c.requires.0, c.put.auto.buffer, c.put_totals.auto.buffer, c.put-2.auto.buffer), fits-end c.args.h.highest r)

pub shape_of-buffer : goal.shape_of-buffer
shape_of-buffer c = length-set c.put-3.new.buffer 24 10 ∙ c.put-3.auto.buffer ∙ c.put-2.auto.buffer ∙ c.put_totals.auto.buffer ∙ c.put.auto.buffer

pub returns : goal.returns
returns c =
    let a = c.args in
    let d : List ℕ = a.buffer.now in
    let r = c.requires.2 in
    let d1 = c.put.ensures ∙ ap (λ (z : ℤ). sets d 0 (columns 4 z)) (handed a.n (omega (arith, c.requires.1))) in
    let d2 = c.put_totals.ensures ∙ ap (λ (l : List ℕ). sets l 4 (totals_text a.h)) d1 in
    let d3 = c.put-2.ensures ∙ ap₂ (λ (l : List ℕ) (z : ℤ). sets l 8 (columns 8 z)) d2 (whole-handed a.h.lowest (omega (arith, r.lowest))) in
    let d4 = c.put-3.ensures ∙ ap₂ (λ (l : List ℕ) (z : ℤ). sets l 16 (columns 8 z)) d3 (whole-handed a.h.highest (omega (arith, r.highest))) in
    ap (λ (l : List ℕ). set l 24 10) d4 ∙ header-stored d a.h a.n c.requires.1 r
