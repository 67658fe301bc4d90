-- `writing::put_totals` meets its contract.
use Prim.Native.Nat.{ℕ}
use mathlib.Core.Path.{ap, ap₂, ◌∙◌}
use mathlib.Core.List.{List}
use native.Mathlib.Omega.{arith}
use borrow.Author.Tests.{eq-eqb, ne_eqb}
use lib.Dec.{lit<, lit≤}
use lib.Seq.{sets}
use lib.IntN.{ℤ}
use Rattle.writing.specs.Text.{columns}
use Rattle.writing.proofs.Stored.{handed, fits-handed, totals-stored}
use Rattle.writing.proofs.put_totals.Goals as goal

pub put-requires : goal.put-requires
put-requires c =
    let r = c.requires.1.total in
    (omega (arith, c.requires.0), fits-handed c.args.h.total 4 (lit< tt) (lit≤ tt) (omega (arith, r)) (omega (arith, r)))

pub returns-then-h-eq0 : goal.returns-then-h-eq0
returns-then-h-eq0 c =
    let a = c.args in
    let r = c.requires.1.total in
    c.put.ensures
    ∙ ap (λ (z : ℤ). sets a.buffer.now 4 (columns 4 z)) (handed a.h.total (omega (arith, r)))
    ∙ rw (eq-eqb a.h.second 0 c.if-h-eq0.true)

pub put-requires-2 : goal.put-requires-2
put-requires-2 c =
    let r = c.requires.1.second in
    (omega (arith, c.requires.0), fits-handed c.args.h.second 2 (lit< tt) (lit≤ tt) (omega (arith, r)) (omega (arith, r)))

pub put-requires-3 : goal.put-requires-3
put-requires-3 c =
    let r = c.requires.1.total in
    (omega (arith, c.requires.0, c.put-2.auto.buffer), fits-handed c.args.h.total 2 (lit< tt) (lit≤ tt) (omega (arith, r)) (omega (arith, r)))

pub returns : goal.returns
returns c =
    let a = c.args in
    let r = c.requires.1 in
    c.put-3.ensures
    ∙ ap₂ (λ (l : List ℕ) (z : ℤ). sets l 6 (columns 2 z))
    (c.put-2.ensures ∙ ap (λ (z : ℤ). sets a.buffer.now 4 (columns 2 z)) (handed a.h.second (omega (arith, r.second))))
    (handed a.h.total (omega (arith, r.total)))
    ∙ totals-stored a.buffer.now a.h.second a.h.total r.second
    ∙ rw (ne_eqb a.h.second 0 c.if-h-eq0.false)
