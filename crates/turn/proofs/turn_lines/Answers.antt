use Prim.Native.Nat.{◌-◌}
use mathlib.Core.Path.{◌≡◌, refl, sym, ◌∙◌}
use native.Mathlib.Omega.{arith}
use Rattle.turn.proofs.Stored.{part-long, row-roomy, rows-after, rows-stored, rows-done}
use Rattle.turn.proofs.turn_lines.Goals as goal

pub loop-i-init : goal.loop-i-init
loop-i-init c =
    let z : c.args.n - 0 ≡ c.args.n = omega arith in
    rw z (omega arith, c.requires.2, c.requires.0, c.requires.1, refl, c.requires.3, refl)

pub overflow_mul-at : goal.overflow_mul-at
overflow_mul-at c = let v = c.loop-i.invariant in record { fits = omega (arith, v.0, v.1) }

pub overflow_add-at : goal.overflow_add-at
overflow_add-at c = let v = c.loop-i.invariant in record { fits = omega (arith, v.0, v.1) }

pub overflow_add-at-in-loop-i : goal.overflow_add-at-in-loop-i
overflow_add-at-in-loop-i c = let v = c.loop-i.invariant in record { fits = omega (arith, v.0, v.1) }

pub slice_bounds-turn_line-count : goal.slice_bounds-turn_line-count
slice_bounds-turn_line-count c = omega arith

pub turn_line-requires : goal.turn_line-requires
turn_line-requires c =
    let a = c.args in
    let v = c.loop-i.invariant in
    let t = c.loop-i-test.true in
    (part-long a.text.now c.loop-i.i (omega (arith, v.2, t)), omega (arith, v.3, v.4, t), row-roomy a.text.now a.n c.loop-i.i t v.5)

pub loop-i-preserved : goal.loop-i-preserved
loop-i-preserved c =
    let a = c.args in
    let v = c.loop-i.invariant in
    let t = c.loop-i-test.true in
    let k = c.turn_line in (
      omega arith,
      v.1,
      v.2,
      v.3,
      k.auto.buffer ∙ v.4,
      rows-after a.text.now a.n c.loop-i.i t v.5,
      v.6 ∙ rows-stored a.text.now a.n c.loop-i.i t v.5 c.loop-i.buffer _ k.ensures,
    )

pub shape_of-buffer : goal.shape_of-buffer
shape_of-buffer c = c.loop-i.invariant.4

pub returns : goal.returns
returns c =
    let a = c.args in
    sym (c.loop-i.invariant.6 ∙ rows-done a.text.now a.n c.loop-i.i c.loop-i-test.false c.loop-i.buffer)
