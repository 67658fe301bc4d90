use Prim.Native.Nat.{suc, ◌≤◌, ◌-◌, ◌^◌}
use mathlib.Core.Path.{◌≡◌, sym, ◌∙◌}
use native.Mathlib.Nat.{pow-suc, pow-le-pow_right}
use native.Mathlib.Omega.{arith}
use lib.Dec.{lit<}
use lib.ListN.{length}
use Rattle.field.proofs.Reader.{left-digit, no-digits}
use Rattle.field.proofs.last_number.Goals as goal
use Rattle.field.proofs.last_number.Goals.{In-loop-i}

-- one digit more has room
room : (c : In-loop-i) → c.loop-i.unit ≤ 10 ^ 17
room c =
    let few : length c.args.t.now - c.loop-i.i ≤ 17 = omega arith in
    omega (arith, pow-le-pow_right {n = 10} (lit< tt) few)

pub loop-i-init : goal.loop-i-init
loop-i-init c =
    let z : length c.args.t.now - length c.args.t.now ≡ 0 = omega arith in
    (rw z, lit< tt, no-digits c.args.t.now)

pub overflow_mul-n : goal.overflow_mul-n
overflow_mul-n c = grind (arith, room (goal.at.overflow_mul-n c).In-loop-i)

pub overflow_add-n : goal.overflow_add-n
overflow_add-n c = grind (arith, room (goal.at.overflow_add-n c).In-loop-i)

pub overflow_mul-unit : goal.overflow_mul-unit
overflow_mul-unit c = omega (arith, room (goal.at.overflow_mul-unit c).In-loop-i)

pub loop-i-preserved : goal.loop-i-preserved
loop-i-preserved c =
    let i = c.loop-i.i in
    let columns : length c.args.t.now - (i - 1) ≡ suc (length c.args.t.now - i) = omega arith in (
      rw (columns, pow-suc) (omega arith),
      grind arith,
      rw (c.from.ensures, c.loop-i.invariant.0)
          (left-digit c.args.t.now i c.loop-i.n (omega arith) (omega arith) (sym c.is_ascii_digit.ensures.value ∙ c.if-not-is_ascii_digit.false) c.loop-i.invariant.2),
    )
