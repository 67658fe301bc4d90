use Rattle.std.proofs.Common.{◌<◌, refl, length, arith}
use Rattle.rolling.specs.Inside.Contracts.{stored}
use Rattle.rolling.proofs.Looped.{rolling-some, rolling-begin, rolling-end, rolling-ready, rolling-less, rolling-few, rolling-small, rolling-on}
use Rattle.rolling.proofs.roll_out.Goals as goal
use Rattle.rolling.proofs.roll_out.Goals.{After-walk-r}

pub loop-path-init : goal.loop-path-init
loop-path-init c =
    let a = c.args in
    (refl, rolling-some a.leaves.now a.policy.now c.requires, λ R. rolling-begin a.leaves.now a.policy.now R)

pub returns-then-root : goal.returns-then-root
returns-then-root c =
    λ R. rolling-end c.args.leaves.now c.args.policy.now R (c.loop-path.invariant.2 R) c.if-root.true

pub walk-r-requires : goal.walk-r-requires
walk-r-requires c =
    (rolling-ready _ _ _ (c.loop-path.invariant.2 c.requires) c.if-root.false, omega arith)

-- there is room for the leaf that was read
room : (c : After-walk-r) → (c.loop-path.used < length c.args.leaves.now) × (c.loop-path.used < 1024) × (c.walk-r.result.leaf < 1024)
room c =
    let L = c.loop-path.invariant.2 c.requires in
    let r = c.walk-r.result in
    let e = c.walk-r.ensures in (
      rolling-less _ _ _ L c.if-root.false r (stored _ _) e,
      rolling-few _ _ _ L c.if-root.false r (stored _ _) e,
      rolling-small _ _ _ L c.if-root.false r (stored _ _) e,
    )

pub overflow_cast-leaves : goal.overflow_cast-leaves
overflow_cast-leaves c = record { fits = omega (arith, (room (goal.at.overflow_cast-leaves c).After-walk-r).2) }

pub offset_bounds-leaves-used : goal.offset_bounds-leaves-used
offset_bounds-leaves-used c = record { fits = omega (arith, (room (goal.at.offset_bounds-leaves-used c).After-walk-r).1) }

pub bounds-leaves-used : goal.bounds-leaves-used
bounds-leaves-used c = omega (arith, (room (goal.at.bounds-leaves-used c).After-walk-r).0)

pub overflow_add-used : goal.overflow_add-used
overflow_add-used c = record { fits = omega (arith, (room (goal.at.overflow_add-used c).After-walk-r).1) }

pub loop-path-smaller : goal.loop-path-smaller
loop-path-smaller c = omega (arith, (room (goal.at.loop-path-smaller c).After-walk-r).0)

pub loop-path-preserved : goal.loop-path-preserved
loop-path-preserved c =
    let a = c.args in (
      omega arith,
      c.loop-path.invariant.1,
      λ R. rolling-on a.leaves.now a.policy.now R (c.loop-path.invariant.2 R) c.if-root.false c.walk-r.result (stored _ _) c.walk-r.ensures,
    )
