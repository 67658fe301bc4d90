use Rattle.std.proofs.Common.{ℕ, ℤ, ◌≡◌, ◌<◌, ◌≤◌, ◌≢◌, ap, ap₂, drop, ◌++◌, length, get_or, get_or-set_same, get_or-set_other, below_more, arith, w64, to_z, of_z, ◌+ℤ◌, pos}
use Rattle.std.proofs.lemmas.Int.{ints}
use Rattle.std.proofs.lemmas.Grind.{common_steps}
use lib.Signed.{mag}
use Rattle.rollout_call.proofs.Filling.{all-bounds}
use Rattle.rollout_call.proofs.fill.Goals as goal

-- the sum that the code takes, as bits
sum : (b : ℤ) (v : ℕ) → (mag b ≤ 35184372088832) × (v ≤ 35184372088832)
    → to_z w64 (of_z w64 (to_z w64 (of_z w64 b) +ℤ to_z w64 v)) ≡ to_z w64 (of_z w64 b) +ℤ pos v
sum b v h = omega (arith, ints)

pub loop-i-preserved : goal.loop-i-preserved
loop-i-preserved c =
    let a = c.args in
    let i = c.loop-i.i in
    let some : i < a.n = grind (arith, common_steps) in
    below_more _ _
    (λ k h. let ne : k ≢ i = omega arith in rw get_or-set_other (c.loop-i.invariant k h))
    (let lt : i < length c.loop-i.record-items = omega arith in
    rw get_or-set_same (ap₂ (λ (l h : ℤ). record { low = l; high = h }) (sum a.base (get_or a.low.now i 0) (c.requires.3 i some)) (sum a.base (get_or a.high.now i 0) (c.requires.4 i some))))

pub returns : goal.returns
returns c =
    let a = c.args in
    let back : to_z w64 (of_z w64 a.base) ≡ a.base = omega (arith, ints) in
    ap (λ l. l ++ drop a.n a.store.now)
    (all-bounds a.base a.n a.low.now a.high.now c.loop-i.record-items (grind (arith, common_steps)) (omega arith) (omega arith)
    (λ k o. rw back at (c.loop-i.invariant k (grind (arith, common_steps)))))
