use Prim.Native.Nat.{ℕ, ◌+◌, ◌≤◌, ◌<◌}
use mathlib.Core.List.{List}
use mathlib.Core.Path.{◌≡◌, refl, ◌∙◌}
use native.Mathlib.Omega.{arith}
use lib.ListN.{length, get_or, take}
use lib.Seq.{get_or-take, length-take-le}
use Rattle.std.proofs.lemmas.Grind.{common_steps}
use Rattle.table.specs.Nodes.{stops_in}
use Rattle.runs.proofs.Reach.{stop-here, stop-on, stop-within, stop-last}
use Rattle.runs.proofs.run_end.Goals as goal
use Rattle.runs.proofs.run_end.Goals.{then-n-c-via-then-n-c, then-n-c-via-else-n-c+then-from-i}

-- the entry of a node within the lines
within : (n : ℕ) (up : List ℕ) → n ≤ length up → (j : ℕ) → j < n → (j < length (take n up)) × (get_or (take n up) j 0 ≡ get_or up j 0)
within n up h j l = (omega (arith, length-take-le n up h), get_or-take n up j 0 l)

pub returns-then-n-c : goal.returns-then-n-c
returns-then-n-c c =
    let a = c.args in
    let up = a.up.now in
    let p = c.requires in
    elim c.then-n-c.branch [
      | then-n-c-via-then-n-c w ↦ stop-last (take a.n up) a.i (a.i + 1) refl (omega (arith, length-take-le a.n up p.1))
      | then-n-c-via-else-n-c+then-from-i w ↦
          let u = within a.n up p.1 (a.i + 1) (omega arith) in stop-here (take a.n up) a.i (a.i + 1) refl u.0 (omega (arith, u.1))
    ]

pub loop-j-init : goal.loop-j-init
loop-j-init c =
    let a = c.args in
    let up = a.up.now in
    let p = c.requires in
    let u = within a.n up p.1 (a.i + 1) (omega arith) in
    let e = p.5 (omega arith) in (
      omega (arith, e),
      omega (arith, e, stop-within (take a.n up) a.i (a.i + 1) refl u.0, length-take-le a.n up p.1),
      rw e (stop-on (take a.n up) a.i (a.i + 1) refl u.0 (omega (arith, u.1)) (omega arith)),
    )

pub loop-j-preserved : goal.loop-j-preserved
loop-j-preserved c =
    let a = c.args in
    let up = a.up.now in
    let p = c.requires in
    let v = c.loop-j.invariant in
    let u = within a.n up p.1 c.loop-j.j (omega arith) in
    let s : c.from-j.result ≡ get_or (stops_in a.nodes.now) c.loop-j.j 0 = grind (arith, common_steps) in
    let e = s ∙ p.4 c.loop-j.j (omega (arith, v.0)) u.0 in (
      omega (arith, e, v.0),
      omega (arith, e, stop-within (take a.n up) a.i c.loop-j.j v.2 u.0, length-take-le a.n up p.1),
      rw e (stop-on (take a.n up) a.i c.loop-j.j v.2 u.0 (omega (arith, u.1)) (omega (arith, v.0))),
    )

pub returns-else-i-from : goal.returns-else-i-from
returns-else-i-from c =
    let a = c.args in
    let u = within a.n a.up.now c.requires.1 c.loop-j.j (omega arith) in
    stop-here (take a.n a.up.now) a.i c.loop-j.j c.loop-j.invariant.2 u.0 (omega (arith, u.1))

pub returns-after-loop-j : goal.returns-after-loop-j
returns-after-loop-j c =
    let a = c.args in
    stop-last (take a.n a.up.now) a.i c.loop-j.j c.loop-j.invariant.2 (omega (arith, length-take-le a.n a.up.now c.requires.1))
