use Prim.Native.Nat.{ℕ, ◌<◌}
use mathlib.Core.Bool.{cond}
use mathlib.Core.Path.{◌≡◌, ap, ◌∙◌}
use native.Mathlib.Omega.{arith}
use lib.Dec.{eqb}
use lib.ListN.{length}
use Rattle.recipe.specs.declared.Siblings.{Siblings}
use Rattle.recipe.specs.Inside.{under_of, Rowed}
use Rattle.recipe.proofs.Rows.{row-none, line-ready, under-ready, rest-ready, row_more, falls-under}
use Rattle.recipe.proofs.Recipe.+write_row.Goals as goal
use Rattle.recipe.proofs.Recipe.+write_row.Goals.{After-write_row-after}

some : {m : ℕ} → (m ≡ 0 → ⊥) → 0 < m
some h = omega arith

-- the lines under the first are written
write-row-under : (t : ℕ) (c : After-write_row-after t)
    → let a = c.args in
    let w = c.write_first-first in
    Rowed a.self.b a.self.dice (under_of a.self.dice a.y a.c a.at.node) (cond (eqb a.y.left 0) 0 a.self.b) 1 w.result w.new.buffer c.write_row-after.new.buffer c.write_row-after.result
write-row-under t c = rw (c.under_of-under.ensures, c.children.ensures) at c.write_row-after.ensures

pub returns-then-m-eq0 : goal.returns-then-m-eq0
returns-then-m-eq0 t c =
    let a = c.args in
    row-none a.self.b a.self.dice a.y a.m a.c a.at a.buffer.now c.if-m-eq0.true

pub write_first-first-requires : goal.write_first-first-requires
write_first-first-requires t c =
    let a = c.args in
    line-ready a.self.b a.self.dice a.y a.m a.c a.at (length a.buffer.now) (some c.if-m-eq0.false) c.requires

pub write_row-after-requires : goal.write_row-after-requires
write_row-after-requires t c =
    let a = c.args in
    let h = some c.if-m-eq0.false in
    let w = c.write_first-first in
    let u = c.under_of-under.ensures in
    let R = c.requires in (
      omega (arith, c.decreases, falls-under a.y.left a.m a.self.b h R.most, ap (λ (x : Siblings). x.left) u, c.children.ensures),
      rw (u, c.children.ensures, w.auto.buffer) (under-ready a.self.b a.self.dice a.y a.m a.c a.at (length a.buffer.now) h R w.result w.ensures.places),
    )

pub write_row-requires : goal.write_row-requires
write_row-requires t c =
    let a = c.args in
    let h = some c.if-m-eq0.false in
    let w = c.write_first-first in
    let v = c.write_row-after in
    let l = v.auto.buffer ∙ w.auto.buffer in (
      omega (arith, c.decreases, h),
      rw l (rest-ready a.self.b a.self.dice a.y a.m a.c a.at (length a.buffer.now) h c.requires w.result v.result w.new.buffer v.new.buffer w.ensures.places (write-row-under t (goal.at.write_row-requires t c).After-write_row-after)),
    )

pub returns-else-m-eq0 : goal.returns-else-m-eq0
returns-else-m-eq0 t c =
    let a = c.args in
    let h = some c.if-m-eq0.false in
    let w = c.write_first-first in
    let v = c.write_row-after in
    row_more a.self.b a.self.dice a.y a.m a.c a.at (length a.buffer.now) h c.requires w.result v.result w.new.buffer v.new.buffer w.ensures.places
    (write-row-under t (goal.at.returns-else-m-eq0 t c).After-write_row-after) a.buffer.now c.write_row.new.buffer c.write_row.result w.ensures.writes c.write_row.ensures
