use Prim.Native.Nat.{ℕ, ◌+◌, ◌*◌}
use mathlib.Core.Path.{sym, ap}
use native.Mathlib.Omega.{arith}
use native.Mathlib.Numerals.{add-one}
use Rattle.recipe.proofs.Rules.{nodes-leaf, nodes-more, nodes-fit}
use Rattle.recipe.proofs.Recipe.count_nodes.Goals as goal

pub loop-init : goal.loop-init
loop-init c = sym (nodes-leaf c.args.self.b)

pub overflow_mul-n : goal.overflow_mul-n
overflow_mul-n c = omega (arith, nodes-fit c.args.self.b c.loop.counter c.loop.n c.loop.invariant c.requires.0 (omega arith))

pub overflow_add-n : goal.overflow_add-n
overflow_add-n c = omega (arith, nodes-fit c.args.self.b c.loop.counter c.loop.n c.loop.invariant c.requires.0 (omega arith))

pub loop-preserved : goal.loop-preserved
loop-preserved c = rw (add-one, nodes-more) (ap (λ (n : ℕ). 1 + c.args.self.b * n) c.loop.invariant)
