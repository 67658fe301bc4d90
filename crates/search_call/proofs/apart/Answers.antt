-- `search_call::apart` meets its contract.
use Prim.Native.Nat.{◌-◌}
use native.Mathlib.Omega.{arith}
use borrow.Author.Rules.{sfits_of}
use lib.IntN.{pos}
use mir.Syntax.{w64}
use mir.ValLaws.{to_z-of_z}
use Rattle.search_call.proofs.apart.Goals as goal

pub returns : goal.returns
returns c = to_z-of_z w64 (pos (c.args.high - c.args.low)) (sfits_of (omega (arith, c.requires.1)))
