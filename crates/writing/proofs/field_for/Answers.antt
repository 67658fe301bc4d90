-- `writing::field_for` meets its contract.
use mathlib.Core.Path.{ap}
use mir.Syntax.{w64}
use mir.ValLaws.{to_z-of_z}
use Rattle.field.specs.declared.Field.TheVariants.{Number}
use Rattle.writing.proofs.field_for.Goals as goal

pub returns : goal.returns
returns c = rw c.if-empty.false (ap Number (to_z-of_z w64 c.args.z c.ranges.z))
