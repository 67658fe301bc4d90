-- A refusal's number is 1 to 22.
use Prim.Native.Nat.{◌≤◌}
use native.Mathlib.Omega.{arith}
use Rattle.line.specs.declared.Refusal.{Refusal}
use Rattle.line.specs.declared.Refusal.TheVariants.{Length, IllWritten, OutOfRange, Misnumbered, UnknownKind, WrongParent, Misfilled, Childless, WrongSum, TooDeep, NoRoom, BadMargin, HasChance, NoChild, TooMany, NoPosition, BadBudget, TooManyGrains, BadRecipe, BadScale, BadIndex}
use Rattle.line.specs.Refusal.{number_of}

range : (r : Refusal) → (1 ≤ number_of r) × (number_of r ≤ 22)
range Length = (omega arith, omega arith)
range (IllWritten n) = (omega arith, omega arith)
range (OutOfRange n) = (omega arith, omega arith)
range (Misnumbered n) = (omega arith, omega arith)
range (UnknownKind n) = (omega arith, omega arith)
range (WrongParent n) = (omega arith, omega arith)
range (Misfilled n) = (omega arith, omega arith)
range (Childless n) = (omega arith, omega arith)
range (WrongSum n) = (omega arith, omega arith)
range (TooDeep n) = (omega arith, omega arith)
range NoRoom = (omega arith, omega arith)
range BadMargin = (omega arith, omega arith)
range HasChance = (omega arith, omega arith)
range NoChild = (omega arith, omega arith)
range TooMany = (omega arith, omega arith)
range NoPosition = (omega arith, omega arith)
range BadBudget = (omega arith, omega arith)
range TooManyGrains = (omega arith, omega arith)
range BadRecipe = (omega arith, omega arith)
range BadScale = (omega arith, omega arith)
range BadIndex = (omega arith, omega arith)

pub number-some : (r : Refusal) → 1 ≤ number_of r
number-some r = (range r).0

pub number_small : (r : Refusal) → number_of r ≤ 22
number_small r = (range r).1
