-- Tests of a kind.
use mathlib.Core.Path.{◌≡◌, refl}
use mathlib.Core.Bool.{false}
use denote.Enum.Bare.{sameb}
use Rattle.std.specs.Prelude.{Option, Some, None, is_none, unwrap_or}
use Rattle.line.specs.contracts.Kind.{the_type}
use Rattle.line.specs.declared.Kind.{Kind}
use Rattle.line.specs.declared.Kind.TheVariants.{Leaf, Max, Min, Chance}
use Rattle.line.specs.Line.{code, is_leaf, is_chance, code_or}
use Rattle.line.proofs.Signs.{true-ne-false}

pub leaf_same : (k : Kind) → sameb the_type k Leaf ≡ is_leaf k
leaf_same Leaf = refl
leaf_same Max = refl
leaf_same Min = refl
leaf_same Chance = refl

pub chance_same : (k : Kind) → sameb the_type k Chance ≡ is_chance k
chance_same Leaf = refl
chance_same Max = refl
chance_same Min = refl
chance_same Chance = refl

-- a letter that is a kind's
pub code-said : (o : Option Kind) → is_none o ≡ false → code_or o ≡ code (unwrap_or o Leaf)
code-said None e = absurd (true-ne-false e)
code-said (Some k) e = refl
