-- A step whose kind is a number, in words of the number: what the rules about a path ask of it.
use Rattle.std.proofs.Common.{ℕ, ◌≡◌, eqb, arith}
use Rattle.std.proofs.lemmas.Grind.{common_steps}
use Rattle.line.specs.Line.{is_leaf, is_chance}
use Rattle.parsing.specs.Inside.{kind_on_path}

pub leaf-coded : (k : ℕ) → is_leaf (kind_on_path k) ≡ eqb k 0
leaf-coded k = grind (arith, common_steps)

pub chance-coded : (k : ℕ) → is_chance (kind_on_path k) ≡ eqb k 3
chance-coded k = grind (arith, common_steps)
