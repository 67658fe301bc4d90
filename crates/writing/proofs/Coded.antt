-- A line whose kind is a number, in words of the number: its letter, and whether it has a utility.
use Rattle.std.proofs.Common.{ℕ, ◌≡◌, cond, eqb, arith}
use Rattle.std.proofs.lemmas.Grind.{common_steps}
use Rattle.line.specs.Line.{letter, is_leaf}
use Rattle.writing.specs.Inside.{kind_written}

pub letter-coded : (k : ℕ) → letter (kind_written k) ≡ cond (eqb k 0) 76 (cond (eqb k 1) 77 (cond (eqb k 2) 78 67))
letter-coded k = grind (arith, common_steps)

pub leaf-coded : (k : ℕ) → is_leaf (kind_written k) ≡ eqb k 0
leaf-coded k = grind (arith, common_steps)
