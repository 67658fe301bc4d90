-- What the code that reads a field asks of its sign and its number. No promise of a public call names these.
use Rattle.std.specs.Prelude.{ℕ, Bool, true, false, not, ◌||◌, ◌&&◌, eqb, ℤ, pos, neg_ℤ}

-- the number n with c before its digits is none: c is neither a blank nor a minus, or it is a minus before zeros alone
abbrev pub off : ℕ → ℕ → Bool
off c n = (not (eqb c 32) && not (eqb c 45)) || (eqb c 45 && eqb n 0)

abbrev pub with_sign : Bool → ℕ → ℤ
with_sign true n = neg_ℤ (pos n)
with_sign false n = pos n
