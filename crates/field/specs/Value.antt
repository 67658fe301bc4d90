-- What a field holds. Document 01, 'The table on paper'.
use Rattle.std.specs.Prelude.{ℕ, Bool, true, false, ◌||◌, eqb, ℤ, pos, negsuc}
use Rattle.std.specs.Int.Signed.{lt_z}
use Rattle.field.specs.declared.Field.{Field}
use Rattle.field.specs.declared.Field.TheVariants.{Blank, Ill, Number}

abbrev pub is_ill : Field → Bool
is_ill Blank = false
is_ill Ill = true
is_ill (Number z) = false

abbrev pub is_blank : Field → Bool
is_blank Blank = true
is_blank Ill = false
is_blank (Number z) = false

-- the field holds the number n
abbrev pub has_number : ℕ → Field → Bool
has_number n Blank = false
has_number n Ill = false
has_number n (Number (pos m)) = eqb m n
has_number n (Number (negsuc m)) = false

-- the field holds a number below lo or above hi
abbrev pub outside : ℤ → ℤ → Field → Bool
outside lo hi Blank = false
outside lo hi Ill = false
outside lo hi (Number z) = lt_z z lo || lt_z hi z

-- the number in the field, or 0 where there is none
abbrev pub value_of : Field → ℤ
value_of Blank = pos 0
value_of Ill = pos 0
value_of (Number z) = z

-- the number itself, or 0 where it is below zero
abbrev pub to_nat : ℤ → ℕ
to_nat (pos n) = n
to_nat (negsuc n) = 0

abbrev pub count_of : Field → ℕ
count_of f = to_nat (value_of f)
