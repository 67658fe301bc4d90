-- Numbers in columns: how one is read and how one is written. Document 01, 'The table on paper', first paragraph; of zeros before a number document 02,
-- Item 9.
use Rattle.std.specs.Prelude.{ℕ, zero, suc, ◌+◌, ◌-◌, ◌*◌, ◌/◌, ◌%◌, cond, List, [], ◌∷◌, ◌++◌, length, take, drop, replicate, eqb, ltb, Option, Some, None, ℤ, pos, negsuc, neg_ℤ}
use Rattle.field.specs.declared.Field.{Field}
use Rattle.field.specs.declared.Field.TheVariants.{Blank, Ill, Number}

-- Bytes: a blank is 32, a minus 45, and the digits 0 to 9 are 48 to 57.

-- ---- reading

-- "blanks before it": the columns from the first that is no blank
unfoldable pub strip : List ℕ → List ℕ
strip [] = []
strip (b ∷ s) = cond (eqb b 32) (strip s) (b ∷ s)

-- n with the digits s written after it; any other byte means none
unfoldable pub digits : ℕ → List ℕ → Option ℕ
digits n [] = Some n
digits n (b ∷ s) = cond (ltb b 48) None (cond (ltb 57 b) None (digits (n * 10 + (b - 48)) s))

-- one digit or more; by Item 9 "A number may now have zeros before its first digit"
unfoldable pub whole : List ℕ → Option ℕ
whole [] = None
whole (b ∷ s) = digits 0 (b ∷ s)

-- "no plus": a number that is not below zero is its digits alone
abbrev pub plain : Option ℕ → Field
plain None = Ill
plain (Some n) = Number (pos n)

-- "a minus stands directly before its digits; `-0` is not a number", by Item 9 "before the zeros", and "minus with only zeros is still ill-written"
abbrev pub minus : Option ℕ → Field
minus None = Ill
minus (Some n) = cond (eqb n 0) Ill (Number (neg_ℤ (pos n)))

-- what stands after the blanks: nothing, or a number
unfoldable pub signed : List ℕ → Field
signed [] = Blank
signed (b ∷ s) = cond (eqb b 45) (minus (whole s)) (plain (whole (b ∷ s)))

-- the field of `width` columns of the text s, from the byte `from` on
abbrev pub field_of : List ℕ → ℕ → ℕ → Field
field_of s from width = signed (strip (take width (drop from s)))

-- ---- writing

-- the last digit of n
abbrev pub digit : ℕ → ℕ
digit n = 48 + n % 10

-- the digits of n, none where n is 0, and at most k of them
unfoldable pub leading : ℕ → ℕ → List ℕ
leading zero n = []
leading (suc k) n = cond (eqb n 0) [] (leading k (n / 10) ++ (digit n ∷ []))

-- a number of at most 15 digits
abbrev pub decimal : ℕ → List ℕ
decimal n = leading 14 (n / 10) ++ (digit n ∷ [])

-- the same with a minus where it is below zero
abbrev pub text_of : ℤ → List ℕ
text_of (pos n) = decimal n
text_of (negsuc n) = 45 ∷ decimal (suc n)

-- "right-justified in its columns, blanks before it"
abbrev pub justified : ℕ → List ℕ → List ℕ
justified width s = replicate (width - length s) 32 ++ s

-- the text d with z written in the `width` columns from the byte `at` on
abbrev pub written : List ℕ → ℕ → ℕ → ℤ → List ℕ
written d at width z = take at d ++ (justified width (text_of z) ++ drop (at + width) d)
