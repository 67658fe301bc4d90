-- One number written in several ways. Document 02, Item 9.
use Rattle.std.specs.Prelude.{ℕ, ◌^◌, ◌<◌, ◌≡◌, List, [], ◌∷◌, ◌++◌, replicate, ℤ, pos, negsuc, nat_abs}
use Rattle.field.specs.Field.{decimal}

abbrev pub sign_of : ℤ → List ℕ
sign_of (pos n) = []
sign_of (negsuc n) = 45 ∷ []

-- "A number may now have zeros before its first digit, and blanks before those; a minus stands before the zeros": so many blanks and zeros
abbrev pub padded : (blanks zeros : ℕ) → ℤ → List ℕ
padded blanks zeros z = replicate blanks 32 ++ (sign_of z ++ (replicate zeros 48 ++ decimal (nat_abs z)))

-- these columns hold the number z, of at most 15 digits, in some padding
pub record Pads (z : ℤ) (c : List ℕ) : Type 0 where
  pub blanks : ℕ
  pub zeros : ℕ
  pub is : c ≡ padded blanks zeros z
  pub small : nat_abs z < 10 ^ 15

-- two fields that differ in padding alone: they are equal, or hold one number
pub data Repadded (c d : List ℕ) : Type 0 where
  kept : c ≡ d → Repadded c d
  padding : (z : ℤ) → Pads z c → Pads z d → Repadded c d
