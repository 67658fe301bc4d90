-- Worked examples, read and written.
use Prim.Native.Nat.{ℕ}
use mathlib.Core.Path.{◌≡◌, refl}
use mathlib.Core.List.{List, [], ◌∷◌}
use lib.ListN.{length}
use lib.IntN.{pos, negsuc}
use Rattle.field.specs.Field.{strip, digits, whole, signed, field_of, leading, written}
use Rattle.field.specs.declared.Field.{Field}
use Rattle.field.specs.declared.Field.TheVariants.{Blank, Ill, Number}

-- a field of these bytes alone
abbrev all : List ℕ → Field
all s = field_of s 0 (length s)

-- 12 before a newline, -10, a lone zero, 007, 07 after a blank, -007, zeros alone, blanks alone
well-written
    : (field_of (32 ∷ 32 ∷ 49 ∷ 50 ∷ 10 ∷ []) 0 4 ≡ Number (pos 12))
    × (all (32 ∷ 45 ∷ 49 ∷ 48 ∷ []) ≡ Number (negsuc 9))
    × (all (32 ∷ 32 ∷ 48 ∷ []) ≡ Number (pos 0))
    × (all (48 ∷ 48 ∷ 55 ∷ []) ≡ Number (pos 7))
    × (all (32 ∷ 48 ∷ 55 ∷ []) ≡ Number (pos 7))
    × (all (45 ∷ 48 ∷ 48 ∷ 55 ∷ []) ≡ Number (negsuc 6))
    × (all (48 ∷ 48 ∷ 48 ∷ []) ≡ Number (pos 0))
    × (all (32 ∷ 32 ∷ 32 ∷ 32 ∷ []) ≡ Blank)
unfolding strip digits whole signed
well-written = (refl, refl, refl, refl, refl, refl, refl, refl)

-- -0, -00, zeros before a minus, a blank after a zero, +3, a minus alone, a minus apart from its digit, a blank within, a blank after
ill-written
    : (all (32 ∷ 45 ∷ 48 ∷ []) ≡ Ill)
    × (all (45 ∷ 48 ∷ 48 ∷ []) ≡ Ill)
    × (all (48 ∷ 45 ∷ 55 ∷ []) ≡ Ill)
    × (all (48 ∷ 32 ∷ 55 ∷ []) ≡ Ill)
    × (all (32 ∷ 43 ∷ 51 ∷ []) ≡ Ill)
    × (all (32 ∷ 32 ∷ 45 ∷ []) ≡ Ill)
    × (all (45 ∷ 32 ∷ 55 ∷ []) ≡ Ill)
    × (all (49 ∷ 32 ∷ 50 ∷ []) ≡ Ill)
    × (all (32 ∷ 49 ∷ 32 ∷ []) ≡ Ill)
unfolding strip digits whole signed
ill-written = (refl, refl, refl, refl, refl, refl, refl, refl, refl)

-- 20, 0 and -7 between bytes that stay; -10 where no column is left for a blank
written-between
    : (written (88 ∷ 88 ∷ 88 ∷ 88 ∷ 88 ∷ 88 ∷ []) 1 4 (pos 20) ≡ 88 ∷ 32 ∷ 32 ∷ 50 ∷ 48 ∷ 88 ∷ [])
    × (written (88 ∷ 88 ∷ 88 ∷ 88 ∷ []) 1 2 (pos 0) ≡ 88 ∷ 32 ∷ 48 ∷ 88 ∷ [])
    × (written (88 ∷ 88 ∷ 88 ∷ 88 ∷ 88 ∷ []) 1 3 (negsuc 6) ≡ 88 ∷ 32 ∷ 45 ∷ 55 ∷ 88 ∷ [])
    × (written (88 ∷ 88 ∷ 88 ∷ []) 0 3 (negsuc 9) ≡ 45 ∷ 49 ∷ 48 ∷ [])
unfolding leading
written-between = (refl, refl, refl, refl)
