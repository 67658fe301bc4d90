-- Reading what was written gives the number back, and so does reading any padding of it.
use Prim.Native.Nat.{ℕ, zero, suc, ◌+◌, ◌-◌, ◌/◌, ◌*◌, ◌^◌, ◌≤◌, ◌<◌}
use mathlib.Core.Path.{◌≡◌, refl, ap, ◌∙◌}
use mathlib.Core.List.{List, [], ◌∷◌, ◌++◌, append_assoc}
use native.Mathlib.Omega.{arith}
use borrow.Author.Tests.{ne_eqb, le-ltb}
use lib.Dec.{eqb-suc-zero}
use lib.ListN.{length, get_or, take, drop, replicate, length-append, length-replicate}
use lib.Seq.{take_at, drop_at, length-take-le}
use lib.IntN.{ℤ, pos, negsuc, nat_abs}
use Rattle.std.specs.Prelude.{Some}
use Rattle.field.specs.Field.{strip, digits, whole, signed, field_of, digit, leading, decimal, text_of, justified, written}
use Rattle.field.specs.Padding.{sign_of, padded}
use Rattle.field.specs.declared.Field.TheVariants.{Blank, Number}
use Rattle.field.proofs.Reading.{strip-first, signed-tests}
use Rattle.field.proofs.Small.{tenth}
use Rattle.field.proofs.Width.{some-columns}

-- the digits mean the number
digit-read : (n : ℕ) (t : List ℕ) → digits (n / 10) (digit n ∷ t) ≡ digits n t
unfolding digits
digit-read n t =
    let e : n / 10 * 10 + (digit n - 48) ≡ n = omega arith in
    simp (le-ltb (digit n) 48 (omega arith), le-ltb 57 (digit n) (omega arith), e)

leading-read : (k n : ℕ) (t : List ℕ) → n < 10 ^ k → digits 0 (leading k n ++ t) ≡ digits n t
unfolding leading
leading-read zero n t h = let z : n ≡ 0 = omega arith in rw z
leading-read (suc k) zero t h = refl
leading-read (suc k) (suc n) t h =
    rw (eqb-suc-zero, append_assoc) (leading-read k (suc n / 10) (digit (suc n) ∷ t) (tenth (suc n) k h) ∙ digit-read (suc n) t)

-- and the first of them is no zero
leading-first : (k n : ℕ) (t : List ℕ) → n < 10 ^ k → 48 < get_or t 0 0 + n → 48 < get_or (leading k n ++ t) 0 0
unfolding leading
leading-first zero n t h p = omega arith
leading-first (suc k) zero t h p = omega arith
leading-first (suc k) (suc n) t h p =
    rw (eqb-suc-zero, append_assoc) (leading-first k (suc n / 10) (digit (suc n) ∷ t) (tenth (suc n) k h) (omega arith))

decimal-first : (n : ℕ) → n < 10 ^ 15 → 48 ≤ get_or (decimal n) 0 0
unfolding leading
decimal-first zero h = omega arith
decimal-first (suc n) h = omega (arith, leading-first 14 (suc n / 10) (digit (suc n) ∷ []) (omega arith) (omega arith))

-- zeros before digits mean nothing
zeros-read : (j : ℕ) (t : List ℕ) → digits 0 (replicate j 48 ++ t) ≡ digits 0 t
unfolding digits
zeros-read zero t = refl
zeros-read (suc j) t = zeros-read j t

whole-digits : (t : List ℕ) → 0 < length t → whole t ≡ digits 0 t
unfolding whole
whole-digits [] h = absurd (omega arith)
whole-digits (b ∷ s) h = refl

module _ (j n : ℕ) (h : n < 10 ^ 15) where
  -- n with j zeros before it
  abbrev zeroed : List ℕ
  zeroed = replicate j 48 ++ decimal n

  zeroed-some : 0 < length zeroed
  zeroed-some = rw (length-append (replicate j 48) (decimal n)) (omega (arith, some-columns (pos n)))

  zeroed_first : 48 ≤ get_or zeroed 0 0
  zeroed_first = go j
    where
      go : (i : ℕ) → 48 ≤ get_or (replicate i 48 ++ decimal n) 0 0
      go zero = decimal-first n h
      go (suc i) = omega arith

  zeroed-whole : whole zeroed ≡ Some n
  unfolding digits
  zeroed-whole =
      whole-digits zeroed zeroed-some
      ∙ zeros-read j (decimal n)
      ∙ leading-read 14 (n / 10) (digit n ∷ []) (omega arith)
      ∙ digit-read n []

-- the blanks before it go
pub strip-blanks : (k : ℕ) (s : List ℕ) → strip (replicate k 32 ++ s) ≡ strip s
unfolding strip
strip-blanks zero s = refl
strip-blanks (suc k) s = strip-blanks k s

-- a number in any padding
signed-read : (j : ℕ) (z : ℤ) → nat_abs z < 10 ^ 15 → signed (strip (sign_of z ++ (replicate j 48 ++ decimal (nat_abs z)))) ≡ Number z
unfolding signed strip
signed-read j (pos n) h =
    let t : List ℕ = zeroed j n h in
    let bare : strip t ≡ t = strip-first t ∙ simp (ne_eqb (get_or t 0 0) 32 (omega (arith, zeroed_first j n h))) in
    ap signed bare
    ∙ signed-tests t
    ∙ simp (
      ne_eqb (length t) 0 (omega (arith, zeroed-some j n h)),
      ne_eqb (get_or t 0 0) 45 (omega (arith, zeroed_first j n h)),
      zeroed-whole j n h,
    )
signed-read j (negsuc n) h = rw (zeroed-whole j (suc n) h, eqb-suc-zero)

pub padded-read : (b j : ℕ) (z : ℤ) → nat_abs z < 10 ^ 15 → signed (strip (padded b j z)) ≡ Number z
padded-read b j z h = rw (strip-blanks b (sign_of z ++ (replicate j 48 ++ decimal (nat_abs z)))) (signed-read j z h)

-- the text of a number has no zeros, and blanks before it
text-signed : (z : ℤ) → text_of z ≡ sign_of z ++ decimal (nat_abs z)
text-signed (pos n) = refl
text-signed (negsuc n) = refl

pub justified-padded : (width : ℕ) (z : ℤ) → justified width (text_of z) ≡ padded (width - length (text_of z)) 0 z
justified-padded width z = ap (λ (s : List ℕ). replicate (width - length (text_of z)) 32 ++ s) (text-signed z)

-- columns that a number was written to, and blank ones
pub columns-read : (width : ℕ) (z : ℤ) → nat_abs z < 10 ^ 15 → signed (strip (justified width (text_of z))) ≡ Number z
columns-read width z small = rw (justified-padded width z) (padded-read (width - length (text_of z)) 0 z small)

pub blanks-read : (width : ℕ) → signed (strip (replicate width 32)) ≡ Blank
unfolding strip signed
blanks-read zero = refl
blanks-read (suc width) = blanks-read width

pub round_trip
    : (d : List ℕ) (at width : ℕ) (z : ℤ)
    → at + width ≤ length d
    → length (text_of z) ≤ width
    → nat_abs z < 10 ^ 15
    → field_of (written d at width z) at width ≡ Number z
round_trip d at width z room few small =
    let size : length (justified width (text_of z)) ≡ width = simp (length-append, length-replicate) (omega arith) in
    rw (
      drop_at (take at d) (justified width (text_of z) ++ drop (at + width) d) at (length-take-le at d (omega arith)),
      take_at (justified width (text_of z)) (drop (at + width) d) width size,
    )
    (columns-read width z small)
