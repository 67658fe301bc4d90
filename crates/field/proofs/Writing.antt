-- A number written column by column, from the right: what each store leaves to write.
use Prim.Native.Nat.{ℕ, zero, suc, ◌+◌, ◌-◌, ◌/◌, ◌^◌, ◌≤◌, ◌<◌}
use mathlib.Core.Path.{◌≡◌, refl, sym, ap, ◌∙◌}
use mathlib.Core.Bool.{Bool, true, false, cond, not, ◌&&◌}
use mathlib.Core.List.{List, [], ◌∷◌, ◌++◌, append_assoc, append-nil}
use native.Mathlib.Omega.{arith}
use borrow.Author.Tests.{eqb-true}
use lib.Dec.{eqb}
use lib.ListN.{length, take, drop, set, take-append-drop, length-append, length-take, length-drop, length-replicate, replicate-append-replicate}
use lib.Seq.{set_split, drop_at, length-take-le, take-set-le}
use lib.IntN.{ℤ}
use Rattle.field.specs.Field.{digit, leading, text_of, justified, written}
use Rattle.field.proofs.Small.{tenth}

-- the text d with s right-justified in the columns from `at` up to i
abbrev pub over : List ℕ → ℕ → ℕ → List ℕ → List ℕ
over d at i s = take at d ++ (justified (i - at) s ++ drop i d)

abbrev sign : Bool → List ℕ
sign true = 45 ∷ []
sign false = []

-- what is still to be written: the digits of n, and the minus where it is to come
abbrev pub rest : Bool → ℕ → List ℕ
rest negative n = sign negative ++ leading 14 n

-- ---- one column

digit-more : (i v : ℕ) (p s : List ℕ) → justified i (p ++ (s ++ (v ∷ []))) ≡ justified (i - 1) (p ++ s) ++ (v ∷ [])
digit-more i v p s =
    let e : i - (length p + (length s + 1)) ≡ i - 1 - (length p + length s) = omega arith in
    simp (length-append, e, append_assoc)

blank-more : (i : ℕ) → 0 < i → justified i [] ≡ justified (i - 1) [] ++ (32 ∷ [])
blank-more i h =
    let e : i - 0 ≡ i - 1 - 0 + 1 = omega arith in
    simp (e, append-nil) (sym (replicate-append-replicate (i - 1 - 0) 1 32))

-- k digits are enough for a number below 10 ^ k, so one more changes nothing
pub leading-all : (k n : ℕ) → n < 10 ^ k → leading k n ≡ cond (eqb n 0) [] (leading k (n / 10) ++ (digit n ∷ []))
unfolding leading
leading-all zero n h = let z : n ≡ 0 = omega arith in rw z
leading-all (suc k) n h = rw (leading-all k (n / 10) (tenth n k h))

leading-none : (k : ℕ) → leading k 0 ≡ []
unfolding leading
leading-none zero = refl
leading-none (suc k) = refl

-- the column before the digits written so far: t says that no digit is left
column-by
    : (t : Bool) (i n : ℕ) (negative : Bool)
    → eqb n 0 ≡ t
    → 0 < i
    → justified i (sign negative ++ cond t [] (leading 14 (n / 10) ++ (digit n ∷ [])))
    ≡ justified (i - 1) (rest (negative && not t) (n / 10)) ++ (cond t (cond negative 45 32) (digit n) ∷ [])
column-by true i n true e h = rw (eqb-true n 0 e, leading-none 14) (digit-more i 45 [] [])
column-by true i n false e h = rw (eqb-true n 0 e, leading-none 14) (blank-more i h)
column-by false i n true e h = digit-more i (digit n) (sign true) (leading 14 (n / 10))
column-by false i n false e h = digit-more i (digit n) (sign false) (leading 14 (n / 10))

-- ---- the stores

drop-set : (l : List ℕ) (k v : ℕ) → k < length l → drop k (set l k v) ≡ v ∷ drop (suc k) l
drop-set l k v h = rw (set_split l k v h) (drop_at (take k l) (v ∷ drop (suc k) l) k (length-take-le k l (omega arith)))

module _ (d : List ℕ) (at i : ℕ) (some : at < i) (room : i ≤ length d) where
  stored
      : (v : ℕ) (s s' : List ℕ)
      → justified (i - at) s ≡ justified (i - at - 1) s' ++ (v ∷ [])
      → over d at i s ≡ over (set d (i - 1) v) at (i - 1) s'
  stored v s s' e =
      let k : suc (i - 1) ≡ i = omega arith in
      let m : i - 1 - at ≡ i - at - 1 = omega arith in
      rw (e, drop-set d (i - 1) v (omega arith), k, m, take-set-le at d (i - 1) v (omega arith))
      (simp append_assoc)

  pub next-stored
      : (n : ℕ) (negative : Bool)
      → n < 10 ^ 14
      → over d at i (rest negative n)
      ≡ over (set d (i - 1) (cond (eqb n 0) (cond negative 45 32) (digit n))) at (i - 1) (rest (negative && not (eqb n 0)) (n / 10))
  next-stored n negative h =
      stored (cond (eqb n 0) (cond negative 45 32) (digit n)) (rest negative n) (rest (negative && not (eqb n 0)) (n / 10))
      (rw (leading-all 14 n h) (column-by (eqb n 0) (i - at) n negative refl (omega arith)))

-- ---- the end

-- a text that fits leaves the length as it was, so where no column is left nothing of it is left
over-length : (d : List ℕ) (at i : ℕ) (s : List ℕ) → at ≤ i → i ≤ length d → length s ≤ i - at → length (over d at i s) ≡ length d
over-length d at i s g h k = simp (length-append, length-replicate, length-take, length-drop) (omega arith)

over_none : (d : List ℕ) (at : ℕ) (s : List ℕ) → at ≤ length d → length (over d at at s) ≡ length d → over d at at s ≡ d
over_none d at [] h e = let z : at - at - 0 ≡ 0 = omega arith in rw z (take-append-drop at d)
over_none d at (x ∷ s) h e = absurd (omega (arith, simp (length-append, length-replicate, length-take, length-drop) at e))

pub finished
    : (d₀ d : List ℕ) (at width i : ℕ) (z : ℤ) (s : List ℕ)
    → at + width ≤ length d₀
    → length (text_of z) ≤ width
    → length d ≡ length d₀
    → i ≡ at
    → over d₀ at (at + width) (text_of z) ≡ over d at i s
    → d ≡ written d₀ at width z
finished d₀ d at width i z s h k l q e =
    let w : at + width - at ≡ width = omega arith in
    let f : over d₀ at (at + width) (text_of z) ≡ over d at at s = rw q at e in
    sym (rw w at (f ∙ over_none d at s (omega arith) (sym (ap length f) ∙ over-length d₀ at (at + width) (text_of z) (omega arith) h (omega arith) ∙ sym l)))
