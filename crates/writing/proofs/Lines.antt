-- The text of a line gives back the fields that it was written from.
use Prim.Native.Nat.{ℕ, suc, ◌+◌, ◌-◌, ◌^◌, ◌≤◌, ◌<◌}
use mathlib.Core.Path.{◌≡◌, refl, sym, ap, ap₂, ◌∙◌}
use mathlib.Core.Bool.{false}
use mathlib.Core.List.{List, [], ◌∷◌, ◌++◌}
use native.Mathlib.Omega.{arith}
use lib.Dec.{lit<, lit≤}
use lib.ListN.{length, get_or, set, take, drop, replicate, length-append, length-replicate}
use lib.Seq.{sets, take_at, drop_at, drop-drop, get_or-drop}
use lib.IntN.{ℤ, pos, nat_abs}
use Rattle.field.specs.Field.{strip, signed, field_of, text_of}
use Rattle.field.specs.declared.Field.{Field}
use Rattle.field.specs.declared.Field.TheVariants.{Blank, Ill, Number}
use Rattle.field.proofs.RoundTrip.{columns-read, blanks-read}
use Rattle.field.proofs.Small.{wider}
use Rattle.field.proofs.Stores.{byte-stored, justified-long}
use Rattle.field.proofs.Width.{few-plain, few-columns}
use Rattle.line.specs.declared.Heading.{Heading}
use Rattle.line.specs.declared.Entry.{Entry}
use Rattle.line.specs.Line.{is_ill, has_number, second_of, heading_of, entry_of}
use Rattle.line.proofs.Columns.{total-columns}
use Rattle.writing.specs.Text.{newline}
use Rattle.writing.specs.Inside.{shown, Fits, entry_text, Roomy}

-- ---- a field in its columns

pub fits-natural : (n width : ℕ) → 0 < width → width ≤ 15 → n < 10 ^ width → Fits width (Number (pos n))
fits-natural n width p w h = (few-plain n width p h, wider n width 15 h w)

pub fits_signed : (z : ℤ) → nat_abs z < 10 ^ 7 → Fits 8 (Number z)
fits_signed z h = (few-columns z 7 (lit< tt) h, wider (nat_abs z) 7 15 h (lit≤ tt))

pub shown-long : (width : ℕ) (f : Field) → Fits width f → length (shown width f) ≡ width
shown-long width Blank h = length-replicate width 32
shown-long width Ill h = absurd h
shown-long width (Number z) h = justified-long width (text_of z) h.0

shown_read : (width : ℕ) (f : Field) → Fits width f → signed (strip (shown width f)) ≡ f
shown_read width Blank h = blanks-read width
shown_read width Ill h = absurd h
shown_read width (Number z) h = columns-read width z h.1

-- blanks stored one by one
pub blank-stored : (l : List ℕ) (at w i : ℕ) → i < w
    → sets l (at + i) (replicate (w - i) 32) ≡ sets (set l (at + i) 32) (at + (i + 1)) (replicate (w - (i + 1)) 32)
blank-stored l at w i h =
    let e : w - i ≡ suc (w - (i + 1)) = omega arith in
    ap (λ (k : ℕ). sets l (at + i) (replicate k 32)) e ∙ byte-stored l (replicate (w - (i + 1)) 32) 32 (at + i) (at + (i + 1)) (omega arith)

pub blanks-first : (l : List ℕ) (at w : ℕ) → sets l at (replicate w 32) ≡ sets l (at + 0) (replicate (w - 0) 32)
blanks-first l at w = let e : at ≡ at + 0 = omega arith in let f : w ≡ w - 0 = omega arith in ap₂ (λ (j k : ℕ). sets l j (replicate k 32)) e f

pub blanks-done : (l : List ℕ) (at w i : ℕ) → w ≤ i → sets l (at + i) (replicate (w - i) 32) ≡ l
blanks-done l at w i h = let e : w - i ≡ 0 = omega arith in ap (λ (k : ℕ). sets l (at + i) (replicate k 32)) e

-- ---- a text cut in parts

module _ (s : List ℕ) where
  -- what follows a part of m bytes
  after-part : (n m : ℕ) (b r : List ℕ) → drop n s ≡ b ++ r → length b ≡ m → drop (n + m) s ≡ r
  after-part n m b r e l = sym (drop-drop m n s) ∙ ap (drop m) e ∙ drop_at b r m l

  field_at : (n m : ℕ) (f : Field) (r : List ℕ) → Fits m f → drop n s ≡ shown m f ++ r → field_of s n m ≡ f
  field_at n m f r h e =
      ap (λ (x : List ℕ). signed (strip (take m x))) e
      ∙ ap (λ (x : List ℕ). signed (strip x)) (take_at (shown m f) r m (shown-long m f h))
      ∙ shown_read m f h

  byte_at : (n x : ℕ) (r : List ℕ) → drop n s ≡ x ∷ r → get_or s (n + 0) 0 ≡ x
  byte_at n x r e = sym (get_or-drop n s 0 0) ∙ ap (λ (y : List ℕ). get_or y 0 0) e

-- ---- a node line

-- no field is ill-written, and the bytes of columns 5 and 25 are a blank and a newline
pub record Written (s : List ℕ) : Type 0 where
  pub long : length s ≡ 25
  pub number : is_ill (entry_of s).number ≡ false
  pub fifth : get_or s 4 0 ≡ 32
  pub parent : is_ill (entry_of s).parent ≡ false
  pub weight : is_ill (entry_of s).weight ≡ false
  pub utility : is_ill (entry_of s).utility ≡ false
  pub last : get_or s 24 0 ≡ 10

pub text-entry : (e : Entry) → Roomy e → (entry_of (entry_text e) ≡ e) × (get_or (entry_text e) 4 0 ≡ 32) × (get_or (entry_text e) 24 0 ≡ 10) × (length (entry_text e) ≡ 25)
text-entry e R =
    let s : List ℕ = entry_text e in
    let n = shown 4 e.number in
    let p = shown 5 e.parent in
    let w = shown 5 e.weight in
    let u = shown 8 e.utility in
    let e4 : drop 4 s ≡ 32 ∷ e.letter ∷ (p ++ (w ++ (u ++ newline))) = after-part s 0 4 n _ refl (shown-long 4 e.number R.number) in
    let e5 : drop 5 s ≡ e.letter ∷ (p ++ (w ++ (u ++ newline))) = after-part s 4 1 (32 ∷ []) _ e4 refl in
    let e6 : drop 6 s ≡ p ++ (w ++ (u ++ newline)) = after-part s 5 1 (e.letter ∷ []) _ e5 refl in
    let e11 : drop 11 s ≡ w ++ (u ++ newline) = after-part s 6 5 p _ e6 (shown-long 5 e.parent R.parent) in
    let e16 : drop 16 s ≡ u ++ newline = after-part s 11 5 w _ e11 (shown-long 5 e.weight R.weight) in
    let e24 : drop 24 s ≡ newline = after-part s 16 8 u _ e16 (shown-long 8 e.utility R.utility) in
    let number : field_of s 0 4 ≡ e.number = field_at s 0 4 e.number _ R.number refl in
    let letter : get_or s 5 0 ≡ e.letter = byte_at s 5 e.letter _ e5 in
    let parent : field_of s 6 5 ≡ e.parent = field_at s 6 5 e.parent _ R.parent e6 in
    let weight : field_of s 11 5 ≡ e.weight = field_at s 11 5 e.weight _ R.weight e11 in
    let utility : field_of s 16 8 ≡ e.utility = field_at s 16 8 e.utility _ R.utility e16 in (
      λ j. record { number = number j; letter = letter j; parent = parent j; weight = weight j; utility = utility j },
      byte_at s 4 32 _ e4,
      byte_at s 24 10 _ e24,
      simp length-append (omega (arith, shown-long 4 e.number R.number, shown-long 5 e.parent R.parent, shown-long 5 e.weight R.weight, shown-long 8 e.utility R.utility)),
    )

-- ---- a header

abbrev pub heading_text : Heading → List ℕ
heading_text g = shown 4 g.count ++ (shown 2 g.second ++ (shown 2 g.total ++ (shown 8 g.lowest ++ (shown 8 g.highest ++ newline))))

pub record HeadWritten (s : List ℕ) : Type 0 where
  pub long : length s ≡ 25
  pub count : is_ill (heading_of s).count ≡ false
  pub second : is_ill (heading_of s).second ≡ false
  pub total : is_ill (heading_of s).total ≡ false
  pub lowest : is_ill (heading_of s).lowest ≡ false
  pub highest : is_ill (heading_of s).highest ≡ false
  pub last : get_or s 24 0 ≡ 10

pub record HeadRoomy (g : Heading) : Type 0 where
  pub count : Fits 4 g.count
  pub second : Fits 2 g.second
  pub total : Fits 2 g.total
  pub lowest : Fits 8 g.lowest
  pub highest : Fits 8 g.highest

-- a second total is no zero
pub text-heading : (g : Heading) → HeadRoomy g → has_number 0 g.second ≡ false → (heading_of (heading_text g) ≡ g) × (get_or (heading_text g) 24 0 ≡ 10) × (length (heading_text g) ≡ 25)
text-heading g R some =
    let s : List ℕ = heading_text g in
    let c = shown 4 g.count in
    let x = shown 2 g.second in
    let t = shown 2 g.total in
    let l = shown 8 g.lowest in
    let h = shown 8 g.highest in
    let e4 : drop 4 s ≡ x ++ (t ++ (l ++ (h ++ newline))) = after-part s 0 4 c _ refl (shown-long 4 g.count R.count) in
    let e6 : drop 6 s ≡ t ++ (l ++ (h ++ newline)) = after-part s 4 2 x _ e4 (shown-long 2 g.second R.second) in
    let e8 : drop 8 s ≡ l ++ (h ++ newline) = after-part s 6 2 t _ e6 (shown-long 2 g.total R.total) in
    let e16 : drop 16 s ≡ h ++ newline = after-part s 8 8 l _ e8 (shown-long 8 g.lowest R.lowest) in
    let e24 : drop 24 s ≡ newline = after-part s 16 8 h _ e16 (shown-long 8 g.highest R.highest) in
    let count : field_of s 0 4 ≡ g.count = field_at s 0 4 g.count _ R.count refl in
    let long : length s ≡ 25 = simp length-append (omega (arith, shown-long 4 g.count R.count, shown-long 2 g.second R.second, shown-long 2 g.total R.total, shown-long 8 g.lowest R.lowest, shown-long 8 g.highest R.highest)) in
    let held : field_of s 4 2 ≡ g.second = field_at s 4 2 g.second _ R.second e4 in
    let second : second_of (field_of s 4 2) ≡ g.second = ap second_of held ∙ rw some refl in
    let total : (heading_of s).total ≡ g.total = total-columns s (omega arith) (ap (has_number 0) held ∙ some) ∙ field_at s 6 2 g.total _ R.total e6 in
    let lowest : field_of s 8 8 ≡ g.lowest = field_at s 8 8 g.lowest _ R.lowest e8 in
    let highest : field_of s 16 8 ≡ g.highest = field_at s 16 8 g.highest _ R.highest e16 in (
      λ j. record { count = count j; second = second j; total = total j; lowest = lowest j; highest = highest j },
      byte_at s 24 10 _ e24,
      long,
    )
