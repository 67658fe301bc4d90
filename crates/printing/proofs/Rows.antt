-- The bytes of a row, and of one row after another.
use Rattle.std.proofs.Common.{ℕ, zero, suc, ◌≡◌, ◌+◌, ◌*◌, ◌/◌, ◌≤◌, ◌<◌, List, [], ◌∷◌, ◌++◌, map, length, get_or, set, take, drop, refl, sym, ap, ◌∙◌, arith, ℤ, pos}
use Rattle.std.proofs.Math.Dec.{eqb-suc-zero}
use Rattle.std.proofs.lemmas.List.{take_at, set_at, append_assoc, append-nil, map-append, take_more, length-append, length-drop}
use Rattle.field.specs.Field.{leading, text_of, justified, written, digit}
use Rattle.field.proofs.Stores.{justified-long}
use Rattle.printing.specs.Program.{Word, WordLine, Leaf, columns, row_of, printed, leaf_row}

-- a number that is not below zero has at most 15 digits
leading-few : (k n : ℕ) → length (leading k n) ≤ k
unfolding leading
leading-few zero n = omega arith
leading-few (suc k) zero = omega arith
leading-few (suc k) (suc n) = rw eqb-suc-zero (simp length-append (omega (arith, leading-few k (suc n / 10))))

pub count-columns : (n : ℕ) → length (text_of (pos n)) ≤ 15
count-columns n = rw (length-append (leading 14 (n / 10)) (digit n ∷ [])) (omega (arith, leading-few 14 (n / 10)))

pub row-size : (word : List ℕ) (z : ℤ) → length word ≡ 6 → length (text_of z) ≤ 15 → length (row_of word z) ≡ 22
row-size word z w h =
    let j = justified-long 15 (text_of z) h in
    length-append word (justified 15 (text_of z) ++ (10 ∷ [])) ∙ omega (arith, w, j, length-append (justified 15 (text_of z)) (10 ∷ []))

-- the word, and behind it the number and the newline
pub row-written : (word rest : List ℕ) (z : ℤ) → length word ≡ 6 → length rest ≡ 16 → length (text_of z) ≤ 15
    → set (written (word ++ rest) 6 15 z) 21 10 ≡ row_of word z
row-written word rest z w r h =
    rw (take_at word rest 6 w) (go (drop 21 (word ++ rest)) (simp (length-drop, length-append) (omega (arith, w, r))))
  where
    go : (last : List ℕ) → length last ≡ 1 → set (word ++ (justified 15 (text_of z) ++ last)) 21 10 ≡ row_of word z
    go [] e = absurd (omega (arith, e))
    go (b ∷ []) e =
        let J : List ℕ = justified 15 (text_of z) in
        let long : length (word ++ J) ≡ 21 = omega (arith, length-append word J, justified-long 15 (text_of z) h, w) in
        ap (λ (l : List ℕ). set l 21 10) (sym (append_assoc word J (b ∷ []))) ∙ set_at (word ++ J) b [] 10 21 long ∙ append_assoc word J (10 ∷ [])
    go (b ∷ d ∷ l) e = absurd (omega (arith, e))

-- ---- rows

pub printed-append : (rs qs : List WordLine) → printed (rs ++ qs) ≡ printed rs ++ printed qs
unfolding printed
printed-append [] qs = refl
printed-append (r ∷ rs) qs =
    ap (λ (l : List ℕ). row_of (columns r.word) r.number ++ l) (printed-append rs qs)
    ∙ sym (append_assoc (row_of (columns r.word) r.number) (printed rs) (printed qs))

pub leaves-size : (ns : List ℕ) → length (printed (map leaf_row ns)) ≡ 22 * length ns
unfolding printed
leaves-size [] = refl
leaves-size (n ∷ ns) =
    length-append (row_of (columns Leaf) (pos n)) (printed (map leaf_row ns))
    ∙ omega (arith, row-size (columns Leaf) (pos n) refl (count-columns n), leaves-size ns)

-- one row more
pub row-more : (rs : List WordLine) (w : Word) (z : ℤ) (page more : List ℕ) → page ≡ printed rs → more ≡ page ++ row_of (columns w) z
    → more ≡ printed (rs ++ (record { word = w; number = z } ∷ []))
unfolding printed
row-more rs w z page more e f = grind (arith, printed-append, append-nil)

-- one leaf line more
pub leaf-more : (before page more ns : List ℕ) (i : ℕ) → i < length ns → page ≡ before ++ printed (map leaf_row (take i ns)) → more ≡ page ++ row_of (columns Leaf) (pos (get_or ns i 0))
    → more ≡ before ++ printed (map leaf_row (take (i + 1) ns))
unfolding printed
leaf-more before page more ns i h e f = grind (arith, take_more ns i 0 h, map-append leaf_row, printed-append, append-nil, append_assoc)

pub ruleset appends = (append_assoc, append-nil)
