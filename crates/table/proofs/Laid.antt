-- Entries at the front of a slice.
use Prim.Native.Nat.{ℕ, suc, ◌≤◌, ◌<◌}
use mathlib.Core.Path.{◌≡◌, sym, ap, ◌∙◌}
use mathlib.Core.List.{List, [], ◌∷◌, ◌++◌, append_assoc}
use native.Mathlib.Omega.{arith}
use native.Mathlib.Numerals.{add-one}
use lib.ListN.{length, get_or, set, drop, length-append, get_or-append}
use lib.Seq.{take_all, set-append_seam, drop-cons}
use Rattle.table.specs.Slices.{laid, fitted}

-- ---- one entry more in a slice

pub laid_more : {A : Type 0} (xs a : List A) (v : A) → length xs < length a → laid (xs ++ (v ∷ [])) a ≡ set (laid xs a) (length xs) v
laid_more xs a v h =
    let e : length (xs ++ (v ∷ [])) ≡ suc (length xs) = length-append xs (v ∷ []) ∙ add-one (length xs) in
    rw (e, append_assoc, drop-cons a (length xs) v h) (sym (set-append_seam xs (get_or a (length xs) v) (drop (suc (length xs)) a) v))

-- ---- a slice with room for all entries gets them all

pub fitted-all : {A : Type 0} (xs a : List A) → length xs ≤ length a → fitted xs a ≡ laid xs a
fitted-all xs a h = ap (λ ys. laid ys a) (take_all (length a) xs h)

pub fitted-long : (xs a : List ℕ) (n : ℕ) → length xs ≡ n → n ≤ length a → n ≤ length (fitted xs a)
fitted-long xs a n e h = rw (fitted-all xs a (omega arith)) (omega (arith, length-append xs (drop (length xs) a)))

pub laid-at : (xs a b : List ℕ) (n i : ℕ) → b ≡ laid xs a → length xs ≡ n → i < n → get_or b i 0 ≡ get_or xs i 0
laid-at xs a b n i e m l = ap (λ (y : List ℕ). get_or y i 0) e ∙ get_or-append xs (drop (length xs) a) 0 i (omega arith)

pub fitted-at : (xs a : List ℕ) (n i : ℕ) → length xs ≡ n → n ≤ length a → i < n → get_or (fitted xs a) i 0 ≡ get_or xs i 0
fitted-at xs a n i e h l = laid-at xs a (fitted xs a) n i (fitted-all xs a (omega arith)) e l
