-- The store is filled from the front, and what is filled in is what the call records.
use Prim.Native.Nat.{ℕ, zero, suc, ◌≤◌, ◌<◌}
use mathlib.Core.Path.{◌≡◌, refl, sym, ap, ap₂, ◌∙◌}
use mathlib.Core.List.{List, [], ◌∷◌, ◌++◌, map, map-append}
use native.Mathlib.Omega.{arith}
use lib.ListN.{length, get_or, take, drop, length-map, take-append-drop}
use lib.IntN.{ℤ, pos, ◌+ℤ◌}
use Rattle.rollout.specs.Rollout.{Pair}
use Rattle.rolled.specs.Inside.Bounds.{lows_of, highs_of, risen}
use Rattle.rollout_call.specs.declared.Record.{Record}
use Rattle.rollout_call.specs.Records.{record_of, recorded}
use Rattle.rollout_call.specs.Inside.{records_of, filled}

abbrev pub none : Record
none = record { low = pos 0; high = pos 0 }

-- the bounds of node k, which are heights above b
abbrev pub bounds_at : ℤ → (ls hs : List ℕ) → ℕ → Record
bounds_at b ls hs k = record { low = b +ℤ pos (get_or ls k 0); high = b +ℤ pos (get_or hs k 0) }

-- n records with the bounds of the first n nodes
pub all-bounds : (b : ℤ) (n : ℕ) (ls hs : List ℕ) (xs : List Record) → length xs ≡ n → n ≤ length ls → n ≤ length hs
    → ((k : ℕ) → k < n → get_or xs k none ≡ bounds_at b ls hs k) → xs ≡ records_of n (risen b ls) (risen b hs)
unfolding records_of
all-bounds b zero ls hs [] e l h f = refl
all-bounds b zero ls hs (x ∷ xs) e l h f = absurd (omega arith)
all-bounds b (suc n) ls hs [] e l h f = absurd (omega arith)
all-bounds b (suc n) [] hs (x ∷ xs) e l h f = absurd (omega arith)
all-bounds b (suc n) (y ∷ ls) [] (x ∷ xs) e l h f = absurd (omega arith)
all-bounds b (suc n) (y ∷ ls) (z ∷ hs) (x ∷ xs) e l h f =
    ap₂ (λ (r : Record) (rs : List Record). r ∷ rs) (f 0 (omega arith))
    (all-bounds b n ls hs xs (omega arith) (omega arith) (omega arith) (λ k o. f (suc k) (omega arith)))

-- ---- the records of the call

recorded-all : (rs : List (Pair ℤ)) (x y : List ℤ) → records_of (length rs) (lows_of rs ++ x) (highs_of rs ++ y) ≡ map record_of rs
unfolding records_of
recorded-all [] x y = refl
recorded-all (r ∷ rs) x y = ap (λ (l : List Record). record_of r ∷ l) (recorded-all rs x y)

-- heights, the first n of which are the numbers L above b
risen-front : (b : ℤ) (n : ℕ) (hs : List ℕ) (l : List ℤ) → risen b (take n hs) ≡ l → risen b hs ≡ l ++ risen b (drop n hs)
risen-front b n hs l e =
    ap (risen b) (sym (take-append-drop n hs)) ∙ map-append (λ (h : ℕ). b +ℤ pos h) (take n hs) (drop n hs) ∙ ap (λ (x : List ℤ). x ++ risen b (drop n hs)) e

-- what `fill` writes from the lows and the highs of the nodes
pub filled-recorded : (rs : List (Pair ℤ)) (b : ℤ) (ls hs : List ℕ) (ys : List Record) (n : ℕ) → n ≡ length rs → risen b (take n ls) ≡ lows_of rs → risen b (take n hs) ≡ highs_of rs
    → filled n (risen b ls) (risen b hs) ys ≡ recorded rs ys
filled-recorded rs b ls hs ys n e el eh =
    ap₂ (λ (x y : List ℤ). filled n x y ys) (risen-front b n ls (lows_of rs) el) (risen-front b n hs (highs_of rs) eh)
    ∙ ap (λ (k : ℕ). filled k (lows_of rs ++ risen b (drop n ls)) (highs_of rs ++ risen b (drop n hs)) ys) e
    ∙ ap (λ (l : List Record). l ++ drop (length rs) ys) (recorded-all rs (risen b (drop n ls)) (risen b (drop n hs)))

-- ---- the store keeps its length

pub length-filled : (n : ℕ) (ls hs : List ℤ) (st : List Record) → n ≤ length ls → n ≤ length hs → n ≤ length st → length (filled n ls hs st) ≡ length st
unfolding records_of
length-filled zero ls hs st a b c = refl
length-filled (suc n) [] hs st a b c = absurd (omega arith)
length-filled (suc n) (l ∷ ls) [] st a b c = absurd (omega arith)
length-filled (suc n) (l ∷ ls) (h ∷ hs) [] a b c = absurd (omega arith)
length-filled (suc n) (l ∷ ls) (h ∷ hs) (s ∷ st) a b c = ap suc (length-filled n ls hs st (omega arith) (omega arith) (omega arith))

pub length-risen : (b : ℤ) (n : ℕ) (ls hs : List ℕ) (st : List Record) → n ≤ length ls → n ≤ length hs → n ≤ length st
    → length (filled n (risen b ls) (risen b hs) st) ≡ length st
length-risen b n ls hs st a c d =
    let f : ℕ → ℤ = λ h. b +ℤ pos h in
    length-filled n (risen b ls) (risen b hs) st (omega (arith, length-map ls f)) (omega (arith, length-map hs f)) d
