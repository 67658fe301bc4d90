-- Runs by the parents' numbers: from child to child, and all of them in a slice.
use Prim.Native.Nat.{ℕ, zero, suc, ◌+◌, ◌≤◌, ◌<◌}
use mathlib.Core.Path.{◌≡◌, refl, sym, ap, ◌∙◌}
use mathlib.Core.Bool.{Bool, true, false, cond}
use mathlib.Core.List.{List, [], ◌∷◌}
use native.Mathlib.Omega.{arith}
use native.Mathlib.Nat.{le_trans}
use native.Mathlib.Numerals.{add-one}
use borrow.Author.Tests.{leb-true, le-leb, lt-leb}
use lib.ListN.{length, get_or, set, take, drop, length-drop, take-append-drop}
use lib.Seq.{drop-cons, drop-drop, ext_get_or, get_or-take, get_or-set_same, get_or-set_other, length-take-le}
use lib.ListN.{drop_of_length-le}
use lib.Dec.{leb}
use native.Mathlib.Decide.{dec_le}
use Rattle.table.specs.Slices.{laid}
use Rattle.runs.specs.Inside.{reach, stop_in, stops_from, HasStops}

pub reach-stop : (n x : ℕ) (xs : List ℕ) → x < n → reach n (x ∷ xs) ≡ 0
unfolding reach
reach-stop n x xs h = rw (lt-leb n x h)

pub reach-on : (n x : ℕ) (xs : List ℕ) → n ≤ x → reach n (x ∷ xs) ≡ suc (reach n xs)
unfolding reach
reach-on n x xs h = rw (le-leb n x h)

pub reach-le : (n : ℕ) (xs : List ℕ) → reach n xs ≤ length xs
unfolding reach
reach-le n [] = omega arith
reach-le n (x ∷ xs) = go (reach-le n xs) (leb n x) refl
  where
    go : reach n xs ≤ length xs → (b : Bool) → leb n x ≡ b → cond (leb n x) (suc (reach n xs)) 0 ≤ suc (length xs)
    go ih true e = rw e (omega arith)
    go ih false e = rw e (omega arith)

-- a later node's run lies within the run
pub reach-skip : (i j : ℕ) (xs : List ℕ) → i ≤ j → reach i xs ≡ reach j xs + reach i (drop (reach j xs) xs)
unfolding reach
reach-skip i j [] h = refl
reach-skip i j (x ∷ xs) h = go (reach-skip i j xs h) (leb j x) refl
  where
    go : reach i xs ≡ reach j xs + reach i (drop (reach j xs) xs) → (b : Bool) → leb j x ≡ b
        → reach i (x ∷ xs) ≡ cond (leb j x) (suc (reach j xs)) 0 + reach i (drop (cond (leb j x) (suc (reach j xs)) 0) (x ∷ xs))
    go ih true e = rw (e, le-leb i x (le_trans h (leb-true j x e))) (omega (arith, ih))
    go ih false e = rw e (omega arith)

module _ (U : List ℕ) (i j : ℕ) (here : stop_in U i ≡ j + reach i (drop j U)) (l : j < length U) where
  -- node j is one past the run
  pub stop-here : get_or U j 0 < i → j ≡ stop_in U i
  stop-here h = sym (here ∙ rw (drop-cons U j 0 l, reach-stop i (get_or U j 0) (drop (suc j) U) h) (omega arith))

  -- node j is a child: on to one past its run
  pub stop-on : i ≤ get_or U j 0 → i ≤ j → stop_in U i ≡ stop_in U j + reach i (drop (stop_in U j) U)
  stop-on h k =
      here
      ∙ rw (drop-cons U j 0 l, reach-on i (get_or U j 0) (drop (suc j) U) h, reach-skip i j (drop (suc j) U) k, drop-drop (reach j (drop (suc j) U)) (suc j) U, ← add-one j)
      (omega arith)

  pub stop-within : stop_in U j ≤ length U
  stop-within = omega (arith, reach-le j (drop (j + 1) U), length-drop (j + 1) U)

pub stop-last : (U : List ℕ) (i j : ℕ) → stop_in U i ≡ j + reach i (drop j U) → length U ≤ j → j ≡ stop_in U i
unfolding reach
stop-last U i j here l = sym (here ∙ rw (drop_of_length-le U l) (omega arith))

pub stop-small : (U : List ℕ) (i : ℕ) → i < length U → stop_in U i ≤ length U
stop-small U i l = omega (arith, reach-le i (drop (i + 1) U), length-drop (i + 1) U)

-- ---- all of them

pub stops-length : (k : ℕ) (U : List ℕ) → length (stops_from k U) ≡ length U
unfolding stops_from
stops-length k [] = refl
stops-length k (x ∷ U) = ap suc (stops-length (suc k) U)

stops_at : (k : ℕ) (U : List ℕ) (i : ℕ) → i < length U → get_or (stops_from k U) i 0 ≡ (k + i) + 1 + reach (k + i) (drop (i + 1) U)
unfolding stops_from
stops_at k [] i l = absurd (omega arith)
stops_at k (x ∷ U) zero l = let e : k + 0 ≡ k = omega arith in rw e
stops_at k (x ∷ U) (suc i) l =
    let e : suc k + i ≡ k + suc i = omega arith in
    let f : suc i + 1 ≡ suc (i + 1) = omega arith in
    rw (f, ← e) (stops_at (suc k) U i (omega arith))

pub stops-laid : (U st st₀ : List ℕ) → HasStops U st 0 → length U ≤ length st₀ → length st ≡ length st₀ → drop (length U) st ≡ drop (length U) st₀
    → st ≡ laid (stops_from 0 U) st₀
stops-laid U st st₀ E l m d =
    let front : take (length U) st ≡ stops_from 0 U =
    ext_get_or 0 (take (length U) st) (stops_from 0 U) (length-take-le (length U) st (omega arith) ∙ sym (stops-length 0 U))
    (λ i h.
    let k : i < length U = omega (arith, length-take-le (length U) st (omega arith)) in
    let z : 0 + i ≡ i = omega arith in
    get_or-take (length U) st i 0 k ∙ E i (omega arith) k ∙ sym (rw z at (stops_at 0 U i k))) in
    sym (take-append-drop (length U) st) ∙ rw (front, d, stops-length 0 U)

pub stops-more : (U st : List ℕ) (i e : ℕ) → HasStops U st (i + 1) → e ≡ stop_in U i → i < length st → HasStops U (set st i e) i
stops-more U st i e E h l j a b = go (dec_le (i + 1) j)
  where
    go : Dec (i + 1 ≤ j) → get_or (set st i e) j 0 ≡ stop_in U j
    go (yes q) = get_or-set_other st i j e 0 (λ z. omega arith) ∙ E j q b
    go (no q) =
        let z : j ≡ i = omega arith in
        rw z (get_or-set_same st i e 0 l ∙ h)
