-- An index's entries made entry by entry: written to a list, compared with one, and those of the index over heights.
use Prim.Native.Nat.{ℕ, zero, suc, ◌+◌, ◌-◌, ◌≤◌, ◌<◌}
use mathlib.Core.Path.{◌≡◌, refl, sym, ap, ◌∙◌}
use mathlib.Core.Bool.{Bool, true, false, ◌&&◌, cond}
use mathlib.Core.List.{List, [], ◌∷◌, ◌++◌, map, map-append}
use mathlib.Core.Option.{Option, none, some}
use native.Mathlib.Omega.{arith}
use native.Mathlib.Nat.{le_refl, sub-zero}
use native.Mathlib.Numerals.{add-one}
use lib.ListN.{length, get_or, set, drop}
use lib.Seq.{drop-cons}
use lib.Dec.{eqb}
use lib.IntN.{ℤ, pos, ◌+ℤ◌, ◌-ℤ◌}
use Rattle.std.proofs.Math.Bool.{and-false}
use Rattle.std.specs.List.{list_all, range_with_len}
use Rattle.numbers.specs.Integers.{eq_z}
use Rattle.numbers.proofs.Signs.{plus, minus, is-minus}
use Rattle.numbers.proofs.Above.{lifted, at-height}
use Rattle.table.specs.Tree.{Forest, end, leaf, inner}
use Rattle.table.specs.Inside.{Slices, slices, Spans}
use Rattle.table.proofs.Spans.{spans-le}
use Rattle.table.proofs.Runs.{code-inner}
use Rattle.index.specs.Index.{Ends, of_entry, written, agrees}
use Rattle.index.specs.Inside.{least_of, greatest_of, height_entries}
use Rattle.indexing.specs.declared.Base.TheVariants.{Lowest, Highest}
use Rattle.indexing.specs.Inside.{OwnEnds, Ended, end_from, entries_from, entries_of}
use Rattle.indexing.proofs.Ended.{greatest-within}

-- ---- a list that entries are written to keeps its length

written-length : (xs : List (Option ℤ)) (l : List ℤ) → length (written xs l) ≡ length l
unfolding written
written-length [] [] = refl
written-length [] (z ∷ l) = refl
written-length (x ∷ xs) [] = refl
written-length (none ∷ xs) (z ∷ l) = ap suc (written-length xs l)
written-length (some x ∷ xs) (z ∷ l) = ap suc (written-length xs l)

pub written-long : (xs : List (Option ℤ)) (l r : List ℤ) → r ≡ written xs l → length r ≡ length l
written-long xs l r e = ap length e ∙ written-length xs l

-- ---- one entry more in a list

put_one : Option ℤ → ℕ → List ℤ → List ℤ
put_one none i l = l
put_one (some z) i l = set l i z

pub written-nil : (l : List ℤ) → written [] l ≡ l
unfolding written
written-nil [] = refl
written-nil (z ∷ l) = refl

put-tail : (x : Option ℤ) (z : ℤ) (i : ℕ) (l : List ℤ) → put_one x (suc i) (z ∷ l) ≡ z ∷ put_one x i l
unfolding put_one
put-tail none z i l = refl
put-tail (some y) z i l = refl

put-none : (x : Option ℤ) (i : ℕ) → put_one x i [] ≡ []
unfolding put_one
put-none none i = refl
put-none (some y) i = refl

written_last : (xs : List (Option ℤ)) (x : Option ℤ) (l : List ℤ) → written (xs ++ (x ∷ [])) l ≡ put_one x (length xs) (written xs l)
unfolding written put_one
written_last [] x [] = sym (put-none x 0)
written_last [] none (z ∷ l) = ap (λ l. z ∷ l) (written-nil l)
written_last [] (some y) (z ∷ l) = ap (λ l. y ∷ l) (written-nil l)
written_last (y ∷ xs) x [] = sym (put-none x (suc (length xs)))
written_last (none ∷ xs) x (z ∷ l) = ap (λ l. z ∷ l) (written_last xs x l) ∙ sym (put-tail x z (length xs) (written xs l))
written_last (some y ∷ xs) x (z ∷ l) = ap (λ l. y ∷ l) (written_last xs x l) ∙ sym (put-tail x y (length xs) (written xs l))

module _ (kinds : List ℕ) (f : ℕ → ℤ) where
  entries-split : (i m k : ℕ) → entries_from kinds f i (m + k) ≡ entries_from kinds f i m ++ entries_from kinds f (i + m) k
  unfolding entries_from
  entries-split i zero k = let a : 0 + k ≡ k = omega arith in let b : i + 0 ≡ i = omega arith in rw (a, b)
  entries-split i (suc m) k =
      let a : suc m + k ≡ suc (m + k) = omega arith in
      let b : suc i + m ≡ i + suc m = omega arith in
      rw (a, entries-split (suc i) m k, b)

  entries-length : (i m : ℕ) → length (entries_from kinds f i m) ≡ m
  unfolding entries_from
  entries-length i zero = refl
  entries-length i (suc m) = ap suc (entries-length (suc i) m)

  pub written_none : (l : List ℤ) → l ≡ written (entries_from kinds f 0 0) l
  unfolding entries_from
  written_none l = sym (written-nil l)

  pub written-more : (i : ℕ) (l r : List ℤ) → r ≡ written (entries_from kinds f 0 i) l
      → cond (eqb (get_or kinds i 0) 0) r (set r i (f i)) ≡ written (entries_from kinds f 0 (i + 1)) l
  unfolding entries_from put_one
  written-more i l r e =
      let z : 0 + i ≡ i = omega arith in
      let x : Option ℤ = cond (eqb (get_or kinds i 0) 0) none (some (f i)) in
      go (eqb (get_or kinds i 0) 0)
      ∙ sym (rw (entries-split 0 i 1, z) (written_last (entries_from kinds f 0 i) x l ∙ rw (entries-length 0 i, ← e)))
    where
      go : (b : Bool) → cond b r (set r i (f i)) ≡ put_one (cond b none (some (f i))) i r
      go true = refl
      go false = refl

  -- ---- one entry less to compare

  -- a list that is too short
  pub agrees-short : (i m : ℕ) (l : List ℤ) → length l < m → agrees (entries_from kinds f i m) l ≡ false
  unfolding agrees entries_from
  agrees-short i zero l h = absurd (omega arith)
  agrees-short i (suc m) [] h = refl
  agrees-short i (suc m) (z ∷ l) h = go (agrees-short (suc i) m l (omega arith)) (eqb (get_or kinds i 0) 0)
    where
      go : agrees (entries_from kinds f (suc i) m) l ≡ false → (b : Bool) → agrees (cond b none (some (f i)) ∷ entries_from kinds f (suc i) m) (z ∷ l) ≡ false
      go ih true = ih
      go ih false = rw ih (and-false (eq_z (f i) z))

  -- the test of entry i
  abbrev pub same_at : List ℤ → ℕ → Bool
  same_at l i = cond (eqb (get_or kinds i 0) 0) true (eq_z (f i) (get_or l i (pos 0)))

  pub agrees-tested : (i m : ℕ) (l : List ℤ) → i + m ≤ length l → list_all (same_at l) (range_with_len i m) ≡ agrees (entries_from kinds f i m) (drop i l)
  unfolding agrees entries_from
  agrees-tested i zero l h = refl
  agrees-tested i (suc m) l h =
      let a : i < length l = omega arith in
      rw (drop-cons l i (pos 0) a, add-one) (go (agrees-tested (suc i) m l (omega arith)) (eqb (get_or kinds i 0) 0))
    where
      go : list_all (same_at l) (range_with_len (suc i) m) ≡ agrees (entries_from kinds f (suc i) m) (drop (suc i) l) → (b : Bool)
          → (cond b true (eq_z (f i) (get_or l i (pos 0))) && list_all (same_at l) (range_with_len (suc i) m))
          ≡ agrees (cond b none (some (f i)) ∷ entries_from kinds f (suc i) m) (get_or l i (pos 0) ∷ drop (suc i) l)
      go e true = e
      go e false = ap (λ (t : Bool). eq_z (f i) (get_or l i (pos 0)) && t) e

-- ---- the index over heights

module _ (t : Slices) (f : ℕ → ℤ) (g : Ends → ℤ) (lowest : ℤ) (S : ℕ) where
  abbrev ends_of : Forest ℕ → Ends
  ends_of under = record { low = lowest +ℤ pos (least_of S under); high = lowest +ℤ pos (greatest_of under) }

  -- f of each inner node is g of its entry
  abbrev Tells : Forest ℕ → Type 0
  Tells end = Unit {0}
  Tells (leaf n w h rest) = Tells rest
  Tells (inner n w k under rest) = (f n ≡ g (ends_of under)) × Tells under × Tells rest

  entries-tell : (c e : ℕ) (F : Forest ℕ) → Spans t c e F → Tells F → entries_from t.kinds f c (e - c) ≡ map (of_entry g) (height_entries lowest S F)
  unfolding Spans entries_from height_entries
  entries-tell c e end s a = let z : e - c ≡ 0 = omega arith in rw z
  entries-tell c e (leaf n w h rest) s a =
      let b = spans-le t (c + 1) e rest s.5 in
      let z : e - c ≡ suc (e - (c + 1)) = omega arith in
      rw (z, s.1, ← add-one c, entries-tell (c + 1) e rest s.5 a)
  entries-tell c e (inner n w k under rest) s a =
      let x = get_or t.stops c 0 in
      let b = spans-le t (c + 1) x under s.3 in
      let d = spans-le t x e rest s.4 in
      let z : e - c ≡ suc (x - (c + 1) + (e - x)) = omega arith in
      let y : c + 1 + (x - (c + 1)) ≡ x = omega arith in
      let p : f c ≡ g (ends_of under) = ap f (sym s.0) ∙ a.0 in
      rw (
        z,
        s.1,
        code-inner k,
        p,
        ← add-one c,
        entries-split t.kinds f (c + 1) (x - (c + 1)) (e - x),
        y,
        entries-tell (c + 1) x under s.3 a.1,
        entries-tell x e rest s.4 a.2,
        map-append (of_entry g) (height_entries lowest S under) (height_entries lowest S rest),
      )

  entries-all : (n : ℕ) (F : Forest ℕ) → Spans t 0 n F → Tells F → entries_from t.kinds f 0 n ≡ map (of_entry g) (height_entries lowest S F)
  entries-all n F s a = ap (entries_from t.kinds f 0) (sym (sub-zero n)) ∙ entries-tell 0 n F s a

module _ (S : ℕ) (H D : List ℕ) (lowest : ℤ) where
  tells-low : (t : Slices) (F : Forest ℕ) → OwnEnds S H D F → Tells t (λ (i : ℕ). end_from (Lowest lowest) (get_or H i 0)) (λ (e : Ends). e.low) lowest S F
  tells-low t end o = tt
  tells-low t (leaf n w h rest) o = tells-low t rest o
  tells-low t (inner n w k under rest) o = (ap (λ (x : ℕ). lowest +ℤ pos x) o.0, tells-low t under o.2, tells-low t rest o.3)

  -- so far below the highest end
  below_top : (x : ℕ) → x ≤ S → (lowest +ℤ pos S) -ℤ pos (S - x) ≡ lowest +ℤ pos x
  below_top x l =
      at-height lowest ((lowest +ℤ pos S) -ℤ pos (S - x)) _ _ x
      (is-minus (lowest +ℤ pos S) (pos (S - x)) (plus lowest + S) (minus lowest) (S - x) 0 (lifted lowest S) (omega arith)) (omega arith)

  tells-high : (t : Slices) (F : Forest ℕ) → greatest_of F ≤ S → OwnEnds S H D F
      → Tells t (λ (i : ℕ). end_from (Highest (lowest +ℤ pos S)) (get_or D i 0)) (λ (e : Ends). e.high) lowest S F
  unfolding greatest_of
  tells-high t end l o = tt
  tells-high t (leaf n w h rest) l o = tells-high t rest (omega arith) o
  tells-high t (inner n w k under rest) l o =
      (ap (λ (x : ℕ). (lowest +ℤ pos S) -ℤ pos x) o.1 ∙ below_top (greatest_of under) (omega arith), tells-high t under (omega arith) o.2, tells-high t rest (omega arith) o.3)

  -- from least heights up, and from drops down
  low-entries : (t : Slices) (n : ℕ) (F : Forest ℕ) → Spans t 0 n F → OwnEnds S H D F
      → entries_of t.kinds H (Lowest lowest) n ≡ map (of_entry (λ (e : Ends). e.low)) (height_entries lowest S F)
  low-entries t n F s o = entries-all t (λ (i : ℕ). end_from (Lowest lowest) (get_or H i 0)) (λ (e : Ends). e.low) lowest S n F s (tells-low t F o)

  high-entries : (t : Slices) (n : ℕ) (F : Forest ℕ) (highest : ℤ) → highest ≡ lowest +ℤ pos S → Spans t 0 n F → greatest_of F ≤ S → OwnEnds S H D F
      → entries_of t.kinds D (Highest highest) n ≡ map (of_entry (λ (e : Ends). e.high)) (height_entries lowest S F)
  high-entries t n F highest q s l o =
      ap (λ (z : ℤ). entries_of t.kinds D (Highest z) n) q
      ∙ entries-all t (λ (i : ℕ). end_from (Highest (lowest +ℤ pos S)) (get_or D i 0)) (λ (e : Ends). e.high) lowest S n F s (tells-high t F l o)

-- of what `own_ends` leaves
module _ (K T W : List ℕ) (n S : ℕ) (H D : List ℕ) (F : Forest ℕ) (E : Ended K T W n S H D F) (lowest : ℤ) where
  pub ended-lows : entries_of K H (Lowest lowest) n ≡ map (of_entry (λ (e : Ends). e.low)) (height_entries lowest S F)
  ended-lows = low-entries S H D lowest (slices K T W H) n F E.spans E.ends

  pub ended-highs : (highest : ℤ) → highest ≡ lowest +ℤ pos S → entries_of K D (Highest highest) n ≡ map (of_entry (λ (e : Ends). e.high)) (height_entries lowest S F)
  ended-highs highest q =
      let g = greatest-within (slices K T W H) S n 0 n F E.small-rise (le_refl n) E.spans in
      high-entries S H D lowest (slices K T W H) n F highest q E.spans g E.ends
