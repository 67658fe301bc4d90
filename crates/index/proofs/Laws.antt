-- The index of a table over heights: how its ends lie, and that each entry lies so much above the lowest end. Document 02, Item 14.
use Prim.Native.Nat.{ℕ, suc, ◌+◌, min, max, ◌≤◌}
use mathlib.Core.Path.{◌≡◌, refl, sym, ap, ap₂, subst, ◌∙◌}
use mathlib.Core.Bool.{Bool, false}
use mathlib.Core.List.{List, [], ◌∷◌, ◌++◌, map, map-append}
use mathlib.Core.Option.{Option, none, some}
use native.Mathlib.Nat.{le_refl}
use native.Mathlib.Omega.{arith}
use lib.IntN.{ℤ, pos, ◌+ℤ◌}
use Rattle.numbers.specs.Integers.{max_z, min_z}
use Rattle.numbers.proofs.Above.{max-shift, min-shift}
use Rattle.line.specs.declared.Head.{Head}
use Rattle.line.specs.Line.{larger, Within}
use Rattle.line.specs.Refusal.{fine}
use Rattle.line.proofs.Signs.{true-ne-false}
use Rattle.table.specs.Tree.{Forest, end, leaf, inner, is_end, is_chance}
use Rattle.table.specs.Table.{Table, tree, read_text, greatest}
use Rattle.table.specs.Inside.{height_tree}
use Rattle.table.specs.Accepted.{span, one, Filled, Proper}
use Rattle.table.proofs.Heights.{above, map_forest, map-filled, map-proper, height-back, height-span, heights-map}
use Rattle.table.proofs.Accepted.{accepted-proper, accepted-filled}
use Rattle.index.specs.Index.{values_of, lowest_of, highest_of, Ends, entries, index_of}
use Rattle.index.specs.Inside.{least_of, greatest_of, height_entries}

-- ---- over heights

module _ (S : ℕ) where
  pub least-low : (f : Forest ℕ) → least_of S f ≤ S
  unfolding least_of
  least-low end = le_refl S
  least-low (leaf n w h rest) = omega (arith, least-low rest)
  least-low (inner n w k under rest) = omega (arith, least-low rest)

  -- where there is a leaf, its height lies between the two
  pub ordered : (f : Forest ℕ) → Filled f → is_end f ≡ false → least_of S f ≤ greatest_of f
  unfolding least_of greatest_of
  ordered end i z = absurd (true-ne-false z)
  ordered (leaf n w h rest) i z = omega arith
  ordered (inner n w k under rest) i z = omega (arith, ordered under i.1 i.0)

  -- the greatest is at most S where every height is
  greatest-low : (T K d c : ℕ) (u : Bool) (f : Forest ℕ) → Proper T K (λ (x : ℕ). x ≤ S) d c u f → greatest_of f ≤ S
  unfolding greatest_of
  greatest-low T K d c u end p = omega arith
  greatest-low T K d c u (leaf n w h rest) p = omega (arith, p.1, greatest-low T K d c u rest p.4)
  greatest-low T K d c u (inner n w k under rest) p =
      omega (arith, greatest-low T K (suc d) (c + one k) (is_chance k) under p.3, greatest-low T K d c u rest p.4)

-- ---- lists of heights

lows : ℕ → List ℕ → ℕ
lows S [] = S
lows S (h ∷ hs) = min h (lows S hs)

highs : List ℕ → ℕ
highs [] = 0
highs (h ∷ hs) = max h (highs hs)

lows-low : (S : ℕ) (xs : List ℕ) → lows S xs ≤ S
unfolding lows
lows-low S [] = le_refl S
lows-low S (x ∷ xs) = omega (arith, lows-low S xs)

lows-append : (S : ℕ) (xs ys : List ℕ) → lows S (xs ++ ys) ≡ min (lows S xs) (lows S ys)
unfolding lows
lows-append S [] ys = omega (arith, lows-low S ys)
lows-append S (x ∷ xs) ys = omega (arith, lows-append S xs ys)

highs-append : (xs ys : List ℕ) → highs (xs ++ ys) ≡ max (highs xs) (highs ys)
unfolding highs
highs-append [] ys = omega arith
highs-append (x ∷ xs) ys = omega (arith, highs-append xs ys)

least-values : (S : ℕ) (f : Forest ℕ) → least_of S f ≡ lows S (values_of f)
unfolding least_of lows values_of
least-values S end = refl
least-values S (leaf n w h rest) = ap (min h) (least-values S rest)
least-values S (inner n w k under rest) =
    ap₂ min (least-values S under) (least-values S rest) ∙ sym (lows-append S (values_of under) (values_of rest))

greatest-values : (f : Forest ℕ) → greatest_of f ≡ highs (values_of f)
unfolding greatest_of highs values_of
greatest-values end = refl
greatest-values (leaf n w h rest) = ap (max h) (greatest-values rest)
greatest-values (inner n w k under rest) =
    ap₂ max (greatest-values under) (greatest-values rest) ∙ sym (highs-append (values_of under) (values_of rest))

-- ---- values

pub values-map : {A B : Type 0} (g : A → B) (f : Forest A) → values_of (map_forest g f) ≡ map g (values_of f)
unfolding values_of
values-map g end = refl
values-map g (leaf n w v rest) = ap (λ l. g v ∷ l) (values-map g rest)
values-map g (inner n w k under rest) =
    ap₂ ◌++◌ (values-map g under) (values-map g rest) ∙ sym (map-append g (values_of under) (values_of rest))

-- there is a value where there is a node
Some : {A : Type 0} → List A → Type 0
Some {A} l = (x : A) × (xs : List A) × (l ≡ x ∷ xs)

some-append : {A : Type 0} (xs ys : List A) → Some xs → Some (xs ++ ys)
unfolding Some
some-append xs ys s = (s.0, s.1 ++ ys, ap (λ l. l ++ ys) s.2)

some-values : {A : Type 0} (f : Forest A) → Filled f → is_end f ≡ false → Some (values_of f)
unfolding Some values_of
some-values end i z = absurd (true-ne-false z)
some-values (leaf n w v rest) i z = (v, values_of rest, refl)
some-values (inner n w k under rest) i z = some-append (values_of under) (values_of rest) (some-values under i.1 i.0)

module _ (lo : ℤ) where
  -- so much above lo
  abbrev pub lift : ℕ → ℤ
  lift h = lo +ℤ pos h

  lowest-list : (S x : ℕ) (xs : List ℕ) → highs (x ∷ xs) ≤ S → lowest_of (map lift (x ∷ xs)) ≡ lift (lows S (x ∷ xs))
  unfolding lowest_of lows highs
  lowest-list S x [] h = ap lift (omega arith)
  lowest-list S x (y ∷ ys) h = ap (min_z (lift x)) (lowest-list S y ys (omega arith)) ∙ min-shift lo x (lows S (y ∷ ys))

  highest-list : (x : ℕ) (xs : List ℕ) → highest_of (map lift (x ∷ xs)) ≡ lift (highs (x ∷ xs))
  unfolding highest_of highs
  highest-list x [] = ap lift (omega arith)
  highest-list x (y ∷ ys) = ap (max_z (lift x)) (highest-list y ys) ∙ max-shift lo x (highs (y ∷ ys))

  lowest-some : (S : ℕ) (l : List ℕ) → Some l → highs l ≤ S → lowest_of (map lift l) ≡ lift (lows S l)
  unfolding Some
  lowest-some S l s h =
      ap (λ (l : List ℕ). lowest_of (map lift l)) s.2 ∙ lowest-list S s.0 s.1 (subst (λ (l : List ℕ). highs l ≤ S) s.2 h)
      ∙ ap (λ (l : List ℕ). lift (lows S l)) (sym s.2)

  highest-some : (l : List ℕ) → Some l → highest_of (map lift l) ≡ lift (highs l)
  unfolding Some
  highest-some l s =
      ap (λ (l : List ℕ). highest_of (map lift l)) s.2 ∙ highest-list s.0 s.1 ∙ ap (λ (l : List ℕ). lift (highs l)) (sym s.2)

  -- the lowest and the highest of values that lie so much above lo
  pub lowest-is : (S : ℕ) (f : Forest ℕ) → Filled f → is_end f ≡ false → greatest_of f ≤ S → lowest_of (values_of (map_forest lift f)) ≡ lo +ℤ pos (least_of S f)
  lowest-is S f i z h =
      ap lowest_of (values-map lift f) ∙ lowest-some S (values_of f) (some-values f i z) (subst (λ (x : ℕ). x ≤ S) (greatest-values f) h)
      ∙ ap lift (sym (least-values S f))

  pub highest-is : (f : Forest ℕ) → Filled f → is_end f ≡ false → highest_of (values_of (map_forest lift f)) ≡ lo +ℤ pos (greatest_of f)
  highest-is f i z = ap highest_of (values-map lift f) ∙ highest-some (values_of f) (some-values f i z) ∙ ap lift (sym (greatest-values f))

  -- the index of such a tree
  entries-lift : (S : ℕ) (f : Forest ℕ) → Filled f → greatest_of f ≤ S → entries (map_forest lift f) ≡ height_entries lo S f
  unfolding entries height_entries greatest_of
  entries-lift S end i h = refl
  entries-lift S (leaf n w v rest) i h = ap (λ l. none ∷ l) (entries-lift S rest i (omega arith))
  entries-lift S (inner n w k under rest) i h =
      let a : greatest_of under ≤ S = omega arith in
      ap₂ (λ (e : Ends) (l : List (Option Ends)). some e ∷ l)
      (ap₂ (λ (x y : ℤ). record { low = x; high = y }) (lowest-is S under i.1 i.0 a) (highest-is under i.1 i.0))
      (ap₂ ◌++◌ (entries-lift S under i.1 a) (entries-lift S rest i.2 (omega arith)))

-- ---- of a table

-- values that lie between the ends, from the lowest up
lift-back : (T K : ℕ) (h : Head) (d c : ℕ) (u : Bool) (f : Forest ℤ) → Proper T K (Within h) d c u f
    → map_forest (lift h.lowest) (map_forest (above h.lowest) f) ≡ f
lift-back T K h d c u end p = refl
lift-back T K h d c u (leaf n w v rest) p = ap₂ (leaf n w) (height-back h.lowest v p.1.0) (lift-back T K h d c u rest p.4)
lift-back T K h d c u (inner n w k under rest) p =
    ap₂ (inner n w k) (lift-back T K h (suc d) (c + one k) (is_chance k) under p.3) (lift-back T K h d c u rest p.4)

-- and their heights, which lie within the span
heights-low : (T K : ℕ) (h : Head) (d c : ℕ) (u : Bool) (f : Forest ℤ) → Proper T K (Within h) d c u f → greatest_of (map_forest (above h.lowest) f) ≤ span h
heights-low T K h d c u f p =
    greatest-low (span h) T K d c u (map_forest (above h.lowest) f)
    (map-proper (above h.lowest) T K (Within h) (λ (x : ℕ). x ≤ span h) (λ v w. height-span h.lowest h.highest v w.0 w.1) d c u f p)

-- the entries of nodes whose utilities lie between the ends
entries-heights : (T K : ℕ) (h : Head) (d c : ℕ) (u : Bool) (f : Forest ℤ) → Proper T K (Within h) d c u f → Filled f
    → entries f ≡ height_entries h.lowest (span h) (map_forest (above h.lowest) f)
entries-heights T K h d c u f p i =
    let g : Forest ℕ = map_forest (above h.lowest) f in
    ap entries (sym (lift-back T K h d c u f p))
    ∙ entries-lift h.lowest (span h) g (map-filled (above h.lowest) f i)
    (heights-low T K h d c u f p)

-- the heights of an accepted table
pub greatest-heights : (s : List ℕ) (t : Table) → read_text s ≡ fine t → greatest_of (height_tree t) ≤ span t.head
greatest-heights s t r = rw (heights-map t) (heights-low (larger t.head) (greatest t.lines) t.head 0 0 false (tree t) (accepted-proper s t r))

-- the index of an accepted table
pub index-heights : (s : List ℕ) (t : Table) → read_text s ≡ fine t → index_of t ≡ height_entries t.head.lowest (span t.head) (height_tree t)
index-heights s t r =
    entries-heights (larger t.head) (greatest t.lines) t.head 0 0 false (tree t) (accepted-proper s t r) (accepted-filled s t r)
    ∙ ap (height_entries t.head.lowest (span t.head)) (sym (heights-map t))
