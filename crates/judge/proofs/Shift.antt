-- The judgement over the integers is the judgement over heights, where no child is better than the best.
use Prim.Native.Nat.{ℕ, zero, suc, ◌+◌, ◌-◌}
use mathlib.Core.Path.{◌≡◌, refl, sym, ap, ap₂, ◌∙◌}
use mathlib.Core.Bool.{cond}
use mathlib.Core.List.{List, [], ◌∷◌, map}
use mathlib.Core.Option.{Option, none, some}
use native.Mathlib.Omega.{arith}
use lib.ListN.{length, get_elem?}
use lib.IntN.{ℤ, pos, negsuc, ◌+ℤ◌, ◌-ℤ◌}
use Rattle.numbers.specs.Integers.{eq_z}
use Rattle.numbers.proofs.Signs.{plus, minus, parts, is-unique, is-minus}
use Rattle.numbers.proofs.Above.{lift}
use Rattle.table.specs.Root.{Side, AtM, AtN, Root, nobody, to_play, numbered}
use Rattle.worth.specs.Worth.{Share}
use Rattle.worth.specs.Inside.Heights.{raised}
use Rattle.worth.proofs.Bounds.{Each}
use Rattle.judge.specs.Judge.{loss_at, levels, judge_child, judge_at}
use Rattle.judge.specs.Inside.Heights.{height_loss, height_levels, height_judge_child, height_judge_at, Ahead}

-- ---- entries by number

abbrev pub mapped : {A B : Type 0} → (A → B) → Option A → Option B
mapped f none = none
mapped f (some x) = some (f x)

pub entry-map : {A B : Type 0} (f : A → B) (xs : List A) (k : ℕ) → get_elem? (map f xs) k ≡ mapped f (get_elem? xs k)
entry-map f [] k = refl
entry-map f (x ∷ xs) zero = refl
entry-map f (x ∷ xs) (suc k) = entry-map f xs k

pub numbered-map : {A B : Type 0} (f : A → B) (i : ℤ) (xs : List A) → numbered i (map f xs) ≡ mapped f (numbered i xs)
numbered-map f (pos zero) xs = refl
numbered-map f (pos (suc k)) xs = entry-map f xs k
numbered-map f (negsuc k) xs = refl

entry-each : (P : ℕ → Type 0) (xs : List (Share ℕ)) (k : ℕ) (x : Share ℕ) → Each P xs → get_elem? xs k ≡ some x → P x.worth
entry-each P [] k x p e = let z : ◌≡◌ {A = ℕ} 0 1 = cc in absurd (omega arith)
entry-each P (y ∷ ys) zero x p e = let same : y ≡ x = cc in rw same at p.0
entry-each P (y ∷ ys) (suc k) x p e = entry-each P ys k x p.1 e

pub numbered-each : (P : ℕ → Type 0) (xs : List (Share ℕ)) (i : ℤ) (x : Share ℕ) → Each P xs → numbered i xs ≡ some x → P x.worth
numbered-each P xs (pos zero) x p e = let z : ◌≡◌ {A = ℕ} 0 1 = cc in absurd (omega arith)
numbered-each P xs (pos (suc k)) x p e = entry-each P xs k x p e
numbered-each P xs (negsuc k) x p e = let z : ◌≡◌ {A = ℕ} 0 1 = cc in absurd (omega arith)

-- lists of one length have entries at the same numbers
module _ {A B : Type 0} where
  entry-same : (k : ℕ) (xs : List A) (ys : List B) (x : A) → length xs ≡ length ys → get_elem? xs k ≡ some x → (y : B) × (get_elem? ys k ≡ some y)
  entry-same k [] ys x l e = let z : ◌≡◌ {A = ℕ} 0 1 = cc in absurd (omega arith)
  entry-same k (v ∷ vs) [] x l e = absurd (omega (arith, l))
  entry-same zero (v ∷ vs) (y ∷ ys) x l e = (y, refl)
  entry-same (suc k) (v ∷ vs) (y ∷ ys) x l e = entry-same k vs ys x (omega (arith, l)) e

  pub numbered-some : (i : ℤ) (xs : List A) (ys : List B) (x : A) → length xs ≡ length ys → numbered i xs ≡ some x → (y : B) × (numbered i ys ≡ some y)
  numbered-some (pos zero) xs ys x l e = let z : ◌≡◌ {A = ℕ} 0 1 = cc in absurd (omega arith)
  numbered-some (pos (suc k)) xs ys x l e = entry-same k xs ys x l e
  numbered-some (negsuc k) xs ys x l e = let z : ◌≡◌ {A = ℕ} 0 1 = cc in absurd (omega arith)

pub numbered-none : {A B : Type 0} (i : ℤ) (xs : List A) (ys : List B) → length xs ≡ length ys → numbered i xs ≡ none → numbered i ys ≡ none
numbered-none {A} {B} i xs ys l e = go (numbered i ys) refl
  where
    go : (o : Option B) → numbered i ys ≡ o → o ≡ none
    go none q = refl
    go (some y) q = let (x, p) = numbered-some i ys xs y (sym l) q in let z : ◌≡◌ {A = ℕ} 0 1 = cc in absurd (omega arith)

-- ---- the difference of two worths

minus-shift : (b : ℤ) (m n d : ℕ) → d + n ≡ m → (b +ℤ pos m) -ℤ (b +ℤ pos n) ≡ pos d
minus-shift b m n d h =
    let p : ℕ = plus b in
    let q : ℕ = minus b in
    is-unique ((b +ℤ pos m) -ℤ (b +ℤ pos n)) (pos d) ((p + m) + q) (q + (p + n))
    (is-minus (b +ℤ pos m) (b +ℤ pos n) (p + m) q (p + n) q (lift b p q m (parts b)) (lift b p q n (parts b))) (omega arith)

-- where the lowest end is b grains
module _ (b : ℤ) where
  pub loss-shift : (s : Side) (best v : ℕ) → Ahead s best v → loss_at s (b +ℤ pos best) (b +ℤ pos v) ≡ pos (height_loss s best v)
  loss-shift AtM best v h = minus-shift b best v (best - v) (omega arith)
  loss-shift AtN best v h = minus-shift b v best (v - best) (omega arith)

  pub levels-shift : (s : Side) (best : ℕ) (xs : List (Share ℕ)) → Each (Ahead s best) xs
      → levels s (b +ℤ pos best) (map (raised b) xs) ≡ height_levels s best xs
  unfolding levels height_levels
  levels-shift s best [] p = refl
  levels-shift s best (x ∷ xs) p =
      ap₂ (λ (z : ℤ) (n : ℕ). cond (eq_z z (pos 0)) 1 0 + n) (loss-shift s best x.worth p.0) (levels-shift s best xs p.1)

  child-shift : (s : Side) (best : ℕ) (xs : List (Share ℕ)) (o : Option (Share ℕ)) → Each (Ahead s best) xs
      → ((x : Share ℕ) → o ≡ some x → Ahead s best x.worth)
      → judge_child s (b +ℤ pos best) (map (raised b) xs) (mapped (raised b) o) ≡ height_judge_child s best xs o
  child-shift s best xs none p f = refl
  child-shift s best xs (some x) p f = rw (loss-shift s best x.worth (f x refl), levels-shift s best xs p)

  pub judge-shift : (r : Root) (best : ℕ) (xs : List (Share ℕ)) (i : ℤ) → ((s : Side) → r ≡ to_play s → Each (Ahead s best) xs)
      → judge_at r (b +ℤ pos best) (map (raised b) xs) i ≡ height_judge_at r best xs i
  judge-shift nobody best xs i f = refl
  judge-shift (to_play s) best xs i f =
      ap (judge_child s (b +ℤ pos best) (map (raised b) xs)) (numbered-map (raised b) i xs)
      ∙ child-shift s best xs (numbered i xs) (f s refl) (λ (x : Share ℕ) e. numbered-each (Ahead s best) xs i x (f s refl) e)
