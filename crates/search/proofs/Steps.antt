-- The steps of `scan` and of `scan_sums` as the lemmas name them.
use Prim.Native.Nat.{ℕ}
use mathlib.Core.Path.{◌≡◌, refl}
use mathlib.Core.Bool.{Bool, true, false, cond}
use Rattle.table.specs.Tree.{Kind, Forest}
use Rattle.search.specs.Search.{Frame, Seen, State, Arith, Rules, enter, after, scan}
use Rattle.search.specs.Sums.{SumArith, enter_sums, after_sums, scan_sums}

pub cond_map : {A B : Type 0} (h : A → B) (x y : A) (b : Bool) → cond b (h x) (h y) ≡ h (cond b x y)
cond_map h x y true = refl
cond_map h x y false = refl

pub cond-past : {A : Type 0} (b : Bool) (x y : A) → b ≡ false → cond b x y ≡ y
cond-past b x y e = rw e refl

pub cond-else : {A : Type 0} {y z : A} (b : Bool) (x : A) → (b ≡ false → y ≡ z) → cond b x y ≡ cond b x z
cond-else true x h = refl
cond-else false x h = h refl

-- a property of either answer of a test, by which it is
pub cond-is : {A : Type 0} {x y : A} (P : A → Type 0) (b : Bool) → (b ≡ true → P x) → (b ≡ false → P y) → P (cond b x y)
cond-is P true f g = f refl
cond-is P false f g = g refl

-- a property of either pair of answers of one test
pub both : {A B : Type 0} {x y : A} {u v : B} (P : A → B → Type 0) (b : Bool) → P x u → P y v → P (cond b x y) (cond b u v)
both P true h k = h
both P false h k = k

module _ {A : Type 0} (O : Arith A) (R : Rules A) where
  -- what the search of an inner child gives
  abbrev pub seen_under : Frame A → Kind → (n w : ℕ) → Kind → Forest A → State A → Seen A
  seen_under e k n w c under s = scan O R (R.frame n under) c under (enter O e k w (R.frame n under) c s)

  -- what is given once a child has been taken
  abbrev pub seen_after : Frame A → Kind → Forest A → State A → Seen A
  seen_after e k rest t = after O R e k rest t (scan O R e k rest t)

-- the same with running sums
module _ {A : Type 0} (P : SumArith A) (O : Arith A) (R : Rules A) where
  abbrev pub sums_under : Frame A → Kind → (n w : ℕ) → Kind → Forest A → State A → Seen A
  sums_under e k n w c under s = scan_sums P O R (R.frame n under) c under (enter_sums P O e k w (R.frame n under) c s)

  abbrev pub sums_after : Frame A → Kind → Forest A → State A → Seen A
  sums_after e k rest t = after_sums P O R e k rest t (scan_sums P O R e k rest t)
