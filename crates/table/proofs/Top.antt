-- The first steps of the reading, the length and the header, and the last: what is copied out.
use Prim.Native.Nat.{ℕ, ◌+◌, ◌-◌, ◌*◌, ◌/◌, ◌%◌, ◌≤◌, ◌<◌}
use mathlib.Core.Path.{◌≡◌, ◌∙◌}
use mathlib.Core.Bool.{true, false, not, ◌||◌}
use mathlib.Core.List.{List}
use native.Mathlib.Omega.{arith}
use borrow.Author.Tests.{ltb-false, eqb-true, not-false}
use lib.ListN.{length, take, drop}
use lib.Seq.{take-nil}
use lib.Dec.{eqb, ltb}
use Rattle.line.specs.declared.Head.{Head}
use Rattle.line.specs.declared.Refusal.{Refusal}
use Rattle.line.specs.declared.Refusal.TheVariants.{Length}
use Rattle.line.specs.Refusal.{Verdict, refused, fine, next}
use Rattle.line.specs.Line.{header}
use Rattle.line.proofs.Checks.{or_left, or_right}
use Rattle.table.specs.Table.{Table, bad_length, count, lines_of, read_text}
use Rattle.table.specs.Slices.{fitted, decoded}

-- a good length is that of 1 to 1,024 node lines after the header
pub good_length : (n : ℕ) → bad_length n ≡ false → (50 ≤ n) × (0 < n / 25 - 1) × (n / 25 - 1 ≤ 1024) × (25 * (n / 25 - 1) + 25 ≡ n)
good_length n h =
    let a = or_left (not (eqb (n % 25) 0) || ltb n 50) (ltb 25625 n) h in
    let r : n % 25 ≡ 0 = eqb-true (n % 25) 0 (not-false (eqb (n % 25) 0) (or_left (not (eqb (n % 25) 0)) (ltb n 50) a)) in
    let l : 50 ≤ n = ltb-false n 50 (or_right (not (eqb (n % 25) 0)) (ltb n 50) a) in
    let u : n ≤ 25625 = ltb-false 25625 n (or_right (not (eqb (n % 25) 0) || ltb n 50) (ltb 25625 n) h) in
    (l, omega arith, omega arith, omega arith)

pub read_length : (s : List ℕ) → bad_length (length s) ≡ true → read_text s ≡ refused Length
unfolding read_text
read_length s h = rw h

pub read-header : (s : List ℕ) → bad_length (length s) ≡ false
    → read_text s ≡ next (header (count s) (take 25 s)) (λ (h : Head). lines_of h (count s) (drop 25 s))
unfolding read_text
read-header s h = rw h

module _ (s : List ℕ) (b : bad_length (length s) ≡ false) where
  pub read-refused : (r : Refusal) → header (count s) (take 25 s) ≡ refused r → read_text s ≡ refused r
  read-refused r e = read-header s b ∙ rw e

  pub read-lines : (h : Head) → header (count s) (take 25 s) ≡ fine h → read_text s ≡ lines_of h (count s) (drop 25 s)
  read-lines h e = read-header s b ∙ rw e

-- nothing was copied
pub unchanged : (f : Table → List ℕ) (v : Verdict Table) (r : Refusal) (a : List ℕ) → v ≡ refused r → a ≡ fitted (decoded f v) a
unchanged f v r a e = rw (e, take-nil {A = ℕ} (length a))
