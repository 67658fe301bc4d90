-- No check refuses a header in range, and none the form of a line's text.
use Prim.Native.Nat.{ℕ, zero, suc, ◌≤◌, ◌<◌}
use mathlib.Core.Path.{◌≡◌, refl, ap, ◌∙◌}
use mathlib.Core.Bool.{Bool, true, false, not, ◌||◌, cond}
use mathlib.Core.List.{List, [], ◌∷◌, ◌++◌}
use native.Mathlib.Omega.{arith}
use borrow.Author.Tests.{eq-eqb, ne_eqb, le-ltb}
use lib.Dec.{eqb, eqb-suc-zero}
use lib.IntN.{ℤ, pos, negsuc, nat_abs}
use Rattle.field.specs.declared.Field.TheVariants.{Blank, Number}
use Rattle.std.specs.Prelude.{Option, Some, unwrap_or}
use Rattle.line.specs.declared.Head.{Head}
use Rattle.line.specs.declared.Kind.{Kind}
use Rattle.line.specs.declared.Kind.TheVariants.{Leaf, Max, Min, Chance}
use Rattle.line.specs.declared.Line.{Line}
use Rattle.line.specs.declared.Entry.{Entry}
use Rattle.line.specs.Refusal.{Verdict, fine, Check, unless}
use Rattle.line.specs.Line.{is_ill, has_number, outside, count_of, head_of, header_for, header_checks, letter, kind_from, is_leaf, Above, steps_of, ill_entry, wide_heading, stepped, Placed, placed, early_checks, late_checks}
use Rattle.line.specs.Inside.{Ranged}
use Rattle.line.proofs.Fine.{Passed}
use Rattle.writing.specs.Inside.{entry_for}
use Rattle.writing.proofs.Said.{heading_for}

pub unless-passed : {A : Type 0} (cs : List Check) (a : A) → Passed cs → unless cs a ≡ fine a
unfolding unless
unless-passed [] a p = refl
unless-passed (c ∷ cs) a p = rw p.0 (unless-passed cs a p.1)

-- ---- the header

end-inside : (z : ℤ) → nat_abs z ≤ 1000000 → outside (negsuc 999999) (pos 1000000) (Number z) ≡ false
end-inside (pos n) h = le-ltb 1000000 n h
end-inside (negsuc n) h = rw (le-ltb 999999 n (omega arith))

total_inside : (n : ℕ) → 0 < n → n ≤ 64 → outside (pos 1) (pos 64) (Number (pos n)) ≡ false
total_inside n p h = rw (le-ltb n 1 p, le-ltb 64 n h)

-- a second total, or none
second-well : (b : Bool) (n : ℕ) → is_ill (cond b Blank (Number (pos n))) ≡ false
second-well true n = refl
second-well false n = refl

second_back : (n : ℕ) → count_of (cond (eqb n 0) Blank (Number (pos n))) ≡ n
second_back zero = refl
second_back (suc n) = rw (eqb-suc-zero n) refl

second-passes : (n T : ℕ) → n ≤ 64 → (n ≡ T → ⊥)
    → (outside (pos 1) (pos 64) (cond (eqb n 0) Blank (Number (pos n))) || has_number T (cond (eqb n 0) Blank (Number (pos n)))) ≡ false
second-passes zero T h d = refl
second-passes (suc n) T h d = rw (eqb-suc-zero n, total_inside (suc n) (omega arith) h) (ne_eqb (suc n) T d)

pub header-passes : (n : ℕ) (h : Head) → Ranged h → header_for n 10 (heading_for h n) ≡ fine h
header-passes n h r =
    let wide : wide_heading (heading_for h n) ≡ false =
    rw (second-passes h.second h.total r.second r.apart, total_inside h.total r.some r.total, end-inside h.lowest r.lowest, end-inside h.highest r.highest) r.order in
    unless-passed (header_checks n 10 (heading_for h n)) (head_of (heading_for h n))
    (rw (second-well (eqb h.second 0) h.second) refl, (wide, (ap not (eq-eqb n n refl), tt)))
    ∙ (λ j. fine (record { total = h.total; second = second_back h.second j; lowest = h.lowest; highest = h.highest }))

-- ---- a node line

ill-first : (b : Bool) (z : ℤ) → is_ill (cond b Blank (Number z)) ≡ false
ill-first true z = refl
ill-first false z = refl

ill-second : (b : Bool) (z : ℤ) → is_ill (cond b (Number z) Blank) ≡ false
ill-second true z = refl
ill-second false z = refl

letter-filled : (k : Kind) → eqb (letter k) 32 ≡ false
letter-filled Leaf = refl
letter-filled Max = refl
letter-filled Min = refl
letter-filled Chance = refl

pub entry-well : (l : Line) → ill_entry 32 10 (entry_for l) ≡ false
entry-well l =
    rw (
      ill-first (eqb l.node 0) (pos l.parent),
      ill-first (eqb l.weight 0) (pos l.weight),
      ill-second (is_leaf l.kind) l.utility,
    )
    (letter-filled l.kind)

pub kind-back : (k : Kind) → kind_from (letter k) ≡ Some k
kind-back Leaf = refl
kind-back Max = refl
kind-back Min = refl
kind-back Chance = refl

-- a line of the kind o, if it has one
abbrev pub placing : Head → ℕ → Option Kind → Above → Entry → Verdict Placed
placing h i o a e =
    let k : Kind = unwrap_or o Leaf in
    unless (early_checks i o a e 32 10 ++ late_checks h i k e (steps_of a)) (placed i k e (stepped i k (steps_of a)))
