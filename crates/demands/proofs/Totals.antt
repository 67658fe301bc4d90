-- The theorems of specs/Totals.antt.
use Prim.Native.Nat.{ℕ, zero, suc, ◌<◌}
use mathlib.Core.Path.{◌≡◌, refl, sym, ap, ◌∙◌}
use mathlib.Core.Bool.{Bool, false, not, ◌||◌, cond, or-false}
use mathlib.Core.List.{List}
use native.Mathlib.Omega.{arith}
use lib.Dec.{eqb, eqb-suc-zero}
use lib.ListN.{length, get_or, take}
use lib.Seq.{length-take-le}
use lib.IntN.{pos, negsuc}
use lib.Signed.{lt_z}
use Rattle.field.specs.Field.{field_of}
use Rattle.field.specs.declared.Field.{Field}
use Rattle.field.specs.declared.Field.TheVariants.{Blank, Number}
use Rattle.line.specs.declared.Head.{Head}
use Rattle.line.specs.declared.Heading.{Heading}
use Rattle.line.specs.Refusal.{fine}
use Rattle.line.specs.Line.{is_ill, is_blank, has_number, outside, value_of, count_of, second_of, total_of, header, heading_of, ill_heading, wide_heading, among}
use Rattle.line.specs.Inside.{Ranged}
use Rattle.line.proofs.Columns.{second-number}
use Rattle.line.proofs.Fine.{header-ranged}
use Rattle.table.specs.Table.{count, bad_length}
use Rattle.table.proofs.Top.{good_length}
use Rattle.table.proofs.Accepted.{checked, one-total}
use Rattle.table.proofs.Places.{eighteen-needs, eighteen-given, one-total-never}
use Rattle.writing.proofs.Said.{heading_for, header-said}
use Rattle.worth.proofs.Worth.{totals-are, exact}
use Rattle.search.proofs.Table.{no-remainder}
use Rattle.demands.specs.Totals.{Columns, HeaderColumns, OwnSums, DivisionExact, EighteenIs, former_ill, former_wide, OneHeading, OneTotal, AsBefore}

-- ---- the header

number-blank : {P : Type 0} (n : ℕ) → Number (pos n) ≡ Blank → P
number-blank n e = let z : ◌≡◌ {A = ℕ} 0 1 = cc in absurd (omega arith)

-- the field that a second total is written in
second_none : (n : ℕ) → cond (eqb n 0) Blank (Number (pos n)) ≡ Blank → n ≡ 0
second_none zero e = refl
second_none (suc n) e = number-blank (suc n) (rw (eqb-suc-zero n) at e)

second-some : (n : ℕ) → (cond (eqb n 0) Blank (Number (pos n)) ≡ Blank → ⊥) → (cond (eqb n 0) Blank (Number (pos n)) ≡ Number (pos n)) × (0 < n)
second-some zero e = absurd (e refl)
second-some (suc n) e = (rw (eqb-suc-zero n) refl, omega arith)

module _ (n : ℕ) (s : List ℕ) (h : Head) (long : length s ≡ 25) (e : header n s ≡ fine h) where
  said : heading_of s ≡ heading_for h n
  said = (header-said n s h long e).heading

  ranged : Ranged h
  ranged = header-ranged n (get_or s 24 0) (heading_of s) h e

  second_is : second_of (field_of s 4 2) ≡ cond (eqb h.second 0) Blank (Number (pos h.second))
  second_is = ap (λ (g : Heading). g.second) said

  total-is : total_of s (second_of (field_of s 4 2)) ≡ Number (pos h.total)
  total-is = ap (λ (g : Heading). g.total) said

  columns : Columns s h
  columns =
      record {
        none = λ b. (second_none h.second (sym second_is ∙ b), ap (total_of s) (sym b) ∙ total-is);
        some = λ b.
            let q = second-some h.second (λ z. b (second_is ∙ z)) in
            let f : second_of (field_of s 4 2) ≡ Number (pos h.second) = second_is ∙ q.0 in
            (second-number (field_of s 4 2) h.second f, ap (total_of s) (sym f) ∙ total-is, q.1, ranged.second, ranged.apart);
      }

-- the header's 25 bytes
top-long : (s : List ℕ) → bad_length (length s) ≡ false → length (take 25 s) ≡ 25
top-long s b = length-take-le 25 s (omega (arith, (good_length (length s) b).0))

pub header-columns : HeaderColumns
header-columns s t e = let C = checked s t e in columns (count s) (take 25 s) t.head (top-long s C.long) C.head

-- ---- sums, and the division

pub own-sums : OwnSums
own-sums s t e = totals-are s t e

pub division-exact : DivisionExact
division-exact s t e = (exact s t e, λ ε full. no-remainder s t e ε full)

-- ---- 18

pub eighteen-is : EighteenIs
eighteen-is s = (eighteen-needs s, eighteen-given s)

-- ---- with no second total

blank-heading : (g : Heading) → g.second ≡ Blank → (last : ℕ) → ill_heading last g ≡ former_ill last g
blank-heading g e last =
    let a : Bool = not (eqb last 10) || is_ill g.count in
    ap (λ (f : Field). a || is_ill f || is_ill g.total || is_ill g.lowest || is_ill g.highest || is_blank g.count || is_blank g.total || is_blank g.lowest || is_blank g.highest) e
    ∙ ap (λ (b : Bool). b || is_ill g.total || is_ill g.lowest || is_ill g.highest || is_blank g.count || is_blank g.total || is_blank g.lowest || is_blank g.highest) (or-false a)

blank-wide : (g : Heading) → g.second ≡ Blank → wide_heading g ≡ former_wide g
blank-wide g e =
    ap (λ (f : Field). (outside (pos 1) (pos 64) f || has_number (count_of g.total) f) || outside (pos 1) (pos 64) g.total || outside (negsuc 999999) (pos 1000000) g.lowest
    || outside (negsuc 999999) (pos 1000000) g.highest || lt_z (value_of g.highest) (value_of g.lowest)) e

one-heading : (s : List ℕ) → second_of (field_of s 4 2) ≡ Blank → OneHeading s
one-heading s b =
    record {
      total = ap (total_of s) b;
      ill = blank-heading (heading_of s) b;
      wide = blank-wide (heading_of s) b;
      none = ap count_of b;
    }

single : (h : Head) → h.second ≡ 0 → OneTotal h
unfolding among
single h z = record { weights = omega arith; sums = λ n. rw z (or-false (eqb n h.total)); text = rw z refl }

pub as_before : AsBefore
as_before = (
  one-heading,
  single,
  λ s t e z. one-total s t e z,
  λ s b e. let x = eighteen-needs s e in one-total-never s x ((columns (count s) (take 25 s) x.table.head (top-long s x.long) x.head).none b).0,
)
