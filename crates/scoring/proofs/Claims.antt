-- The number of nodes that a header gives; and the line of the play number.
use Prim.Native.Nat.{ℕ, ◌≤◌, ◌<◌}
use mathlib.Core.Path.{◌≡◌, refl, sym, ap}
use mathlib.Core.Bool.{Bool, true, false, not, ◌||◌, cond}
use mathlib.Core.List.{List, [], ◌∷◌}
use native.Mathlib.Omega.{arith}
use borrow.Author.Tests.{ltb-true, eq-eqb, ne_eqb}
use lib.Dec.{eqb, ltb}
use lib.ListN.{length, get_or}
use lib.IntN.{pos, negsuc}
use Rattle.field.specs.declared.Field.{Field}
use Rattle.field.specs.declared.Field.TheVariants.{Blank, Ill, Number}
use Rattle.field.specs.Field.{field_of}
use Rattle.line.specs.declared.Head.{Head}
use Rattle.line.specs.declared.Refusal.TheVariants.{IllWritten, OutOfRange, Misnumbered}
use Rattle.line.specs.Refusal.{Verdict, refused, fine, unless}
use Rattle.line.specs.Line.{is_ill, is_blank, has_number, outside, count_of, heading_of, ill_heading, wide_heading, head_of, header}
use Rattle.std.proofs.lemmas.Bool.Decides.{nat_tests}
use Rattle.line.proofs.Signs.{true-ne-false}
use Rattle.report.specs.Report.{bad_start, head_checks}
use Rattle.report.proofs.Cases.{count-well, count-range}
use Rattle.scoring.specs.Inside.{claim_of}

-- ---- the count

module _ (m : ℕ) where
  wrong-cases : (x y : Bool) → ltb m 1 ≡ x → ltb 1024 m ≡ y → not (eqb m (cond x 1 (cond y 1 m))) ≡ (x || y)
  wrong-cases true y p q = ap not (ne_eqb m 1 (λ e. omega (arith, ltb-true m 1 p, e)))
  wrong-cases false true p q = ap not (ne_eqb m 1 (λ e. omega (arith, ltb-true 1024 m q, e)))
  wrong-cases false false p q = ap not (eq-eqb m m refl)

-- `parsing::header`, asked for the count claimed, answers 4 where the count is out of range
wrong-count : (f : Field) → is_ill f ≡ false → is_blank f ≡ false → not (has_number (claim_of f) f) ≡ outside (pos 1) (pos 1024) f
wrong-count Blank i b = absurd (true-ne-false b)
wrong-count Ill i b = absurd (true-ne-false i)
wrong-count (Number (pos m)) i b = wrong-cases m (ltb m 1) (ltb 1024 m) refl refl
wrong-count (Number (negsuc m)) i b = refl

claim-is : (f : Field) → 1 ≤ count_of f → count_of f ≤ 1024 → count_of f ≡ claim_of f
claim-is f h l = grind (arith, nat_tests)

-- ---- the header

-- the header's answer with the number of nodes in place of what it says
abbrev pub retold : ℕ → Verdict Head → Verdict ℕ
retold n (refused r) = refused r
retold n (fine h) = fine n

retold-checks : (a b c d : Bool) (n m : ℕ) (h : Head) → (a ≡ false → c ≡ d) → (a ≡ false → d ≡ false → n ≡ m)
    → retold n (unless (record { holds = a; gives = IllWritten 0 } ∷ record { holds = b; gives = OutOfRange 0 } ∷ record { holds = c; gives = Misnumbered 0 } ∷ []) h)
    ≡ unless (record { holds = a; gives = IllWritten 0 } ∷ record { holds = b; gives = OutOfRange 0 } ∷ record { holds = d; gives = Misnumbered 0 } ∷ []) m
unfolding unless
retold-checks true b c d n m h p q = refl
retold-checks false true c d n m h p q = refl
retold-checks false false true true n m h p q = refl
retold-checks false false true false n m h p q = absurd (true-ne-false (p refl))
retold-checks false false false true n m h p q = absurd (true-ne-false (sym (p refl)))
retold-checks false false false false n m h p q = ap fine (q refl refl)

pub nodes-told : (line : List ℕ) → retold (claim_of (field_of line 0 4)) (header (claim_of (field_of line 0 4)) line) ≡ unless (head_checks line) (count_of (heading_of line).count)
nodes-told line =
    let g = heading_of line in
    let last = get_or line 24 0 in
    let f = field_of line 0 4 in
    retold-checks (ill_heading last g) (wide_heading g) (not (has_number (claim_of f) f)) (outside (pos 1) (pos 1024) f) (claim_of f) (count_of f) (head_of g)
    (λ w. let z = count-well last g w in wrong-count f z.0 z.1)
    (λ w o. let z = count-well last g w in let r = count-range f z.0 z.1 o in sym (claim-is f r.0 r.1))

-- ---- the line of the play number

pub play-short : (s : List ℕ) → length s < 30 → true ≡ bad_start s
play-short s h = grind (arith, nat_tests)
