-- What an accepted header and an accepted node line have in their fields: what their texts are written from.
use Prim.Native.Nat.{ℕ, zero, suc, ◌-◌, ◌^◌, ◌≤◌, ◌<◌}
use mathlib.Core.Path.{◌≡◌, refl, sym, ap, subst, ◌∙◌}
use mathlib.Core.Bool.{Bool, true, false, not, cond}
use mathlib.Core.List.{List, [], ◌∷◌, ◌++◌, append_assoc}
use native.Mathlib.Omega.{arith}
use borrow.Author.Tests.{eqb-true, not-false}
use lib.Dec.{eqb, eqb-suc-zero, lit<}
use lib.ListN.{length, get_or}
use lib.IntN.{ℤ, pos, negsuc, nat_abs}
use lib.Signed.{lt_z}
use Rattle.field.specs.Field.{field_of, text_of}
use Rattle.field.specs.declared.Field.{Field}
use Rattle.field.specs.declared.Field.TheVariants.{Blank, Ill, Number}
use Rattle.field.proofs.Bits.{abs_mag}
use Rattle.field.proofs.Small.{small}
use Rattle.field.proofs.Width.{few-plain}
use Rattle.std.specs.Prelude.{Option, Some, None, is_none as no_kind, unwrap_or}
use Rattle.line.specs.declared.Head.{Head}
use Rattle.line.specs.declared.Kind.{Kind}
use Rattle.line.specs.declared.Kind.TheVariants.{Leaf, Max, Min, Chance}
use Rattle.line.specs.declared.Step.{Step}
use Rattle.line.specs.declared.Line.{Line}
use Rattle.line.specs.declared.Heading.{Heading}
use Rattle.line.specs.declared.Entry.{Entry}
use Rattle.line.specs.Refusal.{fine}
use Rattle.line.specs.Line.{is_ill, is_blank, has_number, outside, value_of, to_nat, count_of, bad_second, larger, heading_of, head_of, header_checks, header, entry_of, letter, kind_from, kind_said, is_leaf, Above, ancestors, is_wrong, steps_of, at_chance, stepped, line_checks, placed, Placed, node_line}
use Rattle.line.specs.Inside.{Ranged}
use Rattle.line.proofs.Signs.{true-ne-false}
use Rattle.line.proofs.Checks.{or_left, or_right}
use Rattle.line.proofs.Fine.{unless-fine, nor9, nor10, Valued, line_read, valued-small}
use Rattle.writing.specs.Text.{columns, blank, newline, header_text, line_text}
use Rattle.writing.specs.Inside.{shown, entry_text, entry_for, Short}
use Rattle.writing.proofs.Lines.{heading_text, Written, HeadWritten}

-- ---- the fields that a header is written in

abbrev pub heading_for : Head → ℕ → Heading
heading_for h n =
    record {
      count = Number (pos n);
      second = cond (eqb h.second 0) Blank (Number (pos h.second));
      total = Number (pos h.total);
      lowest = Number h.lowest;
      highest = Number h.highest;
    }

shown-either : (width : ℕ) (b : Bool) (f g : Field) → shown width (cond b f g) ≡ cond b (shown width f) (shown width g)
shown-either width true f g = refl
shown-either width false f g = refl

-- a number of two digits at most in four columns, and in two
two-columns : (z : ℤ) → length (text_of z) ≤ 2 → columns 4 z ≡ blank 2 ++ columns 2 z
two-columns z l = let e : 4 - length (text_of z) ≡ suc (suc (2 - length (text_of z))) = omega arith in rw e refl

totals-text : (b : Bool) (m n : ℕ) → length (text_of (pos m)) ≤ 2
    → cond b (columns 4 (pos m)) (columns 2 (pos n) ++ columns 2 (pos m)) ≡ shown 2 (cond b Blank (Number (pos n))) ++ columns 2 (pos m)
totals-text true m n l = two-columns (pos m) l
totals-text false m n l = refl

pub head-text : (h : Head) (n : ℕ) → Ranged h → header_text h n ≡ heading_text (heading_for h n)
head-text h n r =
    let few : length (text_of (pos h.total)) ≤ 2 = few-plain h.total 2 (lit< tt) (omega (arith, r.total)) in
    ap (λ (x : List ℕ). columns 4 (pos n) ++ (x ++ (columns 8 h.lowest ++ (columns 8 h.highest ++ newline)))) (totals-text (eqb h.second 0) h.total h.second few)
    ∙ simp append_assoc

pub line-text : (l : Line) → line_text l ≡ entry_text (entry_for l)
line-text l =
    simp (
      shown-either 5 (eqb l.node 0) Blank (Number (pos l.parent)),
      shown-either 5 (eqb l.weight 0) Blank (Number (pos l.weight)),
      shown-either 8 (is_leaf l.kind) (Number l.utility) Blank,
    )

-- ---- one field

number-field : (i : ℕ) (f : Field) → has_number i f ≡ true → f ≡ Number (pos i)
number-field i Blank e = absurd (true-ne-false (sym e))
number-field i Ill e = absurd (true-ne-false (sym e))
number-field i (Number (pos m)) e = ap (λ (n : ℕ). Number (pos n)) (eqb-true m i e)
number-field i (Number (negsuc m)) e = absurd (true-ne-false (sym e))

abbrev pub is_none : List Step → Bool
is_none [] = true
is_none (s ∷ P) = false

-- only the root stands below no steps
parent-field : (i : ℕ) (P : List Step) (f : Field) → eqb i 0 ≡ is_none P → is_wrong (ancestors f P) ≡ false
    → f ≡ cond (eqb i 0) Blank (Number (pos (count_of f)))
parent-field i [] Blank r e = rw r
parent-field i [] Ill r e = absurd (true-ne-false e)
parent-field i [] (Number z) r e = absurd (true-ne-false e)
parent-field i (s ∷ P) Blank r e = absurd (true-ne-false e)
parent-field i (s ∷ P) Ill r e = absurd (true-ne-false e)
parent-field i (s ∷ P) (Number (pos n)) r e = rw r
parent-field i (s ∷ P) (Number (negsuc n)) r e = absurd (true-ne-false e)

-- "weights 1 to T": a weight of 0 stands for none
weight-field : (T : ℕ) (f : Field) → is_ill f ≡ false → outside (pos 1) (pos T) f ≡ false → f ≡ cond (eqb (count_of f) 0) Blank (Number (pos (count_of f)))
weight-field T Blank i o = refl
weight-field T Ill i o = absurd (true-ne-false i)
weight-field T (Number (pos zero)) i o = absurd (true-ne-false o)
weight-field T (Number (pos (suc n))) i o = rw (eqb-suc-zero n)
weight-field T (Number (negsuc n)) i o = absurd (true-ne-false o)

utility-field : (b : Bool) (f : Field) → is_ill f ≡ false → cond b (is_blank f) (not (is_blank f)) ≡ false → f ≡ cond b (Number (value_of f)) Blank
utility-field true Blank i m = absurd (true-ne-false m)
utility-field b Ill i m = absurd (true-ne-false i)
utility-field true (Number z) i m = refl
utility-field false Blank i m = refl
utility-field false (Number z) i m = absurd (true-ne-false m)

-- a field of the header
filled-field : (f : Field) → is_ill f ≡ false → is_blank f ≡ false → f ≡ Number (value_of f)
filled-field Blank i b = absurd (true-ne-false b)
filled-field Ill i b = absurd (true-ne-false i)
filled-field (Number z) i b = refl

natural-field : (T : ℕ) (f : Field) → is_ill f ≡ false → is_blank f ≡ false → outside (pos 1) (pos T) f ≡ false → f ≡ Number (pos (count_of f))
natural-field T Blank i b o = absurd (true-ne-false b)
natural-field T Ill i b o = absurd (true-ne-false i)
natural-field T (Number (pos n)) i b o = refl
natural-field T (Number (negsuc n)) i b o = absurd (true-ne-false o)

-- a kind's letter
abbrev found : (s t u v : Bool) → Option Kind
found s t u v = cond s (Some Leaf) (cond t (Some Max) (cond u (Some Min) (cond v (Some Chance) None)))

letter-back : (b : ℕ) → no_kind (kind_from b) ≡ false → b ≡ letter (unwrap_or (kind_from b) Leaf)
letter-back b e = go (eqb b 76) (eqb b 77) (eqb b 78) (eqb b 67) refl refl refl refl e
  where
    go : (s t u v : Bool) → eqb b 76 ≡ s → eqb b 77 ≡ t → eqb b 78 ≡ u → eqb b 67 ≡ v
        → no_kind (found s t u v) ≡ false → b ≡ letter (unwrap_or (found s t u v) Leaf)
    go true t u v x y z w e = eqb-true b 76 x
    go false true u v x y z w e = eqb-true b 77 y
    go false false true v x y z w e = eqb-true b 78 z
    go false false false true x y z w e = eqb-true b 67 w
    go false false false false x y z w e = absurd (true-ne-false e)

-- ---- an accepted node line

pub record Said (s : List ℕ) (l : Line) : Type 0 where
  pub entry : entry_of s ≡ entry_for l
  pub written : Written s
  pub short : Short l

nat-abs : (z : ℤ) → to_nat z ≤ nat_abs z
nat-abs (pos n) = omega arith
nat-abs (negsuc n) = omega arith

count_small : (s : List ℕ) (from width : ℕ) → 0 < 10 ^ width → count_of (field_of s from width) < 10 ^ width
count_small s from width p = go (field_of s from width) refl
  where
    go : (f : Field) → field_of s from width ≡ f → count_of f < 10 ^ width
    go Blank e = p
    go Ill e = p
    go (Number z) e = omega (arith, nat-abs z, small s from width z e)

pub utility-short : (h : Head) (b : Bool) (z : ℤ) → Ranged h → Valued b h z → nat_abs z < 10 ^ 7
utility-short h b z r v = omega (arith, abs_mag z, valued-small b h z r v)

pub line-said : (h : Head) (i : ℕ) (P : List Step) (s : List ℕ) (p : Placed) → Ranged h → length s ≡ 25 → eqb i 0 ≡ is_none P
    → node_line h i P s ≡ fine p → Said s p.line
line-said h i P s p ranged long root eq =
    let e : Entry = entry_of s in
    let k : Kind = kind_said e in
    let a : Above = ancestors e.parent P in
    let R = line_read h i e (get_or s 4 0) (get_or s 24 0) P p eq in
    let r = unless-fine (line_checks h i e (get_or s 4 0) (get_or s 24 0) a) (placed i k e (stepped i k (steps_of a))) p eq in
    let c = r.0 in
    let w = nor9 false (not (eqb (get_or s 24 0) 10)) (is_ill e.number) (is_ill e.parent) (is_ill e.weight) (is_ill e.utility) (not (eqb (get_or s 4 0) 32)) (is_blank e.number) (eqb e.letter 32) c.0 in
    let m = or_right (cond (at_chance (steps_of a)) (is_blank e.weight) (not (is_blank e.weight))) (cond (is_leaf k) (is_blank e.utility) (not (is_blank e.utility))) c.1.1.1.1.1.0 in
    let o = or_left (outside (pos 1) (pos (larger h)) e.weight) (outside h.lowest h.highest e.utility) c.1.1.1.1.1.1.0 in
    let number : e.number ≡ Number (pos i) = number-field i e.number (not-false (has_number i e.number) c.1.0) in
    let letter : e.letter ≡ letter k = letter-back e.letter c.1.1.0 in
    let parent : e.parent ≡ cond (eqb i 0) Blank (Number (pos (count_of e.parent))) = parent-field i P e.parent root c.1.1.1.0 in
    let weight : e.weight ≡ cond (eqb (count_of e.weight) 0) Blank (Number (pos (count_of e.weight))) = weight-field (larger h) e.weight w.4 o in
    let utility : e.utility ≡ cond (is_leaf k) (Number (value_of e.utility)) Blank = utility-field (is_leaf k) e.utility w.5 m in
    let said : e ≡ entry_for (placed i k e (stepped i k (steps_of a))).line =
    λ j. record { number = number j; letter = letter j; parent = parent j; weight = weight j; utility = utility j } in
    record {
      entry = said ∙ ap (λ (x : Placed). entry_for x.line) r.1;
      written = record {
        long = long;
        number = w.2;
        fifth = eqb-true (get_or s 4 0) 32 (not-false (eqb (get_or s 4 0) 32) w.6);
        parent = w.3;
        weight = w.4;
        utility = w.5;
        last = eqb-true (get_or s 24 0) 10 (not-false (eqb (get_or s 24 0) 10) w.1);
      };
      short = subst (λ (x : Placed). Short x.line) r.1 (record {
        node = small s 0 4 (pos i) number;
        parent = count_small s 6 5 (lit< tt);
        weight = count_small s 11 5 (lit< tt);
        utility = subst (λ (x : Placed). nat_abs x.line.utility < 10 ^ 7) (sym r.1) (utility-short h (is_leaf p.line.kind) p.line.utility ranged R.utility);
      });
    }

-- ---- an accepted header

pub record HeadSaid (n : ℕ) (s : List ℕ) (h : Head) : Type 0 where
  pub heading : heading_of s ≡ heading_for h n
  pub written : HeadWritten s

pub header-said : (n : ℕ) (s : List ℕ) (h : Head) → length s ≡ 25 → header n s ≡ fine h → HeadSaid n s h
header-said n s h long eq =
    let g : Heading = heading_of s in
    let r = unless-fine (header_checks n (get_or s 24 0) g) (head_of g) h eq in
    let i = nor10 (not (eqb (get_or s 24 0) 10)) (is_ill g.count) (is_ill g.second) (is_ill g.total) (is_ill g.lowest) (is_ill g.highest) (is_blank g.count) (is_blank g.total) (is_blank g.lowest) (is_blank g.highest) r.0.0 in
    let w = nor9 false false false false (bad_second g) (outside (pos 1) (pos 64) g.total) (outside (negsuc 999999) (pos 1000000) g.lowest) (outside (negsuc 999999) (pos 1000000) g.highest) (lt_z (value_of g.highest) (value_of g.lowest)) r.0.1.0 in
    let count : g.count ≡ Number (pos n) = number-field n g.count (not-false (has_number n g.count) r.0.1.1.0) in
    let o = or_left (outside (pos 1) (pos 64) g.second) (has_number (count_of g.total) g.second) w.4 in
    let second : g.second ≡ cond (eqb (count_of g.second) 0) Blank (Number (pos (count_of g.second))) = weight-field 64 g.second i.2 o in
    let total : g.total ≡ Number (pos (count_of g.total)) = natural-field 64 g.total i.3 i.7 w.5 in
    let lowest : g.lowest ≡ Number (value_of g.lowest) = filled-field g.lowest i.4 i.8 in
    let highest : g.highest ≡ Number (value_of g.highest) = filled-field g.highest i.5 i.9 in
    let said : g ≡ heading_for (head_of g) n = λ j. record { count = count j; second = second j; total = total j; lowest = lowest j; highest = highest j } in
    record {
      heading = said ∙ ap (λ (x : Head). heading_for x n) r.1;
      written = record {
        long = long;
        count = i.1;
        second = i.2;
        total = i.3;
        lowest = i.4;
        highest = i.5;
        last = eqb-true (get_or s 24 0) 10 (not-false (eqb (get_or s 24 0) 10) i.0);
      };
    }
