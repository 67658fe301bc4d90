-- What is known of a header and of a node line that was not refused.
use Prim.Native.Nat.{ℕ, suc, ◌≤◌, ◌<◌}
use mathlib.Core.Path.{◌≡◌, refl, sym, ap, subst, ◌∙◌}
use mathlib.Core.Bool.{Bool, true, false, not, ◌||◌, cond, or-false}
use mathlib.Core.List.{List, [], ◌∷◌}
use native.Mathlib.Omega.{arith}
use native.Mathlib.Nat.{le_trans}
use borrow.Author.Tests.{eqb-true, eq-eqb, ltb-false, not-false}
use lib.ListN.{length}
use lib.Dec.{ltb, eqb}
use lib.IntN.{ℤ, pos, negsuc, nat_abs}
use lib.Signed.{mag, lt_z}
use Rattle.field.specs.declared.Field.{Field}
use Rattle.field.specs.declared.Field.TheVariants.{Blank, Ill, Number}
use Rattle.field.proofs.Bits.{mag-abs}
use Rattle.line.specs.declared.Head.{Head}
use Rattle.line.specs.declared.Kind.{Kind}
use Rattle.line.specs.declared.Heading.{Heading}
use Rattle.line.specs.declared.Entry.{Entry}
use Rattle.line.specs.declared.Refusal.{Refusal}
use Rattle.line.specs.Refusal.{refused, fine, Check, unless, unless_at}
use Rattle.line.specs.Line.{is_ill, is_blank, has_number, outside, value_of, to_nat, count_of, bad_second, head_of, totals, among, larger, header_checks, header_for, is_leaf, kind_said, Above, wrong, path, climb, ancestors, is_wrong, steps_of, chances_of, at_chance, stepped, Placed, placed, line_checks, place_of, Within}
use Rattle.line.specs.Inside.{Ranged, other, Weighs, Sized}
use Rattle.line.proofs.Signs.{true-ne-false}
use Rattle.line.specs.declared.Step.{Step}
use Rattle.line.proofs.Checks.{or_left, or_right}

-- no check of the list holds
abbrev pub Passed : List Check → Type 0
Passed [] = Unit {0}
Passed (c ∷ cs) = (c.holds ≡ false) × Passed cs

module _ {A : Type 0} where
  pub unless-fine : (cs : List Check) (a b : A) → unless cs a ≡ fine b → Passed cs × (a ≡ b)
  unfolding unless
  unless-fine [] a b e = (tt, cc)
  unless-fine (c ∷ cs) a b e = go (unless-fine cs a b) c.holds refl e
    where
      go : (unless cs a ≡ fine b → Passed cs × (a ≡ b)) → (t : Bool) → c.holds ≡ t → cond t (refused c.gives) (unless cs a) ≡ fine b → ((c.holds ≡ false) × Passed cs) × (a ≡ b)
      go ih true h e = let z : ◌≡◌ {A = ℕ} 0 1 = cc in absurd (omega arith)
      go ih false h e = let r = ih e in ((h, r.0), r.1)

  pub unless_at-fine : (gives : ℕ → Refusal) (ns : List ℕ) (a b : A) → unless_at gives ns a ≡ fine b → (ns ≡ []) × (a ≡ b)
  unfolding unless_at
  unless_at-fine gives [] a b e = (refl, cc)
  unless_at-fine gives (n ∷ ns) a b e = let z : ◌≡◌ {A = ℕ} 0 1 = cc in absurd (omega arith)

-- ---- numbers within bounds

-- a number that is not outside lo and hi
abbrev pub Inside : ℤ → ℤ → ℤ → Type 0
Inside lo hi z = (lt_z z lo ≡ false) × (lt_z hi z ≡ false)

pub inside-natural : (n : ℕ) (z : ℤ) → Inside (pos 1) (pos n) z → (0 < to_nat z) × (to_nat z ≤ n)
inside-natural n (pos m) h = (omega (arith, ltb-false m 1 h.0), ltb-false n m h.1)
inside-natural n (negsuc m) h = absurd (true-ne-false h.0)

pub inside-mag : (lo hi z : ℤ) (M : ℕ) → mag lo ≤ M → mag hi ≤ M → Inside lo hi z → mag z ≤ M
inside-mag (pos l) hi (negsuc n) M p q h = absurd (true-ne-false h.0)
inside-mag (negsuc l) hi (negsuc n) M p q h = le_trans (ltb-false l n h.0) p
inside-mag lo (pos u) (pos n) M p q h = le_trans (ltb-false u n h.1) q
inside-mag lo (negsuc u) (pos n) M p q h = absurd (true-ne-false h.1)

-- an end
inside-abs : (z : ℤ) → Inside (negsuc 999999) (pos 1000000) z → nat_abs z ≤ 1000000
inside-abs (pos n) h = ltb-false 1000000 n h.1
inside-abs (negsuc n) h = omega (arith, ltb-false 999999 n h.0)

inside-field : (lo hi : ℤ) (f : Field) → is_blank f ≡ false → is_ill f ≡ false → outside lo hi f ≡ false → Inside lo hi (value_of f)
inside-field lo hi Blank b i o = absurd (true-ne-false b)
inside-field lo hi Ill b i o = absurd (true-ne-false i)
inside-field lo hi (Number z) b i o = (or_left (lt_z z lo) (lt_z hi z) o, or_right (lt_z z lo) (lt_z hi z) o)

blank-value : (f : Field) → is_blank f ≡ true → value_of f ≡ pos 0
blank-value Blank b = refl
blank-value Ill b = absurd (true-ne-false (sym b))
blank-value (Number z) b = absurd (true-ne-false (sym b))

pub nor9 : (a b c d e f g h i : Bool) → (a || b || c || d || e || f || g || h || i) ≡ false
    → (a ≡ false) × (b ≡ false) × (c ≡ false) × (d ≡ false) × (e ≡ false) × (f ≡ false) × (g ≡ false) × (h ≡ false) × (i ≡ false)
nor9 true b c d e f g h i x = absurd (true-ne-false x)
nor9 false true c d e f g h i x = absurd (true-ne-false x)
nor9 false false true d e f g h i x = absurd (true-ne-false x)
nor9 false false false true e f g h i x = absurd (true-ne-false x)
nor9 false false false false true f g h i x = absurd (true-ne-false x)
nor9 false false false false false true g h i x = absurd (true-ne-false x)
nor9 false false false false false false true h i x = absurd (true-ne-false x)
nor9 false false false false false false false true i x = absurd (true-ne-false x)
nor9 false false false false false false false false true x = absurd (true-ne-false x)
nor9 false false false false false false false false false x = (refl, refl, refl, refl, refl, refl, refl, refl, refl)

pub nor10 : (a b c d e f g h i j : Bool) → (a || b || c || d || e || f || g || h || i || j) ≡ false
    → (a ≡ false) × (b ≡ false) × (c ≡ false) × (d ≡ false) × (e ≡ false) × (f ≡ false) × (g ≡ false) × (h ≡ false) × (i ≡ false) × (j ≡ false)
nor10 true b c d e f g h i j x = absurd (true-ne-false x)
nor10 false b c d e f g h i j x = let r = nor9 b c d e f g h i j x in (refl, r.0, r.1, r.2, r.3, r.4, r.5, r.6, r.7, r.8)

-- ---- the header

-- the second total's field, which may be blank
second-small : (f : Field) → is_ill f ≡ false → outside (pos 1) (pos 64) f ≡ false → count_of f ≤ 64
second-small Blank i o = omega arith
second-small Ill i o = absurd (true-ne-false i)
second-small (Number z) i o = (inside-natural 64 z (inside-field (pos 1) (pos 64) (Number z) refl refl o)).1

second-apart : (f : Field) (n : ℕ) → 0 < n → is_ill f ≡ false → has_number n f ≡ false → count_of f ≡ n → ⊥
second-apart Blank n p i d e = omega arith
second-apart Ill n p i d e = true-ne-false i
second-apart (Number (pos m)) n p i d e = true-ne-false (sym (eq-eqb m n e) ∙ d)
second-apart (Number (negsuc m)) n p i d e = omega arith

pub header-ranged : (n last : ℕ) (g : Heading) (h : Head) → header_for n last g ≡ fine h → Ranged h
header-ranged n last g h e =
    let r = unless-fine (header_checks n last g) (head_of g) h e in
    let i = nor10 (not (eqb last 10)) (is_ill g.count) (is_ill g.second) (is_ill g.total) (is_ill g.lowest) (is_ill g.highest) (is_blank g.count) (is_blank g.total) (is_blank g.lowest) (is_blank g.highest) r.0.0 in
    let b = bad_second g in
    let w = nor9 false false false false b (outside (pos 1) (pos 64) g.total) (outside (negsuc 999999) (pos 1000000) g.lowest) (outside (negsuc 999999) (pos 1000000) g.highest) (lt_z (value_of g.highest) (value_of g.lowest)) r.0.1.0 in
    let t = inside-natural 64 (value_of g.total) (inside-field (pos 1) (pos 64) g.total i.7 i.3 w.5) in
    let o = or_left (outside (pos 1) (pos 64) g.second) (has_number (count_of g.total) g.second) w.4 in
    let d = or_right (outside (pos 1) (pos 64) g.second) (has_number (count_of g.total) g.second) w.4 in
    subst Ranged r.1 (record {
      some = t.0;
      total = t.1;
      second = second-small g.second i.2 o;
      apart = second-apart g.second (count_of g.total) t.0 i.2 d;
      lowest = inside-abs (value_of g.lowest) (inside-field (negsuc 999999) (pos 1000000) g.lowest i.8 i.4 w.6);
      highest = inside-abs (value_of g.highest) (inside-field (negsuc 999999) (pos 1000000) g.highest i.9 i.5 w.7);
      order = w.8;
    })

-- ---- the totals

-- what holds of the first total, and of the second where there is one, holds of each
each-total : (P : ℕ → Type 0) (h : Head) → P h.total → ((h.second ≡ 0 → ⊥) → P h.second) → (n : ℕ) → among n (totals h) ≡ true → P n
unfolding among
each-total P h p q n m = go (eqb n h.total) refl (eqb h.second 0) refl m
  where
    go : (a : Bool) → eqb n h.total ≡ a → (b : Bool) → eqb h.second 0 ≡ b → (a || among n (cond b [] (h.second ∷ []))) ≡ true → P n
    go true x b y m = subst P (sym (eqb-true n h.total x)) p
    go false x true y m = absurd (true-ne-false (sym m))
    go false x false y m = last (eqb n h.second) refl m
      where
        last : (c : Bool) → eqb n h.second ≡ c → (c || false) ≡ true → P n
        last true z m = subst P (sym (eqb-true n h.second z)) (q (λ e. true-ne-false (sym (eq-eqb h.second 0 e) ∙ y)))
        last false z m = absurd (true-ne-false (sym m))

-- a sum is one of the totals where it is the first, or the other
pub among-either : (h : Head) (n : ℕ) → among n (totals h) ≡ (eqb n h.total || eqb n (other h))
unfolding among
among-either h n = go (eqb n h.total) refl (eqb h.second 0)
  where
    go : (a : Bool) → eqb n h.total ≡ a → (b : Bool) → (a || among n (cond b [] (h.second ∷ []))) ≡ (a || eqb n (cond b h.total h.second))
    go true x b = refl
    go false x true = sym x
    go false x false = or-false (eqb n h.second)

pub larger-small : (h : Head) → Ranged h → larger h ≤ 64
larger-small h r = omega (arith, r.total, r.second)

-- "T 1 to 64", whichever of the totals it is
pub total-ranged : (h : Head) → Ranged h → (n : ℕ) → among n (totals h) ≡ true → (0 < n) × (n ≤ 64)
total-ranged h r n m = each-total (λ (x : ℕ). (0 < x) × (x ≤ 64)) h (r.some, r.total) (λ e. (omega (arith, e), r.second)) n m

-- ---- a node line

-- the steps Q of the node p, found on the path P
abbrev pub Climbs : List Step → ℕ → List Step → Type 0
Climbs [] p Q = (p ≡ 0) × (Q ≡ [])
Climbs (s ∷ P) p Q = climb p (s ∷ P) ≡ path Q

wrong-path : (P : Type 0) (Q : List Step) → wrong ≡ path Q → P
wrong-path P Q e = let z : ◌≡◌ {A = ℕ} 0 1 = cc in absurd (omega arith)

ancestors-path : (f : Field) (P Q : List Step) → ancestors f P ≡ path Q → Climbs P (count_of f) Q
ancestors-path Blank [] Q e = (refl, cc)
ancestors-path Ill [] Q e = wrong-path _ Q e
ancestors-path (Number z) [] Q e = wrong-path _ Q e
ancestors-path Blank (s ∷ P) Q e = wrong-path _ Q e
ancestors-path Ill (s ∷ P) Q e = wrong-path _ Q e
ancestors-path (Number (pos n)) (s ∷ P) Q e = e
ancestors-path (Number (negsuc n)) (s ∷ P) Q e = wrong-path _ Q e

right-path : (a : Above) → is_wrong a ≡ false → a ≡ path (steps_of a)
right-path wrong e = absurd (true-ne-false e)
right-path (path P) e = refl

-- node numbers fall along a path, from below n
abbrev pub Falling : ℕ → List Step → Type 0
Falling n [] = Unit {0}
Falling n (s ∷ P) = (s.node < n) × Falling s.node P

pub falling-more : (a b : ℕ) (P : List Step) → a ≤ b → Falling a P → Falling b P
falling-more a b [] h f = tt
falling-more a b (s ∷ P) h f = (le_trans f.0 h, f.1)

-- the step of node p, which is no leaf, comes first
abbrev pub Headed : ℕ → List Step → Type 0
Headed p [] = ⊥
Headed p (s ∷ Q) = (s.node ≡ p) × (is_leaf s.kind ≡ false)

pub record Climbed (p n : ℕ) (Q : List Step) : Type 0 where
  pub below : p < n
  pub falls : Falling (suc p) Q
  pub headed : Headed p Q

pub climbed : (p n : ℕ) (P Q : List Step) → Falling n P → climb p P ≡ path Q → Climbed p n Q
unfolding climb
climbed p n [] Q f e = wrong-path _ Q e
climbed p n (s ∷ P) Q f e = go (climbed p s.node P Q f.1) (eqb s.node p) (is_leaf s.kind) refl refl e
  where
    go : (climb p P ≡ path Q → Climbed p s.node Q) → (t u : Bool) → eqb s.node p ≡ t → is_leaf s.kind ≡ u
        → cond t (cond u wrong (path (s ∷ P))) (climb p P) ≡ path Q → Climbed p n Q
    go ih true true x y e = wrong-path _ Q e
    go ih true false x y e =
        let q : s.node ≡ p = eqb-true s.node p x in
        let r : s ∷ P ≡ Q = cc in
        subst (Climbed p n) r (record { below = omega (arith, f.0); falls = (omega arith, f.1); headed = (q, y) })
    go ih false u x y e = let c = ih e in record { below = omega (arith, c.below, f.0); falls = c.falls; headed = c.headed }

weighs : (u : Bool) (T : ℕ) (f : Field) → is_ill f ≡ false → cond u (is_blank f) (not (is_blank f)) ≡ false → outside (pos 1) (pos T) f ≡ false → Weighs u T (count_of f)
weighs true T f i b o = inside-natural T (value_of f) (inside-field (pos 1) (pos T) f b i o)
weighs false T f i b o = ap to_nat (blank-value f (not-false (is_blank f) b))

pub weighs-small : (u : Bool) (T w : ℕ) → Weighs u T w → w ≤ T
weighs-small true T w h = h.1
weighs-small false T w h = omega arith

-- a utility stands on a leaf, where it is within the ends
abbrev pub Valued : Bool → Head → ℤ → Type 0
Valued true h z = Within h z
Valued false h z = z ≡ pos 0

valued : (u : Bool) (h : Head) (f : Field) → is_ill f ≡ false → cond u (is_blank f) (not (is_blank f)) ≡ false → outside h.lowest h.highest f ≡ false → Valued u h (value_of f)
valued true h f i b o = inside-field h.lowest h.highest f b i o
valued false h f i b o = blank-value f (not-false (is_blank f) b)

pub valued-small : (u : Bool) (h : Head) (z : ℤ) → Ranged h → Valued u h z → mag z ≤ 1000000
valued-small true h z r v =
    inside-mag h.lowest h.highest z 1000000 (le_trans (mag-abs h.lowest) r.lowest) (le_trans (mag-abs h.highest) r.highest) v
valued-small false h z r v = rw v (omega arith)

-- a node line that was read: node i below the steps P of the line before it, with the steps Q of its parent
pub record Read (h : Head) (i : ℕ) (P Q : List Step) (p : Placed) : Type 0 where
  pub climbs : Climbs P p.line.parent Q
  pub node : p.line.node ≡ i
  pub steps : p.steps ≡ stepped i p.line.kind Q
  pub chances : p.line.chances ≡ chances_of p.steps
  pub few : chances_of p.steps ≤ 4
  pub short : length p.steps ≤ 64
  pub weight : Weighs (at_chance Q) (larger h) p.line.weight
  pub utility : Valued (is_leaf p.line.kind) h p.line.utility

pub line_read : (h : Head) (i : ℕ) (e : Entry) (fifth last : ℕ) (P : List Step) (p : Placed) → place_of h i e fifth last P ≡ fine p
    → Read h i P (steps_of (ancestors e.parent P)) p
line_read h i e fifth last P p eq =
    let k : Kind = kind_said e in
    let a : Above = ancestors e.parent P in
    let Q : List Step = steps_of a in
    let r = unless-fine (line_checks h i e fifth last a) (placed i k e (stepped i k Q)) p eq in
    let c = r.0 in
    let w = nor9 false (not (eqb last 10)) (is_ill e.number) (is_ill e.parent) (is_ill e.weight) (is_ill e.utility) (not (eqb fifth 32)) (is_blank e.number) (eqb e.letter 32) c.0 in
    let far = c.1.1.1.1.0 in
    let m = c.1.1.1.1.1.0 in
    let o = c.1.1.1.1.1.1.0 in
    let mw = or_left (cond (at_chance Q) (is_blank e.weight) (not (is_blank e.weight))) (cond (is_leaf k) (is_blank e.utility) (not (is_blank e.utility))) m in
    let mu = or_right (cond (at_chance Q) (is_blank e.weight) (not (is_blank e.weight))) (cond (is_leaf k) (is_blank e.utility) (not (is_blank e.utility))) m in
    let ow = or_left (outside (pos 1) (pos (larger h)) e.weight) (outside h.lowest h.highest e.utility) o in
    let ou = or_right (outside (pos 1) (pos (larger h)) e.weight) (outside h.lowest h.highest e.utility) o in
    subst (Read h i P Q) r.1 (record {
      climbs = ancestors-path e.parent P Q (right-path a c.1.1.1.0);
      node = refl;
      steps = refl;
      chances = refl;
      few = ltb-false 4 (chances_of (stepped i k Q)) (or_right (ltb 64 (length (stepped i k Q))) (ltb 4 (chances_of (stepped i k Q))) far);
      short = ltb-false 64 (length (stepped i k Q)) (or_left (ltb 64 (length (stepped i k Q))) (ltb 4 (chances_of (stepped i k Q))) far);
      weight = weighs (at_chance Q) (larger h) e.weight w.4 mw ow;
      utility = valued (is_leaf k) h e.utility w.5 mu ou;
    })

-- its numbers fit the slices
climbs-small : (P Q : List Step) (p : ℕ) → Falling 1024 P → Climbs P p Q → p < 1024
climbs-small [] Q p f c = omega (arith, c.0)
climbs-small (s ∷ P) Q p f c = (climbed p 1024 (s ∷ P) Q f c).below

pub read-sized : (h : Head) (i : ℕ) (P Q : List Step) (p : Placed) → Ranged h → Falling 1024 P → Read h i P Q p → Sized p.line
read-sized h i P Q p r f R =
    record {
      parent = climbs-small P Q p.line.parent f R.climbs;
      weight = le_trans (weighs-small (at_chance Q) (larger h) p.line.weight R.weight) (larger-small h r);
      utility = valued-small (is_leaf p.line.kind) h p.line.utility r R.utility;
    }
