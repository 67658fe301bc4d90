-- What two texts of one table have in common: all but the padding of their numbers. Document 02, Item 9.
use Prim.Native.Nat.{ℕ, zero, suc, ◌+◌, ◌*◌, ◌≤◌}
use mathlib.Core.Path.{◌≡◌, refl, sym, ap, subst, ◌∙◌}
use mathlib.Core.Bool.{Bool, true, false}
use mathlib.Core.List.{List, [], ◌∷◌}
use native.Mathlib.Omega.{arith}
use borrow.Author.Tests.{eqb-false}
use lib.Dec.{eqb, eqb-suc-zero}
use lib.ListN.{length, take, drop, length-drop}
use lib.Seq.{length-take-le}
use lib.IntN.{pos}
use Rattle.field.specs.Field.{field_of}
use Rattle.field.specs.Padding.{Pads, kept, padding}
use Rattle.field.specs.declared.Field.{Field}
use Rattle.field.specs.declared.Field.TheVariants.{Blank, Ill, Number}
use Rattle.field.proofs.Inverse.{number-pads, blank-text}
use Rattle.line.specs.declared.Head.{Head}
use Rattle.line.specs.declared.Heading.{Heading}
use Rattle.line.specs.declared.Line.{Line}
use Rattle.line.specs.declared.Entry.{Entry}
use Rattle.line.specs.Refusal.{fine}
use Rattle.line.specs.Line.{is_ill, second_of, total_of, heading_of, Placed, entry_of, node_line}
use Rattle.line.specs.Inside.{Ranged}
use Rattle.line.proofs.Signs.{true-ne-false}
use Rattle.line.proofs.Columns.{second-number}
use Rattle.table.specs.Table.{Table, node_lines, count, read_text}
use Rattle.table.specs.Padding.{columns_of, SameField, SameTotals, one-total, two-totals, SameHeader, SameLine, SameLines, SameText}
use Rattle.table.proofs.Grown.{lines-first}
use Rattle.table.proofs.Known.{read_length}
use Rattle.table.proofs.Accepted.{checked, accepted-ranged, accepted-size}
use Rattle.line.specs.declared.Step.{Step}
use Rattle.writing.proofs.Said.{heading_for, is_none, Said, line-said, HeadSaid, header-said}

-- ---- node lines one after another

module _ (h : Head) (ranged : Ranged h) where
  -- the first line of some, below the steps P, with what it says, and the lines after it
  pub record First (n i : ℕ) (P : List Step) (s : List ℕ) (ls : List Line) : Type 0 where
    pub placed : Placed
    pub line : node_line h i P (take 25 s) ≡ fine placed
    pub said : Said (take 25 s) placed.line
    pub rest : List Line
    pub lines : ls ≡ placed.line ∷ rest
    pub root : eqb (suc i) 0 ≡ is_none placed.steps
    pub long : length (drop 25 s) ≡ 25 * n
    pub more : node_lines h n (suc i) placed.steps (drop 25 s) ≡ fine rest

  pub first : (n i : ℕ) (P : List Step) (s : List ℕ) (ls : List Line) → length s ≡ 25 * suc n → eqb i 0 ≡ is_none P
      → node_lines h (suc n) i P s ≡ fine ls → First n i P s ls
  first n i P s ls long root e =
      let F = lines-first h n i P s ls e in
      record {
        placed = F.placed;
        line = F.line;
        said = line-said h i P (take 25 s) F.placed ranged (length-take-le 25 s (omega arith)) root F.line;
        rest = F.rest;
        lines = F.lines;
        root = eqb-suc-zero i ∙ ap is_none (sym F.read.steps);
        long = omega (arith, length-drop 25 s);
        more = F.more;
      }

-- ---- two texts of one table

-- a field that both have
field-pads : (s u : List ℕ) (from width : ℕ) → width ≤ 15 → from + width ≤ length s → from + width ≤ length u → is_ill (field_of s from width) ≡ false
    → field_of s from width ≡ field_of u from width → SameField s u from width
field-pads s u from width few a b ok same = go (field_of s from width) refl ok
  where
    go : (f : Field) → field_of s from width ≡ f → is_ill f ≡ false → SameField s u from width
    go Blank e ok = kept (blank-text s from width a e ∙ sym (blank-text u from width b (sym same ∙ e)))
    go Ill e ok = absurd (true-ne-false ok)
    go (Number z) e ok = padding z (number-pads s from width z few e) (number-pads u from width z few (sym same ∙ e))

said_same : (s u : List ℕ) (l : Line) → Said s l → Said u l → SameLine s u
said_same s u l S U =
    let W = S.written in
    let long = W.long in
    let also = U.written.long in
    let e : entry_of s ≡ entry_of u = S.entry ∙ sym U.entry in
    record {
      number = field-pads s u 0 4 (omega arith) (omega arith) (omega arith) W.number (ap (λ (x : Entry). x.number) e);
      fifth = W.fifth ∙ sym U.written.fifth;
      letter = ap (λ (x : Entry). x.letter) e;
      parent = field-pads s u 6 5 (omega arith) (omega arith) (omega arith) W.parent (ap (λ (x : Entry). x.parent) e);
      weight = field-pads s u 11 5 (omega arith) (omega arith) (omega arith) W.weight (ap (λ (x : Entry). x.weight) e);
      utility = field-pads s u 16 8 (omega arith) (omega arith) (omega arith) W.utility (ap (λ (x : Entry). x.utility) e);
      last = W.last ∙ sym U.written.last;
    }

lines_same : (h : Head) → Ranged h → (n i : ℕ) (P Q : List Step) (s u : List ℕ) (ls : List Line) → length s ≡ 25 * n → length u ≡ 25 * n
    → eqb i 0 ≡ is_none P → eqb i 0 ≡ is_none Q → node_lines h n i P s ≡ fine ls → node_lines h n i Q u ≡ fine ls → SameLines n s u
unfolding SameLines
lines_same h r zero i P Q s u ls a b p q e f = tt
lines_same h r (suc n) i P Q s u ls a b p q e f =
    let F = first h r n i P s ls a p e in
    let G = first h r n i Q u ls b q f in
    let same : F.placed.line ∷ F.rest ≡ G.placed.line ∷ G.rest = sym F.lines ∙ G.lines in
    let line : F.placed.line ≡ G.placed.line = cc in
    let rest : F.rest ≡ G.rest = cc in (
      said_same (take 25 s) (take 25 u) F.placed.line F.said (subst (Said (take 25 u)) (sym line) G.said),
      lines_same h r n (suc i) F.placed.steps G.placed.steps (drop 25 s) (drop 25 u) F.rest F.long G.long F.root G.root F.more
          (G.more ∙ ap fine (sym rest)),
    )

-- ---- two headers

-- the totals in the columns of a header: one, or two
module _ (h : Head) (n : ℕ) (r : Ranged h) where
  one-total-in : (s : List ℕ) → heading_of s ≡ heading_for h n → eqb h.second 0 ≡ true → Pads (pos h.total) (columns_of s 4 4)
  one-total-in s e z =
      let second : second_of (field_of s 4 2) ≡ Blank = ap (λ (g : Heading). g.second) e ∙ rw z refl in
      number-pads s 4 4 (pos h.total) (omega arith) (ap (total_of s) (sym second) ∙ ap (λ (g : Heading). g.total) e)

  two-totals-in : (s : List ℕ) → heading_of s ≡ heading_for h n → eqb h.second 0 ≡ false → Pads (pos h.second) (columns_of s 4 2) × Pads (pos h.total) (columns_of s 6 2)
  two-totals-in s e z =
      let second : second_of (field_of s 4 2) ≡ Number (pos h.second) = ap (λ (g : Heading). g.second) e ∙ rw z refl in (
        number-pads s 4 2 (pos h.second) (omega arith) (second-number (field_of s 4 2) h.second second),
        number-pads s 6 2 (pos h.total) (omega arith) (ap (total_of s) (sym second) ∙ ap (λ (g : Heading). g.total) e),
      )

  totals-same : (s u : List ℕ) → heading_of s ≡ heading_for h n → heading_of u ≡ heading_for h n → SameTotals s u
  totals-same s u e f = go (eqb h.second 0) refl
    where
      go : (b : Bool) → eqb h.second 0 ≡ b → SameTotals s u
      go true z = one-total h.total (omega (arith, r.total)) (one-total-in s e z) (one-total-in u f z)
      go false z =
          let some : h.second ≡ 0 → ⊥ = eqb-false h.second 0 z in
          let x = two-totals-in s e z in
          let y = two-totals-in u f z in
          two-totals h.second h.total (omega arith) x.0 y.0 x.1 y.1

  header-same : (s u : List ℕ) → HeadSaid n s h → HeadSaid n u h → SameHeader s u
  header-same s u S U =
      let W = S.written in
      let long = W.long in
      let also = U.written.long in
      let e : heading_of s ≡ heading_of u = S.heading ∙ sym U.heading in
      record {
        count = field-pads s u 0 4 (omega arith) (omega arith) (omega arith) W.count (ap (λ (g : Heading). g.count) e);
        totals = totals-same s u S.heading U.heading;
        lowest = field-pads s u 8 8 (omega arith) (omega arith) (omega arith) W.lowest (ap (λ (g : Heading). g.lowest) e);
        highest = field-pads s u 16 8 (omega arith) (omega arith) (omega arith) W.highest (ap (λ (g : Heading). g.highest) e);
        last = W.last ∙ sym U.written.last;
      }

-- ---- the texts

module _ (s : List ℕ) (t : Table) (h : read_text s ≡ fine t) where
  pub counted : length t.lines ≡ count s
  counted = read_length t (count s) (drop 25 s) (checked s t h).lines

  text-long : length s ≡ 25 * count s + 25
  text-long = let n : ℕ = count s in omega (arith, (accepted-size s t h).2, counted)

  heading : HeadSaid (count s) (take 25 s) t.head
  heading = header-said (count s) (take 25 s) t.head (length-take-le 25 s (omega (arith, text-long))) (checked s t h).head

-- what is accepted as one table differs in padding alone
pub accepted-same : (s u : List ℕ) (t : Table) → read_text s ≡ fine t → read_text u ≡ fine t → SameText s u
accepted-same s u t e f =
    let r = accepted-ranged s t e in
    let c : count u ≡ count s = sym (counted u t f) ∙ counted s t e in
    let a = text-long s t e in
    let b = text-long u t f in
    record {
      long = omega arith;
      head = header-same t.head (count s) r (take 25 s) (take 25 u) (heading s t e) (subst (λ (n : ℕ). HeadSaid n (take 25 u) t.head) c (heading u t f));
      lines = lines_same t.head r (count s) 0 [] [] (drop 25 s) (drop 25 u) t.lines (omega (arith, length-drop 25 s)) (omega (arith, length-drop 25 u)) refl refl
          (checked s t e).lines (subst (λ (n : ℕ). node_lines t.head n 0 [] (drop 25 u) ≡ fine t.lines) c (checked u t f).lines);
    }
