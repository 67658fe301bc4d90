-- A table is refused with a number up to 10 or with 18, not with 1 where the length is good, and with a line of the table; 18 only for what it is for.
use Prim.Native.Nat.{ℕ, zero, suc, ◌+◌, ◌≤◌, ◌<◌}
use mathlib.Core.Path.{◌≡◌, refl, sym, ap, subst, ◌∙◌}
use mathlib.Core.Bool.{Bool, true, false, cond}
use mathlib.Core.List.{List, [], ◌∷◌, ◌++◌}
use native.Mathlib.Omega.{arith}
use borrow.Author.Tests.{ltb-true, lt-ltb}
use lib.Dec.{ltb}
use lib.ListN.{length, take, drop, get_or}
use Rattle.numbers.proofs.Powers.{power_small}
use Rattle.line.specs.declared.Head.{Head}
use Rattle.line.specs.declared.Line.{Line}
use Rattle.line.specs.declared.Refusal.{Refusal}
use Rattle.line.specs.declared.Refusal.TheVariants.{Length, IllWritten, OutOfRange, Misnumbered, UnknownKind, WrongParent, Misfilled, Childless, WrongSum, TooDeep, TooManyGrains}
use Rattle.line.specs.Refusal.{Verdict, refused, fine, Check, unless, unless_at, next, number_of, line_of}
use Rattle.line.specs.declared.Step.{Step}
use Rattle.line.specs.Line.{Placed, ancestors, stepped, steps_of, placed, kind_said, entry_of, heading_of, head_of, totals, header, header_checks, line_checks, node_line}
use Rattle.line.proofs.Fine.{unless_at-fine, header-ranged}
use Rattle.table.specs.Tree.{Kind, Forest, end, leaf, inner, nodes_where, childless, unbalanced}
use Rattle.table.specs.Table.{Table, prefix, node_lines, tree, grain, grain_checks, complete, bad_length, count, lines_of, read_text, greatest}
use Rattle.table.specs.Inside.{deepest}
use Rattle.table.specs.Accepted.{Excessive}
use Rattle.table.proofs.Runs.{size, Numbered}
use Rattle.table.proofs.Top.{good_length, read_length, read-header}
use Rattle.table.proofs.Totals.{root-deepest, grain-one}
use Rattle.table.proofs.Accepted.{balanced}
use Rattle.table.proofs.Known.{read-numbered, read-size, read-few, read-flat}

-- ---- checks

-- what a refusal, if there is one, is like
abbrev pub Upto : (Refusal → Type 0) → {A : Type 0} → Verdict A → Type 0
Upto P (refused r) = P r
Upto P (fine a) = Unit {0}

abbrev pub Gives : (Refusal → Type 0) → List Check → Type 0
Gives P [] = Unit {0}
Gives P (c ∷ cs) = P c.gives × Gives P cs

module _ {A : Type 0} (P : Refusal → Type 0) where
  pub unless-upto : (cs : List Check) (a : A) → Gives P cs → Upto P (unless cs a)
  unfolding unless
  unless-upto [] a h = tt
  unless-upto (c ∷ cs) a h = go (unless-upto cs a h.1) c.holds
    where
      go : Upto P (unless cs a) → (b : Bool) → Upto P (cond b (refused c.gives) (unless cs a))
      go ih true = h.0
      go ih false = ih

pub next-upto : {A B : Type 0} (P : Refusal → Type 0) (v : Verdict A) (f : A → Verdict B) → Upto P v → ((a : A) → v ≡ fine a → Upto P (f a)) → Upto P (next v f)
next-upto P (refused r) f h g = h
next-upto P (fine a) f h g = g a refl

-- a refusal of a table at line m or before, another than 1: 2 to 10, or 18
abbrev pub OfTable : ℕ → Refusal → Type 0
OfTable m r = (2 ≤ number_of r) × (10 < number_of r → number_of r ≡ 18) × (line_of r ≤ m)

prefix-upto : (P : Refusal → Type 0) (done : List Line) (v : Verdict (List Line)) → Upto P v → Upto P (prefix done v)
prefix-upto P done (refused r) h = h
prefix-upto P done (fine ls) h = tt

-- P of every refusal of a table that has a line, up to line m, and of those of the header
abbrev pub Lined : (Refusal → Type 0) → ℕ → Type 0
Lined P m = (r : Refusal) → 2 ≤ number_of r → number_of r ≤ 10 → line_of r ≤ m → P r

header-upto : (P : Refusal → Type 0) (m : ℕ) → Lined P m → (n : ℕ) (s : List ℕ) → Upto P (header n s)
header-upto P m o n s =
    unless-upto P (header_checks n (get_or s 24 0) (heading_of s)) (head_of (heading_of s))
    (o (IllWritten 0) (omega arith) (omega arith) (omega arith), (o (OutOfRange 0) (omega arith) (omega arith) (omega arith), (o (Misnumbered 0) (omega arith) (omega arith) (omega arith), tt)))

module _ (P : Refusal → Type 0) (h : Head) (m : ℕ) (of-line : Lined P m) where
  lines-upto : (n i : ℕ) (Q : List Step) (s : List ℕ) → i + n ≤ m → Upto P (node_lines h n i Q s)
  unfolding node_lines
  lines-upto zero i Q s l = tt
  lines-upto (suc n) i Q s l =
      let e = entry_of (take 25 s) in
      let a = ancestors e.parent Q in
      let k = kind_said e in
      let here : i + 1 ≤ m = omega arith in
      let o : (r : Refusal) → 2 ≤ number_of r → number_of r ≤ 10 → line_of r ≡ i + 1 → P r = λ r a b c. of-line r a b (omega arith) in
      next-upto P (node_line h i Q (take 25 s)) (λ (p : Placed). prefix (p.line ∷ []) (node_lines h n (suc i) p.steps (drop 25 s)))
      (unless-upto P (line_checks h i e (get_or (take 25 s) 4 0) (get_or (take 25 s) 24 0) a) (placed i k e (stepped i k (steps_of a))) (
        o (IllWritten (i + 1)) (omega arith) (omega arith) refl,
        (
          o (Misnumbered (i + 1)) (omega arith) (omega arith) refl,
          (
            o (UnknownKind (i + 1)) (omega arith) (omega arith) refl,
            (
              o (WrongParent (i + 1)) (omega arith) (omega arith) refl,
              (
                o (TooDeep (i + 1)) (omega arith) (omega arith) refl,
                (
                  o (Misfilled (i + 1)) (omega arith) (omega arith) refl,
                  (o (OutOfRange (i + 1)) (omega arith) (omega arith) refl, tt),
                ),
              ),
            ),
          ),
        ),
      ))
      (λ p q. prefix-upto P (p.line ∷ []) (node_lines h n (suc i) p.steps (drop 25 s)) (lines-upto n (suc i) p.steps (drop 25 s) (omega arith)))

-- ---- nodes

-- every entry is below m
abbrev pub Below : ℕ → List ℕ → Type 0
Below m [] = Unit {0}
Below m (x ∷ xs) = (x < m) × Below m xs

pub below-append : (m : ℕ) (xs ys : List ℕ) → Below m xs → Below m ys → Below m (xs ++ ys)
below-append m [] ys p q = q
below-append m (x ∷ xs) ys p q = (p.0, below-append m xs ys p.1 q)

below_one : (m n : ℕ) (b : Bool) → n < m → Below m (cond b (n ∷ []) [])
below_one m n true h = (h, tt)
below_one m n false h = tt

where_below : {A : Type 0} (bad : Kind → Forest A → Bool) (m i : ℕ) (T : Forest A) → Numbered i T → i + size T ≤ m → Below m (nodes_where bad T)
unfolding nodes_where
where_below bad m i end N l = tt
where_below bad m i (leaf n w v rest) N l = where_below bad m (suc i) rest N.1 (omega arith)
where_below bad m i (inner n w k under rest) N l =
    below-append m (cond (bad k under) (n ∷ []) []) (nodes_where bad under ++ nodes_where bad rest) (below_one m n (bad k under) (omega (arith, N.0)))
    (below-append m (nodes_where bad under) (nodes_where bad rest) (where_below bad m (suc i) under N.1 (omega arith)) (where_below bad m (suc i + size under) rest N.2 (omega arith)))

unless-at : {A : Type 0} (P : Refusal → Type 0) (m : ℕ) (gives : ℕ → Refusal) (xs : List ℕ) (a : A) → ((x : ℕ) → x < m → P (gives x)) → Below m xs → Upto P (unless_at gives xs a)
unfolding unless_at
unless-at P m gives [] a g b = tt
unless-at P m gives (x ∷ xs) a g b = g x b.0

-- 8, 9 and 18: what is known where the last is given
module _ (P : Refusal → Type 0) (m : ℕ) (t : Table) (of-line : Lined P m)
    (many : childless (tree t) ≡ [] → unbalanced (totals t.head) (tree t) ≡ [] → ltb 16777216 (grain t) ≡ true → P TooManyGrains) where
  grains-upto : childless (tree t) ≡ [] → unbalanced (totals t.head) (tree t) ≡ [] → Upto P (unless (grain_checks t) t)
  unfolding unless
  grains-upto c u = go (ltb 16777216 (grain t)) refl
    where
      go : (b : Bool) → ltb 16777216 (grain t) ≡ b → Upto P (cond b (refused TooManyGrains) (fine t))
      go true e = many c u e
      go false e = tt

  sums-upto : childless (tree t) ≡ [] → Numbered 0 (tree t) → size (tree t) ≤ m
      → Upto P (next (unless_at (λ (n : ℕ). WrongSum (n + 1)) (unbalanced (totals t.head) (tree t)) t) (λ (t : Table). unless (grain_checks t) t))
  sums-upto c N l =
      next-upto P (unless_at (λ (n : ℕ). WrongSum (n + 1)) (unbalanced (totals t.head) (tree t)) t) (λ (t : Table). unless (grain_checks t) t)
      (unless-at P m (λ (n : ℕ). WrongSum (n + 1)) (unbalanced (totals t.head) (tree t)) t (λ n l. of-line (WrongSum (n + 1)) (omega arith) (omega arith) (omega arith)) (where_below _ m 0 (tree t) N (omega arith)))
      (λ y e.
      let (u, z) = unless_at-fine (λ (n : ℕ). WrongSum (n + 1)) (unbalanced (totals t.head) (tree t)) t y e in
      subst (λ (y : Table). Upto P (unless (grain_checks y) y)) z (grains-upto c u))

  complete-upto : Numbered 0 (tree t) → size (tree t) ≤ m → Upto P (complete t)
  unfolding complete
  complete-upto N l =
      next-upto P (unless_at (λ (n : ℕ). Childless (n + 1)) (childless (tree t)) t)
      (λ (t : Table). next (unless_at (λ (n : ℕ). WrongSum (n + 1)) (unbalanced (totals t.head) (tree t)) t) (λ (t : Table). unless (grain_checks t) t))
      (unless-at P m (λ (n : ℕ). Childless (n + 1)) (childless (tree t)) t (λ n l. of-line (Childless (n + 1)) (omega arith) (omega arith) (omega arith)) (where_below _ m 0 (tree t) N (omega arith)))
      (λ y e.
      let (c, z) = unless_at-fine (λ (n : ℕ). Childless (n + 1)) (childless (tree t)) t y e in
      subst (λ (y : Table). Upto P (next (unless_at (λ (n : ℕ). WrongSum (n + 1)) (unbalanced (totals y.head) (tree y)) y) (λ (t : Table). unless (grain_checks t) t))) z
      (sums-upto c N l))

-- ---- the whole text

-- and of 18 where it is for the text: then P of whatever a text of a good length is refused with
pub text-upto : (P : Refusal → Type 0) (s : List ℕ) → bad_length (length s) ≡ false → Lined P 1024 → (Excessive s → P TooManyGrains) → Upto P (read_text s)
text-upto P s e of-line many =
    let g = good_length (length s) e in
    let n : ℕ = count s in
    rw (read-header s e)
    (next-upto P (header n (take 25 s)) (λ (h : Head). lines_of h n (drop 25 s)) (header-upto P 1024 of-line n (take 25 s))
    (λ h p.
    next-upto P (node_lines h n 0 [] (drop 25 s)) (λ (ls : List Line). complete (record { head = h; lines = ls }))
    (lines-upto P h 1024 of-line n 0 [] (drop 25 s) (omega (arith, g.2)))
    (λ ls q.
    let t : Table = record { head = h; lines = ls } in
    complete-upto P 1024 t of-line
    (λ c u x. many (record { table = t; long = e; head = p; lines = q; no-childless = c; no-unbalanced = u; grains = ltb-true 16777216 (grain t) x }))
    (read-numbered t n (drop 25 s) q g.1) (omega (arith, read-size t n (drop 25 s) q g.1, g.2)))))

read-upto : (s : List ℕ) → bad_length (length s) ≡ false → Upto (OfTable 1024) (read_text s)
read-upto s e = text-upto (OfTable 1024) s e (λ r a b c. (a, (λ l. absurd (omega arith)), c)) (λ x. (omega arith, (λ l. omega arith), omega arith))

pub refused-named : (s : List ℕ) (r : Refusal) → bad_length (length s) ≡ false → read_text s ≡ refused r → OfTable 1024 r
refused-named s r g e = subst (Upto (OfTable 1024)) e (read-upto s g)

-- whatever the length
abbrev AtMost : Refusal → Type 0
AtMost r = (10 < number_of r → number_of r ≡ 18) × (line_of r ≤ 1024)

at_most : (s : List ℕ) (r : Refusal) → read_text s ≡ refused r → AtMost r
at_most s r e = go (bad_length (length s)) refl
  where
    go : (b : Bool) → bad_length (length s) ≡ b → AtMost r
    go true l = subst (Upto AtMost) (sym (read_length s l) ∙ e) ((λ k. omega arith), omega arith)
    go false l = let n = refused-named s r l e in (n.1, n.2)

pub refused-number : (s : List ℕ) (r : Refusal) → read_text s ≡ refused r → 10 < number_of r → number_of r ≡ 18
refused-number s r e = (at_most s r e).0

pub refused-line : (s : List ℕ) (r : Refusal) → read_text s ≡ refused r → line_of r ≤ 1024
refused-line s r e = (at_most s r e).1

-- ---- 18

pub eighteen-needs : (s : List ℕ) → read_text s ≡ refused TooManyGrains → Excessive s
eighteen-needs s e = go (bad_length (length s)) refl
  where
    go : (b : Bool) → bad_length (length s) ≡ b → Excessive s
    go true l = let z : Length ≡ TooManyGrains = cc (sym (read_length s l) ∙ e) in let n : ◌≡◌ {A = ℕ} 1 18 = ap number_of z in absurd (omega arith)
    go false l =
        subst (Upto (λ (r : Refusal). r ≡ TooManyGrains → Excessive s)) e
        (text-upto (λ (r : Refusal). r ≡ TooManyGrains → Excessive s) s l (λ r a b c z. absurd (omega (arith, ap number_of z))) (λ x z. x)) refl

pub eighteen-given : (s : List ℕ) → Excessive s → read_text s ≡ refused TooManyGrains
unfolding read_text complete unless unless_at
eighteen-given s x = rw (x.long, x.head, x.lines, x.no-childless, x.no-unbalanced, lt-ltb 16777216 (grain x.table) x.grains)

-- it needs a second total
pub one-total-never : (s : List ℕ) (x : Excessive s) → x.table.head.second ≡ 0 → ⊥
one-total-never s x none =
    let t : Table = x.table in
    let g = good_length (length s) x.long in
    let d : deepest (tree t) ≡ greatest t.lines = sym (root-deepest (tree t)) ∙ ap greatest (read-flat t (count s) (drop 25 s) x.lines g.1) in
    let r = header-ranged (count s) (get_or (take 25 s) 24 0) (heading_of (take 25 s)) t.head x.head in
    let q = grain-one t.head (tree t) none (balanced (totals t.head) (tree t) x.no-unbalanced) in
    omega (arith, x.grains, q, power_small t.head.total (deepest (tree t)) r.total (omega (arith, d, read-few t (count s) (drop 25 s) x.lines)))
