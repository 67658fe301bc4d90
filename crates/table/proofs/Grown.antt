-- The node lines that were read are the lines of a tree.
use Prim.Native.Nat.{ℕ, zero, suc, ◌+◌, ◌≤◌, ◌<◌, max}
use mathlib.Core.Path.{◌≡◌, refl, sym, ap, ap₂, subst, ◌∙◌}
use mathlib.Core.Bool.{Bool, true, false, cond}
use mathlib.Core.List.{List, [], ◌∷◌, ◌++◌, append_assoc}
use native.Mathlib.Omega.{arith}
use native.Mathlib.Nat.{add-zero}
use lib.ListN.{length, get_or, take, drop}
use lib.Dec.{eqb}
use lib.IntN.{ℤ, pos}
use Rattle.line.specs.declared.Head.{Head}
use Rattle.line.specs.declared.Line.{Line}
use Rattle.line.specs.declared.Refusal.{Refusal}
use Rattle.line.specs.Refusal.{Verdict, refused, fine, next}
use Rattle.line.specs.declared.Kind.{Kind as LineKind}
use Rattle.line.specs.declared.Kind.TheVariants.{Leaf, Max, Min, Chance}
use Rattle.line.specs.declared.Step.{Step}
use Rattle.line.specs.Line.{larger, code, is_leaf, wrong, path, climb, ancestors, steps_of, chances_of, at_chance, stepped, Placed, entry_of, node_line, Within}
use Rattle.line.proofs.Signs.{true-ne-false}
use Rattle.line.proofs.Fine.{Falling, falling-more, Headed, climbed, Valued, Read, line_read}
use Rattle.table.specs.Tree.{Kind, MAX, MIN, CHANCE, Forest, end, leaf, inner, line_kind}
use Rattle.table.specs.Table.{prefix, node_lines, greatest}
use Rattle.table.specs.Accepted.{Proper, Rooted, flat, one}
use Rattle.table.proofs.Runs.{size, Numbered, code-inner, code-chance}

-- ---- verdicts

module _ {A : Type 0} where
  pub fine-refused : {B : Type 0} (r : Refusal) (a : A) → refused r ≡ fine a → B
  fine-refused r a e = let z : ◌≡◌ {A = ℕ} 0 1 = cc in absurd (omega arith)

module _ {A B : Type 0} where
  pub next-fine : (v : Verdict A) (f : A → Verdict B) (b : B) → next v f ≡ fine b → (a : A) × (v ≡ fine a) × (f a ≡ fine b)
  next-fine (refused r) f b e = fine-refused r b e
  next-fine (fine a) f b e = (a, refl, e)

pub prefix-fine : (done : List Line) (v : Verdict (List Line)) (ls : List Line) → prefix done v ≡ fine ls
    → (rest : List Line) × (v ≡ fine rest) × (ls ≡ done ++ rest)
prefix-fine done (refused r) ls e = fine-refused r ls e
prefix-fine done (fine rest) ls e = (rest, refl, cc)

path-wrong : {B : Type 0} (Q : List Step) → wrong ≡ path Q → B
path-wrong Q e = let z : ◌≡◌ {A = ℕ} 0 1 = cc in absurd (omega arith)

-- ---- the first of the lines

module _ (h : Head) where
  -- the first line, below the steps P, and the lines after it
  pub record First (n i : ℕ) (P : List Step) (s : List ℕ) (ls : List Line) : Type 0 where
    pub above : List Step
    pub placed : Placed
    pub line : node_line h i P (take 25 s) ≡ fine placed
    pub read : Read h i P above placed
    pub rest : List Line
    pub lines : ls ≡ placed.line ∷ rest
    pub more : node_lines h n (suc i) placed.steps (drop 25 s) ≡ fine rest

  pub lines-first : (n i : ℕ) (P : List Step) (s : List ℕ) (ls : List Line) → node_lines h (suc n) i P s ≡ fine ls → First n i P s ls
  unfolding node_lines
  lines-first n i P s ls e =
      let entry : List ℕ = take 25 s in
      let (p, f, g) = next-fine (node_line h i P entry) (λ (p : Placed). prefix (p.line ∷ []) (node_lines h n (suc i) p.steps (drop 25 s))) ls e in
      let (rest, more, lines) = prefix-fine (p.line ∷ []) (node_lines h n (suc i) p.steps (drop 25 s)) ls g in
      record {
        above = steps_of (ancestors (entry_of entry).parent P);
        placed = p;
        line = f;
        read = line_read h i (entry_of entry) (get_or entry 4 0) (get_or entry 24 0) P p f;
        rest = rest;
        lines = lines;
        more = more;
      }

  -- how many lines there are, and how many C on each path
  pub lines-counted : (n i : ℕ) (P : List Step) (s : List ℕ) (ls : List Line) → node_lines h n i P s ≡ fine ls
      → (length ls ≡ n) × (greatest ls ≤ 4)
  unfolding node_lines greatest
  lines-counted zero i P s ls e =
      let f : [] ≡ ls = cc in
      rw (← f) (refl, omega arith)
  lines-counted (suc n) i P s ls e =
      let F = lines-first n i P s ls e in
      let r = lines-counted n (suc i) F.placed.steps (drop 25 s) F.rest F.more in
      rw F.lines (ap suc r.0, omega (arith, F.read.chances, F.read.few, r.1))

-- ---- the nodes below each step of a path

-- a line's kind is that of a leaf or of an inner node
data Kinds (n : LineKind) : Type 0 where
  kind-leaf : n ≡ Leaf → Kinds n
  kind-inner : (k : Kind) → n ≡ line_kind k → Kinds n

kinds : (n : LineKind) → Kinds n
kinds Leaf = kind-leaf refl
kinds Max = kind-inner MAX refl
kinds Min = kind-inner MIN refl
kinds Chance = kind-inner CHANCE refl

-- the number of the last step, and whether it is a leaf
abbrev node_of : List Step → ℕ
node_of [] = 0
node_of (s ∷ P) = s.node

abbrev at_leaf : List Step → Bool
at_leaf [] = false
at_leaf (s ∷ P) = is_leaf s.kind

-- the nodes after the first
abbrev rest_of : Forest ℤ → Forest ℤ
rest_of end = end
rest_of (leaf n w v rest) = rest
rest_of (inner n w k under rest) = rest

line-is : (l : Line) (n : ℕ) (k : LineKind) (p w : ℕ) (z : ℤ) (c : ℕ)
    → l.node ≡ n → l.kind ≡ k → l.parent ≡ p → l.weight ≡ w → l.utility ≡ z → l.chances ≡ c
    → record { node = n; kind = k; parent = p; weight = w; utility = z; chances = c } ≡ l
line-is l n k p w z c a b d e f g = sym (λ j. record { node = a j; kind = b j; parent = d j; weight = e j; utility = f j; chances = g j })

module _ (h : Head) (K : ℕ) where
  -- the nodes T below the last step of the path P, numbered from i on; a leaf has none
  record Grown (P : List Step) (i : ℕ) (T : Forest ℤ) : Type 0 where
    numbered : Numbered i T
    proper : Proper (larger h) K (Within h) (length P) (chances_of P) (at_chance P) T
    barren : at_leaf P ≡ true → T ≡ end

  abbrev lines_at : List Step → Forest ℤ → List Line
  lines_at P T = flat (node_of P) (chances_of P) T

  grown-none : (P : List Step) (i : ℕ) → Grown P i end
  grown-none P i = record { numbered = tt; proper = tt; barren = λ e. refl }

  -- the line l with the nodes U under it and the nodes T after it
  record Topped (P : List Step) (i : ℕ) (l : Line) (U T : Forest ℤ) : Type 0 where
    top : Forest ℤ
    grown : Grown P i top
    lines : lines_at P top ≡ l ∷ (lines_at (stepped i l.kind P) U ++ lines_at P T)
    large : size top ≡ suc (size U + size T)
    last : rest_of top ≡ T

  topped : (i : ℕ) (R P : List Step) (p : Placed) (U T : Forest ℤ) → Read h i R P p
      → p.line.parent ≡ node_of P → at_leaf P ≡ false → p.line.chances ≤ K
      → Grown (stepped i p.line.kind P) (suc i) U → Grown P (suc i + size U) T → Topped P i p.line U T
  unfolding flat
  topped i R P p U T r parent open_step few g f = go (kinds l.kind)
    where
      l : Line
      l = p.line

      below : (T : Forest ℤ) → at_leaf P ≡ true → T ≡ end
      below T e = absurd (true-ne-false (sym e ∙ open_step))

      short : length P < 64
      short = rw (ap length r.steps) at r.short

      chances : l.chances ≡ chances_of P + cond (eqb (code l.kind) 3) 1 0
      chances = r.chances ∙ ap chances_of r.steps

      go : Kinds l.kind → Topped P i l U T
      go (kind-leaf e) =
          let b : U ≡ end = g.barren (rw e) in
          let u : size U ≡ 0 = ap size b in
          let c : l.chances ≡ chances_of P = chances ∙ rw (e, add-zero) in
          let top : Forest ℤ = leaf i l.weight l.utility T in
          record {
            top = top;
            grown = record {
              numbered = (refl, subst (λ (n : ℕ). Numbered n T) (omega arith) f.numbered);
              proper = (r.weight, subst (λ (k : LineKind). Valued (is_leaf k) h l.utility) e r.utility, short, omega (arith, c, few), f.proper);
              barren = below top;
            };
            lines = ap₂ ◌∷◌ (line-is l i Leaf (node_of P) l.weight l.utility (chances_of P) r.node e parent refl refl c) (rw b);
            large = omega arith;
            last = refl;
          }
      go (kind-inner k e) =
          let c : l.chances ≡ chances_of P + one k = chances ∙ rw (e, code-chance) in
          let z : l.utility ≡ pos 0 = rw (e, code-inner k) at r.utility in
          let top : Forest ℤ = inner i l.weight k U T in
          record {
            top = top;
            grown = record {
              numbered = (refl, g.numbered, f.numbered);
              proper = (r.weight, short, omega (arith, c, few), rw (e, code-chance) at g.proper, f.proper);
              barren = below top;
            };
            lines = ap₂ ◌∷◌ (line-is l i (line_kind k) (node_of P) l.weight (pos 0) (chances_of P + one k) r.node e parent refl z c) (rw (e, code-chance));
            large = refl;
            last = refl;
          }

  -- the lines ls, from node i on, are nodes below the last step of the path, then nodes below the step before it, and so on to the root
  abbrev Stacked : ℕ → List Step → List Line → Type 0
  Stacked i [] ls = ls ≡ []
  Stacked i (s ∷ P) ls = (T : Forest ℤ) × Grown (s ∷ P) i T × (rest : List Line) × (ls ≡ lines_at (s ∷ P) T ++ rest) × Stacked (i + size T) P rest

  stacked-none : (P : List Step) (i : ℕ) → Stacked i P []
  unfolding flat
  stacked-none [] i = refl
  stacked-none (s ∷ P) i = (end, grown-none (s ∷ P) i, [], refl, stacked-none P (i + 0))

  -- nodes below a step further up stand behind none below the steps passed
  stacked-climb : (p i : ℕ) (R Q : List Step) (ls : List Line) → climb p R ≡ path Q → Stacked i Q ls → Stacked i R ls
  unfolding climb flat
  stacked-climb p i [] Q ls e S = path-wrong Q e
  stacked-climb p i (s ∷ R) Q ls e S = go (stacked-climb p i R Q ls) (eqb s.node p) (is_leaf s.kind) e
    where
      go : (climb p R ≡ path Q → Stacked i Q ls → Stacked i R ls) → (t u : Bool)
          → cond t (cond u wrong (path (s ∷ R))) (climb p R) ≡ path Q → Stacked i (s ∷ R) ls
      go ih true true e = path-wrong Q e
      go ih true false e = let r : Q ≡ s ∷ R = cc in subst (λ (X : List Step). Stacked i X ls) r S
      go ih false u e = (end, grown-none (s ∷ R) i, ls, refl, rw add-zero (ih e S))

  stacked-line : (i : ℕ) (R Q : List Step) (p : Placed) (ls : List Line) → Read h i R Q p → Headed p.line.parent Q → p.line.chances ≤ K
      → Stacked (suc i) (stepped i p.line.kind Q) ls → Stacked i Q (p.line ∷ ls)
  stacked-line i R [] p ls r d few S = absurd d
  stacked-line i R (q ∷ Q) p ls r d few (U, g, rest, e, (T, f, rest', e', more)) =
      let t = topped i R (q ∷ Q) p U T r (sym d.0) d.1 few g f in (
        t.top,
        t.grown,
        rest',
        rw (t.lines, append_assoc) (ap (λ (x : List Line). p.line ∷ x) (e ∙ rw e')),
        subst (λ (n : ℕ). Stacked n Q rest') (omega (arith, t.large)) more,
      )

  stacked : (n i : ℕ) (s : Step) (R : List Step) (t : List ℕ) (ls : List Line) → Falling i (s ∷ R) → greatest ls ≤ K
      → node_lines h n i (s ∷ R) t ≡ fine ls → Stacked i (s ∷ R) ls
  unfolding node_lines greatest
  stacked zero i s R t ls f g e =
      let z : [] ≡ ls = cc in
      subst (Stacked i (s ∷ R)) z (stacked-none (s ∷ R) i)
  stacked (suc n) i s R t ls f g e =
      let F = lines-first h n i (s ∷ R) t ls e in
      let p = F.placed in
      let P = F.above in
      let C = climbed p.line.parent i (s ∷ R) P f F.read.climbs in
      let m : max p.line.chances (greatest F.rest) ≤ K = rw F.lines at g in
      let here : Step = record { node = i; kind = p.line.kind; chances = chances_of P + cond (eqb (code p.line.kind) 3) 1 0 } in
      let falls : Falling (suc i) (here ∷ P) = (omega arith, falling-more (suc p.line.parent) i P C.below C.falls) in
      let S = stacked n (suc i) here P (drop 25 t) F.rest falls (omega arith) (rw F.read.steps at F.more) in
      rw F.lines (stacked-climb p.line.parent i (s ∷ R) P (p.line ∷ F.rest) F.read.climbs
      (stacked-line i (s ∷ R) P p F.rest F.read C.headed (omega arith) S))

-- ---- the root

module _ (h : Head) where
  -- the tree of the lines ls
  pub record OneTree (ls : List Line) : Type 0 where
    pub tree : Forest ℤ
    pub lines : flat 0 0 tree ≡ ls
    pub numbered : Numbered 0 tree
    pub proper : Proper (larger h) (greatest ls) (Within h) 0 0 false tree
    pub rooted : Rooted tree

  rooted : (K : ℕ) (T : Forest ℤ) → Grown h K [] 0 T → 0 < size T → rest_of T ≡ end → Rooted T
  rooted K end g l e = absurd (omega arith)
  rooted K (leaf n w v rest) g l e = (g.numbered.0, g.proper.0, e)
  rooted K (inner n w k under rest) g l e = (g.numbered.0, g.proper.0, e)

  one-tree-of : (p : Placed) (ls : List Line) → Read h 0 [] [] p → p.line.chances ≤ greatest (p.line ∷ ls)
      → Stacked h (greatest (p.line ∷ ls)) 1 (stepped 0 p.line.kind []) ls → OneTree (p.line ∷ ls)
  unfolding flat
  one-tree-of p ls r few (U, g, rest, a, b) =
      let K : ℕ = greatest (p.line ∷ ls) in
      let t = topped h K 0 [] [] p U end r r.climbs.0 refl few g (grown-none h K [] (suc 0 + size U)) in
      record {
        tree = t.top;
        lines = t.lines ∙ ap (λ (x : List Line). p.line ∷ x) (sym (a ∙ rw b));
        numbered = t.grown.numbered;
        proper = t.grown.proper;
        rooted = rooted K t.top t.grown (omega (arith, t.large)) t.last;
      }

  pub one-tree : (n : ℕ) (t : List ℕ) (ls : List Line) → 0 < n → node_lines h n 0 [] t ≡ fine ls → OneTree ls
  unfolding greatest
  one-tree zero t ls l e = absurd (omega arith)
  one-tree (suc n) t ls l e =
      let F = lines-first h n 0 [] t ls e in
      let p = F.placed in
      let r : Read h 0 [] [] p = subst (λ (Q : List Step). Read h 0 [] Q p) F.read.climbs.1 F.read in
      let K : ℕ = greatest (p.line ∷ F.rest) in
      let here : Step = record { node = 0; kind = p.line.kind; chances = 0 + cond (eqb (code p.line.kind) 3) 1 0 } in
      let S = stacked h K n 1 here [] (drop 25 t) F.rest (omega arith, tt) (omega arith) (rw r.steps at F.more) in
      rw F.lines (one-tree-of p F.rest r (omega arith) S)
