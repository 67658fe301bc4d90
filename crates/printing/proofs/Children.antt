-- The place of a root child, counted by the parents in the lines of an accepted table.
use Prim.Native.Nat.{ℕ, zero, suc, ◌+◌, ◌-◌, ◌*◌, ◌≤◌, ◌<◌}
use mathlib.Core.Path.{◌≡◌, refl, sym, ap, ap₂, subst, ◌∙◌}
use mathlib.Core.Bool.{Bool, true, false, cond}
use mathlib.Core.List.{List, [], ◌∷◌, ◌++◌, map, append-nil}
use mathlib.Core.Option.{some}
use native.Mathlib.Omega.{arith}
use borrow.Author.Tests.{eqb-true, eq-eqb}
use lib.Dec.{eqb, eqb-suc-zero}
use lib.ListN.{length, get_or, take, drop, length-map}
use Rattle.std.proofs.lemmas.List.{map-append}
use lib.Seq.{take-suc, take-append-add, drop-drop}
use lib.IntN.{ℤ, pos}
use Rattle.field.specs.Field.{field_of}
use Rattle.line.specs.declared.Head.{Head}
use Rattle.line.specs.declared.Line.{Line}
use Rattle.line.specs.Refusal.{fine}
use Rattle.line.specs.Line.{Above, Placed, ancestors, steps_of, stepped, entry_of, line_checks, placed, node_line, count_of, kind_said}
use Rattle.line.proofs.Fine.{unless-fine}
use Rattle.line.proofs.Signs.{true-ne-false}
use Rattle.table.specs.Tree.{Forest, end, leaf, inner}
use Rattle.table.specs.Table.{Table, prefix, node_lines, tree, count, read_text, grain}
use Rattle.table.specs.Accepted.{flat, one, Rooted}
use Rattle.table.specs.Root.{children, nodes, numbered}
use Rattle.table.proofs.Grown.{next-fine, prefix-fine}
use Rattle.table.proofs.Runs.{size, Numbered, flat-length}
use Rattle.table.proofs.Known.{read-numbered}
use Rattle.table.proofs.Accepted.{checked, accepted-size, accepted-flat, accepted-rooted}
use Rattle.search.specs.Search.{unlimited, node_of}
use Rattle.search.specs.Whole.{in_grains, searched}
use Rattle.search.proofs.Few.{EachNode}
use Rattle.search.proofs.Table.{play-child}
use Rattle.printing.specs.Program.{place}
use Rattle.line.specs.declared.Step.{Step}
use Rattle.printing.specs.Inside.{child_marks}

abbrev parent_of : Line → ℕ
parent_of l = l.parent

-- 1 for the parent 0
abbrev mark : ℕ → ℕ
mark p = cond (eqb p 0) 1 0

-- ---- the parents that the lines say

placed-parent : (h : Head) (i : ℕ) (P : List Step) (s : List ℕ) (p : Placed) → node_line h i P s ≡ fine p → p.line.parent ≡ count_of (field_of s 6 5)
placed-parent h i P s p e =
    let k = kind_said (entry_of s) in
    let a : Above = ancestors (entry_of s).parent P in
    sym (ap (λ (x : Placed). x.line.parent) (unless-fine (line_checks h i (entry_of s) (get_or s 4 0) (get_or s 24 0) a) (placed i k (entry_of s) (stepped i k (steps_of a))) p e).1)

abbrev Says : List Line → List ℕ → ℕ → Type 0
Says ls s m = get_or (map parent_of ls) m 0 ≡ count_of (field_of (take 25 (drop (25 * m) s)) 6 5)

says-more : (s : List ℕ) (l : Line) (rest : List Line) → l.parent ≡ count_of (field_of (take 25 s) 6 5)
    → ((m : ℕ) → m < length rest → Says rest (drop 25 s) m) → (m : ℕ) → m < suc (length rest) → Says (l ∷ rest) s m
says-more s l rest first more zero d = first
says-more s l rest first more (suc m) d =
    let by : 25 + 25 * m ≡ 25 * suc m = omega arith in
    more m (omega arith) ∙ ap (λ (t : List ℕ). count_of (field_of (take 25 t) 6 5)) (drop-drop (25 * m) 25 s ∙ ap (λ (n : ℕ). drop n s) by)

says : (h : Head) (n i : ℕ) (P : List Step) (s : List ℕ) (ls : List Line) → node_lines h n i P s ≡ fine ls → (m : ℕ) → m < length ls → Says ls s m
unfolding node_lines
says h zero i P s ls e m l = let f : [] ≡ ls = cc in absurd (omega (arith, ap length f))
says h (suc n) i P s ls e m l =
    let (p, f, g) = next-fine (node_line h i P (take 25 s)) (λ (p : Placed). prefix (p.line ∷ []) (node_lines h n (suc i) p.steps (drop 25 s))) ls e in
    let (rest, more, lines) = prefix-fine (p.line ∷ []) (node_lines h n (suc i) p.steps (drop 25 s)) ls g in
    subst (λ (x : List Line). Says x s m) (sym lines)
    (says-more s p.line rest (placed-parent h i P (take 25 s) p f) (says h n (suc i) p.steps (drop 25 s) rest more) m (omega (arith, l, ap length lines)))

-- ---- counting by the parents

-- how many are 0
unfoldable zeros : List ℕ → ℕ
zeros [] = 0
zeros (p ∷ ps) = mark p + zeros ps

zeros-append : (xs ys : List ℕ) → zeros (xs ++ ys) ≡ zeros xs + zeros ys
unfolding zeros
zeros-append [] ys = omega arith
zeros-append (x ∷ xs) ys = omega (arith, zeros-append xs ys)

zeros-last : (xs : List ℕ) (y : ℕ) → zeros (xs ++ (y ∷ [])) ≡ zeros xs + mark y
unfolding zeros
zeros-last xs y = zeros-append xs (y ∷ []) ∙ omega arith

-- the marks of the text are those of the parents after the root's
marks-zeros : (s : List ℕ) (p : ℕ) (ps : List ℕ) → ((m : ℕ) → m < suc (length ps) → get_or (p ∷ ps) m 0 ≡ count_of (field_of (take 25 (drop (25 * m) s)) 6 5))
    → (n : ℕ) → n ≤ length ps → child_marks s n ≡ zeros (take n ps)
unfolding child_marks zeros
marks-zeros s p ps told zero h = refl
marks-zeros s p ps told (suc n) h =
    ap₂ (λ (x y : ℕ). x + y) (marks-zeros s p ps told n (omega arith)) (ap mark (sym (told (suc n) (omega arith))))
    ∙ sym (zeros-last (take n ps) (get_or ps n 0))
    ∙ ap zeros (sym (take-suc ps n 0 (omega arith)))

-- ---- the tree

mark-none : (p : ℕ) → 0 < p → mark p ≡ 0
mark-none zero h = absurd (omega arith)
mark-none (suc p) h = rw eqb-suc-zero refl

-- no node under a later one has the parent 0
no-zeros : (p c i : ℕ) (F : Forest ℤ) → Numbered i F → 0 < p → 0 < i → zeros (map parent_of (flat p c F)) ≡ 0
unfolding flat zeros
no-zeros p c i end N h j = refl
no-zeros p c i (leaf n w v rest) N h j = omega (arith, mark-none p h, no-zeros p c (suc i) rest N.1 h (omega arith))
no-zeros p c i (inner n w k under rest) N h j =
    let e = ap zeros (map-append parent_of (flat n (c + one k) under) (flat p c rest)) ∙ zeros-append (map parent_of (flat n (c + one k) under)) (map parent_of (flat p c rest)) in
    omega (arith, e, mark-none p h, no-zeros n (c + one k) (suc i) under N.1 (omega (arith, N.0)) (omega arith), no-zeros p c (suc i + size under) rest N.2 h (omega arith))

-- m is among the numbers
abbrev is_in : ℕ → List ℕ → Bool
is_in m [] = false
is_in m (n ∷ ns) = cond (eqb n m) true (is_in m ns)

-- by cases on whether the first is m
first-or : (m n : ℕ) (ns : List ℕ) → is_in m (n ∷ ns) ≡ true → (P : Bool → Type 0) → (n ≡ m → P true) → (is_in m ns ≡ true → P false) → P (eqb n m)
first-or m n ns e P f g = go (eqb n m) refl e
  where
    go : (b : Bool) → eqb n m ≡ b → cond b true (is_in m ns) ≡ true → P b
    go true q e = f (eqb-true n m q)
    go false q e = g e

in-later : (i m : ℕ) (F : Forest ℤ) → Numbered i F → is_in m (nodes F) ≡ true → i ≤ m
unfolding nodes
in-later i m end N e = absurd (true-ne-false (sym e))
in-later i m (leaf n w v rest) N e =
    first-or m n (nodes rest) e (λ b. i ≤ m) (λ q. omega (arith, q, N.0)) (λ f. omega (arith, in-later (suc i) m rest N.1 f))
in-later i m (inner n w k under rest) N e =
    first-or m n (nodes rest) e (λ b. i ≤ m) (λ q. omega (arith, q, N.0)) (λ f. omega (arith, in-later (suc i + size under) m rest N.2 f))

-- of the nodes numbered from i on, the lines up to that of m have as many marks as its place says
place-zeros : (c i : ℕ) (F : Forest ℤ) → Numbered i F → 0 < i → (m : ℕ) → is_in m (nodes F) ≡ true → (j : ℕ) → suc m ≡ i + j
    → zeros (take j (map parent_of (flat 0 c F))) ≡ place m (nodes F)
unfolding nodes place flat zeros
place-zeros c i end N h m e j q = absurd (true-ne-false (sym e))
place-zeros c i (leaf n w v rest) N h m e zero q = absurd (omega (arith, q, in-later i m (leaf n w v rest) N e))
place-zeros c i (leaf n w v rest) N h m e (suc j) q =
    first-or m n (nodes rest) e (λ b. zeros (0 ∷ take j (map parent_of (flat 0 c rest))) ≡ cond b 1 (suc (place m (nodes rest))))
    (λ same. let z : j ≡ 0 = omega (arith, same, N.0, q) in rw z refl)
    (λ f. omega (arith, place-zeros c (suc i) rest N.1 (omega arith) m f j (omega (arith, q))))
place-zeros c i (inner n w k under rest) N h m e zero q = absurd (omega (arith, q, in-later i m (inner n w k under rest) N e))
place-zeros c i (inner n w k under rest) N h m e (suc j) q =
    first-or m n (nodes rest) e (λ b. zeros (0 ∷ take j (map parent_of (flat n (c + one k) under ++ flat 0 c rest))) ≡ cond b 1 (suc (place m (nodes rest))))
    (λ same. let z : j ≡ 0 = omega (arith, same, N.0, q) in rw z refl)
    (λ f.
    let U : List ℕ = map parent_of (flat n (c + one k) under) in
    let R : List ℕ = map parent_of (flat 0 c rest) in
    let far = in-later (suc i + size under) m rest N.2 f in
    let long : length U ≡ size under = length-map (flat n (c + one k) under) parent_of ∙ flat-length n (c + one k) under in
    let d : ℕ = j - size under in
    let at : j ≡ length U + d = omega (arith, far, q, long) in
    let cut : zeros (take j (map parent_of (flat n (c + one k) under ++ flat 0 c rest))) ≡ zeros U + zeros (take d R) =
    ap₂ (λ (x : ℕ) (l : List ℕ). zeros (take x l)) at (map-append parent_of (flat n (c + one k) under) (flat 0 c rest)) ∙ ap zeros (take-append-add U R d) ∙ zeros-append U (take d R) in
    let none = no-zeros n (c + one k) (suc i) under N.1 (omega (arith, N.0)) (omega arith) in
    let more = place-zeros c (suc i + size under) rest N.2 (omega arith) m f d (omega (arith, far, q)) in
    omega (arith, cut, none, more))

-- ---- an accepted table

in-here : (m : ℕ) (ns : List ℕ) → is_in m (m ∷ ns) ≡ true
in-here m ns = rw (eq-eqb m m refl) refl

in-more : (m n : ℕ) (ns : List ℕ) → is_in m ns ≡ true → is_in m (n ∷ ns) ≡ true
in-more m n ns e = go (eqb n m)
  where
    go : (b : Bool) → cond b true (is_in m ns) ≡ true
    go true = refl
    go false = e

-- each of these nodes is in a list that has them all
each_in : (G : ℕ) (F : Forest ℤ) (ns : List ℕ) → ((m : ℕ) → is_in m (nodes F) ≡ true → is_in m ns ≡ true) → EachNode (λ (m : ℕ). is_in m ns ≡ true) (in_grains G F)
unfolding in_grains nodes
each_in G end ns f = tt
each_in G (leaf n w u rest) ns f = (f n (in-here n (nodes rest)), each_in G rest ns (λ m e. f m (in-more m n (nodes rest) e)))
each_in G (inner n w k under rest) ns f = (f n (in-here n (nodes rest)), each_in G rest ns (λ m e. f m (in-more m n (nodes rest) e)))

root-each : (G : ℕ) (F : Forest ℤ) → EachNode (λ (m : ℕ). is_in m (nodes (children F)) ≡ true) (children (in_grains G F))
unfolding in_grains
root-each G end = tt
root-each G (leaf n w u rest) = tt
root-each G (inner n w k under rest) = each_in G under (nodes under) (λ m e. e)

-- the place of a number that is there is where it is found
found_at : (m : ℕ) (ns : List ℕ) → is_in m ns ≡ true → numbered (pos (place m ns)) ns ≡ some m
unfolding place
found_at m [] e = absurd (true-ne-false (sym e))
found_at m (n ∷ ns) e =
    first-or m n ns e (λ b. numbered (pos (cond b 1 (suc (place m ns)))) (n ∷ ns) ≡ some m) (λ q. ap some q) (λ f. go (place m ns) (found_at m ns f))
  where
    go : (k : ℕ) → numbered (pos k) ns ≡ some m → numbered (pos (suc k)) (n ∷ ns) ≡ some m
    go zero e = let z : ◌≡◌ {A = ℕ} 0 1 = cc in absurd (omega arith)
    go (suc k) e = e

-- the root's children
rooted-place : (F : Forest ℤ) → Numbered 0 F → Rooted F → (m : ℕ) → is_in m (nodes (children F)) ≡ true
    → (p : ℕ) × (ps : List ℕ) × (map parent_of (flat 0 0 F) ≡ p ∷ ps) × (zeros (take m ps) ≡ place m (nodes (children F)))
unfolding flat nodes
rooted-place end N R m e = absurd R
rooted-place (leaf n w v rest) N R m e = absurd (true-ne-false (sym e))
rooted-place (inner n w k under rest) N R m e =
    let c : ℕ = 0 + one k in
    let tail : flat n c under ++ flat 0 0 rest ≡ flat 0 c under = ap₂ (λ (a : ℕ) (f : Forest ℤ). flat a c under ++ flat 0 0 f) R.0 R.2 ∙ append-nil (flat 0 c under) in
    (0, map parent_of (flat 0 c under), ap (λ (l : List Line). 0 ∷ map parent_of l) tail, place-zeros c 1 under N.1 (omega arith) m e m (omega arith))

module _ (s : List ℕ) (t : Table) (h : read_text s ≡ fine t) (ε m : ℕ) (played : node_of (searched t ε).play ≡ some m) where
  child : is_in m (nodes (children (tree t))) ≡ true
  child = play-child s t h ε unlimited (λ (i : ℕ). is_in i (nodes (children (tree t))) ≡ true) (root-each (grain t) (tree t)) m played

  -- the lines up to that of a root child have as many marks as its place says
  pub child-place : m < length t.lines → child_marks (drop 25 s) m ≡ place m (nodes (children (tree t)))
  child-place few =
      let e = (checked s t h).lines in
      let z = accepted-size s t h in
      let some-lines : 0 < count s = omega (arith, z.0, z.2) in
      let (p, ps, lines, found) = rooted-place (tree t) (read-numbered t (count s) (drop 25 s) e some-lines) (accepted-rooted s t h) m child in
      let all : map parent_of t.lines ≡ p ∷ ps = ap (map parent_of) (sym (accepted-flat s t h)) ∙ lines in
      let long : length t.lines ≡ suc (length ps) = sym (length-map t.lines parent_of) ∙ ap length all in
      marks-zeros (drop 25 s) p ps
      (λ n l. ap (λ (l : List ℕ). get_or l n 0) (sym all) ∙ says t.head (count s) 0 [] (drop 25 s) t.lines e n (omega (arith, l, long)))
      m (omega (arith, few, long))
      ∙ found

  -- the printed number is that by which `judge` takes the play
  pub child-numbered : numbered (pos (place m (nodes (children (tree t))))) (nodes (children (tree t))) ≡ some m
  child-numbered = found_at m (nodes (children (tree t))) child
