-- The leaves of a tree whose nodes are numbered in depth-first order: no two have one number, and what is picked among them has none twice.
use Prim.Native.Nat.{ℕ, suc, ◌+◌, ◌≤◌, ◌<◌}
use mathlib.Core.Path.{◌≡◌, refl, sym, ap, ap₂, subst, ◌∙◌}
use mathlib.Core.List.Memᴰ
use mathlib.Core.List.{List, [], ◌∷◌, ◌++◌, Memᴰ}
use native.Mathlib.Omega.{arith}
use lib.ListN.{length, get_or, length-append}
use Rattle.line.specs.Refusal.{fine}
use Rattle.table.specs.Tree.{Forest, end, leaf, inner, leaves}
use Rattle.table.specs.Table.{Table, tree, read_text}
use Rattle.table.specs.Inside.{Slices, Spans, height_tree, slices_of}
use Rattle.table.specs.Leaves.{leaf_nodes, Drops, now, later, Picks, nothing, this, Lacks, Distinct}
use Rattle.table.proofs.Heights.{above, map_forest, heights-map}
use Rattle.table.proofs.Runs.{size, Numbered}
use Rattle.table.proofs.Accepted.{accepted-spans}
use Rattle.table.proofs.Places.{Below, below-append}

-- ---- picked once

lacks-drops : (m : ℕ) {n : ℕ} {l r : List ℕ} → Drops n l r → Lacks m l → Lacks m r
lacks-drops m now a = a.1
lacks-drops m (later d) a = (a.0, lacks-drops m d a.1)

lacks-this : (m : ℕ) {n : ℕ} {l r : List ℕ} → Drops n l r → Lacks m l → m ≡ n → ⊥
lacks-this m now a = a.0
lacks-this m (later d) a = lacks-this m d a.1

lacks-picks : (m : ℕ) {l r : List ℕ} → Picks l r → Lacks m l → Lacks m r
lacks-picks m nothing a = tt
lacks-picks m (this d p) a = (lacks-this m d a, lacks-picks m p (lacks-drops m d a))

drops-distinct : {n : ℕ} {l r : List ℕ} → Drops n l r → Distinct l → Distinct r × Lacks n r
drops-distinct now d = (d.1, d.0)
drops-distinct (later {a} e) d =
    let r = drops-distinct e d.1 in
    ((lacks-drops a e d.0, r.0), ((λ q. lacks-this a e d.0 (sym q)), r.1))

pub picks-distinct : {l r : List ℕ} → Picks l r → Distinct l → Distinct r
picks-distinct nothing d = tt
picks-distinct (this {n} e p) d = let r = drops-distinct e d in (lacks-picks n p r.1, picks-distinct p r.0)

pub drops-length : {n : ℕ} {l r : List ℕ} → Drops n l r → length l ≡ suc (length r)
drops-length now = refl
drops-length (later d) = ap suc (drops-length d)

pub picks-few : {l r : List ℕ} → Picks l r → length r ≤ length l
picks-few nothing = omega arith
picks-few (this d p) = omega (arith, drops-length d, picks-few p)

-- what is in the list and no n is in what is left without it
drop-other : (n m : ℕ) {l : List ℕ} → (n ≡ m → ⊥) → Memᴰ m l → {r : List ℕ} → Drops n l r → Memᴰ m r
drop-other n m d (Memᴰ.head e) now = absurd (d (sym e))
drop-other n m d (Memᴰ.tail i) now = i
drop-other n m d (Memᴰ.head e) (later r) = Memᴰ.head e
drop-other n m d (Memᴰ.tail i) (later r) = Memᴰ.tail (drop-other n m d i r)

drop-one : (n : ℕ) (l : List ℕ) → Memᴰ n l → (r : List ℕ) × Drops n l r
drop-one n [] x' = elim x' [ ]
drop-one n (a ∷ l) (Memᴰ.head e) = (l, subst (λ (x : ℕ). Drops n (x ∷ l) l) e now)
drop-one n (a ∷ l) (Memᴰ.tail i) = let r = drop-one n l i in (a ∷ r.0, later r.1)

pub lacks-not : (n m : ℕ) {l : List ℕ} → Lacks n l → Memᴰ m l → n ≡ m → ⊥
lacks-not n m a (Memᴰ.head e) q = a.0 (q ∙ e)
lacks-not n m a (Memᴰ.tail i) q = lacks-not n m a.1 i q

-- a list without a number twice, all of them in another list, is picked out of that
pub distinct-picks : (l r : List ℕ) → Distinct r → ((n : ℕ) → Memᴰ n r → Memᴰ n l) → Picks l r
distinct-picks l [] d h = nothing
distinct-picks l (n ∷ r) d h =
    let x = drop-one n l (h n (Memᴰ.head refl)) in
    this x.1 (distinct-picks x.0 r d.1 (λ m i. drop-other n m (lacks-not n m d.0 i) (h m (Memᴰ.tail i)) x.1))

-- ---- in the same sequence

-- the first list is the second with some entries left out
pub data Sub : List ℕ → List ℕ → Type 0 where
  sub-none : {l : List ℕ} → Sub [] l
  sub-skip : {a : ℕ} {r l : List ℕ} → Sub r l → Sub r (a ∷ l)
  sub-take : {a : ℕ} {r l : List ℕ} → Sub r l → Sub (a ∷ r) (a ∷ l)

pub sub-past : (l : List ℕ) {r m : List ℕ} → Sub r m → Sub r (l ++ m)
sub-past [] s = s
sub-past (a ∷ l) s = sub-skip (sub-past l s)

pub sub-append : {q r l m : List ℕ} → Sub q l → Sub r m → Sub (q ++ r) (l ++ m)
sub-append {l = l} sub-none u = sub-past l u
sub-append (sub-skip s) u = sub-skip (sub-append s u)
sub-append (sub-take s) u = sub-take (sub-append s u)

pub sub-length : {r l : List ℕ} → Sub r l → length r ≤ length l
sub-length sub-none = omega arith
sub-length (sub-skip s) = omega (arith, sub-length s)
sub-length (sub-take s) = omega (arith, sub-length s)

pub sub_in : {r l : List ℕ} → Sub r l → (n : ℕ) → Memᴰ n r → Memᴰ n l
sub_in sub-none n i = absurd (Memᴰ.not-nil i)
sub_in (sub-skip s) n i = Memᴰ.tail (sub_in s n i)
sub_in (sub-take s) n (Memᴰ.head e) = Memᴰ.head e
sub_in (sub-take s) n (Memᴰ.tail i) = Memᴰ.tail (sub_in s n i)

sub-lacks : (n : ℕ) {r l : List ℕ} → Sub r l → Lacks n l → Lacks n r
sub-lacks n sub-none a = tt
sub-lacks n (sub-skip s) a = sub-lacks n s a.1
sub-lacks n (sub-take s) a = (a.0, sub-lacks n s a.1)

pub sub-distinct : {r l : List ℕ} → Sub r l → Distinct l → Distinct r
sub-distinct sub-none d = tt
sub-distinct (sub-skip s) d = sub-distinct s d.1
sub-distinct (sub-take {a} s) d = (sub-lacks a s d.0, sub-distinct s d.1)

-- ---- the numbers of the leaves

lacks-append : (m : ℕ) (l r : List ℕ) → Lacks m l → Lacks m r → Lacks m (l ++ r)
lacks-append m [] r a b = b
lacks-append m (x ∷ l) r a b = (a.0, lacks-append m l r a.1 b)

distinct_append : (b : ℕ) (l r : List ℕ) → Below b l → ((m : ℕ) → m < b → Lacks m r) → Distinct l → Distinct r → Distinct (l ++ r)
distinct_append b [] r p away d e = e
distinct_append b (x ∷ l) r p away d e = (lacks-append x l r d.0 (away x p.0), distinct_append b l r p.1 away d.1 e)

module _ {A : Type 0} where
  lacks-before : (F : Forest A) (a m : ℕ) → Numbered a F → m < a → Lacks m (leaf_nodes F)
  unfolding leaf_nodes
  lacks-before end a m q o = tt
  lacks-before (leaf n w v rest) a m q o = ((λ e. omega (arith, q.0)), lacks-before rest (suc a) m q.1 (omega arith))
  lacks-before (inner n w k under rest) a m q o =
      lacks-append m (leaf_nodes under) (leaf_nodes rest) (lacks-before under (suc a) m q.1 (omega arith))
      (lacks-before rest (suc a + size under) m q.2 (omega arith))

  nodes-below : (F : Forest A) (a b : ℕ) → Numbered a F → a + size F ≤ b → Below b (leaf_nodes F)
  unfolding leaf_nodes
  nodes-below end a b q o = tt
  nodes-below (leaf n w v rest) a b q o = (omega (arith, q.0), nodes-below rest (suc a) b q.1 (omega arith))
  nodes-below (inner n w k under rest) a b q o =
      below-append b (leaf_nodes under) (leaf_nodes rest) (nodes-below under (suc a) b q.1 (omega arith))
      (nodes-below rest (suc a + size under) b q.2 (omega arith))

  pub nodes-distinct : (F : Forest A) (a : ℕ) → Numbered a F → Distinct (leaf_nodes F)
  unfolding leaf_nodes
  nodes-distinct end a q = tt
  nodes-distinct (leaf n w v rest) a q = (lacks-before rest (suc a) n q.1 (omega (arith, q.0)), nodes-distinct rest (suc a) q.1)
  nodes-distinct (inner n w k under rest) a q =
      distinct_append (suc a + size under) (leaf_nodes under) (leaf_nodes rest) (nodes-below under (suc a) (suc a + size under) q.1 (omega arith))
      (λ m o. lacks-before rest (suc a + size under) m q.2 o) (nodes-distinct under (suc a) q.1)
      (nodes-distinct rest (suc a + size under) q.2)

module _ {A B : Type 0} (g : A → B) where
  pub map-nodes : (F : Forest A) → leaf_nodes (map_forest g F) ≡ leaf_nodes F
  unfolding leaf_nodes
  map-nodes end = refl
  map-nodes (leaf n w v rest) = ap (λ (l : List ℕ). n ∷ l) (map-nodes rest)
  map-nodes (inner n w k under rest) = rw (map-nodes under, map-nodes rest)

module _ {A : Type 0} where
  pub nodes-length : (F : Forest A) → length (leaf_nodes F) ≡ leaves F
  unfolding leaf_nodes leaves
  nodes-length end = refl
  nodes-length (leaf n w v rest) = omega (arith, nodes-length rest)
  nodes-length (inner n w k under rest) = length-append (leaf_nodes under) (leaf_nodes rest) ∙ ap₂ ◌+◌ (nodes-length under) (nodes-length rest)

-- ---- the decoded slices

-- a tree that lies in the slices from c up to e has e - c nodes, numbered from c
pub spans-numbered : (s : Slices) (c e : ℕ) (F : Forest ℕ) → Spans s c e F → (c + size F ≡ e) × Numbered c F
unfolding Spans
spans-numbered s c e end x = (omega (arith, x), tt)
spans-numbered s c e (leaf n w h rest) x =
    let r = spans-numbered s (c + 1) e rest x.5 in
    (omega (arith, r.0), (x.0, subst (λ (a : ℕ). Numbered a rest) (omega arith) r.1))
spans-numbered s c e (inner n w k under rest) x =
    let j : ℕ = get_or s.stops c 0 in
    let u = spans-numbered s (c + 1) j under x.3 in
    let r = spans-numbered s j e rest x.4 in
    (omega (arith, u.0, r.0), (x.0, subst (λ (a : ℕ). Numbered a under) (omega arith) u.1, subst (λ (a : ℕ). Numbered a rest) (omega (arith, u.0)) r.1))

-- ---- an accepted table

below_in : (b n : ℕ) {l : List ℕ} → Below b l → Memᴰ n l → n < b
below_in b n h (Memᴰ.head e) = omega (arith, h.0)
below_in b n h (Memᴰ.tail i) = below_in b n h.1 i

module _ (s : List ℕ) (t : Table) (h : read_text s ≡ fine t) where
  pub height-numbered : (size (height_tree t) ≡ length t.lines) × Numbered 0 (height_tree t)
  height-numbered = let r = spans-numbered (slices_of t) 0 (length t.lines) (height_tree t) (accepted-spans s t h) in (omega (arith, r.0), r.1)

  pub height-nodes : leaf_nodes (height_tree t) ≡ leaf_nodes (tree t)
  height-nodes = ap leaf_nodes (heights-map t) ∙ map-nodes (above t.head.lowest) (tree t)

  pub leaves-distinct : Distinct (leaf_nodes (tree t))
  leaves-distinct = subst Distinct height-nodes (nodes-distinct (height_tree t) 0 height-numbered.1)

  -- each is a node of the table
  pub leaves-below : (n : ℕ) → Memᴰ n (leaf_nodes (tree t)) → n < length t.lines
  leaves-below n i =
      below_in (length t.lines) n (nodes-below (height_tree t) 0 (length t.lines) height-numbered.1 (omega (arith, height-numbered.0)))
      (subst (Memᴰ n) (sym height-nodes) i)
