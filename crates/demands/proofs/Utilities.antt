-- Lines with other utilities: their tree, and that their text is accepted.
use Prim.Native.Nat.{ℕ, zero, suc, ◌+◌}
use mathlib.Core.Path.{◌≡◌, refl, sym, ap, ap₂, subst, ◌∙◌}
use mathlib.Core.Bool.{Bool, true, false, cond}
use mathlib.Core.List.{List, [], ◌∷◌, ◌++◌, Memᴰ}
use lib.Dec.{leb}
use lib.ListN.{length}
use lib.IntN.{ℤ}
use Rattle.line.specs.declared.Head.{Head}
use Rattle.line.specs.declared.Line.{Line}
use Rattle.line.specs.Refusal.{fine}
use Rattle.line.proofs.Signs.{true-ne-false}
use Rattle.table.specs.Tree.{Forest, end, leaf, inner, kind_of, run, after, grow, forest}
use Rattle.table.specs.Table.{Table, tree, read_text}
use Rattle.table.specs.Accepted.{flat, one}
use Rattle.table.proofs.Runs.{code-inner}
use Rattle.table.proofs.Accepted.{accepted-ranged, accepted-flat}
use Rattle.writing.specs.Text.{table_text}
use Rattle.writing.proofs.Reread.{read_back, accepted-sound}
use Rattle.writing.proofs.Shaped.{Shaped, shaped-end, shaped-leaf, shaped-inner, sound-shaped}
use Rattle.promise.specs.Unread.{Alike, alike_end, alike-leaf, alike-inner}
use Rattle.line.specs.Line.{code, is_leaf}
use Rattle.demands.specs.Demands.{with_utility, SameLines, same_none, same_more, Given, given-none, given-kept, given-new}

-- ---- the tree

module _ (read : List ℕ) where
  both : {k l m n : List Line} (c : Bool) → SameLines read k l → SameLines read m n → SameLines read (cond c k m) (cond c l n)
  both true s u = s
  both false s u = u

  run-same : (n : ℕ) {ls ms : List Line} → SameLines read ls ms → SameLines read (run n ls) (run n ms)
  unfolding run
  run-same n same_none = same_none
  run-same n (same_more {l} q s) = both (leb n l.parent) (same_more q (run-same n s)) same_none

  after_same : (n : ℕ) {ls ms : List Line} → SameLines read ls ms → SameLines read (after n ls) (after n ms)
  unfolding after
  after_same n same_none = same_none
  after_same n (same_more {l} q s) = both (leb n l.parent) (after_same n s) (same_more q s)

  abbrev value : Line → ℤ
  value l = l.utility

  abbrev Read : ℕ → Type 0
  Read n = Memᴰ n read

  grown : (l : Line) (z : ℤ) {u u2 r r2 : Forest ℤ} → (Read l.node → l.utility ≡ z) → Alike Read u u2 → Alike Read r r2
      → Alike Read (grow l.utility l u r) (grow z (with_utility z l) u2 r2)
  grown l z {u} {u2} {r} {r2} q a b = go (is_leaf l.kind)
    where
      go : (c : Bool)
          → Alike Read
          (cond c (leaf l.node l.weight l.utility r) (inner l.node l.weight (kind_of (code l.kind)) u r))
          (cond c (leaf l.node l.weight z r2) (inner l.node l.weight (kind_of (code l.kind)) u2 r2))
      go true = alike-leaf q b
      go false = alike-inner a b

  forest-alike : (k : ℕ) {ls ms : List Line} → SameLines read ls ms → Alike Read (forest value k ls) (forest value k ms)
  unfolding forest
  forest-alike zero s = alike_end
  forest-alike (suc k) same_none = alike_end
  forest-alike (suc k) (same_more {l} {z} q s) =
      grown l z q (forest-alike k (run-same l.node s)) (forest-alike k (after_same l.node s))

  same-long : {ls ms : List Line} → SameLines read ls ms → length ls ≡ length ms
  same-long same_none = refl
  same-long (same_more q s) = ap suc (same-long s)

  pub tree-alike : (t u : Table) → SameLines read t.lines u.lines → Alike Read (tree t) (tree u)
  tree-alike t u s = subst (λ (k : ℕ). Alike Read (tree t) (forest value k u.lines)) (same-long s) (forest-alike (length t.lines) s)

-- ---- the lines

pub given-same : (h : Head) (read : List ℕ) {ls ms : List Line} → Given h read ls ms → SameLines read ls ms
given-same h read given-none = same_none
given-same h read (given-kept g) = same_more (λ m. refl) (given-same h read g)
given-same h read (given-new kind unread inside g) = same_more (λ m. absurd (unread m)) (given-same h read g)

-- lines given for some lines and then others are those given for each, one after the other
given-split : (h : Head) (read : List ℕ) (xs ys : List Line) {ms : List Line} → Given h read (xs ++ ys) ms
    → (a b : List Line) × (a ++ b ≡ ms) × Given h read xs a × Given h read ys b
given-split h read [] ys {ms} g = ([], ms, refl, given-none, g)
given-split h read (l ∷ xs) ys (given-kept g) =
    let r = given-split h read xs ys g in
    (l ∷ r.0, r.1, ap (λ (ms : List Line). l ∷ ms) r.2, given-kept r.3, r.4)
given-split h read (l ∷ xs) ys (given-new {z = z} kind unread inside g) =
    let r = given-split h read xs ys g in
    (with_utility z l ∷ r.0, r.1, ap (λ (ms : List Line). with_utility z l ∷ ms) r.2, given-new kind unread inside r.3, r.4)

-- ---- a tree of the same shape

module _ (h : Head) where
  -- the lines given for a tree's are those of a tree of its shape: an inner node's line is kept, as its kind is not a leaf's
  given-tree : (read : List ℕ) (p c : ℕ) (F : Forest ℤ) {ms : List Line} → Given h read (flat p c F) ms
      → (G : Forest ℤ) × (flat p c G ≡ ms) × Shaped h h F G
  unfolding flat
  given-tree read p c end given-none = (end, refl, shaped-end)
  given-tree read p c (leaf n w v rest) (given-kept {l} g) =
      let r = given-tree read p c rest g in
      (leaf n w v r.0, ap (λ (ms : List Line). l ∷ ms) r.1, shaped-leaf (λ x. x) r.2)
  given-tree read p c (leaf n w v rest) (given-new {l} {z} kind unread inside g) =
      let r = given-tree read p c rest g in
      (leaf n w z r.0, ap (λ (ms : List Line). with_utility z l ∷ ms) r.1, shaped-leaf (λ x. inside) r.2)
  given-tree read p c (inner n w k under rest) (given-kept {l} g) =
      let s = given-split h read (flat n (c + one k) under) (flat p c rest) g in
      let u = given-tree read n (c + one k) under s.3 in
      let r = given-tree read p c rest s.4 in
      (inner n w k u.0 r.0, ap (λ (ms : List Line). l ∷ ms) (ap₂ ◌++◌ u.1 r.1 ∙ s.2), shaped-inner refl u.2 r.2)
  given-tree read p c (inner n w k under rest) (given-new kind unread inside g) =
      absurd (true-ne-false (sym (ap is_leaf kind) ∙ code-inner k))

-- ---- the text

pub given-accepted : (s : List ℕ) (t : Table) → read_text s ≡ fine t → (read : List ℕ) (ls : List Line) → Given t.head read t.lines ls
    → read_text (table_text (record { head = t.head; lines = ls })) ≡ fine (record { head = t.head; lines = ls })
given-accepted s t p read ls g =
    let h : Head = t.head in
    let c = given-tree h read 0 0 (tree t) (subst (λ (ms : List Line). Given h read ms ls) (sym (accepted-flat s t p)) g) in
    subst (λ (ms : List Line). read_text (table_text (record { head = h; lines = ms })) ≡ fine (record { head = h; lines = ms })) c.1
    (read_back h c.0 (sound-shaped h h (accepted-ranged s t p) refl refl c.2 (accepted-sound s t p)))
