-- The lines of a tree, and the tree of those lines: a run of lines is what stands under a node.
use Prim.Native.Nat.{ℕ, zero, suc, ◌+◌, ◌≤◌, ◌<◌}
use mathlib.Core.Path.{◌≡◌, refl, sym, ap, ◌∙◌}
use mathlib.Core.Bool.{false}
use mathlib.Core.List.{List, [], ◌∷◌, ◌++◌, append_assoc, append-nil}
use native.Mathlib.Omega.{arith}
use native.Mathlib.Nat.{le_trans}
use borrow.Author.Tests.{le-leb, lt-leb}
use lib.ListN.{length, length-append}
use lib.Dec.{eqb}
use lib.IntN.{ℤ}
use Rattle.line.specs.declared.Line.{Line}
use Rattle.table.specs.Tree.{Kind, MAX, MIN, CHANCE, Forest, end, leaf, inner, code_of, kind_of, is_chance, run, after, forest, leaves}
use Rattle.table.specs.Table.{leaf_lines}
use Rattle.table.specs.Accepted.{flat, one, Rooted}

module _ {A : Type 0} where
  -- how many nodes
  abbrev pub size : Forest A → ℕ
  size end = 0
  size (leaf n w v rest) = suc (size rest)
  size (inner n w k under rest) = suc (size under + size rest)

  -- the nodes are numbered from i on, depth first
  abbrev pub Numbered : ℕ → Forest A → Type 0
  Numbered i end = Unit {0}
  Numbered i (leaf n w v rest) = (n ≡ i) × Numbered (suc i) rest
  Numbered i (inner n w k under rest) = (n ≡ i) × Numbered (suc i) under × Numbered (suc i + size under) rest

pub flat-length : (p c : ℕ) (T : Forest ℤ) → length (flat p c T) ≡ size T
unfolding flat
flat-length p c end = refl
flat-length p c (leaf n w v rest) = ap suc (flat-length p c rest)
flat-length p c (inner n w k under rest) =
    ap suc (length-append (flat n (c + one k) under) (flat p c rest) ∙ rw (flat-length n (c + one k) under, flat-length p c rest))

-- ---- kinds

pub code-inner : (k : Kind) → eqb (code_of k) 0 ≡ false
code-inner MAX = refl
code-inner MIN = refl
code-inner CHANCE = refl

pub code-chance : (k : Kind) → eqb (code_of k) 3 ≡ is_chance k
code-chance MAX = refl
code-chance MIN = refl
code-chance CHANCE = refl

pub kind-code : (k : Kind) → kind_of (code_of k) ≡ k
kind-code MAX = refl
kind-code MIN = refl
kind-code CHANCE = refl

-- ---- leaves

leaves-append : (a b : List Line) → leaf_lines (a ++ b) ≡ leaf_lines a + leaf_lines b
unfolding leaf_lines
leaves-append [] b = omega arith
leaves-append (l ∷ a) b = rw (leaves-append a b) (omega arith)

pub flat-leaves : (p c : ℕ) (T : Forest ℤ) → leaves T ≡ leaf_lines (flat p c T)
unfolding flat leaves leaf_lines
flat-leaves p c end = refl
flat-leaves p c (leaf n w v rest) = ap (λ (x : ℕ). 1 + x) (flat-leaves p c rest)
flat-leaves p c (inner n w k under rest) =
    rw (code-inner k, leaves-append (flat n (c + one k) under) (flat p c rest), ← flat-leaves n (c + one k) under, ← flat-leaves p c rest) (omega arith)

-- ---- runs

-- the first line's parent comes before n
abbrev pub Outside : ℕ → List Line → Type 0
Outside n [] = Unit {0}
Outside n (l ∷ ls) = l.parent < n

pub outside-more : (m n : ℕ) (ls : List Line) → m ≤ n → Outside m ls → Outside n ls
outside-more m n [] h o = tt
outside-more m n (l ∷ ls) h o = le_trans o h

-- the nodes of a parent before n
pub flat-outside : (n p c : ℕ) (T : Forest ℤ) (ls : List Line) → p < n → Outside n ls → Outside n (flat p c T ++ ls)
unfolding flat
flat-outside n p c end ls h o = o
flat-outside n p c (leaf m w v rest) ls h o = h
flat-outside n p c (inner m w k under rest) ls h o = h

pub run-outside : (n : ℕ) (ls : List Line) → Outside n ls → run n ls ≡ []
unfolding run
run-outside n [] o = refl
run-outside n (l ∷ ls) o = rw (lt-leb n l.parent o)

after-outside : (n : ℕ) (ls : List Line) → Outside n ls → after n ls ≡ ls
unfolding after
after-outside n [] o = refl
after-outside n (l ∷ ls) o = rw (lt-leb n l.parent o)

-- the nodes of a parent from n on, numbered from n on: with all under them they are in the run of n
module _ (n : ℕ) where
  run-flat : (p c i : ℕ) (T : Forest ℤ) (ls : List Line) → n ≤ p → n ≤ i → Numbered i T → run n (flat p c T ++ ls) ≡ flat p c T ++ run n ls
  unfolding flat run
  run-flat p c i end ls h g N = refl
  run-flat p c i (leaf m w v rest) ls h g N = rw (le-leb n p h, run-flat p c (suc i) rest ls h (omega arith) N.1)
  run-flat p c i (inner m w k under rest) ls h g N =
      rw (
        le-leb n p h,
        append_assoc (flat m (c + one k) under) (flat p c rest) ls,
        run-flat m (c + one k) (suc i) under (flat p c rest ++ ls) (omega (arith, N.0)) (omega arith) N.1,
        run-flat p c (suc i + size under) rest ls h (omega arith) N.2,
        append_assoc,
      )

  after-flat : (p c i : ℕ) (T : Forest ℤ) (ls : List Line) → n ≤ p → n ≤ i → Numbered i T → after n (flat p c T ++ ls) ≡ after n ls
  unfolding flat after
  after-flat p c i end ls h g N = refl
  after-flat p c i (leaf m w v rest) ls h g N = rw (le-leb n p h, after-flat p c (suc i) rest ls h (omega arith) N.1)
  after-flat p c i (inner m w k under rest) ls h g N =
      rw (
        le-leb n p h,
        append_assoc (flat m (c + one k) under) (flat p c rest) ls,
        after-flat m (c + one k) (suc i) under (flat p c rest ++ ls) (omega (arith, N.0)) (omega arith) N.1,
        after-flat p c (suc i + size under) rest ls h (omega arith) N.2,
      )

-- the nodes under n, with other lines behind them
module _ (n c : ℕ) (T : Forest ℤ) (N : Numbered (suc n) T) (ls : List Line) (o : Outside n ls) where
  pub run-under : run n (flat n c T ++ ls) ≡ flat n c T
  run-under = run-flat n n c (suc n) T ls (omega arith) (omega arith) N ∙ rw (run-outside n ls o, append-nil)

  pub after-under : after n (flat n c T ++ ls) ≡ ls
  after-under = after-flat n n c (suc n) T ls (omega arith) (omega arith) N ∙ after-outside n ls o

-- ---- the tree of a tree's lines is the tree

abbrev utility_of : Line → ℤ
utility_of l = l.utility

regrow-leaf : (k p c n w : ℕ) (v : ℤ) (rest : Forest ℤ) → Outside n (flat p c rest) → forest utility_of k (flat p c rest) ≡ rest
    → forest utility_of (suc k) (flat p c (leaf n w v rest)) ≡ leaf n w v rest
unfolding flat forest
regrow-leaf k p c n w v rest o e = rw (after-outside n (flat p c rest) o, e)

regrow-inner : (k p c n w : ℕ) (d : Kind) (under rest : Forest ℤ) → Numbered (suc n) under → Outside n (flat p c rest)
    → forest utility_of k (flat n (c + one d) under) ≡ under → forest utility_of k (flat p c rest) ≡ rest
    → forest utility_of (suc k) (flat p c (inner n w d under rest)) ≡ inner n w d under rest
unfolding flat forest
regrow-inner k p c n w d under rest N o e f =
    rw (code-inner d, kind-code d, run-under n (c + one d) under N (flat p c rest) o, after-under n (c + one d) under N (flat p c rest) o, e, f)

outside-rest : (n p c : ℕ) (rest : Forest ℤ) → p < n → Outside n (flat p c rest)
outside-rest n p c rest h = rw append-nil at (flat-outside n p c rest [] h tt)

regrow : (k p c i : ℕ) (T : Forest ℤ) → Numbered i T → p < i → size T ≤ k → forest utility_of k (flat p c T) ≡ T
unfolding flat forest
regrow zero p c i end N h g = refl
regrow (suc k) p c i end N h g = refl
regrow zero p c i (leaf n w v rest) N h g = absurd (omega arith)
regrow (suc k) p c i (leaf n w v rest) N h g =
    regrow-leaf k p c n w v rest (outside-rest n p c rest (omega (arith, N.0))) (regrow k p c (suc i) rest N.1 (omega arith) (omega arith))
regrow zero p c i (inner n w d under rest) N h g = absurd (omega arith)
regrow (suc k) p c i (inner n w d under rest) N h g =
    let e : suc i ≡ suc n = omega (arith, N.0) in
    regrow-inner k p c n w d under rest (rw e at N.1) (outside-rest n p c rest (omega (arith, N.0)))
    (regrow k n (c + one d) (suc i) under N.1 (omega (arith, N.0)) (omega arith))
    (regrow k p c (suc i + size under) rest N.2 (omega arith) (omega arith))

-- from the root
pub regrow-root : (k : ℕ) (T : Forest ℤ) → Numbered 0 T → Rooted T → size T ≤ k → forest utility_of k (flat 0 0 T) ≡ T
unfolding flat forest
regrow-root k end N R g = absurd R
regrow-root zero (leaf n w v rest) N R g = absurd (omega arith)
regrow-root (suc k) (leaf n w v rest) N R g = rw R.2 (regrow-leaf k 0 0 n w v end tt (regrow k 0 0 1 end tt (omega arith) (omega arith)))
regrow-root zero (inner n w d under rest) N R g = absurd (omega arith)
regrow-root (suc k) (inner n w d under rest) N R g =
    let e : 1 ≡ suc n = ap suc (sym N.0) in
    rw R.2 (regrow-inner k 0 0 n w d under end (rw e at N.1) tt
    (regrow k n (0 + one d) 1 under N.1 (omega (arith, N.0)) (omega arith))
    (regrow k 0 0 1 end tt (omega arith) (omega arith)))
