-- Rollouts: Algorithm 4 of document 003, over any order. Document 01, 'Rollouts'. Whole.antt has the paper's own order, that of whole grains,
-- and the rollouts of a table.
use Rattle.std.specs.Prelude.{ℕ, zero, suc, pred, ◌%◌, Bool, ◌&&◌, cond, List, [], ◌∷◌, ◌++◌, eqb}
use Rattle.table.specs.Tree.{Kind, MAX, MIN, CHANCE, Forest, end, leaf, inner, leaves}

-- what rollouts compute with: the greater and the lesser of two, and whether one is below the other
pub record Order (A : Type 0) : Type 0 where
  pub high-of : A → A → A
  pub low_of : A → A → A
  pub below : A → A → Bool

-- "Each node has a low and a high": the tree with the bounds v⁻ and v⁺ of every node. A leaf has its worth besides.
pub data Kept (A : Type 0) : Type 0 where
  none : Kept A
  tip : (node : ℕ) (worth low high : A) (rest : Kept A) → Kept A
  knot : (node : ℕ) (kind : Kind) (low high : A) (under rest : Kept A) → Kept A

-- one node's bounds
pub record Pair (A : Type 0) : Type 0 where
  pub low : A
  pub high : A

-- What a walk leaves: the bounds, the leaf that it read, and the policy bytes that are left.
pub record Walk (A : Type 0) : Type 0 where
  pub kept : Kept A
  pub read : List ℕ
  pub policy : List ℕ

-- What rollouts leave: the bounds, and the leaves read in reading sequence.
pub record Rolled (A : Type 0) : Type 0 where
  pub kept : Kept A
  pub read : List ℕ

-- "takes candidate number b mod m of its m candidates, counted from 0; past the list's end it takes the first"
abbrev pub pick : ℕ → List ℕ → ℕ
pick m [] = 0
pick m (b ∷ p) = b % m

-- "consumes one byte b of the lent policy list"
abbrev pub spend : List ℕ → List ℕ
spend [] = []
spend (b ∷ p) = p

module _ {A : Type 0} where
  -- line 1: "at first the ends"
  unfoldable pub fresh : (bottom top : A) → Forest A → Kept A
  fresh bottom top end = none
  fresh bottom top (leaf n w v rest) = tip n v bottom top (fresh bottom top rest)
  fresh bottom top (inner n w k under rest) = knot n k bottom top (fresh bottom top under) (fresh bottom top rest)

  -- the bounds of these nodes, and of all nodes in the order of their numbers: "one record for each node"
  unfoldable pub lows : Kept A → List A
  lows none = []
  lows (tip n v l h rest) = l ∷ lows rest
  lows (knot n k l h under rest) = l ∷ lows rest

  unfoldable pub highs : Kept A → List A
  highs none = []
  highs (tip n v l h rest) = h ∷ highs rest
  highs (knot n k l h under rest) = h ∷ highs rest

  unfoldable pub records : Kept A → List (Pair A)
  records none = []
  records (tip n v l h rest) = record { low = l; high = h } ∷ records rest
  records (knot n k l h under rest) = record { low = l; high = h } ∷ (records under ++ records rest)

  -- the first node's bounds, which are the root's, in a table's tree; of no node, which no accepted table has, `a`
  abbrev pub first_or : A → List A → A
  first_or a [] = a
  first_or a (x ∷ xs) = x

  -- a walk that goes on past a node
  abbrev pub past_tip : ℕ → A → A → A → Walk A → Walk A
  past_tip n v l h r = record { kept = tip n v l h r.kept; read = r.read; policy = r.policy }

  abbrev pub past_knot : ℕ → Kind → A → A → Kept A → Walk A → Walk A
  past_knot n k l h under r = record { kept = knot n k l h under r.kept; read = r.read; policy = r.policy }

  module _ (O : Order A) where
    -- Lines 15 and 16: "the maximum or minimum over all children, unread ones included". Of no children, which no accepted table has, it is `a`.
    -- No table with a C is rolled out; here a C stands as a MAX.
    abbrev pub joined : Kind → A → A → A
    joined MAX x y = O.high-of x y
    joined MIN x y = O.low_of x y
    joined CHANCE x y = O.high-of x y

    unfoldable pub over : Kind → A → List A → A
    over k a [] = a
    over k a (x ∷ []) = x
    over k a (x ∷ y ∷ ys) = joined k x (over k a (y ∷ ys))

    -- line 9: "a child's window is its parent's window met with the child's own bounds"; line 11: "a child is a candidate when its window's low
    -- is below its high"
    abbrev pub candidate : (α β l h : A) → Bool
    candidate α β l h = O.below (O.high-of α l) (O.low_of β h)

    -- the number m of candidates among these children of a node whose window is α to β
    unfoldable pub candidates : (α β : A) → Kept A → ℕ
    candidates α β none = 0
    candidates α β (tip n v l h rest) = cond (candidate α β l h) (suc (candidates α β rest)) (candidates α β rest)
    candidates α β (knot n k l h under rest) = cond (candidate α β l h) (suc (candidates α β rest)) (candidates α β rest)

    -- Lines 12 to 17: down to candidate number j of these children, counted from 0, whose parent's window is α to β; on to a leaf, which is read;
    -- "then the path is updated upward". "Each inner node on the walk consumes one byte". Past the last child nothing is done, and no walk comes
    -- there: document 003, Lemma 3, which is a theorem here.
    unfoldable pub walk : (α β : A) → ℕ → List ℕ → Kept A → Walk A
    walk α β j p none = record { kept = none; read = []; policy = p }
    walk α β j p (tip n v l h rest) =
        cond (candidate α β l h && eqb j 0) (record { kept = tip n v v v rest; read = n ∷ []; policy = p })
        (past_tip n v l h (walk α β (cond (candidate α β l h) (pred j) j) p rest))
    walk α β j p (knot n k l h under rest) =
        let a : A = O.high-of α l in
        let b : A = O.low_of β h in
        let r : Walk A = walk a b (pick (candidates a b under) p) (spend p) under in
        cond (candidate α β l h && eqb j 0)
        (record { kept = knot n k (over k l (lows r.kept)) (over k h (highs r.kept)) r.kept rest; read = r.read; policy = r.policy })
        (past_knot n k l h under (walk α β (cond (candidate α β l h) (pred j) j) p rest))

    module _ (bottom top : A) where
      -- Lines 2 to 4: "While the root's low is below its high, walk down". The first argument bounds the number of walks: as each reads a leaf
      -- that was unread, the number of leaves is enough, which is a theorem. The root is entered in the window of its own bounds.
      unfoldable pub roll : ℕ → List ℕ → Kept A → Rolled A
      roll zero p f = record { kept = f; read = [] }
      roll (suc n) p f =
          let low : A = first_or bottom (lows f) in
          let high : A = first_or top (highs f) in
          let r : Walk A = walk low high 0 p f in
          let d : Rolled A = roll n r.policy r.kept in
          cond (O.below low high) (record { kept = d.kept; read = r.read ++ d.read }) (record { kept = f; read = [] })

      -- the rollouts of a tree under a policy list
      abbrev pub rollouts : List ℕ → Forest A → Rolled A
      rollouts p f = roll (leaves f) p (fresh bottom top f)
