-- Rollouts over heights with the bounds in two lists by node number, beside the tree: the form of the code.
-- proofs/Stored.antt has the theorem that they are those of Rollout.antt.
use Rattle.std.specs.Prelude.{ℕ, zero, suc, pred, ◌+◌, ◌*◌, min, max, ◌≤◌, ◌<◌, ◌≡◌, Bool, ◌&&◌, cond, List, [], ◌∷◌, ◌++◌, eqb, ltb, length, get_or, set}
use Rattle.table.specs.Tree.{Kind, Forest, end, leaf, inner}
use Rattle.rollout.specs.Rollout.{Kept, none, tip, knot, Pair, pick, spend, joined, over, candidate}
use Rattle.rollout.specs.Inside.Heights.{natural}

-- the lows and the highs, by node number
pub record Store : Type 0 where
  pub low : List ℕ
  pub high : List ℕ

abbrev pub low_at : Store → ℕ → ℕ
low_at st n = get_or st.low n 0

abbrev pub high_at : Store → ℕ → ℕ
high_at st n = get_or st.high n 0

-- node n gets the bounds l and h
abbrev pub put_both : Store → ℕ → ℕ → ℕ → Store
put_both st n l h = record { low = set st.low n l; high = set st.high n h }

-- the store has room for n nodes
abbrev pub Room : ℕ → Store → Type 0
Room n st = (n ≤ length st.low) × (n ≤ length st.high)

-- the two stores have the same at i
abbrev pub At : Store → Store → ℕ → Type 0
At st st2 i = (low_at st2 i ≡ low_at st i) × (high_at st2 i ≡ high_at st i)

-- only the n nodes from a on are written
pub record Frame (a n : ℕ) (st st2 : Store) : Type 0 where
  pub low : length st2.low ≡ length st.low
  pub high : length st2.high ≡ length st.high
  pub before : (i : ℕ) → i < a → At st st2 i
  pub behind : (i : ℕ) → a + n ≤ i → At st st2 i

-- "Each node has a low and a high, at first the ends": of n nodes, the lowest end 0 and the highest S
pub record AtEnds (n S : ℕ) (st : Store) : Type 0 where
  pub room : Room n st
  pub ends : (i : ℕ) → i < n → (low_at st i ≡ 0) × (high_at st i ≡ S)

-- a list of lows and a list of highs as records
unfoldable pub pairs : List ℕ → List ℕ → List (Pair ℕ)
pairs [] hs = []
pairs (l ∷ ls) [] = []
pairs (l ∷ ls) (h ∷ hs) = record { low = l; high = h } ∷ pairs ls hs

-- the bounds of these nodes
unfoldable pub lows_s : Forest ℕ → Store → List ℕ
lows_s end st = []
lows_s (leaf n w x rest) st = low_at st n ∷ lows_s rest st
lows_s (inner n w k under rest) st = low_at st n ∷ lows_s rest st

unfoldable pub highs_s : Forest ℕ → Store → List ℕ
highs_s end st = []
highs_s (leaf n w x rest) st = high_at st n ∷ highs_s rest st
highs_s (inner n w k under rest) st = high_at st n ∷ highs_s rest st

-- how many of these nodes are candidates in the window α to β
unfoldable pub candidates_s : (α β : ℕ) → Forest ℕ → Store → ℕ
candidates_s α β end st = 0
candidates_s α β (leaf n w x rest) st =
    cond (candidate natural α β (low_at st n) (high_at st n)) (suc (candidates_s α β rest st)) (candidates_s α β rest st)
candidates_s α β (inner n w k under rest) st =
    cond (candidate natural α β (low_at st n) (high_at st n)) (suc (candidates_s α β rest st)) (candidates_s α β rest st)

-- The maximum or minimum as a loop takes it, from the first child on.
unfoldable pub runs : Kind → ℕ → List ℕ → ℕ
runs k x [] = x
runs k x (y ∷ ys) = runs k (joined natural k x y) ys

-- what a walk leaves: the store, the leaf that it read, and the policy bytes that are left
pub record WalkS : Type 0 where
  pub store : Store
  pub read : List ℕ
  pub policy : List ℕ

pub record RolledS : Type 0 where
  pub store : Store
  pub read : List ℕ

-- leaves have heights in points, and a point is G grains
module _ (G : ℕ) where
  -- the tree with what the store has of it
  unfoldable pub keep : Forest ℕ → Store → Kept ℕ
  keep end st = none
  keep (leaf n w x rest) st = tip n (x * G) (low_at st n) (high_at st n) (keep rest st)
  keep (inner n w k under rest) st = knot n k (low_at st n) (high_at st n) (keep under st) (keep rest st)

  -- down to candidate number j of these nodes, to a leaf, which is read, and up again
  unfoldable pub walk_s : (α β : ℕ) → ℕ → List ℕ → Forest ℕ → Store → WalkS
  walk_s α β j p end st = record { store = st; read = []; policy = p }
  walk_s α β j p (leaf n w x rest) st =
      let t : Bool = candidate natural α β (low_at st n) (high_at st n) in
      cond (t && eqb j 0) (record { store = put_both st n (x * G) (x * G); read = n ∷ []; policy = p }) (walk_s α β (cond t (pred j) j) p rest st)
  walk_s α β j p (inner n w k under rest) st =
      let l : ℕ = low_at st n in
      let h : ℕ = high_at st n in
      let t : Bool = candidate natural α β l h in
      let a : ℕ = max α l in
      let b : ℕ = min β h in
      let r : WalkS = walk_s a b (pick (candidates_s a b under st) p) (spend p) under st in
      cond (t && eqb j 0)
      (record { store = put_both r.store n (over natural k l (lows_s under r.store)) (over natural k h (highs_s under r.store)); read = r.read; policy = r.policy })
      (walk_s α β (cond t (pred j) j) p rest st)

  -- walks while the root, which is node 0, is open
  unfoldable pub roll_s : ℕ → List ℕ → Forest ℕ → Store → RolledS
  roll_s zero p f st = record { store = st; read = [] }
  roll_s (suc n) p f st =
      let r : WalkS = walk_s (low_at st 0) (high_at st 0) 0 p f st in
      let d : RolledS = roll_s n r.policy f r.store in
      cond (ltb (low_at st 0) (high_at st 0)) (record { store = d.store; read = r.read ++ d.read }) (record { store = st; read = [] })
