-- What the contracts of the code cite.
use Rattle.std.specs.Prelude.{ℕ, zero, suc, pred, ◌+◌, ◌*◌, ◌≤◌, ◌<◌, ◌≡◌, Bool, true, ◌&&◌, cond, List, [], ◌∷◌, eqb, length, get_or, set, drop}
use Rattle.line.specs.Refusal.{fine}
use Rattle.table.specs.Tree.{Kind, kind_of, Forest, end, leaf, inner, leaves}
use Rattle.table.specs.Table.{Table, read_text, grain}
use Rattle.table.specs.Inside.{Spans, height_tree, slices}
use Rattle.table.specs.Slices.{laid}
use Rattle.table.specs.Accepted.{span}
use Rattle.rollout.specs.Rollout.{pick, over, candidate}
use Rattle.rollout.specs.Inside.Heights.{natural}
use Rattle.rollout.specs.Inside.Sound.{Sound}
use Rattle.rolling.specs.declared.Step.{Step}
use Rattle.rolling.specs.Inside.Lists.{Store, low_at, high_at, put_both, candidates_s, WalkS, RolledS, keep, walk_s, roll_s, AtEnds}

abbrev pub stored : (low high : List ℕ) → Store
stored low high = record { low = low; high = high }

-- ---- the children of a node

-- the entries of these nodes with one parent: c, where its run stops, and so on up to e
unfoldable pub Siblings : List ℕ → ℕ → ℕ → Forest ℕ → Type 0
Siblings S c e end = c ≡ e
Siblings S c e (leaf n w x rest) = (n ≡ c) × (c < get_or S c 0) × Siblings S (get_or S c 0) e rest
Siblings S c e (inner n w k under rest) = (n ≡ c) × (c < get_or S c 0) × Siblings S (get_or S c 0) e rest

-- the bounds of these nodes in one of the two lists
unfoldable pub bounds_in : Forest ℕ → List ℕ → List ℕ
bounds_in end b = []
bounds_in (leaf n w x rest) b = get_or b n 0 ∷ bounds_in rest b
bounds_in (inner n w k under rest) b = get_or b n 0 ∷ bounds_in rest b

-- the node of candidate number j
unfoldable pub chosen : (α β j : ℕ) → Forest ℕ → Store → ℕ
chosen α β j end st = 0
chosen α β j (leaf n w x rest) st =
    let t : Bool = candidate natural α β (low_at st n) (high_at st n) in
    cond (t && eqb j 0) n (chosen α β (cond t (pred j) j) rest st)
chosen α β j (inner n w k under rest) st =
    let t : Bool = candidate natural α β (low_at st n) (high_at st n) in
    cond (t && eqb j 0) n (chosen α β (cond t (pred j) j) rest st)

-- there are nodes with one parent in the entries from c up to e
pub record Children (S : List ℕ) (c e : ℕ) : Type 0 where
  pub nodes : Forest ℕ
  pub row : Siblings S c e nodes
  pub room : e ≤ length S
  pub few : e ≤ 1024

abbrev pub Counted : (S : List ℕ) (c e α β : ℕ) → Store → ℕ → Type 0
Counted S c e α β st r = (F : Forest ℕ) → Siblings S c e F → r ≡ candidates_s α β F st

-- more than j of them are candidates
pub record Choice (S : List ℕ) (c e α β : ℕ) (st : Store) (j : ℕ) : Type 0 where
  pub nodes : Forest ℕ
  pub row : Siblings S c e nodes
  pub some : j < candidates_s α β nodes st
  pub room : e ≤ length S
  pub low : e ≤ length st.low
  pub high : e ≤ length st.high
  pub few : e ≤ 1024

-- r is the number of the candidate that the policy bytes p name
abbrev pub Named : (S : List ℕ) (c e α β : ℕ) → Store → List ℕ → ℕ → Type 0
Named S c e α β st p r = (F : Forest ℕ) → Siblings S c e F → r ≡ pick (candidates_s α β F st) p

abbrev pub Chosen : (S : List ℕ) (c e α β : ℕ) → Store → (j r : ℕ) → Type 0
Chosen S c e α β st j r = (F : Forest ℕ) → Siblings S c e F → j < candidates_s α β F st → r ≡ chosen α β j F st

abbrev pub Extreme : Kind → (S : List ℕ) (c e : ℕ) → List ℕ → ℕ → Type 0
Extreme k S c e b r = (F : Forest ℕ) → Siblings S c e F → r ≡ over natural k 0 (bounds_in F b)

-- the bound of node c is the extreme of its children's
abbrev pub Updated : Kind → (S : List ℕ) (c e : ℕ) → (came now : List ℕ) → Type 0
Updated k S c e came now = (F : Forest ℕ) → Siblings S (c + 1) e F → now ≡ set came c (over natural k 0 (bounds_in F came))

-- ---- a walk

-- node c is a candidate in the window α, β
pub record ReadyNode (K S H : List ℕ) (G c α β : ℕ) (st : Store) : Type 0 where
  pub weights : List ℕ
  pub nodes : Forest ℕ
  pub upto : ℕ
  pub spans : Spans (slices K S weights H) c upto nodes
  pub some : c < upto
  pub sound : Sound (keep G nodes st)
  pub live : candidate natural α β (low_at st c) (high_at st c) ≡ true
  pub grain : G ≤ 16777216
  pub kinds : upto ≤ length K
  pub stops : upto ≤ length S
  pub heights : upto ≤ length H
  pub low : upto ≤ length st.low
  pub high : upto ≤ length st.high
  pub few : upto ≤ 1024

-- the step r, the policy list P and the store are what the walk w leaves
pub record WalkLeft (w : WalkS) (r : Step) (P : List ℕ) (st : Store) : Type 0 where
  pub store : st ≡ w.store
  pub read : w.read ≡ r.leaf ∷ []
  pub policy : w.policy ≡ drop r.used P
  pub small : r.leaf < 1024

-- the walk that reads node c, a leaf of v grains
abbrev pub read_at : Store → (c v : ℕ) → List ℕ → WalkS
read_at st c v p = record { store = put_both st c v v; read = c ∷ []; policy = p }

-- what a node c of kind k with the children `under` leaves of the walk w under it
abbrev pub updated : Kind → Forest ℕ → ℕ → WalkS → WalkS
updated k under c w =
    record {
      store = put_both w.store c (over natural k 0 (bounds_in under w.store.low)) (over natural k 0 (bounds_in under w.store.high));
      read = w.read;
      policy = w.policy;
    }

-- node c has children, and its run goes no further than `upto`
pub record Rung (S : List ℕ) (c upto : ℕ) : Type 0 where
  pub under : Forest ℕ
  pub row : Siblings S (c + 1) (get_or S c 0) under
  pub some : c + 1 < get_or S c 0
  pub within : get_or S c 0 ≤ upto

-- the whole walk is what is left of the walk w when the first d nodes of the path Q are updated, the last first
module _ (K S Q : List ℕ) (upto : ℕ) (whole : WalkS) where
  unfoldable pub Up : ℕ → WalkS → Type 0
  Up zero w = whole ≡ w
  Up (suc d) w = (r : Rung S (get_or Q d 0) upto) × Up d (updated (kind_of (get_or K (get_or Q d 0) 0)) r.under (get_or Q d 0) w)

-- the root is a candidate in the window α, β, and there is room for a path
pub record ReadyDown (K S : List ℕ) (α β : ℕ) (st : Store) (Q : List ℕ) : Type 0 where
  pub heights : List ℕ
  pub grain : ℕ
  pub ready : ReadyNode K S heights grain 0 α β st
  pub path : 1024 ≤ length Q

-- the walk `whole` goes down the path Q to the leaf of r
pub record Landed (K S H : List ℕ) (G upto : ℕ) (whole : WalkS) (st : Store) (P Q : List ℕ) (r : Step) : Type 0 where
  pub rungs : Up K S Q upto whole r.depth (read_at st r.leaf (get_or H r.leaf 0 * G) (drop r.used P))
  pub some : r.leaf < upto
  pub deep : r.depth ≤ length Q

abbrev pub WentDown : (K S : List ℕ) (α β : ℕ) → Store → (at : ℕ) (P : List ℕ) → Step → List ℕ → Type 0
WentDown K S α β st at P r Q =
    (H : List ℕ) (G : ℕ) (R : ReadyNode K S H G 0 α β st) → Landed K S H G R.upto (walk_s G α β 0 (drop at P) R.nodes st) st P Q r

-- the store is what is left of a walk whose path begins with the first d nodes of Q, before these are updated
pub record Climb (K S Q : List ℕ) (d : ℕ) (st : Store) : Type 0 where
  pub upto : ℕ
  pub whole : WalkS
  pub last : WalkS
  pub rungs : Up K S Q upto whole d last
  pub store : last.store ≡ st
  pub path : d ≤ length Q
  pub kinds : upto ≤ length K
  pub stops : upto ≤ length S
  pub low : upto ≤ length st.low
  pub high : upto ≤ length st.high
  pub few : upto ≤ 1024

abbrev pub Climbed : (K S Q : List ℕ) (d : ℕ) → (st now : Store) → Type 0
Climbed K S Q d st now = (C : Climb K S Q d st) → now ≡ C.whole.store

abbrev pub ReadyWalk : (K S H : List ℕ) (G α β : ℕ) → Store → List ℕ → Type 0
ReadyWalk K S H G α β st Q = ReadyNode K S H G 0 α β st × (1024 ≤ length Q)

-- a walk from the store st with the policy bytes p left gives r and the store `now`
abbrev pub Walked : (K S H : List ℕ) (G α β : ℕ) (p : List ℕ) → Store → Step → List ℕ → Store → Type 0
Walked K S H G α β p st r P now = (R : ReadyNode K S H G 0 α β st) → WalkLeft (walk_s G α β 0 p R.nodes st) r P now

-- ---- walks while the root is open

-- an accepted table, before the first walk, and room for its leaves
pub record ReadyRoll (K S H : List ℕ) (G n : ℕ) (st : Store) (room : ℕ) : Type 0 where
  pub text : List ℕ
  pub table : Table
  pub accepted : read_text text ≡ fine table
  pub weights : List ℕ
  pub spans : Spans (slices K S weights H) 0 n (height_tree table)
  pub grained : G ≡ grain table
  pub size : n ≡ length table.lines
  pub ready : AtEnds n (span table.head * grain table) st
  pub kinds : n ≤ length K
  pub stops : n ≤ length S
  pub heights : n ≤ length H
  pub space : leaves (height_tree table) ≤ room

-- the number r, the store and the list are what rollouts leave
pub record RolledIn (d : RolledS) (st : Store) (r : ℕ) (came now : List ℕ) : Type 0 where
  pub store : st ≡ d.store
  pub used : r ≡ length d.read
  pub leaves : now ≡ laid d.read came

abbrev pub WellRolled : (K S H : List ℕ) (G n : ℕ) (P : List ℕ) → (st last : Store) → ℕ → (came now : List ℕ) → Type 0
WellRolled K S H G n P st last r came now =
    (R : ReadyRoll K S H G n st (length came))
    → RolledIn (roll_s (grain R.table) (leaves (height_tree R.table)) P (height_tree R.table) st) last r came now
