-- The children of a node, entry by entry: what the loops over them keep.
use Prim.Native.Nat.{ℕ, zero, suc, pred, ◌+◌, ◌-◌, ◌≤◌, ◌<◌}
use mathlib.Core.Path.{◌≡◌, refl, sym, ap, subst, ◌∙◌}
use mathlib.Core.Bool.{Bool, true, false, ◌&&◌, cond}
use mathlib.Core.List.{List, [], ◌∷◌}
use native.Mathlib.Omega.{arith}
use borrow.Author.Tests.{ne_eqb}
use lib.Dec.{eqb}
use lib.ListN.{get_or}
use mir.Val.{bool_byte}
use Rattle.line.proofs.Signs.{true-ne-false}
use Rattle.table.specs.Tree.{MAX, MIN, CHANCE, Kind, Forest, end, leaf, inner}
use Rattle.table.specs.Inside.{Slices, Spans}
use Rattle.table.proofs.Spans.{spans-le}
use Rattle.table.proofs.Nodes.{rest_of, stop_of}
use Rattle.rollout.specs.Rollout.{joined, over, candidate}
use Rattle.rollout.specs.Inside.Heights.{natural}
use Rattle.rolling.specs.Inside.Lists.{Store, low_at, high_at, runs, candidates_s}
use Rattle.rolling.specs.Inside.Contracts.{Siblings, bounds_in, chosen}

-- ---- the maximum or minimum from the first entry on

joined-more : (k : Kind) (x y z : ℕ) → joined natural k x (joined natural k y z) ≡ joined natural k (joined natural k x y) z
joined-more MAX x y z = omega arith
joined-more MIN x y z = omega arith
joined-more CHANCE x y z = omega arith

over-one : (k : Kind) (a x : ℕ) → over natural k a (x ∷ []) ≡ x
unfolding over
over-one k a x = refl

over_first : (k : Kind) (a x y : ℕ) (l : List ℕ) → over natural k a (x ∷ y ∷ l) ≡ over natural k a (joined natural k x y ∷ l)
unfolding over
over_first k a x y [] = refl
over_first k a x y (z ∷ l) = joined-more k x y (over natural k a (z ∷ l))

pub over_runs : (k : Kind) (a x : ℕ) (l : List ℕ) → over natural k a (x ∷ l) ≡ runs k x l
unfolding runs
over_runs k a x [] = over-one k a x
over_runs k a x (y ∷ l) = over_first k a x y l ∙ over_runs k a (joined natural k x y) l

-- ---- the entries

pub row-le : (S : List ℕ) (c e : ℕ) (F : Forest ℕ) → Siblings S c e F → c ≤ e
unfolding Siblings
row-le S c e end h = omega arith
row-le S c e (leaf n w x rest) h = let r = row-le S (get_or S c 0) e rest h.2 in omega (arith, h.1)
row-le S c e (inner n w k under rest) h = let r = row-le S (get_or S c 0) e rest h.2 in omega (arith, h.1)

-- the first node, and those after it
pub record First (S : List ℕ) (c e : ℕ) (F : Forest ℕ) : Type 0 where
  pub below : c < get_or S c 0
  pub within : get_or S c 0 ≤ e
  pub rest : Siblings S (get_or S c 0) e (rest_of F)

pub first : (S : List ℕ) (c e : ℕ) (F : Forest ℕ) → Siblings S c e F → c < e → First S c e F
unfolding Siblings
first S c e end h lt = absurd (omega arith)
first S c e (leaf n w x rest) h lt = record { below = h.1; within = row-le S (get_or S c 0) e rest h.2; rest = h.2 }
first S c e (inner n w k under rest) h lt = record { below = h.1; within = row-le S (get_or S c 0) e rest h.2; rest = h.2 }

pub spans-row : (t : Slices) (c e : ℕ) (F : Forest ℕ) → Spans t c e F → Siblings t.stops c e F
unfolding Spans Siblings
spans-row t c e end h = h
spans-row t c e (leaf n w x rest) h =
    (h.0, omega (arith, h.2), subst (λ (m : ℕ). Siblings t.stops m e rest) (sym h.2) (spans-row t (c + 1) e rest h.5))
spans-row t c e (inner n w k under rest) h =
    (h.0, omega (arith, spans-le t (c + 1) (stop_of t c) under h.3), spans-row t (stop_of t c) e rest h.4)

-- ---- the definitions, one node at a time

pub one-most : (b : Bool) → bool_byte b ≤ 1
one-most true = omega arith
one-most false = omega arith

pub one_more : (b : Bool) (x : ℕ) → cond b (suc x) x ≡ bool_byte b + x
one_more true x = omega arith
one_more false x = omega arith

module _ (α β : ℕ) (st : Store) where
  -- whether the node at entry c is a candidate
  abbrev pub live : ℕ → Bool
  live c = candidate natural α β (low_at st c) (high_at st c)

  pub candidates-first : (S : List ℕ) (c e : ℕ) (F : Forest ℕ) → Siblings S c e F → c < e
      → candidates_s α β F st ≡ bool_byte (live c) + candidates_s α β (rest_of F) st
  unfolding Siblings candidates_s
  candidates-first S c e end h lt = absurd (omega arith)
  candidates-first S c e (leaf n w x rest) h lt = rw h.0 (one_more (live c) (candidates_s α β rest st))
  candidates-first S c e (inner n w k under rest) h lt = rw h.0 (one_more (live c) (candidates_s α β rest st))

  pub candidates-none : (S : List ℕ) (c e : ℕ) (F : Forest ℕ) → Siblings S c e F → e ≤ c → candidates_s α β F st ≡ 0
  unfolding Siblings candidates_s
  candidates-none S c e end h le = refl
  candidates-none S c e (leaf n w x rest) h le = let r = row-le S (get_or S c 0) e rest h.2 in absurd (omega (arith, h.1))
  candidates-none S c e (inner n w k under rest) h le = let r = row-le S (get_or S c 0) e rest h.2 in absurd (omega (arith, h.1))

  chosen-first : (S : List ℕ) (c e j : ℕ) (F : Forest ℕ) → Siblings S c e F → c < e
      → chosen α β j F st ≡ cond (live c && eqb j 0) c (chosen α β (cond (live c) (pred j) j) (rest_of F) st)
  unfolding Siblings chosen
  chosen-first S c e j end h lt = absurd (omega arith)
  chosen-first S c e j (leaf n w x rest) h lt = rw h.0 refl
  chosen-first S c e j (inner n w k under rest) h lt = rw h.0 refl

bounds-first : (S : List ℕ) (c e : ℕ) (F : Forest ℕ) (b : List ℕ) → Siblings S c e F → c < e → bounds_in F b ≡ get_or b c 0 ∷ bounds_in (rest_of F) b
unfolding Siblings bounds_in
bounds-first S c e end b h lt = absurd (omega arith)
bounds-first S c e (leaf n w x rest) b h lt = rw h.0 refl
bounds-first S c e (inner n w k under rest) b h lt = rw h.0 refl

bounds-none : (S : List ℕ) (c e : ℕ) (F : Forest ℕ) (b : List ℕ) → Siblings S c e F → e ≤ c → bounds_in F b ≡ []
unfolding Siblings bounds_in
bounds-none S c e end b h le = refl
bounds-none S c e (leaf n w x rest) b h le = let r = row-le S (get_or S c 0) e rest h.2 in absurd (omega (arith, h.1))
bounds-none S c e (inner n w k under rest) b h le = let r = row-le S (get_or S c 0) e rest h.2 in absurd (omega (arith, h.1))

-- ---- counting the candidates of F: m up to entry i

pub record Counting (S : List ℕ) (e α β : ℕ) (st : Store) (F : Forest ℕ) (m i : ℕ) : Type 0 where
  pub nodes : Forest ℕ
  pub row : Siblings S i e nodes
  pub count : candidates_s α β F st ≡ m + candidates_s α β nodes st

module _ {S : List ℕ} {e α β : ℕ} {st : Store} {F : Forest ℕ} {m i : ℕ} (C : Counting S e α β st F m i) where
  pub count-first : i < e → First S i e C.nodes
  count-first lt = first S i e C.nodes C.row lt

  pub count_turn : i < e → (o i' : ℕ) → o ≡ bool_byte (live α β st i) → i' ≡ get_or S i 0 → Counting S e α β st F (m + o) i'
  count_turn lt o i' q r =
      record {
        nodes = rest_of C.nodes;
        row = subst (λ (n : ℕ). Siblings S n e (rest_of C.nodes)) (sym r) (count-first lt).rest;
        count = omega (arith, C.count, candidates-first α β st S i e C.nodes C.row lt);
      }

  pub count-end : e ≤ i → m ≡ candidates_s α β F st
  count-end le = omega (arith, C.count, candidates-none α β st S i e C.nodes C.row le)

-- ---- seeking candidate number j of F: from entry i on it is number `left`

pub record Seeking (S : List ℕ) (e α β : ℕ) (st : Store) (F : Forest ℕ) (j left i : ℕ) : Type 0 where
  pub nodes : Forest ℕ
  pub row : Siblings S i e nodes
  pub some : left < candidates_s α β nodes st
  pub same : chosen α β j F st ≡ chosen α β left nodes st

pub seek-start : (S : List ℕ) (c e α β : ℕ) (st : Store) (F : Forest ℕ) (j : ℕ) → Siblings S c e F → j < candidates_s α β F st → Seeking S e α β st F j j c
seek-start S c e α β st F j h l = record { nodes = F; row = h; some = l; same = refl }

pub candidates-some : (α β : ℕ) (st : Store) (S : List ℕ) (c e : ℕ) (F : Forest ℕ) → Siblings S c e F → 0 < candidates_s α β F st → c < e
unfolding Siblings candidates_s
candidates-some α β st S c e end h lt = absurd (omega arith)
candidates-some α β st S c e (leaf n w x rest) h lt = let r = row-le S (get_or S c 0) e rest h.2 in omega (arith, h.1)
candidates-some α β st S c e (inner n w k under rest) h lt = let r = row-le S (get_or S c 0) e rest h.2 in omega (arith, h.1)

-- counted down
pub down_is : (b : Bool) (j : ℕ) → cond b (pred j) j ≡ j - bool_byte b
down_is true zero = refl
down_is true (suc j) = omega arith
down_is false j = omega arith

pub down-some : (b : Bool) (j m : ℕ) → (b && eqb j 0) ≡ false → j < bool_byte b + m → (bool_byte b ≤ j) × (j - bool_byte b < m)
down-some true zero m e l = absurd (true-ne-false e)
down-some true (suc j) m e l = (omega arith, omega arith)
down-some false j m e l = (omega arith, omega arith)

module _ {S : List ℕ} {e α β : ℕ} {st : Store} {F : Forest ℕ} {j left i : ℕ} (C : Seeking S e α β st F j left i) where
  pub seek-within : i < e
  seek-within = candidates-some α β st S i e C.nodes C.row (omega (arith, C.some))

  pub seek-first : First S i e C.nodes
  seek-first = first S i e C.nodes C.row seek-within

  pub seek_found : live α β st i ≡ true → left ≡ 0 → i ≡ chosen α β j F st
  seek_found p z =
      sym (C.same ∙ chosen-first α β st S i e left C.nodes C.row seek-within ∙ rw (p, z) refl)

  -- the node is not the one that is sought
  module _ (i' : ℕ) (r : i' ≡ get_or S i 0) where
    row-on : Siblings S i' e (rest_of C.nodes)
    row-on = subst (λ (n : ℕ). Siblings S n e (rest_of C.nodes)) (sym r) seek-first.rest

    pub seek-past : live α β st i ≡ false → Seeking S e α β st F j left i'
    seek-past p =
        record {
          nodes = rest_of C.nodes;
          row = row-on;
          some = omega (arith, C.some, rw p at (candidates-first α β st S i e C.nodes C.row seek-within));
          same = C.same ∙ chosen-first α β st S i e left C.nodes C.row seek-within ∙ rw p refl;
        }

    pub seek-less : live α β st i ≡ true → (left ≡ 0 → ⊥) → Seeking S e α β st F j (left - 1) i'
    seek-less p o =
        let other : eqb left 0 ≡ false = ne_eqb left 0 o in
        let down : pred left ≡ left - 1 = down_is true left in
        record {
          nodes = rest_of C.nodes;
          row = row-on;
          some = omega (arith, C.some, rw p at (candidates-first α β st S i e C.nodes C.row seek-within));
          same = C.same ∙ chosen-first α β st S i e left C.nodes C.row seek-within ∙ rw (p, other, down) refl;
        }

-- ---- the extreme of the bounds of F: x up to entry i

pub record Folding (k : Kind) (S : List ℕ) (e : ℕ) (b : List ℕ) (F : Forest ℕ) (x i : ℕ) : Type 0 where
  pub nodes : Forest ℕ
  pub row : Siblings S i e nodes
  pub same : over natural k 0 (bounds_in F b) ≡ runs k x (bounds_in nodes b)

pub fold_start : (k : Kind) (S : List ℕ) (c e : ℕ) (b : List ℕ) (F : Forest ℕ) → Siblings S c e F → c < e → (i : ℕ) → i ≡ get_or S c 0 → Folding k S e b F (get_or b c 0) i
fold_start k S c e b F h lt i q =
    record {
      nodes = rest_of F;
      row = subst (λ (n : ℕ). Siblings S n e (rest_of F)) (sym q) (first S c e F h lt).rest;
      same =
          ap (over natural k 0) (bounds-first S c e F b h lt) ∙ over_runs k 0 (get_or b c 0) (bounds_in (rest_of F) b);
    }

runs-more : (k : Kind) (x y : ℕ) (l : List ℕ) → runs k x (y ∷ l) ≡ runs k (joined natural k x y) l
unfolding runs
runs-more k x y l = refl

runs_none : (k : Kind) (x : ℕ) → runs k x [] ≡ x
unfolding runs
runs_none k x = refl

module _ {k : Kind} {S : List ℕ} {e : ℕ} {b : List ℕ} {F : Forest ℕ} {x i : ℕ} (C : Folding k S e b F x i) where
  pub fold-first : i < e → First S i e C.nodes
  fold-first lt = first S i e C.nodes C.row lt

  pub fold-turn : i < e → (x' i' : ℕ) → x' ≡ joined natural k x (get_or b i 0) → i' ≡ get_or S i 0 → Folding k S e b F x' i'
  fold-turn lt x' i' q r =
      record {
        nodes = rest_of C.nodes;
        row = subst (λ (n : ℕ). Siblings S n e (rest_of C.nodes)) (sym r) (fold-first lt).rest;
        same =
            C.same ∙ ap (runs k x) (bounds-first S i e C.nodes b C.row lt) ∙ runs-more k x (get_or b i 0) (bounds_in (rest_of C.nodes) b)
            ∙ ap (λ (z : ℕ). runs k z (bounds_in (rest_of C.nodes) b)) (sym q);
      }

  pub fold_end : e ≤ i → x ≡ over natural k 0 (bounds_in F b)
  fold_end le = sym (C.same ∙ ap (runs k x) (bounds-none S i e C.nodes b C.row le) ∙ runs_none k x)
