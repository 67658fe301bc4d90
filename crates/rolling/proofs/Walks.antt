-- One walk: what it does at a leaf, at an inner node, and where it goes on.
use Prim.Native.Nat.{ℕ, suc, pred, ◌+◌, ◌*◌, ◌≤◌, ◌<◌, min, max}
use mathlib.Core.Path.{◌≡◌, refl, sym, ap, ap₂, subst, subst₂, ◌∙◌}
use mathlib.Core.Bool.{Bool, true, false, ◌&&◌, cond}
use mathlib.Core.List.{List, [], ◌∷◌}
use native.Mathlib.Omega.{arith}
use lib.Dec.{eqb}
use lib.ListN.{get_or}
use Rattle.table.specs.Tree.{Kind, Forest, end, leaf, inner, code_of, kind_of}
use Rattle.table.specs.Inside.{Slices, Spans, slices}
use Rattle.table.proofs.Spans.{spans-le}
use Rattle.table.proofs.Nodes.{stop_of, code-pos}
use Rattle.table.proofs.Runs.{kind-code}
use Rattle.rollout.specs.Rollout.{pick, spend, over, candidate}
use Rattle.rollout.specs.Inside.Heights.{natural}
use Rattle.rollout.specs.Inside.Sound.{SomeNode, Sound}
use Rattle.rollout.proofs.Folds.{Some, over_any}
use Rattle.rollout.proofs.Turns.{pick_less}
use Rattle.rolling.specs.Inside.Lists.{Store, low_at, high_at, put_both, lows_s, highs_s, candidates_s, WalkS, keep, walk_s}
use Rattle.rolling.specs.Inside.Contracts.{Siblings, bounds_in, chosen, Choice, Named, Chosen, ReadyNode, read_at, updated, Rung}
use Rattle.rolling.proofs.Listed.{inner-candidate}
use Rattle.rolling.proofs.Rows.{spans-row, one_more, live, down_is, down-some, candidates-some}

-- ---- the definitions at a candidate

lows-in : (F : Forest ℕ) (st : Store) → lows_s F st ≡ bounds_in F st.low
unfolding lows_s bounds_in
lows-in end st = refl
lows-in (leaf n w x rest) st = ap (λ (l : List ℕ). low_at st n ∷ l) (lows-in rest st)
lows-in (inner n w k under rest) st = ap (λ (l : List ℕ). low_at st n ∷ l) (lows-in rest st)

highs-in : (F : Forest ℕ) (st : Store) → highs_s F st ≡ bounds_in F st.high
unfolding highs_s bounds_in
highs-in end st = refl
highs-in (leaf n w x rest) st = ap (λ (l : List ℕ). high_at st n ∷ l) (highs-in rest st)
highs-in (inner n w k under rest) st = ap (λ (l : List ℕ). high_at st n ∷ l) (highs-in rest st)

bounds-some : (G : ℕ) (F : Forest ℕ) (st : Store) → SomeNode (keep G F st) → (b : List ℕ) → Some (bounds_in F b)
unfolding keep bounds_in
bounds-some G end st f b = absurd f
bounds-some G (leaf n w x rest) st f b = tt
bounds-some G (inner n w k under rest) st f b = tt

module _ (G α β : ℕ) (p : List ℕ) (st : Store) where
  leaf-now : (n w x : ℕ) (rest : Forest ℕ) → live α β st n ≡ true
      → walk_s G α β 0 p (leaf n w x rest) st ≡ record { store = put_both st n (x * G) (x * G); read = n ∷ []; policy = p }
  unfolding walk_s
  leaf-now n w x rest e = rw e refl

  inner-now : (n w : ℕ) (k : Kind) (under rest : Forest ℕ) → live α β st n ≡ true → SomeNode (keep G under st)
      → let a : ℕ = max α (low_at st n) in
      let b : ℕ = min β (high_at st n) in
      walk_s G α β 0 p (inner n w k under rest) st ≡ updated k under n (walk_s G a b (pick (candidates_s a b under st) p) (spend p) under st)
  unfolding walk_s
  inner-now n w k under rest e f =
      let l : ℕ = low_at st n in
      let h : ℕ = high_at st n in
      let a : ℕ = max α l in
      let b : ℕ = min β h in
      let r : WalkS = walk_s G a b (pick (candidates_s a b under st) p) (spend p) under st in
      let lo : over natural k l (lows_s under r.store) ≡ over natural k 0 (bounds_in under r.store.low) =
      ap (over natural k l) (lows-in under r.store) ∙ over_any k l 0 (bounds_in under r.store.low) (bounds-some G under st f r.store.low) in
      let hi : over natural k h (highs_s under r.store) ≡ over natural k 0 (bounds_in under r.store.high) =
      ap (over natural k h) (highs-in under r.store) ∙ over_any k h 0 (bounds_in under r.store.high) (bounds-some G under st f r.store.high) in
      rw e (ap₂ (λ (y z : ℕ). record { store = put_both r.store n y z; read = r.read; policy = r.policy }) lo hi)

-- ---- candidate number j of some nodes

by-test : (P : Bool → Type 0) (b : Bool) → (b ≡ true → P true) → (b ≡ false → P false) → P b
by-test P true f g = f refl
by-test P false f g = g refl

and-true : (a b : Bool) → (a && b) ≡ true → a ≡ true
and-true true b e = refl
and-true false b e = e

module _ (t : Slices) (G e α β : ℕ) (st : Store) where
  -- it is at entry x, among the nodes from c up to e, and the walk w goes there
  pub record Child (c x : ℕ) (w : List ℕ → WalkS) : Type 0 where
    pub nodes : Forest ℕ
    pub spans : Spans t x e nodes
    pub from : c ≤ x
    pub some : x < e
    pub sound : Sound (keep G nodes st)
    pub live : candidate natural α β (low_at st x) (high_at st x) ≡ true
    pub walk : (p : List ℕ) → w p ≡ walk_s G α β 0 p nodes st

  later : (c d x : ℕ) (w : List ℕ → WalkS) → c ≤ d → Child d x w → Child c x w
  later c d x w h C =
      record { nodes = C.nodes; spans = C.spans; from = omega (arith, C.from); some = C.some; sound = C.sound; live = C.live; walk = C.walk }

  -- one fewer
  less : (b : Bool) (j m : ℕ) → (b && eqb j 0) ≡ false → j < cond b (suc m) m → cond b (pred j) j < m
  less b j m y l = omega (arith, down_is b j, (down-some b j m y (omega (arith, one_more b m))).1)

  pub child-of : (c j : ℕ) (F : Forest ℕ) → Spans t c e F → Sound (keep G F st) → j < candidates_s α β F st
      → Child c (chosen α β j F st) (λ (p : List ℕ). walk_s G α β j p F st)
  unfolding Spans keep candidates_s chosen walk_s
  child-of c j end s i l = absurd (omega arith)
  child-of c j (leaf n w x rest) s i l =
      let T : Bool = live α β st n in
      let k : ℕ = cond T (pred j) j in
      by-test
      (λ (b : Bool). Child c (cond b n (chosen α β k rest st))
      (λ (p : List ℕ). cond b (record { store = put_both st n (x * G) (x * G); read = n ∷ []; policy = p }) (walk_s G α β k p rest st)))
      (T && eqb j 0)
      (λ y. record {
        nodes = leaf n w x rest;
        spans = subst (λ (m : ℕ). Spans t m e (leaf n w x rest)) (sym s.0) s;
        from = omega (arith, s.0);
        some = omega (arith, s.0, spans-le t (c + 1) e rest s.5);
        sound = i;
        live = and-true T (eqb j 0) y;
        walk = λ p. sym (leaf-now G α β p st n w x rest (and-true T (eqb j 0) y));
      })
      (λ y. later c (c + 1) (chosen α β k rest st) (λ (p : List ℕ). walk_s G α β k p rest st) (omega arith)
      (child-of (c + 1) k rest s.5 i.2 (less T j (candidates_s α β rest st) y l)))
  child-of c j (inner n w kind under rest) s i l =
      let T : Bool = live α β st n in
      let k : ℕ = cond T (pred j) j in
      let a : ℕ = max α (low_at st n) in
      let b : ℕ = min β (high_at st n) in
      let up = spans-le t (c + 1) (stop_of t c) under s.3 in
      by-test
      (λ (y : Bool). Child c (cond y n (chosen α β k rest st))
      (λ (p : List ℕ).
      let r : WalkS = walk_s G a b (pick (candidates_s a b under st) p) (spend p) under st in
      cond y
      (record { store = put_both r.store n (over natural kind (low_at st n) (lows_s under r.store)) (over natural kind (high_at st n) (highs_s under r.store)); read = r.read; policy = r.policy })
      (walk_s G α β k p rest st)))
      (T && eqb j 0)
      (λ y. record {
        nodes = inner n w kind under rest;
        spans = subst (λ (m : ℕ). Spans t m e (inner n w kind under rest)) (sym s.0) s;
        from = omega (arith, s.0);
        some = omega (arith, s.0, up, spans-le t (stop_of t c) e rest s.4);
        sound = i;
        live = and-true T (eqb j 0) y;
        walk = λ p. rw (and-true T (eqb j 0) y) refl;
      })
      (λ y. later c (stop_of t c) (chosen α β k rest st) (λ (p : List ℕ). walk_s G α β k p rest st) (omega (arith, up))
      (child-of (stop_of t c) k rest s.4 i.4 (less T j (candidates_s α β rest st) y l)))

-- ---- the node at entry c, a candidate in the window α, β

module _ (t : Slices) (G α β c upto : ℕ) (st : Store) where
  pub at_leaf : (F : Forest ℕ) → Spans t c upto F → c < upto → get_or t.kinds c 0 ≡ 0 → live α β st c ≡ true → (p : List ℕ)
      → let v : ℕ = get_or t.heights c 0 * G in
      walk_s G α β 0 p F st ≡ record { store = put_both st c v v; read = c ∷ []; policy = p }
  unfolding Spans
  at_leaf end h lt z e p = absurd (omega arith)
  at_leaf (leaf n w x rest) h lt z e p =
      leaf-now G α β p st n w x rest (subst (λ (m : ℕ). live α β st m ≡ true) (sym h.0) e)
      ∙ ap₂ (λ (m y : ℕ). record { store = put_both st m (y * G) (y * G); read = m ∷ []; policy = p }) h.0 (sym h.4)
  at_leaf (inner n w k under rest) h lt z e p = absurd (omega (arith, code-pos k, h.1))

  -- an inner node with the children `under`, in its own window a, b
  pub record Inner (a b : ℕ) (F : Forest ℕ) : Type 0 where
    pub kind : Kind
    pub under : Forest ℕ
    pub code : get_or t.kinds c 0 ≡ code_of kind
    pub spans : Spans t (c + 1) (stop_of t c) under
    pub within : stop_of t c ≤ upto
    pub sound : Sound (keep G under st)
    pub more : 0 < candidates_s a b under st
    pub walk : (p : List ℕ) → walk_s G α β 0 p F st ≡ updated kind under c (walk_s G a b (pick (candidates_s a b under st) p) (spend p) under st)

  pub at_inner : (F : Forest ℕ) → Spans t c upto F → c < upto → (get_or t.kinds c 0 ≡ 0 → ⊥) → Sound (keep G F st) → live α β st c ≡ true
      → Inner (max α (low_at st c)) (min β (high_at st c)) F
  unfolding Spans keep
  at_inner end h lt z i e = absurd (omega arith)
  at_inner (leaf n w x rest) h lt z i e = absurd (z h.1)
  at_inner (inner n w k under rest) h lt z i e =
      let here : live α β st n ≡ true = subst (λ (m : ℕ). live α β st m ≡ true) (sym h.0) e in
      record {
        kind = k;
        under = under;
        code = h.1;
        spans = h.3;
        within = spans-le t (stop_of t c) upto rest h.4;
        sound = i.3;
        more = subst (λ (m : ℕ). 0 < candidates_s (max α (low_at st m)) (min β (high_at st m)) under st) h.0 (inner-candidate G n w k under rest st α β i here);
        walk = λ p.
            subst (λ (m : ℕ). walk_s G α β 0 p (inner n w k under rest) st
            ≡ updated k under m (walk_s G (max α (low_at st m)) (min β (high_at st m)) (pick (candidates_s (max α (low_at st m)) (min β (high_at st m)) under st) p) (spend p) under st))
            h.0 (inner-now G α β p st n w k under rest here i.0);
      }

-- ---- the calls of a walk

-- at an inner node c, where its run stops was read as e: its own window a, b
pub record Own (K S : List ℕ) (st : Store) (c α β e a b : ℕ) : Type 0 where
  pub inside : get_or K c 0 ≡ 0 → ⊥
  pub stop : e ≡ get_or S c 0
  pub alpha : a ≡ max α (low_at st c)
  pub beta : b ≡ min β (high_at st c)

-- of the candidates under it number j, which the policy bytes p name, is at entry i
pub record Choosing (S : List ℕ) (c e a b : ℕ) (st : Store) (p : List ℕ) (j i : ℕ) : Type 0 where
  pub named : Named S (c + 1) e a b st p j
  pub found : Chosen S (c + 1) e a b st j i

module _ {K S H : List ℕ} {G c α β : ℕ} {st : Store} (R : ReadyNode K S H G c α β st) where
  abbrev at : Slices
  at = slices K S R.weights H

  pub ready-leaf : get_or K c 0 ≡ 0 → (p : List ℕ) → walk_s G α β 0 p R.nodes st ≡ read_at st c (get_or H c 0 * G) p
  ready-leaf z p = at_leaf at G α β c R.upto st R.nodes R.spans R.some z R.live p

  module _ {e a b : ℕ} (w : Own K S st c α β e a b) where
    pub node : Inner at G α β c R.upto st a b R.nodes
    node =
        subst₂ (λ (x v : ℕ). Inner at G α β c R.upto st x v R.nodes) (sym w.alpha) (sym w.beta)
        (at_inner at G α β c R.upto st R.nodes R.spans R.some w.inside R.sound R.live)

    abbrev under : Forest ℕ
    under = node.under

    row : Siblings S (c + 1) (get_or S c 0) under
    row = spans-row at (c + 1) (stop_of at c) under node.spans

    row-to : Siblings S (c + 1) e under
    row-to = subst (λ (x : ℕ). Siblings S (c + 1) x under) (sym w.stop) row

    within : e ≤ R.upto
    within = omega (arith, w.stop, node.within)

    choice-of : (j : ℕ) → j < candidates_s a b under st → Choice S (c + 1) e a b st j
    choice-of j l =
        record {
          nodes = under;
          row = row-to;
          some = l;
          room = omega (arith, within, R.stops);
          low = omega (arith, within, R.low);
          high = omega (arith, within, R.high);
          few = omega (arith, within, R.few);
        }

    pub inner-more : Choice S (c + 1) e a b st 0
    inner-more = choice-of 0 node.more

    pub inner-rung : Rung S c R.upto
    inner-rung = record { under = under; row = row; some = candidates-some a b st S (c + 1) (get_or S c 0) under row node.more; within = node.within }

    named-less : (p : List ℕ) (j : ℕ) → Named S (c + 1) e a b st p j → j < candidates_s a b under st
    named-less p j q = omega (arith, q under row-to, pick_less (candidates_s a b under st) p node.more)

    pub inner-choice : (p : List ℕ) (j : ℕ) → Named S (c + 1) e a b st p j → Choice S (c + 1) e a b st j
    inner-choice p j q = choice-of j (named-less p j q)

    module _ {p : List ℕ} {j i : ℕ} (g : Choosing S c e a b st p j i) where
      pub inner-child : Child at G (get_or S c 0) a b st (c + 1) i (λ (s : List ℕ). walk_s G a b j s under st)
      inner-child =
          let l : j < candidates_s a b under st = named-less p j g.named in
          subst (λ (x : ℕ). Child at G (get_or S c 0) a b st (c + 1) x (λ (s : List ℕ). walk_s G a b j s under st)) (sym (g.found under row-to l))
          (child-of at G (get_or S c 0) a b st (c + 1) j under node.spans node.sound l)

      pub child-ready : ReadyNode K S H G i a b st
      child-ready =
          let C = inner-child in
          let up = node.within in
          record {
            weights = R.weights;
            nodes = C.nodes;
            upto = get_or S c 0;
            spans = C.spans;
            some = C.some;
            sound = C.sound;
            live = C.live;
            grain = R.grain;
            kinds = omega (arith, R.kinds, up);
            stops = omega (arith, R.stops, up);
            heights = omega (arith, R.heights, up);
            low = omega (arith, R.low, up);
            high = omega (arith, R.high, up);
            few = omega (arith, R.few, up);
          }

      pub child-upto : child-ready.upto ≤ R.upto
      unfolding child-ready
      child-upto = node.within

      kind-is : kind_of (get_or K c 0) ≡ node.kind
      kind-is = ap kind_of node.code ∙ kind-code node.kind

      -- the walk from the node is the walk from the child, and the node is updated
      pub inner-walk : (s : List ℕ) → s ≡ spend p
          → walk_s G α β 0 p R.nodes st ≡ updated (kind_of (get_or K c 0)) inner-rung.under c (walk_s G a b 0 s child-ready.nodes st)
      unfolding inner-rung child-ready
      inner-walk s q =
          node.walk p
          ∙ ap (λ (n : ℕ). updated node.kind under c (walk_s G a b n (spend p) under st)) (sym (g.named under row-to))
          ∙ ap (updated node.kind under c) (ap (λ (l : List ℕ). walk_s G a b j l under st) (sym q) ∙ inner-child.walk s)
          ∙ ap (λ (k : Kind). updated k under c (walk_s G a b 0 s child-ready.nodes st)) (sym kind-is)
