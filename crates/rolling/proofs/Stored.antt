-- Rollouts over two lists by node number are rollouts over the tree that keeps its bounds.
use Prim.Native.Nat.{ℕ, zero, suc, pred, ◌+◌, ◌*◌, min, max, ◌≤◌, ◌<◌}
use mathlib.Core.Path.{◌≡◌, refl, ap, ap₂, ◌∙◌, subst, subst₂}
use mathlib.Core.Logic.{◌≢◌}
use mathlib.Core.Bool.{Bool, false, ◌&&◌, cond}
use mathlib.Core.List.{List, [], ◌∷◌, ◌++◌}
use native.Mathlib.Omega.{arith}
use lib.Dec.{eqb, ltb}
use lib.ListN.{length, get_or, set, take, drop, length-set, length-take, length-drop}
use lib.Seq.{get_or-set_same, get_or-set_other, drop-cons, take-add, drop-drop}
use Rattle.line.proofs.Signs.{true-ne-false}
use Rattle.table.specs.Tree.{Kind, Forest, end, leaf, inner, is_end}
use Rattle.table.proofs.Runs.{size, Numbered}
use Rattle.search.specs.Inside.{grained}
use Rattle.search.proofs.Steps.{both}
use Rattle.rollout.specs.Rollout.{Kept, tip, knot, Pair, Walk, Rolled, pick, spend, fresh, lows, highs, records, first_or, over, candidate, candidates, walk, roll}
use Rattle.rollout.specs.Inside.Heights.{natural}
use Rattle.rolling.specs.Inside.Lists.{Store, low_at, high_at, put_both, Room, At, Frame, pairs, lows_s, highs_s, candidates_s, WalkS, RolledS, keep, walk_s, roll_s}

put-both-other : (st : Store) (n l h i : ℕ) → i ≢ n → At st (put_both st n l h) i
put-both-other st n l h i e = (get_or-set_other st.low n i l 0 e, get_or-set_other st.high n i h 0 e)

pub frame-still : (a n : ℕ) (st : Store) → Frame a n st st
frame-still a n st = record { low = refl; high = refl; before = λ i b. (refl, refl); behind = λ i b. (refl, refl) }

-- one store after another
at-then : (x y z : Store) (i : ℕ) → At x y i → At y z i → At x z i
at-then x y z i p q = (q.0 ∙ p.0, q.1 ∙ p.1)

pub frame_then : (a n : ℕ) (x y z : Store) → Frame a n x y → Frame a n y z → Frame a n x z
frame_then a n x y z p q = record {
  low = q.low ∙ p.low;
  high = q.high ∙ p.high;
  before = λ i b. at-then x y z i (p.before i b) (q.before i b);
  behind = λ i b. at-then x y z i (p.behind i b) (q.behind i b);
}

pairs-append : (a b c d : List ℕ) → length a ≡ length c → pairs a c ++ pairs b d ≡ pairs (a ++ b) (c ++ d)
unfolding pairs
pairs-append [] b [] d e = refl
pairs-append [] b (z ∷ c) d e = absurd (omega arith)
pairs-append (x ∷ a) b [] d e = absurd (omega arith)
pairs-append (x ∷ a) b (z ∷ c) d e = ap (λ (l : List (Pair ℕ)). record { low = x; high = z } ∷ l) (pairs-append a b c d (omega arith))

-- m entries from a on, and the n behind them
pairs-two : (m n a : ℕ) (l h : List ℕ) → a + m + n ≤ length l → a + m + n ≤ length h
    → pairs (take m (drop a l)) (take m (drop a h)) ++ pairs (take n (drop (a + m) l)) (take n (drop (a + m) h))
    ≡ pairs (take (m + n) (drop a l)) (take (m + n) (drop a h))
pairs-two m n a l h p q =
    rw (take-add m n (drop a l), take-add m n (drop a h), drop-drop m a l, drop-drop m a h)
    (pairs-append (take m (drop a l)) (take n (drop (a + m) l)) (take m (drop a h)) (take n (drop (a + m) h))
    (omega (arith, length-take m (drop a l), length-drop a l, length-take m (drop a h), length-drop a h)))

module _ (G : ℕ) where
  -- ---- what the tree keeps

  keep_same : (F : Forest ℕ) (a : ℕ) (st st2 : Store) → Numbered a F → ((i : ℕ) → a ≤ i → i < a + size F → At st st2 i) → keep G F st2 ≡ keep G F st
  unfolding keep
  keep_same end a st st2 q e = refl
  keep_same (leaf n w x rest) a st st2 q e =
      let p = e n (omega (arith, q.0)) (omega (arith, q.0)) in
      let r : keep G rest st2 ≡ keep G rest st = keep_same rest (suc a) st st2 q.1 (λ i b c. e i (omega arith) (omega arith)) in
      rw (p.0, p.1, r)
  keep_same (inner n w k under rest) a st st2 q e =
      let p = e n (omega (arith, q.0)) (omega (arith, q.0)) in
      let u : keep G under st2 ≡ keep G under st = keep_same under (suc a) st st2 q.1 (λ i b c. e i (omega arith) (omega arith)) in
      let r : keep G rest st2 ≡ keep G rest st = keep_same rest (suc a + size under) st st2 q.2 (λ i b c. e i (omega arith) (omega arith)) in
      rw (p.0, p.1, u, r)

  pub lows-keep : (F : Forest ℕ) (st : Store) → lows_s F st ≡ lows (keep G F st)
  unfolding lows_s lows keep
  lows-keep end st = refl
  lows-keep (leaf n w x rest) st = ap (λ (l : List ℕ). low_at st n ∷ l) (lows-keep rest st)
  lows-keep (inner n w k under rest) st = ap (λ (l : List ℕ). low_at st n ∷ l) (lows-keep rest st)

  pub highs-keep : (F : Forest ℕ) (st : Store) → highs_s F st ≡ highs (keep G F st)
  unfolding highs_s highs keep
  highs-keep end st = refl
  highs-keep (leaf n w x rest) st = ap (λ (l : List ℕ). high_at st n ∷ l) (highs-keep rest st)
  highs-keep (inner n w k under rest) st = ap (λ (l : List ℕ). high_at st n ∷ l) (highs-keep rest st)

  pub candidates-keep : (α β : ℕ) (F : Forest ℕ) (st : Store) → candidates_s α β F st ≡ candidates natural α β (keep G F st)
  unfolding candidates_s candidates keep
  candidates-keep α β end st = refl
  candidates-keep α β (leaf n w x rest) st = rw (candidates-keep α β rest st)
  candidates-keep α β (inner n w k under rest) st = rw (candidates-keep α β rest st)

  -- ---- a walk

  -- what a walk over the store has to do with a walk over the tree
  pub record Like (a : ℕ) (F : Forest ℕ) (st : Store) (r : WalkS) (q : Walk ℕ) : Type 0 where
    pub kept : keep G F r.store ≡ q.kept
    pub read : r.read ≡ q.read
    pub policy : r.policy ≡ q.policy
    pub frame : Frame a (size F) st r.store

  now-leaf : (n w x : ℕ) (rest : Forest ℕ) (p : List ℕ) (st : Store) (a : ℕ) → Numbered a (leaf n w x rest) → Room (a + size (leaf n w x rest)) st
      → Like a (leaf n w x rest) st (record { store = put_both st n (x * G) (x * G); read = n ∷ []; policy = p })
      (record { kept = tip n (x * G) (x * G) (x * G) (keep G rest st); read = n ∷ []; policy = p })
  unfolding keep
  now-leaf n w x rest p st a q m =
      let v : ℕ = x * G in
      let e : keep G rest (put_both st n v v) ≡ keep G rest st = keep_same rest (suc a) st (put_both st n v v) q.1 (λ i b c. put-both-other st n v v i (omega (arith, q.0))) in
      let l : get_or (set st.low n v) n 0 ≡ v = get_or-set_same st.low n v 0 (omega (arith, q.0)) in
      let h : get_or (set st.high n v) n 0 ≡ v = get_or-set_same st.high n v 0 (omega (arith, q.0)) in
      record {
        kept = rw (l, h, e);
        read = refl;
        policy = refl;
        frame = record {
          low = length-set st.low n v;
          high = length-set st.high n v;
          before = λ i b. put-both-other st n v v i (omega (arith, q.0));
          behind = λ i b. put-both-other st n v v i (omega (arith, q.0));
        };
      }

  later-leaf : (n w x : ℕ) (rest : Forest ℕ) (st : Store) (a : ℕ) (r : WalkS) (u : Walk ℕ) → Numbered a (leaf n w x rest) → Like (suc a) rest st r u
      → Like a (leaf n w x rest) st r (record { kept = tip n (x * G) (low_at st n) (high_at st n) u.kept; read = u.read; policy = u.policy })
  unfolding keep
  later-leaf n w x rest st a r u q i =
      let e = i.frame.before n (omega (arith, q.0)) in
      record {
        kept = rw (e.0, e.1, i.kept);
        read = i.read;
        policy = i.policy;
        frame = record {
          low = i.frame.low;
          high = i.frame.high;
          before = λ y b. i.frame.before y (omega arith);
          behind = λ y b. i.frame.behind y (omega arith);
        };
      }

  later-inner : (n w : ℕ) (k : Kind) (under rest : Forest ℕ) (st : Store) (a : ℕ) (r : WalkS) (u : Walk ℕ) → Numbered a (inner n w k under rest)
      → Like (suc a + size under) rest st r u
      → Like a (inner n w k under rest) st r
      (record { kept = knot n k (low_at st n) (high_at st n) (keep G under st) u.kept; read = u.read; policy = u.policy })
  unfolding keep
  later-inner n w k under rest st a r u q i =
      let e = i.frame.before n (omega (arith, q.0)) in
      let d : keep G under r.store ≡ keep G under st = keep_same under (suc a) st r.store q.1 (λ y b z. i.frame.before y z) in
      record {
        kept = rw (e.0, e.1, d, i.kept);
        read = i.read;
        policy = i.policy;
        frame = record {
          low = i.frame.low;
          high = i.frame.high;
          before = λ y b. i.frame.before y (omega arith);
          behind = λ y b. i.frame.behind y (omega arith);
        };
      }

  now-inner : (n w L H : ℕ) (k : Kind) (under rest : Forest ℕ) (st : Store) (a : ℕ) (r : WalkS) (u : Walk ℕ) → Numbered a (inner n w k under rest)
      → Room (a + size (inner n w k under rest)) st → Like (suc a) under st r u
      → Like a (inner n w k under rest) st
      (record { store = put_both r.store n (over natural k L (lows_s under r.store)) (over natural k H (highs_s under r.store)); read = r.read; policy = r.policy })
      (record { kept = knot n k (over natural k L (lows u.kept)) (over natural k H (highs u.kept)) u.kept (keep G rest st); read = u.read; policy = u.policy })
  unfolding keep
  now-inner n w L H k under rest st a r u q m i =
      let v : ℕ = over natural k L (lows_s under r.store) in
      let z : ℕ = over natural k H (highs_s under r.store) in
      let st2 : Store = r.store in
      let f = i.frame in
      let d : keep G under (put_both st2 n v z) ≡ u.kept
      = keep_same under (suc a) st2 (put_both st2 n v z) q.1 (λ y b c. put-both-other st2 n v z y (omega (arith, q.0))) ∙ i.kept in
      let e : keep G rest (put_both st2 n v z) ≡ keep G rest st
      = keep_same rest (suc a + size under) st2 (put_both st2 n v z) q.2 (λ y b c. put-both-other st2 n v z y (omega (arith, q.0)))
      ∙ keep_same rest (suc a + size under) st st2 q.2 (λ y b c. f.behind y b) in
      let l : get_or (set st2.low n v) n 0 ≡ over natural k L (lows u.kept)
      = get_or-set_same st2.low n v 0 (omega (arith, q.0, f.low)) ∙ ap (over natural k L) (lows-keep under st2 ∙ ap lows i.kept) in
      let h : get_or (set st2.high n z) n 0 ≡ over natural k H (highs u.kept)
      = get_or-set_same st2.high n z 0 (omega (arith, q.0, f.high)) ∙ ap (over natural k H) (highs-keep under st2 ∙ ap highs i.kept) in
      record {
        kept = rw (l, h, d, e);
        read = i.read;
        policy = i.policy;
        frame = record {
          low = length-set st2.low n v ∙ f.low;
          high = length-set st2.high n z ∙ f.high;
          before = λ y b. at-then st st2 (put_both st2 n v z) y (f.before y (omega arith)) (put-both-other st2 n v z y (omega (arith, q.0)));
          behind = λ y b. at-then st st2 (put_both st2 n v z) y (f.behind y (omega arith)) (put-both-other st2 n v z y (omega (arith, q.0)));
        };
      }

  pub walk-keep : (α β j : ℕ) (p : List ℕ) (F : Forest ℕ) (st : Store) (a : ℕ) → Numbered a F → Room (a + size F) st
      → Like a F st (walk_s G α β j p F st) (walk natural α β j p (keep G F st))
  unfolding walk_s walk keep
  walk-keep α β j p end st a q m =
      record { kept = refl; read = refl; policy = refl; frame = frame-still a 0 st }
  walk-keep α β j p (leaf n w x rest) st a q m =
      let t : Bool = candidate natural α β (low_at st n) (high_at st n) in
      let i : ℕ = cond t (pred j) j in
      both (Like a (leaf n w x rest) st) (t && eqb j 0)
      (now-leaf n w x rest p st a q m)
      (later-leaf n w x rest st a (walk_s G α β i p rest st) (walk natural α β i p (keep G rest st)) q
      (walk-keep α β i p rest st (suc a) q.1 (omega (arith, m.0), omega (arith, m.1))))
  walk-keep α β j p (inner n w k under rest) st a q m =
      let l : ℕ = low_at st n in
      let h : ℕ = high_at st n in
      let t : Bool = candidate natural α β l h in
      let i : ℕ = cond t (pred j) j in
      let y : ℕ = max α l in
      let z : ℕ = min β h in
      let c : ℕ = candidates_s y z under st in
      both (Like a (inner n w k under rest) st) (t && eqb j 0)
      (now-inner n w l h k under rest st a (walk_s G y z (pick c p) (spend p) under st)
      (walk natural y z (pick (candidates natural y z (keep G under st)) p) (spend p) (keep G under st)) q m
      (subst (λ (x : ℕ). Like (suc a) under st (walk_s G y z (pick c p) (spend p) under st) (walk natural y z (pick x p) (spend p) (keep G under st)))
      (candidates-keep y z under st)
      (walk-keep y z (pick c p) (spend p) under st (suc a) q.1 (omega (arith, m.0), omega (arith, m.1)))))
      (later-inner n w k under rest st a (walk_s G α β i p rest st) (walk natural α β i p (keep G rest st)) q
      (walk-keep α β i p rest st (suc a + size under) q.2 (omega (arith, m.0), omega (arith, m.1))))

  -- ---- walks one after another

  -- what rollouts over the store have to do with rollouts over the tree
  pub record Alike (F : Forest ℕ) (st : Store) (r : RolledS) (q : Rolled ℕ) : Type 0 where
    pub kept : keep G F r.store ≡ q.kept
    pub read : r.read ≡ q.read
    pub frame : Frame 0 (size F) st r.store

  -- the root is node 0
  pub root-low : (b : ℕ) (F : Forest ℕ) (st : Store) → Numbered 0 F → is_end F ≡ false → first_or b (lows (keep G F st)) ≡ low_at st 0
  unfolding lows keep
  root-low b end st q e = absurd (true-ne-false e)
  root-low b (leaf n w x rest) st q e = ap (low_at st) q.0
  root-low b (inner n w k under rest) st q e = ap (low_at st) q.0

  pub root-high : (b : ℕ) (F : Forest ℕ) (st : Store) → Numbered 0 F → is_end F ≡ false → first_or b (highs (keep G F st)) ≡ high_at st 0
  unfolding highs keep
  root-high b end st q e = absurd (true-ne-false e)
  root-high b (leaf n w x rest) st q e = ap (high_at st) q.0
  root-high b (inner n w k under rest) st q e = ap (high_at st) q.0

  module _ (bottom top : ℕ) where
    pub roll-keep : (n : ℕ) (p : List ℕ) (F : Forest ℕ) (st : Store) → Numbered 0 F → is_end F ≡ false → Room (size F) st
        → Alike F st (roll_s G n p F st) (roll natural bottom top n p (keep G F st))
    unfolding roll_s roll
    roll-keep zero p F st q e m = record { kept = refl; read = refl; frame = frame-still 0 (size F) st }
    roll-keep (suc n) p F st q e m =
        let r : WalkS = walk_s G (low_at st 0) (high_at st 0) 0 p F st in
        let u : Walk ℕ = walk natural (low_at st 0) (high_at st 0) 0 p (keep G F st) in
        let w : Like 0 F st r u = walk-keep (low_at st 0) (high_at st 0) 0 p F st 0 q (omega (arith, m.0), omega (arith, m.1)) in
        let d : Alike F r.store (roll_s G n r.policy F r.store) (roll natural bottom top n u.policy u.kept) =
        subst₂ (λ (y : Kept ℕ) (z : List ℕ). Alike F r.store (roll_s G n r.policy F r.store) (roll natural bottom top n z y)) w.kept w.policy
        (roll-keep n r.policy F r.store q e (omega (arith, m.0, w.frame.low), omega (arith, m.1, w.frame.high))) in
        rw (root-low bottom F st q e, root-high top F st q e)
        (both (Alike F st) (ltb (low_at st 0) (high_at st 0))
        (record { kept = d.kept; read = ap₂ ◌++◌ w.read d.read; frame = frame_then 0 (size F) st r.store _ w.frame d.frame })
        (record { kept = refl; read = refl; frame = frame-still 0 (size F) st }))

  -- ---- before the first walk, and the records

  pub keep-fresh : (S : ℕ) (F : Forest ℕ) (a : ℕ) (st : Store) → Numbered a F → ((i : ℕ) → a ≤ i → i < a + size F → (low_at st i ≡ 0) × (high_at st i ≡ S))
      → keep G F st ≡ fresh 0 S (grained G F)
  unfolding keep fresh grained
  keep-fresh S end a st q e = refl
  keep-fresh S (leaf n w x rest) a st q e =
      let p = e n (omega (arith, q.0)) (omega (arith, q.0)) in
      let r = keep-fresh S rest (suc a) st q.1 (λ i b c. e i (omega arith) (omega arith)) in
      rw (p.0, p.1, r)
  keep-fresh S (inner n w k under rest) a st q e =
      let p = e n (omega (arith, q.0)) (omega (arith, q.0)) in
      let u = keep-fresh S under (suc a) st q.1 (λ i b c. e i (omega arith) (omega arith)) in
      let r = keep-fresh S rest (suc a + size under) st q.2 (λ i b c. e i (omega arith) (omega arith)) in
      rw (p.0, p.1, u, r)

  -- the records of the tree are the two lists, from its first node on
  pub records-keep : (F : Forest ℕ) (a : ℕ) (st : Store) → Numbered a F → Room (a + size F) st
      → records (keep G F st) ≡ pairs (take (size F) (drop a st.low)) (take (size F) (drop a st.high))
  unfolding records keep pairs
  records-keep end a st q m = refl
  records-keep (leaf n w x rest) a st q m =
      let r = records-keep rest (suc a) st q.1 (omega (arith, m.0), omega (arith, m.1)) in
      rw (q.0, drop-cons st.low a 0 (omega (arith, m.0)), drop-cons st.high a 0 (omega (arith, m.1)))
      (ap (λ (l : List (Pair ℕ)). record { low = low_at st a; high = high_at st a } ∷ l) r)
  records-keep (inner n w k under rest) a st q m =
      let u = records-keep under (suc a) st q.1 (omega (arith, m.0), omega (arith, m.1)) in
      let r = records-keep rest (suc a + size under) st q.2 (omega (arith, m.0), omega (arith, m.1)) in
      rw (q.0, drop-cons st.low a 0 (omega (arith, m.0)), drop-cons st.high a 0 (omega (arith, m.1)))
      (ap (λ (l : List (Pair ℕ)). record { low = low_at st a; high = high_at st a } ∷ l)
      (ap₂ ◌++◌ u r ∙ pairs-two (size under) (size rest) (suc a) st.low st.high (omega (arith, m.0)) (omega (arith, m.1))))
