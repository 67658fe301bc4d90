-- Rollouts of an accepted table over two lists by node number, walk by walk: what the code's loop keeps.
use Prim.Native.Nat.{ℕ, zero, suc, ◌*◌, ◌-◌, min, max, ◌≤◌, ◌<◌}
use mathlib.Core.Path.{◌≡◌, refl, sym, ap, ap₂, ◌∙◌, subst, subst₂}
use mathlib.Core.Bool.{true, false}
use mathlib.Core.List.{List, [], ◌∷◌, ◌++◌, map, append-nil, append_assoc}
use native.Mathlib.Omega.{arith}
use lib.Dec.{ltb}
use lib.ListN.{length, take, length-append}
use Rattle.line.specs.Refusal.{fine}
use Rattle.line.specs.Line.{larger}
use Rattle.table.specs.Tree.{Kind, Forest, inner, is_end, leaves}
use Rattle.table.specs.Table.{Table, tree, read_text, greatest, grain}
use Rattle.table.specs.Inside.{height_tree}
use Rattle.table.specs.Accepted.{span}
use Rattle.table.proofs.Runs.{Numbered}
use Rattle.table.proofs.Accepted.{accepted-leaves, heights-leaves, heights-proper, heights-rooted}
use Rattle.table.proofs.Ends.{rooted-some}
use Rattle.table.proofs.Leaves.{picks-few, nodes-length, height-numbered}
use Rattle.search.specs.Inside.{grained}
use Rattle.search.proofs.Grains.{grained-leaves}
use Rattle.rollout.specs.Rollout.{Kept, records, lows, first_or, candidate, walk, roll}
use Rattle.rollout.specs.Whole.{rolled, rolled_worth, rolled_store}
use Rattle.rollout.specs.Inside.Heights.{natural, height_rolled}
use Rattle.rollout.specs.Inside.Raised.{map_pair, above}
use Rattle.rollout.specs.Inside.Sound.{Sound}
use Rattle.rollout.proofs.Turns.{Reads, some-candidate, test-true}
use Rattle.rollout.proofs.Rolls.{Rolls, still, rolls-more, rolls-sound, rolls-some, root-reads, root_low, root_high}
use Rattle.rollout.proofs.Table.{start, start-sound, start-some, height-rolls, rolls-leaves}
use Rattle.rollout.proofs.Demand.{shifted-read, shifted-store, shifted-worth}
use Rattle.rolling.specs.Inside.Lists.{Store, low_at, high_at, Room, Frame, AtEnds, pairs, candidates_s, WalkS, RolledS, keep, walk_s, roll_s}
use Rattle.rolling.proofs.Capped.{rolls-capped, capped_at, fresh-capped}
use Rattle.rolling.proofs.Stored.{candidates-keep, Like, walk-keep, Alike, root-low, root-high, roll-keep, keep-fresh, records-keep}

-- ---- one walk

module _ (G : ℕ) where
  -- an inner node that is a candidate has a candidate under it
  pub inner-candidate : (n w : ℕ) (k : Kind) (under rest : Forest ℕ) (st : Store) (α β : ℕ) → Sound (keep G (inner n w k under rest) st)
      → candidate natural α β (low_at st n) (high_at st n) ≡ true → 0 < candidates_s (max α (low_at st n)) (min β (high_at st n)) under st
  unfolding keep
  inner-candidate n w k under rest st α β i e =
      let a : ℕ = max α (low_at st n) in
      let b : ℕ = min β (high_at st n) in
      rw (candidates-keep G a b under st)
      (some-candidate k a b (keep G under st) i.0 (omega (arith, i.1)) (omega (arith, i.2)) (test-true α β (low_at st n) (high_at st n) e))

-- ---- walks one after another

-- l was read before
abbrev pub on_to : List ℕ → RolledS → RolledS
on_to l r = record { store = r.store; read = l ++ r.read }

module _ (G n : ℕ) (p : List ℕ) (F : Forest ℕ) (st : Store) where
  roll-open : ltb (low_at st 0) (high_at st 0) ≡ true
      → let r : WalkS = walk_s G (low_at st 0) (high_at st 0) 0 p F st in
      roll_s G (suc n) p F st ≡ on_to r.read (roll_s G n r.policy F r.store)
  unfolding roll_s
  roll-open e = rw e

  roll-shut : ltb (low_at st 0) (high_at st 0) ≡ false → roll_s G n p F st ≡ record { store = st; read = [] }
  unfolding roll_s
  roll-shut e = go n
    where
      go : (n : ℕ) → roll_s G n p F st ≡ record { store = st; read = [] }
      go zero = refl
      go (suc n) = rw e

-- of N walks at most, after those that read l: one more
roll-on : (G N : ℕ) (p : List ℕ) (F : Forest ℕ) (st : Store) (l : List ℕ) (m : ℕ) → ltb (low_at st 0) (high_at st 0) ≡ true → length l < N
    → let r : WalkS = walk_s G (low_at st 0) (high_at st 0) 0 p F st in
    r.read ≡ m ∷ []
    → on_to l (roll_s G (N - length l) p F st) ≡ on_to (l ++ (m ∷ [])) (roll_s G (N - length (l ++ (m ∷ []))) r.policy F r.store)
roll-on G N p F st l m e few read =
    let n : ℕ = N - length (l ++ (m ∷ [])) in
    let down : N - length l ≡ suc n = omega (arith, length-append l (m ∷ [])) in
    let r : WalkS = walk_s G (low_at st 0) (high_at st 0) 0 p F st in
    let d : RolledS = roll_s G n r.policy F r.store in
    rw (down, roll-open G n p F st e, read) (ap (λ (y : List ℕ). record { store = d.store; read = y }) (sym (append_assoc l (m ∷ []) d.read)))

module _ (s : List ℕ) (t : Table) (h : read_text s ≡ fine t) where
  abbrev F : Forest ℕ
  F = height_tree t

  abbrev G : ℕ
  G = grain t

  abbrev nodes : ℕ
  nodes = length t.lines

  some : is_end F ≡ false
  some = rooted-some F (heights-rooted s t h)

  -- how many grains the ends are apart
  abbrev far : ℕ
  far = span t.head * grain t

  ready-keep : (st : Store) → AtEnds nodes far st → keep G F st ≡ start s t h
  ready-keep st r =
      keep-fresh G far F 0 st (height-numbered s t h).1 (λ i a b. r.ends i (omega (arith, (height-numbered s t h).0)))

  -- ---- all walks

  -- the leaves read, the store and the worth, over the integers; nothing behind the nodes is written
  pub record Listed (p : List ℕ) (st : Store) (r : RolledS) : Type 0 where
    pub read : r.read ≡ (rolled t p).read
    pub store : map (map_pair (above t)) (pairs (take nodes r.store.low) (take nodes r.store.high)) ≡ rolled_store t p
    pub worth : above t (low_at r.store 0) ≡ rolled_worth t p
    pub frame : Frame 0 nodes st r.store

  pub alike : (p : List ℕ) (st : Store) → AtEnds nodes far st → Alike G F st (roll_s G (leaves F) p F st) (height_rolled t p)
  alike p st r =
      subst₂ (λ (n : ℕ) (f : Kept ℕ). Alike G F st (roll_s G (leaves F) p F st) (roll natural 0 far n p f))
      (sym (grained-leaves G F)) (ready-keep st r)
      (roll-keep G 0 far (leaves F) p F st (height-numbered s t h).1 some (omega (arith, r.room.0, (height-numbered s t h).0), omega (arith, r.room.1, (height-numbered s t h).0)))

  pub listed : (p : List ℕ) (st : Store) → AtEnds nodes far st → Listed p st (roll_s G (leaves F) p F st)
  listed p st r =
      let d : RolledS = roll_s G (leaves F) p F st in
      let x : Alike G F st d (height_rolled t p) = alike p st r in
      let f : Frame 0 nodes st d.store = subst (λ (n : ℕ). Frame 0 n st d.store) (height-numbered s t h).0 x.frame in
      let e : records (keep G F d.store) ≡ pairs (take nodes d.store.low) (take nodes d.store.high) =
      subst (λ (n : ℕ). records (keep G F d.store) ≡ pairs (take n d.store.low) (take n d.store.high)) (height-numbered s t h).0
      (records-keep G F 0 d.store (height-numbered s t h).1
      (omega (arith, r.room.0, f.low, (height-numbered s t h).0), omega (arith, r.room.1, f.high, (height-numbered s t h).0))) in
      record {
        read = x.read ∙ sym (shifted-read s t h p);
        store = ap (map (map_pair (above t))) (sym e ∙ ap records x.kept) ∙ sym (shifted-store s t h p);
        worth =
            ap (above t) (sym (root-low G 0 F d.store (height-numbered s t h).1 some) ∙ ap (λ (f : Kept ℕ). first_or 0 (lows f)) x.kept)
            ∙ sym (shifted-worth s t h p);
        frame = f;
      }

  -- ---- walk by walk

  -- After the leaves l were read, from the store st0 and the policy list p0: the store st and the policy list p are left.
  pub record Going (p0 : List ℕ) (st0 : Store) (l p : List ℕ) (st : Store) : Type 0 where
    pub room : Room nodes st
    pub rolls : Rolls (start s t h) l (keep G F st)
    pub rest : roll_s G (leaves F) p0 F st0 ≡ on_to l (roll_s G (leaves F - length l) p F st)

  all_left : (n : ℕ) → n ≡ n - 0
  all_left n = omega arith

  pub going-begin : (p : List ℕ) (st : Store) → AtEnds nodes far st → Going p st [] p st
  going-begin p st r = record {
    room = r.room;
    rolls = subst (λ (f : Kept ℕ). Rolls (start s t h) [] f) (sym (ready-keep st r)) still;
    rest = ap (λ (n : ℕ). roll_s G n p F st) (all_left (leaves F));
  }

  -- what holds of every node: its bounds are the extremes of its children's
  pub going-sound : (p0 : List ℕ) (st0 : Store) (l p : List ℕ) (st : Store) → Going p0 st0 l p st → Sound (keep G F st)
  going-sound p0 st0 l p st g = rolls-sound g.rolls (start-sound s t h)

  -- no bound is above the highest end
  rolls-small : (l : List ℕ) (st : Store) → Rolls (start s t h) l (keep G F st) → (i : ℕ) → i < nodes → (low_at st i ≤ far) × (high_at st i ≤ far)
  rolls-small l st r i o =
      capped_at far G F 0 st (height-numbered s t h).1
      (rolls-capped far r (fresh-capped (larger t.head) (greatest t.lines) (span t.head) G 0 0 false F (heights-proper s t h))) i (omega arith)
      (omega (arith, (height-numbered s t h).0))

  pub listed_small : (p : List ℕ) (st : Store) → AtEnds nodes far st
      → (i : ℕ) → i < nodes → (low_at (roll_s G (leaves F) p F st).store i ≤ far) × (high_at (roll_s G (leaves F) p F st).store i ≤ far)
  listed_small p st r =
      rolls-small (height_rolled t p).read (roll_s G (leaves F) p F st).store
      (subst (λ (f : Kept ℕ). Rolls (start s t h) (height_rolled t p).read f) (sym (alike p st r).kept)
      (height-rolls s t h (leaves (grained G F)) p))

  leaf-count : leaves F ≡ leaves (tree t)
  leaf-count = heights-leaves s t h ∙ sym (accepted-leaves s t h)

  going_next : (p0 : List ℕ) (st0 : Store) (l p : List ℕ) (st : Store) (m : ℕ) → Going p0 st0 l p st → ltb (low_at st 0) (high_at st 0) ≡ true
      → length l < leaves F
      → let r : WalkS = walk_s G (low_at st 0) (high_at st 0) 0 p F st in
      r.read ≡ m ∷ [] → Rolls (start s t h) (l ++ (m ∷ [])) (keep G F r.store) → Room nodes r.store
      → Going p0 st0 (l ++ (m ∷ [])) r.policy r.store
  going_next p0 st0 l p st m g e few read more room =
      record { room = room; rolls = more; rest = g.rest ∙ roll-on G (leaves F) p F st l m e few read }

  -- while the root is open there is an unread leaf, and a walk reads it
  pub going-walk : (p0 : List ℕ) (st0 : Store) (l p : List ℕ) (st : Store) → Going p0 st0 l p st → ltb (low_at st 0) (high_at st 0) ≡ true
      → let r : WalkS = walk_s G (low_at st 0) (high_at st 0) 0 p F st in
      (m : ℕ) × (r.read ≡ m ∷ []) × (length l < leaves F) × Going p0 st0 (l ++ (m ∷ [])) r.policy r.store
  going-walk p0 st0 l p st g e =
      let f : Kept ℕ = keep G F st in
      let a : ℕ = low_at st 0 in
      let b : ℕ = high_at st 0 in
      let r : WalkS = walk_s G a b 0 p F st in
      let q : Numbered 0 F = (height-numbered s t h).1 in
      let la : root_low 0 far f ≡ a = root-low G 0 F st q some in
      let lb : root_high 0 far f ≡ b = root-high G far F st q some in
      let x : Reads f (walk natural a b 0 p f) =
      subst₂ (λ (y z : ℕ). Reads f (walk natural y z 0 p f)) la lb
      (root-reads 0 far p f (rolls-sound g.rolls (start-sound s t h)) (rolls-some g.rolls (start-some s t h)) (ap₂ ltb la lb ∙ e)) in
      let w : Like G 0 F st r (walk natural a b 0 p f) =
      walk-keep G a b 0 p F st 0 q (omega (arith, g.room.0, (height-numbered s t h).0), omega (arith, g.room.1, (height-numbered s t h).0)) in
      let m : ℕ = x.node in
      let read : r.read ≡ m ∷ [] = w.read ∙ x.read in
      let more : Rolls (start s t h) (l ++ (m ∷ [])) (keep G F r.store) =
      subst (λ (z : Kept ℕ). Rolls (start s t h) (l ++ (m ∷ [])) z) (sym w.kept) (rolls-more g.rolls x.turns) in
      let few : length l < leaves F =
      omega (arith, picks-few (rolls-leaves s t h more), nodes-length (tree t), leaf-count, length-append l (m ∷ [])) in (
        m,
        read,
        few,
        going_next p0 st0 l p st m g e few read more (omega (arith, g.room.0, w.frame.low), omega (arith, g.room.1, w.frame.high)),
      )

  pub going_end : (p0 : List ℕ) (st0 : Store) (l p : List ℕ) (st : Store) → Going p0 st0 l p st → ltb (low_at st 0) (high_at st 0) ≡ false
      → roll_s G (leaves F) p0 F st0 ≡ record { store = st; read = l }
  going_end p0 st0 l p st g e = g.rest ∙ ap (on_to l) (roll-shut G (leaves F - length l) p F st e) ∙ ap (λ (r : List ℕ). record { store = st; read = r }) (append-nil l)
