-- The loop over the walks of an accepted table: what it keeps, from the first walk to the last.
use Prim.Native.Nat.{ℕ, suc, ◌+◌, ◌*◌, ◌≤◌, ◌<◌, min, max}
use mathlib.Core.Path.{◌≡◌, refl, sym, ap, ap₂, subst, subst₂, ◌∙◌}
use mathlib.Core.Bool.{true}
use mathlib.Core.List.{List, [], ◌∷◌, ◌++◌, append_assoc}
use native.Mathlib.Omega.{arith}
use borrow.Author.Tests.{lt-ltb, le-ltb}
use lib.ListN.{length, get_or, set, drop, length-append}
use lib.Seq.{drop-cons, set-append_seam}
use Rattle.table.specs.Tree.{Forest, end, leaf, inner, leaves}
use Rattle.table.specs.Table.{grain}
use Rattle.table.specs.Inside.{height_tree, slices}
use Rattle.table.specs.Slices.{laid}
use Rattle.table.specs.Accepted.{span}
use Rattle.table.proofs.Accepted.{accepted-size, accepted-grain, heights-rooted}
use Rattle.table.proofs.Runs.{size}
use Rattle.table.proofs.Nodes.{root-some}
use Rattle.table.proofs.Leaves.{height-numbered}
use Rattle.rollout.specs.Rollout.{first_or, candidate}
use Rattle.rollout.specs.Inside.Heights.{natural}
use Rattle.rollout.specs.Inside.Sound.{Sound}
use Rattle.rolling.specs.declared.Step.{Step}
use Rattle.rolling.specs.Inside.Lists.{Store, low_at, high_at, WalkS, keep, walk_s, roll_s, AtEnds}
use Rattle.rolling.specs.Inside.Contracts.{ReadyNode, WalkLeft, Walked, ReadyRoll, RolledIn}
use Rattle.rolling.proofs.Listed.{Going, going-begin, going-sound, going-walk, going_end}

-- one more number behind those that were laid
laid_more : (l came : List ℕ) (m : ℕ) → length l < length came → set (laid l came) (length l) m ≡ laid (l ++ (m ∷ [])) came
laid_more l came m h =
    let k : ℕ = length l in
    let up : length (l ++ (m ∷ [])) ≡ suc k = omega (arith, length-append l (m ∷ [])) in
    ap (λ (d : List ℕ). set (l ++ d) k m) (drop-cons came k 0 h)
    ∙ set-append_seam l (get_or came k 0) (drop (suc k) came) m
    ∙ sym (append_assoc l (m ∷ []) (drop (suc k) came))
    ∙ ap (λ (n : ℕ). (l ++ (m ∷ [])) ++ drop n came) (sym up)

-- a leaf is a node
leaves-few : (F : Forest ℕ) → leaves F ≤ size F
unfolding leaves
leaves-few end = omega arith
leaves-few (leaf n w x rest) = omega (arith, leaves-few rest)
leaves-few (inner n w k under rest) = omega (arith, leaves-few under, leaves-few rest)

-- in its own window an open node is a candidate
own-window : (l h : ℕ) → l < h → candidate natural l h l h ≡ true
own-window l h o = lt-ltb (max l l) (min h h) (omega arith)

module _ {K S H : List ℕ} {G n : ℕ} {st0 : Store} (came P : List ℕ) (R : ReadyRoll K S H G n st0 (length came)) where
  abbrev F : Forest ℕ
  F = height_tree R.table

  -- after some walks: `used` leaves are read and `at` policy bytes are used; the store and the list are these
  pub record Rolling (used at : ℕ) (st : Store) (now : List ℕ) : Type 0 where
    pub read : List ℕ
    pub going : Going R.text R.table R.accepted P st0 read (drop at P) st
    pub count : used ≡ length read
    pub leaves : now ≡ laid read came

  pub rolling-begin : Rolling 0 0 st0 came
  rolling-begin =
      record {
        read = [];
        going = going-begin R.text R.table R.accepted P st0 (subst (λ (m : ℕ). AtEnds m (span R.table.head * grain R.table) st0) R.size R.ready);
        count = refl;
        leaves = refl;
      }

  pub rolling-some : 0 < n
  rolling-some = root-some (slices K S R.weights H) n F R.spans (heights-rooted R.text R.table R.accepted)

  module _ {used at : ℕ} {st : Store} {now : List ℕ} (L : Rolling used at st now) where
    pub rolling-end : high_at st 0 ≤ low_at st 0 → RolledIn (roll_s (grain R.table) (leaves F) P F st0) st used came now
    rolling-end le =
        subst (λ d. RolledIn d st used came now)
        (sym (going_end R.text R.table R.accepted P st0 L.read (drop at P) st L.going (le-ltb (low_at st 0) (high_at st 0) le)))
        (record { store = refl; used = L.count; leaves = L.leaves })

    module _ (o : low_at st 0 < high_at st 0) where
      pub rolling-ready : ReadyNode K S H G 0 (low_at st 0) (high_at st 0) st
      rolling-ready =
          let s = R.text in
          let t = R.table in
          let h = R.accepted in
          let r = L.going.room in
          record {
            weights = R.weights;
            nodes = F;
            upto = n;
            spans = R.spans;
            some = rolling-some;
            sound = subst (λ (g : ℕ). Sound (keep g F st)) (sym R.grained) (going-sound s t h P st0 L.read (drop at P) st L.going);
            live = own-window (low_at st 0) (high_at st 0) o;
            grain = omega (arith, R.grained, accepted-grain s t h);
            kinds = R.kinds;
            stops = R.stops;
            heights = R.heights;
            low = omega (arith, R.size, r.0);
            high = omega (arith, R.size, r.1);
            few = omega (arith, R.size, (accepted-size s t h).1);
          }

      abbrev one : WalkS
      one = walk_s (grain R.table) (low_at st 0) (high_at st 0) 0 (drop at P) F st

      -- r and st2 are what a walk left
      module _ (r : Step) (st2 : Store) (told : Walked K S H G (low_at st 0) (high_at st 0) (drop at P) st r P st2) where
        walked : WalkLeft one r P st2
        unfolding rolling-ready
        walked =
            subst (λ (g : ℕ). WalkLeft (walk_s g (low_at st 0) (high_at st 0) 0 (drop at P) F st) r P st2) R.grained (told rolling-ready)

        next : (m : ℕ) × (one.read ≡ m ∷ []) × (length L.read < leaves F) × Going R.text R.table R.accepted P st0 (L.read ++ (m ∷ [])) one.policy one.store
        next = going-walk R.text R.table R.accepted P st0 L.read (drop at P) st L.going (lt-ltb (low_at st 0) (high_at st 0) o)

        pub rolling-less : used < length came
        rolling-less = omega (arith, L.count, next.2, R.space)

        pub rolling-few : used < 1024
        rolling-few =
            let s = R.text in
            let t = R.table in
            let h = R.accepted in
            omega (arith, L.count, next.2, leaves-few F, (height-numbered s t h).0, (accepted-size s t h).1)

        pub rolling-small : r.leaf < 1024
        rolling-small = walked.small

        pub rolling-on : Rolling (used + 1) r.used st2 (set now used r.leaf)
        rolling-on =
            let l = L.read in
            let m : ℕ = next.0 in
            let same : m ≡ r.leaf = ap (first_or 0) (sym next.1 ∙ walked.read) in
            let g : Going R.text R.table R.accepted P st0 (l ++ (m ∷ [])) one.policy one.store = next.3 in
            record {
              read = l ++ (r.leaf ∷ []);
              going =
                  subst₂ (λ (p : List ℕ) (s : Store). Going R.text R.table R.accepted P st0 (l ++ (r.leaf ∷ [])) p s) walked.policy (sym walked.store)
                  (subst (λ (x : ℕ). Going R.text R.table R.accepted P st0 (l ++ (x ∷ [])) one.policy one.store) same g);
              count = omega (arith, L.count, length-append l (r.leaf ∷ []));
              leaves =
                  ap₂ (λ (y : List ℕ) (k : ℕ). set y k r.leaf) L.leaves L.count
                  ∙ laid_more l came r.leaf (omega (arith, L.count, rolling-less));
            }
