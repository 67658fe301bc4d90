-- What is demanded of rollouts, for every accepted table without C and every policy list.
use Prim.Native.Nat.{ℕ, ◌*◌, ◌≤◌}
use mathlib.Core.Path.{◌≡◌, sym, ap, ap₂, ◌∙◌, subst, subst₂}
use mathlib.Core.Bool.{true, false}
use mathlib.Core.List.{List, [], ◌∷◌, ◌++◌, map}
use native.Mathlib.Omega.{arith}
use borrow.Author.Tests.{le-ltb}
use lib.ListN.{length}
use lib.IntN.{ℤ}
use lib.Dec.{ltb}
use lib.Signed.{lt_z}
use Rattle.line.specs.Refusal.{fine}
use Rattle.line.specs.Line.{larger, Within}
use Rattle.table.specs.Tree.{leaves}
use Rattle.table.specs.Table.{Table, tree, read_text, grain}
use Rattle.table.specs.Leaves.{leaf_nodes, Picks, Distinct}
use Rattle.table.specs.Inside.{height_tree}
use Rattle.table.specs.Accepted.{span, Proper}
use Rattle.table.proofs.Heights.{heights-map}
use Rattle.table.proofs.Accepted.{accepted-proper, accepted-filled}
use Rattle.table.proofs.Leaves.{picks-distinct, picks-few, nodes-length, leaves-distinct}
use Rattle.worth.specs.Worth.{worth_of}
use Rattle.worth.specs.Inside.Heights.{height_worth}
use Rattle.worth.proofs.Worth.{divides, shift}
use Rattle.search.specs.Inside.{grained}
use Rattle.rollout.specs.Inside.Heights.{natural, height_rolled}
use Rattle.rollout.specs.Inside.Raised.{map_kept, map_pair, map_walk, map_rolled, above}
use Rattle.rollout.specs.Rollout.{Kept, Walk, Rolled, lows, highs, first_or, records, walk, roll}
use Rattle.rollout.specs.Whole.{whole, bottom, has_chance, rolled, rolled_worth, rolled_store}
use Rattle.rollout.specs.Leaves.{NewLeaf}
use Rattle.rollout.specs.Store.{after_walks, root_low, root_high, is_open, next_walk, tree_worths, Holds}
use Rattle.rollout.proofs.Raise.{lows-map, highs-map, records-map, first-map, walk-map}
use Rattle.rollout.proofs.Shift.{lt_above, keeps, bottom-above, top_above, rolled-above, after-above}
use Rattle.rollout.proofs.Turns.{Reads}
use Rattle.rollout.proofs.Rolls.{Rolls, rolls-more, rolls-sound, rolls-some, root-reads, root_low as low_height, root_high as high_height}
use Rattle.rollout.proofs.Table.{start, start-sound, start-some, height-rolls, rolls-leaves, no-chance, height-ends}
use Rattle.rollout.proofs.Held.{every_exact, sound-holds, rolls-every, holds-above, worths-above}

module _ (s : List ℕ) (t : Table) (h : read_text s ≡ fine t) where
  -- how many grains the ends are apart
  abbrev far : ℕ
  far = span t.head * grain t

  -- the root's bounds over the integers are those over heights
  low-above : (f : Kept ℕ) → root_low t (map_kept (above t) f) ≡ above t (low_height 0 far f)
  low-above f = ap₂ first_or (bottom-above s t h) (lows-map (above t) f) ∙ first-map (above t) 0 (lows f)

  high-above : (f : Kept ℕ) → root_high t (map_kept (above t) f) ≡ above t (high_height 0 far f)
  high-above f = ap₂ first_or (top_above s t h) (highs-map (above t) f) ∙ first-map (above t) far (highs f)

  -- ---- over the integers as over heights

  -- "Every worth, bound, margin and loss is a whole number of grains": each bound is the lowest end and a height
  pub shifted : (p : List ℕ) → rolled t p ≡ map_rolled (above t) (height_rolled t p)
  shifted p = rolled-above s t h p

  pub shifted-read : (p : List ℕ) → (rolled t p).read ≡ (height_rolled t p).read
  shifted-read p = ap (λ (r : Rolled ℤ). r.read) (shifted p)

  pub shifted-store : (p : List ℕ) → rolled_store t p ≡ map (map_pair (above t)) (records (height_rolled t p).kept)
  shifted-store p = ap (λ (r : Rolled ℤ). records r.kept) (shifted p) ∙ records-map (above t) (height_rolled t p).kept

  pub shifted-worth : (p : List ℕ) → rolled_worth t p ≡ above t (first_or 0 (lows (height_rolled t p).kept))
  shifted-worth p = ap (λ (r : Rolled ℤ). root_low t r.kept) (shifted p) ∙ low-above (height_rolled t p).kept

  module _ (none : has_chance t ≡ false) where
    -- without C the worth of every node is that over heights
    every-worth : tree_worths (grain t) (tree t) ≡ map (above t) (every_exact (start s t h))
    every-worth =
        rw (heights-map t) (worths-above (larger t.head) (grain t) t.head 0 far 0 0 false (tree t)
        (subst (λ (K : ℕ). Proper (larger t.head) K (Within t.head) 0 0 false (tree t)) (no-chance s t h none) (accepted-proper s t h))
        (accepted-filled s t h) (divides s t h))

    -- ---- the answer

    -- "Answer: the worth"
    pub ends-on-worth : (p : List ℕ) → rolled_worth t p ≡ worth_of t
    ends-on-worth p = shifted-worth p ∙ ap (above t) (height-ends s t h none p).0 ∙ sym (shift s t h)

    -- the root's high too: rollouts end closed
    pub ends-high : (p : List ℕ) → root_high t (rolled t p).kept ≡ worth_of t
    ends-high p =
        ap (λ (r : Rolled ℤ). root_high t r.kept) (shifted p)
        ∙ high-above (height_rolled t p).kept
        ∙ ap (above t) (height-ends s t h none p).1
        ∙ sym (shift s t h)

    -- "While the root's low is below its high, walk down": the walks that the definition makes are enough
    pub ends-closed : (p : List ℕ) → is_open t (rolled t p).kept ≡ false
    ends-closed p =
        ap₂ lt_z (ends-on-worth p ∙ shift s t h) (ends-high p ∙ shift s t h)
        ∙ lt_above (bottom t) (height_worth t) (height_worth t)
        ∙ le-ltb (height_worth t) (height_worth t) (omega arith)

    -- ---- the leaves read

    -- "The leaf reached is read": each entry is a leaf of the table, and no leaf is read twice
    pub only-leaves : (p : List ℕ) → Picks (leaf_nodes (tree t)) (rolled t p).read
    only-leaves p = rw (shifted-read p) (rolls-leaves s t h (height-rolls s t h (leaves (grained (grain t) (height_tree t))) p))

    pub no-leaf-twice : (p : List ℕ) → Distinct (rolled t p).read
    no-leaf-twice p = picks-distinct (only-leaves p) (leaves-distinct s t h)

    -- "the number of leaves read" has room in a leaf list that is long enough
    pub few-leaves : (p : List ℕ) → length (rolled t p).read ≤ leaves (tree t)
    few-leaves p = omega (arith, picks-few (only-leaves p), nodes-length (tree t))

    new-leaf : (l : List ℕ) (m : ℕ) {f : Kept ℕ} → Rolls (start s t h) (l ++ (m ∷ [])) f → NewLeaf (tree t) l m
    new-leaf l m r = let q = rolls-leaves s t h r in (q, picks-distinct q (leaves-distinct s t h))

    -- Document 003, Lemma 3: after any number of walks, while the root is open, the next walk reads exactly one leaf, and one that was not read.
    pub always-candidate : (n : ℕ) (p q : List ℕ) → is_open t (after_walks t n p).kept ≡ true
        → (m : ℕ) × ((next_walk t q (after_walks t n p).kept).read ≡ m ∷ []) × NewLeaf (tree t) (after_walks t n p).read m
    always-candidate n p q =
        subst (λ (r : Rolled ℤ). is_open t r.kept ≡ true → (m : ℕ) × ((next_walk t q r.kept).read ≡ m ∷ []) × NewLeaf (tree t) r.read m)
        (sym (after-above s t h n p)) go
      where
        d : Rolled ℕ
        d = roll natural 0 far n p (start s t h)

        go : is_open t (map_kept (above t) d.kept) ≡ true
            → (m : ℕ) × ((next_walk t q (map_kept (above t) d.kept)).read ≡ m ∷ []) × NewLeaf (tree t) d.read m
        go e =
            let f : Kept ℕ = d.kept in
            let a : ℕ = low_height 0 far f in
            let b : ℕ = high_height 0 far f in
            let o : ltb a b ≡ true = sym (ap₂ lt_z (low-above f) (high-above f) ∙ lt_above (bottom t) a b) ∙ e in
            let r : Rolls (start s t h) d.read f = height-rolls s t h n p in
            let x : Reads f (walk natural a b 0 q f) = root-reads 0 far q f (rolls-sound r (start-sound s t h)) (rolls-some r (start-some s t h)) o in
            let w : next_walk t q (map_kept (above t) f) ≡ map_walk (above t) (walk natural a b 0 q f) =
            ap₂ (λ (y z : ℤ). walk whole y z 0 q (map_kept (above t) f)) (low-above f) (high-above f)
            ∙ walk-map (above t) natural whole (keeps (bottom t)) a b 0 q f in
            (x.node, ap (λ (y : Walk ℤ). y.read) w ∙ x.read, new-leaf d.read x.node (rolls-more r x.turns))

    -- ---- the store

    -- "the store as last updated", and every store before it: the worth of every node lies between its low and its high
    pub stores-hold : (n : ℕ) (p : List ℕ) → Holds (tree_worths (grain t) (tree t)) (records (after_walks t n p).kept)
    stores-hold n p =
        let d : Rolled ℕ = roll natural 0 far n p (start s t h) in
        let r : Rolls (start s t h) d.read d.kept = height-rolls s t h n p in
        let e : records (after_walks t n p).kept ≡ map (map_pair (above t)) (records d.kept) =
        ap (λ (y : Rolled ℤ). records y.kept) (after-above s t h n p) ∙ records-map (above t) d.kept in
        let v : tree_worths (grain t) (tree t) ≡ map (above t) (every_exact d.kept) =
        every-worth ∙ ap (map (above t)) (sym (rolls-every r)) in
        subst₂ Holds (sym v) (sym e) (holds-above (bottom t) (sound-holds d.kept (rolls-sound r (start-sound s t h))))
