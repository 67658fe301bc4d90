-- Rollouts of an accepted table, over heights: where they begin, that they end on the worth, and which leaves they read.
use Prim.Native.Nat.{ℕ, zero, suc, ◌*◌, ◌≤◌}
use mathlib.Core.Path.{◌≡◌, refl, ap, ◌∙◌, subst}
use mathlib.Core.Bool.{false}
use mathlib.Core.List.{List, [], ◌∷◌, map}
use native.Mathlib.Omega.{arith}
use borrow.Author.Tests.{eqb-true, not-false}
use lib.Dec.{eqb}
use lib.ListN.{length}
use Rattle.line.specs.Refusal.{fine}
use Rattle.line.specs.Line.{larger}
use Rattle.table.specs.Tree.{Forest, leaves}
use Rattle.table.specs.Table.{Table, tree, read_text, greatest, grain}
use Rattle.table.specs.Leaves.{leaf_nodes, Picks, nothing, this}
use Rattle.table.specs.Inside.{height_tree}
use Rattle.table.specs.Accepted.{span, Proper}
use Rattle.table.proofs.Accepted.{heights-rooted, heights-proper, heights-filled, no-chance-grain}
use Rattle.table.proofs.Leaves.{drops-length, nodes-length, height-nodes}
use Rattle.table.proofs.Ends.{rooted-some}
use Rattle.worth.specs.Worth.{Share}
use Rattle.worth.specs.Inside.Heights.{height_shares, first_height, height_worth}
use Rattle.search.specs.Inside.{grained}
use Rattle.rollout.specs.Inside.Heights.{natural, height_rolled}
use Rattle.rollout.specs.Inside.Sound.{SomeNode, Sound}
use Rattle.rollout.specs.Rollout.{Kept, fresh, first_or, roll}
use Rattle.rollout.specs.Whole.{has_chance}
use Rattle.rollout.proofs.Rolls.{exacts, unread, Rolls, root_low, root_high, roll-rolls, roll-ends, rolls-picks}
use Rattle.rollout.proofs.Fresh.{fresh-some, fresh-sound, fresh-exacts, grained-nodes, all-unread, none-unread}

-- what holds of all leaves and of none holds of the leaves unread at first
unread-start : (P : List ℕ → Type 0) (S : ℕ) (F : Forest ℕ) → P (leaf_nodes F) → P [] → P (unread (fresh 0 S F))
unread-start P zero F p q = rw (none-unread F) q
unread-start P (suc S) F p q = rw (all-unread (suc S) F (omega arith)) p

none-picked : (m : List ℕ) {l r : List ℕ} → length l ≡ 0 → Picks l r → Picks m r
none-picked m e nothing = nothing
none-picked m e (this d p) = absurd (omega (arith, drops-length d))

first-worth : (xs : List (Share ℕ)) → first_or 0 (map (λ (x : Share ℕ). x.worth) xs) ≡ first_height xs
first-worth [] = refl
first-worth (x ∷ xs) = refl

module _ (s : List ℕ) (t : Table) (h : read_text s ≡ fine t) where
  abbrev pub start : Kept ℕ
  start = fresh 0 (span t.head * grain t) (grained (grain t) (height_tree t))

  pub start-sound : Sound start
  start-sound =
      fresh-sound (larger t.head) (greatest t.lines) (span t.head) (grain t) 0 0 false (height_tree t) (heights-proper s t h) (heights-filled s t h)

  pub start-some : SomeNode start
  start-some = fresh-some 0 (span t.head * grain t) (grain t) (height_tree t) (rooted-some (height_tree t) (heights-rooted s t h))

  -- the numbers of the leaves are those of the table's tree
  start-nodes : leaf_nodes (grained (grain t) (height_tree t)) ≡ leaf_nodes (tree t)
  start-nodes = grained-nodes (grain t) (height_tree t) ∙ height-nodes s t h

  start-few : length (unread start) ≤ leaves (grained (grain t) (height_tree t))
  start-few =
      unread-start (λ (l : List ℕ). length l ≤ leaves (grained (grain t) (height_tree t))) (span t.head * grain t) (grained (grain t) (height_tree t))
      (omega (arith, nodes-length (grained (grain t) (height_tree t)))) (omega arith)

  start-picks : (l : List ℕ) → Picks (unread start) l → Picks (leaf_nodes (tree t)) l
  start-picks l =
      unread-start (λ (u : List ℕ). Picks u l → Picks (leaf_nodes (tree t)) l) (span t.head * grain t) (grained (grain t) (height_tree t))
      (λ p. rw start-nodes at p) (λ p. none-picked (leaf_nodes (tree t)) refl p)

  -- after any number of walks

  pub height-rolls : (n : ℕ) (p : List ℕ)
      → Rolls start (roll natural 0 (span t.head * grain t) n p start).read (roll natural 0 (span t.head * grain t) n p start).kept
  height-rolls n p = roll-rolls 0 (span t.head * grain t) n p start start-sound start-some

  pub rolls-leaves : {f : Kept ℕ} {l : List ℕ} → Rolls start l f → Picks (leaf_nodes (tree t)) l
  rolls-leaves {l} r = start-picks l (rolls-picks r)

  -- without C

  module _ (none : has_chance t ≡ false) where
    pub no-chance : greatest t.lines ≡ 0
    no-chance = eqb-true (greatest t.lines) 0 (not-false (eqb (greatest t.lines) 0) none)

    -- "1 where there is no C"
    pub one-grain : grain t ≡ 1
    one-grain = no-chance-grain s t h no-chance

    pub plain : Proper (larger t.head) 0 (λ (x : ℕ). x ≤ span t.head) 0 0 false (height_tree t)
    plain = subst (λ (K : ℕ). Proper (larger t.head) K (λ (x : ℕ). x ≤ span t.head) 0 0 false (height_tree t)) no-chance (heights-proper s t h)

    start-exact : first_or 0 (exacts start) ≡ height_worth t
    start-exact =
        ap (first_or 0) (fresh-exacts (larger t.head) (λ (x : ℕ). x ≤ span t.head) (grain t) 0 (span t.head * grain t) 0 0 false (height_tree t) plain)
        ∙ first-worth (height_shares (grain t) (height_tree t))

    pub height-ends : (p : List ℕ)
        → (root_low 0 (span t.head * grain t) (height_rolled t p).kept ≡ height_worth t)
        × (root_high 0 (span t.head * grain t) (height_rolled t p).kept ≡ height_worth t)
    height-ends p =
        let r = roll-ends 0 (span t.head * grain t) (leaves (grained (grain t) (height_tree t))) p start start-sound start-some start-few in
        (r.0 ∙ start-exact, r.1 ∙ start-exact)
