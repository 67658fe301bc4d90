-- Demand 3 of the search of every accepted table with its index. Document 02, Item 14.
use Prim.Native.Nat.{ℕ, ◌+◌, ◌*◌, ◌≤◌}
use mathlib.Core.Path.{◌≡◌, refl, subst, ◌∙◌}
use mathlib.Core.Bool.{true, false}
use mathlib.Core.List.{List, []}
use mathlib.Core.Option.{none, some}
use lib.IntN.{ℤ, pos, ◌+ℤ◌}
use lib.Signed.{lt_z, le_z}
use Rattle.line.specs.Refusal.{fine}
use Rattle.line.specs.Line.{larger}
use Rattle.table.specs.Tree.{is_end}
use Rattle.table.specs.Table.{Table, tree, read_text, greatest, grain}
use Rattle.table.specs.Inside.{height_tree}
use Rattle.table.specs.Accepted.{span}
use Rattle.table.specs.Root.{Side, AtM, AtN, Root, nobody, to_play, children, root_of}
use Rattle.table.proofs.Accepted.{accepted-filled}
use Rattle.worth.specs.Worth.{worth_of}
use Rattle.worth.specs.Inside.Heights.{height_worth}
use Rattle.search.specs.Search.{Seen, Rules, unlimited, node_of}
use Rattle.search.specs.Inside.{grained, own_height_rules, height_own}
use Rattle.search.specs.Whole.{in_grains, whole_own, own_rules, searched_own}
use Rattle.search.proofs.Grains.{grains-filled}
use Rattle.search.proofs.Own.{own, own-within, own-fit, own-shifted}
use Rattle.promise.specs.Play.{play_worth}
use Rattle.promise.specs.Entered.{Entered, worse, FirstBest, entered_own}
use Rattle.promise.proofs.Order.{worse-strict, strict-whole}
use Rattle.promise.proofs.Named.{Held, Chosen, root-held, root-named, root-entered, asks-whole, grains-root, grains-children}
use Rattle.promise.proofs.Root.{Played, Tree, holds, narrow, plays}
use Rattle.promise.proofs.Demand.{tree-fine, found-contains, found_side, found-width, found-near}

module _ (s : List ℕ) (t : Table) (r : read_text s ≡ fine t) (ε : ℕ) where
  abbrev G : ℕ
  G = grain t

  abbrev far : ℕ
  far = span t.head * G

  abbrev H : Seen ℕ
  H = height_own t ε unlimited

  abbrev R : Rules ℕ
  R = own_height_rules far ε unlimited

  own-tree : Tree (larger t.head) (greatest t.lines) (grain t) (span t.head) (own far) (height_tree t)
  own-tree = tree-fine s t r (own far) (own-within s t r) (own-fit s t r)

  -- the bounds over heights hold the worth, and lie between the ends
  own-hold : ((height_own t ε unlimited).low ≤ height_worth t) × (height_worth t ≤ (height_own t ε unlimited).high)
      × ((height_own t ε unlimited).high ≤ span t.head * grain t)
  own-hold = holds (larger t.head) (greatest t.lines) G (span t.head) R (λ n f. refl) (λ x n. absurd x) (height_tree t) own-tree

  own-close : (height_own t ε unlimited).high ≤ (height_own t ε unlimited).low + ε
  own-close = narrow (larger t.head) (greatest t.lines) G (span t.head) R (λ n f. refl) (λ x n. absurd x) (λ _. refl) (height_tree t) own-tree

  own-played : (m : ℕ) → node_of H.play ≡ some m → Played far (grained G (height_tree t)) H.low H.high (height_worth t) m
  own-played = plays (larger t.head) (greatest t.lines) G (span t.head) R (λ n f. refl) (λ x n. absurd x) (height_tree t) own-tree

  -- "The exact worth stays within the bounds"
  pub own-contains : (le_z (searched_own t ε).low (worth_of t) ≡ true) × (le_z (worth_of t) (searched_own t ε).high ≡ true)
  own-contains =
      let x = own-shifted s t r ε in
      found-contains s t r H (searched_own t ε) x.0 x.1 x.2 own-hold.0 own-hold.1 own-played

  -- "the margin is kept"
  pub own-width : le_z (searched_own t ε).high ((searched_own t ε).low +ℤ pos ε) ≡ true
  own-width =
      let x = own-shifted s t r ε in
      found-width s t r H (searched_own t ε) x.0 x.1 x.2 own-hold.0 own-hold.1 own-played ε own-close

  -- a named play is worth at least low at M and at most high at N
  pub own-play-side : (m : ℕ) → node_of (searched_own t ε).play ≡ some m
      → (v : ℤ) × (play_worth t m ≡ some v)
      × (root_of (tree t) ≡ to_play AtM → le_z (searched_own t ε).low v ≡ true)
      × (root_of (tree t) ≡ to_play AtN → le_z v (searched_own t ε).high ≡ true)
  own-play-side =
      let x = own-shifted s t r ε in
      found_side s t r H (searched_own t ε) x.0 x.1 x.2 own-hold.0 own-hold.1 own-played

  -- "and the play named is worth within the margin of it"
  pub own-play-near : (m : ℕ) → node_of (searched_own t ε).play ≡ some m
      → (v : ℤ) × (play_worth t m ≡ some v) × (le_z v (worth_of t +ℤ pos ε) ≡ true) × (le_z (worth_of t) (v +ℤ pos ε) ≡ true)
  own-play-near =
      let x = own-shifted s t r ε in
      found-near s t r H (searched_own t ε) x.0 x.1 x.2 own-hold.0 own-hold.1 own-played ε own-close

  -- at an M or N root there is a play, the first best child entered
  pub own-play-named : (side : Side) → root_of (tree t) ≡ to_play side
      → (x : Entered ℤ) × (node_of (searched_own t ε).play ≡ some x.node) × FirstBest (worse lt_z side) (entered_own t ε) x
  own-play-named side e =
      subst (λ (q : Root). Chosen (worse lt_z) q (entered_own t ε) (searched_own t ε).play) (grains-root G (tree t) ∙ e)
      (root-named whole_own (worse lt_z) (worse-strict lt_z strict-whole) asks-whole (own_rules ε) (in_grains G (tree t)) refl (grains-filled G (tree t) (accepted-filled s t r)))

  -- "at C and L there is none"
  pub own-play-none : root_of (tree t) ≡ nobody → node_of (searched_own t ε).play ≡ none
  own-play-none e =
      subst (λ (q : Root). Held (worse lt_z) q (entered_own t ε) (searched_own t ε).play) (grains-root G (tree t) ∙ e)
      (root-held whole_own (worse lt_z) (worse-strict lt_z strict-whole) asks-whole (own_rules ε) (in_grains G (tree t)))

  -- where the root has a child, one is entered
  pub own-child-entered : is_end (children (tree t)) ≡ false → entered_own t ε ≡ [] → ⊥
  own-child-entered x = root-entered whole_own (own_rules ε) (in_grains G (tree t)) refl (grains-children G (tree t) ∙ x)
