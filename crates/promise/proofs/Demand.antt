-- Demand 3 of the search of every accepted table, with a budget and without. Document 01, 'The search', and document 02, Items 3 and 6.
use Prim.Native.Nat.{ℕ, ◌+◌, ◌*◌, ◌≤◌}
use mathlib.Core.Path.{◌≡◌, refl, sym, ap, ap₂, subst, ◌∙◌}
use mathlib.Core.Bool.{Bool, true, false}
use mathlib.Core.List.{List, []}
use mathlib.Core.Option.{none, some}
use lib.ListN.{length}
use lib.IntN.{ℤ, pos, ◌+ℤ◌, ◌*ℤ◌, +ℤ_assoc}
use lib.Signed.{lt_z, le_z}
use Rattle.numbers.proofs.Above.{le-above}
use Rattle.line.specs.Refusal.{fine}
use Rattle.line.specs.Line.{larger}
use Rattle.table.specs.Tree.{Forest, is_end}
use Rattle.table.specs.Table.{Table, tree, read_text, greatest, grain}
use Rattle.table.specs.Inside.{Spans, height_tree, slices_of}
use Rattle.table.specs.Accepted.{span}
use Rattle.table.specs.Root.{Side, AtM, AtN, Root, nobody, to_play, children, root_of}
use Rattle.table.proofs.Heights.{above, map_forest, heights-map}
use Rattle.table.proofs.Accepted.{accepted-proper, accepted-filled, accepted-spans, heights-rooted, heights-proper, heights-filled, heights-totals}
use Rattle.worth.specs.Worth.{worth_of}
use Rattle.worth.specs.Inside.Heights.{height_worth, SmallWorths}
use Rattle.worth.proofs.Worth.{heights-small, divides, shift as worth-shift}
use Rattle.search.specs.Search.{Frame, Seen, unlimited, node_of}
use Rattle.search.specs.Inside.{grained, height_rules, height_searched}
use Rattle.search.specs.Whole.{whole, in_grains, rules, searched, searched_until}
use Rattle.search.proofs.Grains.{plain, grains-filled}
use Rattle.search.proofs.Heights.{Within}
use Rattle.search.proofs.Fit.{Fit}
use Rattle.search.proofs.Table.{tree-within, tree-fit, shifted}
use Rattle.promise.specs.Play.{play_worth}
use Rattle.promise.specs.Entered.{Entered, worse, FirstBest, entered_of}
use Rattle.promise.proofs.Play.{Child}
use Rattle.promise.proofs.Order.{worse-strict, strict-whole}
use Rattle.promise.proofs.Named.{Held, Chosen, root-held, root-named, root-unread, root-entered, asks-whole, grains-root, grains-children}
use Rattle.promise.proofs.Root.{OnSide, Played, Tree, near, holds, narrow, plays}
use Rattle.promise.proofs.Children.{play-worth, root-same}

-- ε more
le-margin : (b : ℤ) (x y ε : ℕ) → x ≤ y + ε → le_z (b +ℤ pos x) (b +ℤ pos y +ℤ pos ε) ≡ true
le-margin b x y ε h = rw (+ℤ_assoc b (pos y) (pos ε)) (le-above b x (y + ε) h)

module _ (s : List ℕ) (t : Table) (r : read_text s ≡ fine t) where
  abbrev G : ℕ
  G = grain t

  abbrev base : ℤ
  base = t.head.lowest *ℤ pos G

  abbrev top-height : ℕ
  top-height = span t.head * G

  -- the tree of heights, with frames that nest and that G divides
  pub tree-fine : (frame : ℕ → Forest ℕ → Frame ℕ)
      → Within frame (record { bottom = 0; top = span t.head * grain t; total = 0 }) (grained (grain t) (height_tree t)) → Fit frame 1 (grained (grain t) (height_tree t))
      → Tree (larger t.head) (greatest t.lines) (grain t) (span t.head) frame (height_tree t)
  tree-fine frame i x = (heights-proper s t r, heights-filled s t r, heights-totals s t r, heights-rooted s t r, i, x)

  -- ---- the root and its children

  root_is : root_of (grained G (height_tree t)) ≡ root_of (tree t)
  root_is =
      ap (λ (f : Forest ℕ). root_of (grained G f)) (heights-map t)
      ∙ root-same G (above t.head.lowest) (tree t)

  lowered-small : SmallWorths G top-height (map_forest (above t.head.lowest) (tree t))
  lowered-small = rw (heights-map t) at (heights-small s t r)

  lowered-spans : Spans (slices_of t) 0 (length t.lines) (map_forest (above t.head.lowest) (tree t))
  lowered-spans = subst (λ (f : Forest ℕ). Spans (slices_of t) 0 (length t.lines) f) (heights-map t) (accepted-spans s t r)

  child-is : (m v : ℕ) → Child (plain top-height) m v (children (grained G (height_tree t))) → play_worth t m ≡ some (base +ℤ pos v)
  child-is m v c =
      play-worth (larger t.head) G (greatest t.lines) top-height t.head (tree t) (accepted-proper s t r) (accepted-filled s t r)
      (divides s t r) lowered-small (slices_of t) (length t.lines) lowered-spans m v
      (subst (λ (f : Forest ℕ). Child (plain top-height) m v (children (grained G f))) (heights-map t) c)

  -- ---- what a search over heights found, H, and over the integers, Z

  module _ (H : Seen ℕ) (Z : Seen ℤ) (low-is : Z.low ≡ base +ℤ pos H.low) (high_is : Z.high ≡ base +ℤ pos H.high)
      (play-is : node_of Z.play ≡ node_of H.play) (low : H.low ≤ height_worth t) (high : height_worth t ≤ H.high)
      (played : (m : ℕ) → node_of H.play ≡ some m → Played top-height (grained G (height_tree t)) H.low H.high (height_worth t) m) where
    pub found-contains : (le_z Z.low (worth_of t) ≡ true) × (le_z (worth_of t) Z.high ≡ true)
    found-contains = (
      ap₂ le_z low-is (worth-shift s t r) ∙ le-above base H.low (height_worth t) low,
      ap₂ le_z (worth-shift s t r) high_is ∙ le-above base (height_worth t) H.high high,
    )

    pub found_side : (m : ℕ) → node_of Z.play ≡ some m
        → (v : ℤ) × (play_worth t m ≡ some v)
        × (root_of (tree t) ≡ to_play AtM → le_z Z.low v ≡ true)
        × (root_of (tree t) ≡ to_play AtN → le_z v Z.high ≡ true)
    found_side m e =
        let p = played m (sym play-is ∙ e) in (
          base +ℤ pos p.value,
          child-is m p.value p.named,
          λ d. ap (λ (z : ℤ). le_z z (base +ℤ pos p.value)) low-is ∙ le-above base H.low p.value
              (subst (λ (q : Root). OnSide q H.low H.high (height_worth t) p.value) (root_is ∙ d) p.side).0,
          λ d. ap (le_z (base +ℤ pos p.value)) high_is ∙ le-above base p.value H.high
              (subst (λ (q : Root). OnSide q H.low H.high (height_worth t) p.value) (root_is ∙ d) p.side).0,
        )

    module _ (ε : ℕ) (close : H.high ≤ H.low + ε) where
      pub found-width : le_z Z.high (Z.low +ℤ pos ε) ≡ true
      found-width = ap₂ le_z high_is (ap (λ (z : ℤ). z +ℤ pos ε) low-is) ∙ le-margin base H.high H.low ε close

      pub found-near : (m : ℕ) → node_of Z.play ≡ some m
          → (v : ℤ) × (play_worth t m ≡ some v) × (le_z v (worth_of t +ℤ pos ε) ≡ true) × (le_z (worth_of t) (v +ℤ pos ε) ≡ true)
      found-near m e =
          let p = played m (sym play-is ∙ e) in
          let n = near (root_of (grained G (height_tree t))) H.low H.high (height_worth t) p.value ε low high close p.side in (
            base +ℤ pos p.value,
            child-is m p.value p.named,
            ap (λ (z : ℤ). le_z (base +ℤ pos p.value) (z +ℤ pos ε)) (worth-shift s t r) ∙ le-margin base p.value (height_worth t) ε n.0,
            ap (λ (z : ℤ). le_z z (base +ℤ pos p.value +ℤ pos ε)) (worth-shift s t r) ∙ le-margin base (height_worth t) p.value ε n.1,
          )

  -- ---- whatever the budget is

  module _ (ε : ℕ) (full : List ℕ → Bool) where
    abbrev heights : Seen ℕ
    heights = height_searched t ε full

    abbrev plain-tree : Tree (larger t.head) (greatest t.lines) (grain t) (span t.head) (plain top-height) (height_tree t)
    plain-tree = tree-fine (plain top-height) (tree-within s t r) (tree-fit s t r)

    -- the bounds over heights hold the worth, and lie between the ends
    pub heights-hold : (heights.low ≤ height_worth t) × (height_worth t ≤ heights.high) × (heights.high ≤ span t.head * grain t)
    heights-hold =
        holds (larger t.head) (greatest t.lines) G (span t.head) (height_rules 0 top-height ε full) (λ n f. refl) (λ _ n. (refl, refl)) (height_tree t) plain-tree

    played : (m : ℕ) → node_of heights.play ≡ some m → Played top-height (grained G (height_tree t)) heights.low heights.high (height_worth t) m
    played =
        plays (larger t.head) (greatest t.lines) G (span t.head) (height_rules 0 top-height ε full) (λ n f. refl) (λ _ n. (refl, refl)) (height_tree t) plain-tree

    abbrev is : ((searched_until t ε full).low ≡ base +ℤ pos heights.low) × ((searched_until t ε full).high ≡ base +ℤ pos heights.high)
        × (node_of (searched_until t ε full).play ≡ node_of heights.play)
    is = ((shifted s t r ε full).0, (shifted s t r ε full).1, (shifted s t r ε full).2)

    -- the exact worth "lies within those same bounds"
    pub contains : (le_z (searched_until t ε full).low (worth_of t) ≡ true) × (le_z (worth_of t) (searched_until t ε full).high ≡ true)
    contains = found-contains heights (searched_until t ε full) is.0 is.1 is.2 heights-hold.0 heights-hold.1 played

    -- ---- the play

    -- at an M or N root that is not met unread there is a play, the first best child entered
    pub play-named : full [] ≡ false → (side : Side) → root_of (tree t) ≡ to_play side
        → (x : Entered ℤ) × (node_of (searched_until t ε full).play ≡ some x.node) × FirstBest (worse lt_z side) (entered_of t ε full) x
    play-named z side e =
        subst (λ (q : Root). Chosen (worse lt_z) q (entered_of t ε full) (searched_until t ε full).play) (grains-root G (tree t) ∙ e)
        (root-named whole (worse lt_z) (worse-strict lt_z strict-whole) asks-whole (rules t ε full) (in_grains G (tree t)) z (grains-filled G (tree t) (accepted-filled s t r)))

    -- "at C and L there is none"
    pub play-none : root_of (tree t) ≡ nobody → node_of (searched_until t ε full).play ≡ none
    play-none e =
        subst (λ (q : Root). Held (worse lt_z) q (entered_of t ε full) (searched_until t ε full).play) (grains-root G (tree t) ∙ e)
        (root-held whole (worse lt_z) (worse-strict lt_z strict-whole) asks-whole (rules t ε full) (in_grains G (tree t)))

    -- "If the root is so met, no play is named"
    pub play-unread : full [] ≡ true → node_of (searched_until t ε full).play ≡ none
    play-unread z = root-unread whole (rules t ε full) (in_grains G (tree t)) z

    -- where the root has a child and is not met unread, one is entered
    pub child-entered : full [] ≡ false → is_end (children (tree t)) ≡ false → entered_of t ε full ≡ [] → ⊥
    child-entered z x = root-entered whole (rules t ε full) (in_grains G (tree t)) z (grains-children G (tree t) ∙ x)

    -- "a named play is worth at least low at M and at most high at N"
    pub play-side : (m : ℕ) → node_of (searched_until t ε full).play ≡ some m
        → (v : ℤ) × (play_worth t m ≡ some v)
        × (root_of (tree t) ≡ to_play AtM → le_z (searched_until t ε full).low v ≡ true)
        × (root_of (tree t) ≡ to_play AtN → le_z v (searched_until t ε full).high ≡ true)
    play-side = found_side heights (searched_until t ε full) is.0 is.1 is.2 heights-hold.0 heights-hold.1 played

  -- ---- without a budget

  module _ (ε : ℕ) where
    pub heights-width : (height_searched t ε unlimited).high ≤ (height_searched t ε unlimited).low + ε
    heights-width =
        narrow (larger t.head) (greatest t.lines) G (span t.head) (height_rules 0 top-height ε unlimited) (λ n f. refl) (λ _ n. (refl, refl)) (λ _. refl)
        (height_tree t) (plain-tree ε unlimited)

    -- "demand 3's width": the bounds are at most the margin apart
    pub width : le_z (searched t ε).high ((searched t ε).low +ℤ pos ε) ≡ true
    width =
        let x = is ε unlimited in
        let h = heights-hold ε unlimited in
        found-width (height_searched t ε unlimited) (searched t ε) x.0 x.1 x.2 h.0 h.1 (played ε unlimited) ε heights-width

    -- "the play's worth .. is within the margin of it"
    pub play-near : (m : ℕ) → node_of (searched t ε).play ≡ some m
        → (v : ℤ) × (play_worth t m ≡ some v) × (le_z v (worth_of t +ℤ pos ε) ≡ true) × (le_z (worth_of t) (v +ℤ pos ε) ≡ true)
    play-near =
        let x = is ε unlimited in
        let h = heights-hold ε unlimited in
        found-near (height_searched t ε unlimited) (searched t ε) x.0 x.1 x.2 h.0 h.1 (played ε unlimited) ε heights-width
