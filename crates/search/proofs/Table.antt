-- The search of an accepted table is the search over heights, from the lowest end up; no more leaves are read than there are, its play is a node of the
-- table, and its divisions by a C's own sum leave no remainder. Document 01, 'The search' and 'Grains'.
use Prim.Native.Nat.{ℕ, ◌+◌, ◌-◌, ◌*◌, ◌≤◌, ◌<◌}
use mathlib.Core.Path.{◌≡◌, refl, sym, ap, subst, ◌∙◌}
use mathlib.Core.Bool.{Bool, false}
use mathlib.Core.List.{List, []}
use mathlib.Core.Option.{some}
use native.Mathlib.Nat.{le_refl, le_trans}
use native.Mathlib.Omega.{arith}
use lib.Dec.{T as Holds}
use lib.ListN.{length}
use lib.IntN.{ℤ, pos, ◌+ℤ◌, ◌-ℤ◌, ◌*ℤ◌}
use Rattle.numbers.proofs.Signs.{plus, minus, parts, is-unique, is_eq, is-minus}
use Rattle.numbers.proofs.Above.{lift, lifted}
use Rattle.field.proofs.Small.{choose}
use Rattle.line.specs.Refusal.{fine}
use Rattle.line.specs.Line.{larger}
use Rattle.table.specs.Tree.{MAX, Forest, end, leaf, inner, leaves}
use Rattle.table.specs.Table.{Table, tree, read_text, greatest, grain}
use Rattle.table.specs.Root.{children}
use Rattle.table.specs.Leaves.{leaf_nodes}
use Rattle.table.specs.Inside.{height_tree, slices_of}
use Rattle.table.specs.Accepted.{span, Rooted}
use Rattle.table.proofs.Heights.{heights-map, map-rooted}
use Rattle.table.proofs.Accepted.{accepted-proper, accepted-spans, heights-rooted, heights-proper, heights-totals, heights-divided}
use Rattle.table.proofs.Ends.{top}
use Rattle.table.proofs.Leaves.{Sub, sub-length, map-nodes, nodes-length}
use Rattle.search.specs.Search.{Frame, Play, no_play, child, Seen, Rules, framed, begin, point, met_spent, scan, search, search_root, node_of}
use Rattle.search.specs.Whole.{whole, in_grains, rules, searched_until}
use Rattle.search.specs.Inside.{natural, grained, height_rules, height_searched}
use Rattle.search.specs.Exact.{NoRemainder}
use Rattle.search.proofs.Heights.{Within, Positive, shift}
use Rattle.search.proofs.Contain.{contained, hold-met}
use Rattle.search.proofs.Shift.{Rel, RelFrame, RelFramesRoot, RelPlay, RelSeen, shift-weigh, shifted-root, frames-all-root}
use Rattle.search.proofs.Grains.{plain, within, positive, grained-map, grains-map, grains-shift}
use Rattle.search.proofs.Fit.{Fit, fit}
use Rattle.search.proofs.Remainder.{whole-root}
use Rattle.search.proofs.Few.{EachNode, reads-leaves, play-among, children-below}

pub rel-is : (base : ℤ) (x : ℕ) (z : ℤ) → Rel (plus base) (minus base) x z → z ≡ base +ℤ pos x
rel-is base x z i = is-unique z (base +ℤ pos x) (plus base + x) (minus base) i (lift base (plus base) (minus base) x (parts base))

pub same-node : (p q : ℕ) (u : Play ℕ) (v : Play ℤ) → RelPlay p q u v → node_of v ≡ node_of u
same-node p q no_play no_play i = refl
same-node p q no_play (child m l h) i = absurd i
same-node p q (child m l h) no_play i = absurd i
same-node p q (child m l h) (child m2 l2 h2) i = ap some i.0

-- how far apart two numbers are that lie above the same
pub difference-is : (base : ℤ) (low high : ℕ) → low ≤ high → pos (high - low) ≡ (base +ℤ pos high) -ℤ (base +ℤ pos low)
difference-is base low high h =
    is-unique (pos (high - low)) ((base +ℤ pos high) -ℤ (base +ℤ pos low)) (plus base + high + minus base) (minus base + (plus base + low)) (omega arith)
    (is-minus (base +ℤ pos high) (base +ℤ pos low) (plus base + high) (minus base) (plus base + low) (minus base) (lifted base high) (lifted base low))

-- the bounds of a root lie between the ends; a lone leaf's do by its frame where it is met unread
pub root-order : (R : Rules ℕ) (S : ℕ) (e : Frame ℕ) (f : Forest ℕ) → Rooted f
    → (Holds (R.full []) → (n : ℕ) → ((R.frame n end).bottom ≤ (R.frame n end).top) × ((R.frame n end).top ≤ S)) → e.top ≤ S → Within R.frame e f
    → ((search_root natural R f).low ≤ (search_root natural R f).high) × ((search_root natural R f).high ≤ S)
unfolding search_root search point met_spent
root-order R S e end y x t i = absurd y
root-order R S e (leaf n w h rest) y x t i =
    choose (λ (r : Seen ℕ). (r.low ≤ r.high) × (r.high ≤ S)) (R.full []) (λ z. x z n) (λ _. (le_refl h, le_trans i.1 t))
root-order R S e (inner n w k under rest) y x t i =
    let d : Frame ℕ = R.frame n under in
    let v = hold-met R d [] _ (scan natural R d k under (begin d k d.bottom d.top [])) (contained R d k under d.bottom d.top [] i.2 i.3) in
    (le_trans v.1 v.2, le_trans v.3 (le_trans i.1 t))

module _ (s : List ℕ) (t : Table) (r : read_text s ≡ fine t) where
  abbrev G : ℕ
  G = grain t

  abbrev base : ℤ
  base = t.head.lowest *ℤ pos G

  abbrev far : ℕ
  far = span t.head * G

  pub frames : (f : Forest ℕ) → RelFrame (plus base) (minus base) (framed 0 far f) (framed base (t.head.highest *ℤ pos G) (shift base f))
  frames f = record {
    bottom = is_eq base (plus base) (minus base) (plus base + 0) (minus base) (parts base) (omega arith);
    top = rw (top s t r) (lift base (plus base) (minus base) far (parts base));
    total = shift-weigh base f;
  }

  pub tree-shift : in_grains G (tree t) ≡ shift base (grained G (height_tree t))
  tree-shift = rw (heights-map t) (grains-shift (larger t.head) G (greatest t.lines) t.head 0 0 false (tree t) (accepted-proper s t r))

  -- the root has no parent
  pub tree-within : Within (plain far) (record { bottom = 0; top = far; total = 0 }) (grained G (height_tree t))
  tree-within =
      within (larger t.head) (span t.head) G (greatest t.lines) 0 0 0 false (height_tree t) (heights-proper s t r)
      (heights-totals s t r)

  pub tree-positive : Positive MAX (grained G (height_tree t))
  tree-positive =
      positive (larger t.head) (span t.head) G (greatest t.lines) 0 0 MAX (height_tree t) (heights-proper s t r)

  pub tree-fit : Fit (plain far) 1 (grained G (height_tree t))
  tree-fit = fit (span t.head) G 1 (height_tree t) (heights-divided s t r)

  pub tree-rooted : Rooted (grained G (height_tree t))
  tree-rooted = rw (grained-map G (height_tree t)) (map-rooted (λ (h : ℕ). h * G) (height_tree t) (heights-rooted s t r))

  -- at the margin ε, until the budget is spent
  module _ (ε : ℕ) (full : List ℕ → Bool) where
    abbrev heights : Seen ℕ
    heights = height_searched t ε full

    -- its bounds lie between the ends
    pub heights-order : (heights.low ≤ heights.high) × (heights.high ≤ span t.head * grain t)
    heights-order =
        root-order (height_rules 0 far ε full) far (record { bottom = 0; top = far; total = 0 }) (grained G (height_tree t)) tree-rooted
        (λ _ n. (omega arith, le_refl far)) (le_refl far) tree-within

    pub tree-frames : RelFramesRoot (plus base) (minus base) false base (parts base) far (height_rules 0 far ε full) (rules t ε full).frame (λ _ n f. (refl, refl))
        (grained G (height_tree t))
    tree-frames =
        frames-all-root (plus base) (minus base) false base (parts base) far (height_rules 0 far ε full) (rules t ε full).frame (λ _ n f. (refl, refl))
        (λ n f. frames f) (grained G (height_tree t))

    rel-found : RelSeen (plus base) (minus base) heights (searched_until t ε full)
    rel-found =
        rw tree-shift
        (shifted-root (plus base) (minus base) false base (parts base) far (height_rules 0 far ε full) (rules t ε full).frame (λ _ n f. (refl, refl))
        (record { bottom = 0; top = far; total = 0 }) (grained G (height_tree t)) (le_refl far) tree-frames tree-within tree-positive)

    -- the search of a table is the search over heights, from the lowest end up
    pub shifted : ((searched_until t ε full).low ≡ t.head.lowest *ℤ pos (grain t) +ℤ pos (height_searched t ε full).low)
        × ((searched_until t ε full).high ≡ t.head.lowest *ℤ pos (grain t) +ℤ pos (height_searched t ε full).high)
        × (node_of (searched_until t ε full).play ≡ node_of (height_searched t ε full).play)
        × ((searched_until t ε full).read ≡ (height_searched t ε full).read)
        × ((searched_until t ε full).spent ≡ (height_searched t ε full).spent)
    shifted = (
      rel-is base heights.low (searched_until t ε full).low rel-found.low,
      rel-is base heights.high (searched_until t ε full).high rel-found.high,
      same-node (plus base) (minus base) heights.play (searched_until t ε full).play rel-found.play,
      rel-found.read,
      rel-found.spent,
    )

    -- the play is a node of the table
    pub play-small : (m : ℕ) → node_of (searched_until t ε full).play ≡ some m → m < length t.lines
    play-small m e =
        play-among natural (height_rules 0 far ε full) (λ (i : ℕ). i < length t.lines) (grained G (height_tree t))
        (children-below G 0 (length t.lines) (slices_of t) (height_tree t) (accepted-spans s t r)) m (sym shifted.2 ∙ e)

    -- the play is a root child: what holds of the number of each of these holds of its
    pub play-child : (P : ℕ → Type 0) → EachNode P (children (in_grains G (tree t))) → (m : ℕ) → node_of (searched_until t ε full).play ≡ some m → P m
    play-child P h m e = play-among whole (rules t ε full) P (in_grains G (tree t)) h m e

    -- what is read are some of the leaves, in line order
    pub reads-sub : Sub (searched_until t ε full).read (leaf_nodes (tree t))
    reads-sub =
        subst (Sub (searched_until t ε full).read) (ap leaf_nodes (grains-map G (tree t)) ∙ map-nodes (λ (z : ℤ). z *ℤ pos G) (tree t))
        (reads-leaves whole (rules t ε full) (in_grains G (tree t)))

    -- no more leaves are read than there are
    pub reads-few : length (searched_until t ε full).read ≤ leaves (tree t)
    reads-few = omega (arith, sub-length reads-sub, nodes-length (tree t))

    -- "that division never leaves a remainder, and this is proved": of the search's divisions by a C's own sum
    pub no-remainder : NoRemainder t ε full
    no-remainder =
        rw tree-shift
        (whole-root (plus base) (minus base) false base (parts base) far (height_rules 0 far ε full) (rules t ε full).frame
        (λ _ n f. (refl, refl)) (record { bottom = 0; top = far; total = 0 }) 1 (grained G (height_tree t)) (le_refl far)
        tree-frames tree-within tree-positive tree-fit)
