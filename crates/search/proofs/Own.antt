-- The search of an accepted table with its index is a search of the same tree, over heights and over the integers: what the general theorems ask of its frames,
-- and what they say of it. Document 02, Item 14.
use Prim.Native.Nat.{ℕ, ◌+◌, ◌*◌, min, max, ◌≤◌, ◌<◌, ◌∣◌}
use mathlib.Core.Path.{◌≡◌, refl, sym, ap, ap₂, subst, ◌∙◌}
use mathlib.Core.Bool.{Bool, true, false, not}
use mathlib.Core.List.{List, [], ◌∷◌, map}
use mathlib.Core.Option.{some}
use native.Mathlib.Nat.{le_refl, le_trans, mul-le-mul_right, dvd-mul_left}
use native.Mathlib.Omega.{arith}
use lib.Dec.{T as Holds}
use lib.ListN.{length}
use lib.IntN.{ℤ, pos, ◌+ℤ◌, ◌*ℤ◌}
use Rattle.numbers.specs.Integers.{max_z, min_z}
use Rattle.numbers.proofs.Signs.{Is, plus, minus, parts, is-unique, is_eq, is-max, is-min}
use Rattle.numbers.proofs.Above.{is-times, lift}
use Rattle.line.specs.Refusal.{fine}
use Rattle.table.specs.Tree.{Kind, MAX, MIN, CHANCE, Forest, end, leaf, inner, is_end, leaves}
use Rattle.table.specs.Table.{Table, tree, read_text, grain}
use Rattle.table.specs.Inside.{height_tree, slices_of}
use Rattle.table.specs.Accepted.{span, Filled, Rooted}
use Rattle.table.proofs.Heights.{above, map_forest, map-filled, map-leaves, heights-map}
use Rattle.table.proofs.Accepted.{accepted-spans, heights-filled, heights-divided}
use Rattle.index.specs.Index.{values_of, lowest_of, highest_of}
use Rattle.index.specs.Inside.{least_of, greatest_of}
use Rattle.index.proofs.Laws.{ordered, values-map, lowest-is, highest-is, greatest-heights}
use Rattle.search.specs.Search.{Frame, Rules, unlimited, limited, framed, node_of}
use Rattle.search.specs.Whole.{in_grains, whole_own, own_rules, searched_own}
use Rattle.search.specs.Exact.{EachTakenRoot, OwnNoRemainder}
use Rattle.search.specs.Inside.{natural, grained, height_sums, own_height_rules, height_own, height_own_summed}
use Rattle.search.proofs.Heights.{Paid, PaidUnder, Sound, Within, shift}
use Rattle.search.proofs.Times.{mul-max, mul-min}
use Rattle.search.proofs.Shift.{RelFrame, RelFrames, RelFramesRoot, RelSeen, shift-weigh, shifted-root}
use Rattle.search.proofs.Grains.{plain, grained-map, grained-leaves, grains-map}
use Rattle.search.proofs.Fit.{Fit, fit-by}
use Rattle.search.proofs.Remainder.{WholeHeights, heights-root, whole-root}
use Rattle.search.proofs.Few.{few-reads, play-among, children-below}
use Rattle.search.proofs.Table.{rel-is, same-node, root-order, tree-shift, tree-within, tree-positive, tree-rooted}
use Rattle.search.proofs.Sums.{same-root}
use Rattle.search.proofs.Summed.{height-laws, paid-within}
use Rattle.search.proofs.Budget as budget

-- ---- heights in grains

times-min : (G a b : ℕ) → min (a * G) (b * G) ≡ min a b * G
times-min G a b = omega (arith, mul-min G a b)

times-max : (G a b : ℕ) → max (a * G) (b * G) ≡ max a b * G
times-max G a b = omega (arith, mul-max G a b)

pub least-grained : (S G : ℕ) (f : Forest ℕ) → least_of (S * G) (grained G f) ≡ least_of S f * G
unfolding least_of grained
least-grained S G end = refl
least-grained S G (leaf n w h rest) = ap (min (h * G)) (least-grained S G rest) ∙ times-min G h (least_of S rest)
least-grained S G (inner n w k under rest) = ap₂ min (least-grained S G under) (least-grained S G rest) ∙ times-min G (least_of S under) (least_of S rest)

pub greatest-grained : (G : ℕ) (f : Forest ℕ) → greatest_of (grained G f) ≡ greatest_of f * G
unfolding greatest_of grained
greatest-grained G end = omega arith
greatest-grained G (leaf n w h rest) = ap (max (h * G)) (greatest-grained G rest) ∙ times-max G h (greatest_of rest)
greatest-grained G (inner n w k under rest) = ap₂ max (greatest-grained G under) (greatest-grained G rest) ∙ times-max G (greatest_of under) (greatest_of rest)

-- ---- the frames

-- every node's own ends, none of which is above S
abbrev pub own : ℕ → ℕ → Forest ℕ → Frame ℕ
own S n f = framed (least_of S f) (greatest_of f) f

module _ (S : ℕ) where
  own-sound : (k : Kind) (n : ℕ) (f : Forest ℕ) → least_of S f ≤ greatest_of f → Paid (plain S n f) k → Sound (own S n f) k f
  own-sound MAX n f o p = record { ends = o; paid = tt; weighed = tt }
  own-sound MIN n f o p = record { ends = o; paid = tt; weighed = tt }
  own-sound CHANCE n f o p = record { ends = o; paid = p; weighed = refl }

  -- they nest: what lies between the two ends of the whole tree lies between its own
  within-own : (e d : Frame ℕ) (f : Forest ℕ) → Filled f → Within (plain S) d f → e.bottom ≤ least_of S f → greatest_of f ≤ e.top → Within (own S) e f
  unfolding least_of greatest_of
  within-own e d end i y b t = tt
  within-own e d (leaf n w h rest) i y b t = (omega arith, omega arith, within-own e d rest i y.2 (omega arith) (omega arith))
  within-own e d (inner n w k under rest) i y b t = (
    omega arith,
    omega arith,
    own-sound k n under (ordered S under i.1 i.0) y.2.paid,
    within-own (own S n under) (plain S n under) under i.1 y.3 (le_refl _) (le_refl _),
    within-own e d rest i.2 y.4 (omega arith) (omega arith),
  )

-- ---- over the integers

shift-map : (Lo : ℤ) (f : Forest ℕ) → shift Lo f ≡ map_forest (λ (h : ℕ). Lo +ℤ pos h) f
unfolding shift
shift-map Lo end = refl
shift-map Lo (leaf n w h rest) = ap (leaf n w (Lo +ℤ pos h)) (shift-map Lo rest)
shift-map Lo (inner n w k under rest) = ap₂ (inner n w k) (shift-map Lo under) (shift-map Lo rest)

-- the lowest and the highest of values that lie so much above Lo
lowest-shift : (Lo : ℤ) (S : ℕ) (f : Forest ℕ) → Filled f → is_end f ≡ false → greatest_of f ≤ S
    → lowest_of (values_of (shift Lo f)) ≡ Lo +ℤ pos (least_of S f)
lowest-shift Lo S f i z h = ap (λ (g : Forest ℤ). lowest_of (values_of g)) (shift-map Lo f) ∙ lowest-is Lo S f i z h

highest-shift : (Lo : ℤ) (f : Forest ℕ) → Filled f → is_end f ≡ false → highest_of (values_of (shift Lo f)) ≡ Lo +ℤ pos (greatest_of f)
highest-shift Lo f i z = ap (λ (g : Forest ℤ). highest_of (values_of g)) (shift-map Lo f) ∙ highest-is Lo f i z

-- in grains: a line's ends as the search has them are those of its entry, times G
times-lower : (G : ℕ) (y z : ℤ) → min_z (y *ℤ pos G) (z *ℤ pos G) ≡ min_z y z *ℤ pos G
times-lower G y z =
    let a : ℕ = plus y in
    let b : ℕ = minus y in
    let c : ℕ = plus z in
    let d : ℕ = minus z in
    is-unique (min_z (y *ℤ pos G) (z *ℤ pos G)) (min_z y z *ℤ pos G) (G * min (a + d) (c + b)) (G * (b + d))
    (is_eq (min_z (y *ℤ pos G) (z *ℤ pos G)) _ _ _ _ (is-min (y *ℤ pos G) (z *ℤ pos G) _ _ _ _ (is-times G y a b (parts y)) (is-times G z c d (parts z)))
    (omega (arith, mul-min G (a + d) (c + b))))
    (is-times G (min_z y z) _ _ (is-min y z a b c d (parts y) (parts z)))

times-upper : (G : ℕ) (y z : ℤ) → max_z (y *ℤ pos G) (z *ℤ pos G) ≡ max_z y z *ℤ pos G
times-upper G y z =
    let a : ℕ = plus y in
    let b : ℕ = minus y in
    let c : ℕ = plus z in
    let d : ℕ = minus z in
    is-unique (max_z (y *ℤ pos G) (z *ℤ pos G)) (max_z y z *ℤ pos G) (G * max (a + d) (c + b)) (G * (b + d))
    (is_eq (max_z (y *ℤ pos G) (z *ℤ pos G)) _ _ _ _ (is-max (y *ℤ pos G) (z *ℤ pos G) _ _ _ _ (is-times G y a b (parts y)) (is-times G z c d (parts z)))
    (omega (arith, mul-max G (a + d) (c + b))))
    (is-times G (max_z y z) _ _ (is-max y z a b c d (parts y) (parts z)))

none-times : (G : ℕ) → pos 0 ≡ pos 0 *ℤ pos G
none-times G = is-unique (pos 0) (pos 0 *ℤ pos G) 0 0 refl (is_eq (pos 0 *ℤ pos G) (G * 0) (G * 0) 0 0 (is-times G (pos 0) 0 0 refl) (omega arith))

lowest-times : (G : ℕ) (l : List ℤ) → lowest_of (map (λ (z : ℤ). z *ℤ pos G) l) ≡ lowest_of l *ℤ pos G
unfolding lowest_of
lowest-times G [] = none-times G
lowest-times G (x ∷ []) = refl
lowest-times G (x ∷ y ∷ ys) = ap (min_z (x *ℤ pos G)) (lowest-times G (y ∷ ys)) ∙ times-lower G x (lowest_of (y ∷ ys))

highest-times : (G : ℕ) (l : List ℤ) → highest_of (map (λ (z : ℤ). z *ℤ pos G) l) ≡ highest_of l *ℤ pos G
unfolding highest_of
highest-times G [] = none-times G
highest-times G (x ∷ []) = refl
highest-times G (x ∷ y ∷ ys) = ap (max_z (x *ℤ pos G)) (highest-times G (y ∷ ys)) ∙ times-upper G x (highest_of (y ∷ ys))

pub lowest-grains : (G : ℕ) (f : Forest ℤ) → lowest_of (values_of (in_grains G f)) ≡ lowest_of (values_of f) *ℤ pos G
lowest-grains G f = ap lowest_of (ap values_of (grains-map G f) ∙ values-map (λ (z : ℤ). z *ℤ pos G) f) ∙ lowest-times G (values_of f)

pub highest-grains : (G : ℕ) (f : Forest ℤ) → highest_of (values_of (in_grains G f)) ≡ highest_of (values_of f) *ℤ pos G
highest-grains G f = ap highest_of (ap values_of (grains-map G f) ∙ values-map (λ (z : ℤ). z *ℤ pos G) f) ∙ highest-times G (values_of f)

-- there is always a clamp
abbrev clamped : (S : ℕ) (R : Rules ℕ) → Holds (not true) → (n : ℕ) (f : Forest ℕ) → ((R.frame n f).bottom ≡ 0) × ((R.frame n f).top ≡ S)
clamped S R x = absurd x

module _ (p q : ℕ) (Lo : ℤ) (is_lo : Is Lo p q) (S ε : ℕ) where
  abbrev R : Rules ℕ
  R = own_height_rules S ε unlimited

  frame-own : (n : ℕ) (f : Forest ℕ) → Filled f → is_end f ≡ false → greatest_of f ≤ S → RelFrame p q (R.frame n f) ((own_rules ε).frame n (shift Lo f))
  frame-own n f i z h = record {
    bottom = rw (lowest-shift Lo S f i z h) (lift Lo p q (least_of S f) is_lo);
    top = rw (highest-shift Lo f i z) (lift Lo p q (greatest_of f) is_lo);
    total = shift-weigh Lo f;
  }

  frames-own : (f : Forest ℕ) → Filled f → greatest_of f ≤ S → RelFrames p q true Lo is_lo S R (own_rules ε).frame (clamped S R) f
  unfolding greatest_of
  frames-own end i h = tt
  frames-own (leaf n w v rest) i h = frames-own rest i (omega arith)
  frames-own (inner n w k under rest) i h =
      (frame-own n under i.1 i.0 (omega arith), frames-own under i.1 (omega arith), frames-own rest i.2 (omega arith))

  frames-own-root : (f : Forest ℕ) → Rooted f → Filled f → greatest_of f ≤ S → RelFramesRoot p q true Lo is_lo S R (own_rules ε).frame (clamped S R) f
  unfolding greatest_of
  frames-own-root end r i h = absurd r
  frames-own-root (leaf n w v rest) r i h = λ x. absurd x
  frames-own-root (inner n w k under rest) r i h = (frame-own n under i.1 i.0 (omega arith), frames-own under i.1 (omega arith))

-- ---- of an accepted table

module _ (s : List ℕ) (t : Table) (r : read_text s ≡ fine t) where
  abbrev G : ℕ
  G = grain t

  abbrev base : ℤ
  base = t.head.lowest *ℤ pos G

  abbrev far : ℕ
  far = span t.head * G

  abbrev heights : Forest ℕ
  heights = grained G (height_tree t)

  -- the root has no parent
  abbrev over : Frame ℕ
  over = record { bottom = 0; top = far; total = 0 }

  tree-filled : Filled (grained (grain t) (height_tree t))
  tree-filled = rw (grained-map G (height_tree t)) (map-filled (λ (h : ℕ). h * G) (height_tree t) (heights-filled s t r))

  tree-greatest : greatest_of (grained (grain t) (height_tree t)) ≤ span t.head * grain t
  tree-greatest = rw (greatest-grained G (height_tree t)) (mul-le-mul_right G (greatest-heights s t r))

  pub own-within : Within (own (span t.head * grain t)) (record { bottom = 0; top = span t.head * grain t; total = 0 }) (grained (grain t) (height_tree t))
  own-within = within-own far over over heights tree-filled (tree-within s t r) (omega arith) tree-greatest

  ends-even : (f : Forest ℕ) → (G ∣ least_of far (grained G f)) × (G ∣ greatest_of (grained G f))
  ends-even f = (
    subst (λ (x : ℕ). G ∣ x) (sym (least-grained (span t.head) G f)) (dvd-mul_left G (least_of (span t.head) f)),
    subst (λ (x : ℕ). G ∣ x) (sym (greatest-grained G f)) (dvd-mul_left G (greatest_of f)),
  )

  pub own-fit : Fit (own (span t.head * grain t)) 1 (grained (grain t) (height_tree t))
  own-fit = fit-by G (least_of far) greatest_of ends-even 1 (height_tree t) (heights-divided s t r)

  own-paid : PaidUnder (own (span t.head * grain t)) (grained (grain t) (height_tree t))
  own-paid = paid-within (own far) over heights own-within

  -- at the margin ε, until the budget is spent
  module _ (ε : ℕ) (full : List ℕ → Bool) where
    -- the bounds lie between the table's ends
    pub own-order : full [] ≡ false → ((height_own t ε full).low ≤ (height_own t ε full).high) × ((height_own t ε full).high ≤ span t.head * grain t)
    own-order z = root-order (own_height_rules far ε full) far over heights (tree-rooted s t r) (λ x. absurd (rw z at x)) (le_refl far) own-within

    own-taken : EachTakenRoot natural (own_height_rules far ε full) WholeHeights heights
    own-taken = heights-root (own_height_rules far ε full) over 1 heights own-within own-fit

    -- what the code computes is what Algorithm 1 gives over heights
    pub own-summed : height_own_summed t ε full ≡ height_own t ε full
    own-summed = same-root natural height_sums WholeHeights height-laws (own_height_rules far ε full) heights own-paid own-taken

    -- no more leaves are read than there are
    own-few : length (height_own t ε full).read ≤ leaves (tree t)
    own-few =
        subst (λ (n : ℕ). length (height_own t ε full).read ≤ n)
        (grained-leaves G (height_tree t) ∙ ap leaves (heights-map t) ∙ map-leaves (above t.head.lowest) (tree t))
        (few-reads natural (own_height_rules far ε full) heights)

    -- the play is a node of the table
    pub own-small : (m : ℕ) → node_of (height_own t ε full).play ≡ some m → m < length t.lines
    own-small m e =
        play-among natural (own_height_rules far ε full) (λ (i : ℕ). i < length t.lines) heights
        (children-below G 0 (length t.lines) (slices_of t) (height_tree t) (accepted-spans s t r)) m e

  -- at the margin ε, without a budget
  module _ (ε : ℕ) where
    own-frames : RelFramesRoot (plus base) (minus base) true base (parts base) far (own_height_rules far ε unlimited) (own_rules ε).frame
        (clamped far (own_height_rules far ε unlimited)) heights
    own-frames = frames-own-root (plus base) (minus base) base (parts base) far ε heights (tree-rooted s t r) tree-filled tree-greatest

    rel-own : RelSeen (plus base) (minus base) (height_own t ε unlimited) (searched_own t ε)
    rel-own =
        rw (tree-shift s t r)
        (shifted-root (plus base) (minus base) true base (parts base) far (own_height_rules far ε unlimited) (own_rules ε).frame (clamped far (own_height_rules far ε unlimited))
        over heights (le_refl far) own-frames own-within (tree-positive s t r))

    -- the search of a table with its index is the search over heights, from the lowest end up
    pub own-shifted : ((searched_own t ε).low ≡ t.head.lowest *ℤ pos (grain t) +ℤ pos (height_own t ε unlimited).low)
        × ((searched_own t ε).high ≡ t.head.lowest *ℤ pos (grain t) +ℤ pos (height_own t ε unlimited).high)
        × (node_of (searched_own t ε).play ≡ node_of (height_own t ε unlimited).play)
        × ((searched_own t ε).read ≡ (height_own t ε unlimited).read)
        × ((searched_own t ε).spent ≡ (height_own t ε unlimited).spent)
    own-shifted = (
      rel-is base (height_own t ε unlimited).low (searched_own t ε).low rel-own.low,
      rel-is base (height_own t ε unlimited).high (searched_own t ε).high rel-own.high,
      same-node (plus base) (minus base) (height_own t ε unlimited).play (searched_own t ε).play rel-own.play,
      rel-own.read,
      rel-own.spent,
    )

    pub own-play-small : (m : ℕ) → node_of (searched_own t ε).play ≡ some m → m < length t.lines
    own-play-small m e = own-small ε unlimited m (sym own-shifted.2 ∙ e)

    pub own-reads-few : length (searched_own t ε).read ≤ leaves (tree t)
    own-reads-few = rw own-shifted.3 (own-few ε unlimited)

    -- no node is met unread
    pub own-unspent : (searched_own t ε).spent ≡ false
    own-unspent = budget.never-spent whole_own (own_rules ε).frame ε (in_grains G (tree t))

    -- a budget of as many reads as there are leaves is never spent
    pub own-enough : (room : ℕ) → leaves (tree t) ≤ room → height_own t ε (limited room) ≡ height_own t ε unlimited
    own-enough room h = budget.enough natural (own far) ε room heights (tree-rooted s t r) tree-filled (le_trans (own-few ε unlimited) h)

    -- the divisions of lines 20 and 21 leave no remainder
    pub own-no-remainder : OwnNoRemainder t ε
    own-no-remainder =
        rw (tree-shift s t r)
        (whole-root (plus base) (minus base) true base (parts base) far (own_height_rules far ε unlimited) (own_rules ε).frame (clamped far (own_height_rules far ε unlimited))
        over 1 heights (le_refl far) own-frames own-within (tree-positive s t r) own-fit)
