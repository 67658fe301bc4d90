-- The search over heights, in grains above the lowest end: what is computed with. No promise names these.
use Rattle.std.specs.Prelude.{ℕ, ◌+◌, ◌-◌, ◌*◌, ◌/◌, min, max, ◌≡◌, Bool, false, List, [], leb, ltb, ℤ, pos, ◌-ℤ◌, ◌*ℤ◌}
use Rattle.table.specs.Tree.{Kind, MAX, MIN, CHANCE, Forest, end, leaf, inner}
use Rattle.table.specs.Table.{Table, tree, grain}
use Rattle.table.specs.Inside.{height_tree}
use Rattle.table.specs.Accepted.{span}
use Rattle.index.specs.Inside.{least_of, greatest_of}
use Rattle.search.specs.Search.{Frame, State, Arith, Rules, Seen, framed, begin, point, met, update, stop, enter, scan, safer, search_root}
use Rattle.search.specs.Whole.{whole, in_grains, rules}
use Rattle.search.specs.Sums.{SumArith, on_sums, keep, enter_sums, scan_sums, root_sums}

-- x divided by w, rounded up
unfoldable pub ceil : (x w : ℕ) → ℕ
ceil x w = (x + (w - 1)) / w

abbrev pub natural : Arith ℕ
natural = record {
  high-of = max;
  low_of = min;
  near = λ ε α β. leb β (α + ε);
  down = λ e w α U. max e.bottom (e.top - ceil ((U - α) * e.total) w);
  up = λ e w β L. min e.top (e.bottom + ceil ((β - L) * e.total) w);
  gain = λ e w L Lc. L + w * (Lc - e.bottom) / e.total;
  loss = λ e w U Uc. U - w * (e.top - Uc) / e.total;
  beats = safer ltb;
}

-- Item 4: T times a height, a sum divided by T, and the four lines on sums
abbrev pub height_sums : SumArith ℕ
height_sums = record {
  times = λ T x. T * x;
  over = λ T x. x / T;
  down = λ e w α U. max e.bottom (e.top - ceil (U - α) w);
  up = λ e w β L. min e.top (e.bottom + ceil (β - L) w);
  gain = λ e w L Lc. L + w * (Lc - e.bottom);
  loss = λ e w U Uc. U - w * (e.top - Uc);
}

abbrev pub natural_sums : Arith ℕ
natural_sums = on_sums natural height_sums

-- heights in points as heights in grains
unfoldable pub grained : (G : ℕ) → Forest ℕ → Forest ℕ
grained G end = end
grained G (leaf n w h rest) = leaf n w (h * G) (grained G rest)
grained G (inner n w k under rest) = inner n w k (grained G under) (grained G rest)

abbrev pub height_rules : (bottom top ε : ℕ) (full : List ℕ → Bool) → Rules ℕ
height_rules bottom top ε full = record { frame = λ (n : ℕ) (f : Forest ℕ). framed bottom top f; margin = ε; full = full }

-- the search of a table, every bound in grains above the lowest end
abbrev pub height_searched : Table → (ε : ℕ) (full : List ℕ → Bool) → Seen ℕ
height_searched t ε full = search_root natural (height_rules 0 (span t.head * grain t) ε full) (grained (grain t) (height_tree t))

-- the same with running sums: what the code computes
abbrev pub height_summed : Table → (ε : ℕ) (full : List ℕ → Bool) → Seen ℕ
height_summed t ε full = root_sums height_sums natural (height_rules 0 (span t.head * grain t) ε full) (grained (grain t) (height_tree t))

-- Item 14, every line with its own ends, none of which is above `top`
abbrev pub own_height_rules : (top ε : ℕ) (full : List ℕ → Bool) → Rules ℕ
own_height_rules top ε full = record { frame = λ (n : ℕ) (f : Forest ℕ). framed (least_of top f) (greatest_of f) f; margin = ε; full = full }

abbrev pub height_own : Table → (ε : ℕ) (full : List ℕ → Bool) → Seen ℕ
height_own t ε full = search_root natural (own_height_rules (span t.head * grain t) ε full) (grained (grain t) (height_tree t))

abbrev pub height_own_summed : Table → (ε : ℕ) (full : List ℕ → Bool) → Seen ℕ
height_own_summed t ε full = root_sums height_sums natural (own_height_rules (span t.head * grain t) ε full) (grained (grain t) (height_tree t))

-- ---- the sums that the code keeps, beside Algorithm 1 in whole grains

-- T times low and high above the lowest end: u is where the search with sums stands over heights, z where Algorithm 1 does
abbrev pub AreAbove : (base : ℤ) (e : Frame ℕ) (k : Kind) (u : State ℕ) (z : State ℤ) → Type 0
AreAbove base e MAX u z = Unit {0}
AreAbove base e MIN u z = Unit {0}
AreAbove base e CHANCE u z = (pos u.lo ≡ pos e.total *ℤ (z.lo -ℤ base)) × (pos u.hi ≡ pos e.total *ℤ (z.hi -ℤ base))

module _ (base : ℤ) (R : Rules ℕ) (Z : Rules ℤ) where
  -- before every child that Algorithm 1 comes to, as `EachBefore` has it; the two trees have the same nodes
  abbrev pub EachAbove : (e : Frame ℕ) (ez : Frame ℤ) (k : Kind) (f : Forest ℕ) (g : Forest ℤ) (u : State ℕ) (z : State ℤ) → Type 0
  EachAbove e ez k end end u z = Unit {0}
  EachAbove e ez k end (leaf n w v rest) u z = ⊥
  EachAbove e ez k end (inner n w c under rest) u z = ⊥
  EachAbove e ez k (leaf n w h rest) end u z = ⊥
  EachAbove e ez k (leaf n w h rest) (inner m x c under others) u z = ⊥
  EachAbove e ez k (inner n w c under rest) end u z = ⊥
  EachAbove e ez k (inner n w c under rest) (leaf m x v others) u z = ⊥
  EachAbove e ez k (leaf n w h rest) (leaf m x v others) u z =
      let t : State ℤ = update whole ez k m x z (met Z ez z.read (point m v z.read)) in
      AreAbove base e k u z
      × (stop whole Z.margin others t ≡ false → EachAbove e ez k rest others (update natural_sums e k n w u (met R e u.read (point n h u.read))) t)
  EachAbove e ez k (inner n w c under rest) (inner m x b below others) u z =
      let d : Frame ℕ = R.frame n under in
      let dz : Frame ℤ = Z.frame m below in
      let i : State ℕ = enter_sums height_sums natural e k w d c u in
      let j : State ℤ = enter whole ez k x dz b z in
      let t : State ℤ = update whole ez k m x z (met Z dz z.read (scan whole Z dz b below j)) in
      AreAbove base e k u z
      × (Z.full z.read ≡ false → EachAbove d dz c under below i j)
      × (stop whole Z.margin others t ≡ false → EachAbove e ez k rest others (update natural_sums e k n w u (met R d u.read (scan_sums height_sums natural R d c under i))) t)

  -- in the search of a root
  abbrev pub EachAboveRoot : Forest ℕ → Forest ℤ → Type 0
  EachAboveRoot end g = Unit {0}
  EachAboveRoot (leaf n w h rest) g = Unit {0}
  EachAboveRoot (inner n w k under rest) end = ⊥
  EachAboveRoot (inner n w k under rest) (leaf m x v others) = ⊥
  EachAboveRoot (inner n w k under rest) (inner m x b below others) =
      let d : Frame ℕ = R.frame n under in
      let dz : Frame ℤ = Z.frame m below in
      Z.full [] ≡ false → EachAbove d dz k under below (keep height_sums d k (begin d k d.bottom d.top [])) (begin dz b dz.bottom dz.top [])

-- in the search of a table
abbrev pub SumsKept : Table → (ε : ℕ) (full : List ℕ → Bool) → Type 0
SumsKept t ε full =
    EachAboveRoot (t.head.lowest *ℤ pos (grain t)) (height_rules 0 (span t.head * grain t) ε full) (rules t ε full) (grained (grain t) (height_tree t)) (in_grains (grain t) (tree t))
