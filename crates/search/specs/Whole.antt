-- The paper's arithmetic, whole numbers of grains, and the search of a table. Document 01, 'Grains' and 'The search'; document 02, Items 3, 6 and 14.
use Rattle.std.specs.Prelude.{ℕ, Bool, List, ℤ, pos, ◌+ℤ◌, ◌-ℤ◌, ◌*ℤ◌}
use Rattle.std.specs.Int.Signed.{lt_z, le_z}
use Rattle.numbers.specs.Integers.{max_z, min_z, floor_z, ceil_z}
use Rattle.table.specs.Tree.{Forest, end, leaf, inner}
use Rattle.table.specs.Table.{Table, tree, grain}
use Rattle.index.specs.Index.{values_of, lowest_of, highest_of}
use Rattle.search.specs.Search.{Frame, Arith, Rules, Seen, unlimited, limited, framed, safer, search_root}

-- Line 9, from α(p(n)) and U(p(n)): "rounded outward: the new alpha down". π is w / T, and U(n) of a node not yet searched is v_max.
unfoldable pub down_z : (e : Frame ℤ) (w : ℕ) (α U : ℤ) → ℤ
down_z e w α U = max_z e.bottom (floor_z (pos e.total *ℤ (α -ℤ U)) w +ℤ e.top)

-- Line 10, from β(p(n)) and L(p(n)): "the new beta up". L(n) of a node not yet searched is v_min.
unfoldable pub up_z : (e : Frame ℤ) (w : ℕ) (β L : ℤ) → ℤ
up_z e w β L = min_z e.top (ceil_z (pos e.total *ℤ (β -ℤ L)) w +ℤ e.bottom)

-- Line 20, from L(n) and L(c), and line 21, from U(n) and U(c). That these two divisions leave no remainder is a theorem.
unfoldable pub gain_z : (e : Frame ℤ) (w : ℕ) (L Lc : ℤ) → ℤ
gain_z e w L Lc = L +ℤ floor_z (pos w *ℤ (Lc -ℤ e.bottom)) e.total

unfoldable pub loss_z : (e : Frame ℤ) (w : ℕ) (U Uc : ℤ) → ℤ
loss_z e w U Uc = U -ℤ floor_z (pos w *ℤ (e.top -ℤ Uc)) e.total

-- whole grains, with these for lines 9 and 10
abbrev pub whole_with : (down up : (e : Frame ℤ) (w : ℕ) (x y : ℤ) → ℤ) → Arith ℤ
whole_with down up = record {
  high-of = max_z;
  low_of = min_z;
  near = λ ε α β. le_z β (α +ℤ pos ε);
  down = down;
  up = up;
  gain = gain_z;
  loss = loss_z;
  beats = safer lt_z;
}

abbrev pub whole : Arith ℤ
whole = whole_with down_z up_z

-- "a leaf is worth its utility × G"
unfoldable pub in_grains : (G : ℕ) → Forest ℤ → Forest ℤ
in_grains G end = end
in_grains G (leaf n w u rest) = leaf n w (u *ℤ pos G) (in_grains G rest)
in_grains G (inner n w k under rest) = inner n w k (in_grains G under) (in_grains G rest)

-- "Algorithm 1 in grains, with the ends times G as its least and greatest values and π as weight/T"
abbrev pub rules : Table → (ε : ℕ) (full : List ℕ → Bool) → Rules ℤ
rules t ε full =
    record {
      frame = λ (n : ℕ) (f : Forest ℤ). framed (t.head.lowest *ℤ pos (grain t)) (t.head.highest *ℤ pos (grain t)) f;
      margin = ε;
      full = full;
    }

-- the search of a table at the margin ε, until the budget is spent
abbrev pub searched_until : Table → (ε : ℕ) (full : List ℕ → Bool) → Seen ℤ
searched_until t ε full = search_root whole (rules t ε full) (in_grains (grain t) (tree t))

-- document 01: the search of a table at the margin ε
abbrev pub searched : Table → (ε : ℕ) → Seen ℤ
searched t ε = searched_until t ε unlimited

-- document 02, Item 3: with a budget of so many leaf reads "besides the margin"
abbrev pub searched_within : Table → (ε budget : ℕ) → Seen ℤ
searched_within t ε budget = searched_until t ε (limited budget)

-- ---- Item 14: the search that uses an index

-- Lines 9 and 10 for a child of a C, whose ends e has, not the child's: they "also stand for U(n), L(n), the least and the greatest value in lines 9 and 10 for
-- its children. There a new alpha is also at most that greatest value, a new beta at least that least."
unfoldable pub down_own : (e : Frame ℤ) (w : ℕ) (α U : ℤ) → ℤ
down_own e w α U = min_z e.top (down_z e w α U)

unfoldable pub up_own : (e : Frame ℤ) (w : ℕ) (β L : ℤ) → ℤ
up_own e w β L = max_z e.bottom (up_z e w β L)

abbrev pub whole_own : Arith ℤ
whole_own = whole_with down_own up_own

-- "a line has its own ends for Algorithm 1's least and greatest values": those of the worths under it, which are its ends in the index times G. So a C "counts
-- each unread child at the chance line's ends", and lines 9 and 10 for its children have these ends. There is no budget.
abbrev pub own_rules : (ε : ℕ) → Rules ℤ
own_rules ε =
    record {
      frame = λ (n : ℕ) (f : Forest ℤ). framed (lowest_of (values_of f)) (highest_of (values_of f)) f;
      margin = ε;
      full = unlimited;
    }

-- The search of a table at the margin ε with its index. By `enter` a child's window is what lines 7 to 10 say: it "is not met with" the child's ends "(the root's
-- is its ends)", by `search_root`.
abbrev pub searched_own : Table → (ε : ℕ) → Seen ℤ
searched_own t ε = search_root whole_own (own_rules ε) (in_grains (grain t) (tree t))
