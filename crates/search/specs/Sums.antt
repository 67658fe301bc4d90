-- Algorithm 1 with the running sums of document 02, Item 4, over any arithmetic and in whole grains. A C keeps T times its low and high, and its α and β
-- on the same scale; M and N are as in Search.antt. That these are the same bounds, plays and leaves is a theorem.
use Rattle.std.specs.Prelude.{ℕ, ◌*◌, ◌≡◌, Bool, false, cond, List, [], ℤ, pos, ◌+ℤ◌, ◌-ℤ◌, ◌*ℤ◌}
use Rattle.numbers.specs.Integers.{max_z, min_z, floor_z, ceil_z}
use Rattle.table.specs.Tree.{Kind, MAX, MIN, CHANCE, Forest, end, leaf, inner}
use Rattle.table.specs.Table.{Table, tree, grain}
use Rattle.search.specs.Search.{Frame, no_play, Seen, State, Arith, Rules, begin, finish, cut, point, met, update, stop, enter, scan}
use Rattle.search.specs.Whole.{whole, in_grains, rules}

-- What a C that keeps sums computes with: T times x, and a sum divided by T; `down` and `up` are lines 9 and 10 from T × α and T × U, and T × β and
-- T × L; `gain` and `loss` are lines 20 and 21 from T × L and L(c), and T × U and U(c), to T × L and T × U.
pub record SumArith (A : Type 0) : Type 0 where
  pub times : (T : ℕ) (x : A) → A
  pub over : (T : ℕ) (x : A) → A
  pub down : (e : Frame A) (w : ℕ) (α U : A) → A
  pub up : (e : Frame A) (w : ℕ) (β L : A) → A
  pub gain : (e : Frame A) (w : ℕ) (L Lc : A) → A
  pub loss : (e : Frame A) (w : ℕ) (U Uc : A) → A

module _ {A : Type 0} where
  -- the same arithmetic, on sums
  abbrev pub on_sums : Arith A → SumArith A → Arith A
  on_sums O P =
      record {
        high-of = O.high-of;
        low_of = O.low_of;
        near = O.near;
        down = P.down;
        up = P.up;
        gain = P.gain;
        loss = P.loss;
        beats = O.beats;
      }

  -- so many grains, as the margin, on a line's scale
  unfoldable pub scaled : (e : Frame A) (k : Kind) (x : ℕ) → ℕ
  scaled e MAX x = x
  scaled e MIN x = x
  scaled e CHANCE x = e.total * x

  module _ (P : SumArith A) where
    -- a number on a line's scale: "keep T times its low and high as running sums"
    unfoldable pub kept : (e : Frame A) (k : Kind) (x : A) → A
    kept e MAX x = x
    kept e MIN x = x
    kept e CHANCE x = P.times e.total x

    -- and back: "divide them by T only where the line is left"
    unfoldable pub divided : (e : Frame A) (k : Kind) (x : A) → A
    divided e MAX x = x
    divided e MIN x = x
    divided e CHANCE x = P.over e.total x

    -- a state on a line's scale
    unfoldable pub keep : (e : Frame A) (k : Kind) (s : State A) → State A
    unfolding kept
    keep e k s =
        record { alpha = kept e k s.alpha; beta = kept e k s.beta; lo = kept e k s.lo; hi = kept e k s.hi; play = s.play; read = s.read; spent = s.spent }

    -- a line is left with what r has on its scale
    unfoldable pub leave : (e : Frame A) (k : Kind) (r : Seen A) → Seen A
    unfolding divided
    leave e k r = record { low = divided e k r.low; high = divided e k r.high; play = r.play; read = r.read; spent = r.spent }

    -- "the sums are T times Algorithm 1's low and high": of u, where the search with sums stands at a node, and s, where Algorithm 1 does
    abbrev pub AreSums : (e : Frame A) (k : Kind) (u s : State A) → Type 0
    AreSums e MAX u s = Unit {0}
    AreSums e MIN u s = Unit {0}
    AreSums e CHANCE u s = (u.lo ≡ P.times e.total s.lo) × (u.hi ≡ P.times e.total s.hi)

    module _ (O : Arith A) where
      -- lines 3 to 10 for a child of weight w, whose frame is d and whose kind is c
      abbrev pub enter_sums : (e : Frame A) (k : Kind) (w : ℕ) (d : Frame A) (c : Kind) (s : State A) → State A
      enter_sums e k w d c s = keep d c (enter (on_sums O P) e k w d c s)

      module _ (R : Rules A) where
        -- line 24 after a child, as Search.antt has it, with the margin on the line's scale; a line that is cut is left
        abbrev pub after_sums : (e : Frame A) (k : Kind) (rest : Forest A) (t : State A) (later : Seen A) → Seen A
        after_sums e k rest t later = cond (stop O (scaled e k R.margin) rest t) (leave e k (cut e k t)) later

        -- lines 11 to 27 for the children that are left, as Search.antt has them
        unfoldable pub scan_sums : (e : Frame A) (k : Kind) (f : Forest A) (s : State A) → Seen A
        scan_sums e k end s = leave e k (finish s)
        scan_sums e k (leaf n w v rest) s =
            let t : State A = update (on_sums O P) e k n w s (met R e s.read (point n v s.read)) in
            after_sums e k rest t (scan_sums e k rest t)
        scan_sums e k (inner n w c under rest) s =
            let d : Frame A = R.frame n under in
            let t : State A = update (on_sums O P) e k n w s (met R d s.read (scan_sums d c under (enter_sums e k w d c s))) in
            after_sums e k rest t (scan_sums e k rest t)

        -- line 6, and the search of the first node, as Search.antt has them
        unfoldable pub search_sums : (e : Frame A) (k : Kind) (f : Forest A) → Seen A
        search_sums e k f = met R e [] (scan_sums e k f (keep e k (begin e k e.bottom e.top [])))

        unfoldable pub root_sums : Forest A → Seen A
        root_sums end = record { low = (R.frame 0 end).bottom; high = (R.frame 0 end).top; play = no_play; read = []; spent = false }
        root_sums (leaf n w v rest) = met R (R.frame n end) [] (point n v [])
        root_sums (inner n w k under rest) = search_sums (R.frame n under) k under

        -- ---- "before each child the sums are T times Algorithm 1's low and high there"

        -- of every child that Algorithm 1 comes to: the walk of `scan`, which goes under no node met unread, and past no cut; u and s are where the two
        -- searches stand before the first of these children
        abbrev pub EachBefore : (e : Frame A) (k : Kind) (f : Forest A) (u s : State A) → Type 0
        EachBefore e k end u s = Unit {0}
        EachBefore e k (leaf n w v rest) u s =
            let t : State A = update O e k n w s (met R e s.read (point n v s.read)) in
            AreSums e k u s
            × (stop O R.margin rest t ≡ false → EachBefore e k rest (update (on_sums O P) e k n w u (met R e u.read (point n v u.read))) t)
        EachBefore e k (inner n w c under rest) u s =
            let d : Frame A = R.frame n under in
            let i : State A = enter_sums e k w d c u in
            let j : State A = enter O e k w d c s in
            let t : State A = update O e k n w s (met R d s.read (scan O R d c under j)) in
            AreSums e k u s
            × (R.full s.read ≡ false → EachBefore d c under i j)
            × (stop O R.margin rest t ≡ false → EachBefore e k rest (update (on_sums O P) e k n w u (met R d u.read (scan_sums d c under i))) t)

        -- in the search of a root
        abbrev pub EachBeforeRoot : Forest A → Type 0
        EachBeforeRoot end = Unit {0}
        EachBeforeRoot (leaf n w v rest) = Unit {0}
        EachBeforeRoot (inner n w k under rest) =
            let e : Frame A = R.frame n under in
            let s : State A = begin e k e.bottom e.top [] in
            R.full [] ≡ false → EachBefore e k under (keep e k s) s

-- ---- in whole grains

-- line 9 from T × α and T × U, and line 10 from T × β and T × L, rounded as in Whole.antt
unfoldable pub down_sum : (e : Frame ℤ) (w : ℕ) (α U : ℤ) → ℤ
down_sum e w α U = max_z e.bottom (floor_z (α -ℤ U) w +ℤ e.top)

unfoldable pub up_sum : (e : Frame ℤ) (w : ℕ) (β L : ℤ) → ℤ
up_sum e w β L = min_z e.top (ceil_z (β -ℤ L) w +ℤ e.bottom)

abbrev pub sums_z : SumArith ℤ
sums_z = record {
  times = λ T x. pos T *ℤ x;
  over = λ T x. floor_z x T;
  down = down_sum;
  up = up_sum;
  gain = λ e w L Lc. L +ℤ pos w *ℤ (Lc -ℤ e.bottom);
  loss = λ e w U Uc. U -ℤ pos w *ℤ (e.top -ℤ Uc);
}

-- the search of a table with running sums, at the margin ε, until the budget is spent
abbrev pub summed_until : Table → (ε : ℕ) (full : List ℕ → Bool) → Seen ℤ
summed_until t ε full = root_sums sums_z whole (rules t ε full) (in_grains (grain t) (tree t))

-- in the search of a table the sums are T times Algorithm 1's low and high before each child
abbrev pub SumsBefore : Table → (ε : ℕ) (full : List ℕ → Bool) → Type 0
SumsBefore t ε full = EachBeforeRoot sums_z whole (rules t ε full) (in_grains (grain t) (tree t))
