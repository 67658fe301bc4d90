-- The search with the play of document 01 alone, as it was before document 02's Item 6. It serves the theorem that bounds and leaves are as before, and
-- examples in which it names another play.
use Rattle.std.specs.Prelude.{ℕ, Bool, false, List, ℤ}
use Rattle.std.specs.Int.Signed.{lt_z}
use Rattle.table.specs.Tree.{Kind, MAX, MIN, CHANCE}
use Rattle.table.specs.Table.{Table, tree, grain}
use Rattle.search.specs.Search.{Arith, Seen, search_root}
use Rattle.search.specs.Whole.{whole, in_grains, rules}

module _ {A : Type 0} where
  -- "At an M root it is the first child entered that has the highest low; at an N root the first with the lowest high"
  unfoldable pub formerly : (less : A → A → Bool) (k : Kind) (l h bl bh : A) → Bool
  formerly less MAX l h bl bh = less bl l
  formerly less MIN l h bl bh = less h bh
  formerly less CHANCE l h bl bh = false

  -- the same arithmetic with another rule for the play
  abbrev pub with_beats : (beats : (k : Kind) (l h bl bh : A) → Bool) → Arith A → Arith A
  with_beats beats O =
      record {
        high-of = O.high-of;
        low_of = O.low_of;
        near = O.near;
        down = O.down;
        up = O.up;
        gain = O.gain;
        loss = O.loss;
        beats = beats;
      }

-- the search of a table at the margin ε, until the budget is spent
abbrev pub former_until : Table → (ε : ℕ) (full : List ℕ → Bool) → Seen ℤ
former_until t ε full = search_root (with_beats (formerly lt_z) whole) (rules t ε full) (in_grains (grain t) (tree t))
