-- The children that a search enters, and the best of them. Document 01, 'The search', and document 02, Items 3, 6 and 14.
use Rattle.std.specs.Prelude.{ℕ, ◌≡◌, Bool, true, false, cond, ℤ}
use mathlib.Core.List.{List, [], ◌∷◌, ◌++◌, Memᴰ}
use Rattle.table.specs.Tree.{Kind, Forest, end, leaf, inner}
use Rattle.table.specs.Table.{Table, tree, grain}
use Rattle.table.specs.Root.{Side, AtM, AtN}
use Rattle.search.specs.Search.{Frame, Seen, State, Arith, Rules, below, begin, point, met, update, stop, enter, scan}
use Rattle.search.specs.Whole.{whole, in_grains, rules, whole_own, own_rules}

-- a child entered, with the bounds that its search gave
pub record Entered (A : Type 0) : Type 0 where
  pub node : ℕ
  pub low : A
  pub high : A

module _ {A : Type 0} where
  abbrev pub as_entered : (n : ℕ) (r : Seen A) → Entered A
  as_entered n r = record { node = n; low = r.low; high = r.high }

  module _ (O : Arith A) (R : Rules A) where
    -- the children entered from the state s on, first to last: the walk of `scan`, up to the child after which it stops. One met with the
    -- budget spent is among them, with the two ends as its bounds: "the rules go on over it as over any child"; Item 6 says that it "counts as entered".
    unfoldable pub entered : (e : Frame A) (k : Kind) (f : Forest A) (s : State A) → List (Entered A)
    entered e k end s = []
    entered e k (leaf n w v rest) s =
        let r : Seen A = met R e s.read (point n v s.read) in
        let t : State A = update O e k n w s r in
        as_entered n r ∷ cond (stop O R.margin rest t) [] (entered e k rest t)
    entered e k (inner n w c under rest) s =
        let d : Frame A = R.frame n under in
        let r : Seen A = met R d s.read (scan O R d c under (enter O e k w d c s)) in
        let t : State A = update O e k n w s r in
        as_entered n r ∷ cond (stop O R.margin rest t) [] (entered e k rest t)

    -- the children of the root that are entered: none of a lone leaf, and none of a root met unread
    unfoldable pub entered_root : Forest A → List (Entered A)
    entered_root end = []
    entered_root (leaf n w v rest) = []
    entered_root (inner n w k under rest) =
        let e : Frame A = R.frame n under in
        cond (R.full []) [] (entered e k under (begin e k e.bottom e.top []))

  -- Whether x is worse than y, by `less`. At M "the first child entered that has the highest low", and "the tie goes to the highest high": its low is
  -- lower, or equal and its high is lower. At N "the first with the lowest high", and "the lowest low breaks a tie of lowest high".
  abbrev pub worse : (less : A → A → Bool) → Side → (x y : Entered A) → Bool
  worse less AtM x y = below less x.low y.low x.high y.high
  worse less AtN x y = below less y.high x.high y.low x.low

  -- "a tie still left goes to the first": every child entered before the best is behind it, and the best is behind none entered later
  pub record FirstBest (behind : Entered A → Entered A → Bool) (xs : List (Entered A)) (best : Entered A) : Type 0 where
    pub before : List (Entered A)
    pub later : List (Entered A)
    pub among : xs ≡ before ++ (best ∷ later)
    pub earlier-worse : (x : Entered A) → Memᴰ x before → behind x best ≡ true
    pub later-no-better : (x : Entered A) → Memᴰ x later → behind best x ≡ false

-- in the search of a table at the margin ε, until the budget is spent
abbrev pub entered_of : Table → (ε : ℕ) (full : List ℕ → Bool) → List (Entered ℤ)
entered_of t ε full = entered_root whole (rules t ε full) (in_grains (grain t) (tree t))

-- in the search of a table at the margin ε with its index
abbrev pub entered_own : Table → (ε : ℕ) → List (Entered ℤ)
entered_own t ε = entered_root whole_own (own_rules ε) (in_grains (grain t) (tree t))
