-- Algorithm 1 of document 000, over any arithmetic, with the play of document 01, 'The search', and document 02's leaf budget, Item 3, and ties between
-- plays, Item 6. Whole.antt has the paper's own arithmetic, whole grains, and the search of a table.
use Rattle.std.specs.Prelude.{ℕ, Bool, true, not, ◌&&◌, ◌||◌, cond, List, [], ◌∷◌, ◌++◌, leb, length}
use Rattle.std.proofs.Math.Bool.{false}
use Rattle.std.proofs.Math.Option.{Option, none, some}
use Rattle.table.specs.Tree.{Kind, MAX, MIN, CHANCE, Forest, end, leaf, inner, is_end, weigh}

-- What Algorithm 1 knows of a node: v_min and v_max, and the total of its children's weights, "π as weight/T".
pub record Frame (A : Type 0) : Type 0 where
  pub bottom : A
  pub top : A
  pub total : ℕ

-- the best child entered so far, with its bounds: "The play is either a root child or none"
pub data Play (A : Type 0) : Type 0 where
  no_play : Play A
  child : (node : ℕ) (low high : A) → Play A

-- What the search of a node gives: its two bounds, the best child, the leaves read so far in reading sequence, and whether the node met last was met
-- with the budget spent. No leaf is read from then on, so every node met later is met so too.
pub record Seen (A : Type 0) : Type 0 where
  pub low : A
  pub high : A
  pub play : Play A
  pub read : List ℕ
  pub spent : Bool

-- Where the search of a node stands between two children: α(n) and β(n); `lo` is L(n), at a MIN node best_L; `hi` is U(n), at a MAX node best_U.
pub record State (A : Type 0) : Type 0 where
  pub alpha : A
  pub beta : A
  pub lo : A
  pub hi : A
  pub play : Play A
  pub read : List ℕ
  pub spent : Bool

-- What the search computes with: the larger and the smaller of two, and whether β ≤ α + ε. `down` and `up` are the new α and β of lines 9 and 10,
-- from the parent's α and U, and β and L; `gain` and `loss` are the new L and U of lines 20 and 21, from L(n) and L(c), and U(n) and U(c). These four
-- take the node's frame e and the child's weight w. `beats` is the rule for the play: whether a child of bounds l and h takes the place of an
-- earlier one of bounds bl and bh.
pub record Arith (A : Type 0) : Type 0 where
  pub high-of : (x y : A) → A
  pub low_of : (x y : A) → A
  pub near : (ε : ℕ) (α β : A) → Bool
  pub down : (e : Frame A) (w : ℕ) (α U : A) → A
  pub up : (e : Frame A) (w : ℕ) (β L : A) → A
  pub gain : (e : Frame A) (w : ℕ) (L Lc : A) → A
  pub loss : (e : Frame A) (w : ℕ) (U Uc : A) → A
  pub beats : (k : Kind) (l h bl bh : A) → Bool

-- the frame of each node, from its number and its children, the margin ε, and whether the budget is spent once these leaves are read
pub record Rules (A : Type 0) : Type 0 where
  pub frame : (n : ℕ) (under : Forest A) → Frame A
  pub margin : ℕ
  pub full : (read : List ℕ) → Bool

-- document 01's search: its budget never ends
abbrev pub unlimited : (read : List ℕ) → Bool
unlimited read = false

-- document 02, Item 3: "The search takes a number of leaf reads"
abbrev pub limited : (budget : ℕ) (read : List ℕ) → Bool
limited budget read = leb budget (length read)

module _ {A : Type 0} where
  -- The frame of a node with these children, between two ends. T is the node's own sum, by document 02, Item 5 "its T in every rule, Item 4's too"; that
  -- in an accepted table every C's weights sum to one of the header's totals is the theorem table/proofs/Accepted.accepted-balanced.
  abbrev pub framed : (bottom top : A) (under : Forest A) → Frame A
  framed bottom top under = record { bottom = bottom; top = top; total = weigh under }

  -- lines 3 to 5: L(n) and U(n), best_U at MAX and best_L at MIN, before the first child
  unfoldable pub first_low : (e : Frame A) (k : Kind) → A
  first_low e MAX = e.bottom
  first_low e MIN = e.top
  first_low e CHANCE = e.bottom

  unfoldable pub first_high : (e : Frame A) (k : Kind) → A
  first_high e MAX = e.bottom
  first_high e MIN = e.top
  first_high e CHANCE = e.top

  -- L(n) and U(n) before lines 25 and 26: at MAX U(n) is still v_max, at MIN L(n) is still v_min
  unfoldable pub run_low : (e : Frame A) (k : Kind) (lo : A) → A
  run_low e MAX lo = lo
  run_low e MIN lo = e.bottom
  run_low e CHANCE lo = lo

  unfoldable pub run_high : (e : Frame A) (k : Kind) (hi : A) → A
  run_high e MAX hi = e.top
  run_high e MIN hi = hi
  run_high e CHANCE hi = hi

  -- lines 3 to 10, for the window α, β of a node, and the leaves read before it
  unfoldable pub begin : (e : Frame A) (k : Kind) (α β : A) (before : List ℕ) → State A
  unfolding first_low first_high
  begin e k α β before = record { alpha = α; beta = β; lo = first_low e k; hi = first_high e k; play = no_play; read = before; spent = false }

  -- lines 25 to 27
  unfoldable pub finish : (s : State A) → Seen A
  finish s = record { low = s.lo; high = s.hi; play = s.play; read = s.read; spent = s.spent }

  -- the return of line 24
  unfoldable pub cut : (e : Frame A) (k : Kind) (s : State A) → Seen A
  unfolding run_low run_high
  cut e k s = record { low = run_low e k s.lo; high = run_high e k s.hi; play = s.play; read = s.read; spent = s.spent }

  -- lines 1 and 2: a leaf's two bounds are its worth, and it is read
  unfoldable pub point : (n : ℕ) (v : A) (before : List ℕ) → Seen A
  point n v before = record { low = v; high = v; play = no_play; read = before ++ (n ∷ []); spent = false }

  -- Item 3: "A node first met when the budget is spent gives the table's two ends as its bounds and reads nothing". e is its own frame, at a leaf its parent's, at
  -- a lone leaf that of no children; where there is a budget, every frame has the table's ends.
  unfoldable pub met_spent : (e : Frame A) (before : List ℕ) → Seen A
  met_spent e before = record { low = e.bottom; high = e.top; play = no_play; read = before; spent = true }

  -- what a node gives that would give r, were the budget not spent
  abbrev pub met : (R : Rules A) (e : Frame A) (before : List ℕ) (r : Seen A) → Seen A
  met R e before r = cond (R.full before) (met_spent e before) r

  -- a is below b, or there is a tie and x is below y
  unfoldable pub below : (less : A → A → Bool) (a b x y : A) → Bool
  below less a b x y = less a b || (not (less b a) && less x y)

  -- The rule for the play. Document 01: "At an M root it is the first child entered that has the highest low; at an N root the first with the lowest
  -- high". Item 6: "At M the tie goes to the highest high, at N the lowest low breaks a tie of lowest high; a tie still left goes to the first."
  unfoldable pub safer : (less : A → A → Bool) (k : Kind) (l h bl bh : A) → Bool
  unfolding below
  safer less MAX l h bl bh = below less bl l bh h
  safer less MIN l h bl bh = below less h bh l bl
  safer less CHANCE l h bl bh = false

  module _ (O : Arith A) where
    -- lines 7 to 10: the window of a child of weight w
    unfoldable pub lower : (e : Frame A) (k : Kind) (w : ℕ) (s : State A) → A
    lower e MAX w s = s.alpha
    lower e MIN w s = s.alpha
    lower e CHANCE w s = O.down e w s.alpha s.hi

    unfoldable pub upper : (e : Frame A) (k : Kind) (w : ℕ) (s : State A) → A
    upper e MAX w s = s.beta
    upper e MIN w s = s.beta
    upper e CHANCE w s = O.up e w s.beta s.lo

    -- lines 15, 17 and 20, from the child's L
    unfoldable pub next_low : (e : Frame A) (k : Kind) (w : ℕ) (lo l : A) → A
    next_low e MAX w lo l = O.high-of lo l
    next_low e MIN w lo l = O.low_of lo l
    next_low e CHANCE w lo l = O.gain e w lo l

    -- lines 14, 18 and 21, from the child's U
    unfoldable pub next_high : (e : Frame A) (k : Kind) (w : ℕ) (hi h : A) → A
    next_high e MAX w hi h = O.high-of hi h
    next_high e MIN w hi h = O.low_of hi h
    next_high e CHANCE w hi h = O.loss e w hi h

    -- the first child entered is the play, and then each that beats it
    unfoldable pub better : (k : Kind) (n : ℕ) (p : Play A) (r : Seen A) → Play A
    better k n no_play r = child n r.low r.high
    better k n (child m l h) r = cond (O.beats k r.low r.high l h) (child n r.low r.high) (child m l h)

    -- "at C and L there is none"
    unfoldable pub prefer : (k : Kind) (n : ℕ) (p : Play A) (r : Seen A) → Play A
    unfolding better
    prefer MAX n p r = better MAX n p r
    prefer MIN n p r = better MIN n p r
    prefer CHANCE n p r = no_play

    -- lines 13 to 23, for the child n of weight w that gave r
    unfoldable pub update : (e : Frame A) (k : Kind) (n w : ℕ) (s : State A) (r : Seen A) → State A
    unfolding next_low next_high run_low run_high prefer
    update e k n w s r =
        let l : A = next_low e k w s.lo r.low in
        let h : A = next_high e k w s.hi r.high in
        record { alpha = O.high-of s.alpha (run_low e k l); beta = O.low_of s.beta (run_high e k h); lo = l; hi = h; play = prefer k n s.play r; read = r.read; spent = r.spent }

    -- line 24: "The cut test comes after each child but the last, never before the first."
    unfoldable pub stop : (ε : ℕ) (rest : Forest A) (s : State A) → Bool
    stop ε rest s = not (is_end rest) && O.near ε s.alpha s.beta

    -- lines 3 to 10 for a child of weight w, whose frame is d and whose kind is c: where its own search begins
    abbrev pub enter : (e : Frame A) (k : Kind) (w : ℕ) (d : Frame A) (c : Kind) (s : State A) → State A
    enter e k w d c s = begin d c (lower e k w s) (upper e k w s) s.read

    module _ (R : Rules A) where
      -- line 24 after a child: the return, or what the search of the children that are left gives
      abbrev pub after : (e : Frame A) (k : Kind) (rest : Forest A) (t : State A) (later : Seen A) → Seen A
      after e k rest t later = cond (stop R.margin rest t) (cut e k t) later

      -- Lines 11 to 27 for the children that are left. "A line of each kind has its own rule, and each rule hands a child to the rule of that child's
      -- kind." Of a child met with the budget spent, Item 3: "the rules go on over it as over any child".
      unfoldable pub scan : (e : Frame A) (k : Kind) (f : Forest A) (s : State A) → Seen A
      scan e k end s = finish s
      scan e k (leaf n w v rest) s =
          let t : State A = update e k n w s (met R e s.read (point n v s.read)) in
          after e k rest t (scan e k rest t)
      scan e k (inner n w c under rest) s =
          let d : Frame A = R.frame n under in
          let t : State A = update e k n w s (met R d s.read (scan d c under (enter e k w d c s))) in
          after e k rest t (scan e k rest t)

      -- line 6: the window of the root is v_min to v_max. "If the root is so met, no play is named."
      unfoldable pub search : (e : Frame A) (k : Kind) (f : Forest A) → Seen A
      search e k f = met R e [] (scan e k f (begin e k e.bottom e.top []))

      -- Algorithm 1 on the first node, which is "node 0, the root", in a table's tree. Of no node, which no accepted table has, it is the two ends.
      unfoldable pub search_root : Forest A → Seen A
      search_root end = record { low = (R.frame 0 end).bottom; high = (R.frame 0 end).top; play = no_play; read = []; spent = false }
      search_root (leaf n w v rest) = met R (R.frame n end) [] (point n v [])
      search_root (inner n w k under rest) = search (R.frame n under) k under

  -- the node number of the play
  abbrev pub node_of : Play A → Option ℕ
  node_of no_play = none
  node_of (child m l h) = some m
