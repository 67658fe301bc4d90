-- What the functions of one step of the search ask and tell, in the words of Algorithm 1 over heights, with the running sums of a C. No promise names these.
use Rattle.std.specs.Prelude.{ℕ, suc, ◌+◌, ◌*◌, ◌-◌, ◌≤◌, ◌≡◌, Bool, true, false, ◌||◌, cond, List, [], ◌∷◌, eqb, ltb, length, get_or, set}
use Rattle.table.specs.Tree.{Kind, MAX, MIN, CHANCE}
use Rattle.table.specs.Root.{play_of}
use Rattle.table.specs.declared.Play as found
use Rattle.table.specs.declared.Play.TheVariants.{Child, NoPlay}
use Rattle.search.specs.Search as alg
use Rattle.search.specs.Search.{Frame, Play, no_play, Seen, limited, below, point, met, lower, upper, update, node_of}
use Rattle.search.specs.Inside.{natural, height_sums, natural_sums, height_rules}
use Rattle.steps.specs.declared.Ends.{Ends}
use Rattle.steps.specs.declared.State.{State}
use Rattle.steps.specs.declared.Window.{Window}
use Rattle.steps.specs.declared.Found.{Found}

-- ---- the code's numbers as Algorithm 1's

-- the ends of a node, and its total; no step of the code needs one, as a C's is in its sums
abbrev pub frame_at : Ends → (total : ℕ) → Frame ℕ
frame_at v total = record { bottom = v.bottom; top = v.top; total = total }

-- the state with the play p, and the leaves l read before; x is whether its last child was met unread
abbrev pub lift : State → Play ℕ → List ℕ → Bool → alg.State ℕ
lift s p l x = record { alpha = s.alpha; beta = s.beta; lo = s.low; hi = s.high; play = p; read = l; spent = x }

-- before a C's first child: the total times α, β, low and high
abbrev pub sums_at : Ends → (total α β : ℕ) → State
sums_at v total α β =
    let kept : ℕ → ℕ = height_sums.times total in
    record { alpha = kept α; beta = kept β; low = kept v.bottom; high = kept v.top; play = NoPlay; other = 0 }

-- the window of a child of weight w
abbrev pub window_for : Frame ℕ → Kind → (w : ℕ) → State → Window
window_for e k w s = record { alpha = lower natural_sums e k w (lift s no_play [] false); beta = upper natural_sums e k w (lift s no_play [] false) }

-- no child was entered yet
abbrev pub is_first : found.Play → Bool
is_first NoPlay = true
is_first (Child n) = false

-- Whether a child of these bounds takes the place of the best so far: the first does, and then each that is better. The best child's low is the low of an M
-- so far, and its high the high of an N.
abbrev pub takes : Kind → State → (low high : ℕ) → Bool
takes MAX s low high = is_first s.play || below ltb s.low low s.other high
takes MIN s low high = is_first s.play || below ltb high s.high low s.other
takes CHANCE s low high = false

-- of a child's two bounds the one that breaks a tie
abbrev pub other_of : Kind → (low high : ℕ) → ℕ
other_of MAX low high = high
other_of MIN low high = low
other_of CHANCE low high = 0

-- after the child i of weight w that gave low and high
abbrev pub after : Frame ℕ → Kind → (i w : ℕ) → State → (low high : ℕ) → State
after e k i w s low high =
    let t : alg.State ℕ = update natural_sums e k i w (lift s no_play [] false) (record { low = low; high = high; play = no_play; read = []; spent = false }) in
    record {
      alpha = t.alpha;
      beta = t.beta;
      low = t.lo;
      high = t.hi;
      play = cond (takes k s low high) (Child i) s.play;
      other = cond (takes k s low high) (other_of k low high) s.other;
    }

-- line 24, where the margin is on the line's scale
abbrev pub stops : (margin : ℕ) → State → Bool
stops margin s = natural.near margin s.alpha s.beta

-- ---- results

-- the ends of the node n: the lists have how many points they stand above the table's lowest end; where these are empty, they are its parent's, v
abbrev pub ends_at : (grain : ℕ) (rises tops : List ℕ) → Ends → (n : ℕ) → Ends
ends_at grain rises tops v n = cond (eqb (length tops) 0) v (record { bottom = get_or rises n 0 * grain; top = get_or tops n 0 * grain })

-- l with the numbers xs written from index k on
unfoldable pub put_from : List ℕ → ℕ → List ℕ → List ℕ
put_from l k [] = l
put_from l k (x ∷ xs) = put_from (set l k x) (suc k) xs

-- The result r, with the list as it came and as it is now, is what was seen of a node that was entered with so many reads left. The list has an entry
-- for each read of the whole budget, and the leaves are listed behind those read before.
pub record Gives (left : ℕ) (r : Found) (a : Seen ℕ) (came now : List ℕ) : Type 0 where
  pub low : r.low ≡ a.low
  pub high : r.high ≡ a.high
  pub play : r.play ≡ play_of (node_of a.play)
  pub reads : r.left + length a.read ≡ left
  pub spent : r.spent ≡ a.spent
  pub leaves : now ≡ put_from came (length came - left) a.read

-- a C of this total that is left with the state s, so many reads, and this of the child met last
abbrev pub left_in : (total : ℕ) → State → (left : ℕ) → Bool → Found
left_in total s left x = record { low = height_sums.over total s.low; high = height_sums.over total s.high; play = s.play; left = left; spent = x }

-- a node met when no read is left
abbrev pub met_spent_in : Ends → Found
met_spent_in v = record { low = v.bottom; high = v.top; play = NoPlay; left = 0; spent = true }

-- the leaf c of h grains, whatever the margin
abbrev pub leaf_seen : Ends → (left c h : ℕ) → Seen ℕ
leaf_seen v left c h = met (height_rules v.bottom v.top 0 (limited left)) (frame_at v 0) [] (point c h [])

-- ---- numbers that fit

-- no number of grains is above this, and no sum above the other
abbrev pub limit : ℕ
limit = 35184372088832

abbrev pub sum_limit : ℕ
sum_limit = 2251799813685248

pub record OkEnds (v : Ends) : Type 0 where
  pub order : v.bottom ≤ v.top
  pub top : v.top ≤ limit

pub record OkSums (s : State) : Type 0 where
  pub alpha : s.alpha ≤ sum_limit
  pub beta : s.beta ≤ sum_limit
  pub low : s.low ≤ sum_limit
  pub high : s.high ≤ sum_limit
