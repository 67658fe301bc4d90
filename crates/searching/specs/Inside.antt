-- What the functions of the search over nodes, seen as four lists of numbers, ask and tell, in the words of Algorithm 1 over heights, with the running sums of a C. No promise names these.
use Rattle.std.specs.Prelude.{ℕ, ◌+◌, ◌*◌, ◌≤◌, ◌<◌, ◌≡◌, true, false, List, [], length}
use Rattle.table.specs.Tree.{Kind, MAX, Forest, end, leaf, inner, is_chance, is_end, weigh}
use Rattle.table.specs.Inside.{Slices, Spans, Holds}
use Rattle.table.specs.Slices.{laid}
use Rattle.table.specs.Root.{play_of}
use Rattle.table.specs.Nodes.{slices_in}
use Rattle.table.specs.Accepted.{Rooted}
use Rattle.search.specs.Search.{Frame, no_play, Seen, Rules, limited, framed, begin, met, node_of}
use Rattle.search.specs.Sums.{keep, scan_sums}
use Rattle.search.specs.Inside.{natural, height_sums, grained}
use Rattle.steps.specs.declared.Rule.{Rule}
use Rattle.steps.specs.declared.Ends.{Ends}
use Rattle.steps.specs.declared.Window.{Window}
use Rattle.steps.specs.declared.Found.{Found}
use Rattle.searching.specs.declared.Table.{Table}
use Rattle.steps.specs.Inside.{ends_at, leaf_seen, Gives, limit, OkEnds}

-- What a search goes by: the margin and the scale, and each inner node's own ends, with the two lists that they are read from.
pub record Way : Type 0 where
  pub rule : Rule
  pub own : ℕ → Ends
  pub rises : List ℕ
  pub tops : List ℕ

-- from the lists, or where they are empty the ends v at every node
abbrev pub way : Rule → Ends → (rises tops : List ℕ) → Way
way g v rises tops = record { rule = g; own = ends_at g.grain rises tops v; rises = rises; tops = tops }

-- a table's nodes, and what its search goes by where the ends are v
abbrev pub nodes_of : Table → Slices
nodes_of t = slices_in t.nodes.now

abbrev pub way_of : Table → Ends → Way
way_of t v = way t.rule v t.rise.now t.tops.now

-- with so many reads left
abbrev pub rules_of : Way → (left : ℕ) → Rules ℕ
rules_of g left =
    record { frame = λ (n : ℕ) (f : Forest ℕ). framed (g.own n).bottom (g.own n).top f; margin = g.rule.margin; full = limited left }

-- What a node of these children, their heights in points, gives in the window w, where its ends are v and it is entered with so many reads left.
abbrev pub seen_in : Way → Ends → (left : ℕ) → Kind → Forest ℕ → Window → Seen ℕ
seen_in g v left k F w =
    let f : Forest ℕ = grained g.rule.grain F in
    let e : Frame ℕ = framed v.bottom v.top f in
    let R : Rules ℕ = rules_of g left in
    met R e [] (scan_sums height_sums natural R e k f (keep height_sums e k (begin e k w.alpha w.beta [])))

-- what the first node gives in the window w, where its parent's ends are v
abbrev pub node_seen : Way → Ends → (left : ℕ) → Forest ℕ → Window → Seen ℕ
node_seen g v left end w = record { low = 0; high = 0; play = no_play; read = []; spent = false }
node_seen g v left (leaf n x h rest) w = leaf_seen v left n (h * g.rule.grain)
node_seen g v left (inner n x j under rest) w = seen_in g (g.own n) left j under w

-- ---- what can be searched

pub record OkRule (g : Rule) : Type 0 where
  pub margin : g.margin ≤ 40000000000000
  pub grain : g.grain ≤ 16777216

-- under a C a weight is at least 1, and the weights sum to at most 64
abbrev pub Pays : Kind → ℕ → Type 0
Pays k w = is_chance k ≡ true → 0 < w

abbrev pub Light : Kind → Forest ℕ → Type 0
Light k f = is_chance k ≡ true → weigh f ≤ 64

-- the node n, whose parent has the ends v: its own lie between them, and stand in the lists if these are not empty
pub record Nested (g : Way) (v : Ends) (n : ℕ) : Type 0 where
  pub bottom : v.bottom ≤ (g.own n).bottom
  pub order : (g.own n).bottom ≤ (g.own n).top
  pub top : (g.own n).top ≤ v.top
  pub room : 0 < length g.tops → (n < length g.rises) × (n < length g.tops)

-- weights, heights between the ends, and every inner node with a child and with its own ends
unfoldable pub Fit : Way → Ends → Kind → Forest ℕ → Type 0
Fit g v k end = Unit {0}
Fit g v k (leaf i w h rest) = Pays k w × (v.bottom ≤ h * g.rule.grain) × (h * g.rule.grain ≤ v.top) × Fit g v k rest
Fit g v k (inner i w j under rest) = Pays k w × (is_end under ≡ false) × Light j under × Nested g v i × Fit g (g.own i) j under × Fit g v k rest

-- the children in the entries from c up to e can be searched in the window w
pub record ReadyChildren (t : Slices) (g : Way) (v : Ends) (k : Kind) (w : Window) (c e left room : ℕ) : Type 0 where
  pub nodes : Forest ℕ
  pub spans : Spans t c e nodes
  pub some : c < e
  pub fit : Fit g v k nodes
  pub light : Light k nodes
  pub ends : OkEnds v
  pub rule : OkRule g.rule
  pub alpha : w.alpha ≤ limit
  pub beta : w.beta ≤ limit
  pub holds : Holds t e
  pub within : left ≤ room

-- what is told of them
abbrev pub Told : Slices → Way → Ends → Kind → Window → (c e left : ℕ) → Found → List ℕ → List ℕ → Type 0
Told t g v k w c e left r came now = (F : Forest ℕ) → Spans t c e F → Gives left r (seen_in g v left k F w) came now

-- ---- the whole table

-- the nodes in the entries up to n are one tree that can be searched between the ends v
pub record ReadyRoot (t : Slices) (g : Way) (v : Ends) (n : ℕ) : Type 0 where
  pub nodes : Forest ℕ
  pub spans : Spans t 0 n nodes
  pub rooted : Rooted nodes
  pub fit : Fit g v MAX nodes
  pub ends : OkEnds v
  pub rule : OkRule g.rule
  pub holds : Holds t n

-- what the search of a tree gives: its root's window is its own ends
abbrev pub root_seen : Way → Ends → (left : ℕ) → Forest ℕ → Seen ℕ
root_seen g v left F = node_seen g v left F (record { alpha = (g.own 0).bottom; beta = (g.own 0).top })

-- the result r, with the list as it came and as it is now, is what was seen
pub record Shows (r : Found) (a : Seen ℕ) (came now : List ℕ) : Type 0 where
  pub low : r.low ≡ a.low
  pub high : r.high ≡ a.high
  pub play : r.play ≡ play_of (node_of a.play)
  pub reads : r.left + length a.read ≡ length came
  pub spent : r.spent ≡ a.spent
  pub leaves : now ≡ laid a.read came

-- what the search of a tree that can be searched gives, within a budget of as many reads as the list has entries
abbrev pub Searched : Slices → Way → Ends → ℕ → Found → List ℕ → List ℕ → Type 0
Searched t g v n r came now = (R : ReadyRoot t g v n) → Shows r (root_seen g v (length came) R.nodes) came now
