use Prim.Native.Nat.{ℕ, ◌≤◌, ◌<◌}
use mathlib.Core.Path.{◌≡◌, refl, sym, subst}
use native.Mathlib.Omega.{arith}
use lib.ListN.{length, get_or}
use Rattle.table.specs.Tree.{MAX, MIN, CHANCE, weigh}
use Rattle.table.specs.Nodes.{weights_in}
use Rattle.search.specs.Search.{run_low, run_high}
use Rattle.search.specs.Sums.{scaled, divided}
use Rattle.steps.specs.declared.Window.{Window}
use Rattle.steps.specs.Inside.{limit}
use Rattle.searching.specs.Inside.{nodes_of, way_of}
use Rattle.searching.proofs.Read.{stop_at, weight_at, kind_at, inner_at, chance_at}
use Rattle.searching.proofs.Rules.{NodeTold, told_same, told-leaf, told-inner, told-spent, going_start, chance-small, chance-weight, chance-total, window-small, window_of, Child, child-of, ready-own, child-asks, child-leaf, ChildTold, max-told, min-told, chance-told, max-state, min-state, chance-state, chance-margin-is, told-within, ready-light, chance-begins, chance-tells, Turn, turn-less, turn-margin, turn_last, turn-cut, turn_on}
use Rattle.searching.proofs.Table.+chance_over_max_over_min_over.Goals as goal
use Rattle.searching.proofs.Table.+chance_over_max_over_min_over.Goals.{chance_over-After-chance_after-t, chance_over-After-chance_window-y, chance_over-After-from-x, chance_over-Joined-self-i, chance_over-in-Leaf, chance_over-in_default+in-Max, chance_over-in_default+in-Min, chance_over-in_default+in_default-kind, chance_over-then-e-end-via-else-e-end+then-stopped, chance_over-then-e-end-via-then-e-end, max_over-After-from-e, max_over-After-max_after-t, max_over-Joined-self-i, max_over-in-Leaf, max_over-in_default+in-Max, max_over-in_default+in-Min, max_over-in_default+in_default-kind, min_over-After-from-e, min_over-After-min_after-t, min_over-Joined-self-i, min_over-in-Leaf, min_over-in_default+in-Max, min_over-in_default+in-Min, min_over-in_default+in_default-kind}

-- ---- chance_over

pub chance_over-returns-then-left-eq0 : goal.chance_over-returns-then-left-eq0
chance_over-returns-then-left-eq0 t c =
    let a = c.args in
    told-spent (nodes_of a.self.now) (way_of a.self.now a.v) CHANCE a.w a.c a.end c.if-left-eq0.true c.met_spent.ensures

pub chance_over-chance_margin-margin-requires : goal.chance_over-chance_margin-margin-requires
chance_over-chance_margin-margin-requires t c = (ready-light c.requires c.sum_weights-total.ensures, c.requires.rule.margin)

pub chance_over-chance_start-t-requires : goal.chance_over-chance_start-t-requires
chance_over-chance_start-t-requires t c =
    let R = c.requires in
    (R.ends, ready-light R c.sum_weights-total.ensures, R.alpha, R.beta)

pub chance_over-loop-i-init : goal.chance_over-loop-i-init
chance_over-loop-i-init t c = chance-begins c.requires c.if-left-eq0.false c.sum_weights-total.ensures c.chance_start-t.ensures

-- at the place where the child's weight was read: it is the one in the slice, and the total is the sum of all
chance-over-weight : (t : ℕ) (c : chance_over-After-from-x t) → c.from-x.result ≡ get_or (weights_in c.args.self.now.nodes.now) c.loop-i.i 0
chance-over-weight t c = weight_at c.args.self.now.nodes.now c.loop-i.i c.from-x.ensures

chance-over-total : (t : ℕ) (c : chance_over-After-from-x t) → c.sum_weights-total.result ≡ weigh c.loop-i.invariant.all
chance-over-total t c = chance-total c.loop-i.invariant c.sum_weights-total.ensures

chance-over-sizes : (t : ℕ) (c : chance_over-After-from-x t)
    → (0 < c.from-x.result) × (c.from-x.result ≤ c.sum_weights-total.result) × (c.sum_weights-total.result ≤ 64)
chance-over-sizes t c =
    let u = chance-weight c.loop-i.invariant in
    let q = chance-over-weight t c in
    let p = chance-over-total t c in
    (omega (arith, u.0, q), omega (arith, u.1, p, q), omega (arith, u.2, p))

-- for a leaf the window does not matter
chance-over-near : (t : ℕ) (c : chance_over-After-from-x t)
    → let a = c.args in
    let l = c.loop-i in
    Child (nodes_of a.self.now) (way_of a.self.now a.v) a.v a.c a.end l.i c.from-e.result l.n (length l.leaves) (record { alpha = 0; beta = 0 })
chance-over-near t c =
    child-of c.loop-i.invariant c.from-e.result (record { alpha = 0; beta = 0 }) (stop_at c.args.self.now.nodes.now c.loop-i.i c.from-e.ensures) (omega arith) (omega arith)

pub chance_over-leaf_at-r-requires : goal.chance_over-leaf_at-r-requires
chance_over-leaf_at-r-requires t c = child-leaf c.args.self.now.nodes.now (chance-over-near t (goal.at.chance_over-leaf_at-r-requires t c).After-from-x) (kind_at c.args.self.now.nodes.now c.loop-i.i c.in-Leaf.is)

pub chance_over-ends_at-u-requires : goal.chance_over-ends_at-u-requires
chance_over-ends_at-u-requires t c = ready-own (chance-over-near t (goal.at.chance_over-ends_at-u-requires t c).After-from-x).node (inner_at c.args.self.now.nodes.now c.loop-i.i c.in_default.not-Leaf)

pub chance_over-chance_window-y-requires : goal.chance_over-chance_window-y-requires
chance_over-chance_window-y-requires t c =
    let I = c.loop-i.invariant in
    let u = chance-over-sizes t (goal.at.chance_over-chance_window-y-requires t c).After-from-x in
    (I.ends, chance-small I, u.0, omega (arith, u.1, u.2))

-- at the place where the child's window was made
chance-over-child : (t : ℕ) (c : chance_over-After-chance_window-y t)
    → let a = c.args in
    let l = c.loop-i in
    Child (nodes_of a.self.now) (way_of a.self.now a.v) a.v a.c a.end l.i c.from-e.result l.n (length l.leaves) c.chance_window-y.result
chance-over-child t c =
    let a = c.args in
    let l = c.loop-i in
    let y = c.chance_window-y in
    let q = window-small a.v c.from-x.result l.t l.invariant.ends in
    child-of l.invariant c.from-e.result y.result (stop_at c.args.self.now.nodes.now c.loop-i.i c.from-e.ensures)
    (subst (λ (z : Window). z.alpha ≤ limit) (sym y.ensures) q.0) (subst (λ (z : Window). z.beta ≤ limit) (sym y.ensures) q.1)

pub chance_over-max_over-requires : goal.chance_over-max_over-requires
chance_over-max_over-requires t c = child-asks (chance-over-child t (goal.at.chance_over-max_over-requires t c).After-chance_window-y) t c.decreases MAX c.ends_at-u.ensures (kind_at c.args.self.now.nodes.now c.loop-i.i c.in-Max.is)

pub chance_over-min_over-requires : goal.chance_over-min_over-requires
chance_over-min_over-requires t c = child-asks (chance-over-child t (goal.at.chance_over-min_over-requires t c).After-chance_window-y) t c.decreases MIN c.ends_at-u.ensures (kind_at c.args.self.now.nodes.now c.loop-i.i c.in-Min.is)

pub chance_over-chance_over-requires : goal.chance_over-chance_over-requires
chance_over-chance_over-requires t c =
    child-asks (chance-over-child t (goal.at.chance_over-chance_over-requires t c).After-chance_window-y) t c.decreases CHANCE c.ends_at-u.ensures
    (chance_at c.args.self.now.nodes.now c.loop-i.i c.in_default.not-Leaf c.in_default-kind.not-Max c.in_default-kind.not-Min)

-- at the place where the four ways meet: what the search of the child told
chance-over-joined : (t : ℕ) (c : chance_over-Joined-self-i t) → ChildTold c.loop-i.invariant c.match-self-i.r c.match-self-i.leaves
chance-over-joined t c =
    let I = c.loop-i.invariant in
    let x = stop_at c.args.self.now.nodes.now c.loop-i.i c.from-e.ensures in
    let q = chance-over-weight t (goal.at.chance_over-Joined-self-i t c).After-from-x in
    elim c.match-self-i.branch [
      | chance_over-in-Leaf w ↦ told_same w.r-is w.leaves-is (told-leaf (kind_at c.args.self.now.nodes.now c.loop-i.i w.in-Leaf.is) w.leaf_at-r.ensures)
      | chance_over-in_default+in-Max w ↦ told_same w.r-is w.leaves-is (chance-told I q w.chance_window-y.ensures (told-inner MAX w.ends_at-u.ensures (kind_at c.args.self.now.nodes.now c.loop-i.i w.in-Max.is) x w.max_over.ensures))
      | chance_over-in_default+in-Min w ↦ told_same w.r-is w.leaves-is (chance-told I q w.chance_window-y.ensures (told-inner MIN w.ends_at-u.ensures (kind_at c.args.self.now.nodes.now c.loop-i.i w.in-Min.is) x w.min_over.ensures))
      | chance_over-in_default+in_default-kind w ↦ told_same w.r-is w.leaves-is (chance-told I q w.chance_window-y.ensures (told-inner CHANCE w.ends_at-u.ensures
          (chance_at c.args.self.now.nodes.now c.loop-i.i w.in_default.not-Leaf w.in_default-kind.not-Max w.in_default-kind.not-Min) x w.chance_over.ensures))
    ]

pub chance_over-chance_after-t-requires : goal.chance_over-chance_after-t-requires
chance_over-chance_after-t-requires t c =
    let I = c.loop-i.invariant in
    let u = chance-over-sizes t (goal.at.chance_over-chance_after-t-requires t c).After-from-x in
    let h = told-within I (chance-over-joined t (goal.at.chance_over-chance_after-t-requires t c).Joined-self-i) in
    (I.ends, chance-small I, omega (arith, u.1, u.2), h.0, h.1, h.2)

-- after the child: one turn of the loop
chance-over-turn : (t : ℕ) (c : chance_over-After-chance_after-t t)
    → let a = c.args in
    Turn (nodes_of a.self.now) (way_of a.self.now a.v) a.v CHANCE a.w a.c a.end a.left c.chance_margin-margin.result a.leaves.now
    c.loop-i.i c.from-e.result c.match-self-i.r c.chance_after-t.result c.match-self-i.leaves
chance-over-turn t c =
    let W = (goal.at.chance_over-After-chance_after-t t c).After-from-x in
    let l = c.loop-i in
    record {
      s = l.t;
      left = l.n;
      came = l.leaves;
      going = l.invariant;
      stop = stop_at c.args.self.now.nodes.now c.loop-i.i c.from-e.ensures;
      told = chance-over-joined t (goal.at.chance_over-After-chance_after-t t c).Joined-self-i;
      state = chance-state l.invariant c.match-self-i.r (chance-over-weight t W) c.chance_after-t.ensures;
      margin = chance-margin-is l.invariant c.chance_margin-margin.ensures (chance-over-total t W);
    }

pub chance_over-chance_left-requires : goal.chance_over-chance_left-requires
chance_over-chance_left-requires t c = let u = chance-over-sizes t (goal.at.chance_over-chance_left-requires t c).After-from-x in omega (arith, u.0, u.1)

pub chance_over-returns-then-e-end : goal.chance_over-returns-then-e-end
unfolding run_low run_high
chance_over-returns-then-e-end t c =
    let U = chance-over-turn t (goal.at.chance_over-returns-then-e-end t c).After-chance_after-t in
    let tells = chance-tells U c.sum_weights-total.ensures c.chance_left.ensures in
    elim c.then-e-end.branch [
      | chance_over-then-e-end-via-then-e-end w ↦ tells (turn_last U w.if-e-end.true)
      | chance_over-then-e-end-via-else-e-end+then-stopped w ↦ tells (turn-cut U w.if-e-end.false w.stopped.ensures w.if-stopped.true)
    ]

pub chance_over-stopped-requires : goal.chance_over-stopped-requires
chance_over-stopped-requires t c = turn-margin (chance-over-turn t (goal.at.chance_over-stopped-requires t c).After-chance_after-t)

pub chance_over-loop-i-smaller : goal.chance_over-loop-i-smaller
chance_over-loop-i-smaller t c = turn-less (chance-over-turn t (goal.at.chance_over-loop-i-smaller t c).After-chance_after-t)

pub chance_over-loop-i-preserved : goal.chance_over-loop-i-preserved
chance_over-loop-i-preserved t c = turn_on (chance-over-turn t (goal.at.chance_over-loop-i-preserved t c).After-chance_after-t) c.if-e-end.false c.stopped.ensures c.if-stopped.false

-- ---- max_over

pub max_over-returns-then-left-eq0 : goal.max_over-returns-then-left-eq0
max_over-returns-then-left-eq0 t c =
    let a = c.args in
    told-spent (nodes_of a.self.now) (way_of a.self.now a.v) MAX a.w a.c a.end c.if-left-eq0.true c.met_spent.ensures

pub max_over-loop-i-init : goal.max_over-loop-i-init
max_over-loop-i-init t c = going_start MAX c.args.w c.requires c.if-left-eq0.false

-- at the place where the child's stop was read
max-over-child : (t : ℕ) (c : max_over-After-from-e t)
    → let a = c.args in
    let l = c.loop-i in
    Child (nodes_of a.self.now) (way_of a.self.now a.v) a.v a.c a.end l.i c.from-e.result l.n (length l.leaves) (window_of l.t)
unfolding scaled
max-over-child t c =
    let l = c.loop-i in
    child-of l.invariant c.from-e.result (window_of l.t) (stop_at c.args.self.now.nodes.now c.loop-i.i c.from-e.ensures) l.invariant.small.0 l.invariant.small.1

pub max_over-leaf_at-r-requires : goal.max_over-leaf_at-r-requires
max_over-leaf_at-r-requires t c = child-leaf c.args.self.now.nodes.now (max-over-child t (goal.at.max_over-leaf_at-r-requires t c).After-from-e) (kind_at c.args.self.now.nodes.now c.loop-i.i c.in-Leaf.is)

pub max_over-ends_at-u-requires : goal.max_over-ends_at-u-requires
max_over-ends_at-u-requires t c = ready-own (max-over-child t (goal.at.max_over-ends_at-u-requires t c).After-from-e).node (inner_at c.args.self.now.nodes.now c.loop-i.i c.in_default.not-Leaf)

pub max_over-max_over-requires : goal.max_over-max_over-requires
max_over-max_over-requires t c = child-asks (max-over-child t (goal.at.max_over-max_over-requires t c).After-from-e) t c.decreases MAX c.ends_at-u.ensures (kind_at c.args.self.now.nodes.now c.loop-i.i c.in-Max.is)

pub max_over-min_over-requires : goal.max_over-min_over-requires
max_over-min_over-requires t c = child-asks (max-over-child t (goal.at.max_over-min_over-requires t c).After-from-e) t c.decreases MIN c.ends_at-u.ensures (kind_at c.args.self.now.nodes.now c.loop-i.i c.in-Min.is)

pub max_over-chance_over-requires : goal.max_over-chance_over-requires
max_over-chance_over-requires t c =
    child-asks (max-over-child t (goal.at.max_over-chance_over-requires t c).After-from-e) t c.decreases CHANCE c.ends_at-u.ensures
    (chance_at c.args.self.now.nodes.now c.loop-i.i c.in_default.not-Leaf c.in_default-kind.not-Max c.in_default-kind.not-Min)

-- at the place where the four ways meet: what the search of the child told
max-over-joined : (t : ℕ) (c : max_over-Joined-self-i t)
    → let a = c.args in
    let l = c.loop-i in
    NodeTold (nodes_of a.self.now) (way_of a.self.now a.v) a.v (window_of l.t) l.i l.n c.match-self-i.r l.leaves c.match-self-i.leaves
max-over-joined t c =
    let x = stop_at c.args.self.now.nodes.now c.loop-i.i c.from-e.ensures in
    elim c.match-self-i.branch [
      | max_over-in-Leaf w ↦ told_same w.r-is w.leaves-is (told-leaf (kind_at c.args.self.now.nodes.now c.loop-i.i w.in-Leaf.is) w.leaf_at-r.ensures)
      | max_over-in_default+in-Max w ↦ told_same w.r-is w.leaves-is (told-inner MAX w.ends_at-u.ensures (kind_at c.args.self.now.nodes.now c.loop-i.i w.in-Max.is) x w.max_over.ensures)
      | max_over-in_default+in-Min w ↦ told_same w.r-is w.leaves-is (told-inner MIN w.ends_at-u.ensures (kind_at c.args.self.now.nodes.now c.loop-i.i w.in-Min.is) x w.min_over.ensures)
      | max_over-in_default+in_default-kind w ↦ told_same w.r-is w.leaves-is (told-inner CHANCE w.ends_at-u.ensures
          (chance_at c.args.self.now.nodes.now c.loop-i.i w.in_default.not-Leaf w.in_default-kind.not-Max w.in_default-kind.not-Min) x w.chance_over.ensures)
    ]

-- after the child: one turn of the loop
max-over-turn : (t : ℕ) (c : max_over-After-max_after-t t)
    → let a = c.args in
    Turn (nodes_of a.self.now) (way_of a.self.now a.v) a.v MAX a.w a.c a.end a.left a.self.now.rule.margin a.leaves.now
    c.loop-i.i c.from-e.result c.match-self-i.r c.max_after-t.result c.match-self-i.leaves
unfolding scaled
max-over-turn t c =
    let l = c.loop-i in
    record {
      s = l.t;
      left = l.n;
      came = l.leaves;
      going = l.invariant;
      stop = stop_at c.args.self.now.nodes.now c.loop-i.i c.from-e.ensures;
      told = max-told l.invariant (max-over-joined t (goal.at.max_over-After-max_after-t t c).Joined-self-i);
      state = max-state l.invariant c.match-self-i.r c.max_after-t.ensures;
      margin = refl;
    }

pub max_over-returns-then-e-end : goal.max_over-returns-then-e-end
unfolding divided
max_over-returns-then-e-end t c = turn_last (max-over-turn t (goal.at.max_over-returns-then-e-end t c).After-max_after-t) c.if-e-end.true

pub max_over-stopped-requires : goal.max_over-stopped-requires
max_over-stopped-requires t c = turn-margin (max-over-turn t (goal.at.max_over-stopped-requires t c).After-max_after-t)

pub max_over-returns-then-stopped : goal.max_over-returns-then-stopped
unfolding run_low run_high divided
max_over-returns-then-stopped t c = turn-cut (max-over-turn t (goal.at.max_over-returns-then-stopped t c).After-max_after-t) c.if-e-end.false c.stopped.ensures c.if-stopped.true

pub max_over-loop-i-smaller : goal.max_over-loop-i-smaller
max_over-loop-i-smaller t c = turn-less (max-over-turn t (goal.at.max_over-loop-i-smaller t c).After-max_after-t)

pub max_over-loop-i-preserved : goal.max_over-loop-i-preserved
max_over-loop-i-preserved t c = turn_on (max-over-turn t (goal.at.max_over-loop-i-preserved t c).After-max_after-t) c.if-e-end.false c.stopped.ensures c.if-stopped.false

-- ---- min_over

pub min_over-returns-then-left-eq0 : goal.min_over-returns-then-left-eq0
min_over-returns-then-left-eq0 t c =
    let a = c.args in
    told-spent (nodes_of a.self.now) (way_of a.self.now a.v) MIN a.w a.c a.end c.if-left-eq0.true c.met_spent.ensures

pub min_over-loop-i-init : goal.min_over-loop-i-init
min_over-loop-i-init t c = going_start MIN c.args.w c.requires c.if-left-eq0.false

-- at the place where the child's stop was read
min-over-child : (t : ℕ) (c : min_over-After-from-e t)
    → let a = c.args in
    let l = c.loop-i in
    Child (nodes_of a.self.now) (way_of a.self.now a.v) a.v a.c a.end l.i c.from-e.result l.n (length l.leaves) (window_of l.t)
unfolding scaled
min-over-child t c =
    let l = c.loop-i in
    child-of l.invariant c.from-e.result (window_of l.t) (stop_at c.args.self.now.nodes.now c.loop-i.i c.from-e.ensures) l.invariant.small.0 l.invariant.small.1

pub min_over-leaf_at-r-requires : goal.min_over-leaf_at-r-requires
min_over-leaf_at-r-requires t c = child-leaf c.args.self.now.nodes.now (min-over-child t (goal.at.min_over-leaf_at-r-requires t c).After-from-e) (kind_at c.args.self.now.nodes.now c.loop-i.i c.in-Leaf.is)

pub min_over-ends_at-u-requires : goal.min_over-ends_at-u-requires
min_over-ends_at-u-requires t c = ready-own (min-over-child t (goal.at.min_over-ends_at-u-requires t c).After-from-e).node (inner_at c.args.self.now.nodes.now c.loop-i.i c.in_default.not-Leaf)

pub min_over-max_over-requires : goal.min_over-max_over-requires
min_over-max_over-requires t c = child-asks (min-over-child t (goal.at.min_over-max_over-requires t c).After-from-e) t c.decreases MAX c.ends_at-u.ensures (kind_at c.args.self.now.nodes.now c.loop-i.i c.in-Max.is)

pub min_over-min_over-requires : goal.min_over-min_over-requires
min_over-min_over-requires t c = child-asks (min-over-child t (goal.at.min_over-min_over-requires t c).After-from-e) t c.decreases MIN c.ends_at-u.ensures (kind_at c.args.self.now.nodes.now c.loop-i.i c.in-Min.is)

pub min_over-chance_over-requires : goal.min_over-chance_over-requires
min_over-chance_over-requires t c =
    child-asks (min-over-child t (goal.at.min_over-chance_over-requires t c).After-from-e) t c.decreases CHANCE c.ends_at-u.ensures
    (chance_at c.args.self.now.nodes.now c.loop-i.i c.in_default.not-Leaf c.in_default-kind.not-Max c.in_default-kind.not-Min)

-- at the place where the four ways meet: what the search of the child told
min-over-joined : (t : ℕ) (c : min_over-Joined-self-i t)
    → let a = c.args in
    let l = c.loop-i in
    NodeTold (nodes_of a.self.now) (way_of a.self.now a.v) a.v (window_of l.t) l.i l.n c.match-self-i.r l.leaves c.match-self-i.leaves
min-over-joined t c =
    let x = stop_at c.args.self.now.nodes.now c.loop-i.i c.from-e.ensures in
    elim c.match-self-i.branch [
      | min_over-in-Leaf w ↦ told_same w.r-is w.leaves-is (told-leaf (kind_at c.args.self.now.nodes.now c.loop-i.i w.in-Leaf.is) w.leaf_at-r.ensures)
      | min_over-in_default+in-Max w ↦ told_same w.r-is w.leaves-is (told-inner MAX w.ends_at-u.ensures (kind_at c.args.self.now.nodes.now c.loop-i.i w.in-Max.is) x w.max_over.ensures)
      | min_over-in_default+in-Min w ↦ told_same w.r-is w.leaves-is (told-inner MIN w.ends_at-u.ensures (kind_at c.args.self.now.nodes.now c.loop-i.i w.in-Min.is) x w.min_over.ensures)
      | min_over-in_default+in_default-kind w ↦ told_same w.r-is w.leaves-is (told-inner CHANCE w.ends_at-u.ensures
          (chance_at c.args.self.now.nodes.now c.loop-i.i w.in_default.not-Leaf w.in_default-kind.not-Max w.in_default-kind.not-Min) x w.chance_over.ensures)
    ]

-- after the child: one turn of the loop
min-over-turn : (t : ℕ) (c : min_over-After-min_after-t t)
    → let a = c.args in
    Turn (nodes_of a.self.now) (way_of a.self.now a.v) a.v MIN a.w a.c a.end a.left a.self.now.rule.margin a.leaves.now
    c.loop-i.i c.from-e.result c.match-self-i.r c.min_after-t.result c.match-self-i.leaves
unfolding scaled
min-over-turn t c =
    let l = c.loop-i in
    record {
      s = l.t;
      left = l.n;
      came = l.leaves;
      going = l.invariant;
      stop = stop_at c.args.self.now.nodes.now c.loop-i.i c.from-e.ensures;
      told = min-told l.invariant (min-over-joined t (goal.at.min_over-After-min_after-t t c).Joined-self-i);
      state = min-state l.invariant c.match-self-i.r c.min_after-t.ensures;
      margin = refl;
    }

pub min_over-returns-then-e-end : goal.min_over-returns-then-e-end
unfolding divided
min_over-returns-then-e-end t c = turn_last (min-over-turn t (goal.at.min_over-returns-then-e-end t c).After-min_after-t) c.if-e-end.true

pub min_over-stopped-requires : goal.min_over-stopped-requires
min_over-stopped-requires t c = turn-margin (min-over-turn t (goal.at.min_over-stopped-requires t c).After-min_after-t)

pub min_over-returns-then-stopped : goal.min_over-returns-then-stopped
unfolding run_low run_high divided
min_over-returns-then-stopped t c = turn-cut (min-over-turn t (goal.at.min_over-returns-then-stopped t c).After-min_after-t) c.if-e-end.false c.stopped.ensures c.if-stopped.true

pub min_over-loop-i-smaller : goal.min_over-loop-i-smaller
min_over-loop-i-smaller t c = turn-less (min-over-turn t (goal.at.min_over-loop-i-smaller t c).After-min_after-t)

pub min_over-loop-i-preserved : goal.min_over-loop-i-preserved
min_over-loop-i-preserved t c = turn_on (min-over-turn t (goal.at.min_over-loop-i-preserved t c).After-min_after-t) c.if-e-end.false c.stopped.ensures c.if-stopped.false
