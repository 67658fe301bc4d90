-- The node that `find_child` gives for the text of an accepted table is that of the root child of the number.
use Prim.Native.Nat.{ℕ, ◌+◌, ◌≤◌, ◌<◌}
use mathlib.Core.Path.{◌≡◌, sym, ap, subst, ◌∙◌}
use mathlib.Core.List.{List, [], ◌∷◌}
use native.Mathlib.Omega.{arith}
use lib.ListN.{length, get_or}
use lib.IntN.{ℤ}
use Rattle.line.specs.Refusal.{fine}
use Rattle.table.specs.Tree.{Forest, end, leaf, inner}
use Rattle.table.specs.Table.{Table, read_text}
use Rattle.table.specs.Accepted.{Rooted}
use Rattle.table.specs.Inside.{Slices, Spans, slices_of, height_tree}
use Rattle.table.specs.Slices.{stops_of, fitted}
use Rattle.table.specs.declared.Play.{Play}
use Rattle.table.specs.Root.{children, nodes, numbered, child_node, play_of}
use Rattle.table.proofs.Accepted.{accepted-spans, heights-rooted}
use Rattle.table.proofs.Spans.{spans-le}
use Rattle.table.proofs.Complete.{stops-long}
use Rattle.table.proofs.Laid.{fitted-at, fitted-long}
use Rattle.judge.specs.Inside.{Chained, Chain, Played}
use Rattle.judge.proofs.Judge.{nodes-heights}
use Rattle.judge.proofs.Walk.{chained-le}

-- ---- the nodes in the slices

spans-chained : (t : Slices) (c e : ℕ) (f : Forest ℕ) → Spans t c e f → Chained t.stops e c (nodes f)
unfolding Spans nodes
spans-chained t c e end x = x
spans-chained t c e (leaf n w h rest) x =
    let j : ℕ = get_or t.stops c 0 in
    (x.0, omega (arith, x.2), spans-chained t j e rest (subst (λ (i : ℕ). Spans t i e rest) (sym x.2) x.5))
spans-chained t c e (inner n w k under rest) x =
    let j : ℕ = get_or t.stops c 0 in
    (x.0, omega (arith, spans-le t (c + 1) j under x.3), spans-chained t j e rest x.4)

-- the root's children
spans-children : (t : Slices) (e : ℕ) (f : Forest ℕ) → Spans t 0 e f → Rooted f → Spans t 1 e (children f)
unfolding Spans
spans-children t e end x r = absurd r
spans-children t e (leaf n w h rest) x r = subst (Spans t 1 e) r.2 x.5
spans-children t e (inner n w k under rest) x r =
    let stop : get_or t.stops 0 0 ≡ e = subst (Spans t (get_or t.stops 0 0) e) r.2 x.4 in
    subst (λ (i : ℕ). Spans t 1 i under) stop x.3

-- ---- a lent slice that begins with the same stops

chained-other : (S U : List ℕ) (e : ℕ) → ((m : ℕ) → m < e → get_or U m 0 ≡ get_or S m 0) → (c : ℕ) (ns : List ℕ) → Chained S e c ns → Chained U e c ns
chained-other S U e same c [] x = x
chained-other S U e same c (n ∷ ns) x =
    let j : ℕ = get_or S c 0 in
    let q : get_or U c 0 ≡ j = same c (omega (arith, x.1, chained-le S e j ns x.2)) in
    (x.0, omega (arith, q, x.1), subst (λ (i : ℕ). Chained U e i ns) (sym q) (chained-other S U e same j ns x.2))

-- ---- an accepted table

module _ (s : List ℕ) (t : Table) (h : read_text s ≡ fine t) (a : List ℕ) (room : length t.lines ≤ length a) where
  -- `a` is the slice that was lent for the stops
  accepted-chain : Chain (fitted (stops_of t) a) (length t.lines)
  accepted-chain =
      record {
        nodes = nodes (children (height_tree t));
        chained = chained-other (stops_of t) (fitted (stops_of t) a) (length t.lines)
            (λ m l. fitted-at (stops_of t) a (length t.lines) m (stops-long t.lines) room l)
            1 (nodes (children (height_tree t)))
            (spans-chained (slices_of t) 1 (length t.lines) (children (height_tree t))
            (spans-children (slices_of t) (length t.lines) (height_tree t) (accepted-spans s t h) (heights-rooted s t h)));
        room = fitted-long (stops_of t) a (length t.lines) (stops-long t.lines) room;
      }

  pub played-child : (i : ℤ) (r : Play) → Played (fitted (stops_of t) a) (length t.lines) i r → r ≡ play_of (child_node t i)
  unfolding accepted-chain
  played-child i r p = p.by accepted-chain ∙ ap (λ (ns : List ℕ). play_of (numbered i ns)) (nodes-heights s t h)
