-- From decoded node lines to the whole verdict: 8, 9, 18, and the numbers of an accepted table.
use Prim.Native.Nat.{ℕ, suc, ◌+◌, ◌≤◌, ◌<◌}
use mathlib.Core.Path.{◌≡◌, refl, ap, subst, ◌∙◌}
use mathlib.Core.Bool.{false}
use mathlib.Core.List.{List, [], ◌∷◌}
use native.Mathlib.Omega.{arith}
use lib.Dec.{ltb}
use lib.ListN.{length, get_or, length-map}
use Rattle.line.specs.declared.Head.{Head}
use Rattle.line.specs.declared.Line.{Line}
use Rattle.line.specs.declared.Refusal.{Refusal}
use Rattle.line.specs.declared.Refusal.TheVariants.{Childless, WrongSum}
use Rattle.line.specs.Refusal.{Verdict, fine, unless, unless_at, next}
use Rattle.line.specs.Line.{totals, code}
use Rattle.line.proofs.Fine.{unless-fine, unless_at-fine}
use Rattle.table.specs.Tree.{Forest, end, leaf, inner, childless, unbalanced}
use Rattle.table.specs.Table.{Table, node_lines, tree, grain, grain_checks, complete}
use Rattle.table.specs.Inside.{Slices, Spans, slices_of, height_tree}
use Rattle.table.specs.Slices.{height_of, line_stops, laid, kinds_of, weights_of, heights_of, stops_of}
use Rattle.table.proofs.Spans.{spans-le}
use Rattle.table.proofs.Laid.{laid-at}
use Rattle.table.proofs.Grown.{next-fine}
use Rattle.table.proofs.Known.{read_length, read-spans}

-- ---- the tree in the slices

-- slices whose first N entries agree hold the same nodes
module _ (S S' : Slices) (N : ℕ)
    (same : (i : ℕ) → i < N → (get_or S'.kinds i 0 ≡ get_or S.kinds i 0) × (get_or S'.stops i 0 ≡ get_or S.stops i 0) × (get_or S'.weights i 0 ≡ get_or S.weights i 0) × (get_or S'.heights i 0 ≡ get_or S.heights i 0)) where
  spans-same : (c e : ℕ) (f : Forest ℕ) → e ≤ N → Spans S c e f → Spans S' c e f
  unfolding Spans
  spans-same c e end l h = h
  spans-same c e (leaf n w v rest) l h =
      let r = spans-le S (c + 1) e rest h.5 in
      let q = same c (omega arith) in
      (h.0, q.0 ∙ h.1, q.1 ∙ h.2, q.2 ∙ h.3, q.3 ∙ h.4, spans-same (c + 1) e rest l h.5)
  spans-same c e (inner n w k under rest) l h =
      let x : ℕ = get_or S.stops c 0 in
      let a = spans-le S (c + 1) x under h.3 in
      let b = spans-le S x e rest h.4 in
      let q = same c (omega arith) in
      rw q.1 (h.0, q.0 ∙ h.1, q.2 ∙ h.2, spans-same (c + 1) x under (omega arith) h.3, spans-same x e rest l h.4)

pub stops-long : (ls : List Line) → length (line_stops ls) ≡ length ls
unfolding line_stops
stops-long [] = refl
stops-long (l ∷ ls) = ap suc (stops-long ls)

-- ---- 8, 9 and 18

-- a table that is complete is the table, has no node that 8 or 9 is for, and not too many grains
pub completed : (a t : Table) → complete a ≡ fine t
    → (a ≡ t) × (childless (tree t) ≡ []) × (unbalanced (totals t.head) (tree t) ≡ []) × (ltb 16777216 (grain t) ≡ false)
unfolding complete
completed a t e =
    let f : ℕ → Refusal = λ n. Childless (n + 1) in
    let g : ℕ → Refusal = λ n. WrongSum (n + 1) in
    let last : Table → Verdict Table = λ t. unless (grain_checks t) t in
    let sums : Table → Verdict Table = λ t. unless_at g (unbalanced (totals t.head) (tree t)) t in
    let (b, p, q) = next-fine (unless_at f (childless (tree a)) a) (λ (t : Table). next (sums t) last) t e in
    let (c, r) = unless_at-fine f (childless (tree a)) a b p in
    let (d, v, z) = next-fine (sums b) last t q in
    let (x, u) = unless_at-fine g (unbalanced (totals b.head) (tree b)) b d v in
    let (y, w) = unless-fine (grain_checks d) d t z in (
      r ∙ u ∙ w,
      subst (λ (x : Table). childless (tree x) ≡ []) (r ∙ u ∙ w) c,
      subst (λ (x : Table). unbalanced (totals x.head) (tree x) ≡ []) (u ∙ w) x,
      subst (λ (x : Table). ltb 16777216 (grain x) ≡ false) w y.0,
    )

module _ (h : Head) (n : ℕ) (s : List ℕ) (ls : List Line) (e : node_lines h n 0 [] s ≡ fine ls) (some : 0 < n) where
  abbrev t : Table
  t = record { head = h; lines = ls }

  counted : length ls ≡ n
  counted = read_length t n s e

  module _ (k st w g k' st' w' g' : List ℕ) (pk : k' ≡ laid (kinds_of t) k) (ps : st' ≡ laid (stops_of t) st) (pw : w' ≡ laid (weights_of t) w) (pg : g' ≡ laid (heights_of t) g) where
    abbrev S : Slices
    S = record { kinds = k'; stops = st'; weights = w'; heights = g' }

    pub spans : Spans S 0 n (height_tree t)
    spans =
        spans-same (slices_of t) S n
        (λ i l. (
          laid-at (kinds_of t) k k' n i pk (length-map ls (λ (l : Line). code l.kind) ∙ counted) l,
          laid-at (stops_of t) st st' n i ps (stops-long ls ∙ counted) l,
          laid-at (weights_of t) w w' n i pw (length-map ls (λ (l : Line). l.weight) ∙ counted) l,
          laid-at (heights_of t) g g' n i pg (length-map ls (height_of h.lowest) ∙ counted) l,
        ))
        0 n (height_tree t) (omega arith) (subst (λ (m : ℕ). Spans (slices_of t) 0 m (height_tree t)) counted (read-spans t n s e some))
