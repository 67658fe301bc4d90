-- An accepted table with its index: what its slices have for the code, the index that they make, and the search with it.
use Prim.Native.Nat.{ℕ, zero, suc, ◌+◌, ◌*◌, ◌≤◌, ◌<◌}
use mathlib.Core.Path.{◌≡◌, refl, sym, ap, ap₂, ◌∙◌}
use mathlib.Core.Bool.{Bool, false}
use mathlib.Core.List.{List, [], ◌∷◌, map}
use native.Mathlib.Nat.{le_trans}
use native.Mathlib.Decide.{dec_le}
use native.Mathlib.Omega.{arith}
use borrow.Author.Tests.{ne_eqb}
use lib.ListN.{length, get_or, length-map}
use lib.IntN.{ℤ, pos, ◌+ℤ◌, ◌-ℤ◌}
use Rattle.line.specs.declared.Line.{Line}
use Rattle.line.specs.Refusal.{fine}
use Rattle.line.specs.Line.{to_nat, larger, code}
use Rattle.table.specs.declared.Node.{Node}
use Rattle.table.specs.Nodes.{kinds_in, stops_in, weights_in, heights_in}
use Rattle.table.specs.declared.Summary.{Summary}
use Rattle.table.specs.Tree.{Forest, end, leaf, inner, is_chance}
use Rattle.table.specs.Table.{Table, read_text, greatest, summary}
use Rattle.table.specs.Slices.{height_of, kinds_of, heights_of}
use Rattle.table.specs.Inside.{Slices, Spans, lent, height_tree}
use Rattle.table.specs.Accepted.{span, Proper}
use Rattle.table.proofs.Laid.{fitted-at}
use Rattle.table.proofs.Nodes.{code-pos}
use Rattle.table.proofs.Spans.{spans-le}
use Rattle.table.proofs.Heights.{height-back}
use Rattle.table.proofs.Accepted.{accepted-ranged, accepted-lent, accepted-holds, heights-proper, heights-filled}
use Rattle.table.proofs.Ends.{accepted-span}
use Rattle.scale.proofs.Taken.{zeros, zeros-enough, Taken, of-table}
use Rattle.index.specs.Index.{Ends, of_entry, lows_of, highs_of}
use Rattle.index.specs.Inside.{least_of, greatest_of}
use Rattle.index.proofs.Laws.{index-heights}
use Rattle.indexing.specs.declared.Base.TheVariants.{Lowest, Highest}
use Rattle.indexing.specs.Inside.{Small, Dropped, Standing, OwnEnds, Ended, OwnEndsOf, entries_of}
use Rattle.indexing.proofs.Entries.{ended-lows, ended-highs}
use Rattle.search.specs.Search.{limited, framed}
use Rattle.search.specs.Inside.{natural, height_sums, grained}
use Rattle.search.proofs.Own.{own, least-grained, greatest-grained}
use Rattle.steps.specs.declared.Ends as code
use Rattle.steps.specs.Inside.{ends_at}
use Rattle.searching.specs.Inside.{way, rules_of}
use Rattle.searching.proofs.Frames.{SameAt}
use Rattle.index_call.specs.Call.{index_entries}

-- ---- the heights of a decoded table

-- where a line is no leaf it has none
no-height : (lo : ℤ) (ls : List Line) (i : ℕ) → (get_or (map (λ (l : Line). code l.kind) ls) i 0 ≡ 0 → ⊥) → get_or (map (height_of lo) ls) i 0 ≡ 0
no-height lo [] i z = refl
no-height lo (l ∷ ls) zero z = rw (ne_eqb (code l.kind) 0 z) refl
no-height lo (l ∷ ls) (suc i) z = no-height lo ls i z

-- so every entry is at most what the leaves' heights are
small-in : (t : Slices) (T K S : ℕ) (d k : ℕ) (u : Bool) (c e : ℕ) (F : Forest ℕ) → Spans t c e F → Proper T K (λ (x : ℕ). x ≤ S) d k u F
    → ((i : ℕ) → i < e → (get_or t.kinds i 0 ≡ 0 → ⊥) → get_or t.heights i 0 ≡ 0) → (i : ℕ) → c ≤ i → i < e → get_or t.heights i 0 ≤ S
unfolding Spans
small-in t T K S d k u c e end x p z i a b = absurd (omega arith)
small-in t T K S d k u c e (leaf n w h rest) x p z i a b = go (small-in t T K S d k u (c + 1) e rest x.5 p.4 z i) (dec_le (c + 1) i)
  where
    go : (c + 1 ≤ i → i < e → get_or t.heights i 0 ≤ S) → Dec (c + 1 ≤ i) → get_or t.heights i 0 ≤ S
    go ih (yes l) = ih l b
    go ih (no l) = let q : i ≡ c = omega arith in omega (arith, p.1, x.4, ap (λ (m : ℕ). get_or t.heights m 0) q)
small-in t T K S d k u c e (inner n w j under rest) x p z i a b =
    let s : ℕ = get_or t.stops c 0 in
    let m = spans-le t s e rest x.4 in
    go (small-in t T K S (suc d) _ (is_chance j) (c + 1) s under x.3 p.3 (λ y l. z y (omega arith)) i)
    (small-in t T K S d k u s e rest x.4 p.4 z i) (dec_le (c + 1) i) (dec_le s i)
  where
    go : (c + 1 ≤ i → i < get_or t.stops c 0 → get_or t.heights i 0 ≤ S) → (get_or t.stops c 0 ≤ i → i < e → get_or t.heights i 0 ≤ S)
        → Dec (c + 1 ≤ i) → Dec (get_or t.stops c 0 ≤ i) → get_or t.heights i 0 ≤ S
    go ih jh (yes l) (yes m) = jh m b
    go ih jh (yes l) (no m) = ih l (omega arith)
    go ih jh (no l) y =
        let q : i ≡ c = omega arith in
        omega (arith, z i b (λ h. omega (arith, code-pos j, x.1, ap (λ (m : ℕ). get_or t.kinds m 0) q, h)))

-- ---- its frames

-- T has the greatest height under each inner node, as D has how far that lies below S
pub own_same : (t : Slices) (S G ε left N : ℕ) (v : code.Ends) (H D T : List ℕ) (c e : ℕ) (F : Forest ℕ) → Spans t c e F → e ≤ N → OwnEnds S H D F → Dropped S D T N → greatest_of F ≤ S
    → 0 < length T
    → SameAt height_sums natural (rules_of (way (record { margin = ε; grain = G }) v H T) left).frame (own (S * G)) ε (limited left) (grained G F)
unfolding Spans grained greatest_of
own_same t S G ε left N v H D T c e end x l o d g z = tt
own_same t S G ε left N v H D T c e (leaf n w h rest) x l o d g z = own_same t S G ε left N v H D T (c + 1) e rest x.5 l o d (omega arith) z
own_same t S G ε left N v H D T c e (inner n w k under rest) x l o d g z =
    let s : ℕ = get_or t.stops c 0 in
    let a = spans-le t (c + 1) s under x.3 in
    let b = spans-le t s e rest x.4 in
    let f : Forest ℕ = grained G under in
    let is : ends_at G H T v n ≡ record { bottom = get_or H n 0 * G; top = get_or T n 0 * G } = rw (ne_eqb (length T) 0 (λ q. omega arith)) refl in
    let high : get_or T n 0 ≡ greatest_of under = omega (arith, d n (omega (arith, x.0)), o.1) in
    let low-is : get_or H n 0 * G ≡ least_of (S * G) f = ap (λ (m : ℕ). m * G) o.0 ∙ sym (least-grained S G under) in
    let high_is : get_or T n 0 * G ≡ greatest_of f = ap (λ (m : ℕ). m * G) high ∙ sym (greatest-grained G under) in (
      ap (λ (u : code.Ends). framed u.bottom u.top f) is ∙ ap₂ (λ (x y : ℕ). framed x y f) low-is high_is,
      own_same t S G ε left N v H D T (c + 1) s under x.3 (omega arith) o.2 d (omega arith) z,
      own_same t S G ε left N v H D T s e rest x.4 l o.3 d (omega arith) z,
    )

-- ---- from what the reading leaves

-- the highest end
highest-is : (s : List ℕ) (T : Table) → read_text s ≡ fine T → T.head.highest ≡ T.head.lowest +ℤ pos (span T.head)
highest-is s T p = sym (height-back T.head.lowest T.head.highest (accepted-ranged s T p).order)

-- K, S, W and H are the slices as the reading left them
module _ {s : List ℕ} {t : Summary} {K S W H : List ℕ} (G : Taken s t K S W H) where
  pub slices-long : (t.nodes ≤ length K) × (t.nodes ≤ length S) × (t.nodes ≤ length H) × (t.nodes ≤ 1024)
  slices-long = of-table G (λ t K S W H. (t.nodes ≤ length K) × (t.nodes ≤ length S) × (t.nodes ≤ length H) × (t.nodes ≤ 1024)) (λ T p.
      let z = zeros-enough s T p in
      let h = accepted-holds s T p zeros zeros zeros zeros z z z z in
      (h.kinds, h.stops, h.heights, h.few))

  -- what `own_ends` asks
  pub own-asks : Small (to_nat (t.highest -ℤ t.lowest)) H t.nodes × Standing K S H t.nodes
  own-asks = of-table G (λ t K S W H. Small (to_nat (t.highest -ℤ t.lowest)) H t.nodes × Standing K S H t.nodes) (λ T p.
      let z = zeros-enough s T p in
      let n : ℕ = length T.lines in
      let u : Slices = lent T zeros zeros zeros zeros in
      let x = accepted-lent s T p zeros zeros zeros zeros z z z z in
      let none : (i : ℕ) → i < n → (get_or u.kinds i 0 ≡ 0 → ⊥) → get_or u.heights i 0 ≡ 0
      = λ i l q. fitted-at (heights_of T) zeros n i (length-map T.lines (height_of T.head.lowest)) z l
      ∙ no-height T.head.lowest T.lines i (λ e. q (fitted-at (kinds_of T) zeros n i (length-map T.lines (λ (y : Line). code y.kind)) z l ∙ e)) in (
        (λ i l. small-in u (larger T.head) (greatest T.lines) (span T.head) 0 0 false 0 n (height_tree T) x (heights-proper s T p) none i (omega arith) l),
        record { weights = u.weights; forest = height_tree T; spans = x; filled = heights-filled s T p },
      ))

  -- H' and D' are what `own_ends` made of them
  module _ {H' D' : List ℕ} (E : OwnEndsOf K S H t.nodes (to_nat (t.highest -ℤ t.lowest)) H' D') where
    pub of-ended : (C : Summary → (K S W H : List ℕ) → Type 0)
        → ((T : Table) → read_text s ≡ fine T
        → let u : Slices = lent T zeros zeros zeros zeros in
        Ended u.kinds u.stops u.weights (length T.lines) (span T.head) H' D' (height_tree T) → C (summary T) u.kinds u.stops u.weights u.heights) → C t K S W H
    of-ended C show =
        of-table G (λ t K S W H. OwnEndsOf K S H t.nodes (to_nat (t.highest -ℤ t.lowest)) H' D' → C t K S W H) (λ T p E.
        let z = zeros-enough s T p in
        show T p (E (record { weights = (lent T zeros zeros zeros zeros).weights; forest = height_tree T; spans = accepted-lent s T p zeros zeros zeros zeros z z z z; filled = heights-filled s T p }))) E

    -- no number is large
    pub own-small : Small 2000000 H' t.nodes × Small 2000000 D' t.nodes
    own-small = of-ended (λ t K S W H. Small 2000000 H' t.nodes × Small 2000000 D' t.nodes) (λ T p e.
        let far = accepted-span s T p in ((λ i l. le_trans (e.small-rise i l) far), (λ i l. le_trans (e.small-drops i l) far)))

    pub drops-small : Small (to_nat (t.highest -ℤ t.lowest)) D' t.nodes
    drops-small = of-ended (λ t K S W H. Small (to_nat (t.highest -ℤ t.lowest)) D' t.nodes) (λ T p e. e.small-drops)

    -- they make the table's index
    pub own-lows : entries_of K H' (Lowest t.lowest) t.nodes ≡ index_entries lows_of (read_text s)
    own-lows = of-ended (λ t K S W H. entries_of K H' (Lowest t.lowest) t.nodes ≡ index_entries lows_of (read_text s)) (λ T p e.
        ended-lows _ _ _ _ _ _ _ _ e T.head.lowest
        ∙ sym (ap (index_entries lows_of) p ∙ ap (map (of_entry (λ (x : Ends). x.low))) (index-heights s T p)))

    pub own-highs : entries_of K D' (Highest t.highest) t.nodes ≡ index_entries highs_of (read_text s)
    own-highs = of-ended (λ t K S W H. entries_of K D' (Highest t.highest) t.nodes ≡ index_entries highs_of (read_text s)) (λ T p e.
        ended-highs _ _ _ _ _ _ _ _ e T.head.lowest T.head.highest (highest-is s T p)
        ∙ sym (ap (index_entries highs_of) p ∙ ap (map (of_entry (λ (x : Ends). x.high))) (index-heights s T p)))

-- ---- the nodes as the reading left them

pub nodes-long : {s : List ℕ} {t : Summary} (ns : List Node) → Taken s t (kinds_in ns) (stops_in ns) (weights_in ns) (heights_in ns) → (t.nodes ≤ length ns) × (t.nodes ≤ 1024)
nodes-long ns G = let n = slices-long G in (omega (arith, n.0, length-map ns (λ (n : Node). code n.kind)), n.3)
