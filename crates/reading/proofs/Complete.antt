-- From decoded node lines to the whole verdict: 8, 9, 18, and the numbers of an accepted table.
use Rattle.std.proofs.Common.{Err, Ok, Result}
use Rattle.table.specs.declared.Node.{Node}
use Rattle.table.specs.declared.Summary.{Summary}
use Rattle.gathering.specs.declared.Counts.{Counts}
use Prim.Native.Nat.{ℕ, zero, suc, ◌+◌, ◌≤◌, ◌<◌}
use mathlib.Core.Path.{◌≡◌, refl, sym, ap, subst, ◌∙◌}
use mathlib.Core.Bool.{Bool, true, false, not, ◌&&◌, cond}
use mathlib.Core.List.{List, [], ◌∷◌, map, map-append}
use Rattle.std.proofs.lemmas.Simd.{map-map}
use Rattle.std.specs.List.{drop-map}
use native.Mathlib.Omega.{arith}
use lib.ListN.{length, take, drop, length-map}
use lib.Seq.{take-append_seam, drop-append_seam}
use lib.Dec.{leb, ltb}
use lib.IntN.{ℤ}
use Rattle.line.specs.declared.Head.{Head}
use Rattle.line.specs.declared.Line.{Line}
use Rattle.line.specs.declared.Refusal.{Refusal}
use Rattle.line.specs.declared.Refusal.TheVariants.{Childless, WrongSum, TooManyGrains}
use Rattle.line.specs.Refusal.{Verdict, refused, fine, unless, unless_at, next}
use Rattle.line.specs.Line.{totals, among, code}
use Rattle.line.specs.Inside.{other}
use Rattle.table.specs.Tree.{Kind, Forest, end, leaf, inner, is_end, is_chance, run, weigh, nodes_where, childless, unbalanced, grain_of}
use Rattle.table.specs.Table.{Table, node_lines, lines_of, tree, grain, grain_checks, complete, greatest, leaf_lines, answer}
use Rattle.table.specs.Nodes.{kinds_in, stops_in, weights_in, heights_in}
use Rattle.table.specs.Inside.{Slices, Spans, height_tree, deepest}
use Rattle.table.specs.Slices.{line_stops, laid, kinds_of, weights_of, heights_of, stops_of}
use Rattle.table.proofs.Grown.{lines-counted, lines-first}
use Rattle.table.proofs.Heights.{map_forest, map-end, map-weigh, map-deepest, above, heights-map}
use Rattle.table.proofs.Totals.{map-grain, root-deepest}
use Rattle.table.proofs.Known.{read_length, read-flat}
use Rattle.table.proofs.Complete.{completed, spans, stops-long}
use Rattle.runs.specs.Inside.{reach, stops_from, bare_at, odd_at}
use Rattle.runs.proofs.Scan.{first_of, scan, first-scan, spans-where, bare-tests}
use Rattle.gathering.specs.Inside.{node_of, Gathered}
use Rattle.reading.specs.Inside.{Counted, summary_of, refuse_at, complete_at, Decoded}
use Rattle.line.specs.declared.Step.{Step}
use Rattle.reading.proofs.Grains.{odd-scan}

-- ---- what the node lines left

pub record Lined (lowest : ℤ) (v : Verdict (List Line)) (m : Counts) (ns : List Node) (u : List ℕ) (ns' : List Node) (u' : List ℕ) : Type 0 where
  pub lines : List Line
  pub verdict : v ≡ fine lines
  pub counts : m ≡ record { chances = greatest lines; leaves = leaf_lines lines }
  pub nodes : ns' ≡ laid (map (node_of lowest) lines) ns
  pub ups : u' ≡ laid (map (λ (l : Line). l.parent) lines) u

pub gathered-lined : (lowest : ℤ) (v : Verdict (List Line)) (m : Counts) (ns : List Node) (u : List ℕ) (ns' : List Node) (u' : List ℕ)
    → Gathered lowest v (Ok m) ns u ns' u' → Lined lowest v m ns u ns' u'
gathered-lined lowest (refused r) m ns u ns' u' G = cc
gathered-lined lowest (fine ls) m ns u ns' u' G = record { lines = ls; verdict = refl; counts = cc G.0; nodes = G.1; ups = G.2 }

pub gathered-refusal : (lowest : ℤ) (v : Verdict (List Line)) (r : Refusal) (ns : List Node) (u : List ℕ) (ns' : List Node) (u' : List ℕ)
    → Gathered lowest v (Err r) ns u ns' u' → v ≡ refused r
gathered-refusal lowest (refused x) r ns u ns' u' G = cc
gathered-refusal lowest (fine ls) r ns u ns' u' G = let e = G.0 in cc

-- a number of each node
laid-column : {A : Type 0} (f : Node → ℕ) (g : A → Node) (xs : List A) (ns : List Node) → map f (laid (map g xs) ns) ≡ laid (map (λ (x : A). f (g x)) xs) (map f ns)
laid-column f g xs ns = simp (map-append, map-map, length-map, drop-map)

pub column-is : {A : Type 0} (f : Node → ℕ) (g : A → Node) (xs : List A) (ns ns' : List Node) → ns' ≡ laid (map g xs) ns
    → map f ns' ≡ laid (map (λ (x : A). f (g x)) xs) (map f ns)
column-is f g xs ns ns' e = ap (map f) e ∙ laid-column f g xs ns

-- ---- the stops

reach-run : (n : ℕ) (ls : List Line) → reach n (map (λ (l : Line). l.parent) ls) ≡ length (run n ls)
unfolding reach run
reach-run n [] = refl
reach-run n (l ∷ ls) = go (reach-run n ls) (leb n l.parent) refl
  where
    go : reach n (map (λ (l : Line). l.parent) ls) ≡ length (run n ls) → (b : Bool) → leb n l.parent ≡ b
        → cond (leb n l.parent) (suc (reach n (map (λ (l : Line). l.parent) ls))) 0 ≡ length (cond (leb n l.parent) (l ∷ run n ls) [])
    go ih true e = rw (e, ih)
    go ih false e = rw e

module _ (h : Head) where
  -- a line's number is its place
  stops-by-parents : (n i : ℕ) (P : List Step) (s : List ℕ) (ls : List Line) → node_lines h n i P s ≡ fine ls → stops_from i (map (λ (l : Line). l.parent) ls) ≡ line_stops ls
  unfolding node_lines stops_from line_stops
  stops-by-parents zero i P s ls e =
      let f : [] ≡ ls = cc in
      rw (← f) refl
  stops-by-parents (suc n) i P s ls e =
      let F = lines-first h n i P s ls e in
      let l = F.placed.line in
      let k : l.node ≡ i = F.read.node in
      rw (F.lines, reach-run i F.rest, stops-by-parents n (suc i) F.placed.steps (drop 25 s) F.rest F.more, k)

-- the stops, from the parents; what stood there before counts past the lines only
pub stops-are : (h : Head) (n : ℕ) (s : List ℕ) (ls : List Line) (u u' st mid st' : List ℕ) → node_lines h n 0 [] s ≡ fine ls
    → u' ≡ laid (map (λ (l : Line). l.parent) ls) u → mid ≡ laid (map (λ (l : Line). 0) ls) st → st' ≡ laid (stops_from 0 (take n u')) mid → st' ≡ laid (line_stops ls) st
stops-are h n s ls u u' st mid st' e p m q =
    let ups : List ℕ = map (λ (l : Line). l.parent) ls in
    let none : List ℕ = map (λ (l : Line). 0) ls in
    let c : length ups ≡ n = length-map ls (λ (l : Line). l.parent) ∙ (lines-counted h n 0 [] s ls e).0 in
    let f : take n u' ≡ ups = ap (take n) p ∙ rw (← c) (take-append_seam ups (drop (length ups) u)) in
    let k : length (line_stops ls) ≡ length none = stops-long ls ∙ sym (length-map ls (λ (l : Line). 0)) in
    let d : drop (length (line_stops ls)) mid ≡ drop (length (line_stops ls)) st = rw (k, m) (drop-append_seam none (drop (length none) st)) in
    q ∙ rw (f, stops-by-parents h n 0 [] s ls e, d)

where-map : {A B : Type 0} (g : A → B) (bad : Kind → Forest A → Bool) (bad' : Kind → Forest B → Bool)
    → ((k : Kind) (f : Forest A) → bad' k (map_forest g f) ≡ bad k f) → (f : Forest A) → nodes_where bad' (map_forest g f) ≡ nodes_where bad f
unfolding nodes_where
where-map g bad bad' s end = refl
where-map g bad bad' s (leaf n w v rest) = where-map g bad bad' s rest
where-map g bad bad' s (inner n w k under rest) = rw (s k under, where-map g bad bad' s under, where-map g bad bad' s rest)

-- ---- 8, 9 and 18

refuse-list : (gives : ℕ → Refusal) (xs : List ℕ) (t : Table) (f : Table → Verdict Table) (else : Result Summary Refusal) → else ≡ answer (f t)
    → refuse_at gives (first_of xs) else ≡ answer (next (unless_at (λ (m : ℕ). gives (m + 1)) xs t) f)
unfolding unless_at
refuse-list gives [] t f else e = e
refuse-list gives (x ∷ xs) t f else e = refl

module _ (h : Head) (n : ℕ) (s : List ℕ) (ls : List Line) (e : node_lines h n 0 [] s ≡ fine ls) (some : 0 < n) where
  abbrev t : Table
  t = record { head = h; lines = ls }

  counted : length ls ≡ n
  counted = read_length t n s e

  module _ (k st w g k' st' w' g' : List ℕ) (pk : k' ≡ laid (kinds_of t) k) (ps : st' ≡ laid (stops_of t) st) (pw : w' ≡ laid (weights_of t) w) (pg : g' ≡ laid (heights_of t) g) where
    abbrev S : Slices
    S = record { kinds = k'; stops = st'; weights = w'; heights = g' }

    held : Spans S 0 n (height_tree t)
    held = spans h n s ls e some k st w g k' st' w' g' pk ps pw pg

    found-bare : scan (bare_at k' st') 0 n ≡ childless (tree t)
    found-bare =
        sym (spans-where S _ (bare_at k' st') n (bare-tests S n) 0 n (height_tree t) (omega arith) held)
        ∙ ap childless (heights-map t)
        ∙ where-map (above h.lowest) (λ (k : Kind) (f : Forest ℤ). is_end f) (λ (k : Kind) (f : Forest ℕ). is_end f) (λ k f. map-end (above h.lowest) f) (tree t)

    found-odd : n ≤ 1024 → scan (odd_at k' st' w' h.total (other h)) 0 n ≡ unbalanced (totals h) (tree t)
    found-odd small =
        odd-scan h S n small (height_tree t) held
        ∙ ap (unbalanced (totals h)) (heights-map t)
        ∙ where-map (above h.lowest) (λ (k : Kind) (f : Forest ℤ). is_chance k && not (among (weigh f) (totals h))) (λ (k : Kind) (f : Forest ℕ). is_chance k && not (among (weigh f) (totals h)))
        (λ k f. ap (λ (x : ℕ). is_chance k && not (among x (totals h))) (map-weigh (above h.lowest) f)) (tree t)

    grain-is : grain_of (totals h) (height_tree t) ≡ grain t
    grain-is = ap (grain_of (totals h)) (heights-map t) ∙ map-grain (above h.lowest) (totals h) (tree t)

    module _ (small : n ≤ 1024) (most leaves : ℕ) (pm : most ≡ greatest ls) (pl : leaves ≡ leaf_lines ls) where
      -- what the slices hold
      pub counts : Counted k' st' w' n most
      counts =
          record {
            heights = g';
            forest = height_tree t;
            spans = held;
            deep = pm ∙ ap greatest (sym (read-flat t n s e some)) ∙ root-deepest (tree t) ∙ sym (ap deepest (heights-map t) ∙ map-deepest (above h.lowest) (tree t));
          }

      complete-is : complete_at k' st' w' n h most leaves (grain_of (totals h) (height_tree t)) ≡ answer (complete t)
      unfolding complete unless
      complete-is =
          rw (first-scan (bare_at k' st') n, first-scan (odd_at k' st' w' h.total (other h)) n, found-bare, found-odd small, pm, pl, grain-is)
          (refuse-list Childless (childless (tree t)) t (λ (t : Table). next (unless_at (λ (n : ℕ). WrongSum (n + 1)) (unbalanced (totals t.head) (tree t)) t) (λ (t : Table). unless (grain_checks t) t)) _
          (refuse-list WrongSum (unbalanced (totals h) (tree t)) t (λ (t : Table). unless (grain_checks t) t) _ (last (ltb 16777216 (grain t)))))
        where
          last : (b : Bool) → cond b (Err TooManyGrains) (Ok (summary_of n h (greatest ls) (leaf_lines ls) (grain t))) ≡ answer (cond b (refused TooManyGrains) (fine t))
          last true = refl
          last false = ap (λ (m : ℕ). Ok (summary_of m h (greatest ls) (leaf_lines ls) (grain t))) (sym counted)

      decoded-by : (v : Verdict Table) → complete t ≡ v → (out : Result Summary Refusal) → out ≡ answer v → Decoded v out k st w g k' st' w' g'
      decoded-by (refused r) c out o = o
      decoded-by (fine t') c out o =
          let z : t ≡ t' = (completed t t' c).0 in
          (o, subst (λ (y : Table). k' ≡ laid (kinds_of y) k) z pk, subst (λ (y : Table). st' ≡ laid (stops_of y) st) z ps, subst (λ (y : Table). w' ≡ laid (weights_of y) w) z pw, subst (λ (y : Table). g' ≡ laid (heights_of y) g) z pg)

      pub decoded-all : (out : Result Summary Refusal) → ((C : Counted k' st' w' n most) → out ≡ complete_at k' st' w' n h most leaves (grain_of (totals h) C.forest))
          → Decoded (lines_of h n s) out k st w g k' st' w' g'
      unfolding counts
      decoded-all out o = rw e (decoded-by (complete t) refl out (o counts ∙ complete-is))

-- ---- the nodes as they were lent (ns), as the lines left them (mid), and with their stops (ns')

module _ (h : Head) (n : ℕ) (s : List ℕ) (m : Counts) (ns mid ns' : List Node) (u u' : List ℕ) (L : Lined h.lowest (node_lines h n 0 [] s) m ns u mid u') where
  pub few-chances : m.chances ≤ 4
  few-chances = rw (ap (λ (x : Counts). x.chances) L.counts) (lines-counted h n 0 [] s L.lines L.verdict).1

  module _ (some : 0 < n) (small : n ≤ 1024)
      (ek : kinds_in ns' ≡ kinds_in mid) (es : stops_in ns' ≡ laid (stops_from 0 (take n u')) (stops_in mid)) (ew : weights_in ns' ≡ weights_in mid) (eg : heights_in ns' ≡ heights_in mid) where
    abbrev lined : Table
    lined = record { head = h; lines = L.lines }

    kinds-are : kinds_in ns' ≡ laid (kinds_of lined) (kinds_in ns)
    kinds-are = ek ∙ column-is (λ (x : Node). code x.kind) (node_of h.lowest) L.lines ns mid L.nodes

    stops-laid : stops_in ns' ≡ laid (stops_of lined) (stops_in ns)
    stops-laid = stops-are h n s L.lines u u' (stops_in ns) (stops_in mid) (stops_in ns') L.verdict L.ups (column-is (λ (x : Node). x.stop) (node_of h.lowest) L.lines ns mid L.nodes) es

    weights-are : weights_in ns' ≡ laid (weights_of lined) (weights_in ns)
    weights-are = ew ∙ column-is (λ (x : Node). x.weight) (node_of h.lowest) L.lines ns mid L.nodes

    heights-are : heights_in ns' ≡ laid (heights_of lined) (heights_in ns)
    heights-are = eg ∙ column-is (λ (x : Node). x.height) (node_of h.lowest) L.lines ns mid L.nodes

    pub nodes-counted : Counted (kinds_in ns') (stops_in ns') (weights_in ns') n m.chances
    nodes-counted =
        counts h n s L.lines L.verdict some _ _ _ _ _ _ _ _ kinds-are stops-laid weights-are heights-are small m.chances m.leaves
        (ap (λ (x : Counts). x.chances) L.counts) (ap (λ (x : Counts). x.leaves) L.counts)

    pub nodes-decoded : (out : Result Summary Refusal)
        → ((C : Counted (kinds_in ns') (stops_in ns') (weights_in ns') n m.chances)
        → out ≡ complete_at (kinds_in ns') (stops_in ns') (weights_in ns') n h m.chances m.leaves (grain_of (totals h) C.forest))
        → Decoded (lines_of h n s) out (kinds_in ns) (stops_in ns) (weights_in ns) (heights_in ns) (kinds_in ns') (stops_in ns') (weights_in ns') (heights_in ns')
    nodes-decoded =
        decoded-all h n s L.lines L.verdict some _ _ _ _ _ _ _ _ kinds-are stops-laid weights-are heights-are small m.chances m.leaves
        (ap (λ (x : Counts). x.chances) L.counts) (ap (λ (x : Counts). x.leaves) L.counts)
