-- What holds of every accepted table: its header, its size, its lines as one tree, and the decoded slices.
use Rattle.std.proofs.Common.{Err, Ok}
use Prim.Native.Nat.{ℕ, suc, ◌+◌, ◌*◌, ◌^◌, ◌≤◌, ◌<◌}
use mathlib.Core.Path.{◌≡◌, refl, sym, ap, subst, ◌∙◌}
use mathlib.Core.Bool.{Bool, true, false, not, ◌&&◌, cond}
use mathlib.Core.List.{List, [], ◌∷◌, ◌++◌, append-eq-nil_iff}
use native.Mathlib.Omega.{arith}
use borrow.Author.Tests.{ltb-false}
use lib.ListN.{length, get_or, take, drop, length-map}
use lib.Dec.{ltb}
use lib.IntN.{pos, ◌+ℤ◌}
use Rattle.line.specs.declared.Head.{Head}
use Rattle.line.specs.declared.Line.{Line}
use Rattle.line.specs.declared.Refusal.{Refusal}
use Rattle.line.specs.declared.Refusal.TheVariants.{Length}
use Rattle.line.specs.Refusal.{Verdict, refused, fine, next}
use Rattle.line.specs.Line.{header, heading_of, totals, among, larger, Within, code, is_leaf}
use Rattle.line.specs.Inside.{Ranged}
use Rattle.line.proofs.Signs.{true-ne-false}
use Rattle.line.proofs.Fine.{header-ranged, total-ranged}
use Rattle.table.specs.declared.Summary.{Summary}
use Rattle.table.specs.Tree.{Kind, MAX, MIN, CHANCE, Forest, end, leaf, inner, is_chance, is_end, weigh, nodes_where, childless, unbalanced, leaves}
use Rattle.table.specs.Table.{Table, bad_length, node_lines, tree, complete, count, read_text, greatest, leaf_lines, grain, summary, answer}
use Rattle.table.specs.Slices.{height_of, kinds_of, stops_of, weights_of, heights_of, fitted}
use Rattle.table.specs.Inside.{Spans, Holds, height_tree, slices_of, lent}
use Rattle.table.specs.Accepted.{span, flat, OkTotal, Filled, Totals, Balanced, Proper, Rooted}
use Rattle.table.proofs.Grown.{fine-refused, next-fine}
use Rattle.table.proofs.Heights.{above, height-back, height-span, map-leaves, map-filled, map-totals, map-rooted, map-proper, heights-map}
use Rattle.table.proofs.Totals.{Divided, totals-all, divided, map-divided, powers-none, powers-some, root-deepest, uses-few, grain-one}
use Rattle.table.proofs.Laid.{fitted-all, fitted-long}
use Rattle.table.proofs.Complete.{stops-long, completed, spans}
use Rattle.table.proofs.Top.{good_length}
use Rattle.line.specs.declared.Kind.TheVariants.{Leaf}
use Rattle.table.proofs.Known.{read_length, read-few, read-flat, read-rooted, read-proper, read-leaves, read-spans}

-- ---- nodes without a child, and sums

flagged : (b : Bool) (n : ℕ) (x y : List ℕ) → cond b (n ∷ []) [] ++ (x ++ y) ≡ [] → (b ≡ false) × (x ≡ []) × (y ≡ [])
flagged true n x y e = let z : ◌≡◌ {A = ℕ} 0 1 = cc in absurd (omega arith)
flagged false n x y e = let r = append-eq-nil_iff.0 e in (refl, r.0, r.1)

summed : (k : Kind) (b : Bool) → (is_chance k && not b) ≡ false → is_chance k ≡ true → b ≡ true
summed MAX b e c = absurd (true-ne-false (sym c))
summed MIN b e c = absurd (true-ne-false (sym c))
summed CHANCE true e c = refl
summed CHANCE false e c = absurd (true-ne-false e)

module _ {A : Type 0} where
  filled : (F : Forest A) → childless F ≡ [] → Filled F
  unfolding nodes_where
  filled end e = tt
  filled (leaf n w v rest) e = filled rest e
  filled (inner n w k under rest) e =
      let r = flagged (is_end under) n (childless under) (childless rest) e in
      (r.0, filled under r.1, filled rest r.2)

  pub balanced : (ts : List ℕ) (F : Forest A) → unbalanced ts F ≡ [] → Balanced ts F
  unfolding nodes_where
  balanced ts end e = tt
  balanced ts (leaf n w v rest) e = balanced ts rest e
  balanced ts (inner n w k under rest) e =
      let r = flagged (is_chance k && not (among (weigh under) ts)) n (unbalanced ts under) (unbalanced ts rest) e in
      (summed k (among (weigh under) ts) r.0, balanced ts under r.1, balanced ts rest r.2)

few-leaves : (ls : List Line) → leaf_lines ls ≤ length ls
unfolding leaf_lines
few-leaves [] = omega arith
few-leaves (l ∷ ls) = go (few-leaves ls) (is_leaf l.kind)
  where
    go : leaf_lines ls ≤ length ls → (b : Bool) → cond b 1 0 + leaf_lines ls ≤ suc (length ls)
    go ih true = omega arith
    go ih false = omega arith

-- ---- what was checked

pub record Checked (s : List ℕ) (t : Table) : Type 0 where
  pub long : bad_length (length s) ≡ false
  pub head : header (count s) (take 25 s) ≡ fine t.head
  pub lines : node_lines t.head (count s) 0 [] (drop 25 s) ≡ fine t.lines
  pub no-childless : childless (tree t) ≡ []
  pub no-unbalanced : unbalanced (totals t.head) (tree t) ≡ []
  pub few-grains : ltb 16777216 (grain t) ≡ false

pub checked : (s : List ℕ) (t : Table) → read_text s ≡ fine t → Checked s t
unfolding read_text
checked s t e = go (bad_length (length s)) refl e
  where
    on : Head → Verdict Table
    on h = next (node_lines h (count s) 0 [] (drop 25 s)) (λ (ls : List Line). complete (record { head = h; lines = ls }))

    go : (b : Bool) → bad_length (length s) ≡ b → cond b (refused Length) (next (header (count s) (take 25 s)) on) ≡ fine t → Checked s t
    go true long e = fine-refused Length t e
    go false long e =
        let (h, head, more) = next-fine (header (count s) (take 25 s)) on t e in
        let (ls, lines, g) = next-fine (node_lines h (count s) 0 [] (drop 25 s)) (λ (ls : List Line). complete (record { head = h; lines = ls })) t more in
        let (r, c, u, f) = completed (record { head = h; lines = ls }) t g in
        record {
          long = long;
          head = head ∙ ap (λ (x : Table). fine x.head) r;
          lines = subst (λ (x : Table). node_lines x.head (count s) 0 [] (drop 25 s) ≡ fine x.lines) r lines;
          no-childless = c;
          no-unbalanced = u;
          few-grains = f;
        }

counted : (s : List ℕ) (n : ℕ) → bad_length (length s) ≡ false → n ≡ count s → (0 < n) × (n ≤ 1024) × (length s ≡ 25 * n + 25)
counted s n e q = let g = good_length (length s) e in rw q (g.1, g.2, sym g.3)

-- ---- what an answer tells of the text

pub answer-refused : (v : Verdict Table) (r : Refusal) → answer v ≡ Err r → v ≡ refused r
answer-refused (refused x) r e = cc
answer-refused (fine t) r e = let z : ◌≡◌ {A = ℕ} 0 1 = cc in absurd (omega arith)

pub answer-accepted : (v : Verdict Table) (t : Summary) → answer v ≡ Ok t → (T : Table) × (v ≡ fine T) × (summary T ≡ t)
answer-accepted (refused x) t e = let z : ◌≡◌ {A = ℕ} 0 1 = cc in absurd (omega arith)
answer-accepted (fine T) t e = (T, cc, cc)

-- ---- the theorems

module _ (s : List ℕ) (t : Table) (h : read_text s ≡ fine t) where
  pub accepted-ranged : Ranged t.head
  accepted-ranged = header-ranged (count s) (get_or (take 25 s) 24 0) (heading_of (take 25 s)) t.head (checked s t h).head

  pub accepted-size : (0 < length t.lines) × (length t.lines ≤ 1024) × (length s ≡ 25 * length t.lines + 25)
  accepted-size = counted s (length t.lines) (checked s t h).long (read_length t (count s) (drop 25 s) (checked s t h).lines)

  some : 0 < count s
  some = (counted s (count s) (checked s t h).long refl).0

  pub accepted-few : greatest t.lines ≤ 4
  accepted-few = read-few t (count s) (drop 25 s) (checked s t h).lines

  -- the tree written out depth first is the list of lines
  pub accepted-flat : flat 0 0 (tree t) ≡ t.lines
  accepted-flat = read-flat t (count s) (drop 25 s) (checked s t h).lines some

  pub accepted-rooted : Rooted (tree t)
  accepted-rooted = read-rooted t (count s) (drop 25 s) (checked s t h).lines some

  pub accepted-proper : Proper (larger t.head) (greatest t.lines) (Within t.head) 0 0 false (tree t)
  accepted-proper = read-proper t (count s) (drop 25 s) (checked s t h).lines some

  pub accepted-filled : Filled (tree t)
  accepted-filled = filled (tree t) (checked s t h).no-childless

  pub accepted-balanced : Balanced (totals t.head) (tree t)
  accepted-balanced = balanced (totals t.head) (tree t) (checked s t h).no-unbalanced

  -- every C's own sum is 1 to 64
  pub accepted-totals : Totals OkTotal (tree t)
  accepted-totals =
      totals-all (λ (n : ℕ). among n (totals t.head) ≡ true) OkTotal (total-ranged t.head accepted-ranged) (tree t) accepted-balanced

  pub accepted-leaves : leaves (tree t) ≡ leaf_lines t.lines
  accepted-leaves = read-leaves t (count s) (drop 25 s) (checked s t h).lines some

  -- the grain count
  pub accepted-grain : grain t ≤ 16777216
  accepted-grain = ltb-false 16777216 (grain t) (checked s t h).few-grains

  pub some-grain : 0 < grain t
  some-grain = powers-some (totals t.head) _ (λ n m. (total-ranged t.head accepted-ranged n m).0)

  -- "1 where there is no C"
  pub no-chance-grain : greatest t.lines ≡ 0 → grain t ≡ 1
  no-chance-grain none =
      powers-none (totals t.head) _ (λ n. omega (arith, uses-few n (tree t), root-deepest (tree t), ap greatest accepted-flat, none))

  -- with no second total it is "T to the power K"
  pub one-total : t.head.second ≡ 0 → grain t ≡ t.head.total ^ greatest t.lines
  one-total none =
      grain-one t.head (tree t) none accepted-balanced
      ∙ ap (λ (k : ℕ). t.head.total ^ k) (sym (root-deepest (tree t)) ∙ ap greatest accepted-flat)

  -- what divides it
  pub accepted-divided : Divided (grain t) 1 (tree t)
  accepted-divided = divided (totals t.head) (tree t) accepted-balanced

  -- how many leaves there are at most
  pub accepted-leaf-lines : leaf_lines t.lines ≤ length t.lines
  accepted-leaf-lines = few-leaves t.lines

  -- the same of the tree of heights

  pub heights-rooted : Rooted (height_tree t)
  heights-rooted = rw (heights-map t) (map-rooted (above t.head.lowest) (tree t) accepted-rooted)

  pub heights-proper : Proper (larger t.head) (greatest t.lines) (λ (x : ℕ). x ≤ span t.head) 0 0 false (height_tree t)
  heights-proper =
      rw (heights-map t) (map-proper (above t.head.lowest) (larger t.head) (greatest t.lines) (Within t.head) (λ (x : ℕ). x ≤ span t.head)
      (λ v w. height-span t.head.lowest t.head.highest v w.0 w.1) 0 0 false (tree t) accepted-proper)

  pub heights-filled : Filled (height_tree t)
  heights-filled = rw (heights-map t) (map-filled (above t.head.lowest) (tree t) accepted-filled)

  pub heights-totals : Totals OkTotal (height_tree t)
  heights-totals = rw (heights-map t) (map-totals (above t.head.lowest) OkTotal (tree t) accepted-totals)

  pub heights-divided : Divided (grain t) 1 (height_tree t)
  heights-divided = rw (heights-map t) (map-divided (above t.head.lowest) (grain t) 1 (tree t) accepted-divided)

  pub heights-leaves : leaves (height_tree t) ≡ leaf_lines t.lines
  heights-leaves = ap leaves (heights-map t) ∙ map-leaves (above t.head.lowest) (tree t) ∙ accepted-leaves

  -- the decoded slices hold it
  pub accepted-spans : Spans (slices_of t) 0 (length t.lines) (height_tree t)
  accepted-spans = read-spans t (count s) (drop 25 s) (checked s t h).lines some

  -- and so do lent slices with room for it, as `reading::decode` leaves them
  module _ (K S W H : List ℕ) (room_k : length t.lines ≤ length K) (room_s : length t.lines ≤ length S) (room_w : length t.lines ≤ length W)
      (room_h : length t.lines ≤ length H) where
    pub accepted-lent : Spans (lent t K S W H) 0 (length t.lines) (height_tree t)
    accepted-lent =
        let C = checked s t h in
        let ls : List Line = t.lines in
        subst (λ (m : ℕ). Spans (lent t K S W H) 0 m (height_tree t)) (sym (read_length t (count s) (drop 25 s) C.lines))
        (spans t.head (count s) (drop 25 s) ls C.lines some K S W H (fitted (kinds_of t) K) (fitted (stops_of t) S) (fitted (weights_of t) W) (fitted (heights_of t) H)
        (fitted-all (kinds_of t) K (omega (arith, length-map ls (λ (l : Line). code l.kind), room_k)))
        (fitted-all (stops_of t) S (omega (arith, stops-long ls, room_s)))
        (fitted-all (weights_of t) W (omega (arith, length-map ls (λ (l : Line). l.weight), room_w)))
        (fitted-all (heights_of t) H (omega (arith, length-map ls (height_of t.head.lowest), room_h))))

    pub accepted-holds : Holds (lent t K S W H) (length t.lines)
    accepted-holds =
        let n : ℕ = length t.lines in
        record {
          kinds = fitted-long (kinds_of t) K n (length-map t.lines (λ (l : Line). code l.kind)) room_k;
          stops = fitted-long (stops_of t) S n (stops-long t.lines) room_s;
          weights = fitted-long (weights_of t) W n (length-map t.lines (λ (l : Line). l.weight)) room_w;
          heights = fitted-long (heights_of t) H n (length-map t.lines (height_of t.head.lowest)) room_h;
          few = accepted-size.1;
        }

-- a leaf's utility from its height
pub whole-height : (h : Head) (l : Line) → Within h l.utility → l.kind ≡ Leaf → h.lowest +ℤ pos (height_of h.lowest l) ≡ l.utility
whole-height h l w e = rw e (height-back h.lowest l.utility w.0)
