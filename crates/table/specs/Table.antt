-- A table's text as a whole. Document 01, 'The table on paper', 'Grains' and the sequence of 'Refused tables and calls'; of the grain count and 18
-- document 02, Item 5.
use Rattle.line.specs.declared.Refusal.{Refusal}
use Rattle.std.specs.Prelude.{ℕ, zero, suc, ◌+◌, ◌-◌, ◌/◌, ◌%◌, max, Bool, not, ◌||◌, cond, List, [], ◌∷◌, ◌++◌, length, take, drop, eqb, ltb, ℤ, Err, Ok, Result}
use Rattle.line.specs.declared.Head.{Head}
use Rattle.line.specs.declared.Line.{Line}
use Rattle.line.specs.declared.Refusal.TheVariants.{Length, Childless, WrongSum, TooManyGrains}
use Rattle.line.specs.Refusal.{Verdict, refused, fine, Check, unless, unless_at, next}
use Rattle.line.specs.declared.Step.{Step}
use Rattle.line.specs.Line.{is_leaf, header, totals, Placed, node_line}
use Rattle.table.specs.declared.Summary.{Summary}
use Rattle.table.specs.Tree.{Forest, forest, childless, unbalanced, grain_of}

-- an accepted table: its header and its node lines
pub record Table : Type 0 where
  pub head : Head
  pub lines : List Line

-- 1: "length is no multiple of 25, or below 50, or above 25,625"
abbrev pub bad_length : ℕ → Bool
bad_length n = not (eqb (n % 25) 0) || ltb n 50 || ltb 25625 n

-- lines with others in front of them
abbrev pub prefix : List Line → Verdict (List Line) → Verdict (List Line)
prefix done (refused r) = refused r
prefix done (fine ls) = fine (done ++ ls)

-- n node lines from node i on, "each node line from the top"; P is the path down to the line before
unfoldable pub node_lines : Head → ℕ → ℕ → List Step → List ℕ → Verdict (List Line)
node_lines h zero i P s = fine []
node_lines h (suc n) i P s =
    next (node_line h i P (take 25 s)) (λ (p : Placed). prefix (p.line ∷ []) (node_lines h n (suc i) p.steps (drop 25 s)))

-- the tree: one node with all under it
abbrev pub tree : Table → Forest ℤ
tree t = forest (λ (l : Line). l.utility) (length t.lines) t.lines

-- The grain count G: "T to the power K" where there is one total; by Item 5 "each total to the power of its greatest number of uses on a path,
-- multiplied". That both are the same where there is one total is a theorem (proofs/Accepted.one-total).
abbrev pub grain : Table → ℕ
grain t = grain_of (totals t.head) (tree t)

-- "18, a grain count above 16,777,216, after 9, line 0"
abbrev pub grain_checks : Table → List Check
grain_checks t = record { holds = ltb 16777216 (grain t); gives = TooManyGrains } ∷ []

-- "then 8 at the lowest-numbered node, then 9 likewise"; by Item 5 then 18
unfoldable pub complete : Table → Verdict Table
complete t =
    next (unless_at (λ (n : ℕ). Childless (n + 1)) (childless (tree t)) t)
    (λ (t : Table). next (unless_at (λ (n : ℕ). WrongSum (n + 1)) (unbalanced (totals t.head) (tree t)) t) (λ (t : Table). unless (grain_checks t) t))

-- n node lines and what is then known of the whole
abbrev pub lines_of : Head → ℕ → List ℕ → Verdict Table
lines_of h n s = next (node_lines h n 0 [] s) (λ (ls : List Line). complete (record { head = h; lines = ls }))

-- how many node lines a text of whole lines has
abbrev pub count : List ℕ → ℕ
count s = length s / 25 - 1

-- "Sequence: 1; the header by 2, 3, 4; each node line from the top by 2, 4, 5, 6, 10, 7, 3; then 8 .., then 9 likewise"; 18 "after 9"
unfoldable pub read_text : List ℕ → Verdict Table
read_text s =
    cond (bad_length (length s)) (refused Length)
    (next (header (count s) (take 25 s)) (λ (h : Head). lines_of h (count s) (drop 25 s)))

-- ---- numbers of a table

-- "K is the greatest number of C on any path"
unfoldable pub greatest : List Line → ℕ
greatest [] = 0
greatest (l ∷ ls) = max l.chances (greatest ls)

-- how many lines are leaves
unfoldable pub leaf_lines : List Line → ℕ
leaf_lines [] = 0
leaf_lines (l ∷ ls) = cond (is_leaf l.kind) 1 0 + leaf_lines ls

-- ---- what the call answers

abbrev pub summary : Table → Summary
summary t =
    record {
      nodes = length t.lines;
      total = t.head.total;
      lowest = t.head.lowest;
      highest = t.head.highest;
      chances = greatest t.lines;
      grain = grain t;
      leaves = leaf_lines t.lines;
      second = t.head.second;
    }

abbrev pub answer : Verdict Table → Result Summary Refusal
answer (refused r) = Err r
answer (fine t) = Ok (summary t)
