-- What holds of every accepted table: the shape and the ranges of document 01, 'The table on paper', and of document 02, Item 5. proofs/Accepted.antt
-- has the theorems.
use Rattle.std.specs.Prelude.{ℕ, suc, ◌+◌, ◌≤◌, ◌<◌, ◌≡◌, Bool, true, false, cond, List, [], ◌∷◌, ◌++◌, length, take, drop, ℤ, pos, ◌-ℤ◌}
use Rattle.line.specs.declared.Head.{Head}
use Rattle.line.specs.declared.Kind.TheVariants.{Leaf}
use Rattle.line.specs.declared.Line.{Line}
use Rattle.line.specs.Refusal.{fine}
use Rattle.line.specs.Line.{to_nat, header, totals, among}
use Rattle.line.specs.Inside.{Weighs}
use Rattle.table.specs.Tree.{Kind, Forest, end, leaf, inner, line_kind, is_chance, is_end, weigh, childless, unbalanced}
use Rattle.table.specs.Table.{Table, bad_length, node_lines, tree, grain, count}

-- how many points the ends are apart
abbrev pub span : Head → ℕ
span h = to_nat (h.highest -ℤ h.lowest)

-- 1 for a C
abbrev pub one : Kind → ℕ
one k = cond (is_chance k) 1 0

-- The tree written out in depth-first order, as lines: p is the parent's number, c the number of C above.
unfoldable pub flat : ℕ → ℕ → Forest ℤ → List Line
flat p c end = []
flat p c (leaf n w v rest) = record { node = n; kind = Leaf; parent = p; weight = w; utility = v; chances = c } ∷ flat p c rest
flat p c (inner n w k under rest) =
    record { node = n; kind = line_kind k; parent = p; weight = w; utility = pos 0; chances = c + one k } ∷ (flat n (c + one k) under ++ flat p c rest)

-- "T 1 to 64", and the second total likewise
abbrev pub OkTotal : ℕ → Type 0
OkTotal n = (0 < n) × (n ≤ 64)

module _ {A : Type 0} where
  -- "Every node but an L has a child"
  abbrev pub Filled : Forest A → Type 0
  Filled end = Unit {0}
  Filled (leaf n w v rest) = Filled rest
  Filled (inner n w k under rest) = (is_end under ≡ false) × Filled under × Filled rest

  -- P of every C's own sum of weights
  abbrev pub Totals : (P : ℕ → Type 0) → Forest A → Type 0
  Totals P end = Unit {0}
  Totals P (leaf n w v rest) = Totals P rest
  Totals P (inner n w k under rest) = (is_chance k ≡ true → P (weigh under)) × Totals P under × Totals P rest

  -- "A C's weights sum to T", by Item 5 "to either total"
  abbrev pub Balanced : List ℕ → Forest A → Type 0
  Balanced ts f = Totals (λ (n : ℕ). among n ts ≡ true) f

  -- Weights up to T, the larger total, leaf values, "at most 64 nodes" and at most K C on a path: d nodes and c C stand above, and u says whether the
  -- parent is a C.
  module _ (T K : ℕ) (ok : A → Type 0) where
    abbrev pub Proper : ℕ → ℕ → Bool → Forest A → Type 0
    Proper d c u end = Unit {0}
    Proper d c u (leaf n w v rest) = Weighs u T w × ok v × (d < 64) × (c ≤ K) × Proper d c u rest
    Proper d c u (inner n w k under rest) =
        Weighs u T w × (d < 64) × (c + one k ≤ K) × Proper (suc d) (c + one k) (is_chance k) under × Proper d c u rest

  -- one node, the root, with all under it
  abbrev pub Rooted : Forest A → Type 0
  Rooted end = ⊥
  Rooted (leaf n w v rest) = (n ≡ 0) × (w ≡ 0) × (rest ≡ end)
  Rooted (inner n w k under rest) = (n ≡ 0) × (w ≡ 0) × (rest ≡ end)

-- What 18 is for, "a grain count above 16,777,216, after 9": no other condition of a table's refusals holds of the text
pub record Excessive (s : List ℕ) : Type 0 where
  pub table : Table
  pub long : bad_length (length s) ≡ false
  pub head : header (count s) (take 25 s) ≡ fine table.head
  pub lines : node_lines table.head (count s) 0 [] (drop 25 s) ≡ fine table.lines
  pub no-childless : childless (tree table) ≡ []
  pub no-unbalanced : unbalanced (totals table.head) (tree table) ≡ []
  pub grains : 16777216 < grain table
