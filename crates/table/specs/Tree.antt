-- The tree that the lines of a table mean. Document 01, 'The table on paper'; of sums and their uses document 02, Item 5.
use Rattle.std.specs.Prelude.{ℕ, zero, suc, ◌+◌, ◌*◌, ◌^◌, max, Bool, true, false, not, ◌&&◌, cond, List, [], ◌∷◌, ◌++◌, eqb, leb}
use Rattle.line.specs.declared.Line.{Line}
use Rattle.line.specs.declared.Kind.{Kind as LineKind}
use Rattle.line.specs.declared.Kind.TheVariants.{Max, Min, Chance}
use Rattle.line.specs.Line.{among, code, is_leaf}

-- "Kinds: M (MAX), N (MIN), C (chance)": those that have children
pub data Kind : Type 0 where
  MAX MIN CHANCE : Kind

-- Nodes with one parent, first to last ("child order is line order"). Each has its number, its weight where it stands under a C, and
-- its value, if it is a leaf, or its kind and the nodes under it.
pub data Forest (A : Type 0) : Type 0 where
  end : Forest A
  leaf : (node weight : ℕ) (value : A) (rest : Forest A) → Forest A
  inner : (node weight : ℕ) (kind : Kind) (under rest : Forest A) → Forest A

-- the same kind, as a line says it
abbrev pub line_kind : Kind → LineKind
line_kind MAX = Max
line_kind MIN = Min
line_kind CHANCE = Chance

-- the number that stands for a kind: 0 for L, 1 for M, 2 for N, 3 for C
abbrev pub code_of : Kind → ℕ
code_of k = code (line_kind k)

abbrev pub kind_of : ℕ → Kind
kind_of k = cond (eqb k 1) MAX (cond (eqb k 2) MIN CHANCE)

abbrev pub is_chance : Kind → Bool
is_chance MAX = false
is_chance MIN = false
is_chance CHANCE = true

-- "The lines of a child and of all under it are one run of lines": the run of node n goes on while a line's parent is n or later
unfoldable pub run : ℕ → List Line → List Line
run n [] = []
run n (l ∷ ls) = cond (leb n l.parent) (l ∷ run n ls) []

-- the lines after the run
unfoldable pub after : ℕ → List Line → List Line
after n [] = []
after n (l ∷ ls) = cond (leb n l.parent) (after n ls) (l ∷ ls)

-- each of these to the power that `often` has for it, multiplied
unfoldable pub powers : List ℕ → (often : ℕ → ℕ) → ℕ
powers [] often = 1
powers (t ∷ ts) often = t ^ often t * powers ts often

module _ {A : Type 0} where
  -- a line with the nodes under it and those after it
  abbrev pub grow : A → Line → Forest A → Forest A → Forest A
  grow value l under rest =
      cond (is_leaf l.kind) (leaf l.node l.weight value rest) (inner l.node l.weight (kind_of (code l.kind)) under rest)

  -- lines as nodes with one parent, a leaf's value by `value`; the first argument bounds the number of lines
  unfoldable pub forest : (Line → A) → ℕ → List Line → Forest A
  forest value zero ls = end
  forest value (suc k) [] = end
  forest value (suc k) (l ∷ ls) = grow (value l) l (forest value k (run l.node ls)) (forest value k (after l.node ls))

  abbrev pub is_end : Forest A → Bool
  is_end end = true
  is_end (leaf n w v rest) = false
  is_end (inner n w k under rest) = false

  -- the weights of these nodes, without those under them, summed
  unfoldable pub weigh : Forest A → ℕ
  weigh end = 0
  weigh (leaf n w v rest) = w + weigh rest
  weigh (inner n w k under rest) = w + weigh rest

  -- the numbers of the inner nodes that `bad` says of, lowest first
  unfoldable pub nodes_where : (Kind → Forest A → Bool) → Forest A → List ℕ
  nodes_where bad end = []
  nodes_where bad (leaf n w v rest) = nodes_where bad rest
  nodes_where bad (inner n w k under rest) = cond (bad k under) (n ∷ []) [] ++ (nodes_where bad under ++ nodes_where bad rest)

  -- 8: "M, N or C without a child"
  abbrev pub childless : Forest A → List ℕ
  childless f = nodes_where (λ (k : Kind) (under : Forest A). is_end under) f

  -- 9: "weights do not sum to T", by Item 5 "a sum that is neither total"
  abbrev pub unbalanced : List ℕ → Forest A → List ℕ
  unbalanced ts f = nodes_where (λ (k : Kind) (under : Forest A). is_chance k && not (among (weigh under) ts)) f

  -- 1 for a C whose weights sum to t, which is "its own sum" and "its T in every rule"
  abbrev pub used : ℕ → Kind → Forest A → ℕ
  used t k under = cond (is_chance k && eqb (weigh under) t) 1 0

  -- the "greatest number of uses on a path" of the total t
  unfoldable pub uses : ℕ → Forest A → ℕ
  uses t end = 0
  uses t (leaf n w v rest) = uses t rest
  uses t (inner n w k under rest) = max (used t k under + uses t under) (uses t rest)

  -- "each total to the power of its greatest number of uses on a path, multiplied"
  abbrev pub grain_of : List ℕ → Forest A → ℕ
  grain_of ts f = powers ts (λ (t : ℕ). uses t f)

  -- how many leaves
  unfoldable pub leaves : Forest A → ℕ
  leaves end = 0
  leaves (leaf n w v rest) = 1 + leaves rest
  leaves (inner n w k under rest) = leaves under + leaves rest
