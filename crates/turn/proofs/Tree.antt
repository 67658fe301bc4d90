-- The turned table's tree, grains and leaves, and that turning twice changes nothing.
use Prim.Native.Nat.{ℕ, zero, suc, ◌+◌}
use mathlib.Core.Path.{◌≡◌, refl, ap, ap₂, ◌∙◌}
use mathlib.Core.Bool.{Bool, true, false, cond}
use mathlib.Core.List.{List, [], ◌∷◌, map}
use lib.Dec.{leb}
use lib.ListN.{length, length-map}
use lib.IntN.{ℤ, neg_ℤ, neg_ℤ-neg_ℤ}
use Rattle.line.specs.declared.Kind.{Kind as LineKind}
use Rattle.line.specs.declared.Kind.TheVariants.{Leaf, Max, Min, Chance}
use Rattle.line.specs.declared.Line.{Line}
use Rattle.line.specs.Line.{totals, code, is_leaf}
use Rattle.table.specs.Tree.{Kind, MAX, MIN, CHANCE, Forest, end, leaf, inner, kind_of, is_chance, run, after, grow, forest, weigh, powers, uses, grain_of, leaves}
use Rattle.table.specs.Table.{Table, tree, grain}
use Rattle.turn.specs.Turn.{exchanged, turn_line, turn_table, turn_kind, turn_tree}

-- ---- one kind

kind-twice : (k : LineKind) → exchanged (exchanged k) ≡ k
kind-twice Leaf = refl
kind-twice Max = refl
kind-twice Min = refl
kind-twice Chance = refl

-- and so is the answer to whether it is that of a leaf
pub kind-leaf : (k : LineKind) → is_leaf (exchanged k) ≡ is_leaf k
kind-leaf Leaf = refl
kind-leaf Max = refl
kind-leaf Min = refl
kind-leaf Chance = refl

kind-turned : (k : LineKind) → kind_of (code (exchanged k)) ≡ turn_kind (kind_of (code k))
kind-turned Leaf = refl
kind-turned Max = refl
kind-turned Min = refl
kind-turned Chance = refl

pub kind-chance : (k : Kind) → is_chance (turn_kind k) ≡ is_chance k
kind-chance MAX = refl
kind-chance MIN = refl
kind-chance CHANCE = refl

-- ---- twice

lines-twice : (ls : List Line) → map turn_line (map turn_line ls) ≡ ls
lines-twice [] = refl
lines-twice (l ∷ ls) = ap₂ ◌∷◌ (ap₂ (λ (k : LineKind) (u : ℤ). record { node = l.node; kind = k; parent = l.parent; weight = l.weight; utility = u; chances = l.chances }) (kind-twice l.kind) (neg_ℤ-neg_ℤ l.utility)) (lines-twice ls)

pub table-twice : (t : Table) → turn_table (turn_table t) ≡ t
table-twice t =
    let lowest = neg_ℤ-neg_ℤ t.head.lowest in
    let highest = neg_ℤ-neg_ℤ t.head.highest in
    let lines = lines-twice t.lines in
    λ j. record { head = record { total = t.head.total; second = t.head.second; lowest = lowest j; highest = highest j }; lines = lines j }

-- ---- the tree

run-turned : (n : ℕ) (ls : List Line) → run n (map turn_line ls) ≡ map turn_line (run n ls)
unfolding run
run-turned n [] = refl
run-turned n (l ∷ ls) = go (run-turned n ls) (leb n l.parent)
  where
    go : run n (map turn_line ls) ≡ map turn_line (run n ls) → (b : Bool)
        → cond b (turn_line l ∷ run n (map turn_line ls)) [] ≡ map turn_line (cond b (l ∷ run n ls) [])
    go ih true = ap (λ (x : List Line). turn_line l ∷ x) ih
    go ih false = refl

after-turned : (n : ℕ) (ls : List Line) → after n (map turn_line ls) ≡ map turn_line (after n ls)
unfolding after
after-turned n [] = refl
after-turned n (l ∷ ls) = go (after-turned n ls) (leb n l.parent)
  where
    go : after n (map turn_line ls) ≡ map turn_line (after n ls) → (b : Bool)
        → cond b (after n (map turn_line ls)) (map turn_line (l ∷ ls)) ≡ map turn_line (cond b (after n ls) (l ∷ ls))
    go ih true = ih
    go ih false = refl

grow-turned : (l : Line) (under rest : Forest ℤ) → grow (neg_ℤ l.utility) (turn_line l) (turn_tree under) (turn_tree rest) ≡ turn_tree (grow l.utility l under rest)
unfolding turn_tree
grow-turned l under rest = rw (kind-leaf l.kind, kind-turned l.kind) (go (is_leaf l.kind))
  where
    go : (b : Bool) → cond b (leaf l.node l.weight (neg_ℤ l.utility) (turn_tree rest)) (inner l.node l.weight (turn_kind (kind_of (code l.kind))) (turn_tree under) (turn_tree rest))
        ≡ turn_tree (cond b (leaf l.node l.weight l.utility rest) (inner l.node l.weight (kind_of (code l.kind)) under rest))
    go true = refl
    go false = refl

abbrev value : Line → ℤ
value l = l.utility

forest-turned : (k : ℕ) (ls : List Line) → forest value k (map turn_line ls) ≡ turn_tree (forest value k ls)
unfolding forest turn_tree
forest-turned zero ls = refl
forest-turned (suc k) [] = refl
forest-turned (suc k) (l ∷ ls) =
    ap₂ (grow (neg_ℤ l.utility) (turn_line l))
    (ap (forest value k) (run-turned l.node ls) ∙ forest-turned k (run l.node ls))
    (ap (forest value k) (after-turned l.node ls) ∙ forest-turned k (after l.node ls))
    ∙ grow-turned l (forest value k (run l.node ls)) (forest value k (after l.node ls))

pub tree-turned : (t : Table) → tree (turn_table t) ≡ turn_tree (tree t)
tree-turned t = ap (λ (n : ℕ). forest value n (map turn_line t.lines)) (length-map t.lines turn_line) ∙ forest-turned (length t.lines) t.lines

-- ---- leaves

tree-leaves : (f : Forest ℤ) → leaves (turn_tree f) ≡ leaves f
unfolding leaves turn_tree
tree-leaves end = refl
tree-leaves (leaf n w u rest) = ap (λ (x : ℕ). 1 + x) (tree-leaves rest)
tree-leaves (inner n w k under rest) = ap₂ ◌+◌ (tree-leaves under) (tree-leaves rest)

pub tree-leaves-turned : (t : Table) → leaves (tree (turn_table t)) ≡ leaves (tree t)
tree-leaves-turned t = ap leaves (tree-turned t) ∙ tree-leaves (tree t)

-- ---- sums and grains

weigh-turned : (f : Forest ℤ) → weigh (turn_tree f) ≡ weigh f
unfolding weigh turn_tree
weigh-turned end = refl
weigh-turned (leaf n w u rest) = ap (λ (x : ℕ). w + x) (weigh-turned rest)
weigh-turned (inner n w k under rest) = ap (λ (x : ℕ). w + x) (weigh-turned rest)

uses-turned : (t : ℕ) (f : Forest ℤ) → uses t (turn_tree f) ≡ uses t f
unfolding uses turn_tree
uses-turned t end = refl
uses-turned t (leaf n w u rest) = uses-turned t rest
uses-turned t (inner n w k under rest) = rw (kind-chance k, weigh-turned under, uses-turned t under, uses-turned t rest)

pub tree-grain-turned : (ts : List ℕ) (f : Forest ℤ) → grain_of ts (turn_tree f) ≡ grain_of ts f
tree-grain-turned ts f i = powers ts (λ (t : ℕ). uses-turned t f i)

pub grain-turned : (t : Table) → grain (turn_table t) ≡ grain t
grain-turned t = ap (grain_of (totals t.head)) (tree-turned t) ∙ tree-grain-turned (totals t.head) (tree t)
