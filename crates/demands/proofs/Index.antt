-- What the index of an accepted table is, by its lines, and when two lists are its own. Document 02, Item 14.
use Prim.Native.Nat.{ℕ, suc, ◌+◌, ◌≤◌, ◌<◌}
use mathlib.Core.Path.{◌≡◌, refl, sym, ap, ap₂, subst, ◌∙◌}
use mathlib.Core.Bool.{Bool, true, false, not, ◌&&◌, ◌||◌, cond}
use mathlib.Core.List.{List, [], ◌∷◌, ◌++◌, Memᴰ, map, append_assoc, append-eq-nil_iff}
use mathlib.Core.Option.{Option, none, some}
use native.Mathlib.Omega.{arith}
use borrow.Author.Tests.{leb-true, leb-false, le-leb, eqb-true, eq-eqb}
use lib.ListN.{length}
use lib.IntN.{ℤ, pos, negsuc}
use lib.Signed.{le_z}
use Rattle.numbers.specs.Integers.{max_z, min_z, eq_z}
use Rattle.numbers.proofs.Signs.{plus, minus, parts, is-unique, is_eq, is_le}
use Rattle.line.specs.declared.Line.{Line}
use Rattle.line.specs.Refusal.{fine}
use Rattle.line.proofs.Signs.{true-ne-false}
use Rattle.table.specs.Tree.{Kind, Forest, end, leaf, inner, line_kind, run, is_end}
use Rattle.table.specs.Table.{Table, tree, read_text, count}
use Rattle.table.specs.Accepted.{flat, one, Filled, Rooted}
use Rattle.table.proofs.Runs.{size, Numbered, code-inner, Outside, outside-more, flat-outside, run-under}
use Rattle.table.proofs.Known.{read_length, read-numbered}
use Rattle.table.proofs.Accepted.{checked, accepted-size, accepted-flat, accepted-rooted, accepted-filled}
use Rattle.index.specs.Index.{values_of, lowest_of, highest_of, Ends, ends_under, entries, index_of, of_entry, lows_of, highs_of, written, agrees, not_own}
use Rattle.line.specs.Line.{is_leaf}
use Rattle.line.specs.declared.Kind.TheVariants.{Leaf}
use Rattle.demands.specs.Indexed.{utilities_of, Lowest, Highest, Indexes, indexes-none, indexes-leaf, indexes-line, OneEnd, IndexIs, Fills, fills-behind, fills-leaf, fills-line, Owns, owns-behind, owns-leaf, owns-line, OwnIndex, SameLists, lists-short, lists-leaf, lists-line}

-- ---- the order of the integers

le_parts : (y z : ℤ) → le_z y z ≡ true → plus y + minus z ≤ plus z + minus y
le_parts y z e = leb-true _ _ (sym (is_le y z _ _ _ _ (parts y) (parts z)) ∙ e)

gt-parts : (y z : ℤ) → le_z y z ≡ false → plus z + minus y < plus y + minus z
gt-parts y z e = leb-false _ _ (sym (is_le y z _ _ _ _ (parts y) (parts z)) ∙ e)

parts-le : (y z : ℤ) → plus y + minus z ≤ plus z + minus y → le_z y z ≡ true
parts-le y z h = is_le y z _ _ _ _ (parts y) (parts z) ∙ le-leb _ _ h

le-self : (z : ℤ) → le_z z z ≡ true
le-self z = parts-le z z (omega arith)

le_next : (x y z : ℤ) → le_z x y ≡ true → le_z y z ≡ true → le_z x z ≡ true
le_next x y z h k = parts-le x z (omega (arith, le_parts x y h, le_parts y z k))

le-other : (y z : ℤ) → le_z y z ≡ false → le_z z y ≡ true
le-other y z h = parts-le z y (omega (arith, gt-parts y z h))

le-both : (y z : ℤ) → le_z y z ≡ true → le_z z y ≡ true → y ≡ z
le-both y z h k =
    is-unique y z (plus y) (minus y) (parts y)
    (is_eq z (plus z) (minus z) (plus y) (minus y) (parts z) (omega (arith, le_parts y z h, le_parts z y k)))

pub eq-true : (y z : ℤ) → eq_z y z ≡ true → y ≡ z
eq-true (pos m) (pos n) e = ap pos (eqb-true m n e)
eq-true (pos m) (negsuc n) e = absurd (true-ne-false (sym e))
eq-true (negsuc m) (pos n) e = absurd (true-ne-false (sym e))
eq-true (negsuc m) (negsuc n) e = ap negsuc (eqb-true m n e)

pub eq_self : (z : ℤ) → eq_z z z ≡ true
eq_self (pos n) = eq-eqb n n refl
eq_self (negsuc n) = eq-eqb n n refl

-- ---- tests

pub and_both : (x y : Bool) → (x && y) ≡ true → (x ≡ true) × (y ≡ true)
and_both true y e = (refl, e)
and_both false y e = absurd (true-ne-false (sym e))

pub both-and : (x y : Bool) → x ≡ true → y ≡ true → (x && y) ≡ true
both-and true y a b = b
both-and false y a b = absurd (true-ne-false (sym a))

pub neither : (x y : Bool) → x ≡ true → y ≡ true → (not x || not y) ≡ false
neither true true a b = refl
neither true false a b = absurd (true-ne-false (sym b))
neither false y a b = absurd (true-ne-false (sym a))

pub not-either : (x y : Bool) → (not x || not y) ≡ false → (x ≡ true) × (y ≡ true)
not-either true true e = (refl, refl)
not-either true false e = absurd (true-ne-false e)
not-either false y e = absurd (true-ne-false e)

-- ---- the lowest and the highest of some numbers

least-two : (x m : ℤ) (xs : List ℤ) → Lowest xs m → Lowest (x ∷ xs) (min_z x m)
unfolding min_z
least-two x m xs L = go (le_z x m) refl
  where
    first : le_z x m ≡ true → (z : ℤ) → Memᴰ z (x ∷ xs) → le_z x z ≡ true
    first h z (Memᴰ.head e) = subst (λ (y : ℤ). le_z x y ≡ true) (sym e) (le-self x)
    first h z (Memᴰ.tail d) = le_next x m z h (L.bound z d)

    later : le_z x m ≡ false → (z : ℤ) → Memᴰ z (x ∷ xs) → le_z m z ≡ true
    later h z (Memᴰ.head e) = subst (λ (y : ℤ). le_z m y ≡ true) (sym e) (le-other x m h)
    later h z (Memᴰ.tail d) = L.bound z d

    go : (c : Bool) → le_z x m ≡ c → Lowest (x ∷ xs) (cond c x m)
    go true h = record { one = Memᴰ.head refl; bound = first h }
    go false h = record { one = Memᴰ.tail L.one; bound = later h }

most-two : (x m : ℤ) (xs : List ℤ) → Highest xs m → Highest (x ∷ xs) (max_z x m)
unfolding max_z
most-two x m xs H = go (le_z x m) refl
  where
    first : le_z x m ≡ false → (z : ℤ) → Memᴰ z (x ∷ xs) → le_z z x ≡ true
    first h z (Memᴰ.head e) = subst (λ (y : ℤ). le_z y x ≡ true) (sym e) (le-self x)
    first h z (Memᴰ.tail d) = le_next z m x (H.bound z d) (le-other x m h)

    later : le_z x m ≡ true → (z : ℤ) → Memᴰ z (x ∷ xs) → le_z z m ≡ true
    later h z (Memᴰ.head e) = subst (λ (y : ℤ). le_z y m ≡ true) (sym e) h
    later h z (Memᴰ.tail d) = H.bound z d

    go : (c : Bool) → le_z x m ≡ c → Highest (x ∷ xs) (cond c m x)
    go true h = record { one = Memᴰ.tail H.one; bound = later h }
    go false h = record { one = Memᴰ.head refl; bound = first h }

no_member : {P : Type 0} {x : ℤ} {xs : List ℤ} → xs ≡ [] → Memᴰ x xs → P
no_member e (Memᴰ.head h) = let z : ◌≡◌ {A = ℕ} 0 1 = cc in absurd (omega arith)
no_member e (Memᴰ.tail d) = let z : ◌≡◌ {A = ℕ} 0 1 = cc in absurd (omega arith)

only : (x z : ℤ) → Memᴰ z (x ∷ []) → z ≡ x
only x z (Memᴰ.head e) = e
only x z (Memᴰ.tail d) = no_member refl d

lowest-of : (xs : List ℤ) → (xs ≡ [] → ⊥) → Lowest xs (lowest_of xs)
unfolding lowest_of
lowest-of [] h = absurd (h refl)
lowest-of (x ∷ []) h = record { one = Memᴰ.head refl; bound = λ z d. subst (λ (y : ℤ). le_z x y ≡ true) (sym (only x z d)) (le-self x) }
lowest-of (x ∷ y ∷ ys) h = least-two x (lowest_of (y ∷ ys)) (y ∷ ys) (lowest-of (y ∷ ys) (λ e. let z : ◌≡◌ {A = ℕ} 0 1 = cc in omega arith))

highest-of : (xs : List ℤ) → (xs ≡ [] → ⊥) → Highest xs (highest_of xs)
unfolding highest_of
highest-of [] h = absurd (h refl)
highest-of (x ∷ []) h = record { one = Memᴰ.head refl; bound = λ z d. subst (λ (y : ℤ). le_z y x ≡ true) (sym (only x z d)) (le-self x) }
highest-of (x ∷ y ∷ ys) h = most-two x (highest_of (y ∷ ys)) (y ∷ ys) (highest-of (y ∷ ys) (λ e. let z : ◌≡◌ {A = ℕ} 0 1 = cc in omega arith))

-- there is one of each
abbrev One : (List ℤ → ℤ → Type 0) → Type 0
One P = (xs : List ℤ) (y z : ℤ) → P xs y → P xs z → y ≡ z

one-lowest : One Lowest
one-lowest xs y z a b = le-both y z (a.bound z b.one) (b.bound y a.one)

one-highest : One Highest
one-highest xs y z a b = le-both y z (b.bound y a.one) (a.bound z b.one)

pub one_end : OneEnd
one_end = (one-lowest, one-highest)

-- ---- the lines of a tree

utilities-append : (a b : List Line) → utilities_of (a ++ b) ≡ utilities_of a ++ utilities_of b
unfolding utilities_of
utilities-append [] b = refl
utilities-append (l ∷ a) b = go (utilities-append a b) (is_leaf l.kind)
  where
    go : utilities_of (a ++ b) ≡ utilities_of a ++ utilities_of b → (c : Bool)
        → cond c (l.utility ∷ utilities_of (a ++ b)) (utilities_of (a ++ b)) ≡ cond c (l.utility ∷ utilities_of a) (utilities_of a) ++ utilities_of b
    go e true = ap (λ (x : List ℤ). l.utility ∷ x) e
    go e false = e

values-flat : (p c : ℕ) (T : Forest ℤ) → utilities_of (flat p c T) ≡ values_of T
unfolding flat utilities_of values_of
values-flat p c end = refl
values-flat p c (leaf n w v rest) = ap (λ (x : List ℤ). v ∷ x) (values-flat p c rest)
values-flat p c (inner n w k under rest) =
    rw (code-inner k)
    (utilities-append (flat n (c + one k) under) (flat p c rest) ∙ ap₂ ◌++◌ (values-flat n (c + one k) under) (values-flat p c rest))

values-some : (f : Forest ℤ) → Filled f → is_end f ≡ false → values_of f ≡ [] → ⊥
unfolding values_of
values-some end i z e = true-ne-false z
values-some (leaf n w v rest) i z e = let x : ◌≡◌ {A = ℕ} 0 1 = cc in omega arith
values-some (inner n w k under rest) i z e = values-some under i.1 i.0 (append-eq-nil_iff.0 e).0

abbrev line_of : (n w p c : ℕ) → Kind → Line
line_of n w p c k = record { node = n; kind = line_kind k; parent = p; weight = w; utility = pos 0; chances = c }

inner_code : (k : Kind) → line_kind k ≡ Leaf → ⊥
inner_code k e = true-ne-false (sym (ap is_leaf e) ∙ code-inner k)

-- a line with the lines under it and those behind them
line-indexed : (i n w p c : ℕ) (k : Kind) (under : Forest ℤ) (more : List Line) (es : List (Option Ends)) → n ≡ i → Numbered (suc i) under → Outside i more
    → is_end under ≡ false → Filled under → Indexes (suc i) (flat n (c + one k) under ++ more) es
    → Indexes i (line_of n w p (c + one k) k ∷ (flat n (c + one k) under ++ more)) (some (ends_under under) ∷ es)
line-indexed i n w p c k under more es e N o has fill r =
    let ls : List Line = flat n (c + one k) under ++ more in
    let place : run i ls ≡ flat n (c + one k) under =
    ap (λ (j : ℕ). run j ls) (sym e)
    ∙ run-under n (c + one k) under (subst (λ (j : ℕ). Numbered (suc j) under) (sym e) N) more (subst (λ (j : ℕ). Outside j more) (sym e) o) in
    let stands : values_of under ≡ utilities_of (run i ls) = sym (ap utilities_of place ∙ values-flat n (c + one k) under) in
    indexes-line e (inner_code k)
    (subst (λ (xs : List ℤ). Lowest xs (lowest_of (values_of under))) stands (lowest-of (values_of under) (values-some under fill has)))
    (subst (λ (xs : List ℤ). Highest xs (highest_of (values_of under))) stands (highest-of (values_of under) (values-some under fill has)))
    r

-- nodes with one parent, before other lines
nodes-indexed : (p c i : ℕ) (T : Forest ℤ) (more : List Line) (es : List (Option Ends)) → Numbered i T → p < i → Outside i more → Filled T
    → Indexes (i + size T) more es → Indexes i (flat p c T ++ more) (entries T ++ es)
unfolding flat entries
nodes-indexed p c i end more es N h o fill r = subst (λ (j : ℕ). Indexes j more es) (omega arith) r
nodes-indexed p c i (leaf n w v rest) more es N h o fill r =
    indexes-leaf N.0 refl
    (nodes-indexed p c (suc i) rest more es N.1 (omega arith) (outside-more i (suc i) more (omega arith) o) fill
    (subst (λ (j : ℕ). Indexes j more es) (omega arith) r))
nodes-indexed p c i (inner n w k under rest) more es N h o fill r =
    let d : ℕ = c + one k in
    let later : Indexes (suc i + size under) (flat p c rest ++ more) (entries rest ++ es) =
    nodes-indexed p c (suc i + size under) rest more es N.2 (omega arith) (outside-more i (suc i + size under) more (omega arith) o) fill.2
    (subst (λ (j : ℕ). Indexes j more es) (omega arith) r) in
    let below : Indexes (suc i) (flat n d under ++ (flat p c rest ++ more)) (entries under ++ (entries rest ++ es)) =
    nodes-indexed n d (suc i) under (flat p c rest ++ more) (entries rest ++ es) N.1 (omega (arith, N.0))
    (flat-outside (suc i) p c rest more (omega arith) (outside-more i (suc i) more (omega arith) o)) fill.1 later in
    let all = line-indexed i n w p c k under (flat p c rest ++ more) (entries under ++ (entries rest ++ es)) N.0 N.1
    (flat-outside i p c rest more h o) fill.0 fill.1 below in
    subst (λ (ls : List Line). Indexes i (line_of n w p d k ∷ ls) (some (ends_under under) ∷ ((entries under ++ entries rest) ++ es)))
    (sym (append_assoc (flat n d under) (flat p c rest) more))
    (subst (λ (xs : List (Option Ends)). Indexes i (line_of n w p d k ∷ (flat n d under ++ (flat p c rest ++ more))) (some (ends_under under) ∷ xs))
    (sym (append_assoc (entries under) (entries rest) es)) all)

root-indexed : (T : Forest ℤ) → Numbered 0 T → Rooted T → Filled T → Indexes 0 (flat 0 0 T) (entries T)
unfolding flat entries
root-indexed end N R fill = absurd R
root-indexed (leaf n w v rest) N R fill = rw R.2 (indexes-leaf N.0 refl indexes-none)
root-indexed (inner n w k under rest) N R fill =
    rw R.2
    (line-indexed 0 n w 0 0 k under [] (entries under ++ []) N.0 N.1 tt fill.0 fill.1
    (nodes-indexed n (0 + one k) 1 under [] [] N.1 (omega (arith, N.0)) tt fill.1 indexes-none))

indexes-long : {i : ℕ} {ls : List Line} {es : List (Option Ends)} → Indexes i ls es → length es ≡ length ls
indexes-long indexes-none = refl
indexes-long (indexes-leaf n k r) = ap suc (indexes-long r)
indexes-long (indexes-line n k a b r) = ap suc (indexes-long r)

pub lines-indexed : (s : List ℕ) (t : Table) → read_text s ≡ fine t → Indexes 0 t.lines (index_of t)
lines-indexed s t p =
    let C = checked s t p in
    let much : 0 < count s = omega (arith, (accepted-size s t p).0, read_length t (count s) _ C.lines) in
    subst (λ (ls : List Line). Indexes 0 ls (index_of t)) (accepted-flat s t p)
    (root-indexed (tree t) (read-numbered t (count s) _ C.lines much) (accepted-rooted s t p) (accepted-filled s t p))

pub index_is : IndexIs
index_is s t p = (lines-indexed s t p, indexes-long (lines-indexed s t p))

-- ---- one of the two lists of entries

-- the same of one end, P
data Each (P : List ℤ → ℤ → Type 0) : ℕ → List Line → List (Option ℤ) → Type 0 where
  each_none : {i : ℕ} → Each P i [] []
  each-leaf : {i : ℕ} {l : Line} {ls : List Line} {xs : List (Option ℤ)} → l.node ≡ i → l.kind ≡ Leaf → Each P (suc i) ls xs → Each P i (l ∷ ls) (none ∷ xs)
  each_line : {i : ℕ} {l : Line} {ls : List Line} {x : ℤ} {xs : List (Option ℤ)} → l.node ≡ i → (l.kind ≡ Leaf → ⊥) → P (utilities_of (run i ls)) x
      → Each P (suc i) ls xs → Each P i (l ∷ ls) (some x ∷ xs)

each-low : {i : ℕ} {ls : List Line} {es : List (Option Ends)} → Indexes i ls es → Each Lowest i ls (map (of_entry (λ (e : Ends). e.low)) es)
each-low indexes-none = each_none
each-low (indexes-leaf n k r) = each-leaf n k (each-low r)
each-low (indexes-line n k a b r) = each_line n k a (each-low r)

each-high : {i : ℕ} {ls : List Line} {es : List (Option Ends)} → Indexes i ls es → Each Highest i ls (map (of_entry (λ (e : Ends). e.high)) es)
each-high indexes-none = each_none
each-high (indexes-leaf n k r) = each-leaf n k (each-high r)
each-high (indexes-line n k a b r) = each_line n k b (each-high r)

module _ {P : List ℤ → ℤ → Type 0} where
  -- written to a list that is long enough
  fills : {i : ℕ} {ls : List Line} {xs : List (Option ℤ)} → Each P i ls xs → (a : List ℤ) → length ls ≤ length a → Fills P i ls a (written xs a)
  unfolding written
  fills each_none [] h = fills-behind
  fills each_none (x ∷ a) h = fills-behind
  fills (each-leaf n k r) [] h = absurd (omega arith)
  fills (each-leaf n k r) (x ∷ a) h = fills-leaf n k (fills r a (omega arith))
  fills (each_line n k e r) [] h = absurd (omega arith)
  fills (each_line n k e r) (x ∷ a) h = fills-line n k e (fills r a (omega arith))

  pub filled-owns : {i : ℕ} {ls : List Line} {a b : List ℤ} → Fills P i ls a b → Owns P i ls b
  filled-owns fills-behind = owns-behind
  filled-owns (fills-leaf n k r) = owns-leaf n k (filled-owns r)
  filled-owns (fills-line n k e r) = owns-line n k e (filled-owns r)

  pub owns-long : {i : ℕ} {ls : List Line} {a : List ℤ} → Owns P i ls a → length ls ≤ length a
  owns-long owns-behind = omega arith
  owns-long (owns-leaf n k r) = omega (arith, owns-long r)
  owns-long (owns-line n k e r) = omega (arith, owns-long r)

  -- a list that agrees is the table's own
  agreed-owns : {i : ℕ} {ls : List Line} {xs : List (Option ℤ)} → Each P i ls xs → (a : List ℤ) → agrees xs a ≡ true → Owns P i ls a
  unfolding agrees
  agreed-owns each_none a e = owns-behind
  agreed-owns (each-leaf n k r) [] e = absurd (true-ne-false (sym e))
  agreed-owns (each-leaf n k r) (z ∷ a) e = owns-leaf n k (agreed-owns r a e)
  agreed-owns (each_line n k p r) [] e = absurd (true-ne-false (sym e))
  agreed-owns (each_line {i} {l} {ls} {x} {xs} n k p r) (z ∷ a) e =
      let (x-is, more) = and_both (eq_z x z) (agrees xs a) e in
      owns-line n k (subst (λ (y : ℤ). P (utilities_of (run i ls)) y) (eq-true x z x-is) p) (agreed-owns r a more)

  -- and the table's own agrees, as there is one
  owned-agrees : One P → {i : ℕ} {ls : List Line} {xs : List (Option ℤ)} {a : List ℤ} → Each P i ls xs → Owns P i ls a → agrees xs a ≡ true
  unfolding agrees
  owned-agrees u each_none o = refl
  owned-agrees u (each-leaf n k r) (owns-leaf m j o) = owned-agrees u r o
  owned-agrees u (each-leaf n k r) (owns-line m j q o) = absurd (j k)
  owned-agrees u (each_line n k p r) (owns-leaf m j o) = absurd (k j)
  owned-agrees u (each_line {i} {l} {ls} {x} {xs} n k p r) (owns-line {x = z} {a = a} m j q o) =
      both-and (eq_z x z) (agrees xs a) (subst (λ (y : ℤ). eq_z x y ≡ true) (u (utilities_of (run i ls)) x z p q) (eq_self x)) (owned-agrees u r o)

  -- what stands at leaves and behind the nodes is not compared
  same-agrees : {i : ℕ} {ls : List Line} {xs : List (Option ℤ)} {a b : List ℤ} → Each P i ls xs → SameLists ls a b → agrees xs a ≡ agrees xs b
  unfolding agrees
  same-agrees each_none s = refl
  same-agrees (each-leaf n k r) lists-short = refl
  same-agrees (each-leaf n k r) (lists-leaf j s) = same-agrees r s
  same-agrees (each-leaf n k r) (lists-line s) = same-agrees r s
  same-agrees (each_line n k p r) lists-short = refl
  same-agrees (each_line n k p r) (lists-leaf j s) = absurd (k j)
  same-agrees (each_line {x = x} n k p r) (lists-line {x = z} s) = ap (λ (c : Bool). eq_z x z && c) (same-agrees r s)

-- ---- the table's own index

module _ (s : List ℕ) (t : Table) (p : read_text s ≡ fine t) where
  low-lines : Each Lowest 0 t.lines (lows_of t)
  low-lines = each-low (lines-indexed s t p)

  high-lines : Each Highest 0 t.lines (highs_of t)
  high-lines = each-high (lines-indexed s t p)

  pub fills-lows : (lows : List ℤ) → length t.lines ≤ length lows → Fills Lowest 0 t.lines lows (written (lows_of t) lows)
  fills-lows = fills low-lines

  pub fills-highs : (highs : List ℤ) → length t.lines ≤ length highs → Fills Highest 0 t.lines highs (written (highs_of t) highs)
  fills-highs = fills high-lines

  module _ (lows highs : List ℤ) where
    -- the two lists are its own exactly where 22's condition does not hold
    pub own-accepted : OwnIndex t lows highs → not_own t lows highs ≡ false
    own-accepted (a, b) =
        neither (agrees (lows_of t) lows) (agrees (highs_of t) highs) (owned-agrees one-lowest low-lines a) (owned-agrees one-highest high-lines b)

    pub accepted-own : not_own t lows highs ≡ false → OwnIndex t lows highs
    accepted-own e =
        let (a, b) = not-either (agrees (lows_of t) lows) (agrees (highs_of t) highs) e in
        (agreed-owns low-lines lows a, agreed-owns high-lines highs b)

    pub same-own : (lows2 highs2 : List ℤ) → SameLists t.lines lows lows2 → SameLists t.lines highs highs2 → not_own t lows highs ≡ not_own t lows2 highs2
    same-own lows2 highs2 a b = ap₂ (λ (x y : Bool). not x || not y) (same-agrees low-lines a) (same-agrees high-lines b)
