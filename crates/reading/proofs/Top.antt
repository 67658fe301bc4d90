-- The first steps of the reading, the length and the header, and the last: what is copied out.
use Rattle.std.proofs.Common.{Err, Ok}
use Prim.Native.Nat.{ℕ, min, ◌+◌, ◌≤◌, ◌<◌}
use mathlib.Core.Path.{◌≡◌, refl, sym, ap, ◌∙◌}
use mathlib.Core.List.{List, [], ◌∷◌, ◌++◌, map, map-append}
use native.Mathlib.Omega.{arith}
use lib.ListN.{length, get_or, set, take, drop, length-append, length-map}
use lib.Seq.{take-append_seam, take-suc, take_all, get_or-take, length-take-le}
use native.Mathlib.Numerals.{add-one}
use native.Mathlib.Decide.{dec_le}
use Rattle.std.specs.List.{take-map}
use Rattle.table.proofs.Laid.{laid_more}
use Rattle.line.specs.declared.Line.{Line}
use Rattle.line.specs.declared.Refusal.{Refusal}
use Rattle.line.specs.Refusal.{Verdict, refused, fine}
use Rattle.table.specs.declared.Node.{Node}
use Rattle.table.specs.declared.Summary.{Summary}
use Rattle.table.specs.Table.{Table, summary}
use Rattle.table.specs.Slices.{height_of, kinds_of, stops_of, weights_of, heights_of, laid, fitted, decoded}
use Rattle.table.proofs.Complete.{stops-long}
use Rattle.line.specs.Line.{code}
use Rattle.reading.specs.Inside.{Decoded}

-- what is decoded where the verdict is known
pub decoded-refused : (v : Verdict Table) (r : Refusal) (k s w g k' s' w' g' : List ℕ) → v ≡ refused r → Decoded v (Err r) k s w g k' s' w' g'
decoded-refused v r k s w g k' s' w' g' e = rw e refl

-- ---- a text that was decoded

-- the numbers xs stand first in b
pub record Front (xs b : List ℕ) : Type 0 where
  pub long : length xs ≤ length b
  pub front : take (length xs) b ≡ xs

front-laid : (xs a b : List ℕ) → b ≡ laid xs a → Front xs b
front-laid xs a b e =
    record {
      long = rw (e, length-append xs (drop (length xs) a)) (omega arith);
      front = ap (take (length xs)) e ∙ take-append_seam xs (drop (length xs) a);
    }

pub record Accepts (v : Verdict Table) (t : Summary) (k s w g : List ℕ) : Type 0 where
  pub table : Table
  pub verdict : v ≡ fine table
  pub numbers : t ≡ summary table
  pub kinds : Front (kinds_of table) k
  pub stops : Front (stops_of table) s
  pub weights : Front (weights_of table) w
  pub heights : Front (heights_of table) g

pub decoded-accepted : (v : Verdict Table) (t : Summary) (k s w g k' s' w' g' : List ℕ) → Decoded v (Ok t) k s w g k' s' w' g' → Accepts v t k' s' w' g'
decoded-accepted (refused r) t k s w g k' s' w' g' d = cc
decoded-accepted (fine T) t k s w g k' s' w' g' d =
    record {
      table = T;
      verdict = refl;
      numbers = cc d.0;
      kinds = front-laid (kinds_of T) k k' d.1;
      stops = front-laid (stops_of T) s s' d.2;
      weights = front-laid (weights_of T) w w' d.3;
      heights = front-laid (heights_of T) g g' d.4;
    }

pub decoded-refusal : (v : Verdict Table) (r : Refusal) (k s w g k' s' w' g' : List ℕ) → Decoded v (Err r) k s w g k' s' w' g' → v ≡ refused r
decoded-refusal (refused x) r k s w g k' s' w' g' d = cc
decoded-refusal (fine T) r k s w g k' s' w' g' d = let e = d.0 in cc

-- as many entries as the table has nodes
pub nodes-long : (v : Verdict Table) (t : Summary) (k s w g : List ℕ) (A : Accepts v t k s w g)
    → (length (kinds_of A.table) ≡ t.nodes) × (length (stops_of A.table) ≡ t.nodes) × (length (weights_of A.table) ≡ t.nodes) × (length (heights_of A.table) ≡ t.nodes)
nodes-long v t k s w g A =
    let ls = A.table.lines in
    let n : length ls ≡ t.nodes = sym (ap (λ (x : Summary). x.nodes) A.numbers) in
    (length-map ls (λ (l : Line). code l.kind) ∙ n, stops-long ls ∙ n, length-map ls (λ (l : Line). l.weight) ∙ n, length-map ls (height_of A.table.head.lowest) ∙ n)

-- ---- a number of each node, written out

-- one more entry at the front, of n that there are and that there is room for
pub put_more : {A B : Type 0} (f : A → B) (xs : List A) (a : List B) (n i : ℕ) (d : A) → i < n → n ≤ length xs → n ≤ length a
    → set (laid (map f (take i xs)) a) i (f (get_or (take n xs) i d)) ≡ laid (map f (take (i + 1) xs)) a
put_more f xs a n i d l m k =
    let e : length (map f (take i xs)) ≡ i = length-map (take i xs) f ∙ length-take-le i xs (omega arith) in
    let s : map f (take (i + 1) xs) ≡ map f (take i xs) ++ (f (get_or xs i d) ∷ []) =
    rw (add-one i, take-suc xs i d (omega arith)) (map-append f (take i xs) (get_or xs i d ∷ [])) in
    rw (get_or-take n xs i d l, s, laid_more (map f (take i xs)) a (f (get_or xs i d)) (omega arith), e)

-- all for which there is room
pub put_all : {A B : Type 0} (f : A → B) (xs : List A) (a : List B) (i : ℕ) → i ≡ min (length xs) (length a) → laid (map f (take i xs)) a ≡ fitted (map f xs) a
put_all {B = B} f xs a i e = ap (λ (ys : List B). laid ys a) (go (dec_le (length xs) (length a)) ∙ sym (take-map f (length a) xs))
  where
    go : Dec (length xs ≤ length a) → map f (take i xs) ≡ map f (take (length a) xs)
    go (yes l) = let z : i ≡ length xs = omega arith in rw (z, take_all (length xs) xs (omega arith), take_all (length a) xs l)
    go (no l) = let z : i ≡ length a = omega arith in rw z

-- what then stands there: a number of each of the table's nodes
pub column-kept : (f : Table → List ℕ) (g : Node → ℕ) (v : Verdict Table) (T : Table) (n : ℕ) (ns : List Node) (a a' : List ℕ) → v ≡ fine T → length (f T) ≡ n
    → Front (f T) (map g ns) → a' ≡ fitted (map g (take n ns)) a → a' ≡ fitted (decoded f v) a
column-kept f g v T n ns a a' e l F h =
    h ∙ ap (λ (xs : List ℕ). fitted xs a) (sym (take-map g n ns) ∙ rw (← l, F.front, e))
