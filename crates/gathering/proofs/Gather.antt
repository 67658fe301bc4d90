-- Node lines gathered, one after another.
use Rattle.std.proofs.Common.{Err, Ok}
use Prim.Native.Nat.{ℕ, zero, suc, ◌+◌, ◌-◌, ◌*◌, ◌≤◌, ◌<◌, max}
use mathlib.Core.Path.{◌≡◌, refl, sym, ap, ap₂, subst, ◌∙◌}
use mathlib.Core.Bool.{cond}
use mathlib.Core.List.{List, [], ◌∷◌, ◌++◌, map, map-append, append_assoc, append-nil}
use native.Mathlib.Omega.{arith}
use native.Mathlib.Numerals.{add-one}
use lib.ListN.{length, get_or, set, take, drop, length-append, length-map}
use lib.Seq.{drop-drop}
use Rattle.field.proofs.Small.{one-or-none}
use Rattle.line.specs.declared.Head.{Head}
use Rattle.line.specs.declared.Line.{Line}
use Rattle.line.specs.declared.Refusal.{Refusal}
use Rattle.line.specs.Refusal.{Verdict, refused, fine, next}
use Rattle.line.specs.declared.Step.{Step}
use Rattle.line.specs.Line.{is_leaf, Placed, ancestors, steps_of, entry_of, node_line}
use Rattle.line.specs.Inside.{Ranged, Sized}
use Rattle.line.proofs.Fine.{Falling, falling-more, Climbs, climbed, Read, line_read, read-sized}
use Rattle.table.specs.Table.{prefix, node_lines, greatest, leaf_lines}
use Rattle.table.specs.Slices.{laid}
use Rattle.table.proofs.Laid.{laid_more}
use Rattle.table.specs.declared.Node.{Node}
use Rattle.gathering.specs.Inside.{node_of, Gathered}

-- ---- one line more

pub greatest-more : (ls : List Line) (l : Line) → greatest (ls ++ (l ∷ [])) ≡ max (greatest ls) l.chances
unfolding greatest
greatest-more [] l = omega arith
greatest-more (k ∷ ls) l = rw (greatest-more ls l) (omega arith)

pub leaves-more : (ls : List Line) (l : Line) → leaf_lines (ls ++ (l ∷ [])) ≡ leaf_lines ls + cond (is_leaf l.kind) 1 0
unfolding leaf_lines
leaves-more [] l = omega arith
leaves-more (k ∷ ls) l = rw (leaves-more ls l) (omega arith)

pub entry_more : {A : Type 0} (f : Line → A) (ls : List Line) (l : Line) (a : List A) (i : ℕ) → length ls ≡ i → i < length a
    → set (laid (map f ls) a) i (f l) ≡ laid (map f (ls ++ (l ∷ []))) a
entry_more f ls l a i e h =
    let m : length (map f ls) ≡ i = length-map ls f ∙ e in
    rw (map-append f ls (l ∷ []), laid_more (map f ls) a (f l) (omega arith), m)

prefix-prefix : (a b : List Line) (v : Verdict (List Line)) → prefix a (prefix b v) ≡ prefix (a ++ b) v
prefix-prefix a b (refused r) = refl
prefix-prefix a b (fine ls) = rw append_assoc

module _ (h : Head) (n : ℕ) (s : List ℕ) where
  -- the lines that were read, and what is left to read
  pub record Reading (done : List Line) (i : ℕ) (P : List Step) : Type 0 where
    pub before : i ≤ n
    pub count : length done ≡ i
    pub verdict : node_lines h n 0 [] s ≡ prefix done (node_lines h (n - i) i P (drop (25 * i) s))

  pub reading-none : Reading [] 0 []
  reading-none = record { before = omega arith; count = refl; verdict = let e : n - 0 ≡ n = omega arith in rw e (go (node_lines h n 0 [] s)) }
    where
      go : (v : Verdict (List Line)) → v ≡ prefix [] v
      go (refused r) = refl
      go (fine ls) = refl

  lines-on : (m i : ℕ) (P : List Step) (t : List ℕ) → 0 < m
      → node_lines h m i P t ≡ next (node_line h i P (take 25 t)) (λ (p : Placed). prefix (p.line ∷ []) (node_lines h (m - 1) (suc i) p.steps (drop 25 t)))
  unfolding node_lines
  lines-on zero i P t l = absurd (omega arith)
  lines-on (suc m) i P t l = let e : suc m - 1 ≡ m = omega arith in rw e

  module _ (done : List Line) (i : ℕ) (P : List Step) (R : Reading done i P) (l : i < n) where
    pub reading-refused : (r : Refusal) → node_line h i P (take 25 (drop (25 * i) s)) ≡ refused r → node_lines h n 0 [] s ≡ refused r
    reading-refused r e = R.verdict ∙ rw (lines-on (n - i) i P (drop (25 * i) s) (omega arith), e)

    pub reading-more : (p : Placed) → node_line h i P (take 25 (drop (25 * i) s)) ≡ fine p → Reading (done ++ (p.line ∷ [])) (i + 1) p.steps
    reading-more p e =
        let m : n - i - 1 ≡ n - (i + 1) = omega arith in
        let a : 25 * i + 25 ≡ 25 * (i + 1) = omega arith in
        record {
          before = omega arith;
          count = length-append done (p.line ∷ []) ∙ ap (λ (k : ℕ). k + 1) R.count;
          verdict = R.verdict
              ∙ rw (lines-on (n - i) i P (drop (25 * i) s) (omega arith), e, prefix-prefix, m, drop-drop 25 (25 * i) s, a, add-one);
        }

  pub reading-done : (done : List Line) (i : ℕ) (P : List Step) → Reading done i P → n ≤ i → node_lines h n 0 [] s ≡ fine done
  unfolding node_lines
  reading-done done i P R l = let m : n - i ≡ 0 = omega (arith, R.before) in R.verdict ∙ rw (m, append-nil)

-- ---- the whole

falls-under : (i p : ℕ) (P Q : List Step) → Falling i P → Climbs P p Q → Falling i Q
falls-under i p [] Q f c = rw c.1 tt
falls-under i p (s ∷ P) Q f c = let C = climbed p i (s ∷ P) Q f c in falling-more (suc p) i Q C.below C.falls

module _ (h : Head) (n : ℕ) (s : List ℕ) (ns₀ : List Node) (u₀ : List ℕ) where
  -- the state of the reading before node i: the nodes and the parents as they were lent (ns₀ and u₀) and as they are
  pub record Gathering (ns : List Node) (u : List ℕ) (P : List Step) (most leaves i : ℕ) : Type 0 where
    pub done : List Line
    pub reading : Reading h n s done i P
    pub falls : Falling i P
    pub nodes : ns ≡ laid (map (node_of h.lowest) done) ns₀
    pub ups : u ≡ laid (map (λ (l : Line). l.parent) done) u₀
    pub most-is : most ≡ greatest done
    pub leaves-is : leaves ≡ leaf_lines done
    pub few : leaves ≤ i

  pub gathering-none : Gathering ns₀ u₀ [] 0 0 0
  unfolding greatest leaf_lines
  gathering-none =
      record {
        done = [];
        reading = reading-none h n s;
        falls = tt;
        nodes = refl;
        ups = refl;
        most-is = refl;
        leaves-is = refl;
        few = omega arith;
      }

  module _ (ns : List Node) (u : List ℕ) (P : List Step) (most leaves i : ℕ) (G : Gathering ns u P most leaves i) (n-small : n ≤ 1024) (R : Ranged h) (i<n : i < n)
      (l : Line) (S : List Step) (e : node_line h i P (take 25 (drop (25 * i) s)) ≡ fine (record { line = l; steps = S })) where
    abbrev entry : List ℕ
    entry = take 25 (drop (25 * i) s)

    abbrev here : Placed
    here = record { line = l; steps = S }

    abbrev Q : List Step
    Q = steps_of (ancestors (entry_of entry).parent P)

    said : Read h i P Q here
    said = line_read h i (entry_of entry) (get_or entry 4 0) (get_or entry 24 0) P here e

    pub sized-here : Sized l
    sized-here = read-sized h i P Q here R (falling-more i 1024 P (omega arith) G.falls) said

    pub gathering-more : 1024 ≤ length ns₀ → 1024 ≤ length u₀
        → Gathering (set ns i (node_of h.lowest l)) (set u i l.parent) S (max most l.chances) (leaves + cond (is_leaf l.kind) 1 0) (i + 1)
    gathering-more long-ns long-u =
        let D = G.done in
        let C = G.reading.count in
        record {
          done = D ++ (l ∷ []);
          reading = reading-more h n s D i P G.reading i<n here e;
          falls = subst (Falling (i + 1)) (sym said.steps) (omega arith, falls-under i l.parent P Q G.falls said.climbs);
          nodes = ap (λ (a : List Node). set a i (node_of h.lowest l)) G.nodes ∙ entry_more (node_of h.lowest) D l ns₀ i C (omega arith);
          ups = ap (λ (a : List ℕ). set a i l.parent) G.ups ∙ entry_more (λ (l : Line). l.parent) D l u₀ i C (omega arith);
          most-is = ap (λ (m : ℕ). max m l.chances) G.most-is ∙ sym (greatest-more D l);
          leaves-is = ap (λ (m : ℕ). m + cond (is_leaf l.kind) 1 0) G.leaves-is ∙ sym (leaves-more D l);
          few = omega (arith, G.few, one-or-none (is_leaf l.kind));
        }

  pub gathered-refused : (r : Refusal) (ns : List Node) (u : List ℕ) → node_lines h n 0 [] s ≡ refused r
      → Gathered h.lowest (node_lines h n 0 [] s) (Err r) ns₀ u₀ ns u
  gathered-refused r ns u e = rw e refl

  pub gathered-done : (ns : List Node) (u : List ℕ) (P : List Step) (most leaves i : ℕ) → Gathering ns u P most leaves i → n ≤ i
      → Gathered h.lowest (node_lines h n 0 [] s) (Ok (record { chances = most; leaves = leaves })) ns₀ u₀ ns u
  gathered-done ns u P most leaves i G l =
      rw (reading-done h n s G.done i P G.reading l) (ap₂ (λ (a b : ℕ). Ok (record { chances = a; leaves = b })) G.most-is G.leaves-is, G.nodes, G.ups)
