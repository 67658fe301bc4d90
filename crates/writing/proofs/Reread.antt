-- A table is accepted exactly where its header and its forest keep the rules of document 01, 'The table on paper': such a table is read back from its
-- blank-padded text, and every accepted one is such a table.
use Prim.Native.Nat.{ℕ, zero, suc, ◌+◌, ◌-◌, ◌*◌, ◌/◌, ◌%◌, ◌≤◌, ◌<◌}
use mathlib.Core.Path.{◌≡◌, refl, sym, ap, ap₂, subst, ◌∙◌}
use mathlib.Core.Bool.{Bool, true, false, not, ◌&&◌, cond}
use mathlib.Core.List.{List, [], ◌∷◌, ◌++◌, append_assoc}
use native.Mathlib.Omega.{arith}
use native.Mathlib.Nat.{le_trans, add-zero}
use borrow.Author.Tests.{eq-eqb, ne_eqb, le-ltb}
use lib.Dec.{eqb, ltb, eqb-suc-zero}
use lib.ListN.{length, get_or, drop, length-append}
use lib.Seq.{take_at, drop_at}
use lib.IntN.{ℤ, pos}
use Rattle.field.specs.declared.Field.{Field}
use Rattle.field.specs.declared.Field.TheVariants.{Blank, Number}
use Rattle.std.specs.Prelude.{Option, Some}
use Rattle.line.specs.declared.Head.{Head}
use Rattle.line.specs.declared.Kind.{Kind as LineKind}
use Rattle.line.specs.declared.Kind.TheVariants.{Leaf}
use Rattle.line.specs.declared.Step.{Step}
use Rattle.line.specs.declared.Line.{Line}
use Rattle.line.specs.declared.Entry.{Entry}
use Rattle.line.specs.Refusal.{Verdict, fine, next, unless, unless_at}
use Rattle.line.specs.Line.{Placed, is_blank, outside, value_of, count_of, header, header_for, heading_of, totals, among, larger, code, is_leaf, Above, path, climb, ancestors, chances_of, at_chance, deep, stepped, placed, early_checks, late_checks, place_of, node_line, Within}
use Rattle.line.specs.Inside.{Ranged, Weighs}
use Rattle.line.proofs.Fine.{larger-small, weighs-small, Valued}
use Rattle.table.specs.Tree.{Kind, MAX, MIN, CHANCE, Forest, end, leaf, inner, line_kind, is_chance, weigh, nodes_where, childless, unbalanced, grain_of}
use Rattle.table.specs.Table.{Table, bad_length, prefix, node_lines, tree, complete, count, read_text}
use Rattle.table.specs.Accepted.{flat, one, Filled, Balanced, Proper, Rooted}
use Rattle.table.specs.Padding.{SameText}
use Rattle.table.proofs.Runs.{size, Numbered, flat-length, code-inner, code-chance, regrow-root}
use Rattle.table.proofs.Known.{read-numbered}
use Rattle.table.proofs.Accepted.{Checked, checked, accepted-ranged, accepted-size, accepted-few, accepted-flat, accepted-rooted, accepted-proper, accepted-filled, accepted-balanced, accepted-grain}
use Rattle.writing.specs.Text.{header_text, line_text, lines_text, table_text}
use Rattle.writing.specs.Inside.{entry_for, Short}
use Rattle.writing.proofs.Said.{heading_for, utility-short}
use Rattle.writing.proofs.Padding.{accepted-same}
use Rattle.writing.proofs.Again.{head-again, line-again}
use Rattle.writing.proofs.Checks.{unless-passed, header-passes, entry-well, kind-back, placing}

-- ---- one line

weight-filled : (u : Bool) (T w : ℕ) → Weighs u T w
    → let f : Field = cond (eqb w 0) Blank (Number (pos w)) in
    (cond u (is_blank f) (not (is_blank f)) ≡ false) × (outside (pos 1) (pos T) f ≡ false) × (count_of f ≡ w)
weight-filled true T zero W = absurd (omega arith)
weight-filled true T (suc w) W = rw (eqb-suc-zero w) (refl, rw (le-ltb (suc w) 1 (omega arith), le-ltb T (suc w) W.1), refl)
weight-filled false T w W = rw W (refl, refl, refl)

utility-filled : (u : Bool) (h : Head) (v : ℤ) → Valued u h v
    → let f : Field = cond u (Number v) Blank in
    (cond u (is_blank f) (not (is_blank f)) ≡ false) × (outside h.lowest h.highest f ≡ false) × (value_of f ≡ v)
utility-filled true h v x = (refl, rw x.0 x.1, refl)
utility-filled false h v x = (refl, refl, sym x)

some-eqb : (i p : ℕ) → p < i → eqb i 0 ≡ false
some-eqb i p h = ne_eqb i 0 (λ e. omega arith)

even : (k : Kind) (b : Bool) → (is_chance k ≡ true → b ≡ true) → (is_chance k && not b) ≡ false
even MAX b s = refl
even MIN b s = refl
even CHANCE b s = ap not (s refl)

-- node i of the kind k below the steps P, where they are found from the steps R of the line before it
module _ (h : Head) (i : ℕ) (k : LineKind) (p w : ℕ) (v : ℤ) (c : ℕ) (R P : List Step) where
  abbrev line : Line
  line = record { node = i; kind = k; parent = p; weight = w; utility = v; chances = c }

  abbrev here : Step
  here = record { node = i; kind = k; chances = c }

  record Keeps : Type 0 where
    above : ancestors (entry_for line).parent R ≡ path P
    parent : count_of (entry_for line).parent ≡ p
    near : p ≤ i
    few : i < 1024
    chances : chances_of P + cond (eqb (code k) 3) 1 0 ≡ c
    rare : c ≤ 4
    short : length P < 64
    weight : Weighs (at_chance P) (larger h) w
    utility : Valued (is_leaf k) h v

  module _ (ranged : Ranged h) (K : Keeps) where
    line-short : Short line
    line-short =
        record {
          node = omega (arith, K.few);
          parent = omega (arith, K.few, K.near);
          weight = omega (arith, weighs-small (at_chance P) (larger h) w K.weight, larger-small h ranged);
          utility = utility-short h (is_leaf k) v ranged K.utility;
        }

    place_kept : place_of h i (entry_for line) 32 10 R ≡ fine (record { line = line; steps = here ∷ P })
    place_kept =
        let e : Entry = entry_for line in
        let W = weight-filled (at_chance P) (larger h) w K.weight in
        let U = utility-filled (is_leaf k) h v K.utility in
        let far : deep (stepped i k P) ≡ false = rw (le-ltb 64 (suc (length P)) K.short, K.chances) (le-ltb 4 c K.rare) in
        ap₂ (λ (o : Option LineKind) (a : Above). placing h i o a e) (kind-back k) K.above
        ∙ unless-passed (early_checks i (Some k) (path P) e 32 10 ++ late_checks h i k e P) (placed i k e (stepped i k P))
        (entry-well line, (ap not (eq-eqb i i refl), (refl, (refl, (far, (rw W.0 U.0, (rw W.1 U.1, tt)))))))
        ∙ ap fine (λ j. record {
          line = record { node = i; kind = k; parent = K.parent j; weight = W.2 j; utility = U.2 j; chances = K.chances j };
          steps = record { node = i; kind = k; chances = K.chances j } ∷ P;
        })

    line_kept : node_line h i R (line_text line) ≡ fine (record { line = line; steps = here ∷ P })
    line_kept = let A = line-again line line-short in (λ j. place_of h i (A.0 j) (A.1 j) (A.2 j) R) ∙ place_kept

    line-long : length (line_text line) ≡ 25
    line-long = (line-again line line-short).3

-- ---- the path

-- the steps R go on from the steps P, down to nodes from b on
data Reach (b : ℕ) (P : List Step) : List Step → Type 0 where
  there : Reach b P P
  below : {s : Step} {R : List Step} → b ≤ s.node → Reach b P R → Reach b P (s ∷ R)

reach-climb : (s : Step) (Q R : List Step) → is_leaf s.kind ≡ false → Reach (suc s.node) (s ∷ Q) R → climb s.node R ≡ path (s ∷ Q)
unfolding climb
reach-climb s Q _ o there = rw (eq-eqb s.node s.node refl, o)
reach-climb s Q _ o (below {s = t} {R = R} h r) = rw (ne_eqb t.node s.node (λ e. omega arith)) (reach-climb s Q R o r)

reach-above : (s : Step) (Q R : List Step) → is_leaf s.kind ≡ false → Reach (suc s.node) (s ∷ Q) R → ancestors (Number (pos s.node)) R ≡ path (s ∷ Q)
reach-above s Q _ o there = reach-climb s Q (s ∷ Q) o there
reach-above s Q _ o (below {s = t} {R = R} h r) = reach-climb s Q (t ∷ R) o (below h r)

reach-up : (b c : ℕ) (t : Step) (P R : List Step) → b ≤ t.node → b ≤ c → Reach c (t ∷ P) R → Reach b P R
reach-up b c t P _ h g there = below h there
reach-up b c t P _ h g (below {R = R} x r) = below (le_trans g x) (reach-up b c t P R h g r)

-- ---- lines one after another

module _ (h : Head) (ranged : Ranged h) where
  -- these lines are read, from node i on, where R are the steps of the line before them
  record Good (i : ℕ) (R : List Step) (ls : List Line) : Type 0 where
    lines : node_lines h (length ls) i R (lines_text ls) ≡ fine ls
    long : length (lines_text ls) ≡ 25 * length ls

  good_none : (i : ℕ) (R : List Step) → Good i R []
  unfolding node_lines lines_text
  good_none i R = record { lines = refl; long = refl }

  -- a line, and then the lines behind it
  lines-step : (i n : ℕ) (R S : List Step) (l : Line) (ls : List Line) (x y : List ℕ) → length x ≡ 25 → node_line h i R x ≡ fine (record { line = l; steps = S })
      → node_lines h n (suc i) S y ≡ fine ls → node_lines h (suc n) i R (x ++ y) ≡ fine (l ∷ ls)
  unfolding node_lines
  lines-step i n R S l ls x y w e g =
      ap (λ (s : List ℕ). next (node_line h i R s) (λ (p : Placed). prefix (p.line ∷ []) (node_lines h n (suc i) p.steps (drop 25 (x ++ y))))) (take_at x y 25 w)
      ∙ ap (λ (s : List ℕ). next (node_line h i R x) (λ (p : Placed). prefix (p.line ∷ []) (node_lines h n (suc i) p.steps s))) (drop_at x y 25 w)
      ∙ ap (λ (v : Verdict Placed). next v (λ (p : Placed). prefix (p.line ∷ []) (node_lines h n (suc i) p.steps y))) e
      ∙ ap (prefix (l ∷ [])) g

  good_more : (i : ℕ) (R S : List Step) (l : Line) (ls : List Line) → length (line_text l) ≡ 25 → node_line h i R (line_text l) ≡ fine (record { line = l; steps = S })
      → Good (suc i) S ls → Good i R (l ∷ ls)
  unfolding lines_text
  good_more i R S l ls w e g =
      record {
        lines = lines-step i (length ls) R S l ls (line_text l) (lines_text ls) w e g.lines;
        long = length-append (line_text l) (lines_text ls) ∙ omega (arith, w, g.long);
      }

  good-line : (i : ℕ) (k : LineKind) (p w : ℕ) (v : ℤ) (c : ℕ) (R P : List Step) (ls : List Line) → Keeps h i k p w v c R P
      → Good (suc i) (record { node = i; kind = k; chances = c } ∷ P) ls → Good i R (record { node = i; kind = k; parent = p; weight = w; utility = v; chances = c } ∷ ls)
  good-line i k p w v c R P ls K g =
      good_more i R (record { node = i; kind = k; chances = c } ∷ P) (line h i k p w v c R P) ls (line-long h i k p w v c R P ranged K) (line_kept h i k p w v c R P ranged K) g

  -- the nodes T below the last step of s ∷ Q, then other lines
  forest-read : (i : ℕ) (s : Step) (Q R : List Step) (T : Forest ℤ) (rest : List Line)
      → is_leaf s.kind ≡ false → s.node < i → i + size T ≤ 1024 → Numbered i T
      → Proper (larger h) 4 (Within h) (suc (length Q)) s.chances (eqb (code s.kind) 3) T
      → Reach (suc s.node) (s ∷ Q) R
      → ((S : List Step) → Reach (suc s.node) (s ∷ Q) S → Good (i + size T) S rest)
      → Good i R (flat s.node s.chances T ++ rest)
  unfolding flat
  forest-read i s Q R end rest o l f N X r g = subst (λ (n : ℕ). Good n R rest) (add-zero i) (g R r)
  forest-read i s Q R (leaf n w v T) rest o l f N X r g =
      let S : List Step = record { node = i; kind = Leaf; chances = s.chances } ∷ s ∷ Q in
      let K : Keeps h i Leaf s.node w v s.chances R (s ∷ Q) =
      record {
        above = rw (some-eqb i s.node l) (reach-above s Q R o r);
        parent = rw (some-eqb i s.node l);
        near = omega arith;
        few = omega arith;
        chances = add-zero s.chances;
        rare = X.3;
        short = X.2;
        weight = X.0;
        utility = X.1;
      } in
      rw N.0 (good-line i Leaf s.node w v s.chances R (s ∷ Q) (flat s.node s.chances T ++ rest) K
      (forest-read (suc i) s Q S T rest o (omega arith) (omega arith) N.1 X.4 (below l there)
      (λ Z q. subst (λ (n : ℕ). Good n Z rest) (omega arith) (g Z q))))
  forest-read i s Q R (inner n w k U T) rest o l f N X r g =
      let c : ℕ = s.chances + one k in
      let t : Step = record { node = i; kind = line_kind k; chances = c } in
      let K : Keeps h i (line_kind k) s.node w (pos 0) c R (s ∷ Q) =
      record {
        above = rw (some-eqb i s.node l) (reach-above s Q R o r);
        parent = rw (some-eqb i s.node l);
        near = omega arith;
        few = omega arith;
        chances = rw (code-chance k);
        rare = X.2;
        short = X.1;
        weight = X.0;
        utility = rw (code-inner k);
      } in
      let more : List Line = flat s.node s.chances T ++ rest in
      rw (N.0, append_assoc (flat i c U) (flat s.node s.chances T) rest) (good-line i (line_kind k) s.node w (pos 0) c R (s ∷ Q) (flat i c U ++ more) K
      (forest-read (suc i) t (s ∷ Q) (t ∷ s ∷ Q) U more (code-inner k) (omega arith) (omega arith) N.1 (rw (code-chance k) X.3) there
      (λ Y p. forest-read (suc i + size U) s Q Y T rest o (omega arith) (omega arith) N.2 X.4 (reach-up (suc s.node) (suc i) t (s ∷ Q) Y l (omega arith) p)
      (λ Z q. subst (λ (n : ℕ). Good n Z rest) (omega arith) (g Z q)))))

  root-read : (T : Forest ℤ) → Rooted T → Numbered 0 T → Proper (larger h) 4 (Within h) 0 0 false T → size T ≤ 1024 → Good 0 [] (flat 0 0 T)
  unfolding flat
  root-read end r N X f = absurd r
  root-read (leaf n w v T) r N X f =
      let K : Keeps h 0 Leaf 0 w v 0 [] [] =
      record { above = refl; parent = refl; near = omega arith; few = omega arith; chances = refl; rare = omega arith; short = omega arith; weight = X.0; utility = X.1 } in
      rw (r.0, r.2) (good-line 0 Leaf 0 w v 0 [] [] [] K (good_none 1 (record { node = 0; kind = Leaf; chances = 0 } ∷ [])))
  root-read (inner n w k U T) r N X f =
      let c : ℕ = 0 + one k in
      let t : Step = record { node = 0; kind = line_kind k; chances = c } in
      let K : Keeps h 0 (line_kind k) 0 w (pos 0) c [] [] =
      record { above = refl; parent = refl; near = omega arith; few = omega arith; chances = rw (code-chance k); rare = X.2; short = omega arith; weight = X.0; utility = rw (code-inner k) } in
      rw (r.0, r.2) (good-line 0 (line_kind k) 0 w (pos 0) c [] [] (flat 0 c U ++ []) K
      (forest-read 1 t [] (t ∷ []) U [] (code-inner k) (omega arith) (omega arith) N.1 (rw (code-chance k) X.3) there (λ S q. good_none (1 + size U) S)))

-- ---- nodes with a child, and sums

module _ {A : Type 0} where
  no-childless : (F : Forest A) → Filled F → childless F ≡ []
  unfolding nodes_where
  no-childless end x = refl
  no-childless (leaf n w v rest) x = no-childless rest x
  no-childless (inner n w k U rest) x = rw (x.0, no-childless U x.1, no-childless rest x.2)

  no-unbalanced : (ts : List ℕ) (F : Forest A) → Balanced ts F → unbalanced ts F ≡ []
  unfolding nodes_where
  no-unbalanced ts end x = refl
  no-unbalanced ts (leaf n w v rest) x = no-unbalanced ts rest x
  no-unbalanced ts (inner n w k U rest) x = rw (even k (among (weigh U) ts) x.0, no-unbalanced ts U x.1, no-unbalanced ts rest x.2)

-- ---- the table

read_of : (s : List ℕ) (t : Table) → Checked s t → read_text s ≡ fine t
unfolding read_text complete unless unless_at
read_of s t C = rw (C.long, C.head, C.lines, C.no-childless, C.no-unbalanced, C.few-grains)

-- the rules: a header in range, and a numbered, rooted, filled, balanced, proper forest of at most 1,024 nodes, and by Item 5 of at most 16,777,216 grains
pub record Sound (h : Head) (F : Forest ℤ) : Type 0 where
  pub ranged : Ranged h
  pub numbered : Numbered 0 F
  pub rooted : Rooted F
  pub filled : Filled F
  pub balanced : Balanced (totals h) F
  pub proper : Proper (larger h) 4 (Within h) 0 0 false F
  pub few : size F ≤ 1024
  pub grains : grain_of (totals h) F ≤ 16777216

abbrev pub table_of : Head → Forest ℤ → Table
table_of h F = record { head = h; lines = flat 0 0 F }

rooted-some : (F : Forest ℤ) → Rooted F → 0 < size F
rooted-some end r = absurd r
rooted-some (leaf n w v rest) r = omega arith
rooted-some (inner n w k U rest) r = omega arith

good-multiple : (n : ℕ) → 0 < n → n ≤ 1024 → bad_length (25 * n + 25) ≡ false
good-multiple n p f =
    rw (
      eq-eqb ((25 * n + 25) % 25) 0 (omega arith),
      le-ltb (25 * n + 25) 50 (omega arith),
      le-ltb 25625 (25 * n + 25) (omega arith),
    )

module _ (h : Head) (F : Forest ℤ) (S : Sound h F) where
  abbrev t : Table
  t = table_of h F

  abbrev n : ℕ
  n = length t.lines

  n-is : n ≡ size F
  n-is = flat-length 0 0 F

  abbrev top : List ℕ
  top = header_text h n

  top_again : (heading_of top ≡ heading_for h n) × (get_or top 24 0 ≡ 10) × (length top ≡ 25)
  top_again = head-again h n S.ranged (omega (arith, n-is, S.few))

  lines-again : Good h S.ranged 0 [] t.lines
  lines-again = root-read h S.ranged F S.rooted S.numbered S.proper S.few

  pub text-length : length (table_text t) ≡ 25 * n + 25
  text-length = length-append top (lines_text t.lines) ∙ omega (arith, top_again.2, lines-again.long)

  counted : count (table_text t) ≡ n
  counted = ap (λ (m : ℕ). m / 25 - 1) text-length ∙ omega arith

  pub again-tree : tree t ≡ F
  again-tree = regrow-root n F S.numbered S.rooted (omega (arith, n-is))

  pub read_back : read_text (table_text t) ≡ fine t
  read_back =
      let drop-top = drop_at top (lines_text t.lines) 25 top_again.2 in
      read_of (table_text t) t (record {
        long = ap bad_length text-length ∙ good-multiple n (omega (arith, n-is, rooted-some F S.rooted)) (omega (arith, n-is, S.few));
        head = ap₂ header counted (take_at top (lines_text t.lines) 25 top_again.2)
            ∙ (λ j. header_for n (top_again.1 j) (top_again.0 j))
            ∙ header-passes n h S.ranged;
        lines = ap₂ (λ (m : ℕ) (r : List ℕ). node_lines h m 0 [] r) counted drop-top ∙ lines-again.lines;
        no-childless = ap childless again-tree ∙ no-childless F S.filled;
        no-unbalanced = ap (unbalanced (totals h)) again-tree ∙ no-unbalanced (totals h) F S.balanced;
        few-grains = ap (λ (f : Forest ℤ). ltb 16777216 (grain_of (totals h) f)) again-tree ∙ le-ltb 16777216 (grain_of (totals h) F) S.grains;
      })

-- ---- an accepted table

-- more C may stand on a path
proper-more : {A : Type 0} (T K L : ℕ) (ok : A → Type 0) → K ≤ L → (d c : ℕ) (u : Bool) (F : Forest A) → Proper T K ok d c u F → Proper T L ok d c u F
proper-more T K L ok h d c u end x = tt
proper-more T K L ok h d c u (leaf n w v rest) x = (x.0, x.1, x.2, le_trans x.3 h, proper-more T K L ok h d c u rest x.4)
proper-more T K L ok h d c u (inner n w k U rest) x =
    (x.0, x.1, le_trans x.2 h, proper-more T K L ok h (suc d) (c + one k) (is_chance k) U x.3, proper-more T K L ok h d c u rest x.4)

module _ (s : List ℕ) (t : Table) (e : read_text s ≡ fine t) where
  some-lines : 0 < count s
  some-lines = let z = accepted-size s t e in let n : ℕ = length t.lines in rw z.2 (omega (arith, z.0))

  pub accepted-sound : Sound t.head (tree t)
  accepted-sound =
      let C = checked s t e in
      record {
        ranged = accepted-ranged s t e;
        numbered = read-numbered t (count s) _ C.lines some-lines;
        rooted = accepted-rooted s t e;
        filled = accepted-filled s t e;
        balanced = accepted-balanced s t e;
        proper = proper-more (larger t.head) _ 4 (Within t.head) (accepted-few s t e) 0 0 false (tree t) (accepted-proper s t e);
        few = omega (arith, sym (flat-length 0 0 (tree t)) ∙ ap length (accepted-flat s t e), (accepted-size s t e).1);
        grains = accepted-grain s t e;
      }

  pub accepted-own : table_of t.head (tree t) ≡ t
  accepted-own = ap (λ (ls : List Line). record { head = t.head; lines = ls }) (accepted-flat s t e)

  pub blank-length : length (table_text t) ≡ length s
  blank-length =
      subst (λ (x : Table). length (table_text x) ≡ 25 * length x.lines + 25) accepted-own (text-length t.head (tree t) accepted-sound) ∙ sym (accepted-size s t e).2

  pub blank-accepted : read_text (table_text t) ≡ fine t
  blank-accepted = subst (λ (x : Table). read_text (table_text x) ≡ fine x) accepted-own (read_back t.head (tree t) accepted-sound)

  -- "the blank-padded text of the same table"
  pub blank-same : SameText s (table_text t)
  blank-same = accepted-same s (table_text t) t e blank-accepted
