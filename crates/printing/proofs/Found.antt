-- What the search's answer tells of its table: the numbers fit their columns, and the play has its line.
use Rattle.std.proofs.Common.{Err, Ok}
use Prim.Native.Nat.{ℕ, ◌^◌, ◌≤◌, ◌<◌}
use mathlib.Core.Path.{◌≡◌, refl, sym, ap, ap₂, subst, ◌∙◌}
use mathlib.Core.Bool.{Bool, true, false, cond}
use mathlib.Core.List.{List, [], ◌∷◌, ◌++◌, map}
use mathlib.Core.Option.{Option, none, some}
use native.Mathlib.Nat.{le_trans}
use native.Mathlib.Omega.{arith}
use lib.Dec.{ltb}
use lib.ListN.{length, take, drop}
use lib.Seq.{take-append_seam}
use lib.IntN.{ℤ, pos, nat_abs, ◌+ℤ◌, ◌*ℤ◌}
use Rattle.field.proofs.Bits.{mag-abs, abs_mag}
use Rattle.line.specs.declared.Refusal.{Refusal}
use Rattle.line.specs.declared.Refusal.TheVariants.{NoRoom, BadMargin}
use Rattle.line.specs.Refusal.{Verdict, refused, fine, unless, line_of}
use Rattle.line.specs.Line.{to_nat}
use Rattle.line.proofs.Fine.{unless-fine}
use Rattle.table.specs.Tree.{leaves}
use Rattle.table.specs.Table.{Table, read_text, tree, grain}
use Rattle.table.specs.Slices.{laid}
use Rattle.table.specs.Root.{children, nodes, numbered, play_of}
use Rattle.table.proofs.Places.{refused-line}
use Rattle.table.proofs.Accepted.{accepted-ranged, accepted-size, accepted-grain, accepted-leaves, accepted-leaf-lines}
use Rattle.table.proofs.Ends.{span-grains}
use Rattle.scale.proofs.Sums.{few-digits}
use Rattle.search.specs.Search.{Seen, unlimited, node_of}
use Rattle.search.specs.Whole.{searched}
use Rattle.search.proofs.Table.{heights-order, shifted, play-small, reads-few}
use Rattle.search_call.specs.declared.Bounds.{Bounds}
use Rattle.search_call.specs.Call.{bad_margin, Sought, sought, bounds_of, search_answer, search_list}
use Rattle.printing.specs.Program.{play_number, leaf_row, rows_of}
use Rattle.printing.specs.Inside.{Lined, play_marks, Narrow, bound_rows}
use Rattle.printing.proofs.Marks.{marks-few}
use Rattle.printing.proofs.Children.{child-place, child-numbered}

-- ---- from the answer to the search

answer-refused : (v : Verdict Sought) (r : Refusal) → Err r ≡ search_answer v → v ≡ refused r
answer-refused (refused x) r e = cc
answer-refused (fine s) r e = let z : ◌≡◌ {A = ℕ} 0 1 = cc in absurd (omega arith)

answer-found : (v : Verdict Sought) (b : Bounds) → Ok b ≡ search_answer v → (s : Sought) × (v ≡ fine s) × (bounds_of s ≡ b)
answer-found (refused x) b e = let z : ◌≡◌ {A = ℕ} 0 1 = cc in absurd (omega arith)
answer-found (fine s) b e = (s, refl, cc)

-- a search that was made: of an accepted table
sought-made : (v : Verdict Table) (m : ℤ) (room : ℕ) (s : Sought) → sought v m room ≡ fine s
    → (v ≡ fine s.table) × (searched s.table (to_nat m) ≡ s.seen)
sought-made (refused x) m room s e = let z : ◌≡◌ {A = ℕ} 0 1 = cc in absurd (omega arith)
sought-made (fine t) m room s e =
    let made : Sought = record { table = t; seen = searched t (to_nat m) } in
    let q : made ≡ s = (unless-fine (record { holds = bad_margin m; gives = BadMargin } ∷ record { holds = ltb room (leaves (tree t)); gives = NoRoom } ∷ []) made s e).1 in
    (ap (λ (x : Sought). fine x.table) q, ap (λ (x : Sought). searched x.table (to_nat m)) (sym q) ∙ ap (λ (x : Sought). x.seen) q)

-- a refusal's line, also where the search refuses
own_line : (a b : Bool) (x : Sought) (r : Refusal) → cond a (refused BadMargin) (cond b (refused NoRoom) (fine x)) ≡ refused r → line_of r ≤ 1024
own_line true b x r e = let q : BadMargin ≡ r = cc in omega (arith, ap line_of q)
own_line false true x r e = let q : NoRoom ≡ r = cc in omega (arith, ap line_of q)
own_line false false x r e = let z : ◌≡◌ {A = ℕ} 0 1 = cc in absurd (omega arith)

refused-by : (v : Verdict Table) (m : ℤ) (room : ℕ) (r : Refusal) → ((x : Refusal) → v ≡ refused x → line_of x ≤ 1024) → sought v m room ≡ refused r → line_of r ≤ 1024
unfolding unless
refused-by (refused x) m room r f e = let q : x ≡ r = cc in subst (λ (y : Refusal). line_of y ≤ 1024) q (f x refl)
refused-by (fine t) m room r f e = own_line (bad_margin m) (ltb room (leaves (tree t))) (record { table = t; seen = searched t (to_nat m) }) r e

pub refused-low : (s : List ℕ) (m : ℤ) (room : ℕ) (r : Refusal) → Err r ≡ search_answer (sought (read_text s) m room) → line_of r ≤ 1024
refused-low s m room r e = refused-by (read_text s) m room r (refused-line s) (answer-refused (sought (read_text s) m room) r e)

-- ---- the numbers

module _ (text : List ℕ) (t : Table) (h : read_text text ≡ fine t) (ε : ℕ) where
  abbrev seen : Seen ℤ
  seen = searched t ε

  grains-narrow : (x : ℕ) → x ≤ 35184372088832 → nat_abs (t.head.lowest *ℤ pos (grain t) +ℤ pos x) < 10 ^ 14
  grains-narrow x l =
      let z : ℤ = t.head.lowest in
      let d = few-digits z (grain t) x (le_trans (mag-abs z) (accepted-ranged text t h).lowest) (accepted-grain text t h) l in
      omega (arith, d, abs_mag (z *ℤ pos (grain t) +ℤ pos x))

  low_narrow : nat_abs seen.low < 10 ^ 14
  low_narrow = rw (shifted text t h ε unlimited).0 (grains-narrow _ (omega (arith, heights-order text t h ε unlimited, span-grains text t h)))

  high-narrow : nat_abs seen.high < 10 ^ 14
  high-narrow = rw (shifted text t h ε unlimited).1 (grains-narrow _ (omega (arith, (heights-order text t h ε unlimited).1, span-grains text t h)))

  reads-low : length seen.read ≤ 1024
  reads-low = omega (arith, reads-few text t h ε unlimited, accepted-leaves text t h, accepted-leaf-lines text t h, (accepted-size text t h).1)

  -- ---- the play

  play-lined : (p : Option ℕ) → node_of seen.play ≡ p → Lined (length text) (play_of p)
  play-lined none e = tt
  play-lined (some n) e =
      let z = accepted-size text t h in
      let l = play-small text t h ε unlimited n e in
      (omega (arith, z.2, l), omega (arith, z.1, l))

  marks-low : (p : Option ℕ) → node_of seen.play ≡ p → play_marks text (play_of p) ≤ 1024
  marks-low none e = omega arith
  marks-low (some n) e = omega (arith, marks-few (drop 25 text) n, (play-lined (some n) e).1)

  play-marked : (p : Option ℕ) → node_of seen.play ≡ p → play_marks text (play_of p) ≡ play_number p (nodes (children (tree t)))
  play-marked none e = refl
  play-marked (some n) e =
      child-place text t h ε n e (play-small text t h ε unlimited n e)

  -- the printed number, at an M or N root, is that by which the play can be judged
  pub play-numbered : (n : ℕ) → node_of seen.play ≡ some n → numbered (pos (play_number (some n) (nodes (children (tree t))))) (nodes (children (tree t))) ≡ some n
  play-numbered n e = child-numbered text t h ε n e

-- ---- as the call has it: the search s of the text at the margin m

module _ (text : List ℕ) (m : ℤ) (room : ℕ) (s : Sought) (made : sought (read_text text) m room ≡ fine s) where
  accepted : read_text text ≡ fine s.table
  accepted = (sought-made (read_text text) m room s made).0

  found : searched s.table (to_nat m) ≡ s.seen
  found = (sought-made (read_text text) m room s made).1

  lined : Lined (length text) (bounds_of s).play
  lined = play-lined text s.table accepted (to_nat m) (node_of s.seen.play) (ap (λ (x : Seen ℤ). node_of x.play) found)

  pub narrow : (k : ℕ) → k ≡ play_marks text (bounds_of s).play → Narrow (bounds_of s) k
  narrow k e =
      let low = low_narrow text s.table accepted (to_nat m) in
      let high = high-narrow text s.table accepted (to_nat m) in
      let few = reads-low text s.table accepted (to_nat m) in
      let marks = marks-low text s.table accepted (to_nat m) (node_of s.seen.play) (ap (λ (x : Seen ℤ). node_of x.play) found) in
      record {
        low = subst (λ (x : Seen ℤ). nat_abs x.low < 10 ^ 14) found low;
        high = subst (λ (x : Seen ℤ). nat_abs x.high < 10 ^ 14) found high;
        grain = omega (arith, accepted-grain text s.table accepted);
        number = omega (arith, e, marks);
        leaves = subst (λ (x : Seen ℤ). length x.read ≤ 1024) found few;
      }

  -- the rows that are printed
  pub rows : (k : ℕ) → k ≡ play_marks text (bounds_of s).play → (a : List ℕ)
      → bound_rows (bounds_of s) k ++ map leaf_row (take (length s.seen.read) (laid s.seen.read a)) ≡ rows_of (fine s)
  rows k e a =
      let number = e ∙ play-marked text s.table accepted (to_nat m) (node_of s.seen.play) (ap (λ (x : Seen ℤ). node_of x.play) found) in
      ap₂ (λ (n : ℕ) (l : List ℕ). bound_rows (bounds_of s) n ++ map leaf_row l) number (take-append_seam s.seen.read (drop (length s.seen.read) a))

-- ---- as the call answers it: the bounds b

module _ (text : List ℕ) (m : ℤ) (room : ℕ) (b : Bounds) (e : Ok b ≡ search_answer (sought (read_text text) m room)) where
  answered : (s : Sought) × (sought (read_text text) m room ≡ fine s) × (bounds_of s ≡ b)
  answered = answer-found (sought (read_text text) m room) b e

  pub found_lined : Lined (length text) b.play
  found_lined = let (s, made, same) = answered in subst (λ (x : Bounds). Lined (length text) x.play) same (lined text m room s made)

  pub found-narrow : (k : ℕ) → k ≡ play_marks text b.play → Narrow b k
  found-narrow k n =
      let (s, made, same) = answered in
      subst (λ (x : Bounds). Narrow x k) same (narrow text m room s made k (n ∙ ap (λ (x : Bounds). play_marks text x.play) (sym same)))

  pub found-rows : (k : ℕ) → k ≡ play_marks text b.play → (a : List ℕ)
      → bound_rows b k ++ map leaf_row (take b.leaves (laid (search_list (sought (read_text text) m room)) a)) ≡ rows_of (sought (read_text text) m room)
  found-rows k n a =
      let (s, made, same) = answered in
      ap₂ (λ (x : Bounds) (v : Verdict Sought). bound_rows x k ++ map leaf_row (take x.leaves (laid (search_list v) a))) (sym same) made
      ∙ rows text m room s made k (n ∙ ap (λ (x : Bounds). play_marks text x.play) (sym same)) a
      ∙ ap rows_of (sym made)
