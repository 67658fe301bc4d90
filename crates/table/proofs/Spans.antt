-- The decoded slices hold the tree: a node's stop is one past the last line of its run.
use Prim.Native.Nat.{ℕ, zero, suc, ◌+◌, ◌≤◌, ◌<◌}
use mathlib.Core.Path.{◌≡◌, refl, sym, ap, ◌∙◌}
use mathlib.Core.List.{List, [], ◌∷◌, ◌++◌, map, append_assoc, append-nil}
use native.Mathlib.Omega.{arith}
use lib.ListN.{length, get_or, drop}
use lib.Seq.{drop-drop, drop-append_seam, drop-nil}
use lib.IntN.{ℤ, pos}
use Rattle.line.specs.declared.Line.{Line}
use Rattle.table.specs.Tree.{Kind, Forest, end, leaf, inner, line_kind, run}
use Rattle.table.specs.Table.{Table}
use Rattle.table.specs.Slices.{height_of, line_stops}
use Rattle.table.specs.Inside.{Slices, Spans, slices_of}
use Rattle.table.specs.Accepted.{flat, one, Rooted}
use Rattle.table.proofs.Runs.{size, Numbered, flat-length, Outside, outside-more, flat-outside, run-outside, run-under}
use Rattle.line.specs.Line.{code}
use Rattle.line.specs.declared.Kind.TheVariants.{Leaf}
use Rattle.table.proofs.Heights.{map_forest, above}

-- the entries of nodes go from c up to e
pub spans-le : (t : Slices) (c e : ℕ) (f : Forest ℕ) → Spans t c e f → c ≤ e
unfolding Spans
spans-le t c e end x = omega (arith, x)
spans-le t c e (leaf n w h rest) x = omega (arith, spans-le t (c + 1) e rest x.5)
spans-le t c e (inner n w k under rest) x =
    let j : ℕ = get_or t.stops c 0 in
    omega (arith, spans-le t (c + 1) j under x.3, spans-le t j e rest x.4)

-- ---- an entry of a slice, by the lines from there on

module _ (l : Line) (ls : List Line) where
  no_line : {B : Type 0} (i : ℕ) → drop i [] ≡ l ∷ ls → B
  no_line i e =
      let n : [] ≡ l ∷ ls = sym (drop-nil i) ∙ e in
      let z : ◌≡◌ {A = ℕ} 0 1 = cc in
      absurd (omega arith)

  map_at : (f : Line → ℕ) (all : List Line) (i : ℕ) → drop i all ≡ l ∷ ls → get_or (map f all) i 0 ≡ f l
  map_at f [] i e = no_line i e
  map_at f (k ∷ all) zero e = ap f (cc)
  map_at f (k ∷ all) (suc i) e = map_at f all i e

  stops_at : (all : List Line) (i : ℕ) → drop i all ≡ l ∷ ls → get_or (line_stops all) i 0 ≡ l.node + 1 + length (run l.node ls)
  unfolding line_stops
  stops_at [] i e = no_line i e
  stops_at (k ∷ all) zero e =
      let p : k ≡ l = cc in
      let q : all ≡ ls = cc in
      rw (p, q)
  stops_at (k ∷ all) (suc i) e = stops_at all i e

drop-on : (all : List Line) (i : ℕ) (a b : List Line) → drop i all ≡ a ++ b → drop (i + length a) all ≡ b
drop-on all i a b e = sym (drop-drop (length a) i all) ∙ rw e (drop-append_seam a b)

module _ (t : Table) where
  abbrev shown : Forest ℤ → Forest ℕ
  shown T = map_forest (above t.head.lowest) T

  -- from the line n on stand the nodes T below p, with c C above them, and then other lines
  abbrev Stands : ℕ → ℕ → ℕ → Forest ℤ → List Line → Type 0
  Stands n p c T tail = drop n t.lines ≡ flat p c T ++ tail

  spans-leaf : (p c n w e : ℕ) (v : ℤ) (rest : Forest ℤ) (tail : List Line) → Stands n p c (leaf n w v rest) tail → Outside n (flat p c rest ++ tail)
      → (Stands (n + 1) p c rest tail → Spans (slices_of t) (n + 1) e (shown rest)) → Spans (slices_of t) n e (shown (leaf n w v rest))
  unfolding flat Spans
  spans-leaf p c n w e v rest tail d o f =
      let l : Line = record { node = n; kind = Leaf; parent = p; weight = w; utility = v; chances = c } in
      let ls : List Line = flat p c rest ++ tail in (
        refl,
        map_at l ls (λ (l : Line). code l.kind) t.lines n d,
        stops_at l ls t.lines n d ∙ rw (run-outside n ls o) (omega arith),
        map_at l ls (λ (l : Line). l.weight) t.lines n d,
        map_at l ls (height_of t.head.lowest) t.lines n d,
        f (drop-on t.lines n (l ∷ []) ls d),
      )

  spans-inner : (p c n w e : ℕ) (k : Kind) (under rest : Forest ℤ) (tail : List Line) → Stands n p c (inner n w k under rest) tail
      → Numbered (suc n) under → Outside n (flat p c rest ++ tail)
      → (Stands (n + 1) n (c + one k) under (flat p c rest ++ tail) → Spans (slices_of t) (n + 1) (n + 1 + size under) (shown under))
      → (Stands (n + 1 + size under) p c rest tail → Spans (slices_of t) (n + 1 + size under) e (shown rest))
      → Spans (slices_of t) n e (shown (inner n w k under rest))
  unfolding flat Spans
  spans-inner p c n w e k under rest tail d N o f g =
      let l : Line = record { node = n; kind = line_kind k; parent = p; weight = w; utility = pos 0; chances = c + one k } in
      let more : List Line = flat p c rest ++ tail in
      let ls : List Line = flat n (c + one k) under ++ more in
      let d' : drop n t.lines ≡ l ∷ ls = d ∙ rw append_assoc in
      let long = flat-length n (c + one k) under in
      let stop : get_or (line_stops t.lines) n 0 ≡ n + 1 + size under = stops_at l ls t.lines n d' ∙ rw (run-under n (c + one k) under N more o, long) in
      let on : Stands (n + 1) n (c + one k) under more = drop-on t.lines n (l ∷ []) ls d' in
      rw stop (
        refl,
        map_at l ls (λ (l : Line). code l.kind) t.lines n d',
        map_at l ls (λ (l : Line). l.weight) t.lines n d',
        f on,
        g (rw long at (drop-on t.lines (n + 1) (flat n (c + one k) under) more on)),
      )

  spans : (p c i e : ℕ) (T : Forest ℤ) (tail : List Line) → Stands i p c T tail → Numbered i T → p < i → Outside i tail → e ≡ i + size T
      → Spans (slices_of t) i e (shown T)
  unfolding Spans
  spans p c i e end tail d N h o q = omega arith
  spans p c i e (leaf n w v rest) tail d N h o q =
      let a : i ≡ n = sym N.0 in
      let b : suc i ≡ n + 1 = omega arith in
      rw a (spans-leaf p c n w e v rest tail (rw a at d) (flat-outside n p c rest tail (omega arith) (rw a at o))
      (λ x. spans p c (n + 1) e rest tail x (rw b at N.1) (omega arith) (outside-more i (n + 1) tail (omega arith) o) (omega arith)))
  spans p c i e (inner n w k under rest) tail d N h o q =
      let a : i ≡ n = sym N.0 in
      let b : suc i ≡ n + 1 = omega arith in
      let m = flat-outside n p c rest tail (omega arith) (rw a at o) in
      rw a (spans-inner p c n w e k under rest tail (rw a at d) (rw a at N.1) m
      (λ x. spans n (c + one k) (n + 1) (n + 1 + size under) under (flat p c rest ++ tail) x (rw b at N.1) (omega arith)
      (outside-more n (n + 1) (flat p c rest ++ tail) (omega arith) m) refl)
      (λ x. spans p c (n + 1 + size under) e rest tail x (rw b at N.2) (omega arith)
      (outside-more i (n + 1 + size under) tail (omega arith) o) (omega arith)))

  -- from the root
  pub spans-root : (T : Forest ℤ) → flat 0 0 T ≡ t.lines → Numbered 0 T → Rooted T → Spans (slices_of t) 0 (size T) (shown T)
  unfolding flat Spans
  spans-root end e N R = absurd R
  spans-root (leaf n w v rest) e N R = rw (R.2, R.0) (spans-leaf 0 0 0 w 1 v end [] (sym (rw (R.2, R.0) at e)) tt (λ x. refl))
  spans-root (inner n w k under rest) e N R =
      let d = sym (rw (R.2, R.0) at e) ∙ sym (append-nil (flat 0 0 (inner 0 w k under end))) in
      rw (R.2, R.0) (spans-inner 0 0 0 w (suc (size under + 0)) k under end [] d N.1 tt
      (λ x. spans 0 (0 + one k) 1 (1 + size under) under [] x N.1 (omega arith) tt refl)
      (λ x. omega arith))
