-- The text of an accepted table holds its tree: its lines are laid out as its nodes.
use Prim.Native.Nat.{ℕ, zero, suc, ◌+◌, ◌-◌, ◌*◌, ◌≤◌, ◌<◌}
use mathlib.Core.Path.{◌≡◌, sym, ap, subst, ◌∙◌}
use mathlib.Core.List.{List, [], ◌∷◌, map}
use native.Mathlib.Omega.{arith}
use lib.ListN.{length, get_or, take, drop, length-map}
use lib.Seq.{drop-drop}
use Rattle.line.specs.declared.Head.{Head}
use Rattle.line.specs.declared.Line.{Line}
use Rattle.line.specs.Refusal.{fine}
use Rattle.line.specs.Line.{Above, ancestors, steps_of, stepped, entry_of, line_checks, placed, Placed, node_line, code, kind_from, kind_said}
use Rattle.line.proofs.Fine.{unless-fine}
use Rattle.table.specs.Tree.{Forest, end, leaf, inner}
use Rattle.table.specs.Table.{Table, node_lines, count, read_text}
use Rattle.table.specs.Slices.{kinds_of, stops_of, weights_of, heights_of, fitted}
use Rattle.table.specs.Inside.{Slices, Spans, height_tree}
use Rattle.table.proofs.Accepted.{checked, accepted-lent}
use Rattle.table.proofs.Laid.{fitted-at}
use Rattle.table.proofs.Grown.{lines-first}
use Rattle.table.proofs.Spans.{spans-le}
use Rattle.worth.specs.Inside.{kind_in, beside, Reach, Lays}
use Rattle.line.specs.declared.Step.{Step}
use Rattle.line.proofs.KindTests.{code-said}
use Rattle.worth.proofs.Run.{line-within}

-- ---- what the lines say

-- the lines s, nodes c up to e, say the kinds K
abbrev Told : List ℕ → ℕ → ℕ → List ℕ → Type 0
Told K c e s = (m : ℕ) → c + m < e → kind_in (take 25 (drop (25 * m) s)) ≡ get_or K (c + m) 0

module _ (K : List ℕ) (c e : ℕ) (s : List ℕ) (told : Told K c e s) where
  told-first : c < e → kind_in (take 25 s) ≡ get_or K c 0
  told-first h =
      let z : c + 0 ≡ c = omega arith in
      subst (λ (n : ℕ). kind_in (take 25 s) ≡ get_or K n 0) z (told 0 (omega arith))

  told-rest : (j : ℕ) → c ≤ j → Told K j e (drop (25 * (j - c)) s)
  told-rest j h m l =
      let at : c + (j - c + m) ≡ j + m = omega arith in
      let by : 25 * (j - c) + 25 * m ≡ 25 * (j - c + m) = omega arith in
      ap (λ (r : List ℕ). kind_in (take 25 r)) (drop-drop (25 * m) (25 * (j - c)) s ∙ ap (λ (n : ℕ). drop n s) by)
      ∙ told (j - c + m) (omega arith)
      ∙ ap (λ (n : ℕ). get_or K n 0) at

  told_under : (j : ℕ) → j ≤ e → Told K (c + 1) j (take (25 * (j - (c + 1))) (drop 25 s))
  told_under j h m l =
      let at : c + (m + 1) ≡ c + 1 + m = omega arith in
      let by : 25 + 25 * m ≡ 25 * (m + 1) = omega arith in
      ap kind_in (line-within m (25 * (j - (c + 1))) (drop 25 s) (omega arith)
      ∙ ap (take 25) (drop-drop (25 * m) 25 s)
      ∙ ap (λ (n : ℕ). take 25 (drop n s)) by)
      ∙ told (m + 1) (omega arith)
      ∙ ap (λ (n : ℕ). get_or K n 0) at

-- ---- the tree in the slices is laid out in the text

spans-lay : (t : Slices) (c e : ℕ) (s : List ℕ) (f : Forest ℕ) → Spans t c e f → Told t.kinds c e s → Lays (beside t.stops t.weights t.heights) c e s f
unfolding Spans Lays
spans-lay t c e s end x told = x
spans-lay t c e s (leaf n w h rest) x told =
    let j : ℕ = get_or t.stops c 0 in (
      told-first t.kinds c e s told (omega (arith, spans-le t (c + 1) e rest x.5)) ∙ x.1,
      x.2,
      x.3,
      x.4,
      spans-lay t j e (drop (25 * (j - c)) s) rest (subst (λ (n : ℕ). Spans t n e rest) (sym x.2) x.5) (told-rest t.kinds c e s told j (omega (arith, x.2))),
    )
spans-lay t c e s (inner n w k under rest) x told =
    let j : ℕ = get_or t.stops c 0 in
    let a : c + 1 ≤ j = spans-le t (c + 1) j under x.3 in
    let b : j ≤ e = spans-le t j e rest x.4 in (
      told-first t.kinds c e s told (omega arith) ∙ x.1,
      x.2,
      spans-lay t (c + 1) j (take (25 * (j - (c + 1))) (drop 25 s)) under x.3 (told_under t.kinds c e s told j b),
      spans-lay t j e (drop (25 * (j - c)) s) rest x.4 (told-rest t.kinds c e s told j (omega arith)),
    )

-- ---- the lines that were read

module _ (h : Head) where
  placed-says : (i : ℕ) (P : List Step) (s : List ℕ) (p : Placed) → node_line h i P s ≡ fine p → kind_in s ≡ code p.line.kind
  placed-says i P s p e =
      let k = kind_said (entry_of s) in
      let a : Above = ancestors (entry_of s).parent P in
      let r = unless-fine (line_checks h i (entry_of s) (get_or s 4 0) (get_or s 24 0) a) (placed i k (entry_of s) (stepped i k (steps_of a))) p e in
      code-said (kind_from (entry_of s).letter) r.0.1.1.0 ∙ ap (λ (x : Placed). code x.line.kind) r.1

  abbrev SaysOf : List Line → ℕ → List ℕ → Type 0
  SaysOf ls m l = kind_in l ≡ get_or (map (λ (l : Line). code l.kind) ls) m 0

  lines-say : (n i : ℕ) (P : List Step) (s : List ℕ) (ls : List Line) → node_lines h n i P s ≡ fine ls
      → (m : ℕ) → m < length ls → SaysOf ls m (take 25 (drop (25 * m) s))
  unfolding node_lines
  lines-say zero i P s ls e m l = let f : [] ≡ ls = cc in absurd (omega (arith, ap length f))
  lines-say (suc n) i P s ls e m l =
      let F = lines-first h n i P s ls e in
      let p = F.placed in
      let d : m < suc (length F.rest) = omega (arith, l, ap length F.lines) in
      subst (λ (x : List Line). SaysOf x m (take 25 (drop (25 * m) s))) (sym F.lines)
      (go p F.rest (placed-says i P (take 25 s) p F.line) (lines-say n (suc i) p.steps (drop 25 s) F.rest F.more) m d)
    where
      go : (p : Placed) (rest : List Line) → kind_in (take 25 s) ≡ code p.line.kind
          → ((m : ℕ) → m < length rest → SaysOf rest m (take 25 (drop (25 * m) (drop 25 s))))
          → (m : ℕ) → m < suc (length rest) → SaysOf (p.line ∷ rest) m (take 25 (drop (25 * m) s))
      go p rest first more zero d = first
      go p rest first more (suc m) d =
          let by : 25 + 25 * m ≡ 25 * suc m = omega arith in
          subst (λ (r : List ℕ). SaysOf rest m (take 25 r)) (drop-drop (25 * m) 25 s ∙ ap (λ (n : ℕ). drop n s) by) (more m (omega arith))

-- ---- an accepted table

-- st, w and g are the slices that were lent for the stops, the weights and the heights, as `reading::decode` leaves them
pub accepted-lays : (s : List ℕ) (t : Table) → read_text s ≡ fine t → (st w g : List ℕ) → Reach (beside st w g) (length t.lines)
    → Lays (beside (fitted (stops_of t) st) (fitted (weights_of t) w) (fitted (heights_of t) g)) 0 (length t.lines) (drop 25 s) (height_tree t)
accepted-lays s t h st w g room =
    spans-lay lent 0 n (drop 25 s) (height_tree t) (accepted-lent s t h st st w g room.stops room.stops room.weights room.heights) told
  where
    n : ℕ
    n = length t.lines

    kinds : List ℕ
    kinds = fitted (kinds_of t) st

    lent : Slices
    lent = record { kinds = kinds; stops = fitted (stops_of t) st; weights = fitted (weights_of t) w; heights = fitted (heights_of t) g }

    told : Told kinds 0 n (drop 25 s)
    told m l =
        let z : m ≡ 0 + m = omega arith in
        lines-say t.head (count s) 0 [] (drop 25 s) t.lines (checked s t h).lines m (omega arith)
        ∙ sym (fitted-at (kinds_of t) st n m (length-map t.lines (λ (l : Line). code l.kind)) room.stops (omega arith))
        ∙ ap (λ (i : ℕ). get_or kinds i 0) z
