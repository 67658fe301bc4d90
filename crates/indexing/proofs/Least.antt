-- Least numbers over nodes in slices: from child to child, and of every node, the last first.
use Prim.Native.Nat.{ℕ, ◌+◌, min, ◌≤◌, ◌<◌}
use mathlib.Core.Path.{◌≡◌, refl, sym, subst, ◌∙◌}
use mathlib.Core.Bool.{true, false}
use mathlib.Core.List.{List}
use native.Mathlib.Omega.{arith}
use native.Mathlib.Decide.{dec_le}
use lib.ListN.{length, get_or, set}
use lib.Seq.{get_or-set_same, get_or-set_other}
use Rattle.line.proofs.Signs.{true-ne-false}
use Rattle.table.specs.Tree.{Forest, end, leaf, inner, is_end}
use Rattle.table.specs.Inside.{Slices, slices, Spans}
use Rattle.table.proofs.Spans.{spans-le}
use Rattle.table.proofs.Nodes.{step, rest_of, number_of, spans-last}
use Rattle.indexing.specs.Inside.{tops, Run, OwnLeast}

-- ---- from child to child

module _ (points : List ℕ) where
  tops-low : (F : Forest ℕ) → tops points F ≤ 4294967295
  unfolding tops
  tops-low end = omega arith
  tops-low (leaf n w h rest) = omega (arith, tops-low rest)
  tops-low (inner n w k under rest) = omega (arith, tops-low rest)

  tops-split : (F : Forest ℕ) → is_end F ≡ false → tops points F ≡ min (get_or points (number_of F) 0) (tops points (rest_of F))
  unfolding tops
  tops-split end e = absurd (true-ne-false e)
  tops-split (leaf n w h rest) e = refl
  tops-split (inner n w k under rest) e = refl

  tops-end : (F : Forest ℕ) → is_end F ≡ true → tops points F ≡ 4294967295
  unfolding tops
  tops-end end e = refl
  tops-end (leaf n w h rest) e = absurd (true-ne-false (sym e))
  tops-end (inner n w k under rest) e = absurd (true-ne-false (sym e))

-- m is the least of those before entry j, and these stand from there on
pub record Least (stops points : List ℕ) (c e m j : ℕ) (R : Run stops c e) : Type 0 where
  pub rest : Forest ℕ
  pub spans : Spans (slices R.kinds stops R.weights R.heights) j e rest
  pub least : tops points R.forest ≡ min m (tops points rest)
  pub low : m ≤ 4294967295

module _ (stops points : List ℕ) (c e : ℕ) (R : Run stops c e) where
  abbrev in-slices : Slices
  in-slices = slices R.kinds stops R.weights R.heights

  pub least-none : Least stops points c e 4294967295 c R
  least-none =
      record { rest = R.forest; spans = R.spans; least = omega (arith, tops-low points R.forest); low = omega arith }

  module _ (m j : ℕ) (L : Least stops points c e m j R) where
    pub least-later : j < e → (j < get_or stops j 0) × (get_or stops j 0 ≤ e)
    least-later l = let s = step in-slices j e L.rest L.spans l in (s.below, s.within)

    pub least_more : j < e → Least stops points c e (min m (get_or points j 0)) (get_or stops j 0) R
    least_more l =
        let s = step in-slices j e L.rest L.spans l in
        let t : tops points L.rest ≡ min (get_or points j 0) (tops points (rest_of L.rest)) = rw s.number (tops-split points L.rest s.some) in
        record { rest = rest_of L.rest; spans = s.rest; least = L.least ∙ omega (arith, t); low = omega (arith, L.low) }

    pub least-done : e ≤ j → m ≡ tops points R.forest
    least-done l =
        let z : j ≡ e = omega (arith, spans-le in-slices j e L.rest L.spans) in
        sym (L.least ∙ omega (arith, tops-end points L.rest (spans-last in-slices j e L.rest L.spans z), L.low))

-- ---- every node, the last first

-- a write before the nodes changes nothing
tops-set : (t : Slices) (P : List ℕ) (i r c e : ℕ) (F : Forest ℕ) → Spans t c e F → i < c → tops (set P i r) F ≡ tops P F
unfolding Spans tops
tops-set t P i r c e end s l = refl
tops-set t P i r c e (leaf n w h rest) s l =
    rw (get_or-set_other P i n r 0 (λ z. omega (arith, s.0)), tops-set t P i r (c + 1) e rest s.5 (omega arith))
tops-set t P i r c e (inner n w k under rest) s l =
    let a = spans-le t (c + 1) (get_or t.stops c 0) under s.3 in
    rw (get_or-set_other P i n r 0 (λ z. omega (arith, s.0)), tops-set t P i r (get_or t.stops c 0) e rest s.4 (omega arith))

module _ (kinds stops before : List ℕ) (n : ℕ) where
  -- the entries before i are as they were, and those from i on are least numbers
  pub record Lessened (points : List ℕ) (i : ℕ) : Type 0 where
    pub kept : (j : ℕ) → j < i → get_or points j 0 ≡ get_or before j 0
    pub least : (j : ℕ) → i ≤ j → j < n → OwnLeast kinds stops points j (get_or before j 0) (get_or points j 0)

  pub lessened-none : Lessened before n
  lessened-none = record { kept = λ j l. refl; least = λ j a b. absurd (omega arith) }

  module _ (P : List ℕ) (i r : ℕ) where
    own-set : (j x y : ℕ) → i ≤ j → OwnLeast kinds stops P j x y → OwnLeast kinds stops (set P i r) j x y
    own-set j x y l o =
        (o.0, λ z R. o.1 z R ∙ sym (tops-set (slices R.kinds stops R.weights R.heights) P i r (j + 1) (get_or stops j 0) R.forest R.spans (omega arith)))

    pub lessened-more : Lessened P (i + 1) → i < length P → OwnLeast kinds stops P i (get_or P i 0) r → Lessened (set P i r) i
    lessened-more L l o =
        record {
          kept = λ j a. get_or-set_other P i j r 0 (λ z. omega arith) ∙ L.kept j (omega arith);
          least = λ j a b. at j a b (dec_le (i + 1) j);
        }
      where
        at : (j : ℕ) → i ≤ j → j < n → Dec (i + 1 ≤ j) → OwnLeast kinds stops (set P i r) j (get_or before j 0) (get_or (set P i r) j 0)
        at j a b (yes q) =
            subst (λ (y : ℕ). OwnLeast kinds stops (set P i r) j (get_or before j 0) y) (sym (get_or-set_other P i j r 0 (λ z. omega arith)))
            (own-set j (get_or before j 0) (get_or P j 0) a (L.least j q b))
        at j a b (no q) =
            let z : i ≡ j = omega arith in
            subst (λ (j : ℕ). OwnLeast kinds stops (set P i r) j (get_or before j 0) (get_or (set P i r) j 0)) z
            (subst (λ (y : ℕ). OwnLeast kinds stops (set P i r) i (get_or before i 0) y) (sym (get_or-set_same P i r 0 l))
            (own-set i (get_or before i 0) r (omega arith) (subst (λ (x : ℕ). OwnLeast kinds stops P i x r) (L.kept i (omega arith)) o)))
