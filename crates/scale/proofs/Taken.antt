-- What the reading of an accepted text leaves: its numbers are small, and the slices hold its table.
use Rattle.std.proofs.Common.{Err, Ok, Result}
use Prim.Native.Nat.{ℕ, ◌≤◌}
use mathlib.Core.Path.{◌≡◌, sym, ap, subst, ◌∙◌}
use mathlib.Core.List.{List}
use native.Mathlib.Nat.{le_trans}
use native.Mathlib.Omega.{arith}
use lib.ListN.{length, length-map}
use lib.IntN.{ℤ, pos, ◌+ℤ◌, ◌*ℤ◌}
use lib.Signed.{mag}
use mir.Syntax.{w64}
use mir.Val.{to_z, of_z}
use Rattle.field.proofs.Bits.{mag-abs}
use Rattle.line.specs.declared.Line.{Line}
use Rattle.line.specs.declared.Refusal.{Refusal}
use Rattle.line.specs.Refusal.{Verdict, refused, fine}
use Rattle.table.specs.declared.Summary.{Summary}
use Rattle.table.specs.Table.{Table, read_text, summary, answer}
use Rattle.table.specs.Slices.{kinds_of, stops_of, weights_of, heights_of, height_of, laid, fitted, decoded}
use Rattle.table.proofs.Laid.{fitted-all}
use Rattle.table.proofs.Complete.{stops-long}
use Rattle.table.proofs.Accepted.{answer-accepted, answer-refused, accepted-ranged, accepted-size, accepted-grain}
use Rattle.reading.specs.Inside.{Decoded}
use Rattle.scale.specs.Inside.{Spread}
pub use Rattle.scale.specs.Inside.{zeros, Taken}
use Rattle.line.specs.Line.{code}
use Rattle.scale.proofs.Sums.{read_back, grains-back}

-- t is the summary of an accepted text s
pub spread : (s : List ℕ) (t : Summary) → answer (read_text s) ≡ Ok t → Spread t
spread s t e =
    let (T, p, q) = answer-accepted (read_text s) t e in
    let r = accepted-ranged s T p in
    subst Spread q (record {
      lowest = le_trans (mag-abs T.head.lowest) r.lowest;
      highest = le_trans (mag-abs T.head.highest) r.highest;
      grain = accepted-grain s T p;
    })

-- ---- from what the reading leaves to the table

pub zeros-enough : (s : List ℕ) (T : Table) → read_text s ≡ fine T → length T.lines ≤ length zeros
zeros-enough s T p = (accepted-size s T p).1

-- from the reading's contract
decoded-answer : (v : Verdict Table) (r : Result Summary Refusal) (K S W H : List ℕ) → Decoded v r zeros zeros zeros zeros K S W H → r ≡ answer v
decoded-answer (refused x) r K S W H d = d
decoded-answer (fine T) r K S W H d = d.0

pub refused-by : (s : List ℕ) (r : Result Summary Refusal) (x : Refusal) (K S W H : List ℕ) → Decoded (read_text s) r zeros zeros zeros zeros K S W H → r ≡ Err x
    → read_text s ≡ refused x
refused-by s r x K S W H d e = answer-refused (read_text s) x (sym (decoded-answer (read_text s) r K S W H d) ∙ e)

-- all entries of an accepted table fit
all_fit : (s : List ℕ) (T : Table) → read_text s ≡ fine T → (f : Table → List ℕ) {X : List ℕ} → length (f T) ≡ length T.lines → X ≡ laid (f T) zeros
    → X ≡ fitted (decoded f (read_text s)) zeros
all_fit s T p f n e = e ∙ sym (fitted-all (f T) zeros (omega (arith, n, zeros-enough s T p))) ∙ ap (λ (v : Verdict Table). fitted (decoded f v) zeros) (sym p)

pub taken-by : (s : List ℕ) {r : Result Summary Refusal} {t : Summary} {K S W H : List ℕ} → Decoded (read_text s) r zeros zeros zeros zeros K S W H → r ≡ Ok t
    → Taken s t K S W H
taken-by s {r} {t} {K} {S} {W} {H} d e =
    let a = sym (decoded-answer (read_text s) r K S W H d) ∙ e in
    let (T, p, q) = answer-accepted (read_text s) t a in
    let f = subst (λ (v : Verdict Table). Decoded v r zeros zeros zeros zeros K S W H) p d in
    record {
      accepted = a;
      kinds = all_fit s T p kinds_of (length-map T.lines (λ (l : Line). code l.kind)) f.1;
      stops = all_fit s T p stops_of (stops-long T.lines) f.2;
      weights = all_fit s T p weights_of (length-map T.lines (λ (l : Line). l.weight)) f.3;
      heights = all_fit s T p heights_of (length-map T.lines (height_of T.head.lowest)) f.4;
    }

-- what holds of every accepted table and its slices holds of what was left
pub of-table : {s : List ℕ} {t : Summary} {K S W H : List ℕ} → Taken s t K S W H → (C : Summary → (K S W H : List ℕ) → Type 0)
    → ((T : Table) → read_text s ≡ fine T → C (summary T) (fitted (kinds_of T) zeros) (fitted (stops_of T) zeros) (fitted (weights_of T) zeros) (fitted (heights_of T) zeros))
    → C t K S W H
of-table {s} {t} {K} {S} {W} {H} G C show =
    let (T, p, q) = answer-accepted (read_text s) t G.accepted in
    let k : fitted (kinds_of T) zeros ≡ K = ap (λ (v : Verdict Table). fitted (decoded kinds_of v) zeros) (sym p) ∙ sym G.kinds in
    let st : fitted (stops_of T) zeros ≡ S = ap (λ (v : Verdict Table). fitted (decoded stops_of v) zeros) (sym p) ∙ sym G.stops in
    let w : fitted (weights_of T) zeros ≡ W = ap (λ (v : Verdict Table). fitted (decoded weights_of v) zeros) (sym p) ∙ sym G.weights in
    let h : fitted (heights_of T) zeros ≡ H = ap (λ (v : Verdict Table). fitted (decoded heights_of v) zeros) (sym p) ∙ sym G.heights in
    let all : C (summary T) (fitted (kinds_of T) zeros) (fitted (stops_of T) zeros) (fitted (weights_of T) zeros) (fitted (heights_of T) zeros) ≡ C t K S W H = λ j. C (q j) (k j) (st j) (w j) (h j) in
    subst (λ (X : Type 0). X) all (show T p)

-- ---- its numbers, as they are handed on

module _ {s : List ℕ} {t : Summary} {K S W H : List ℕ} (G : Taken s t K S W H) where
  pub spread_at : Spread t
  spread_at = spread s t G.accepted

  pub long : 25 ≤ length s
  long = of-table G (λ t K S W H. 25 ≤ length s) (λ T p. omega (arith, (accepted-size s T p).2))

  pub lowest-back : to_z w64 (of_z w64 t.lowest) ≡ t.lowest
  lowest-back = read_back t.lowest (omega (arith, spread_at.lowest))

  pub highest-back : to_z w64 (of_z w64 t.highest) ≡ t.highest
  highest-back = read_back t.highest (omega (arith, spread_at.highest))

  -- the height h in grains
  module _ {h : ℕ} (small : h ≤ 35184372088832) where
    pub grains-ready : (mag (to_z w64 (of_z w64 t.lowest)) ≤ 1000000) × (t.grain ≤ 16777216) × (h ≤ 35184372088832)
    grains-ready = (rw lowest-back spread_at.lowest, spread_at.grain, small)

    pub grains-at : {r : ℤ} → r ≡ to_z w64 (of_z w64 t.lowest) *ℤ pos t.grain +ℤ pos h → to_z w64 (of_z w64 r) ≡ t.lowest *ℤ pos t.grain +ℤ pos h
    grains-at {r} e = grains-back t.lowest t.grain h r spread_at.lowest spread_at.grain small e
