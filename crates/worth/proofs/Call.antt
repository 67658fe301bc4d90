-- The lines of an accepted text can be judged, and the call answers with the worth of its table.
use Rattle.std.proofs.Common.{Ok}
use Prim.Native.Nat.{ℕ, ◌-◌, ◌≤◌}
use mathlib.Core.Path.{◌≡◌, refl, sym, ap, ◌∙◌}
use mathlib.Core.List.{List}
use native.Mathlib.Omega.{arith}
use lib.ListN.{length, take, drop, length-map, length-drop}
use lib.Seq.{take_all}
use lib.IntN.{ℤ, pos, ◌+ℤ◌, ◌*ℤ◌}
use Rattle.line.specs.declared.Line.{Line}
use Rattle.line.specs.Refusal.{fine}
use Rattle.line.proofs.Signs.{true-ne-false}
use Rattle.table.specs.declared.Summary.{Summary}
use Rattle.table.specs.Tree.{MAX, Forest, end, leaf, inner}
use Rattle.table.specs.Table.{Table, read_text, summary, grain}
use Rattle.table.specs.Accepted.{Rooted}
use Rattle.table.specs.Slices.{height_of, stops_of, weights_of, heights_of, fitted}
use Rattle.table.specs.Inside.{height_tree}
use Rattle.table.proofs.Accepted.{accepted-size, accepted-grain, heights-rooted, heights-filled, heights-totals}
use Rattle.table.proofs.Complete.{stops-long}
use Rattle.table.proofs.Laid.{fitted-long}
use Rattle.table.proofs.Ends.{rooted-some, span-grains}
use Rattle.scale.specs.declared.Scale.{Scale}
use Rattle.scale.specs.Inside.{scale_for}
use Rattle.scale.proofs.Taken.{zeros, zeros-enough, Taken, of-table}
use Rattle.worth.specs.Call.{exact_call}
use Rattle.worth.specs.Inside.Heights.{tallest, height_value, height_shares, first_height, height_worth}
use Rattle.worth.specs.Inside.{Beside, beside, Reach, OkScale, Fits, ReadyRun, Worthy}
use Rattle.worth.proofs.Worth.{heights-small, shift, height-within}
use Rattle.worth.proofs.Text.{accepted-lays}

-- one node is worth to a MAX what it is worth
root-worth : (G : ℕ) (f : Forest ℕ) → Rooted f → height_value MAX (height_shares G f) ≡ first_height (height_shares G f)
unfolding height_value height_shares tallest
root-worth G end r = absurd r
root-worth G (leaf n w h rest) r = rw r.2 refl
root-worth G (inner n w k under rest) r = rw r.2 refl

-- ---- an accepted table

-- the slices as the reading leaves them
abbrev pub lent : Table → Beside
lent t = beside (fitted (stops_of t) zeros) (fitted (weights_of t) zeros) (fitted (heights_of t) zeros)

module _ (s : List ℕ) (t : Table) (h : read_text s ≡ fine t) where
  pub scale_ok : OkScale (scale_for (summary t))
  scale_ok = record { grain = accepted-grain s t h; top = omega (arith, span-grains s t h) }

  pub fits : Fits (scale_for (summary t)) (height_tree t)
  fits = record { filled = heights-filled s t h; small = heights-small s t h; totals = heights-totals s t h }

  pub reaches : Reach (lent t) (length t.lines)
  reaches =
      let n : ℕ = length t.lines in
      let z : n ≤ length zeros = zeros-enough s t h in
      record {
        stops = fitted-long (stops_of t) zeros n (stops-long t.lines) z;
        weights = fitted-long (weights_of t) zeros n (length-map t.lines (λ (l : Line). l.weight)) z;
        heights = fitted-long (heights_of t) zeros n (length-map t.lines (height_of t.head.lowest)) z;
      }

  unfoldable pub accepted-ready : ReadyRun (lent t) (scale_for (summary t)) MAX 0 (length t.lines) (drop 25 s)
  accepted-ready =
      let z = zeros-enough s t h in
      let size = accepted-size s t h in
      record {
        nodes = height_tree t;
        lays = accepted-lays s t h zeros zeros zeros (record { stops = z; weights = z; heights = z });
        fits = fits;
        total = λ i. absurd (true-ne-false (sym i));
        some = rooted-some (height_tree t) (heights-rooted s t h);
        long = omega (arith, length-drop 25 s, size.2);
        room = reaches;
        few = size.1;
        scale = scale_ok;
      }

  pub judged-worth : (r : ℕ) → Worthy (lent t) (scale_for (summary t)) MAX 0 (length t.lines) (drop 25 s) r → r ≡ height_worth t
  unfolding accepted-ready
  judged-worth r told = told accepted-ready ∙ root-worth (grain t) (height_tree t) (heights-rooted s t h)

-- ---- what the reading left

-- the text as it is handed on, from byte 25
abbrev pub lines_of : List ℕ → List ℕ
lines_of s = take (length s - 25) (drop 25 s)

pub from_all : (s : List ℕ) → lines_of s ≡ drop 25 s
from_all s = take_all (length s - 25) (drop 25 s) (omega (arith, length-drop 25 s))

-- g is the scale
module _ {s : List ℕ} {t : Summary} {K S W H : List ℕ} (G : Taken s t K S W H) {g : Scale} (q : g ≡ scale_for t) where
  pub ready_at : ReadyRun (beside S W H) g MAX 0 t.nodes (lines_of s)
  ready_at =
      rw (q, from_all s) (of-table G (λ t K S W H. ReadyRun (beside S W H) (scale_for t) MAX 0 t.nodes (drop 25 s)) (λ T p. accepted-ready s T p))

  -- h is what `worth_of` gave
  module _ (h : ℕ) (w : Worthy (beside S W H) g MAX 0 t.nodes (lines_of s) h) where
    of-worth : (C : Summary → Type 0) → ((T : Table) → read_text s ≡ fine T → h ≡ height_worth T → C (summary T)) → C t
    of-worth C show =
        of-table G (λ t K S W H. Worthy (beside S W H) (scale_for t) MAX 0 t.nodes (drop 25 s) h → C t)
        (λ T p w. show T p (judged-worth s T p h w)) (rw (q, from_all s) at w)

    pub low-at : h ≤ 35184372088832
    low-at = of-worth (λ t. h ≤ 35184372088832) (λ T p e. omega (arith, e, height-within s T p, span-grains s T p))

    pub answered-at : Ok (record { grains = t.lowest *ℤ pos t.grain +ℤ pos h; grain = t.grain }) ≡ exact_call (read_text s)
    answered-at =
        of-worth (λ t. Ok (record { grains = t.lowest *ℤ pos t.grain +ℤ pos h; grain = t.grain }) ≡ exact_call (read_text s)) (λ T p e.
        ap (λ (y : ℕ). Ok (record { grains = T.head.lowest *ℤ pos (grain T) +ℤ pos y; grain = grain T })) e
        ∙ ap (λ (z : ℤ). Ok (record { grains = z; grain = grain T })) (sym (shift s T p))
        ∙ ap exact_call (sym p))
