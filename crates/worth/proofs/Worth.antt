-- The worth of every accepted table: exact, within the ends, and the lowest end with the worth over heights.
use Prim.Native.Nat.{ℕ, ◌+◌, ◌*◌, ◌≤◌, ◌<◌}
use mathlib.Core.Path.{◌≡◌, refl, sym, ap, ap₂, ◌∙◌}
use mathlib.Core.Bool.{true, false}
use mathlib.Core.List.{List, [], ◌∷◌, map}
use native.Mathlib.Omega.{arith}
use lib.IntN.{ℤ, pos, ◌+ℤ◌, ◌*ℤ◌, +ℤ_idr}
use lib.Signed.{le_z}
use Rattle.numbers.proofs.Above.{le-above}
use Rattle.line.specs.Refusal.{fine}
use Rattle.line.specs.Line.{totals, among, larger}
use Rattle.table.specs.Tree.{Forest, end, leaf, inner, weigh}
use Rattle.table.specs.Table.{Table, tree, read_text, greatest, grain}
use Rattle.table.specs.Inside.{height_tree}
use Rattle.table.specs.Accepted.{span, OkTotal, Balanced}
use Rattle.table.proofs.Heights.{heights-map}
use Rattle.table.proofs.Accepted.{accepted-proper, accepted-filled, accepted-balanced, accepted-totals, heights-rooted, heights-proper, heights-totals, heights-divided}
use Rattle.table.proofs.Totals.{totals-all}
use Rattle.table.proofs.Ends.{rooted-some, top}
use Rattle.worth.specs.Worth.{Share, total, shares, worth_of, first_worth, TotalsAre, Exact}
use Rattle.worth.specs.Inside.Heights.{height_shares, first_height, height_worth, raised, ExactHeights, SmallWorths}
use Rattle.worth.proofs.Bounds.{Each, small, small-each}
use Rattle.worth.proofs.Even.{exact-heights}
use Rattle.worth.proofs.Shift.{Divides, first-shift, some-shares, shares-shift, exact-shift}

first-each : (P : ℕ → Type 0) (xs : List (Share ℕ)) → P 0 → Each P xs → P (first_height xs)
first-each P [] z e = z
first-each P (x ∷ xs) z e = e.0

-- ---- own totals

shares-weigh : (G : ℕ) (F : Forest ℤ) → total (shares G F) ≡ weigh F
unfolding total shares weigh
shares-weigh G end = refl
shares-weigh G (leaf n w u rest) = ap (λ (x : ℕ). w + x) (shares-weigh G rest)
shares-weigh G (inner n w k under rest) = ap (λ (x : ℕ). w + x) (shares-weigh G rest)

balanced-are : (ts : List ℕ) (G : ℕ) (F : Forest ℤ) → Balanced ts F → TotalsAre ts G F
balanced-are ts G end b = tt
balanced-are ts G (leaf n w u rest) b = balanced-are ts G rest b
balanced-are ts G (inner n w k under rest) b =
    (λ i. ap (λ (n : ℕ). among n ts) (shares-weigh G under) ∙ b.0 i, balanced-are ts G under b.1, balanced-are ts G rest b.2)

module _ (s : List ℕ) (t : Table) (h : read_text s ≡ fine t) where
  pub totals-are : TotalsAre (totals t.head) (grain t) (tree t)
  totals-are = balanced-are (totals t.head) (grain t) (tree t) (accepted-balanced s t h)

  -- ---- over heights

  pub heights-exact : ExactHeights (grain t) (height_tree t)
  heights-exact =
      exact-heights (grain t) 1 (height_tree t) (heights-divided s t h) (totals-all OkTotal (λ (n : ℕ). 0 < n) (λ n o. o.0) (height_tree t) (heights-totals s t h))

  pub heights-small : SmallWorths (grain t) (span t.head * grain t) (height_tree t)
  heights-small =
      small (grain t) (larger t.head) (greatest t.lines) (span t.head) 0 0 false (height_tree t) (heights-proper s t h)

  pub height-within : height_worth t ≤ span t.head * grain t
  height-within =
      first-each (λ (x : ℕ). x ≤ span t.head * grain t) (height_shares (grain t) (height_tree t)) (omega arith)
      (small-each (grain t) (span t.head * grain t) (height_tree t) heights-small)

  -- ---- over the integers

  pub divides : Divides (tree t)
  divides = totals-all OkTotal (λ (n : ℕ). 0 < n) (λ n o. o.0) (tree t) (accepted-totals s t h)

  -- the root with its worth; shares-shift of proofs/Shift.antt says it of the nodes under any node
  pub shift-shares : shares (grain t) (tree t) ≡ map (raised (t.head.lowest *ℤ pos (grain t))) (height_shares (grain t) (height_tree t))
  shift-shares =
      rw (heights-map t) (shares-shift (grain t) t.head (larger t.head) (greatest t.lines) 0 0 false (tree t) (accepted-proper s t h)
      (accepted-filled s t h) divides)

  pub shift : worth_of t ≡ t.head.lowest *ℤ pos (grain t) +ℤ pos (height_worth t)
  shift =
      ap first_worth shift-shares
      ∙ first-shift (t.head.lowest *ℤ pos (grain t)) (height_shares (grain t) (height_tree t))
      (some-shares (grain t) (height_tree t) (rooted-some (height_tree t) (heights-rooted s t h)))

  pub exact : Exact (grain t) (tree t)
  exact =
      exact-shift (grain t) t.head (larger t.head) (greatest t.lines) 0 0 false (tree t) (accepted-proper s t h) (accepted-filled s t h)
      divides (rw (heights-map t) at heights-exact)

  pub within : (le_z (t.head.lowest *ℤ pos (grain t)) (worth_of t) ≡ true) × (le_z (worth_of t) (t.head.highest *ℤ pos (grain t)) ≡ true)
  within =
      let b : ℤ = t.head.lowest *ℤ pos (grain t) in (
        ap (λ (z : ℤ). le_z b z) shift ∙ ap (λ (z : ℤ). le_z z (b +ℤ pos (height_worth t))) (sym (+ℤ_idr b)) ∙ le-above b 0 (height_worth t) (omega arith),
        ap₂ le_z shift (top s t h) ∙ le-above b (height_worth t) (span t.head * grain t) height-within,
      )
