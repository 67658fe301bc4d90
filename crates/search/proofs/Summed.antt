-- Running sums in the search of an accepted table, over heights and in whole grains. Document 02, Item 4.
use Prim.Native.Nat.{ℕ, ◌+◌, ◌*◌, ◌-◌, ◌/◌, min, max}
use mathlib.Core.Path.{◌≡◌, refl, sym, ap, ◌∙◌}
use mathlib.Core.Bool.{Bool, false}
use mathlib.Core.List.{List}
use native.Mathlib.Nat.{mul-sub, mul-div_right, le_refl}
use native.Mathlib.Omega.{arith}
use lib.Dec.{leb}
use lib.IntN.{ℤ, pos, ◌+ℤ◌, ◌-ℤ◌, ◌*ℤ◌, pos-*ℤ-pos}
use lib.Signed.{le_z}
use Rattle.numbers.specs.Integers.{max_z, min_z, floor_z, ceil_z}
use Rattle.numbers.proofs.Signs.{Is, plus, minus, parts, is-unique, is-minus}
use Rattle.line.specs.Refusal.{fine}
use Rattle.table.specs.Tree.{Kind, MAX, MIN, CHANCE, Forest, end, leaf, inner}
use Rattle.table.specs.Table.{Table, tree, read_text, grain}
use Rattle.table.specs.Inside.{height_tree}
use Rattle.table.specs.Accepted.{span}
use Rattle.search.specs.Search.{Frame, State, Rules}
use Rattle.search.specs.Whole.{whole, down_z, up_z, gain_z, loss_z, in_grains, rules, searched_until}
use Rattle.search.specs.Exact.{EachTakenRoot, WholeQuotients}
use Rattle.search.specs.Sums.{AreSums, EachBefore, EachBeforeRoot, down_sum, up_sum, sums_z, summed_until, SumsBefore}
use Rattle.search.specs.Inside.{natural, ceil, grained, height_sums, height_rules, height_searched, height_summed, AreAbove, EachAbove, EachAboveRoot, SumsKept}
use Rattle.search.proofs.Heights.{Paid, PaidUnder, Within, shift}
use Rattle.search.proofs.Times.{mul-max, mul-min, mul-test, mul-apart, times-plus, times-minus, times-order, times-max, times-min, times-over}
use Rattle.search.proofs.Shift.{Rel, RelState}
use Rattle.search.proofs.Remainder.{WholeHeights, heights-root, EachPair, EachPairRoot, pairs-root, together}
use Rattle.search.proofs.Sums.{SumLaws, same-root, before_root}
use Rattle.search.proofs.Table.{frames, tree-frames, tree-shift, tree-within, tree-positive, tree-fit, no-remainder}

-- ---- what the sums need of the two arithmetics

pub height-laws : SumLaws natural height_sums WholeHeights
height-laws = record {
  high-of = λ T a b p. mul-max T a b;
  low_of = λ T a b p. mul-min T a b;
  near = λ T ε α β p. ap (leb (T * β)) (omega arith) ∙ mul-test T β (α + ε) p;
  over = λ T x p. mul-div_right x p;
  down = λ e w α U. ap (λ (x : ℕ). max e.bottom (e.top - ceil x w)) (mul-apart e.total U α);
  up = λ e w β L. ap (λ (x : ℕ). min e.top (e.bottom + ceil x w)) (mul-apart e.total β L);
  gain = λ e w L r x. omega (arith, x.0);
  loss = λ e w U r x. sym (mul-sub e.total U (w * (e.top - r.high) / e.total) ∙ ap (λ (y : ℕ). e.total * U - y) x.1);
}

whole-laws : SumLaws whole sums_z WholeQuotients
unfolding down_z up_z gain_z loss_z down_sum up_sum
whole-laws = record {
  high-of = times-max;
  low_of = times-min;
  near = λ T ε α β p. ap (λ (z : ℤ). le_z (pos T *ℤ β) (pos T *ℤ α +ℤ z)) (sym (pos-*ℤ-pos T ε)) ∙ ap (le_z (pos T *ℤ β)) (sym (times-plus T α (pos ε))) ∙ times-order T β (α +ℤ pos ε) p;
  over = times-over;
  down = λ e w α U. ap (λ (z : ℤ). max_z e.bottom (floor_z z w +ℤ e.top)) (sym (times-minus e.total α U));
  up = λ e w β L. ap (λ (z : ℤ). min_z e.top (ceil_z z w +ℤ e.bottom)) (sym (times-minus e.total β L));
  gain = λ e w L r x. sym (times-plus e.total L (floor_z (pos w *ℤ (r.low -ℤ e.bottom)) e.total) ∙ ap (λ (z : ℤ). pos e.total *ℤ L +ℤ z) x.0);
  loss = λ e w U r x. sym (times-minus e.total U (floor_z (pos w *ℤ (e.top -ℤ r.high)) e.total) ∙ ap (λ (z : ℤ). pos e.total *ℤ U -ℤ z) x.1);
}

-- ---- every C's total is at least 1

pub paid-within : (frame : ℕ → Forest ℕ → Frame ℕ) (e : Frame ℕ) (f : Forest ℕ) → Within frame e f → PaidUnder frame f
paid-within frame e end i = tt
paid-within frame e (leaf n w h rest) i = paid-within frame e rest i.2
paid-within frame e (inner n w k under rest) i = (i.2.paid, paid-within frame (frame n under) under i.3, paid-within frame e rest i.4)

module _ (Lo : ℤ) (frame : ℕ → Forest ℕ → Frame ℕ) (frame_z : ℕ → Forest ℤ → Frame ℤ)
    (totals : (n : ℕ) (f : Forest ℕ) → (frame_z n (shift Lo f)).total ≡ (frame n f).total) where
  paid-same : (k : Kind) (n : ℕ) (f : Forest ℕ) → Paid (frame n f) k → Paid (frame_z n (shift Lo f)) k
  paid-same MAX n f p = tt
  paid-same MIN n f p = tt
  paid-same CHANCE n f p = rw (totals n f) p

  paid-shift : (f : Forest ℕ) → PaidUnder frame f → PaidUnder frame_z (shift Lo f)
  unfolding shift
  paid-shift end p = tt
  paid-shift (leaf n w h rest) p = paid-shift rest p
  paid-shift (inner n w k under rest) p = (paid-same k n under p.0, paid-shift under p.1, paid-shift rest p.2)

-- ---- the sums over heights, beside Algorithm 1 in whole grains

-- T times a height is T times the integer above the lowest end
times_above : (p q : ℕ) (Lo : ℤ) → Is Lo p q → (T h u : ℕ) (z : ℤ) → Rel p q h z → u ≡ T * h → pos u ≡ pos T *ℤ (z -ℤ Lo)
times_above p q Lo is_lo T h u z i e =
    let a : z -ℤ Lo ≡ pos h = is-unique (z -ℤ Lo) (pos h) (p + h + q) (q + p) (is-minus z Lo (p + h) q p q i is_lo) (omega arith) in
    ap pos e ∙ sym (pos-*ℤ-pos T h) ∙ ap (λ (y : ℤ). pos T *ℤ y) (sym a)

module _ (p q : ℕ) (Lo : ℤ) (is_lo : Is Lo p q) (S : ℕ) (R : Rules ℕ) (frame_z : ℕ → Forest ℤ → Frame ℤ)
    (flat : (n : ℕ) (f : Forest ℕ) → ((R.frame n f).bottom ≡ 0) × ((R.frame n f).top ≡ S)) where
  abbrev Z : Rules ℤ
  Z = record { frame = frame_z; margin = R.margin; full = R.full }

  are-above : (e : Frame ℕ) (k : Kind) (u s : State ℕ) (z : State ℤ) → RelState p q s z → AreSums height_sums e k u s → AreAbove Lo e k u z
  are-above e MAX u s z i b = tt
  are-above e MIN u s z i b = tt
  are-above e CHANCE u s z i b =
      (times_above p q Lo is_lo e.total s.lo u.lo z.lo i.lo b.0, times_above p q Lo is_lo e.total s.hi u.hi z.hi i.hi b.1)

  above : (e : Frame ℕ) (ez : Frame ℤ) (k : Kind) (f : Forest ℕ) (u s : State ℕ) (z : State ℤ) → EachPair p q false Lo is_lo S R frame_z (λ _. flat) e ez k f s z
      → EachBefore height_sums natural R e k f u s → EachAbove Lo R Z e ez k f (shift Lo f) u z
  unfolding shift
  above e ez k end u s z a b = tt
  above e ez k (leaf n w h rest) u s z a b = (
    are-above e k u s z a.0.before b.0,
    λ c. let d = together p q false Lo is_lo S R frame_z (λ _. flat) e ez k n w rest s z _ _ a.0 c in above e ez k rest _ _ _ (a.1 d) (b.1 d),
  )
  above e ez k (inner n w c under rest) u s z a b = (
    are-above e k u s z a.0.before b.0,
    λ m. let l = ap R.full (sym a.0.before.read) ∙ m in above (R.frame n under) (frame_z n (shift Lo under)) c under _ _ _ (a.1 l) (b.1 l),
    λ m. let d = together p q false Lo is_lo S R frame_z (λ _. flat) e ez k n w rest s z _ _ a.0 m in above e ez k rest _ _ _ (a.2 d) (b.2 d),
  )

  above_root : (f : Forest ℕ) → EachPairRoot p q false Lo is_lo S R frame_z (λ _. flat) f → EachBeforeRoot height_sums natural R f → EachAboveRoot Lo R Z f (shift Lo f)
  unfolding shift
  above_root end a b = tt
  above_root (leaf n w h rest) a b = tt
  above_root (inner n w k under rest) a b = λ m. above (R.frame n under) (frame_z n (shift Lo under)) k under _ _ _ a (b m)

-- ---- the search of a table at the margin ε, until the budget is spent

module _ (s : List ℕ) (t : Table) (r : read_text s ≡ fine t) (ε : ℕ) (full : List ℕ → Bool) where
  abbrev base : ℤ
  base = t.head.lowest *ℤ pos (grain t)

  abbrev R : Rules ℕ
  R = height_rules 0 (span t.head * grain t) ε full

  abbrev heights : Forest ℕ
  heights = grained (grain t) (height_tree t)

  heights-paid : PaidUnder R.frame heights
  heights-paid = paid-within R.frame (record { bottom = 0; top = span t.head * grain t; total = 0 }) heights (tree-within s t r)

  heights-taken : EachTakenRoot natural R WholeHeights heights
  heights-taken = heights-root R (record { bottom = 0; top = span t.head * grain t; total = 0 }) 1 heights (tree-within s t r) (tree-fit s t r)

  -- what the code computes is what Algorithm 1 gives over heights
  pub heights-summed : height_summed t ε full ≡ height_searched t ε full
  heights-summed = same-root natural height_sums WholeHeights height-laws R heights heights-paid heights-taken

  -- before each child the sums that the code keeps are T times Algorithm 1's low and high above the lowest end
  pub sums_kept : SumsKept t ε full
  sums_kept =
      rw (tree-shift s t r)
      (above_root (plus base) (minus base) base (parts base) (span t.head * grain t) R (rules t ε full).frame (λ n f. (refl, refl)) heights
      (pairs-root (plus base) (minus base) false base (parts base) (span t.head * grain t) R (rules t ε full).frame (λ _ n f. (refl, refl))
      (record { bottom = 0; top = span t.head * grain t; total = 0 }) heights (le_refl _) (tree-frames s t r ε full) (tree-within s t r) (tree-positive s t r))
      (before_root natural height_sums WholeHeights height-laws R heights heights-paid heights-taken))

  grains-paid : PaidUnder (rules t ε full).frame (in_grains (grain t) (tree t))
  grains-paid = rw (tree-shift s t r) (paid-shift base R.frame (rules t ε full).frame (λ n f. (frames s t r f).total) heights heights-paid)

  -- "every result is as before"
  pub summed : summed_until t ε full ≡ searched_until t ε full
  summed = same-root whole sums_z WholeQuotients whole-laws (rules t ε full) (in_grains (grain t) (tree t)) grains-paid (no-remainder s t r ε full)

  -- "before each child the sums are T times Algorithm 1's low and high there"
  pub sums-before : SumsBefore t ε full
  sums-before = before_root whole sums_z WholeQuotients whole-laws (rules t ε full) (in_grains (grain t) (tree t)) grains-paid (no-remainder s t r ε full)
