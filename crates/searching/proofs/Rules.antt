-- One child of a node, and one node, on plain values: what the proofs of the three searches cite.
use Prim.Native.Nat.{ℕ, suc, ◌+◌, ◌-◌, ◌*◌, ◌≤◌, ◌<◌}
use mathlib.Core.Path.{◌≡◌, refl, sym, ap, ap₂, subst, subst₂, ◌∙◌}
use mathlib.Core.Bool.{Bool, true, false, cond}
use mathlib.Core.List.{List, [], ◌∷◌, ◌++◌}
use Rattle.std.proofs.lemmas.List.{length-map}
use native.Mathlib.Nat.{suc-add, add-suc, add-zero, le_trans, mul-le-mul}
use native.Mathlib.Omega.{arith}
use lib.ListN.{length, get_or, set, length-set, length-append}
use lib.Dec.{eqb, leb}
use borrow.Author.Tests.{ne_eqb, lt-leb}
use Rattle.line.proofs.Signs.{true-ne-false}
use Rattle.table.specs.Tree.{Kind, MAX, MIN, CHANCE, Forest, end, leaf, inner, code_of, is_chance, is_end, weigh}
use Rattle.table.specs.Inside.{Slices, Spans, Holds}
use Rattle.table.specs.declared.Node.{Node}
use Rattle.table.specs.declared.Play as found
use Rattle.table.specs.declared.Play.TheVariants.{NoPlay}
use Rattle.table.specs.Nodes.{kinds_in, heights_in, slices_in}
use Rattle.table.proofs.Nodes.{code-inj, code-pos, stop_of, rest_of, number_of, weight_of, weigh-split, Step, step, spans-last, spans-more, spans-lt, spans-same}
use Rattle.runs.specs.Inside.{weigh_at}
use Rattle.runs.proofs.Scan.{spans-weigh}
use Rattle.search.specs.Search as alg
use Rattle.search.specs.Search.{Frame, Play, no_play, Seen, framed, begin, finish, cut, point, met_spent, lower, upper, prefer, run_low, run_high, update, stop}
use Rattle.search.specs.Sums.{scaled, divided, keep, leave, scan_sums}
use Rattle.search.specs.Inside.{natural, natural_sums, height_sums, grained}
use Rattle.search.proofs.Steps.{cond-past, sums_after}
use Rattle.search.proofs.Grains.{grained-weigh}
use Rattle.search.proofs.Between.{Between, Ranked, Small, ranked-begin, ranked-update, small-begin, small-update}
use Rattle.steps.specs.declared.Rule.{Rule}
use Rattle.steps.specs.declared.Ends.{Ends}
use Rattle.steps.specs.declared.State.{State}
use Rattle.steps.specs.declared.Window.{Window}
use Rattle.steps.specs.declared.Found.{Found}
use Rattle.steps.specs.Inside.{frame_at, ends_at, lift, sums_at, window_for, after, stops, put_from, Gives, left_in, met_spent_in, leaf_seen, limit, OkEnds, OkSums}
use Rattle.searching.specs.Inside.{Way, way, rules_of, seen_in, node_seen, OkRule, Light, Nested, Fit, ReadyChildren, Told}
use Rattle.searching.proofs.Bridge.{ahead, update-lift, scan_step, Plays, plays-number, plays-after}
use Rattle.searching.proofs.Fits.{grained-split, fit-rest, fit-weight, fit-sound, node-between}

-- ---- the list

put-put : (l : List ℕ) (k : ℕ) (xs ys : List ℕ) → put_from (put_from l k xs) (k + length xs) ys ≡ put_from l k (xs ++ ys)
unfolding put_from
put-put l k [] ys = ap (λ (n : ℕ). put_from l n ys) (add-zero k)
put-put l k (x ∷ xs) ys =
    ap (λ (n : ℕ). put_from (put_from (set l k x) (suc k) xs) n ys) (add-suc k (length xs) ∙ sym (suc-add k (length xs)))
    ∙ put-put (set l k x) (suc k) xs ys

put-length : (l : List ℕ) (k : ℕ) (xs : List ℕ) → length (put_from l k xs) ≡ length l
unfolding put_from
put-length l k [] = refl
put-length l k (x ∷ xs) = put-length (set l k x) (suc k) xs ∙ length-set l k x

-- ---- one node

-- what is told of the node at entry c, searched in the window w: its result r, and the list as it came and as it is now
pub record NodeTold (t : Slices) (g : Way) (v : Ends) (w : Window) (c left : ℕ) (r : Found) (came now : List ℕ) : Type 0 where
  pub tells : (F : Forest ℕ) (e : ℕ) → Spans t c e F → c < e → Gives left r (node_seen g v left F w) came now

-- the node at entry c, with its later siblings, can be searched in the window w; its run goes up to x
pub record ReadyNode (t : Slices) (g : Way) (v : Ends) (w : Window) (c x left room : ℕ) : Type 0 where
  pub nodes : Forest ℕ
  pub parent : Kind
  pub upto : ℕ
  pub spans : Spans t c upto nodes
  pub some : c < upto
  pub fit : Fit g v parent nodes
  pub stop : stop_of t c ≡ x
  pub ends : OkEnds v
  pub rule : OkRule g.rule
  pub alpha : w.alpha ≤ limit
  pub beta : w.beta ≤ limit
  pub holds : Holds t x
  pub within : left ≤ room

-- a leaf's height
spans-leaf : (t : Slices) (g : Way) (v : Ends) (k : Kind) (c e : ℕ) (F : Forest ℕ) → Spans t c e F → c < e → Fit g v k F → get_or t.kinds c 0 ≡ 0
    → get_or t.heights c 0 * g.rule.grain ≤ v.top
unfolding Spans Fit
spans-leaf t g v k c e end h lt f z = absurd (omega arith)
spans-leaf t g v k c e (leaf i w x rest) h lt f z = subst (λ (n : ℕ). n * g.rule.grain ≤ v.top) (sym h.4) f.2
spans-leaf t g v k c e (inner i w j under rest) h lt f z = absurd (omega (arith, code-pos j, h.1))

module _ (t : Slices) (g : Way) (v : Ends) (w : Window) (c x left room : ℕ) where
  ready-under : (k j : Kind) (e : ℕ) (F : Forest ℕ) → Spans t c e F → Fit g v k F → c < e → get_or t.kinds c 0 ≡ code_of j → stop_of t c ≡ x
      → OkEnds v → OkRule g.rule → w.alpha ≤ limit → w.beta ≤ limit → Holds t x → left ≤ room → ReadyChildren t g (g.own c) j w (c + 1) x left room
  unfolding Spans Fit
  ready-under k j e end h f lt z q o o2 p p' tb le = absurd (omega arith)
  ready-under k j e (leaf i y u rest) h f lt z q o o2 p p' tb le = absurd (omega (arith, code-pos j, h.1))
  ready-under k j e (inner i y j' under rest) h f lt z q o o2 p p' tb le =
      let same : j' ≡ j = code-inj j' j (sym h.1 ∙ z) in
      let is_u : Spans t (c + 1) x under = subst (λ (n : ℕ). Spans t (c + 1) n under) q h.3 in
      let own : Nested g v c = subst (Nested g v) h.0 f.3 in
      record {
        nodes = under;
        spans = is_u;
        some = spans-lt t (c + 1) x under is_u f.1;
        fit = subst₂ (λ (n : ℕ) (y : Kind). Fit g (g.own n) y under) h.0 same f.4;
        light = subst (λ (y : Kind). Light y under) same f.2;
        ends = record { order = own.order; top = le_trans own.top o.top };
        rule = o2;
        alpha = p;
        beta = p';
        holds = tb;
        within = le;
      }

  ready-room : (k : Kind) (e : ℕ) (F : Forest ℕ) → Spans t c e F → Fit g v k F → c < e → (get_or t.kinds c 0 ≡ 0 → ⊥) → Nested g v c
  unfolding Spans Fit
  ready-room k e end h f lt z = absurd (omega arith)
  ready-room k e (leaf i y u rest) h f lt z = absurd (z h.1)
  ready-room k e (inner i y j under rest) h f lt z = subst (Nested g v) h.0 f.3

-- The way of a child whose ends u were read: that of its parent, as its ends are the parent's where the lists are empty, and do not matter elsewhere.
ends_same : (G : ℕ) (H T : List ℕ) (v : Ends) (c n : ℕ) → ends_at G H T (ends_at G H T v c) n ≡ ends_at G H T v n
ends_same G H T v c n = pick (eqb (length T) 0)
  where
    pick : (b : Bool) → cond b (cond b v (record { bottom = get_or H c 0 * G; top = get_or T c 0 * G })) (record { bottom = get_or H n 0 * G; top = get_or T n 0 * G })
        ≡ cond b v (record { bottom = get_or H n 0 * G; top = get_or T n 0 * G })
    pick true = refl
    pick false = refl

way_same : (g : Rule) (H T : List ℕ) (v : Ends) (c : ℕ) {u : Ends} → u ≡ ends_at g.grain H T v c → way g u H T ≡ way g v H T
way_same g H T v c q =
    ap (λ (u : Ends). way g u H T) q ∙ λ i. record { rule = g; own = λ n. ends_same g.grain H T v c n i; rises = H; tops = T }

module _ {t : Slices} {g : Rule} {H T : List ℕ} {v : Ends} {w : Window} {c x left room : ℕ} (N : ReadyNode t (way g v H T) v w c x left room) where
  -- u is what was read of its ends
  pub ready-inner : (j : Kind) {u : Ends} → u ≡ ends_at g.grain H T v c → get_or t.kinds c 0 ≡ code_of j → ReadyChildren t (way g u H T) u j w (c + 1) x left room
  ready-inner j {u} q z =
      subst₂ (λ (y : Way) (u : Ends). ReadyChildren t y u j w (c + 1) x left room) (sym (way_same g H T v c q)) (sym q)
      (ready-under t (way g v H T) v w c x left room N.parent j N.upto N.nodes N.spans N.fit N.some z N.stop N.ends N.rule N.alpha N.beta N.holds N.within)

  -- what reading its ends asks
  pub ready-own : (get_or t.kinds c 0 ≡ 0 → ⊥) → 0 < length T
      → (c < length H) × (c < length T) × (get_or H c 0 * g.grain ≤ limit) × (get_or T c 0 * g.grain ≤ limit)
  ready-own z l =
      let own = ready-room t (way g v H T) v w c x left room N.parent N.upto N.nodes N.spans N.fit N.some z in
      let r = own.room l in
      let is : ends_at g.grain H T v c ≡ record { bottom = get_or H c 0 * g.grain; top = get_or T c 0 * g.grain } = rw (ne_eqb (length T) 0 (λ e. omega arith)) refl in
      let top : get_or T c 0 * g.grain ≤ limit = subst (λ (u : Ends). u.top ≤ limit) is (le_trans own.top N.ends.top) in
      let low : get_or H c 0 * g.grain ≤ get_or T c 0 * g.grain = subst (λ (u : Ends). u.bottom ≤ u.top) is own.order in
      (r.0, r.1, le_trans low top, top)

module _ {t : Slices} {g : Way} {v : Ends} {w : Window} {c x left room : ℕ} (N : ReadyNode t g v w c x left room) where
  pub ready-nested : (get_or t.kinds c 0 ≡ 0 → ⊥) → Nested g v c
  ready-nested z = ready-room t g v w c x left room N.parent N.upto N.nodes N.spans N.fit N.some z

  pub ready-leaf : get_or t.kinds c 0 ≡ 0 → get_or t.heights c 0 * g.rule.grain < 9223372036854775808
  ready-leaf z =
      omega (arith, spans-leaf t g v N.parent c N.upto N.nodes N.spans N.some N.fit z, N.ends.top)

-- what is told of a leaf, and of an inner node from what is told of its children
module _ (t : Slices) (g : Way) (v : Ends) (w : Window) (c left : ℕ) (came : List ℕ) where
  leaf-gives : (r : Found) (now : List ℕ) → get_or t.kinds c 0 ≡ 0 → Gives left r (leaf_seen v left c (get_or t.heights c 0 * g.rule.grain)) came now
      → (F : Forest ℕ) (e : ℕ) → Spans t c e F → c < e → Gives left r (node_seen g v left F w) came now
  unfolding Spans point put_from
  leaf-gives r now z L end e is lt = absurd (omega arith)
  leaf-gives r now z L (leaf i y h rest) e is lt =
      subst₂ (λ (n x : ℕ). Gives left r (leaf_seen v left n (x * g.rule.grain)) came now) (sym is.0) is.4 L
  leaf-gives r now z L (inner i y j under rest) e is lt = absurd (omega (arith, code-pos j, is.1))

  inner-gives : (x : ℕ) (j : Kind) (r : Found) (now : List ℕ) → get_or t.kinds c 0 ≡ code_of j → x ≡ stop_of t c → Told t g (g.own c) j w (c + 1) x left r came now
      → (F : Forest ℕ) (e : ℕ) → Spans t c e F → c < e → Gives left r (node_seen g v left F w) came now
  unfolding Spans
  inner-gives x j r now z q more end e is lt = absurd (omega arith)
  inner-gives x j r now z q more (leaf i y h rest) e is lt = absurd (omega (arith, code-pos j, is.1))
  inner-gives x j r now z q more (inner i y j' under rest) e is lt =
      subst₂ (λ (n : ℕ) (y : Kind). Gives left r (seen_in g (g.own n) left y under w) came now) (sym is.0) (code-inj j j' (sym z ∙ is.1))
      (more under (subst (λ (n : ℕ). Spans t (c + 1) n under) (sym q) is.3))

module _ {t : Slices} {g : Way} {v : Ends} {w : Window} {c left : ℕ} {came : List ℕ} where
  pub told_same : {r r' : Found} {now now' : List ℕ} → r ≡ r' → now ≡ now' → NodeTold t g v w c left r' came now' → NodeTold t g v w c left r came now
  told_same p q h = subst₂ (λ (r : Found) (now : List ℕ). NodeTold t g v w c left r came now) (sym p) (sym q) h

  pub told-leaf : {r : Found} {now : List ℕ} → get_or t.kinds c 0 ≡ 0 → Gives left r (leaf_seen v left c (get_or t.heights c 0 * g.rule.grain)) came now
      → NodeTold t g v w c left r came now
  told-leaf {r} {now} z L = record { tells = leaf-gives t g v w c left came r now z L }

-- u is what was read of its ends
pub told-inner : {t : Slices} {g : Rule} {H T : List ℕ} {v : Ends} {w : Window} {c left : ℕ} {came : List ℕ} {x : ℕ} {u : Ends} (j : Kind) {r : Found} {now : List ℕ}
    → u ≡ ends_at g.grain H T v c → get_or t.kinds c 0 ≡ code_of j → x ≡ stop_of t c → Told t (way g u H T) u j w (c + 1) x left r came now
    → NodeTold t (way g v H T) v w c left r came now
told-inner {t} {g} {H} {T} {v} {w} {c} {left} {came} {x} j {r} {now} p z q more =
    record { tells = inner-gives t (way g v H T) v w c left came x j r now z q (subst₂ (λ (y : Way) (u : Ends). Told t y u j w (c + 1) x left r came now) (way_same g H T v c p) p more) }

-- of children met when no read is left
pub told-spent : (t : Slices) (g : Way) {v : Ends} (k : Kind) (w : Window) (c e : ℕ) {left : ℕ} {came : List ℕ} {r : Found} → left ≡ 0 → r ≡ met_spent_in v
    → Told t g v k w c e left r came came
unfolding met_spent put_from
told-spent t g {v} k w c e {left} {came} {r} z q F is =
    subst₂ (λ (n : ℕ) (x : Found). Gives n x (seen_in g v n k F w) came came) (sym z) (sym q)
    (record { low = refl; high = refl; play = refl; reads = refl; spent = refl; leaves = refl })

-- ---- the loop over the children

-- before the first child of a node whose weights sum to N
abbrev pub start_at : Kind → Ends → (N : ℕ) → Window → State
start_at MAX v N w = record { alpha = w.alpha; beta = w.beta; low = v.bottom; high = v.bottom; play = NoPlay; other = 0 }
start_at MIN v N w = record { alpha = w.alpha; beta = w.beta; low = v.top; high = v.top; play = NoPlay; other = 0 }
start_at CHANCE v N w = sums_at v N w.alpha w.beta

begin-lift : (v : Ends) (N : ℕ) (k : Kind) (w : Window) → keep height_sums (frame_at v N) k (begin (frame_at v N) k w.alpha w.beta []) ≡ lift (start_at k v N w) no_play [] false
unfolding begin keep
begin-lift v N MAX w = refl
begin-lift v N MIN w = refl
begin-lift v N CHANCE w = refl

plays-start : (v : Ends) (N : ℕ) (k : Kind) (w : Window) → Plays (frame_at v N) k (start_at k v N w) no_play
plays-start v N MAX w = (refl, refl)
plays-start v N MIN w = (refl, refl)
plays-start v N CHANCE w = (refl, tt)

-- the frame of the node whose children these are
abbrev pub frame_of : Way → Ends → Forest ℕ → Frame ℕ
frame_of g v F = framed v.bottom v.top (grained g.rule.grain F)

-- The children of a node of kind k in the window w stand in the entries from c₀ up to e. Their search has come to the child at entry c with the
-- state s, and what it gives is what the search of the children that are left gives.
pub record Going (t : Slices) (g : Way) (v : Ends) (k : Kind) (w : Window) (c₀ e left₀ : ℕ) (came : List ℕ) (s : State) (c left : ℕ) (now : List ℕ) : Type 0 where
  pub all : Forest ℕ
  pub begun : Spans t c₀ e all
  pub nodes : Forest ℕ
  pub spans : Spans t c e nodes
  pub past : c₀ ≤ c
  pub some : c < e
  pub fit : Fit g v k nodes
  pub light : Light k all
  pub part : weigh nodes ≤ weigh all
  pub ends : OkEnds v
  pub rule : OkRule g.rule
  pub holds : Holds t e
  pub play : Play ℕ
  pub read : List ℕ
  pub plays : Plays (frame_of g v all) k s play
  pub spent : Bool
  pub ranked : Ranked (frame_of g v all) k (weigh (grained g.rule.grain nodes)) (lift s play read spent)
  pub small : Small limit (frame_of g v all) k (lift s play read spent)
  pub within : left₀ ≤ length came
  pub left_is : left + length read ≡ left₀
  pub leaves-are : now ≡ put_from came (length came - left₀) read
  pub so_far : seen_in g v left₀ k all w ≡ scan_sums height_sums natural (rules_of g left₀) (frame_of g v all) k (grained g.rule.grain nodes) (lift s play read spent)

pub going_start : {t : Slices} {g : Way} {v : Ends} (k : Kind) (w : Window) {c e left : ℕ} {came : List ℕ} (R : ReadyChildren t g v k w c e left (length came))
    → (left ≡ 0 → ⊥) → Going t g v k w c e left came (start_at k v (weigh (grained g.rule.grain R.nodes)) w) c left came
unfolding put_from
going_start {t} {g} {v} k w {c} {e} {left} {came} R more =
    let F = R.nodes in
    let f : Forest ℕ = grained g.rule.grain F in
    let st = step t c e F R.spans R.some in
    record {
      all = F;
      begun = R.spans;
      nodes = F;
      spans = R.spans;
      past = omega arith;
      some = R.some;
      fit = R.fit;
      light = R.light;
      part = omega arith;
      ends = R.ends;
      rule = R.rule;
      holds = R.holds;
      play = no_play;
      read = [];
      plays = plays-start v (weigh f) k w;
      spent = false;
      ranked = subst (λ (z : alg.State ℕ). Ranked (frame_of g v F) k (weigh f) z) (begin-lift v (weigh f) k w)
          (ranked-begin (frame_of g v F) k f w.alpha w.beta [] (fit-sound g v R.ends.order k F st.some R.fit));
      small = subst (λ (z : alg.State ℕ). Small limit (frame_of g v F) k z) (begin-lift v (weigh f) k w)
          (small-begin limit (frame_of g v F) k w.alpha w.beta [] R.alpha R.beta);
      within = R.within;
      left_is = omega arith;
      leaves-are = refl;
      so_far = cond-past (leb left 0) _ _ (lt-leb left 0 (omega (arith, more))) ∙ ap (scan_sums height_sums natural (rules_of g left) (frame_of g v F) k f) (begin-lift v (weigh f) k w);
    }

module _ {t : Slices} {g : Way} {v : Ends} {k : Kind} {w : Window} {c₀ e left₀ : ℕ} {came₀ : List ℕ} {s : State} {c left : ℕ} {came : List ℕ}
    (I : Going t g v k w c₀ e left₀ came₀ s c left came) where
  pub going_step : Step t c e I.nodes
  going_step = step t c e I.nodes I.spans I.some

  -- the list is as long as it was
  going-kept : length came ≡ length came₀
  going-kept = ap length I.leaves-are ∙ put-length came₀ (length came₀ - left₀) I.read

-- a C's child has a weight of at least 1, within the total
pub chance-weight : {t : Slices} {g : Way} {v : Ends} {w : Window} {c₀ e left₀ : ℕ} {came₀ : List ℕ} {s : State} {c left : ℕ} {came : List ℕ}
    (I : Going t g v CHANCE w c₀ e left₀ came₀ s c left came) → (0 < get_or t.weights c 0) × (get_or t.weights c 0 ≤ weigh I.all) × (weigh I.all ≤ 64)
chance-weight {t} {g} {v} I =
    let st = going_step I in
    let u = fit-weight g v CHANCE I.nodes st.some I.fit refl in
    (omega (arith, st.weight, u), omega (arith, st.weight, weigh-split I.nodes, I.part), I.light refl)

-- a number on a line's scale is at most 64 times as large
scaled_small : (f : Frame ℕ) (k : Kind) (x B : ℕ) → (is_chance k ≡ true → f.total ≤ 64) → x ≤ B → scaled f k x ≤ 64 * B
unfolding scaled
scaled_small f MAX x B l h = omega arith
scaled_small f MIN x B l h = omega arith
scaled_small f CHANCE x B l h = mul-le-mul (l refl) h

-- the numbers that a C keeps fit
pub chance-small : {t : Slices} {g : Way} {v : Ends} {w : Window} {c₀ e left₀ : ℕ} {came₀ : List ℕ} {s : State} {c left : ℕ} {came : List ℕ}
    (I : Going t g v CHANCE w c₀ e left₀ came₀ s c left came) → OkSums s
unfolding scaled
chance-small {g = g} {v = v} I =
    let f : Frame ℕ = frame_of g v I.all in
    let light : is_chance CHANCE ≡ true → f.total ≤ 64 = λ h. omega (arith, grained-weigh g.rule.grain I.all, I.light h) in
    let far = scaled_small f CHANCE limit limit light (omega arith) in
    let top = scaled_small f CHANCE v.top limit light I.ends.top in
    record {
      alpha = le_trans I.small.0 far;
      beta = le_trans I.small.1 far;
      low = omega (arith, I.ranked.1, I.ranked.2, top);
      high = le_trans I.ranked.2 top;
    }

-- the total N that was added up
pub chance-total : {t : Slices} {g : Way} {v : Ends} {w : Window} {c₀ e left₀ : ℕ} {came₀ : List ℕ} {s : State} {c left : ℕ} {came : List ℕ}
    (I : Going t g v CHANCE w c₀ e left₀ came₀ s c left came) {N : ℕ} → N ≡ weigh_at t.stops t.weights 1024 c₀ e → N ≡ weigh I.all
chance-total {t} {c₀ = c₀} {e = e} I q = q ∙ spans-weigh t 1024 c₀ e I.all I.begun (omega (arith, I.holds.few))

-- the margin m on its scale
pub chance-margin-is : {t : Slices} {g : Way} {v : Ends} {w : Window} {c₀ e left₀ : ℕ} {came₀ : List ℕ} {s : State} {c left : ℕ} {came : List ℕ}
    (I : Going t g v CHANCE w c₀ e left₀ came₀ s c left came) {N m : ℕ} → m ≡ N * g.rule.margin → N ≡ weigh I.all → m ≡ scaled (frame_of g v I.all) CHANCE g.rule.margin
unfolding scaled
chance-margin-is {g = g} I p q = p ∙ ap (λ (n : ℕ). n * g.rule.margin) (q ∙ sym (grained-weigh g.rule.grain I.all))

pub window-small : (v : Ends) (w : ℕ) (s : State) → OkEnds v → ((window_for (frame_at v 0) CHANCE w s).alpha ≤ limit) × ((window_for (frame_at v 0) CHANCE w s).beta ≤ limit)
unfolding lower upper
window-small v w s o = (omega (arith, o.order, o.top), omega (arith, o.top))

-- before a child is searched: entry c, its run up to x, in the window y; the children began at c₀ and go on to e
pub record Child (t : Slices) (g : Way) (v : Ends) (c₀ e c x left room : ℕ) (y : Window) : Type 0 where
  pub node : ReadyNode t g v y c x left room
  pub less : x - (c + 1) < e - c₀
  pub inside : c < x
  pub small : c < 1024

pub child-of : {t : Slices} {g : Way} {v : Ends} {k : Kind} {w : Window} {c₀ e left₀ : ℕ} {came₀ : List ℕ} {s : State} {c left : ℕ} {came : List ℕ}
    → Going t g v k w c₀ e left₀ came₀ s c left came → (x : ℕ) (y : Window) → x ≡ stop_of t c → y.alpha ≤ limit → y.beta ≤ limit
    → Child t g v c₀ e c x left (length came) y
child-of {t} {g} {v} {k} {w} {c₀} {e} {left₀} {came₀} {s} {c} {left} {came} I x y q p p' =
    let st = going_step I in
    let H = I.holds in
    record {
      node = record {
        nodes = I.nodes;
        parent = k;
        upto = e;
        spans = I.spans;
        some = I.some;
        fit = I.fit;
        stop = sym q;
        ends = I.ends;
        rule = I.rule;
        alpha = p;
        beta = p';
        holds = record {
          kinds = omega (arith, q, st.within, H.kinds);
          stops = omega (arith, q, st.within, H.stops);
          weights = omega (arith, q, st.within, H.weights);
          heights = omega (arith, q, st.within, H.heights);
          few = omega (arith, q, st.within, H.few);
        };
        within = omega (arith, I.left_is, I.within, going-kept I);
      };
      less = omega (arith, q, st.within, st.below, I.past);
      inside = omega (arith, q, st.below);
      small = omega (arith, I.some, H.few);
    }

-- what a call of `leaf_at` asks
pub child-leaf : (ns : List Node) {g : Way} {v : Ends} {c₀ e c x left room : ℕ} {y : Window} → Child (slices_in ns) g v c₀ e c x left room y → get_or (kinds_in ns) c 0 ≡ 0
    → (c < length ns) × (left ≤ room) × (c < 1024) × (get_or (heights_in ns) c 0 * g.rule.grain < 9223372036854775808)
child-leaf ns C z =
    (omega (arith, C.inside, C.node.holds.heights, length-map ns (λ (n : Node). n.height)), C.node.within, C.small, ready-leaf C.node z)

module _ {t : Slices} {g : Rule} {H T : List ℕ} {v : Ends} {c₀ e c x left room : ℕ} {y : Window} (C : Child t (way g v H T) v c₀ e c x left room y) where
  -- what a call of the search of kind j asks; u is what was read of the child's ends
  pub child-asks : (m : ℕ) → e - c₀ ≡ m → (j : Kind) {u : Ends} → u ≡ ends_at g.grain H T v c → get_or t.kinds c 0 ≡ code_of j
      → (x - (c + 1) < m) × ReadyChildren t (way g u H T) u j y (c + 1) x left room
  child-asks m q j p is = (omega (arith, C.less), ready-inner C.node j p is)

-- ---- after a child

-- the window that an M and an N hand on
abbrev pub window_of : State → Window
window_of s = record { alpha = s.alpha; beta = s.beta }

-- what is told of the child at entry c: an M and an N hand their own window on, a C a narrower one
abbrev pub ChildTold : {t : Slices} {g : Way} {v : Ends} {k : Kind} {w : Window} {c₀ e left₀ : ℕ} {came₀ : List ℕ} {s : State} {c left : ℕ} {came : List ℕ}
    → Going t g v k w c₀ e left₀ came₀ s c left came → Found → List ℕ → Type 0
ChildTold {t} {g} {v} {k} {s = s} {c = c} {left = left} {came = came} I r now =
    NodeTold t g v (window_for (frame_of g v I.all) k (get_or t.weights c 0) s) c left r came now

module _ {t : Slices} {g : Way} {v : Ends} {w : Window} {c₀ e left₀ : ℕ} {came₀ : List ℕ} {s : State} {c left : ℕ} {came : List ℕ} where
  module _ {r : Found} {now : List ℕ} where
    pub max-told : (I : Going t g v MAX w c₀ e left₀ came₀ s c left came) → NodeTold t g v (window_of s) c left r came now
        → ChildTold I r now
    unfolding lower upper
    max-told I h = h

    pub min-told : (I : Going t g v MIN w c₀ e left₀ came₀ s c left came) → NodeTold t g v (window_of s) c left r came now
        → ChildTold I r now
    unfolding lower upper
    min-told I h = h

    -- of the weight x that was read
    pub chance-told : (I : Going t g v CHANCE w c₀ e left₀ came₀ s c left came) {x : ℕ} {y : Window} → x ≡ get_or t.weights c 0
        → y ≡ window_for (frame_at v 0) CHANCE x s → NodeTold t g v y c left r came now → ChildTold I r now
    unfolding lower upper
    chance-told I q z h = subst (λ (y : Window). NodeTold t g v y c left r came now) (z ∙ ap (λ (x : ℕ). window_for (frame_at v 0) CHANCE x s) q) h

  pub chance-state : (I : Going t g v CHANCE w c₀ e left₀ came₀ s c left came) (r : Found) {x : ℕ} {s' : State} → x ≡ get_or t.weights c 0
      → s' ≡ after (frame_at v 0) CHANCE 0 x s r.low r.high → s' ≡ after (frame_of g v I.all) CHANCE c (get_or t.weights c 0) s r.low r.high
  unfolding update
  chance-state I r q z = z ∙ ap (λ (x : ℕ). after (frame_at v 0) CHANCE c x s r.low r.high) q

  pub max-state : (I : Going t g v MAX w c₀ e left₀ came₀ s c left came) (r : Found) {s' : State} → s' ≡ after (frame_at v 0) MAX c 0 s r.low r.high
      → s' ≡ after (frame_of g v I.all) MAX c (get_or t.weights c 0) s r.low r.high
  unfolding update
  max-state I r z = z

  pub min-state : (I : Going t g v MIN w c₀ e left₀ came₀ s c left came) (r : Found) {s' : State} → s' ≡ after (frame_at v 0) MIN c 0 s r.low r.high
      → s' ≡ after (frame_of g v I.all) MIN c (get_or t.weights c 0) s r.low r.high
  unfolding update
  min-state I r z = z

-- what a search returns for a node of this frame and kind that is left with the bounds low and high, on its scale
abbrev pub out_of : Frame ℕ → Kind → (low high : ℕ) → found.Play → (left : ℕ) → Bool → Found
out_of f k low high play left x = record { low = divided height_sums f k low; high = divided height_sums f k high; play = play; left = left; spent = x }

-- the search of the children that are left, F, after the child before them
module _ (g : Way) (v : Ends) (left : ℕ) (f : Frame ℕ) (k : Kind) (s : State) (p : Play ℕ) (l : List ℕ) (x : Bool) where
  abbrev seen_left : Forest ℕ → Seen ℕ
  seen_left F = sums_after height_sums natural (rules_of g left) f k (grained g.rule.grain F) (lift s p l x)

  abbrev left_with : (low high : ℕ) → Seen ℕ
  left_with low high = leave height_sums f k (record { low = low; high = high; play = p; read = l; spent = x })

  left-none : (F : Forest ℕ) → is_end F ≡ true → seen_left F ≡ left_with s.low s.high
  unfolding grained stop scan_sums finish
  left-none end q = refl
  left-none (leaf n w h rest) q = absurd (true-ne-false (sym q))
  left-none (inner n w j under rest) q = absurd (true-ne-false (sym q))

  left_cut : (F : Forest ℕ) → is_end F ≡ false → stops (scaled f k g.rule.margin) s ≡ true
      → seen_left F ≡ left_with (run_low f k s.low) (run_high f k s.high)
  unfolding grained stop cut
  left_cut end q h = absurd (true-ne-false q)
  left_cut (leaf n w x rest) q h = rw h refl
  left_cut (inner n w j under rest) q h = rw h refl

  left-more : (F : Forest ℕ) → is_end F ≡ false → stops (scaled f k g.rule.margin) s ≡ false
      → seen_left F ≡ scan_sums height_sums natural (rules_of g left) f k (grained g.rule.grain F) (lift s p l x)
  unfolding grained stop
  left-more end q h = absurd (true-ne-false q)
  left-more (leaf n w x rest) q h = rw h refl
  left-more (inner n w j under rest) q h = rw h refl

-- The loop stood at c with the state s; the child's run ends at x, r is what its search gave and s' the state after it, `now` the list; m is the margin on
-- the line's scale.
pub record Turn (t : Slices) (g : Way) (v : Ends) (k : Kind) (w : Window) (c₀ e left₀ m : ℕ) (came₀ : List ℕ) (c x : ℕ) (r : Found) (s' : State) (now : List ℕ) : Type 0 where
  pub s : State
  pub left : ℕ
  pub came : List ℕ
  pub going : Going t g v k w c₀ e left₀ came₀ s c left came
  pub stop : x ≡ stop_of t c
  pub told : ChildTold going r now
  pub state : s' ≡ after (frame_of g v going.all) k c (get_or t.weights c 0) s r.low r.high
  pub margin : m ≡ scaled (frame_of g v going.all) k g.rule.margin

module _ {t : Slices} {g : Way} {v : Ends} {k : Kind} {w : Window} {c₀ e left₀ : ℕ} {came₀ : List ℕ} {s : State} {c left : ℕ} {came : List ℕ}
    (I : Going t g v k w c₀ e left₀ came₀ s c left came) {r : Found} {now : List ℕ} (told : ChildTold I r now) where
  abbrev frame : Frame ℕ
  frame = frame_of g v I.all

  abbrev F : Forest ℕ
  F = I.nodes

  -- what the child's search gave, in Algorithm 1's words
  abbrev own : Seen ℕ
  own = node_seen g v left F (window_for frame k (weight_of F) s)

  own-gives : Gives left r own came now
  own-gives = subst (λ (x : ℕ). Gives left r (node_seen g v left F (window_for frame k x s)) came now) (going_step I).weight (told.tells F e I.spans I.some)

  own-between : Between frame own
  own-between = node-between g v left frame.total k F (window_for frame k (weight_of F) s) (going_step I).some I.fit

  pub told-within : (v.bottom ≤ r.low) × (r.low ≤ limit) × (r.high ≤ v.top)
  told-within =
      let G = own-gives in
      let B = own-between in
      (omega (arith, G.low, B.0), omega (arith, G.low, B.1, B.2, I.ends.top), omega (arith, G.high, B.2))

  -- the list
  abbrev listed : List ℕ
  listed = I.read ++ own.read

  left-next : r.left + length listed ≡ left₀
  left-next = omega (arith, own-gives.reads, I.left_is, length-append I.read own.read)

  -- where the child's leaves are listed
  place : length came - left ≡ length came₀ - left₀ + length I.read
  place = omega (arith, I.left_is, I.within, going-kept I)

  leaves-next : now ≡ put_from came₀ (length came₀ - left₀) listed
  leaves-next =
      own-gives.leaves ∙ ap₂ (λ (l : List ℕ) (n : ℕ). put_from l n own.read) I.leaves-are place
      ∙ put-put came₀ (length came₀ - left₀) I.read own.read

  -- the state
  abbrev played : Play ℕ
  played = prefer natural_sums k (number_of F) I.play (ahead I.read own)

  -- the weights to come
  abbrev others : ℕ
  others = weigh (grained g.rule.grain (rest_of F))

  ranked-now : Ranked frame k (weight_of F + others) (lift s I.play I.read I.spent)
  ranked-now = subst (λ (n : ℕ). Ranked frame k n (lift s I.play I.read I.spent)) (grained-split g.rule.grain F) I.ranked

  module _ (s' : State) (state : s' ≡ after frame k c (get_or t.weights c 0) s r.low r.high) where
    state-next : after frame k (number_of F) (weight_of F) s own.low own.high ≡ s'
    state-next =
        let st = going_step I in
        let G = own-gives in
        sym (state ∙ λ i. after frame k (st.number i) (st.weight i) s (G.low i) (G.high i))

    update-next : update natural_sums frame k (number_of F) (weight_of F) (lift s I.play I.read I.spent) (ahead I.read own) ≡ lift s' played listed own.spent
    update-next =
        update-lift frame k (number_of F) (weight_of F) s I.play I.read I.spent (ahead I.read own) ∙ ap (λ (z : State). lift z played listed own.spent) state-next

    seen_next : seen_in g v left₀ k I.all w ≡ seen_left g v left₀ frame k s' played listed own.spent (rest_of F)
    seen_next =
        I.so_far ∙ scan_step g v left left₀ I.read I.left_is frame.total k F s I.play I.spent (going_step I).some
        ∙ ap (λ (z : State). seen_left g v left₀ frame k z played listed own.spent (rest_of F)) state-next

    ranked-next : Ranked frame k others (lift s' played listed own.spent)
    ranked-next =
        subst (λ (z : alg.State ℕ). Ranked frame k others z) update-next
        (ranked-update frame k (number_of F) (weight_of F) others (lift s I.play I.read I.spent) (ahead I.read own) own-between ranked-now)

    small-next : Small limit frame k (lift s' played listed own.spent)
    small-next =
        subst (λ (z : alg.State ℕ). Small limit frame k z) update-next
        (small-update limit frame k (number_of F) (weight_of F) others (lift s I.play I.read I.spent) (ahead I.read own) I.ends.top own-between ranked-now I.small)

    plays-next : Plays frame k s' played
    plays-next =
        subst (λ (z : State). Plays frame k z played) state-next
        (plays-after frame k (number_of F) (weight_of F) s I.play (ahead I.read own) own-between.0 own-between.2 I.plays)

module _ {t : Slices} {g : Way} {v : Ends} {k : Kind} {w : Window} {c₀ e left₀ m : ℕ} {came₀ : List ℕ} {c x : ℕ} {r : Found} {s' : State} {now : List ℕ}
    (U : Turn t g v k w c₀ e left₀ m came₀ c x r s' now) where
  pub turn-less : e - x < e - c
  turn-less = omega (arith, U.stop, (going_step U.going).below, U.going.some)

  pub turn-margin : s'.alpha + m < 9223372036854775808
  turn-margin =
      let I = U.going in
      let f : Frame ℕ = frame_of g v I.all in
      let light : is_chance k ≡ true → f.total ≤ 64 = λ h. omega (arith, grained-weigh g.rule.grain I.all, I.light h) in
      omega (arith, (small-next I U.told s' U.state).0, scaled_small f k limit limit light (omega arith), U.margin, scaled_small f k g.rule.margin 40000000000000 light I.rule.margin)

  -- whatever the nodes are said to be, they are those
  told-all : (out : Found) → Gives left₀ out (seen_in g v left₀ k U.going.all w) came₀ now → Told t g v k w c₀ e left₀ out came₀ now
  told-all out h H is =
      subst (λ (f : Forest ℕ). Gives left₀ out (seen_in g v left₀ k f w) came₀ now) (spans-same t c₀ e U.going.all H U.going.begun is) h

  turn-gives : (low high : ℕ) →
      let f : Frame ℕ = frame_of g v U.going.all in
      let p : Play ℕ = played U.going U.told in
      let l : List ℕ = listed U.going U.told in
      let y : Bool = (own U.going U.told).spent in
      seen_left g v left₀ f k s' p l y (rest_of U.going.nodes) ≡ left_with g v left₀ f k s' p l y low high
      → Told t g v k w c₀ e left₀ (out_of f k low high s'.play r.left r.spent) came₀ now
  unfolding leave
  turn-gives low high q =
      let I = U.going in
      let f : Frame ℕ = frame_of g v I.all in
      told-all _
      (subst (λ (a : Seen ℕ). Gives left₀ (out_of f k low high s'.play r.left r.spent) a came₀ now)
      (sym (seen_next I U.told s' U.state ∙ q))
      (record {
        low = refl;
        high = refl;
        play = plays-number f k s' (played I U.told) (plays-next I U.told s' U.state);
        reads = left-next I U.told;
        spent = (own-gives I U.told).spent;
        leaves = leaves-next I U.told;
      }))

  pub turn_last : x ≡ e → Told t g v k w c₀ e left₀ (out_of (frame_of g v U.going.all) k s'.low s'.high s'.play r.left r.spent) came₀ now
  turn_last at-end =
      let I = U.going in
      turn-gives s'.low s'.high
      (left-none g v left₀ (frame_of g v I.all) k s' (played I U.told) (listed I U.told) (own I U.told).spent (rest_of I.nodes)
      (spans-last t (stop_of t c) e (rest_of I.nodes) (going_step I).rest (sym U.stop ∙ at-end)))

  some_left : (x ≡ e → ⊥) → is_end (rest_of U.going.nodes) ≡ false
  some_left ne = spans-more t (stop_of t c) e (rest_of U.going.nodes) (going_step U.going).rest (λ h. ne (U.stop ∙ h))

  -- y is what `stopped` answered
  stopped-is : {y z : Bool} → y ≡ stops m s' → y ≡ z → stops (scaled (frame_of g v U.going.all) k g.rule.margin) s' ≡ z
  stopped-is p q = ap (λ (n : ℕ). stops n s') (sym U.margin) ∙ sym p ∙ q

  pub turn-cut : (x ≡ e → ⊥) → {y : Bool} → y ≡ stops m s' → y ≡ true
      → let f : Frame ℕ = frame_of g v U.going.all in
      Told t g v k w c₀ e left₀ (out_of f k (run_low f k s'.low) (run_high f k s'.high) s'.play r.left r.spent) came₀ now
  turn-cut ne p q =
      let I = U.going in
      let f : Frame ℕ = frame_of g v I.all in
      turn-gives (run_low f k s'.low) (run_high f k s'.high)
      (left_cut g v left₀ f k s' (played I U.told) (listed I U.told) (own I U.told).spent (rest_of I.nodes) (some_left ne) (stopped-is p q))

  pub turn_on : (x ≡ e → ⊥) → {y : Bool} → y ≡ stops m s' → y ≡ false → Going t g v k w c₀ e left₀ came₀ s' x r.left now
  turn_on ne p q =
      let I = U.going in
      let h = U.told in
      let F = I.nodes in
      let st = going_step I in
      record {
        all = I.all;
        begun = I.begun;
        nodes = rest_of F;
        spans = subst (λ (n : ℕ). Spans t n e (rest_of F)) (sym U.stop) st.rest;
        past = omega (arith, U.stop, I.past, st.below);
        some = omega (arith, U.stop, st.within, ne);
        fit = fit-rest g v k F I.fit;
        light = I.light;
        part = omega (arith, weigh-split F, I.part);
        ends = I.ends;
        rule = I.rule;
        holds = I.holds;
        play = played I h;
        read = listed I h;
        spent = (own I h).spent;
        plays = plays-next I h s' U.state;
        ranked = ranked-next I h s' U.state;
        small = small-next I h s' U.state;
        within = I.within;
        left_is = left-next I h;
        leaves-are = leaves-next I h;
        so_far = seen_next I h s' U.state ∙ left-more g v left₀ (frame_of g v I.all) k s' (played I h) (listed I h) (own I h).spent (rest_of F) (some_left ne) (stopped-is p q);
      }

-- ---- a C, whose total N was added up

module _ {t : Slices} {g : Way} {v : Ends} {w : Window} {c e left room : ℕ} (R : ReadyChildren t g v CHANCE w c e left room) {N : ℕ}
    (sum_is_lem : N ≡ weigh_at t.stops t.weights 1024 c e) where
  ready-total : N ≡ weigh R.nodes
  ready-total = sum_is_lem ∙ spans-weigh t 1024 c e R.nodes R.spans (omega (arith, R.holds.few))

  pub ready-light : N ≤ 64
  ready-light = omega (arith, ready-total, R.light refl)

-- before the first child, in the state s
pub chance-begins : {t : Slices} {g : Way} {v : Ends} {w : Window} {c e left : ℕ} {came : List ℕ} (R : ReadyChildren t g v CHANCE w c e left (length came)) → (left ≡ 0 → ⊥)
    → {N : ℕ} {s : State} → N ≡ weigh_at t.stops t.weights 1024 c e → s ≡ sums_at v N w.alpha w.beta → Going t g v CHANCE w c e left came s c left came
chance-begins {t} {g} {v} {w} {c} {e} {left} {came} R more sum_is_lem q =
    subst (λ (z : State). Going t g v CHANCE w c e left came z c left came)
    (ap (λ (n : ℕ). sums_at v n w.alpha w.beta) (grained-weigh g.rule.grain R.nodes ∙ sym (ready-total R sum_is_lem)) ∙ sym q) (going_start CHANCE w R more)

-- where it is left with the state s': the two sums are divided, and that is what is told
pub chance-tells : {t : Slices} {g : Way} {v : Ends} {w : Window} {c₀ e left₀ m N : ℕ} {came₀ : List ℕ} {c x : ℕ} {r : Found} {s' : State} {now : List ℕ}
    (U : Turn t g v CHANCE w c₀ e left₀ m came₀ c x r s' now) {out : Found} → N ≡ weigh_at t.stops t.weights 1024 c₀ e → out ≡ left_in N s' r.left r.spent
    → Told t g v CHANCE w c₀ e left₀ (out_of (frame_of g v U.going.all) CHANCE s'.low s'.high s'.play r.left r.spent) came₀ now
    → Told t g v CHANCE w c₀ e left₀ out came₀ now
unfolding divided
chance-tells {t} {g} {v} {w} {c₀} {e} {left₀} {m} {N} {came₀} {c} {x} {r} {s'} {now} U sum_is_lem q told =
    subst (λ (z : Found). Told t g v CHANCE w c₀ e left₀ z came₀ now)
    (sym (q ∙ ap (λ (n : ℕ). left_in n s' r.left r.spent) (chance-total U.going sum_is_lem ∙ sym (grained-weigh g.rule.grain U.going.all)))) told
