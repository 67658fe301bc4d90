-- An accepted table can be searched, and what `search` gives for it is the search of the table.
use Prim.Native.Nat.{ℕ, suc, ◌+◌, ◌*◌, ◌≤◌, ◌<◌}
use mathlib.Core.Path.{◌≡◌, refl, sym, ap, subst, ◌∙◌}
use mathlib.Core.Bool.{Bool}
use mathlib.Core.List.{List, []}
use native.Mathlib.Omega.{arith}
use lib.ListN.{length, get_or}
use Rattle.line.specs.Inside.{Weighs}
use Rattle.line.specs.Refusal.{fine}
use Rattle.line.specs.Line.{larger}
use Rattle.table.specs.Tree.{Kind, MAX, Forest, end, leaf, inner, is_chance}
use Rattle.table.specs.Table.{Table, read_text, greatest, grain}
use Rattle.table.specs.Inside.{Slices, Spans, Holds, lent, height_tree}
use Rattle.table.specs.Accepted.{span, OkTotal, Filled, Totals, Proper}
use Rattle.table.proofs.Nodes.{code-pos}
use Rattle.table.proofs.Spans.{spans-le}
use Rattle.table.proofs.Accepted.{accepted-grain, accepted-lent, accepted-holds, heights-rooted, heights-proper, heights-filled, heights-totals}
use Rattle.table.proofs.Ends.{span-grains}
use Rattle.search.specs.Search.{Frame, Seen, Rules, limited, point, met_spent, met}
use Rattle.search.specs.Sums.{root_sums}
use Rattle.search.specs.Inside.{natural, height_sums, grained, height_searched}
use Rattle.search.proofs.Heights.{Sound, Within}
use Rattle.search.proofs.Grains.{plain}
use Rattle.search.proofs.Table.{tree-within}
use Rattle.search.proofs.Summed.{heights-summed}
use Rattle.steps.specs.declared.Rule.{Rule}
use Rattle.steps.specs.declared.Ends.{Ends}
use Rattle.steps.specs.declared.Found.{Found}
use Rattle.steps.specs.Inside.{frame_at, leaf_seen}
use Rattle.searching.specs.Inside.{Way, way, rules_of, Pays, Fit, ReadyRoot, root_seen, Shows, Searched}
use Rattle.searching.proofs.Frames.{SameAt, root-same}

-- the numbers of a table, and the margin
abbrev pub rule_of : Table → ℕ → Rule
rule_of t ε = record { margin = ε; grain = grain t }

abbrev pub ends_of : Table → Ends
ends_of t = record { bottom = 0; top = span t.head * grain t }

abbrev pub way_of : Table → ℕ → (rises tops : List ℕ) → Way
way_of t ε rises tops = way (rule_of t ε) (ends_of t) rises tops

pays : (k : Kind) (T w : ℕ) → Weighs (is_chance k) T w → Pays k w
pays k T w h e = (subst (λ (u : Bool). Weighs u T w) e h).0

-- ---- nodes by their numbers

-- Q of the number of each inner node
abbrev pub EachInner : (ℕ → Type 0) → Forest ℕ → Type 0
EachInner Q end = Unit {0}
EachInner Q (leaf n w h rest) = EachInner Q rest
EachInner Q (inner n w k under rest) = Q n × EachInner Q under × EachInner Q rest

pub each-inner : (Q : ℕ → Type 0) (t : Slices) (c e : ℕ) (F : Forest ℕ) → Spans t c e F → ((i : ℕ) → i < e → (get_or t.kinds i 0 ≡ 0 → ⊥) → Q i) → EachInner Q F
unfolding Spans
each-inner Q t c e end x f = tt
each-inner Q t c e (leaf n w h rest) x f = each-inner Q t (c + 1) e rest x.5 f
each-inner Q t c e (inner n w k under rest) x f =
    let j : ℕ = get_or t.stops c 0 in
    let a = spans-le t (c + 1) j under x.3 in
    let b = spans-le t j e rest x.4 in (
      f n (omega (arith, x.0)) (λ z. omega (arith, code-pos k, x.1, ap (λ (m : ℕ). get_or t.kinds m 0) x.0, z)),
      each-inner Q t (c + 1) j under x.3 (λ i l. f i (omega arith)),
      each-inner Q t j e rest x.4 f,
    )

-- frames that are the same hold the same
within_same : (fr fr2 : ℕ → Forest ℕ → Frame ℕ) (ε : ℕ) (full : List ℕ → Bool) (e : Frame ℕ) (f : Forest ℕ) → SameAt height_sums natural fr fr2 ε full f → Within fr2 e f → Within fr e f
within_same fr fr2 ε full e end h i = tt
within_same fr fr2 ε full e (leaf n w v rest) h i = (i.0, i.1, within_same fr fr2 ε full e rest h i.2)
within_same fr fr2 ε full e (inner n w k under rest) h i =
    let own = subst (λ (d : Frame ℕ). (e.bottom ≤ d.bottom) × (d.top ≤ e.top) × Sound d k under × Within fr d under) (sym h.0)
    (i.0, i.1, i.2, within_same fr fr2 ε full (fr2 n under) under h.1 i.3) in
    (own.0, own.1, own.2, own.3, within_same fr fr2 ε full e rest h.2 i.4)

-- ---- what the slices must have

-- the number n stands in both lists, if they are not empty
abbrev pub Listed : Way → ℕ → Type 0
Listed g n = 0 < length g.tops → (n < length g.rises) × (n < length g.tops)

module _ (g : Way) (left T K : ℕ) (ok : ℕ → Type 0) where
  pub fits : (v : Ends) (N : ℕ) (k : Kind) (d c : ℕ) (F : Forest ℕ) → Filled F → Totals OkTotal F → Proper T K ok d c (is_chance k) F → EachInner (Listed g) F
      → Within (rules_of g left).frame (frame_at v N) (grained g.rule.grain F) → Fit g v k F
  unfolding Fit grained
  fits v N k d c end f b p l i = tt
  fits v N k d c (leaf n w h rest) f b p l i = (pays k T w p.0, i.0, i.1, fits v N k d c rest f b p.4 l i.2)
  fits v N k d c (inner n w j under rest) f b p l i = (
    pays k T w p.0,
    f.0,
    (λ e. (b.0 e).1),
    record { bottom = i.0; order = i.2.ends; top = i.1; room = l.0 },
    fits (g.own n) _ j (suc d) _ under f.1 b.1 p.3 l.1 i.3,
    fits v N k d c rest f.2 b.2 p.4 l.2 i.4,
  )

-- ---- an accepted table by its slices, whose inner nodes have the frames fr

module _ (s : List ℕ) (t : Table) (h : read_text s ≡ fine t) (ε : ℕ) (small : ε ≤ 40000000000000) (u : Slices) (rises tops : List ℕ)
    (spans : Spans u 0 (length t.lines) (height_tree t)) (holds : Holds u (length t.lines)) (fr : ℕ → Forest ℕ → Frame ℕ) where
  abbrev W : Way
  W = way_of t ε rises tops

  -- as many reads as the list has entries
  module _ (left : ℕ) (same : SameAt height_sums natural (rules_of W left).frame fr ε (limited left) (grained (grain t) (height_tree t)))
      (listed : EachInner (Listed W) (height_tree t))
      (within : Within fr (record { bottom = 0; top = span t.head * grain t; total = 0 }) (grained (grain t) (height_tree t))) where
    pub table-ready : ReadyRoot u W (ends_of t) (length t.lines)
    table-ready =
        record {
          nodes = height_tree t;
          spans = spans;
          rooted = heights-rooted s t h;
          fit = fits W left (larger t.head) (greatest t.lines) (λ (x : ℕ). x ≤ span t.head) (ends_of t) 0 MAX 0 0 (height_tree t) (heights-filled s t h)
              (heights-totals s t h) (heights-proper s t h) listed
              (within_same (rules_of W left).frame fr ε (limited left) (frame_at (ends_of t) 0) (grained (grain t) (height_tree t)) same within);
          ends = record { order = omega arith; top = omega (arith, span-grains s t h) };
          rule = record { margin = small; grain = accepted-grain s t h };
          holds = holds;
        }

    -- what was found is the search with these frames, where a lone leaf gives the same
    pub table-searched : ((n x : ℕ) → let R2 : Rules ℕ = record { frame = fr; margin = ε; full = limited left } in leaf_seen (ends_of t) left n x ≡ met R2 (fr n end) [] (point n x []))
        → (r : Found) (came now : List ℕ) → length came ≡ left → Searched u W (ends_of t) (length t.lines) r came now
        → Shows r (root_sums height_sums natural (record { frame = fr; margin = ε; full = limited left }) (grained (grain t) (height_tree t))) came now
    unfolding table-ready
    table-searched lone r came now q told =
        subst (λ (a : Seen ℕ). Shows r a came now)
        (ap (λ (k : ℕ). root_seen W (ends_of t) k (height_tree t)) q ∙ root-same W (ends_of t) left (height_tree t) fr (heights-rooted s t h) same lone) (told table-ready)

-- ---- the plain search has no list, and every node the table's ends

plain-same : (t : Table) (ε : ℕ) (rises : List ℕ) (left : ℕ) (f : Forest ℕ)
    → SameAt height_sums natural (rules_of (way_of t ε rises []) left).frame (plain (span t.head * grain t)) ε (limited left) f
plain-same t ε rises left end = tt
plain-same t ε rises left (leaf n w h rest) = plain-same t ε rises left rest
plain-same t ε rises left (inner n w k under rest) = (refl, plain-same t ε rises left under, plain-same t ε rises left rest)

each-listed : (g : Way) (F : Forest ℕ) → length g.tops ≡ 0 → EachInner (Listed g) F
each-listed g end z = tt
each-listed g (leaf n w h rest) z = each-listed g rest z
each-listed g (inner n w k under rest) z = ((λ l. absurd (omega arith)), each-listed g under z, each-listed g rest z)

module _ (s : List ℕ) (t : Table) (h : read_text s ≡ fine t) (ε : ℕ) (small : ε ≤ 40000000000000) (K S W H : List ℕ)
    (room_k : length t.lines ≤ length K) (room_s : length t.lines ≤ length S) (room_w : length t.lines ≤ length W) (room_h : length t.lines ≤ length H) where
  abbrev u : Slices
  u = lent t K S W H

  abbrev far : ℕ
  far = span t.head * grain t

  abbrev plainly : Way
  plainly = way_of t ε [] []

  spans : Spans u 0 (length t.lines) (height_tree t)
  spans = accepted-lent s t h K S W H room_k room_s room_w room_h

  holds : Holds u (length t.lines)
  holds = accepted-holds s t h K S W H room_k room_s room_w room_h

  same : (left : ℕ) → SameAt height_sums natural (rules_of plainly left).frame (plain far) ε (limited left) (grained (grain t) (height_tree t))
  same left = plain-same t ε [] left (grained (grain t) (height_tree t))

  pub accepted-search-ready : ReadyRoot u plainly (ends_of t) (length t.lines)
  accepted-search-ready = table-ready s t h ε small u [] [] spans holds (plain far) 0 (same 0) (each-listed plainly (height_tree t) refl) (tree-within s t h)

  -- what was found is the search of the table, within a budget of as many reads as the list has entries
  pub accepted-searched : (r : Found) (came now : List ℕ) → Searched u plainly (ends_of t) (length t.lines) r came now → Shows r (height_searched t ε (limited (length came))) came now
  unfolding met_spent
  accepted-searched r came now told =
      subst (λ (a : Seen ℕ). Shows r a came now) (heights-summed s t h ε (limited (length came)))
      (table-searched s t h ε small u [] [] spans holds (plain far) (length came) (same (length came)) (each-listed plainly (height_tree t) refl) (tree-within s t h) (λ n x. refl) r came now refl told)
