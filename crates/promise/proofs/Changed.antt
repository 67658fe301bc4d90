-- Two accepted tables that differ in utilities of unread leaves alone: the same answer, and what it says is still true; with the index too, where it is
-- unchanged.
use Prim.Native.Nat.{ℕ, ◌+◌}
use mathlib.Core.Path.{◌≡◌, refl, sym, ap, ap₂, subst, ◌∙◌}
use mathlib.Core.Bool.{Bool, true}
use mathlib.Core.List.{List, [], ◌++◌, append_assoc, append-nil}
use mathlib.Core.Option.{Option, some}
use lib.IntN.{ℤ, pos, ◌+ℤ◌, ◌*ℤ◌}
use lib.Signed.{le_z}
use Rattle.line.specs.declared.Head.{Head}
use Rattle.line.specs.Line.{totals}
use Rattle.line.specs.Refusal.{fine}
use Rattle.table.specs.Tree.{Forest, weigh, powers, uses, grain_of}
use Rattle.table.specs.Table.{Table, tree, read_text, grain}
use Rattle.index.specs.Index.{Ends, ends_under, entries, index_of}
use Rattle.worth.specs.Worth.{worth_of}
use Rattle.search.specs.Search.{Frame, Seen, unlimited, framed, search_root, node_of}
use Rattle.search.specs.Whole.{whole, in_grains, rules, searched, searched_until, whole_own, own_rules, searched_own}
use Rattle.search.proofs.Own.{lowest-grains, highest-grains}
use Rattle.promise.specs.Play.{play_worth}
use Rattle.promise.specs.Unread.{ReadBy, Alike, alike_end, alike-leaf, alike-inner}
use Rattle.promise.proofs.Unread.{SameFrames, frames-alike, unread-root}
use Rattle.promise.proofs.Demand.{contains, play-near}
use Rattle.promise.proofs.Own.{own-contains, own-play-near}

alike-grains : {P : ℕ → Type 0} (G : ℕ) {f g : Forest ℤ} → Alike P f g → Alike P (in_grains G f) (in_grains G g)
unfolding in_grains
alike-grains G alike_end = alike_end
alike-grains G (alike-leaf q a) = alike-leaf (λ p. ap (λ (v : ℤ). v *ℤ pos G) (q p)) (alike-grains G a)
alike-grains G (alike-inner u a) = alike-inner (alike-grains G u) (alike-grains G a)

alike-weigh : {A : Type 0} {P : ℕ → Type 0} {f g : Forest A} → Alike P f g → weigh f ≡ weigh g
unfolding weigh
alike-weigh alike_end = refl
alike-weigh (alike-leaf {w = w} q a) = ap (λ (x : ℕ). w + x) (alike-weigh a)
alike-weigh (alike-inner {w = w} u a) = ap (λ (x : ℕ). w + x) (alike-weigh a)

-- ---- no utility stands in the uses of a total

alike-uses : {P : ℕ → Type 0} (t : ℕ) {f g : Forest ℤ} → Alike P f g → uses t f ≡ uses t g
unfolding uses
alike-uses t alike_end = refl
alike-uses t (alike-leaf q a) = alike-uses t a
alike-uses t (alike-inner u a) = rw (alike-weigh u, alike-uses t u, alike-uses t a) refl

pub alike-grain : {P : ℕ → Type 0} (ts : List ℕ) {f g : Forest ℤ} → Alike P f g → grain_of ts f ≡ grain_of ts g
alike-grain ts a i = powers ts (λ (t : ℕ). alike-uses t a i)

alike-table : {P : ℕ → Type 0} (t u : Table) → u.head ≡ t.head → Alike P (tree t) (tree u) → grain u ≡ grain t
alike-table t u same alike = ap (λ (h : Head). grain_of (totals h) (tree u)) same ∙ sym (alike-grain (totals t.head) alike)

-- ---- the same header, and trees that differ in unread leaves alone

module _ (a b : List ℕ) (t u : Table) (p : read_text a ≡ fine t) (q : read_text b ≡ fine u) (ε : ℕ) (full : List ℕ → Bool) (same : u.head ≡ t.head)
    (alike : Alike (ReadBy (searched_until t ε full)) (tree t) (tree u)) where
  pub same-grain : grain u ≡ grain t
  same-grain = alike-table t u same alike

  -- the search from the header, G and the tree
  abbrev search_of : Head → ℕ → Forest ℤ → Seen ℤ
  search_of h G f =
      search_root whole
      (record { frame = λ (n : ℕ) (f : Forest ℤ). framed (h.lowest *ℤ pos G) (h.highest *ℤ pos G) f; margin = ε; full = full })
      (in_grains G f)

  -- a frame of the table's ends
  abbrev framed_by : Table → ℕ → Frame ℤ
  framed_by t N = record { bottom = t.head.lowest *ℤ pos (grain t); top = t.head.highest *ℤ pos (grain t); total = N }

  -- "The same answer means that every part of it is equal, low, high, play and number of leaves read, and every entry of the reading sequence too"
  pub same_answer : searched_until u ε full ≡ searched_until t ε full
  same_answer =
      ap₂ (λ (h : Head) (G : ℕ). search_of h G (tree u)) same same-grain
      ∙ sym
      (unread-root whole (rules t ε full) (in_grains (grain t) (tree t)) (in_grains (grain t) (tree u)) (alike-grains (grain t) alike)
      (frames-alike (rules t ε full).frame (λ n x y i. ap (framed_by t) (alike-weigh i)) (alike-grains (grain t) alike)))

  -- "the exact worth, taken afresh with the new utilities, lies within those same bounds"
  pub still-contains : (le_z (searched_until t ε full).low (worth_of u) ≡ true) × (le_z (worth_of u) (searched_until t ε full).high ≡ true)
  still-contains = subst (λ (r : Seen ℤ). (le_z r.low (worth_of u) ≡ true) × (le_z (worth_of u) r.high ≡ true)) same_answer (contains b u q ε full)

-- "and .. the play's worth, taken afresh too, is within the margin of it", without a budget
pub still-near : (a b : List ℕ) (t u : Table) → read_text a ≡ fine t → read_text b ≡ fine u → (ε : ℕ) → u.head ≡ t.head
    → Alike (ReadBy (searched t ε)) (tree t) (tree u) → (m : ℕ) → node_of (searched t ε).play ≡ some m
    → (v : ℤ) × (play_worth u m ≡ some v) × (le_z v (worth_of u +ℤ pos ε) ≡ true) × (le_z (worth_of u) (v +ℤ pos ε) ≡ true)
still-near a b t u p q ε same alike m e =
    play-near b u q ε m (ap (λ (r : Seen ℤ). node_of r.play) (same_answer a b t u p q ε unlimited same alike) ∙ e)

-- ---- with the index, where it is unchanged

-- the same entries, and so the same frames
frames-index : {P : ℕ → Type 0} (ε G : ℕ) {f g : Forest ℤ} → Alike P f g → (xs ys : List (Option Ends)) → entries f ++ xs ≡ entries g ++ ys
    → SameFrames (own_rules ε).frame (in_grains G f) (in_grains G g) × (xs ≡ ys)
unfolding entries in_grains
frames-index ε G alike_end xs ys e = (tt, e)
frames-index ε G (alike-leaf {rest = rest} {rest2 = rest2} q a) xs ys e =
    let e2 : entries rest ++ xs ≡ entries rest2 ++ ys = cc in
    frames-index ε G a xs ys e2
frames-index ε G (alike-inner {under = under} {under2 = under2} {rest = rest} {rest2 = rest2} u a) xs ys e =
    let e1 : ends_under under ≡ ends_under under2 = cc in
    let e2 : (entries under ++ entries rest) ++ xs ≡ (entries under2 ++ entries rest2) ++ ys = cc in
    let x = frames-index ε G u (entries rest ++ xs) (entries rest2 ++ ys)
    (sym (append_assoc (entries under) (entries rest) xs) ∙ e2 ∙ append_assoc (entries under2) (entries rest2) ys) in
    let y = frames-index ε G a xs ys x.1 in
    let low = lowest-grains G under ∙ ap (λ (z : Ends). z.low *ℤ pos G) e1 ∙ sym (lowest-grains G under2) in
    let high = highest-grains G under ∙ ap (λ (z : Ends). z.high *ℤ pos G) e1 ∙ sym (highest-grains G under2) in
    let weight = alike-weigh (alike-grains G u) in
    ((λ i. record { bottom = low i; top = high i; total = weight i }, x.0, y.0), y.1)

module _ (a b : List ℕ) (t u : Table) (p : read_text a ≡ fine t) (q : read_text b ≡ fine u) (ε : ℕ) (same : u.head ≡ t.head)
    (alike : Alike (ReadBy (searched_own t ε)) (tree t) (tree u)) (index : index_of u ≡ index_of t) where
  pub own-same-grain : grain u ≡ grain t
  own-same-grain = alike-table t u same alike

  -- "What demand 3 says of unread leaves holds provided the index is unchanged": the same answer
  pub own-same-answer : searched_own u ε ≡ searched_own t ε
  own-same-answer =
      ap (λ (G : ℕ). search_root whole_own (own_rules ε) (in_grains G (tree u))) own-same-grain
      ∙ sym
      (unread-root whole_own (own_rules ε) (in_grains (grain t) (tree t)) (in_grains (grain t) (tree u)) (alike-grains (grain t) alike)
      (frames-index ε (grain t) alike [] [] (append-nil (index_of t) ∙ sym index ∙ sym (append-nil (index_of u)))).0)

  -- the exact worth, taken afresh, lies within those same bounds
  pub own-still-contains : (le_z (searched_own t ε).low (worth_of u) ≡ true) × (le_z (worth_of u) (searched_own t ε).high ≡ true)
  own-still-contains = subst (λ (r : Seen ℤ). (le_z r.low (worth_of u) ≡ true) × (le_z (worth_of u) r.high ≡ true)) own-same-answer (own-contains b u q ε)

  -- and the play's worth, taken afresh too, is within the margin of it
  pub own-still-near : (m : ℕ) → node_of (searched_own t ε).play ≡ some m
      → (v : ℤ) × (play_worth u m ≡ some v) × (le_z v (worth_of u +ℤ pos ε) ≡ true) × (le_z (worth_of u) (v +ℤ pos ε) ≡ true)
  own-still-near m e = own-play-near b u q ε m (ap (λ (r : Seen ℤ). node_of r.play) own-same-answer ∙ e)
