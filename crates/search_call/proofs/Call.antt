-- What the search of an accepted text gives.
use Rattle.std.proofs.Common.{Ok}
use Prim.Native.Nat.{ℕ, zero, suc, min, ◌-◌, ◌≤◌, ◌<◌}
use mathlib.Core.Path.{◌≡◌, refl, sym, ap, ap₂, subst, ◌∙◌}
use mathlib.Core.Bool.{true, false}
use mathlib.Core.List.{List, [], ◌∷◌, ◌++◌, append_assoc}
use native.Mathlib.Omega.{arith}
use borrow.Author.Rules.{sfits_of}
use borrow.Author.Tests.{lt-ltb, le-ltb, ltb-false}
use lib.Dec.{ltb}
use lib.ListN.{length, take, drop, length-take}
use lib.IntN.{ℤ, pos, negsuc, ◌+ℤ◌, ◌-ℤ◌, ◌*ℤ◌}
use lib.Signed.{lt_z}
use mir.Syntax.{w64}
use mir.Val.{to_z, of_z}
use mir.ValLaws.{to_z-of_z}
use Rattle.line.specs.declared.Refusal.TheVariants.{NoRoom, BadMargin, BadBudget}
use Rattle.line.specs.Refusal.{Verdict, refused, fine, unless}
use Rattle.line.specs.Line.{to_nat}
use Rattle.line.proofs.Checks.{or_left, or_right}
use Rattle.line.proofs.Signs.{true-ne-false}
use Rattle.table.specs.declared.Summary.{Summary}
use Rattle.table.specs.Tree.{leaves}
use Rattle.table.specs.Table.{Table, read_text, tree, summary, grain}
use Rattle.table.specs.Slices.{laid}
use Rattle.table.specs.Inside.{slices}
use Rattle.table.specs.Root.{play_of}
use Rattle.table.proofs.Accepted.{accepted-leaves}
use Rattle.table.proofs.Ends.{span-grains}
use Rattle.scale.specs.Inside.{scale_for}
use Rattle.scale.proofs.Taken.{zeros, zeros-enough, Taken, of-table}
use Rattle.search.specs.Search.{Seen, limited, node_of}
use Rattle.search.specs.Inside.{height_searched}
use Rattle.search.specs.Whole.{searched, searched_until, searched_within}
use Rattle.search.proofs.Table.{heights-order, shifted, difference-is}
use Rattle.search.proofs.Within.{budget-met, greatest-budget}
use Rattle.steps.specs.declared.Rule.{Rule}
use Rattle.steps.specs.declared.Ends.{Ends}
use Rattle.steps.specs.declared.Found.{Found}
use Rattle.searching.specs.Inside.{way, ReadyRoot, Shows, Searched}
use Rattle.searching.proofs.Ready.{accepted-search-ready, accepted-searched}
use Rattle.search_call.specs.Inside.{rule_for, ends_for, bounds_for}
use Rattle.search_call.specs.Call.{beyond, bad_margin, bad_budget, Sought, sought, sought_within, bounds_of, search_answer, search_list, within_call, within_reads}

-- ---- the search's own refusals

module _ (t : Table) (m b : ℤ) (room : ℕ) where
  pub sought-margin : bad_margin m ≡ true → sought_within (fine t) m b room ≡ refused BadMargin
  unfolding unless
  sought-margin x = rw x refl

  pub sought-budget : bad_margin m ≡ false → bad_budget b ≡ true → sought_within (fine t) m b room ≡ refused BadBudget
  unfolding unless
  sought-budget x y = rw (x, y) refl

  pub sought-room : bad_margin m ≡ false → bad_budget b ≡ false → room < leaves (tree t) → sought_within (fine t) m b room ≡ refused NoRoom
  unfolding unless
  sought-room x y l = rw (x, y, lt-ltb room (leaves (tree t)) l) refl

  pub sought-fine : bad_margin m ≡ false → bad_budget b ≡ false → leaves (tree t) ≤ room
      → sought_within (fine t) m b room ≡ fine (record { table = t; seen = searched_within t (to_nat m) (to_nat b) })
  unfolding unless
  sought-fine x y l = rw (x, y, le-ltb room (leaves (tree t)) l) refl

-- without a budget
pub plain-fine : (t : Table) (m : ℤ) (room : ℕ) → bad_margin m ≡ false → leaves (tree t) ≤ room
    → sought (fine t) m room ≡ fine (record { table = t; seen = searched t (to_nat m) })
unfolding unless
plain-fine t m room x l = rw (x, le-ltb room (leaves (tree t)) l) refl

-- "where none is named, .. it is 1,024"
pub default-budget : (s : List ℕ) (m : ℤ) (room : ℕ) → sought_within (read_text s) m (pos 1024) room ≡ sought (read_text s) m room
unfolding unless
default-budget s m room = at (read_text s) refl
  where
    at : (v : Verdict Table) → read_text s ≡ v → sought_within v m (pos 1024) room ≡ sought v m room
    at (refused r) p = refl
    at (fine t) p =
        ap (λ (x : Seen ℤ). unless (record { holds = bad_margin m; gives = BadMargin } ∷ record { holds = ltb room (leaves (tree t)); gives = NoRoom } ∷ []) (record { table = t; seen = x }))
        (greatest-budget s t p (to_nat m))

-- what is not beyond the top is a count up to it
pub inside_is : (top : ℕ) (z : ℤ) → beyond (pos top) z ≡ false → pos (to_nat z) ≡ z
inside_is top (pos n) b = refl
inside_is top (negsuc n) b = absurd (true-ne-false (or_left (lt_z (negsuc n) (pos 0)) (lt_z (pos top) (negsuc n)) b))

pub inside-small : (top : ℕ) (z : ℤ) → beyond (pos top) z ≡ false → to_nat z ≤ top
inside-small top (pos n) b = ltb-false top n (or_right (lt_z (pos n) (pos 0)) (lt_z (pos top) (pos n)) b)
inside-small top (negsuc n) b = omega arith

-- ---- K, S, W and H are the slices as the reading left them

module _ {s : List ℕ} {t : Summary} {K S W H : List ℕ} (G : Taken s t K S W H) (m b : ℤ) (room : ℕ) where
  abbrev asked : Verdict Table → Verdict Sought
  asked v = sought_within v m b room

  pub bad-margin : bad_margin m ≡ true → sought_within (read_text s) m b room ≡ refused BadMargin
  bad-margin x = of-table G (λ t K S W H. asked (read_text s) ≡ refused BadMargin) (λ T p. ap asked p ∙ sought-margin T m b room x)

  pub bad-budget : bad_margin m ≡ false → bad_budget b ≡ true → sought_within (read_text s) m b room ≡ refused BadBudget
  bad-budget x y = of-table G (λ t K S W H. asked (read_text s) ≡ refused BadBudget) (λ T p. ap asked p ∙ sought-budget T m b room x y)

  pub no_room : bad_margin m ≡ false → bad_budget b ≡ false → room < t.leaves → sought_within (read_text s) m b room ≡ refused NoRoom
  no_room x y l =
      of-table G (λ t K S W H. room < t.leaves → asked (read_text s) ≡ refused NoRoom)
      (λ T p l. ap asked p ∙ sought-room T m b room x y (rw (accepted-leaves s T p) l)) l

-- the difference that was computed, as it is handed on
pub apart-back : (low high : ℕ) → high ≤ 35184372088832 → {r : ℤ} → r ≡ pos (high - low) → to_z w64 (of_z w64 r) ≡ pos (high - low)
apart-back low high h e = ap (λ (z : ℤ). to_z w64 (of_z w64 z)) e ∙ to_z-of_z w64 (pos (high - low)) (sfits_of (omega arith))

-- as many entries of a list as it has
pub part_length : (n b : ℕ) (came : List ℕ) → n ≡ min b (length came) → length (take n came) ≡ n
part_length n b came e = length-take n came ∙ omega arith

-- a list of which the first n entries were lent and came back with xs
part-laid : (n : ℕ) (xs came : List ℕ) → length xs ≤ n → laid xs (take n came) ++ drop n came ≡ laid xs came
part-laid n xs came h = append_assoc xs (drop (length xs) (take n came)) (drop n came) ∙ ap (λ (l : List ℕ). xs ++ l) (rest n (length xs) came h)
  where
    rest : (n k : ℕ) (l : List ℕ) → k ≤ n → drop k (take n l) ++ drop n l ≡ drop k l
    rest zero zero l h = refl
    rest zero (suc k) l h = absurd (omega arith)
    rest (suc n) zero [] h = refl
    rest (suc n) zero (y ∷ l) h = ap (λ (z : List ℕ). y ∷ z) (rest n zero l (omega arith))
    rest (suc n) (suc k) [] h = refl
    rest (suc n) (suc k) (y ∷ l) h = rest n k l (omega arith)

-- What is answered where f was found, as r over heights, with n reads to begin with: the same from the lowest end up, which is a.
pub shown-bounds : (T : Table) (f : Found) (n : ℕ) (r : Seen ℕ) (a : Seen ℤ) {came now : List ℕ} → Shows f r came now → length came ≡ n → r.low ≤ r.high →
    let base : ℤ = T.head.lowest *ℤ pos (grain T) in
    (a.low ≡ base +ℤ pos r.low) × (a.high ≡ base +ℤ pos r.high) × (node_of a.play ≡ node_of r.play) × (a.read ≡ r.read) × (a.spent ≡ r.spent)
    → bounds_for (summary T) f n ≡ bounds_of (record { table = T; seen = a })
shown-bounds T f n r a w lent order (low, high, play, read, spent) =
    let base : ℤ = T.head.lowest *ℤ pos (grain T) in
    let is-low = ap (λ (k : ℕ). base +ℤ pos k) w.low ∙ sym low in
    let is-high = ap (λ (k : ℕ). base +ℤ pos k) w.high ∙ sym high in
    let count : n - f.left ≡ length r.read = omega (arith, w.reads, lent) in
    λ i. record {
      low = is-low i;
      high = is-high i;
      difference = (difference-is base f.low f.high (omega (arith, w.low, w.high)) ∙ ap₂ ◌-ℤ◌ is-high is-low) i;
      play = (w.play ∙ ap play_of (sym play)) i;
      leaves = (count ∙ sym (ap length read)) i;
      spent = (w.spent ∙ sym spent) i;
      grain = grain T;
    }

-- g is the rule, v the ends, and n how many leaves may be read
module _ {s : List ℕ} {t : Summary} {K S W H : List ℕ} (G : Taken s t K S W H) (m b : ℤ) (x : bad_margin m ≡ false) (y : bad_budget b ≡ false)
    {g : Rule} (is_g : g ≡ rule_for (scale_for t) m) {v : Ends} (is_v : v ≡ ends_for (scale_for t)) where
  pub search-ready : ReadyRoot (slices K S W H) (way g v [] []) v t.nodes
  search-ready =
      rw (is_g, is_v)
      (of-table G (λ t K S W H. ReadyRoot (slices K S W H) (way (rule_for (scale_for t) m) (ends_for (scale_for t)) [] []) (ends_for (scale_for t)) t.nodes) (λ T p.
      let z = zeros-enough s T p in accepted-search-ready s T p (to_nat m) (inside-small 40000000000000 m x) zeros zeros zeros zeros z z z z))

  -- f is what `search` gave, with the first n entries of the list as they came and as they are now
  module _ (f : Found) (n : ℕ) (came now : List ℕ) (is_n : n ≡ min (to_nat b) (length came)) (enough : t.leaves ≤ length came)
      (told : Searched (slices K S W H) (way g v [] []) v t.nodes f (take n came) now) where
    lent : length (take n came) ≡ n
    lent = part_length n (to_nat b) came is_n

    of-shown : (C : Summary → Type 0)
        → ((T : Table) → read_text s ≡ fine T → leaves (tree T) ≤ length came → Shows f (height_searched T (to_nat m) (limited n)) (take n came) now → C (summary T)) → C t
    of-shown C show =
        of-table G (λ t K S W H. t.leaves ≤ length came → Searched (slices K S W H) (way (rule_for (scale_for t) m) (ends_for (scale_for t)) [] []) (ends_for (scale_for t)) t.nodes f (take n came) now → C t) (λ T p few told.
        let z = zeros-enough s T p in
        show T p (rw (accepted-leaves s T p) few)
        (subst (λ (k : ℕ). Shows f (height_searched T (to_nat m) (limited k)) (take n came) now) lent
        (accepted-searched s T p (to_nat m) (inside-small 40000000000000 m x) zeros zeros zeros zeros z z z z f (take n came) now told))) enough
        (rw (is_g, is_v) at told)

    -- its bounds are at most the top, and it has read no more than it may
    pub found-small : (f.low ≤ f.high) × (f.high ≤ 35184372088832) × (f.left ≤ n)
    found-small = of-shown (λ t. (f.low ≤ f.high) × (f.high ≤ 35184372088832) × (f.left ≤ n)) (λ T p few w.
        let h = heights-order s T p (to_nat m) (limited n) in
        (omega (arith, w.low, w.high, h.0), omega (arith, w.high, h.1, span-grains s T p), omega (arith, w.reads, lent)))

    -- reading no more than the list holds is the search within the budget
    seen-within : (T : Table) → read_text s ≡ fine T → leaves (tree T) ≤ length came → searched_until T (to_nat m) (limited n) ≡ searched_within T (to_nat m) (to_nat b)
    seen-within T p few = ap (λ (k : ℕ). searched_within T (to_nat m) k) is_n ∙ budget-met s T p (to_nat m) (to_nat b) (length came) few

    pub given-at : Ok (bounds_for t f n) ≡ within_call (read_text s) m b (length came)
    given-at =
        of-shown (λ t. Ok (bounds_for t f n) ≡ within_call (read_text s) m b (length came)) (λ T p few w.
        ap Ok (shown-bounds T f n (height_searched T (to_nat m) (limited n)) (searched_until T (to_nat m) (limited n)) w lent (heights-order s T p (to_nat m) (limited n)).0 (shifted s T p (to_nat m) (limited n)))
        ∙ ap (λ (r : Seen ℤ). Ok (bounds_of (record { table = T; seen = r }))) (seen-within T p few)
        ∙ sym (ap search_answer (ap (λ (v : Verdict Table). sought_within v m b (length came)) p ∙ sought-fine T m b (length came) x y few)))

    pub reads_at : now ++ drop n came ≡ laid (within_reads (read_text s) m b (length came)) came
    reads_at = of-shown (λ t. now ++ drop n came ≡ laid (within_reads (read_text s) m b (length came)) came) (λ T p few w.
        let (low, high, play, read, spent) = shifted s T p (to_nat m) (limited n) in
        ap (λ (l : List ℕ). l ++ drop n came) w.leaves
        ∙ part-laid n (height_searched T (to_nat m) (limited n)).read came (omega (arith, w.reads, lent))
        ∙ ap (λ (l : List ℕ). laid l came) (sym read ∙ ap (λ (r : Seen ℤ). r.read) (seen-within T p few)
        ∙ sym (ap search_list (ap (λ (v : Verdict Table). sought_within v m b (length came)) p ∙ sought-fine T m b (length came) x y few))))
