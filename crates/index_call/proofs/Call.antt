-- What the calls of the index give for an accepted text, and their refusals.
use Rattle.std.proofs.Common.{Ok}
use Prim.Native.Nat.{ℕ, ◌*◌, ◌≤◌, ◌<◌}
use mathlib.Core.Path.{◌≡◌, refl, sym, ap, subst, ◌∙◌}
use mathlib.Core.Bool.{Bool, true, false, not, ◌&&◌, ◌||◌}
use mathlib.Core.List.{List, []}
use native.Mathlib.Nat.{le_refl, le_trans}
use native.Mathlib.Omega.{arith}
use borrow.Author.Tests.{lt-ltb, le-ltb, lt-leb}
use lib.ListN.{length}
use lib.IntN.{ℤ, ◌-ℤ◌}
use Rattle.line.specs.declared.Refusal.TheVariants.{NoRoom, BadMargin, BadIndex}
use Rattle.line.specs.Refusal.{Verdict, refused, fine, unless}
use Rattle.line.specs.Line.{to_nat}
use Rattle.line.proofs.Signs.{true-ne-false}
use Rattle.table.specs.declared.Summary.{Summary}
use Rattle.table.specs.Tree.{Forest, end, leaf, inner, is_end, leaves}
use Rattle.table.specs.Table.{Table, tree, read_text, grain, summary}
use Rattle.table.specs.Slices.{laid}
use Rattle.table.specs.Inside.{Slices, slices, Holds, lent, height_tree}
use Rattle.table.specs.Accepted.{span, Filled, Rooted}
use Rattle.table.proofs.Accepted.{accepted-lent, accepted-holds, accepted-leaves, accepted-rooted, accepted-filled}
use Rattle.table.proofs.Ends.{span-grains}
use Rattle.scale.specs.Inside.{scale_for}
use Rattle.scale.proofs.Taken.{zeros, zeros-enough, Taken, of-table}
use Rattle.index.specs.Index.{agrees, lows_of, highs_of, not_own}
use Rattle.indexing.specs.Inside.{Dropped, Ended, OwnEndsOf}
use Rattle.indexing.proofs.Ended.{greatest-within}
use Rattle.search.specs.Search.{Seen, Rules, unlimited, limited, point, met}
use Rattle.search.specs.Inside.{natural, height_sums, grained, height_own}
use Rattle.search.specs.Whole.{searched_own}
use Rattle.search.proofs.Own.{own, own-within, own-order, own-summed, own-enough, own-shifted}
use Rattle.steps.specs.declared.Rule.{Rule}
use Rattle.steps.specs.declared.Ends.{Ends}
use Rattle.steps.specs.declared.Found.{Found}
use Rattle.steps.specs.Inside.{leaf_seen}
use Rattle.searching.specs.Inside.{way, rules_of, ReadyRoot, Shows, Searched}
use Rattle.searching.proofs.Frames.{SameAt}
use Rattle.searching.proofs.Ready.{ends_of, way_of, Listed, EachInner, each-inner, table-ready, table-searched}
use Rattle.search_call.specs.Inside.{rule_for, ends_for, bounds_for}
use Rattle.search_call.specs.Call.{bad_margin, Sought, search_answer, search_list}
use Rattle.search_call.proofs.Call.{inside-small, shown-bounds}
use Rattle.index_call.specs.Call.{indexed, index_answer, index_entries, sought_indexed, indexed_call, indexed_reads}
use Rattle.index_call.proofs.Own.{of-ended, own_same}

-- ---- refusals

module _ (t : Table) (room : ℕ) where
  pub indexed-room : room < length t.lines → indexed (fine t) room ≡ refused NoRoom
  unfolding unless
  indexed-room l = rw (lt-ltb room (length t.lines) l) refl

  pub indexed-fine : length t.lines ≤ room → indexed (fine t) room ≡ fine t
  unfolding unless
  indexed-fine l = rw (le-ltb room (length t.lines) l) refl

module _ (t : Table) (m : ℤ) (lows highs : List ℤ) (room : ℕ) where
  pub sought-index : not_own t lows highs ≡ true → sought_indexed (fine t) m lows highs room ≡ refused BadIndex
  unfolding unless
  sought-index i = rw i refl

  pub sought-margin : not_own t lows highs ≡ false → bad_margin m ≡ true → sought_indexed (fine t) m lows highs room ≡ refused BadMargin
  unfolding unless
  sought-margin i x = rw (i, x) refl

  pub sought-room : not_own t lows highs ≡ false → bad_margin m ≡ false → room < leaves (tree t) → sought_indexed (fine t) m lows highs room ≡ refused NoRoom
  unfolding unless
  sought-room i x l = rw (i, x, lt-ltb room (leaves (tree t)) l) refl

  pub sought-fine : not_own t lows highs ≡ false → bad_margin m ≡ false → leaves (tree t) ≤ room
      → sought_indexed (fine t) m lows highs room ≡ fine (record { table = t; seen = searched_own t (to_nat m) })
  unfolding unless
  sought-fine i x l = rw (i, x, le-ltb room (leaves (tree t)) l) refl

-- what the code tests of an index is that it is not another
pub own-test : (a b c : Bool) → c ≡ (a && b) → not c ≡ true → (not a || not b) ≡ true
own-test true true c e q = absurd (true-ne-false (sym q ∙ ap not e))
own-test true false c e q = refl
own-test false b c e q = refl

pub own-passed : (a b c : Bool) → c ≡ (a && b) → not c ≡ false → (not a || not b) ≡ false
own-passed true true c e q = refl
own-passed true false c e q = absurd (true-ne-false (sym (ap not e) ∙ q))
own-passed false b c e q = absurd (true-ne-false (sym (ap not e) ∙ q))

-- ---- the search

-- an accepted table has a leaf
some-leaf : {A : Type 0} (f : Forest A) → Filled f → is_end f ≡ false → 0 < leaves f
unfolding leaves
some-leaf end i z = absurd (true-ne-false z)
some-leaf (leaf n w v rest) i z = omega arith
some-leaf (inner n w k under rest) i z = omega (arith, some-leaf under i.1 i.0)

rooted-some : {A : Type 0} (f : Forest A) → Rooted f → is_end f ≡ false
rooted-some end r = absurd r
rooted-some (leaf n w v rest) r = refl
rooted-some (inner n w k under rest) r = refl

table-leaf : (s : List ℕ) (T : Table) → read_text s ≡ fine T → 0 < leaves (tree T)
table-leaf s T p = some-leaf (tree T) (accepted-filled s T p) (rooted-some (tree T) (accepted-rooted s T p))

-- a lone leaf is read, whatever ends it has
lone-leaf : (v : Ends) (R : Rules ℕ) (e : Forest ℕ) (left n x : ℕ) → 0 < left → leaf_seen v left n x ≡ met (record { frame = R.frame; margin = R.margin; full = limited left }) (R.frame n e) [] (point n x [])
lone-leaf v R e left n x l = rw (lt-leb left 0 l) refl

-- what a test of the index, of the margin or of the list says of every table that was accepted
module _ {s : List ℕ} {t : Summary} {K S W H : List ℕ} (G : Taken s t K S W H) (m : ℤ) (lows highs : List ℤ) (room : ℕ) where
  abbrev asked : Verdict Table → Verdict Sought
  asked v = sought_indexed v m lows highs room

  -- what an accepted table's index is compared with
  abbrev pub strange : Verdict Table → Bool
  strange v = not (agrees (index_entries lows_of v) lows) || not (agrees (index_entries highs_of v) highs)

  pub own_of : strange (read_text s) ≡ false → (T : Table) → read_text s ≡ fine T → not_own T lows highs ≡ false
  own_of i T p = sym (ap strange p) ∙ i

  pub bad-index : strange (read_text s) ≡ true → sought_indexed (read_text s) m lows highs room ≡ refused BadIndex
  bad-index i = of-table G (λ t K S W H. asked (read_text s) ≡ refused BadIndex) (λ T p. ap asked p ∙ sought-index T m lows highs room (sym (ap strange p) ∙ i))

  pub bad-margin : strange (read_text s) ≡ false → bad_margin m ≡ true → sought_indexed (read_text s) m lows highs room ≡ refused BadMargin
  bad-margin i x = of-table G (λ t K S W H. asked (read_text s) ≡ refused BadMargin) (λ T p. ap asked p ∙ sought-margin T m lows highs room (own_of i T p) x)

  pub no_room : strange (read_text s) ≡ false → bad_margin m ≡ false → room < t.leaves → sought_indexed (read_text s) m lows highs room ≡ refused NoRoom
  no_room i x l =
      of-table G (λ t K S W H. room < t.leaves → asked (read_text s) ≡ refused NoRoom)
      (λ T p l. ap asked p ∙ sought-room T m lows highs room (own_of i T p) x (rw (accepted-leaves s T p) l)) l

-- K, S, W and H are the slices as the reading left them, H' and D' what `own_ends` made of them, and T' what `drops` made of D'
module _ {s : List ℕ} {t : Summary} {K S W H : List ℕ} (G : Taken s t K S W H) (H' D' T' : List ℕ) (E : OwnEndsOf K S H t.nodes (to_nat (t.highest -ℤ t.lowest)) H' D')
    (long_h : length H' ≡ 1024) (long_t : length T' ≡ 1024) (dropped : Dropped (to_nat (t.highest -ℤ t.lowest)) D' T' t.nodes) (m : ℤ) (x : bad_margin m ≡ false)
    {g : Rule} (is_g : g ≡ rule_for (scale_for t) m) {v : Ends} (is_v : v ≡ ends_for (scale_for t)) where
  -- of the table T, with so many reads
  module _ (T : Table) (p : read_text s ≡ fine T) (e : Ended (lent T zeros zeros zeros zeros).kinds (lent T zeros zeros zeros zeros).stops (lent T zeros zeros zeros zeros).weights (length T.lines) (span T.head) H' D' (height_tree T))
      (d : Dropped (span T.head) D' T' (length T.lines)) where
    abbrev u : Slices
    u = slices (lent T zeros zeros zeros zeros).kinds (lent T zeros zeros zeros zeros).stops (lent T zeros zeros zeros zeros).weights H'

    -- the slices as the reading left them
    abbrev plainly : Slices
    plainly = lent T zeros zeros zeros zeros

    abbrev n : ℕ
    n = length T.lines

    enough : n ≤ length zeros
    enough = zeros-enough s T p

    abbrev far : ℕ
    far = span T.head * grain T

    holds : Holds u n
    holds =
        let z = zeros-enough s T p in
        let h = accepted-holds s T p zeros zeros zeros zeros z z z z in
        record { kinds = h.kinds; stops = h.stops; weights = h.weights; heights = omega (arith, h.few, long_h); few = h.few }

    same : (left : ℕ) → SameAt height_sums natural (rules_of (way_of T (to_nat m) H' T') left).frame (own far) (to_nat m) (limited left) (grained (grain T) (height_tree T))
    same left =
        own_same u (span T.head) (grain T) (to_nat m) left n (ends_of T) H' D' T' 0 n (height_tree T) e.spans (le_refl n) e.ends d
        (greatest-within u (span T.head) n 0 n (height_tree T) e.small-rise (le_refl n) e.spans) (omega (arith, long_t))

    listed : EachInner (Listed (way_of T (to_nat m) H' T')) (height_tree T)
    listed = each-inner (Listed (way_of T (to_nat m) H' T')) u 0 n (height_tree T) e.spans (λ i l _ _. (omega (arith, holds.few, long_h), omega (arith, holds.few, long_t)))

    small : to_nat m ≤ 40000000000000
    small = inside-small 40000000000000 m x

    own-ready : ReadyRoot plainly (way_of T (to_nat m) H' T') (ends_of T) n
    own-ready = table-ready s T p (to_nat m) small plainly H' T' (accepted-lent s T p zeros zeros zeros zeros enough enough enough enough) (accepted-holds s T p zeros zeros zeros zeros enough enough enough enough) (own far) 0 (same 0) listed (own-within s T p)

    own-searched : (f : Found) (came now : List ℕ) → leaves (tree T) ≤ length came → Searched plainly (way_of T (to_nat m) H' T') (ends_of T) n f came now
        → Shows f (height_own T (to_nat m) unlimited) came now
    own-searched f came now few told =
        subst (λ (a : Seen ℕ). Shows f a came now) (own-summed s T p (to_nat m) (limited (length came)) ∙ own-enough s T p (to_nat m) (length came) few)
        (table-searched s T p (to_nat m) small plainly H' T' (accepted-lent s T p zeros zeros zeros zeros enough enough enough enough) (accepted-holds s T p zeros zeros zeros zeros enough enough enough enough) (own far) (length came) (same (length came)) listed (own-within s T p)
        (λ k y. lone-leaf (ends_of T) (record { frame = own far; margin = to_nat m; full = unlimited }) end (length came) k y (le_trans (table-leaf s T p) few)) f came now refl told)

  pub search-ready : ReadyRoot (slices K S W H) (way g v H' T') v t.nodes
  search-ready =
      rw (is_g, is_v)
      (of-ended G E (λ t K S W H. Dropped (to_nat (t.highest -ℤ t.lowest)) D' T' t.nodes → ReadyRoot (slices K S W H) (way (rule_for (scale_for t) m) (ends_for (scale_for t)) H' T') (ends_for (scale_for t)) t.nodes)
      (λ T p e d. own-ready T p e d) dropped)

  -- f is what `search` gave, with the list as it came and as it is now
  module _ (f : Found) (came now : List ℕ) (enough : t.leaves ≤ length came) (told : Searched (slices K S W H) (way g v H' T') v t.nodes f came now) where
    of-shown : (C : Summary → Type 0) → ((T : Table) → read_text s ≡ fine T → leaves (tree T) ≤ length came → Shows f (height_own T (to_nat m) unlimited) came now → C (summary T)) → C t
    of-shown C show =
        of-ended G E (λ t K S W H. Dropped (to_nat (t.highest -ℤ t.lowest)) D' T' t.nodes → t.leaves ≤ length came
        → Searched (slices K S W H) (way (rule_for (scale_for t) m) (ends_for (scale_for t)) H' T') (ends_for (scale_for t)) t.nodes f came now → C t)
        (λ T p e d few told. let l : leaves (tree T) ≤ length came = rw (accepted-leaves s T p) few in show T p l (own-searched T p e d f came now l told)) dropped enough (rw (is_g, is_v) at told)

    pub found-small : (f.low ≤ f.high) × (f.high ≤ 35184372088832) × (f.left ≤ length came)
    found-small = of-shown (λ t. (f.low ≤ f.high) × (f.high ≤ 35184372088832) × (f.left ≤ length came)) (λ T p few w.
        let h = own-order s T p (to_nat m) unlimited refl in
        (omega (arith, w.low, w.high, h.0), omega (arith, w.high, h.1, span-grains s T p), omega (arith, w.reads)))

    -- of an index that was found to be the table's own
    module _ (lows highs : List ℤ) (mine : (T : Table) → read_text s ≡ fine T → not_own T lows highs ≡ false) where
      found-is : (T : Table) → read_text s ≡ fine T → leaves (tree T) ≤ length came
          → sought_indexed (read_text s) m lows highs (length came) ≡ fine (record { table = T; seen = searched_own T (to_nat m) })
      found-is T p few = ap (λ (y : Verdict Table). sought_indexed y m lows highs (length came)) p ∙ sought-fine T m lows highs (length came) (mine T p) x few

      pub given-at : Ok (bounds_for t f (length came)) ≡ indexed_call (read_text s) m lows highs (length came)
      given-at = of-shown (λ t. Ok (bounds_for t f (length came)) ≡ indexed_call (read_text s) m lows highs (length came)) (λ T p few w.
          ap Ok (shown-bounds T f (length came) (height_own T (to_nat m) unlimited) (searched_own T (to_nat m)) w refl (own-order s T p (to_nat m) unlimited refl).0 (own-shifted s T p (to_nat m)))
          ∙ sym (ap search_answer (found-is T p few)))

      pub reads_at : now ≡ laid (indexed_reads (read_text s) m lows highs (length came)) came
      reads_at = of-shown (λ t. now ≡ laid (indexed_reads (read_text s) m lows highs (length came)) came) (λ T p few w.
          w.leaves ∙ ap (λ (l : List ℕ). laid l came) (sym (own-shifted s T p (to_nat m)).3 ∙ sym (ap search_list (found-is T p few))))

-- ---- building

module _ {s : List ℕ} {t : Summary} {K S W H : List ℕ} (G : Taken s t K S W H) (room : ℕ) where
  pub index_short : room < t.nodes → indexed (read_text s) room ≡ refused NoRoom
  index_short l = of-table G (λ t K S W H. room < t.nodes → indexed (read_text s) room ≡ refused NoRoom) (λ T p l. ap (λ (v : Verdict Table). indexed v room) p ∙ indexed-room T room l) l

  pub index-long : t.nodes ≤ room → indexed (read_text s) room ≡ read_text s
  index-long l = of-table G (λ t K S W H. t.nodes ≤ room → indexed (read_text s) room ≡ read_text s) (λ T p l. ap (λ (v : Verdict Table). indexed v room) p ∙ indexed-fine T room l ∙ sym p) l

  pub index-built : (Ok tt) ≡ index_answer (read_text s)
  index-built = of-table G (λ t K S W H. (Ok tt) ≡ index_answer (read_text s)) (λ T p. sym (ap index_answer p))
