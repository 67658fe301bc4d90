-- What the calls of the index may answer, whatever the text: small lines, plays and counts.
use Rattle.std.proofs.Common.{Err, Ok, Result}
use Prim.Native.Nat.{ℕ}
use mathlib.Core.Path.{◌≡◌, refl, sym, ap, subst}
use mathlib.Core.Bool.{Bool, true, false}
use mathlib.Core.List.{List}
use native.Mathlib.Omega.{arith}
use borrow.Author.Tests.{ltb-true, ltb-false}
use lib.Dec.{ltb}
use lib.ListN.{length}
use lib.IntN.{ℤ}
use Rattle.line.specs.declared.Refusal.{Refusal}
use Rattle.line.specs.declared.Refusal.TheVariants.{NoRoom, BadMargin, BadIndex}
use Rattle.line.specs.Refusal.{Verdict, refused, fine, line_of}
use Rattle.line.specs.Line.{to_nat}
use Rattle.table.specs.Tree.{leaves}
use Rattle.table.specs.Table.{Table, tree, read_text}
use Rattle.table.proofs.Accepted.{accepted-size, accepted-grain, accepted-leaves, accepted-leaf-lines}
use Rattle.index.specs.Index.{not_own}
use Rattle.search.specs.Search.{node_of}
use Rattle.search.specs.Whole.{searched_own}
use Rattle.search.proofs.Own.{own-play-small, own-reads-few}
use Rattle.search_call.specs.declared.Bounds.{Bounds}
use Rattle.search_call.specs.Call.{bad_margin, bounds_of, search_answer}
use Rattle.search_call.proofs.Answered.{below_of, Sizes}
use Rattle.index_call.specs.Call.{index_answer, index_call, indexed_call}
use Rattle.index_call.proofs.Call.{indexed-room, indexed-fine, sought-index, sought-margin, sought-room, sought-fine}

-- what is found is small
own-sizes : (s : List ℕ) (t : Table) → read_text s ≡ fine t → (ε : ℕ) → Sizes (bounds_of (record { table = t; seen = searched_own t ε }))
own-sizes s t p ε =
    let z = (accepted-size s t p).1 in
    record {
      play = below_of 1024 (node_of (searched_own t ε).play) (λ n q. omega (arith, z, own-play-small s t p ε n q));
      leaves = omega (arith, z, own-reads-few s t p ε, accepted-leaves s t p, accepted-leaf-lines s t p);
      grain = accepted-grain s t p;
    }

-- what holds of a table's refusal, of every refusal without a line, and of what is found, holds of the answer
module _ (s : List ℕ) (m : ℤ) (lows highs : List ℤ) (room : ℕ) (P : Result Bounds Refusal → Type 0) (bad : (r : Refusal) → read_text s ≡ refused r → P (Err r))
    (own : (r : Refusal) → line_of r ≡ 0 → P (Err r)) (good : (b : Bounds) → Sizes b → P (Ok b)) where
  found-cases : (t : Table) → read_text s ≡ fine t → (x y z : Bool) → not_own t lows highs ≡ x → bad_margin m ≡ y → ltb room (leaves (tree t)) ≡ z → P (indexed_call (fine t) m lows highs room)
  found-cases t p true y z i b l = subst P (sym (ap search_answer (sought-index t m lows highs room i))) (own BadIndex refl)
  found-cases t p false true z i b l = subst P (sym (ap search_answer (sought-margin t m lows highs room i b))) (own BadMargin refl)
  found-cases t p false false true i b l = subst P (sym (ap search_answer (sought-room t m lows highs room i b (ltb-true room (leaves (tree t)) l)))) (own NoRoom refl)
  found-cases t p false false false i b l = subst P (sym (ap search_answer (sought-fine t m lows highs room i b (ltb-false room (leaves (tree t)) l)))) (good (bounds_of (record { table = t; seen = searched_own t (to_nat m) })) (own-sizes s t p (to_nat m)))

  pub indexed-cases : P (indexed_call (read_text s) m lows highs room)
  indexed-cases = go (read_text s) refl
    where
      go : (v : Verdict Table) → read_text s ≡ v → P (indexed_call v m lows highs room)
      go (refused r) p = bad r p
      go (fine t) p = found-cases t p (not_own t lows highs) (bad_margin m) (ltb room (leaves (tree t))) refl refl refl

module _ (s : List ℕ) (room : ℕ) (P : Result Unit Refusal → Type 0) (bad : (r : Refusal) → read_text s ≡ refused r → P (Err r))
    (short : P (Err NoRoom)) (good : P (Ok tt)) where
  pub index-cases : P (index_call (read_text s) room)
  index-cases = go (read_text s) refl
    where
      at : (t : Table) (z : Bool) → ltb room (length t.lines) ≡ z → P (index_call (fine t) room)
      at t true l = subst P (sym (ap index_answer (indexed-room t room (ltb-true room (length t.lines) l)))) short
      at t false l = subst P (sym (ap index_answer (indexed-fine t room (ltb-false room (length t.lines) l)))) good

      go : (v : Verdict Table) → read_text s ≡ v → P (index_call v room)
      go (refused r) p = bad r p
      go (fine t) p = at t (ltb room (length t.lines)) refl
