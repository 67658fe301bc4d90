-- What the code's two functions leave.
use Prim.Native.Nat.{ℕ, ◌+◌, ◌-◌, ◌≤◌, ◌<◌}
use mathlib.Core.Path.{◌≡◌, refl, sym, ap, subst, ◌∙◌}
use mathlib.Core.Bool.{Bool, true, false}
use mathlib.Core.List.{List, [], ◌∷◌, ◌++◌}
use native.Mathlib.Numerals.{add-one}
use native.Mathlib.Omega.{arith}
use lib.ListN.{length, get_or, set, take, drop, length-append, length-set, take-append-drop}
use lib.Seq.{take-suc-set, drop-set-lt, drop-cons, drop-length, length-take-le, drop-drop}
use Rattle.line.specs.Line.{among}
use Rattle.table.specs.Slices.{laid}
use Rattle.listing.specs.Listing.{add_leaf, add_new}
use Rattle.listing.specs.Inside.{Marked, ReadyLeaf, AddedLeaf, ReadyLeaves, AddedLeaves}
use Rattle.listing.proofs.Laws.{leaf-listed, leaf-new, new-longer, marked_more}

-- ---- one leaf

module _ {n : ℕ} {marks : List Bool} {leaves : List ℕ} {count : ℕ} (R : ReadyLeaf n marks leaves count) where
  -- it is marked, and so is listed
  pub leaf-kept : get_or marks n false ≡ true → AddedLeaf n leaves count count marks leaves
  leaf-kept e =
      record {
        listed = sym (leaf-listed (take count leaves) n (sym (R.marked n R.node) ∙ e));
        rest = refl;
        marked = R.marked;
        within = R.within;
        more = omega arith;
      }

  module _ (e : get_or marks n false ≡ false) where
    not_yet : among n (take count leaves) ≡ false
    not_yet = sym (R.marked n R.node) ∙ e

    pub leaf_room : count < length leaves
    leaf_room = R.room not_yet

    pub leaf-put : AddedLeaf n leaves count (count + 1) (set marks n true) (set leaves count n)
    leaf-put =
        let now : take (count + 1) (set leaves count n) ≡ take count leaves ++ (n ∷ []) = rw add-one (take-suc-set leaves count n leaf_room) in
        record {
          listed = now ∙ sym (leaf-new (take count leaves) n not_yet);
          rest = drop-set-lt (count + 1) leaves count n (omega arith);
          marked = subst (Marked (set marks n true)) (sym now) (marked_more marks (take count leaves) n R.node R.marked);
          within = omega (arith, leaf_room, length-set leaves count n);
          more = omega arith;
        }

-- ---- the leaves of a reading sequence, one after another

-- where the first i are added, and n are listed: whatever is added from here on is added from the start
pub record Adding (read : List ℕ) (marks₀ : List Bool) (leaves₀ : List ℕ) (count : ℕ) (marks : List Bool) (leaves : List ℕ) (n i : ℕ) : Type 0 where
  pub at : i ≤ length read
  pub left : add_new (take count leaves₀) read ≡ add_new (take n leaves) (drop i read)
  pub marked : Marked marks (take n leaves)
  pub within : n ≤ length leaves
  pub kept : drop n leaves ≡ drop n leaves₀
  pub long : length leaves ≡ length leaves₀
  pub wide : length marks ≡ length marks₀

drop_more : (n m : ℕ) (l k : List ℕ) → n ≤ m → drop n l ≡ drop n k → drop m l ≡ drop m k
drop_more n m l k h e =
    let is : n + (m - n) ≡ m = omega arith in
    subst (λ (j : ℕ). drop j l ≡ drop j k) is (sym (drop-drop (m - n) n l) ∙ ap (drop (m - n)) e ∙ drop-drop (m - n) n k)

module _ {read : List ℕ} {marks₀ : List Bool} {leaves₀ : List ℕ} {count : ℕ} (R : ReadyLeaves read marks₀ leaves₀ count) where
  module _ {marks : List Bool} {leaves : List ℕ} {n i : ℕ} (A : Adding read marks₀ leaves₀ count marks leaves n i) where
    -- the next one
    module _ (more : i < length read) where
      next : add_new (take count leaves₀) read ≡ add_new (add_leaf (take n leaves) (get_or read i 0)) (drop (i + 1) read)
      unfolding add_new
      next =
          let first : drop i read ≡ get_or read i 0 ∷ drop (i + 1) read = rw add-one (drop-cons read i 0 more) in
          A.left ∙ ap (add_new (take n leaves)) first

      pub adding-ready : ReadyLeaf (get_or read i 0) marks leaves n
      adding-ready =
          record {
            node = omega (arith, R.nodes i more, A.wide);
            marked = A.marked;
            within = A.within;
            room = λ e.
                let l : List ℕ = take n leaves ++ (get_or read i 0 ∷ []) in
                omega (
                  arith,
                  R.room,
                  ap length (next ∙ ap (λ (x : List ℕ). add_new x (drop (i + 1) read)) (leaf-new (take n leaves) (get_or read i 0) e)),
                  new-longer l (drop (i + 1) read),
                  length-append (take n leaves) (get_or read i 0 ∷ []),
                  length-take-le n leaves A.within,
                  A.long,
                );
          }

      pub adding-more : {r : ℕ} {marks' : List Bool} {leaves' : List ℕ} → AddedLeaf (get_or read i 0) leaves n r marks' leaves'
          → length marks' ≡ length marks → length leaves' ≡ length leaves → Adding read marks₀ leaves₀ count marks' leaves' r (i + 1)
      adding-more {r} B w l =
          record {
            at = omega arith;
            left = next ∙ ap (λ (x : List ℕ). add_new x (drop (i + 1) read)) (sym B.listed);
            marked = B.marked;
            within = B.within;
            kept = B.rest ∙ drop_more n r leaves leaves₀ B.more A.kept;
            long = l ∙ A.long;
            wide = w ∙ A.wide;
          }

    -- all are added
    pub adding-done : length read ≤ i → AddedLeaves read leaves₀ count n marks leaves
    unfolding add_new
    adding-done h =
        let all : i ≡ length read = omega (arith, A.at) in
        let is : add_new (take count leaves₀) read ≡ take n leaves = A.left ∙ ap (add_new (take n leaves)) (ap (λ (j : ℕ). drop j read) all ∙ drop-length read) in
        let size = length-take-le n leaves A.within in
        record {
          list = sym (take-append-drop n leaves) ∙ ap (λ (l : List ℕ). take n leaves ++ l) (A.kept ∙ ap (λ (j : ℕ). drop j leaves₀) (sym size))
              ∙ ap (λ (l : List ℕ). laid l leaves₀) (sym is);
          size = sym (ap length is ∙ size);
          marked = subst (Marked marks) (sym is) A.marked;
        }
