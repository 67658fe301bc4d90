-- A walk's way down to a leaf and up again: what the two loops keep.
use Prim.Native.Nat.{ℕ, zero, suc, ◌+◌, ◌-◌, ◌*◌, ◌≤◌, ◌<◌}
use mathlib.Core.Path.{◌≡◌, refl, sym, ap, ap₂, subst, ◌∙◌}
use mathlib.Core.List.{List}
use native.Mathlib.Omega.{arith}
use lib.ListN.{length, get_or, set, drop, length-set}
use lib.Seq.{get_or-set_same, get_or-set_other}
use Rattle.table.specs.Tree.{kind_of}
use Rattle.rollout.specs.Rollout.{spend, over}
use Rattle.rollout.specs.Inside.Heights.{natural}
use Rattle.rolling.specs.declared.Step.{Step}
use Rattle.rolling.specs.Inside.Lists.{Store, WalkS, walk_s}
use Rattle.rolling.specs.Inside.Contracts.{stored, bounds_in, Children, Updated, ReadyNode, WalkLeft, read_at, updated, Rung, Up, Landed, Climb, Climbed}
use Rattle.rolling.proofs.Walks.{Own, Choosing, ready-leaf, inner-rung, inner-child, child-ready, child-upto, inner-walk}

-- ---- the updates on the way up

module _ (K S Q : List ℕ) (upto : ℕ) (whole : WalkS) where
  -- one node more on the path: c, at place d
  up_more : (d k c : ℕ) (w : WalkS) → d ≤ k → Up K S Q upto whole d w → Up K S (set Q k c) upto whole d w
  unfolding Up
  up_more zero k c w h u = u
  up_more (suc d) k c w h u =
      subst (λ (x : ℕ). (r : Rung S x upto) × Up K S (set Q k c) upto whole d (updated (kind_of (get_or K x 0)) r.under x w))
      (sym (get_or-set_other Q k d c 0 (λ e. omega arith)))
      (u.0, up_more d k c (updated (kind_of (get_or K (get_or Q d 0) 0)) u.0.under (get_or Q d 0) w) (omega arith) u.1)

  up_one : (d c : ℕ) (w : WalkS) → d < length Q → (r : Rung S c upto) → Up K S Q upto whole d (updated (kind_of (get_or K c 0)) r.under c w)
      → Up K S (set Q d c) upto whole (d + 1) w
  unfolding Up
  up_one d c w h r u =
      let up : d + 1 ≡ suc d = omega arith in
      subst (λ (n : ℕ). Up K S (set Q d c) upto whole n w) (sym up)
      (subst (λ (x : ℕ). (r : Rung S x upto) × Up K S (set Q d c) upto whole d (updated (kind_of (get_or K x 0)) r.under x w))
      (sym (get_or-set_same Q d c 0 h)) (r, up_more d d c (updated (kind_of (get_or K c 0)) r.under c w) (omega arith) u))

  -- the leaf that was read and the policy bytes that are left stay the same
  up_same : (d : ℕ) (w : WalkS) → Up K S Q upto whole d w → (whole.read ≡ w.read) × (whole.policy ≡ w.policy)
  unfolding Up
  up_same zero w u = (ap (λ (x : WalkS). x.read) u, ap (λ (x : WalkS). x.policy) u)
  up_same (suc d) w u = up_same d (updated (kind_of (get_or K (get_or Q d 0) 0)) u.0.under (get_or Q d 0) w) u.1

-- ---- down: at node c, a candidate in the window α, β, under the first `depth` nodes of the path

pub record Descent (K S H : List ℕ) (G upto : ℕ) (whole : WalkS) (st : Store) (P Q : List ℕ) (c depth at α β : ℕ) : Type 0 where
  pub ready : ReadyNode K S H G c α β st
  pub within : ready.upto ≤ upto
  pub deep : depth ≤ c
  pub rungs : Up K S Q upto whole depth (walk_s G α β 0 (drop at P) ready.nodes st)

pub descent-begin : {K S H : List ℕ} {G α β : ℕ} {st : Store} (P Q : List ℕ) (at : ℕ) (R : ReadyNode K S H G 0 α β st)
    → Descent K S H G R.upto (walk_s G α β 0 (drop at P) R.nodes st) st P Q 0 0 at α β
unfolding Up
descent-begin P Q at R = record { ready = R; within = omega arith; deep = omega arith; rungs = refl }

-- entry c is a node, and it has `depth` nodes above it
pub record Within (K : List ℕ) (st : Store) (c depth : ℕ) : Type 0 where
  pub nodes : c < length K
  pub low : c < length st.low
  pub high : c < length st.high
  pub few : c < 1024
  pub deep : depth ≤ c

module _ {K S H : List ℕ} {G upto : ℕ} {whole : WalkS} {st : Store} {P Q : List ℕ} {c depth at α β : ℕ} (D : Descent K S H G upto whole st P Q c depth at α β) where
  pub descent-within : Within K st c depth
  descent-within =
      let R = D.ready in
      record {
        nodes = omega (arith, R.some, R.kinds);
        low = omega (arith, R.some, R.low);
        high = omega (arith, R.some, R.high);
        few = omega (arith, R.some, R.few);
        deep = D.deep;
      }

  pub descent-end : depth ≤ length Q → get_or K c 0 ≡ 0 → Landed K S H G upto whole st P Q (record { leaf = c; depth = depth; used = at })
  descent-end room z =
      record {
        rungs = subst (λ (w : WalkS). Up K S Q upto whole depth w) (ready-leaf D.ready z (drop at P)) D.rungs;
        some = let R = D.ready in omega (arith, R.some, D.within);
        deep = room;
      }

  module _ {e a b : ℕ} (w : Own K S st c α β e a b) {j i : ℕ} (g : Choosing S c e a b st (drop at P) j i) where
    pub descent-later : c < i
    descent-later = omega (arith, (inner-child D.ready w g).from)

    pub descent-turn : depth < length Q → (u : ℕ) → drop u P ≡ spend (drop at P) → Descent K S H G upto whole st P (set Q depth c) i (depth + 1) u a b
    descent-turn room u eu =
        let R = D.ready in
        let r = inner-rung R w in
        let up : Rung S c upto = record { under = r.under; row = r.row; some = r.some; within = omega (arith, r.within, D.within) } in
        record {
          ready = child-ready R w g;
          within = omega (arith, child-upto R w g, D.within);
          deep = omega (arith, D.deep, descent-later);
          rungs =
              up_one K S Q upto whole depth c (walk_s G a b 0 (drop u P) (child-ready R w g).nodes st) room up
              (subst (λ (v : WalkS). Up K S Q upto whole depth v) (inner-walk R w g (drop u P) eu) D.rungs);
        }

-- ---- up

-- from the leaf that was read
pub climb-begin : {K S H : List ℕ} {G α β : ℕ} {st : Store} (R : ReadyNode K S H G 0 α β st) {whole : WalkS} {P Q : List ℕ} {r : Step}
    → Landed K S H G R.upto whole st P Q r → (low high : List ℕ)
    → low ≡ set st.low r.leaf (get_or H r.leaf 0 * G) → high ≡ set st.high r.leaf (get_or H r.leaf 0 * G)
    → Climb K S Q r.depth (stored low high)
climb-begin {H} {G} {st} R {whole} {P} {r} L low high l h =
    let v : ℕ = get_or H r.leaf 0 * G in
    record {
      upto = R.upto;
      whole = whole;
      last = read_at st r.leaf v (drop r.used P);
      rungs = L.rungs;
      store = ap₂ stored (sym l) (sym h);
      path = L.deep;
      kinds = R.kinds;
      stops = R.stops;
      low = omega (arith, R.low, ap length l, length-set st.low r.leaf v);
      high = omega (arith, R.high, ap length h, length-set st.high r.leaf v);
      few = R.few;
    }

module _ {K S Q : List ℕ} {d : ℕ} {st : Store} (C : Climb K S Q d st) where
  pub climb-end : d ≤ 0 → st ≡ C.whole.store
  unfolding Up
  climb-end z =
      let none : d ≡ 0 = omega arith in
      sym (ap (λ (w : WalkS). w.store) (subst (λ (n : ℕ). Up K S Q C.upto C.whole n C.last) none C.rungs) ∙ C.store)

  module _ (o : 0 < d) where
    top : Up K S Q C.upto C.whole (suc (d - 1)) C.last
    top = let e : d ≡ suc (d - 1) = omega arith in subst (λ (n : ℕ). Up K S Q C.upto C.whole n C.last) e C.rungs

    -- the last node of the path, and the walk after its update
    both : (r : Rung S (get_or Q (d - 1) 0) C.upto) × Up K S Q C.upto C.whole (d - 1) (updated (kind_of (get_or K (get_or Q (d - 1) 0) 0)) r.under (get_or Q (d - 1) 0) C.last)
    unfolding Up
    both = top

    -- it was read from the path as c
    module _ (c : ℕ) (ec : c ≡ get_or Q (d - 1) 0) where
      rung : (r : Rung S c C.upto) × Up K S Q C.upto C.whole (d - 1) (updated (kind_of (get_or K c 0)) r.under c C.last)
      rung =
          subst (λ (x : ℕ). (r : Rung S x C.upto) × Up K S Q C.upto C.whole (d - 1) (updated (kind_of (get_or K x 0)) r.under x C.last)) (sym ec) both

      pub climb-children : let e : ℕ = get_or S c 0 in Children S (c + 1) e × (c + 1 < e) × (e ≤ length st.low) × (e ≤ length st.high)
      climb-children =
          let r = rung.0 in (
            record { nodes = r.under; row = r.row; room = omega (arith, r.within, C.stops); few = omega (arith, r.within, C.few) },
            r.some,
            omega (arith, r.within, C.low),
            omega (arith, r.within, C.high),
          )

      -- and it is updated
      module _ (low high : List ℕ) (el : Updated (kind_of (get_or K c 0)) S c (get_or S c 0) st.low low) (eh : Updated (kind_of (get_or K c 0)) S c (get_or S c 0) st.high high) where
        -- a list of bounds with the node's extreme
        abbrev now_of : List ℕ → List ℕ
        now_of came = set came c (over natural (kind_of (get_or K c 0)) 0 (bounds_in rung.0.under came))

        long : (came : List ℕ) → length (now_of came) ≡ length came
        long came = length-set came c (over natural (kind_of (get_or K c 0)) 0 (bounds_in rung.0.under came))

        climb-on : Climb K S Q (d - 1) (stored low high)
        climb-on =
            let l : low ≡ now_of st.low = el rung.0.under rung.0.row in
            let h : high ≡ now_of st.high = eh rung.0.under rung.0.row in
            record {
              upto = C.upto;
              whole = C.whole;
              last = updated (kind_of (get_or K c 0)) rung.0.under c C.last;
              rungs = rung.1;
              store = ap (λ (s : Store). stored (now_of s.low) (now_of s.high)) C.store ∙ sym (ap₂ stored l h);
              path = omega (arith, C.path);
              kinds = C.kinds;
              stops = C.stops;
              low = omega (arith, C.low, ap length l, long st.low);
              high = omega (arith, C.high, ap length h, long st.high);
              few = C.few;
            }

        climb-whole : climb-on.whole ≡ C.whole
        unfolding climb-on
        climb-whole = refl

-- d nodes of the path are left of those that C has, and the store is now st
abbrev pub Climbing : {K S Q : List ℕ} {n : ℕ} {came : Store} → Climb K S Q n came → ℕ → Store → Type 0
Climbing {K} {S} {Q} C d st = (D : Climb K S Q d st) × (D.whole ≡ C.whole)

pub climbing-on : {K S Q : List ℕ} {n : ℕ} {came : Store} (C : Climb K S Q n came) {d : ℕ} {st : Store} → Climbing C d st → (o : 0 < d)
    → (c : ℕ) → c ≡ get_or Q (d - 1) 0 → (low high : List ℕ)
    → Updated (kind_of (get_or K c 0)) S c (get_or S c 0) st.low low → Updated (kind_of (get_or K c 0)) S c (get_or S c 0) st.high high
    → Climbing C (d - 1) (stored low high)
climbing-on C (D, same) o c ec low high el eh = (climb-on D o c ec low high el eh, climb-whole D o c ec low high el eh ∙ same)

-- ---- the whole walk

-- the leaf was read, and the path climbed
pub walk-left : {K S H : List ℕ} {G α β : ℕ} {st : Store} (R : ReadyNode K S H G 0 α β st) {whole : WalkS} {P Q : List ℕ} {r : Step}
    → Landed K S H G R.upto whole st P Q r → (low high : List ℕ)
    → low ≡ set st.low r.leaf (get_or H r.leaf 0 * G) → high ≡ set st.high r.leaf (get_or H r.leaf 0 * G)
    → (now : Store) → Climbed K S Q r.depth (stored low high) now → WalkLeft whole r P now
unfolding climb-begin
walk-left {K} {S} {H} {G} {st} R {whole} {P} {Q} {r} L low high l h now told =
    let same = up_same K S Q R.upto whole r.depth (read_at st r.leaf (get_or H r.leaf 0 * G) (drop r.used P)) L.rungs in
    record { store = told (climb-begin R L low high l h); read = same.0; policy = same.1; small = omega (arith, L.some, R.few) }
