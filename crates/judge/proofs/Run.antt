-- The root's children in the lines, one after another: each one's run is a part of them.
use Prim.Native.Nat.{ℕ, ◌+◌, ◌-◌, ◌*◌, ◌≤◌, ◌<◌}
use mathlib.Core.Path.{◌≡◌, refl, sym, ap, subst, ◌∙◌}
use mathlib.Core.Bool.{false}
use mathlib.Core.List.{List, [], ◌∷◌, ◌++◌, append_assoc, append-nil}
use native.Mathlib.Omega.{arith}
use lib.ListN.{length, get_or, set, take, drop, length-append, length-drop}
use lib.Seq.{length-take-le, take-take, drop-drop}
use Rattle.line.proofs.Signs.{true-ne-false}
use Rattle.table.specs.Tree.{MAX, Forest, end, leaf, inner, is_end}
use Rattle.table.specs.Slices.{laid}
use Rattle.table.proofs.Laid.{laid_more}
use Rattle.scale.specs.declared.Scale.{Scale}
use Rattle.worth.specs.Worth.{Share}
use Rattle.worth.specs.Inside.Heights.{tallest, height_value, height_shares}
use Rattle.worth.specs.Inside.{kind_in, Beside, Lays, Fits, ReadyRun, Worthy}
use Rattle.worth.proofs.Run.{drop-take, lays-le, lays-none, reach-less}
use Rattle.judge.specs.Inside.{heights_in, worths_of, Here, Room, Under}

-- ---- a part of the lines

module _ (c j : ℕ) (s : List ℕ) (h : c < j) where
  -- the first line of the part
  first-line : take 25 s ≡ take 25 (take (25 * (j - c)) s)
  first-line = sym (take-take 25 (25 * (j - c)) s (omega arith))

  -- the lines under it
  under-lines : take (25 * (j - (c + 1))) (drop 25 s) ≡ take (25 * (j - (c + 1))) (drop 25 (take (25 * (j - c)) s))
  under-lines =
      let m : ℕ = 25 * (j - (c + 1)) in
      let z : m ≤ 25 * (j - c) - 25 = omega arith in
      sym (ap (take m) (drop-take 25 (25 * (j - c)) s) ∙ take-take m (25 * (j - c) - 25) (drop 25 s) z)

-- ---- the first node of a run

-- the first node by itself
abbrev only : Forest ℕ → Forest ℕ
only end = end
only (leaf n w v rest) = leaf n w v end
only (inner n w k under rest) = inner n w k under end

record Lead (S : Beside) (g : Scale) (c e : ℕ) (s : List ℕ) (f : Forest ℕ) : Type 0 where
  share : Share ℕ
  rest : Forest ℕ
  later : c < get_or S.stops c 0
  within : get_or S.stops c 0 ≤ e
  shares : height_shares g.grain f ≡ share ∷ height_shares g.grain rest
  lays : Lays S (get_or S.stops c 0) e (drop (25 * (get_or S.stops c 0 - c)) s) rest
  fits : Fits g rest
  single : Lays S c (get_or S.stops c 0) (take (25 * (get_or S.stops c 0 - c)) s) (only f)
  some : is_end (only f) ≡ false
  alone : Fits g (only f)
  worth : height_value MAX (height_shares g.grain (only f)) ≡ share.worth

module _ (S : Beside) (g : Scale) (c e : ℕ) (s : List ℕ) where
  lead : (f : Forest ℕ) → Lays S c e s f → Fits g f → c < e → Lead S g c e s f
  unfolding Lays height_shares height_value tallest
  lead end l F h = absurd (omega (arith, l))
  lead (leaf n w v rest) l F h =
      let j : ℕ = get_or S.stops c 0 in
      let later : c < j = omega (arith, l.1) in
      let line = first-line c j s later in
      record {
        share = record { weight = w; worth = v * g.grain };
        rest = rest;
        later = later;
        within = lays-le S j e (drop (25 * (j - c)) s) rest l.4;
        shares = refl;
        lays = l.4;
        fits = record { filled = F.filled; small = F.small.1; totals = F.totals };
        single = (
          ap kind_in (sym line) ∙ l.0,
          l.1,
          l.2,
          l.3,
          refl,
        );
        some = refl;
        alone = record { filled = tt; small = (F.small.0, tt); totals = tt };
        worth = refl;
      }
  lead (inner n w k under rest) l F h =
      let j : ℕ = get_or S.stops c 0 in
      let part : List ℕ = take (25 * (j - (c + 1))) (drop 25 s) in
      let after : c + 1 ≤ j = lays-le S (c + 1) j part under l.2 in
      let later : c < j = omega (arith, after) in
      let line = first-line c j s later in
      record {
        share = record { weight = w; worth = height_value k (height_shares g.grain under) };
        rest = rest;
        later = later;
        within = lays-le S j e (drop (25 * (j - c)) s) rest l.3;
        shares = refl;
        lays = l.3;
        fits = record { filled = F.filled.2; small = F.small.2; totals = F.totals.2 };
        single = (
          ap kind_in (sym line) ∙ l.0,
          l.1,
          subst (λ (t : List ℕ). Lays S (c + 1) j t under) (under-lines c j s later) l.2,
          refl,
        );
        some = refl;
        alone = record {
          filled = (F.filled.0, F.filled.1, tt);
          small = (F.small.0, F.small.1, tt);
          totals = (F.totals.0, F.totals.1, tt);
        };
        worth = refl;
      }

-- ---- node i in all the lines

pub record Child (S : Beside) (g : Scale) (n : ℕ) (s : List ℕ) (i : ℕ) (f : Forest ℕ) : Type 0 where
  pub share : Share ℕ
  pub rest : Forest ℕ
  pub later : i < get_or S.stops i 0
  pub within : get_or S.stops i 0 ≤ n
  pub shares : height_shares g.grain f ≡ share ∷ height_shares g.grain rest
  pub here : Here S g n s (get_or S.stops i 0) rest
  pub ready : ReadyRun S g MAX i (get_or S.stops i 0) (take (25 * get_or S.stops i 0 - 25 * i) (drop (25 * i) s))
  pub worth : height_value MAX (height_shares g.grain ready.nodes) ≡ share.worth

module _ (S : Beside) (g : Scale) (n : ℕ) (s : List ℕ) (room : Room S g n s) where
  child-at : (i : ℕ) (f : Forest ℕ) → Here S g n s i f → i < n → Child S g n s i f
  child-at i f H h =
      let j : ℕ = get_or S.stops i 0 in
      let L = lead S g i n (drop (25 * i) s) f H.lays H.fits h in
      let at : 25 * i + 25 * (j - i) ≡ 25 * j = omega (arith, L.later) in
      let size : 25 * (j - i) ≡ 25 * j - 25 * i = omega arith in
      let cut : drop (25 * (j - i)) (drop (25 * i) s) ≡ drop (25 * j) s =
      drop-drop (25 * (j - i)) (25 * i) s ∙ ap (λ (m : ℕ). drop m s) at in
      record {
        share = L.share;
        rest = L.rest;
        later = L.later;
        within = L.within;
        shares = L.shares;
        here = record {
          lays = subst (λ (t : List ℕ). Lays S j n t L.rest) cut L.lays;
          fits = L.fits;
        };
        ready = record {
          nodes = only f;
          lays = subst (λ (m : ℕ). Lays S i j (take m (drop (25 * i) s)) (only f)) size L.single;
          fits = L.alone;
          total = λ z. absurd (true-ne-false (sym z));
          some = L.some;
          long = length-take-le (25 * j - 25 * i) (drop (25 * i) s) (omega (arith, length-drop (25 * i) s, room.long, L.within)) ∙ sym size;
          room = reach-less S j n L.within room.room;
          few = omega (arith, L.within, room.few);
          scale = room.scale;
        };
        worth = L.worth;
      }

  -- the part that ends at `e`, and what it is said to be worth
  module _ (i : ℕ) (f : Forest ℕ) (C : Child S g n s i f) (e : ℕ) (stop : e ≡ get_or S.stops i 0) where
    pub part-ready : ReadyRun S g MAX i e (take (25 * e - 25 * i) (drop (25 * i) s))
    part-ready = subst (λ (m : ℕ). ReadyRun S g MAX i m (take (25 * m - 25 * i) (drop (25 * i) s))) (sym stop) C.ready

    pub part-worth : (r : ℕ) → Worthy S g MAX i e (take (25 * e - 25 * i) (drop (25 * i) s)) r → r ≡ C.share.worth
    part-worth r w =
        subst (λ (m : ℕ). Worthy S g MAX i m (take (25 * m - 25 * i) (drop (25 * i) s)) r) stop w C.ready ∙ C.worth

-- ---- listing the worths

-- up to node i: those `done` stand at the list's front
pub record Listing (S : Beside) (g : Scale) (n : ℕ) (s came : List ℕ) (f : Forest ℕ) (list : List ℕ) (m i : ℕ) : Type 0 where
  pub done : List ℕ
  pub rest : Forest ℕ
  pub here : Here S g n s i rest
  pub count : length done ≡ m
  pub low : m < i
  pub upto : i ≤ n
  pub same : worths_of g f ≡ done ++ worths_of g rest
  pub front : list ≡ laid done came

module _ (S : Beside) (g : Scale) (n : ℕ) (s came : List ℕ) where
  abbrev pub ListingAll : List ℕ → ℕ → ℕ → Type 0
  ListingAll list m i = (U : Under S g n s (length came)) → Listing S g n s came U.nodes list m i

  pub list-start : ListingAll came 0 1
  list-start U =
      record {
        done = [];
        rest = U.nodes;
        here = U.here;
        count = refl;
        low = omega arith;
        upto = lays-le S 1 n (drop (25 * 1) s) U.nodes U.here.lays;
        same = refl;
        front = refl;
      }

  module _ (list : List ℕ) (m i : ℕ) (U : Under S g n s (length came)) (all : ListingAll list m i) where
    pub list-child : i < n → Child S g n s i (all U).rest
    list-child h = child-at S g n s U.fits i (all U).rest (all U).here h

    pub list-turn : (h : i < n) (w more j : ℕ) → w ≡ (list-child h).share.worth → more ≡ m + 1 → j ≡ get_or S.stops i 0
        → Listing S g n s came U.nodes (set list m w) more j
    list-turn h w more j x y z =
        let L = all U in
        let C = list-child h in
        let one : List ℕ = w ∷ [] in
        let next : worths_of g L.rest ≡ w ∷ worths_of g C.rest =
        ap heights_in C.shares ∙ ap (λ (v : ℕ). v ∷ worths_of g C.rest) (sym x) in
        rw z
        (record {
          done = L.done ++ one;
          rest = C.rest;
          here = C.here;
          count = omega (arith, length-append L.done one, L.count);
          low = omega (arith, L.low, C.later);
          upto = C.within;
          same = L.same ∙ ap (λ (v : List ℕ). L.done ++ v) next ∙ sym (append_assoc L.done one (worths_of g C.rest));
          front = ap (λ (v : List ℕ). set v m w) L.front ∙ ap (λ (k : ℕ). set (laid L.done came) k w) (sym L.count)
              ∙ sym (laid_more L.done came w (omega (arith, L.count, L.low, L.upto, U.place)));
        })

    pub list-end : n ≤ i → (m ≡ length (worths_of g U.nodes)) × (list ≡ laid (worths_of g U.nodes) came)
    list-end h =
        let L = all U in
        let none = lays-none S g.grain i n (drop (25 * i) s) L.rest L.here.lays h in
        let whole : worths_of g U.nodes ≡ L.done =
        L.same ∙ ap (λ (xs : List (Share ℕ)). L.done ++ heights_in xs) none ∙ append-nil L.done in
        (sym (ap length whole ∙ L.count), L.front ∙ ap (λ (v : List ℕ). laid v came) (sym whole))
