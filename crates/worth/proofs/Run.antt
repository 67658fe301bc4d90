-- A run of lines that can be judged, one child after another: what the code of `worth_under` keeps.
use Prim.Native.Nat.{ℕ, zero, suc, ◌+◌, ◌-◌, ◌*◌, ◌/◌, ◌≤◌, ◌<◌, min, max}
use mathlib.Core.Path.{◌≡◌, refl, sym, ap, subst, ◌∙◌}
use mathlib.Core.Bool.{Bool, true, false}
use mathlib.Core.List.{List, [], ◌∷◌}
use native.Mathlib.Omega.{arith}
use Rattle.std.proofs.Math.Nat.{mul-le-mul}
use lib.ListN.{length, get_or, take, drop, length-drop}
use lib.Seq.{length-take-le, take-nil, take-take, drop-drop}
use Rattle.table.specs.Tree.{Kind, MAX, MIN, CHANCE, Forest, end, leaf, inner, code_of, kind_of, is_chance, is_end}
use Rattle.table.specs.Inside.{begin, taken, sealed}
use Rattle.table.proofs.Nodes.{code-pos}
use Rattle.table.proofs.Runs.{kind-code}
use Rattle.scale.specs.declared.Scale.{Scale}
use Rattle.worth.specs.Worth.{Share, total}
use Rattle.worth.specs.Inside.Heights.{tallest, shortest, summed, height_value, height_shares, SmallWorths}
use Rattle.worth.specs.Inside.{kind_in, Beside, Reach, Lays, take_all, OkScale, Fits, ReadyRun}
use Rattle.worth.proofs.Bounds.{Each, shortest-one, summed-le, weights-shares, small-each}
use Rattle.worth.proofs.Shift.{Some, some-shares}

-- ---- the children of a node, one after another

tallest-cons : (x : Share ℕ) (xs : List (Share ℕ)) → tallest (x ∷ xs) ≡ max x.worth (tallest xs)
unfolding tallest
tallest-cons x [] = omega arith
tallest-cons x (y ∷ ys) = refl

tallest-none : (a : ℕ) → a ≡ max a (tallest [])
unfolding tallest
tallest-none a = omega arith

take-max : (a : ℕ) (xs : List (Share ℕ)) → take_all MAX a xs ≡ max a (tallest xs)
unfolding take_all
take-max a [] = tallest-none a
take-max a (x ∷ xs) = omega (arith, take-max (max a x.worth) xs, tallest-cons x xs)

take_min : (a : ℕ) (x : Share ℕ) (xs : List (Share ℕ)) → take_all MIN a (x ∷ xs) ≡ min a (shortest (x ∷ xs))
unfolding take_all shortest
take_min a x [] = refl
take_min a x (y ∷ ys) = take_min (min a x.worth) y ys ∙ assoc a x.worth (shortest (y ∷ ys))
  where
    assoc : (a b c : ℕ) → min (min a b) c ≡ min a (min b c)
    assoc a b c = omega arith

take-sum : (a : ℕ) (xs : List (Share ℕ)) → take_all CHANCE a xs ≡ a + summed xs
unfolding take_all summed
take-sum a [] = omega arith
take-sum a (x ∷ xs) = omega (arith, take-sum (a + x.weight * x.worth) xs)

max-zero : (v : ℕ) → max 0 v ≡ v
max-zero v = omega arith

min-below : (M v : ℕ) → v ≤ M → min M v ≡ v
min-below M v h = omega arith

taken-value : (M : ℕ) (k : Kind) (xs : List (Share ℕ)) → Some xs → Each (λ (v : ℕ). v ≤ M) xs
    → sealed (total xs) k (take_all k (begin M k) xs) ≡ height_value k xs
unfolding height_value
taken-value M k [] s e = absurd s
taken-value M MAX (x ∷ xs) s e = take-max 0 (x ∷ xs) ∙ max-zero (tallest (x ∷ xs))
taken-value M MIN (x ∷ xs) s e =
    take_min M x xs ∙ min-below M (shortest (x ∷ xs)) (shortest-one (λ (v : ℕ). v ≤ M) (omega arith) (x ∷ xs) e)
taken-value M CHANCE (x ∷ xs) s e =
    let z : take_all CHANCE 0 (x ∷ xs) ≡ summed (x ∷ xs) = omega (arith, take-sum 0 (x ∷ xs)) in
    ap (λ (v : ℕ). v / total (x ∷ xs)) z

pub value_taken : (G M : ℕ) (k : Kind) (f : Forest ℕ) → is_end f ≡ false → SmallWorths G M f
    → sealed (total (height_shares G f)) k (take_all k (begin M k) (height_shares G f)) ≡ height_value k (height_shares G f)
value_taken G M k f n s = taken-value M k (height_shares G f) (some-shares G f n) (small-each G M f s)

-- ---- lines of a part of the text

pub drop-take : (a n : ℕ) (l : List ℕ) → drop a (take n l) ≡ take (n - a) (drop a l)
drop-take zero n l = let z : n ≡ n - 0 = omega arith in ap (λ (m : ℕ). take m l) z
drop-take (suc a) zero l = let z : 0 ≡ 0 - suc a = omega arith in ap (λ (m : ℕ). take m (drop (suc a) l)) z
drop-take (suc a) (suc n) [] = sym (take-nil (suc n - suc a))
drop-take (suc a) (suc n) (x ∷ l) =
    let z : n - a ≡ suc n - suc a = omega arith in
    drop-take a n l ∙ ap (λ (m : ℕ). take m (drop a l)) z

pub line-within : (m n : ℕ) (t : List ℕ) → 25 * m + 25 ≤ n → take 25 (drop (25 * m) (take n t)) ≡ take 25 (drop (25 * m) t)
line-within m n t h = ap (take 25) (drop-take (25 * m) n t) ∙ take-take 25 (n - 25 * m) (drop (25 * m) t) (omega arith)

-- ---- the first node of a run

code_few : (k : Kind) → code_of k < 4
code_few MAX = omega arith
code_few MIN = omega arith
code_few CHANCE = omega arith

pub lays-le : (S : Beside) (c e : ℕ) (s : List ℕ) (f : Forest ℕ) → Lays S c e s f → c ≤ e
unfolding Lays
lays-le S c e s end l = omega (arith, l)
lays-le S c e s (leaf n w h rest) l = omega (arith, l.1, lays-le S (get_or S.stops c 0) e (drop (25 * (get_or S.stops c 0 - c)) s) rest l.4)
lays-le S c e s (inner n w k under rest) l =
    let j : ℕ = get_or S.stops c 0 in
    omega (arith, lays-le S (c + 1) j (take (25 * (j - (c + 1))) (drop 25 s)) under l.2, lays-le S j e (drop (25 * (j - c)) s) rest l.3)

-- no lines are left, and so no nodes
pub lays-none : (S : Beside) (G c e : ℕ) (s : List ℕ) (f : Forest ℕ) → Lays S c e s f → e ≤ c → height_shares G f ≡ []
unfolding Lays height_shares
lays-none S G c e s end l h = refl
lays-none S G c e s (leaf n w v rest) l h =
    absurd (omega (arith, l.1, lays-le S (get_or S.stops c 0) e (drop (25 * (get_or S.stops c 0 - c)) s) rest l.4))
lays-none S G c e s (inner n w k under rest) l h =
    let j : ℕ = get_or S.stops c 0 in
    absurd (omega (arith, lays-le S (c + 1) j (take (25 * (j - (c + 1))) (drop 25 s)) under l.2, lays-le S j e (drop (25 * (j - c)) s) rest l.3))

-- the lines `part`, nodes c up to j, can be judged under the kind of the number k, and are then worth v
pub record Child (S : Beside) (g : Scale) (k c j : ℕ) (part : List ℕ) (v : ℕ) : Type 0 where
  pub ready : ReadyRun S g (kind_of k) c j part
  pub worth : v ≡ height_value (kind_of k) (height_shares g.grain ready.nodes)

-- the first node of the lines s of the nodes f, and the nodes after its run
pub record Front (S : Beside) (g : Scale) (c e : ℕ) (s : List ℕ) (f : Forest ℕ) : Type 0 where
  pub share : Share ℕ
  pub rest : Forest ℕ
  pub later : c < get_or S.stops c 0
  pub within : get_or S.stops c 0 ≤ e
  pub shares : height_shares g.grain f ≡ share ∷ height_shares g.grain rest
  pub weighs : get_or S.weights c 0 ≡ share.weight
  pub lays : Lays S (get_or S.stops c 0) e (drop (25 * (get_or S.stops c 0 - c)) s) rest
  pub fits : Fits g rest
  pub known : kind_in (take 25 s) < 4
  pub leafy : kind_in (take 25 s) ≡ 0 → share.worth ≡ get_or S.heights c 0 * g.grain
  pub child : (kind_in (take 25 s) ≡ 0 → ⊥)
      → Child S g (kind_in (take 25 s)) (c + 1) (get_or S.stops c 0) (take (25 * (get_or S.stops c 0 - (c + 1))) (drop 25 s)) share.worth

-- slices that reach up to e reach up to j before it
pub reach-less : (S : Beside) (j e : ℕ) → j ≤ e → Reach S e → Reach S j
reach-less S j e h r = record { stops = omega (arith, r.stops); weights = omega (arith, r.weights); heights = omega (arith, r.heights) }

part-long : (c e j : ℕ) (s : List ℕ) → c < j → j ≤ e → length s ≡ 25 * (e - c) → length (take (25 * (j - (c + 1))) (drop 25 s)) ≡ 25 * (j - (c + 1))
part-long c e j s h k l = length-take-le (25 * (j - (c + 1))) (drop 25 s) (omega (arith, length-drop 25 s, l))

module _ (S : Beside) (g : Scale) (c e : ℕ) (s : List ℕ) where
  pub front : (f : Forest ℕ) → Lays S c e s f → Fits g f → c < e → length s ≡ 25 * (e - c) → Reach S e → e ≤ 1024 → OkScale g → Front S g c e s f
  unfolding Lays height_shares
  front end l F h long room few ok = absurd (omega (arith, l))
  front (leaf n w v rest) l F h long room few ok =
      record {
        share = record { weight = w; worth = v * g.grain };
        rest = rest;
        later = omega (arith, l.1);
        within = lays-le S (get_or S.stops c 0) e (drop (25 * (get_or S.stops c 0 - c)) s) rest l.4;
        shares = refl;
        weighs = l.2;
        lays = l.4;
        fits = record { filled = F.filled; small = F.small.1; totals = F.totals };
        known = omega (arith, l.0);
        leafy = λ z. ap (λ (x : ℕ). x * g.grain) (sym l.3);
        child = λ z. absurd (z l.0);
      }
  front (inner n w k under rest) l F h long room few ok =
      let G : ℕ = g.grain in
      let j : ℕ = get_or S.stops c 0 in
      let part : List ℕ = take (25 * (j - (c + 1))) (drop 25 s) in
      let later : c + 1 ≤ j = lays-le S (c + 1) j part under l.2 in
      let within : j ≤ e = lays-le S j e (drop (25 * (j - c)) s) rest l.3 in
      let same : kind_of (kind_in (take 25 s)) ≡ k = ap kind_of l.0 ∙ kind-code k in
      record {
        share = record { weight = w; worth = height_value k (height_shares G under) };
        rest = rest;
        later = omega (arith, later);
        within = within;
        shares = refl;
        weighs = l.1;
        lays = l.3;
        fits = record { filled = F.filled.2; small = F.small.2; totals = F.totals.2 };
        known = omega (arith, l.0, code_few k);
        leafy = λ z. absurd (omega (arith, code-pos k, l.0, z));
        child = λ z. record {
          ready = record {
            nodes = under;
            lays = l.2;
            fits = record { filled = F.filled.1; small = F.small.1; totals = F.totals.1 };
            total = λ i. F.totals.0 (ap is_chance (sym same) ∙ i);
            some = F.filled.0;
            long = part-long c e j s (omega (arith, later)) within long;
            room = reach-less S j e within room;
            few = omega (arith, within, few);
            scale = ok;
          };
          worth = ap (λ (q : Kind). height_value q (height_shares G under)) (sym same);
        };
      }

-- ---- the loop

sealed-same : (k : Kind) (m n a : ℕ) → (is_chance k ≡ true → m ≡ n) → sealed m k a ≡ sealed n k a
sealed-same MAX m n a e = refl
sealed-same MIN m n a e = refl
sealed-same CHANCE m n a e = ap (λ (x : ℕ). a / x) (e refl)

-- Up to node i the children are taken and come to a, and under a C their weights to w: taking the rest from there is taking all from the start.
pub record Going (S : Beside) (g : Scale) (k : Kind) (c e : ℕ) (s : List ℕ) (f : Forest ℕ) (a w i : ℕ) : Type 0 where
  pub rest : Forest ℕ
  pub from : c ≤ i
  pub upto : i ≤ e
  pub lays : Lays S i e (drop (25 * (i - c)) s) rest
  pub fits : Fits g rest
  pub same : take_all k (begin g.top k) (height_shares g.grain f) ≡ take_all k a (height_shares g.grain rest)
  pub weighed : is_chance k ≡ true → w + total (height_shares g.grain rest) ≡ total (height_shares g.grain f)
  pub light : w ≤ 255 * i

module _ (S : Beside) (g : Scale) (k : Kind) (c e : ℕ) (s : List ℕ) where
  -- the invariant of the loop: for all that the contract speaks of
  abbrev pub GoingAll : ℕ → ℕ → ℕ → Type 0
  GoingAll a w i = (R : ReadyRun S g k c e s) → Going S g k c e s R.nodes a w i

  pub going_start : (a : ℕ) → a ≡ begin g.top k → GoingAll a 0 c
  going_start a p R =
      record {
        rest = R.nodes;
        from = omega arith;
        upto = lays-le S c e s R.nodes R.lays;
        lays = subst (λ (t : List ℕ). Lays S c e t R.nodes) (sym (drop-none c s)) R.lays;
        fits = R.fits;
        same = ap (λ (x : ℕ). take_all k x (height_shares g.grain R.nodes)) (sym p);
        weighed = λ i. omega arith;
        light = omega arith;
      }
    where
      drop-none : (c : ℕ) (s : List ℕ) → drop (25 * (c - c)) s ≡ s
      drop-none c s = let z : 25 * (c - c) ≡ 0 = omega arith in rw z refl

  -- the first node that is left
  abbrev pub Next : ℕ → ℕ → ℕ → ReadyRun S g k c e s → Type 0
  Next a w i R = (G : Going S g k c e s R.nodes a w i) × Front S g i e (drop (25 * (i - c)) s) G.rest

  pub next_of : (a w i : ℕ) (R : ReadyRun S g k c e s) → GoingAll a w i → i < e → Next a w i R
  next_of a w i R all h =
      let G = all R in (
        G,
        front S g i e (drop (25 * (i - c)) s) G.rest G.lays G.fits h
            (omega (arith, length-drop (25 * (i - c)) s, R.long, G.from)) R.room R.few R.scale,
      )

  going-turn : (a w i : ℕ) (R : ReadyRun S g k c e s) (N : Next a w i R) (b v j : ℕ) → j ≡ get_or S.stops i 0 → b ≡ taken k a v N.1.share.worth
      → v ≡ N.1.share.weight → v ≤ 255 → Going S g k c e s R.nodes b (w + v) j
  unfolding take_all total
  going-turn a w i R N b v j stop step weight light =
      let G = N.0 in
      let F = N.1 in
      let Q : ℕ = g.grain in
      let m : ℕ = get_or S.stops i 0 in
      let at : 25 * (i - c) + 25 * (m - i) ≡ 25 * (m - c) = omega (arith, G.from, F.later) in
      let cut : drop (25 * (m - i)) (drop (25 * (i - c)) s) ≡ drop (25 * (m - c)) s =
      drop-drop (25 * (m - i)) (25 * (i - c)) s ∙ ap (λ (n : ℕ). drop n s) at in
      let took : b ≡ taken k a F.share.weight F.share.worth = step ∙ ap (λ (n : ℕ). taken k a n F.share.worth) weight in
      rw stop
      (record {
        rest = F.rest;
        from = omega (arith, G.from, F.later);
        upto = F.within;
        lays = subst (λ (t : List ℕ). Lays S m e t F.rest) cut F.lays;
        fits = F.fits;
        same = G.same ∙ ap (take_all k a) F.shares ∙ ap (λ (x : ℕ). take_all k x (height_shares Q F.rest)) (sym took);
        weighed = λ i. omega (arith, G.weighed i, ap total F.shares, weight);
        light = omega (arith, G.light, F.later);
      })

  module _ (a w i : ℕ) (R : ReadyRun S g k c e s) (all : GoingAll a w i) (last : e ≤ i) where
    none_left : height_shares g.grain (all R).rest ≡ []
    none_left = lays-none S g.grain i e (drop (25 * (i - c)) s) (all R).rest (all R).lays last

    -- every weight is added
    all-weighed : is_chance k ≡ true → w ≡ total (height_shares g.grain R.nodes)
    unfolding total
    all-weighed i = omega (arith, (all R).weighed i, ap total none_left)

    pub going-total : k ≡ CHANCE → 0 < w
    going-total e = omega (arith, all-weighed (ap is_chance e), weights-shares g.grain R.nodes, (R.total (ap is_chance e)).0)

    -- every child is taken
    pub going_end : sealed w k a ≡ height_value k (height_shares g.grain R.nodes)
    unfolding take_all
    going_end =
        let z : take_all k (begin g.top k) (height_shares g.grain R.nodes) ≡ a = (all R).same ∙ ap (take_all k a) none_left in
        sealed-same k w (total (height_shares g.grain R.nodes)) a all-weighed
        ∙ ap (sealed (total (height_shares g.grain R.nodes)) k) (sym z)
        ∙ value_taken g.grain g.top k R.nodes R.some R.fits.small

-- at a C the sum of all bounds every sum on the way
sum-so-far : (a most : ℕ) (x : Share ℕ) (xs ys : List (Share ℕ))
    → take_all CHANCE 0 ys ≡ take_all CHANCE a (x ∷ xs) → summed ys ≤ most → a + x.weight * x.worth ≤ most
unfolding summed
sum-so-far a most x xs ys e h = omega (arith, take-sum 0 ys, take-sum a (x ∷ xs))

sum_fits : (S : Beside) (g : Scale) (k : Kind) (c e : ℕ) (s : List ℕ) (a w i : ℕ) (R : ReadyRun S g k c e s) (N : Next S g k c e s a w i R)
    → k ≡ CHANCE → a + N.1.share.weight * N.1.share.worth < 9223372036854775808
sum_fits S g MAX c e s a w i R N k = absurd (let z : ◌≡◌ {A = Bool} false true = ap is_chance k in let y : ◌≡◌ {A = ℕ} 0 1 = cc in omega arith)
sum_fits S g MIN c e s a w i R N k = absurd (let z : ◌≡◌ {A = Bool} false true = ap is_chance k in let y : ◌≡◌ {A = ℕ} 0 1 = cc in omega arith)
sum_fits S g CHANCE c e s a w i R N k =
    let Q : ℕ = g.grain in
    let xs : List (Share ℕ) = height_shares Q R.nodes in
    let F = N.1 in
    let few : total xs ≤ 64 = omega (arith, weights-shares Q R.nodes, (R.total refl).1) in
    omega (arith, sum-so-far a (total xs * g.top) F.share (height_shares Q F.rest) xs (N.0.same ∙ ap (take_all CHANCE a) F.shares) (summed-le g.top xs (small-each Q g.top R.nodes R.fits.small)), mul-le-mul few R.scale.top)

-- ---- the parts of the text

-- the lines under node i, up to node j, as the code cuts them
part_same : (c i j : ℕ) (s : List ℕ) → c ≤ i → i < j
    → take (25 * (j - c) - (25 * (i - c) + 25)) (drop (25 * (i - c) + 25) s) ≡ take (25 * (j - (i + 1))) (drop 25 (drop (25 * (i - c)) s))
part_same c i j s h l =
    let n : 25 * (j - c) - (25 * (i - c) + 25) ≡ 25 * (j - (i + 1)) = omega arith in
    ap (λ (m : ℕ). take m (drop (25 * (i - c) + 25) s)) n ∙ ap (take (25 * (j - (i + 1)))) (sym (drop-drop 25 (25 * (i - c)) s))

-- ---- one turn of the loop: the numbers that bound it, where node i stops at j

pub record Turn (c e i j : ℕ) (s : List ℕ) : Type 0 where
  pub from : c ≤ i
  pub here : i < j
  pub upto : j ≤ e
  pub few : e ≤ 1024
  pub long : length s ≡ 25 * (e - c)

module _ (S : Beside) (g : Scale) (k : Kind) (c e : ℕ) (s : List ℕ) (a w i : ℕ) (R : ReadyRun S g k c e s) (N : Next S g k c e s a w i R) where
  pub turn-of : (j : ℕ) → j ≡ get_or S.stops i 0 → Turn c e i j s
  turn-of j stop = record { from = N.0.from; here = omega (arith, N.1.later); upto = omega (arith, N.1.within); few = R.few; long = R.long }

  -- the child's kind, stop and lines, as the code has them
  pub child-of : (q j : ℕ) → q ≡ kind_in (take 25 (drop (25 * (i - c)) s)) → j ≡ get_or S.stops i 0 → (q ≡ 0 → ⊥)
      → Child S g q (i + 1) j (take (25 * (j - c) - (25 * (i - c) + 25)) (drop (25 * (i - c) + 25) s)) N.1.share.worth
  child-of q j kind stop inside =
      let at : ℕ = 25 * (i - c) in
      let m : ℕ = get_or S.stops i 0 in
      let v : ℕ = N.1.share.worth in
      let x = N.1.child (λ z. inside (kind ∙ z)) in
      let y = subst (λ (p : List ℕ). Child S g (kind_in (take 25 (drop at s))) (i + 1) m p v) (sym (part_same c i m s N.0.from N.1.later)) x in
      let z = subst (λ (n : ℕ). Child S g (kind_in (take 25 (drop at s))) (i + 1) n (take (25 * (n - c) - (at + 25)) (drop (at + 25) s)) v) (sym stop) y in
      subst (λ (n : ℕ). Child S g n (i + 1) j (take (25 * (j - c) - (at + 25)) (drop (at + 25) s)) v) (sym kind) z

  pub leaf-of : kind_in (take 25 (drop (25 * (i - c)) s)) ≡ 0 → get_or S.heights i 0 * g.grain ≡ N.1.share.worth
  leaf-of none = sym (N.1.leafy none)

  -- the child is worth h, and its weight is v
  module _ (h v : ℕ) (worth : h ≡ N.1.share.worth) (weight : v ≡ get_or S.weights i 0) where
    same-weight : v ≡ N.1.share.weight
    same-weight = weight ∙ N.1.weighs

    pub turn-fits : k ≡ CHANCE → a + v * h < 9223372036854775808
    turn-fits chance = rw (same-weight, worth) (sum_fits S g k c e s a w i R N chance)

    pub turn_on : (b j : ℕ) → j ≡ get_or S.stops i 0 → b ≡ taken k a v h → v ≤ 255 → Going S g k c e s R.nodes b (w + v) j
    turn_on b j stop step light = going-turn S g k c e s a w i R N b v j stop (step ∙ ap (taken k a v) worth) same-weight light
