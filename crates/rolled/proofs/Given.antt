-- An accepted table can be rolled out, and what `rollouts` leaves is the rollouts of the table.
use Prim.Native.Nat.{ℕ, ◌*◌, ◌≤◌, ◌<◌}
use mathlib.Core.Path.{◌≡◌, refl, sym, ap, subst, ◌∙◌}
use mathlib.Core.List.{List, [], ◌∷◌, map}
use native.Mathlib.Omega.{arith}
use lib.IntN.{ℤ}
use lib.ListN.{length, get_or, take, length-map}
use lib.Seq.{length-take-le}
use Rattle.line.specs.Refusal.{fine}
use Rattle.table.specs.Tree.{leaves}
use Rattle.table.specs.Table.{Table, read_text, grain, leaf_lines}
use Rattle.table.specs.Slices.{kinds_of, stops_of, weights_of, heights_of, fitted, laid}
use Rattle.table.specs.Inside.{height_tree}
use Rattle.table.specs.Accepted.{span}
use Rattle.table.proofs.Accepted.{accepted-lent, heights-leaves, accepted-holds}
use Rattle.rollout.specs.Rollout.{Pair}
use Rattle.rollout.specs.Whole.{rolled, rolled_worth, rolled_store}
use Rattle.rollout.specs.Inside.Raised.{map_pair, above}
use Rattle.rolling.specs.Inside.Lists.{Store, low_at, high_at, pairs, RolledS, roll_s, AtEnds}
use Rattle.rolling.specs.Inside.Contracts.{stored, ReadyRoll, WellRolled}
use Rattle.rolling.proofs.Listed.{Listed, listed, listed_small}
use Rattle.rolled.specs.Inside.Bounds.{lows_of, highs_of}

module _ (g : ℕ → ℤ) where
  pairs-lows : (a b : List ℕ) → length a ≡ length b → lows_of (map (map_pair g) (pairs a b)) ≡ map g a
  unfolding pairs
  pairs-lows [] b e = refl
  pairs-lows (x ∷ a) [] e = absurd (omega arith)
  pairs-lows (x ∷ a) (y ∷ b) e = ap (λ (l : List ℤ). g x ∷ l) (pairs-lows a b (omega arith))

  pairs-highs : (a b : List ℕ) → length a ≡ length b → highs_of (map (map_pair g) (pairs a b)) ≡ map g b
  unfolding pairs
  pairs-highs [] [] e = refl
  pairs-highs [] (y ∷ b) e = absurd (omega arith)
  pairs-highs (x ∷ a) [] e = absurd (omega arith)
  pairs-highs (x ∷ a) (y ∷ b) e = ap (λ (l : List ℤ). g y ∷ l) (pairs-highs a b (omega arith))

module _ (s : List ℕ) (t : Table) (h : read_text s ≡ fine t) where
  abbrev nodes : ℕ
  nodes = length t.lines

  -- how many grains the ends are apart
  abbrev far : ℕ
  far = span t.head * grain t

  -- The number r, the lows and highs in grains above the lowest end, and the list, as it came and as it is now, are the rollouts under p.
  pub record Given (p : List ℕ) (low high : List ℕ) (r : ℕ) (came now : List ℕ) : Type 0 where
    pub used : r ≡ length (rolled t p).read
    pub leaves : now ≡ laid (rolled t p).read came
    pub worth : above t (get_or low 0 0) ≡ rolled_worth t p
    pub lows : map (above t) (take nodes low) ≡ lows_of (rolled_store t p)
    pub highs : map (above t) (take nodes high) ≡ highs_of (rolled_store t p)
    pub size : length (rolled_store t p) ≡ nodes
    pub room : (nodes ≤ length low) × (nodes ≤ length high)
    pub small : (i : ℕ) → i < nodes → (get_or low i 0 ≤ far) × (get_or high i 0 ≤ far)

  listed-given : (p : List ℕ) (st0 : Store) → AtEnds nodes far st0 → (d : RolledS) → d ≡ roll_s (grain t) (leaves (height_tree t)) p (height_tree t) st0
      → (r : ℕ) (came now : List ℕ) → r ≡ length d.read → now ≡ laid d.read came → Given p d.store.low d.store.high r came now
  listed-given p st0 ready d same r came now u l =
      let L : Listed s t h p st0 d = subst (λ (z : RolledS). Listed s t h p st0 z) (sym same) (listed s t h p st0 ready) in
      let rl : nodes ≤ length d.store.low = omega (arith, L.frame.low, ready.room.0) in
      let rh : nodes ≤ length d.store.high = omega (arith, L.frame.high, ready.room.1) in
      let a : List ℕ = take nodes d.store.low in
      let b : List ℕ = take nodes d.store.high in
      let la : length a ≡ nodes = length-take-le nodes d.store.low rl in
      let lb : length b ≡ nodes = length-take-le nodes d.store.high rh in
      let lows : map (above t) a ≡ lows_of (rolled_store t p) = sym (pairs-lows (above t) a b (la ∙ sym lb)) ∙ ap lows_of L.store in
      record {
        used = u ∙ ap length L.read;
        leaves = l ∙ ap (λ (z : List ℕ). laid z came) L.read;
        worth = L.worth;
        lows = lows;
        highs = sym (pairs-highs (above t) a b (la ∙ sym lb)) ∙ ap highs_of L.store;
        size = sym (length-map (rolled_store t p) (λ (q : Pair ℤ). q.low)) ∙ ap length (sym lows) ∙ length-map a (above t) ∙ la;
        room = (rl, rh);
        small = subst (λ (z : RolledS). (i : ℕ) → i < nodes → (low_at z.store i ≤ far) × (high_at z.store i ≤ far)) (sym same) (listed_small s t h p st0 ready);
      }

  -- st0 is the store before the first walk
  module _ (K S W H : List ℕ) (room_k : nodes ≤ length K) (room_s : nodes ≤ length S) (room_w : nodes ≤ length W) (room_h : nodes ≤ length H) (st0 : Store) (begun : AtEnds nodes far st0) where
    pub accepted-roll-ready : (room : ℕ) → leaf_lines t.lines ≤ room
        → ReadyRoll (fitted (kinds_of t) K) (fitted (stops_of t) S) (fitted (heights_of t) H) (grain t) nodes st0 room
    accepted-roll-ready room enough =
        let R = accepted-holds s t h K S W H room_k room_s room_w room_h in
        record {
          text = s;
          table = t;
          accepted = h;
          weights = fitted (weights_of t) W;
          spans = accepted-lent s t h K S W H room_k room_s room_w room_h;
          grained = refl;
          size = refl;
          ready = begun;
          kinds = R.kinds;
          stops = R.stops;
          heights = R.heights;
          space = omega (arith, heights-leaves s t h);
        }

    pub accepted-rolled : (p low high : List ℕ) (r : ℕ) (came now : List ℕ) → leaf_lines t.lines ≤ length came
        → WellRolled (fitted (kinds_of t) K) (fitted (stops_of t) S) (fitted (heights_of t) H) (grain t) nodes p st0 (stored low high) r came now
        → Given p low high r came now
    unfolding accepted-roll-ready
    accepted-rolled p low high r came now enough told =
        let x = told (accepted-roll-ready (length came) enough) in
        let d : RolledS = roll_s (grain t) (leaves (height_tree t)) p (height_tree t) st0 in
        let e : Given p d.store.low d.store.high r came now = listed-given p st0 begun d refl r came now x.used x.leaves in
        subst (λ (z : Store). Given p z.low z.high r came now) (sym x.store) e
