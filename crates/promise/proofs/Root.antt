-- The search of a root over heights, whatever ends its nodes have: its bounds hold the worth, with the play's worth between them and it; where the budget is
-- never spent they are within the margin, and so is the play.
use Prim.Native.Nat.{ℕ, ◌+◌, ◌*◌, ◌≤◌}
use mathlib.Core.Path.{◌≡◌, subst, ◌∙◌}
use mathlib.Core.Bool.{false}
use mathlib.Core.List.{List, []}
use mathlib.Core.Option.{none, some}
use native.Mathlib.Nat.{le_refl, le_trans}
use native.Mathlib.Omega.{arith}
use lib.Dec.{T as Holds}
use Rattle.field.proofs.Small.{choose}
use Rattle.table.specs.Tree.{Kind, MAX, MIN, CHANCE, Forest, end, leaf, inner, is_end, weigh}
use Rattle.table.specs.Accepted.{OkTotal, Filled, Totals, Proper, Rooted}
use Rattle.table.specs.Root.{Root, nobody, to_play, AtM, AtN, root_of, children}
use Rattle.table.proofs.Heights.{map-end, map-filled}
use Rattle.worth.specs.Inside.Heights.{height_value, height_shares, first_height, SmallWorths}
use Rattle.worth.proofs.Bounds.{small}
use Rattle.search.specs.Search.{Frame, Play, no_play, child, Seen, Rules, begin, point, met_spent, scan, search, search_root, node_of}
use Rattle.search.specs.Inside.{natural, grained}
use Rattle.search.proofs.Heights.{worth, Within}
use Rattle.search.proofs.Contain.{Holding, hold-met, contained}
use Rattle.search.proofs.Grains.{plain, grained-map, within}
use Rattle.search.proofs.Few.{none-some}
use Rattle.search.proofs.Fit.{Fit}
use Rattle.promise.proofs.Width.{width}
use Rattle.promise.proofs.Play.{Child, Promise, named}
use Rattle.promise.proofs.Worths.{worth-value, worth-same, child-same}

-- between which two the play's worth v is: at M low and the exact worth, at N the exact worth and high; at no other root is a play named
abbrev pub OnSide : Root → (low high exact v : ℕ) → Type 0
OnSide nobody low high exact v = ⊥
OnSide (to_play AtM) low high exact v = (low ≤ v) × (v ≤ exact)
OnSide (to_play AtN) low high exact v = (v ≤ high) × (exact ≤ v)

-- so it is within ε of the exact worth where the bounds are within ε
pub near : (q : Root) (low high exact v ε : ℕ) → low ≤ exact → exact ≤ high → high ≤ low + ε → OnSide q low high exact v
    → (v ≤ exact + ε) × (exact ≤ v + ε)
near nobody low high exact v ε a b c h = absurd h
near (to_play AtM) low high exact v ε a b c h = omega arith
near (to_play AtN) low high exact v ε a b c h = omega arith

-- the root child m of F, in grains, is worth `value`
pub record Played (S : ℕ) (F : Forest ℕ) (low high exact m : ℕ) : Type 0 where
  pub value : ℕ
  pub named : Child (plain S) m value (children F)
  pub side : OnSide (root_of F) low high exact value

-- G grains in a point, and the ends S points apart
module _ (T K G S : ℕ) where
  abbrev top : ℕ
  top = S * G

  -- the root has no parent
  abbrev over : Frame ℕ
  over = record { bottom = 0; top = top; total = 0 }

  abbrev exact : Forest ℕ → ℕ
  exact F = first_height (height_shares G F)

  -- what the search asks of the tree F with these frames
  abbrev pub Tree : (frame : ℕ → Forest ℕ → Frame ℕ) → Forest ℕ → Type 0
  Tree frame F =
      Proper T K (λ (x : ℕ). x ≤ S) 0 0 false F × Filled F × Totals OkTotal F × Rooted F × Within frame over (grained G F) × Fit frame 1 (grained G F)

  -- Every frame's total is the sum of the weights. A lone leaf that is met unread has the ends of the table.
  module _ (R : Rules ℕ) (totals : (n : ℕ) (f : Forest ℕ) → (R.frame n f).total ≡ weigh f)
      (lone : Holds (R.full []) → (n : ℕ) → ((R.frame n end).bottom ≡ 0) × ((R.frame n end).top ≡ S * G)) where
    abbrev found : Forest ℕ → Seen ℕ
    found F = search_root natural R (grained G F)

    module _ (n w : ℕ) (k : Kind) (under rest : Forest ℕ) (t : Tree R.frame (inner n w k under rest)) where
      abbrev f : Forest ℕ
      f = grained G under

      abbrev e : Frame ℕ
      e = R.frame n f

      all-within : Within R.frame over (inner n w k f (grained G rest))
      unfolding grained
      all-within = t.4

      all_fit : Fit R.frame 1 (inner n w k f (grained G rest))
      unfolding grained
      all_fit = t.5

      -- between the table's ends
      all-between : Within (plain top) over (inner n w k f (grained G rest))
      unfolding grained
      all-between = within T S G K 0 0 0 false (inner n w k under rest) t.0 t.2

      all_small : SmallWorths G top under
      all_small = (small G T K S 0 0 false (inner n w k under rest) t.0).1

      some-under : is_end f ≡ false
      some-under = rw (grained-map G under) (map-end (λ (h : ℕ). h * G) under ∙ t.1.0)

      all-filled : Filled f
      all-filled = rw (grained-map G under) (map-filled (λ (h : ℕ). h * G) under t.1.1)

      worth-is : worth R.frame e k f ≡ height_value k (height_shares G under)
      worth-is =
          worth-same R.frame (plain top) totals e (plain top n f) k f (totals n f) some-under all-filled all-within.3 all-between.3
          ∙ worth-value top G k under t.1.0 t.1.1 all_small

      node-holds : Holding e (worth R.frame e k f) (search natural R e k f)
      unfolding search
      node-holds =
          hold-met R e [] _ (scan natural R e k f (begin e k e.bottom e.top [])) (contained R e k f e.bottom e.top [] all-within.2 all-within.3)

      node-width : ((l : List ℕ) → R.full l ≡ false) → (search natural R e k f).high ≤ (search natural R e k f).low + R.margin
      node-width never = width R never e k f 1 all-within.2 all-within.3 all_fit.0 all_fit.1

      child-plain : (m v : ℕ) → Child R.frame m v f → Child (plain top) m v f
      child-plain m v c = child-same R.frame (plain top) totals e (plain top n f) all-filled all-within.3 all-between.3 c

      node-play : (m : ℕ) (low high : ℕ) (p : Play ℕ) → node_of p ≡ some m → (j : Kind) → Promise R.frame e j f low high p
          → Played top (inner n w j f (grained G rest)) low high (worth R.frame e j f) m
      node-play m low high no_play q j x = none-some q
      node-play m low high (child a l h) q MAX x =
          let y : a ≡ m = cc in
          record { value = x.0; named = subst (λ (b : ℕ). Child (plain top) b x.0 f) y (child-plain a x.0 x.1); side = (x.2, x.3) }
      node-play m low high (child a l h) q MIN x =
          let y : a ≡ m = cc in
          record { value = x.0; named = subst (λ (b : ℕ). Child (plain top) b x.0 f) y (child-plain a x.0 x.1); side = (x.2, x.3) }
      node-play m low high (child a l h) q CHANCE x = absurd x

    -- the bounds hold the worth and lie between the ends
    pub holds : (F : Forest ℕ) → Tree R.frame F → ((found F).low ≤ exact F) × (exact F ≤ (found F).high) × ((found F).high ≤ S * G)
    unfolding search_root grained height_shares point met_spent
    holds end t = absurd t.3
    holds (leaf n w h rest) t =
        let x : h * G ≤ S * G = t.4.1 in
        choose (λ (r : Seen ℕ). (r.low ≤ h * G) × (h * G ≤ r.high) × (r.high ≤ S * G)) (R.full [])
        (λ z. let y = lone z n in (rw y.0 (omega arith), rw y.1 x, rw y.1 (le_refl _))) (λ _. (le_refl _, le_refl _, x))
    holds (inner n w k under rest) t =
        let c = rw (worth-is n w k under rest t) at (node-holds n w k under rest t) in
        (c.1, c.2, le_trans c.3 (all-within n w k under rest t).1)

    -- they are at most the margin apart where the budget is never spent
    pub narrow : ((l : List ℕ) → R.full l ≡ false) → (F : Forest ℕ) → Tree R.frame F → (found F).high ≤ (found F).low + R.margin
    unfolding search_root grained point
    narrow never end t = absurd t.3
    narrow never (leaf n w h rest) t = rw (never []) (omega arith)
    narrow never (inner n w k under rest) t = node-width n w k under rest t never

    -- the play's worth is on its side of the worth
    pub plays : (F : Forest ℕ) → Tree R.frame F → (m : ℕ) → node_of (found F).play ≡ some m
        → Played (S * G) (grained G F) (found F).low (found F).high (exact F) m
    unfolding search_root grained height_shares point met_spent
    plays end t m e = none-some e
    plays (leaf n w h rest) t m e =
        none-some (choose (λ (r : Seen ℕ). node_of r.play ≡ some m → none ≡ some m) (R.full []) (λ _ x. x) (λ _ x. x) e)
    plays (inner n w k under rest) t m q =
        let f : Forest ℕ = grained G under in
        let e : Frame ℕ = R.frame n f in
        let r : Seen ℕ = search natural R e k f in
        rw (worth-is n w k under rest t) at
        (node-play n w k under rest t m r.low r.high r.play q k (named R e k f (all-within n w k under rest t).3))
