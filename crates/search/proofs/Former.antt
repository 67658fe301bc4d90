-- Whatever the rule for the play is, the bounds and the leaves are the same. Document 02, Item 6.
use Prim.Native.Nat.{ℕ}
use mathlib.Core.Path.{◌≡◌, refl, sym, ap, ap₂, ◌∙◌}
use mathlib.Core.Bool.{Bool, cond}
use mathlib.Core.List.{List, []}
use lib.Signed.{lt_z}
use Rattle.table.specs.Tree.{Kind, MAX, MIN, CHANCE, Forest, end, leaf, inner}
use Rattle.table.specs.Table.{Table, tree, grain}
use Rattle.search.specs.Search.{Frame, no_play, Seen, State, Arith, Rules, begin, finish, cut, point, met_spent, met, lower, upper, update, stop, scan, search, search_root}
use Rattle.search.specs.Whole.{whole, in_grains, rules, searched_until}
use Rattle.search.specs.Former.{formerly, with_beats, former_until}
use Rattle.search.proofs.Steps.{cond_map, seen_under, seen_after}

module _ {A : Type 0} where
  -- a state and a result without their play
  abbrev pub bare : Seen A → Seen A
  bare r = record { low = r.low; high = r.high; play = no_play; read = r.read; spent = r.spent }

  abbrev bare_state : State A → State A
  bare_state s = record { alpha = s.alpha; beta = s.beta; lo = s.lo; hi = s.hi; play = no_play; read = s.read; spent = s.spent }

  module _ (O : Arith A) (beats : (k : Kind) (l h bl bh : A) → Bool) where
    abbrev P : Arith A
    P = with_beats beats O

    lower-bare : (e : Frame A) (k : Kind) (w : ℕ) (s t : State A) → bare_state s ≡ bare_state t → lower O e k w s ≡ lower P e k w t
    unfolding lower
    lower-bare e MAX w s t q = ap (λ (x : State A). x.alpha) q
    lower-bare e MIN w s t q = ap (λ (x : State A). x.alpha) q
    lower-bare e CHANCE w s t q = ap (λ (x : State A). O.down e w x.alpha x.hi) q

    upper-bare : (e : Frame A) (k : Kind) (w : ℕ) (s t : State A) → bare_state s ≡ bare_state t → upper O e k w s ≡ upper P e k w t
    unfolding upper
    upper-bare e MAX w s t q = ap (λ (x : State A). x.beta) q
    upper-bare e MIN w s t q = ap (λ (x : State A). x.beta) q
    upper-bare e CHANCE w s t q = ap (λ (x : State A). O.up e w x.beta x.lo) q

    update-bare : (e : Frame A) (k : Kind) (n w : ℕ) (s t : State A) (r q : Seen A) → bare_state s ≡ bare_state t → bare r ≡ bare q
        → bare_state (update O e k n w s r) ≡ bare_state (update P e k n w t q)
    unfolding update
    update-bare e MAX n w s t r q x y = ap₂ (λ (a : State A) (b : Seen A). bare_state (update O e MAX n w a b)) x y
    update-bare e MIN n w s t r q x y = ap₂ (λ (a : State A) (b : Seen A). bare_state (update O e MIN n w a b)) x y
    update-bare e CHANCE n w s t r q x y = ap₂ (λ (a : State A) (b : Seen A). bare_state (update O e CHANCE n w a b)) x y

    module _ (R : Rules A) where
      met-bare : (e : Frame A) (l m : List ℕ) (r q : Seen A) → l ≡ m → bare r ≡ bare q → bare (met R e l r) ≡ bare (met R e m q)
      unfolding met_spent
      met-bare e l m r q x y =
          sym (cond_map bare (met_spent e l) r (R.full l)) ∙ ap₂ (λ (z : List ℕ) (b : Seen A). met R e z b) x y
          ∙ cond_map bare (met_spent e m) q (R.full m)

      after-bare : (e : Frame A) (k : Kind) (rest : Forest A) (s t : State A) → bare_state s ≡ bare_state t
          → bare (scan O R e k rest s) ≡ bare (scan P R e k rest t) → bare (seen_after O R e k rest s) ≡ bare (seen_after P R e k rest t)
      unfolding cut stop
      after-bare e k rest s t x y =
          sym (cond_map bare (cut e k s) (scan O R e k rest s) (stop O R.margin rest s))
          ∙ ap₂ (λ (a : State A) (b : Seen A). cond (stop O R.margin rest a) (bare (cut e k a)) b) x y
          ∙ cond_map bare (cut e k t) (scan P R e k rest t) (stop O R.margin rest t)

      -- a child has given r by the one rule and q by the other; unread it has d's ends
      step-bare : (e d : Frame A) (k : Kind) (n w : ℕ) (rest : Forest A) (s t : State A) (r q : Seen A) → bare_state s ≡ bare_state t → bare r ≡ bare q
          → ((a b : State A) → bare_state a ≡ bare_state b → bare (scan O R e k rest a) ≡ bare (scan P R e k rest b))
          → bare (seen_after O R e k rest (update O e k n w s (met R d s.read r))) ≡ bare (seen_after P R e k rest (update P e k n w t (met R d t.read q)))
      step-bare e d k n w rest s t r q x y ih =
          let z = update-bare e k n w s t _ _ x (met-bare d s.read t.read r q (ap (λ (a : State A). a.read) x) y) in
          after-bare e k rest _ _ z (ih _ _ z)

      scan-bare : (e : Frame A) (k : Kind) (f : Forest A) (s t : State A) → bare_state s ≡ bare_state t → bare (scan O R e k f s) ≡ bare (scan P R e k f t)
      unfolding scan finish begin
      scan-bare e k end s t x = ap (λ (a : State A). bare (finish a)) x
      scan-bare e k (leaf n w v rest) s t x =
          step-bare e e k n w rest s t (point n v s.read) (point n v t.read) x (ap (λ (a : State A). bare (point n v a.read)) x) (λ a b. scan-bare e k rest a b)
      scan-bare e k (inner n w c under rest) s t x =
          let d : Frame A = R.frame n under in
          step-bare e d k n w rest s t (seen_under O R e k n w c under s) (seen_under P R e k n w c under t) x
          (scan-bare d c under _ _ (λ i. bare_state (begin d c (lower-bare e k w s t x i) (upper-bare e k w s t x i) (x i).read))) (λ a b. scan-bare e k rest a b)

      pub root-bare : (f : Forest A) → bare (search_root O R f) ≡ bare (search_root P R f)
      unfolding search_root search
      root-bare end = refl
      root-bare (leaf n w v rest) = refl
      root-bare (inner n w k under rest) =
          let e : Frame A = R.frame n under in
          let s : State A = begin e k e.bottom e.top [] in
          met-bare e [] [] (scan O R e k under s) (scan P R e k under s) refl (scan-bare e k under s s refl)

-- "Bounds and leaves are compared as before": of the search of a table, whatever the budget
pub as_before : (t : Table) (ε : ℕ) (full : List ℕ → Bool) → bare (searched_until t ε full) ≡ bare (former_until t ε full)
as_before t ε full = root-bare whole (formerly lt_z) (rules t ε full) (in_grains (grain t) (tree t))
