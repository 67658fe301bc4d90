-- The worth child by child is equation (1) of the shares, where every node has the table's ends; and it is the same whatever ends the nodes have.
use Prim.Native.Nat.{ℕ, ◌*◌, ◌≤◌}
use mathlib.Core.Path.{◌≡◌, refl, sym, ap, ap₂, ◌∙◌}
use mathlib.Core.Bool.{false}
use native.Mathlib.Nat.{le_trans}
use native.Mathlib.Omega.{arith}
use Rattle.line.proofs.Signs.{true-ne-false}
use Rattle.table.specs.Tree.{Kind, MAX, MIN, CHANCE, Forest, end, leaf, inner, is_end}
use Rattle.table.specs.Accepted.{Filled}
use Rattle.table.specs.Inside.{begin, taken, sealed}
use Rattle.worth.specs.Inside.Heights.{height_value, height_shares, SmallWorths}
use Rattle.worth.specs.Inside.{take_all}
use Rattle.worth.proofs.Bounds.{weights-shares}
use Rattle.worth.proofs.Run.{value_taken}
use Rattle.search.specs.Search.{Frame, framed}
use Rattle.search.specs.Inside.{grained}
use Rattle.search.proofs.Heights.{start, total, worth, Within}
use Rattle.search.proofs.Contain.{Inside, inside}
use Rattle.search.proofs.Grains.{plain, grained-weigh}
use Rattle.promise.proofs.Play.{Child, here-leaf, here-inner, next-leaf, next-inner}

module _ (S G : ℕ) where
  start-begin : (k : Kind) (f : Forest ℕ) → start (framed 0 S f) k ≡ begin S k
  unfolding start
  start-begin MAX f = refl
  start-begin MIN f = refl
  start-begin CHANCE f = refl

  node-worth : (k : Kind) (f : Forest ℕ) → is_end f ≡ false → SmallWorths G S f
      → ((a : ℕ) → total (plain S) k (grained G f) a ≡ take_all k a (height_shares G f))
      → worth (plain S) (framed 0 S (grained G f)) k (grained G f) ≡ height_value k (height_shares G f)
  unfolding worth
  node-worth k f some s e =
      ap₂ (λ (T a : ℕ). sealed T k a) (grained-weigh G f ∙ sym (weights-shares G f))
      (e (start (framed 0 S (grained G f)) k) ∙ ap (λ (a : ℕ). take_all k a (height_shares G f)) (start-begin k (grained G f))) ∙ value_taken G S k f some s

  total-taken : (k : Kind) (f : Forest ℕ) (a : ℕ) → Filled f → SmallWorths G S f → total (plain S) k (grained G f) a ≡ take_all k a (height_shares G f)
  unfolding total grained height_shares take_all worth
  total-taken k end a f s = refl
  total-taken k (leaf n w h rest) a f s = total-taken k rest (taken k a w (h * G)) f s.1
  total-taken k (inner n w c under rest) a f s =
      let e = node-worth c under f.0 s.1 (λ b. total-taken c under b f.1 s.1) in
      ap (λ (v : ℕ). total (plain S) k (grained G rest) (taken k a w v)) e
      ∙ total-taken k rest (taken k a w (height_value c (height_shares G under))) f.2 s.2

  -- the worth of a node of the kind k with these children
  pub worth-value : (k : Kind) (f : Forest ℕ) → is_end f ≡ false → Filled f → SmallWorths G S f
      → worth (plain S) (framed 0 S (grained G f)) k (grained G f) ≡ height_value k (height_shares G f)
  worth-value k f some fl s = node-worth k f some s (λ a. total-taken k f a fl s)

-- ---- in two families of frames with the same totals

module _ (A B : ℕ → Forest ℕ → Frame ℕ) (totals : (n : ℕ) (f : Forest ℕ) → (A n f).total ≡ (B n f).total) where
  -- the first child makes the start forgotten
  start-same : (c d : Frame ℕ) (k : Kind) (w v : ℕ) → Inside c v → Inside d v → taken k (start c k) w v ≡ taken k (start d k) w v
  unfolding start
  start-same c d MAX w v p q = omega arith
  start-same c d MIN w v p q = omega arith
  start-same c d CHANCE w v p q = refl

  worth-eq : (c d : Frame ℕ) (k : Kind) (f : Forest ℕ) → c.total ≡ d.total → total A k f (start c k) ≡ total B k f (start d k) → worth A c k f ≡ worth B d k f
  unfolding worth
  worth-eq c d k f e x = ap₂ (λ (T a : ℕ). sealed T k a) e x

  inside_under : (c x : Frame ℕ) (v : ℕ) → c.bottom ≤ x.bottom → x.top ≤ c.top → Inside x v → Inside c v
  inside_under c x v p q i = (le_trans p i.0, le_trans i.1 q)

  -- from any start the totals are the same; from their own starts too, if there is a child
  abbrev Same : Frame ℕ → Frame ℕ → Kind → Forest ℕ → Type 0
  Same c d k f = ((a : ℕ) → total A k f a ≡ total B k f a) × (is_end f ≡ false → total A k f (start c k) ≡ total B k f (start d k))

  total-same : (c d : Frame ℕ) (k : Kind) (f : Forest ℕ) → Filled f → Within A c f → Within B d f → Same c d k f
  unfolding total worth
  total-same c d k end z i j = (λ a. refl, λ e. absurd (true-ne-false e))
  total-same c d k (leaf n w h rest) z i j =
      let r = total-same c d k rest z i.2 j.2 in
      (λ a. r.0 (taken k a w h), λ e. r.0 (taken k (start c k) w h) ∙ ap (total B k rest) (start-same c d k w h (i.0, i.1) (j.0, j.1)))
  total-same c d k (inner n w m under rest) z i j =
      let r = total-same c d k rest z.2 i.4 j.4 in
      let x : Frame ℕ = A n under in
      let y : Frame ℕ = B n under in
      let v : ℕ = worth A x m under in
      let u : v ≡ worth B y m under = worth-eq x y m under (totals n under) ((total-same x y m under z.1 i.3 j.3).1 z.0) in
      let p : Inside c v = inside_under c x v i.0 i.1 (inside A x m under i.2 i.3) in
      let q : Inside d v = rw u (inside_under d y _ j.0 j.1 (inside B y m under j.2 j.3)) in (
        λ a. r.0 (taken k a w v) ∙ ap (λ (t : ℕ). total B k rest (taken k a w t)) u,
        λ e. r.0 (taken k (start c k) w v) ∙ ap (total B k rest) (start-same c d k w v p q) ∙ ap (λ (t : ℕ). total B k rest (taken k (start d k) w t)) u,
      )

  -- the worth does not depend on the ends
  pub worth-same : (c d : Frame ℕ) (k : Kind) (f : Forest ℕ) → c.total ≡ d.total → is_end f ≡ false → Filled f → Within A c f → Within B d f
      → worth A c k f ≡ worth B d k f
  worth-same c d k f e y z i j = worth-eq c d k f e ((total-same c d k f z i j).1 y)

  -- nor does that of a child
  pub child-same : {m v : ℕ} {f : Forest ℕ} (c d : Frame ℕ) → Filled f → Within A c f → Within B d f → Child A m v f → Child B m v f
  child-same c d z i j here-leaf = here-leaf
  child-same {m} c d z i j (here-inner {c = k} {under} e) =
      here-inner (e ∙ worth-same (A m under) (B m under) k under (totals m under) z.0 z.1 i.3 j.3)
  child-same c d z i j (next-leaf p) = next-leaf (child-same c d z i.2 j.2 p)
  child-same c d z i j (next-inner p) = next-inner (child-same c d z.2 i.4 j.4 p)
