-- The judgement of every accepted table: its losses over heights, none negative, and a best child.
use Prim.Native.Nat.{ℕ, suc, ◌+◌, ◌≤◌}
use mathlib.Core.Path.{◌≡◌, refl, sym, ap, ap₂, ◌∙◌}
use mathlib.Core.Bool.{Bool, true, false}
use mathlib.Core.List.{List, ◌∷◌, map}
use mathlib.Core.Option.{Option, none, some}
use native.Mathlib.Decide.{dec_le}
use native.Mathlib.Omega.{arith}
use lib.ListN.{length, length-map}
use lib.IntN.{ℤ, pos, ◌+ℤ◌, ◌*ℤ◌}
use lib.Signed.{le_z}
use lib.Dec.{leb-zero}
use Rattle.line.specs.declared.Head.{Head}
use Rattle.line.specs.declared.Refusal.{Refusal}
use Rattle.line.specs.declared.Refusal.TheVariants.{NoChild}
use Rattle.line.specs.Refusal.{Verdict, refused, fine}
use Rattle.line.specs.Line.{larger, Within}
use Rattle.table.specs.Tree.{Forest, end, leaf, inner, is_chance}
use Rattle.table.specs.Table.{Table, tree, read_text, greatest, grain}
use Rattle.table.specs.Inside.{height_tree}
use Rattle.table.specs.Accepted.{one, Filled, Proper}
use Rattle.table.specs.Root.{Side, Root, nobody, to_play, root_of, children, nodes, numbered, child_node, child_count}
use Rattle.table.proofs.Heights.{above, map_forest, heights-map}
use Rattle.table.proofs.Accepted.{accepted-proper, accepted-filled, heights-filled}
use Rattle.worth.specs.Worth.{Share, shares, worth_of}
use Rattle.worth.specs.Inside.Heights.{height_shares, height_worth, raised}
use Rattle.worth.proofs.Bounds.{Each}
use Rattle.worth.proofs.Shift.{Divides, shares-shift}
use Rattle.worth.proofs.Worth.{divides, shift}
use Rattle.judge.specs.Judge.{child_worths, loss_at, levels, Judgement, no_decision, judged, judge_child, judge_at, judge_every, unless_forced, judge}
use Rattle.judge.specs.Inside.Heights.{height_worths, height_loss, height_levels, height_judge_at, forest_every, height_judge, Ahead}
use Rattle.judge.proofs.Choice.{some-nodes, shares-count, forced, choice, none-forced, unforced}
use Rattle.judge.proofs.Best.{nobody-plays, Met, none-lost, met-level, best-ahead, best-met}
use Rattle.judge.proofs.Shift.{mapped, numbered-map, numbered-each, numbered-none, loss-shift, levels-shift, judge-shift}

-- ---- other values at the leaves

module _ {A B : Type 0} (g : A → B) where
  root-map : (F : Forest A) → root_of (map_forest g F) ≡ root_of F
  root-map end = refl
  root-map (leaf n w v rest) = refl
  root-map (inner n w k under rest) = refl

  children-map : (F : Forest A) → children (map_forest g F) ≡ map_forest g (children F)
  children-map end = refl
  children-map (leaf n w v rest) = refl
  children-map (inner n w k under rest) = refl

  nodes-map : (F : Forest A) → nodes (map_forest g F) ≡ nodes F
  unfolding nodes
  nodes-map end = refl
  nodes-map (leaf n w v rest) = ap (λ (ns : List ℕ). n ∷ ns) (nodes-map rest)
  nodes-map (inner n w k under rest) = ap (λ (ns : List ℕ). n ∷ ns) (nodes-map rest)

-- the children of the first node
children-shift : (G : ℕ) (h : Head) (T K d c : ℕ) (u : Bool) (F : Forest ℤ) → Proper T K (Within h) d c u F → Filled F → Divides F
    → shares G (children F) ≡ map (raised (h.lowest *ℤ pos G)) (height_shares G (map_forest (above h.lowest) (children F)))
unfolding shares height_shares
children-shift G h T K d c u end p f b = refl
children-shift G h T K d c u (leaf n w v rest) p f b = refl
children-shift G h T K d c u (inner n w k under rest) p f b =
    shares-shift G h T K (suc d) (c + one k) (is_chance k) under p.3 f.1 b.1

-- ---- one child over heights and over the integers

-- a child with a worth over the integers has one over heights
back : (b : ℤ) (o : Option (Share ℕ)) (x : Share ℤ) → mapped (raised b) o ≡ some x → (y : Share ℕ) × (o ≡ some y) × (raised b y ≡ x)
back b none x e = let z : ◌≡◌ {A = ℕ} 0 1 = cc in absurd (omega arith)
back b (some y) x e = (y, refl, cc)

-- a judgement that gives a loss gives that of a child, and the number of level children
child-judged : (s : Side) (exact : ℤ) (xs : List (Share ℤ)) (loss : ℤ) (level : ℕ) (o : Option (Share ℤ)) → judge_child s exact xs o ≡ fine (judged loss level)
    → (x : Share ℤ) × (o ≡ some x) × (loss_at s exact x.worth ≡ loss) × (levels s exact xs ≡ level)
child-judged s exact xs loss level none e = let z : ◌≡◌ {A = ℕ} 0 1 = cc in absurd (omega arith)
child-judged s exact xs loss level (some x) e = (x, refl, cc, cc)

root-judged : (r : Root) (exact : ℤ) (xs : List (Share ℤ)) (i loss : ℤ) (level : ℕ) → judge_at r exact xs i ≡ fine (judged loss level)
    → (s : Side) × (r ≡ to_play s) × (x : Share ℤ) × (numbered i xs ≡ some x) × (loss_at s exact x.worth ≡ loss) × (levels s exact xs ≡ level)
root-judged nobody exact xs i loss level e = let z : ◌≡◌ {A = ℕ} 0 1 = cc in absurd (omega arith)
root-judged (to_play s) exact xs i loss level e =
    let (x, n, l, c) = child-judged s exact xs loss level (numbered i xs) e in
    (s, refl, x, n, l, c)

-- the only refusal of judging is 14, where no child has the number
child-refused : (s : Side) (exact : ℤ) (xs : List (Share ℤ)) (o : Option (Share ℤ)) (r : Refusal) → judge_child s exact xs o ≡ refused r
    → (NoChild ≡ r) × (o ≡ none)
child-refused s exact xs none r e = (cc, refl)
child-refused s exact xs (some x) r e = let z : ◌≡◌ {A = ℕ} 0 1 = cc in absurd (omega arith)

root-refused : (o : Root) (exact : ℤ) (xs : List (Share ℤ)) (i : ℤ) (r : Refusal) → judge_at o exact xs i ≡ refused r
    → (NoChild ≡ r) × (numbered i xs ≡ none) × (s : Side) × (o ≡ to_play s)
root-refused nobody exact xs i r e = let z : ◌≡◌ {A = ℕ} 0 1 = cc in absurd (omega arith)
root-refused (to_play s) exact xs i r e =
    let (z, n) = child-refused s exact xs (numbered i xs) r e in
    (z, n, s, refl)

-- neither a refusal nor a loss is "no decision"
not-refused : (r : Refusal) → fine no_decision ≡ refused r → ⊥
not-refused r e = let z : ◌≡◌ {A = ℕ} 0 1 = cc in absurd (omega arith)

not-judged : (loss : ℤ) (level : ℕ) → fine no_decision ≡ fine (judged loss level) → ⊥
not-judged loss level e = let z : ◌≡◌ {A = ℕ} 0 1 = cc in absurd (omega arith)

-- a root at which somebody plays has a child
root-some : (s : Side) (F : Forest ℤ) → Filled F → root_of F ≡ to_play s → 1 ≤ length (nodes (children F))
root-some s end f e = absurd (nobody-plays s e)
root-some s (leaf n w v rest) f e = absurd (nobody-plays s e)
root-some s (inner n w k under rest) f e = some-nodes under f.0

module _ (t : Table) (i : ℤ) where
  -- "A root of kind M or N with a single child is judged "no decision", .. for every play number"
  pub forced-judged : child_count t ≡ 1 → judge t i ≡ fine no_decision
  forced-judged = forced (child_count t) (judge_every t i)

  -- with two children or more it is that of `judge_every`
  pub choice-judged : 2 ≤ child_count t → judge t i ≡ judge_every t i
  choice-judged = choice (child_count t) (judge_every t i)

  -- and so, at M or N, that of the child with the number, if there is one
  pub decided-judged : (side : Side) → root_of (tree t) ≡ to_play side → 2 ≤ child_count t
      → judge t i ≡ judge_child side (worth_of t) (child_worths t) (numbered i (child_worths t))
  decided-judged side e h = choice-judged h ∙ ap (λ (r : Root). judge_at r (worth_of t) (child_worths t) i) e

  -- at a C or L root there is no decision, for every number
  pub nobody-judged : root_of (tree t) ≡ nobody → judge t i ≡ fine no_decision
  nobody-judged e =
      ap (λ (r : Root). unless_forced (child_count t) (judge_at r (worth_of t) (child_worths t) i)) e ∙ none-forced (child_count t)

  refused-every : (r : Refusal) → judge t i ≡ refused r → (judge_every t i ≡ refused r) × (child_count t ≡ 1 → ⊥)
  refused-every r = unforced (child_count t) (judge_every t i) (refused r) (not-refused r)

  judged-every : (loss : ℤ) (level : ℕ) → judge t i ≡ fine (judged loss level) → (judge_every t i ≡ fine (judged loss level)) × (child_count t ≡ 1 → ⊥)
  judged-every loss level = unforced (child_count t) (judge_every t i) (fine (judged loss level)) (not-judged loss level)

  pub judge-refused : (r : Refusal) → judge t i ≡ refused r → NoChild ≡ r
  judge-refused r e = (root-refused (root_of (tree t)) (worth_of t) (child_worths t) i r (refused-every r e).0).0

not-below : (n : ℕ) (z : ℤ) → pos n ≡ z → le_z (pos 0) z ≡ true
not-below n z e = sym (ap (le_z (pos 0)) e) ∙ leb-zero n

-- what a judgement with a loss says of its table: somebody has a choice at the root, a child has the number, the loss is that child's, and `level`
-- is the number of level children
pub record Says (t : Table) (i loss : ℤ) (level : ℕ) : Type 0 where
  pub side : Side
  pub root : root_of (tree t) ≡ to_play side
  pub several : 2 ≤ child_count t
  pub child : Share ℤ
  pub there : numbered i (child_worths t) ≡ some child
  pub lost : loss_at side (worth_of t) child.worth ≡ loss
  pub counted : levels side (worth_of t) (child_worths t) ≡ level

-- ---- the theorems

module _ (s : List ℕ) (t : Table) (h : read_text s ≡ fine t) where
  -- the lowest end in grains
  abbrev base : ℤ
  base = t.head.lowest *ℤ pos (grain t)

  -- ---- over heights

  pub root-heights : root_of (height_tree t) ≡ root_of (tree t)
  root-heights = ap root_of (heights-map t) ∙ root-map (above t.head.lowest) (tree t)

  children-heights : map_forest (above t.head.lowest) (children (tree t)) ≡ children (height_tree t)
  children-heights = sym (ap children (heights-map t) ∙ children-map (above t.head.lowest) (tree t))

  -- the root's children by node number
  pub nodes-heights : nodes (children (height_tree t)) ≡ nodes (children (tree t))
  nodes-heights = ap nodes (sym children-heights) ∙ nodes-map (above t.head.lowest) (children (tree t))

  pub worths-heights : child_worths t ≡ map (raised base) (height_worths t)
  worths-heights =
      children-shift (grain t) t.head (larger t.head) (greatest t.lines) 0 0 false (tree t) (accepted-proper s t h) (accepted-filled s t h) (divides s t h)
      ∙ ap (λ (F : Forest ℕ). map (raised base) (height_shares (grain t) F)) children-heights

  -- there is a worth for each child
  pub worths-count : length (child_worths t) ≡ child_count t
  worths-count =
      ap length worths-heights
      ∙ length-map (height_worths t) (raised base)
      ∙ shares-count (grain t) (children (height_tree t))
      ∙ ap length nodes-heights

  pub heights-ahead : (side : Side) → root_of (tree t) ≡ to_play side → Each (Ahead side (height_worth t)) (height_worths t)
  heights-ahead side e = best-ahead (grain t) side (height_tree t) (root-heights ∙ e)

  -- the whole judgement
  every-heights : (i : ℤ) → judge_every t i ≡ forest_every (grain t) (height_tree t) i
  every-heights i =
      ap₂ (λ (z : ℤ) (xs : List (Share ℤ)). judge_at (root_of (tree t)) z xs i) (shift s t h) worths-heights
      ∙ judge-shift base (root_of (tree t)) (height_worth t) (height_worths t) i heights-ahead
      ∙ ap (λ (r : Root). height_judge_at r (height_worth t) (height_worths t) i) (sym root-heights)

  pub judge-heights : (i : ℤ) → judge t i ≡ height_judge t i
  judge-heights i = ap₂ (λ (ns : List ℕ) (v : Verdict Judgement). unless_forced (length ns) v) (sym nodes-heights) (every-heights i)

  module _ (side : Side) (e : root_of (tree t) ≡ to_play side) where
    -- a child's loss is the difference of the heights
    pub loss-heights : (i : ℤ) (x : Share ℤ) → numbered i (child_worths t) ≡ some x
        → (y : Share ℕ) × (numbered i (height_worths t) ≡ some y) × (loss_at side (worth_of t) x.worth ≡ pos (height_loss side (height_worth t) y.worth))
    loss-heights i x f =
        let g : mapped (raised base) (numbered i (height_worths t)) ≡ some x =
        sym (numbered-map (raised base) i (height_worths t)) ∙ ap (numbered i) (sym worths-heights) ∙ f in
        let (y, p, q) = back base (numbered i (height_worths t)) x g in (
          y,
          p,
          ap₂ (λ (z : ℤ) (v : Share ℤ). loss_at side z v.worth) (shift s t h) (sym q)
              ∙ loss-shift base side (height_worth t) y.worth (numbered-each (Ahead side (height_worth t)) (height_worths t) i y (heights-ahead side e) p),
        )

    -- a loss is never negative
    pub loss-natural : (i : ℤ) (x : Share ℤ) → numbered i (child_worths t) ≡ some x → le_z (pos 0) (loss_at side (worth_of t) x.worth) ≡ true
    loss-natural i x f =
        let (y, p, q) = loss-heights i x f in
        not-below (height_loss side (height_worth t) y.worth) (loss_at side (worth_of t) x.worth) (sym q)

    met : Met (height_worths t) (height_worth t)
    met = best-met (grain t) side (height_tree t) (heights-filled s t h) (root-heights ∙ e)

    -- some child has loss 0
    pub best-child : (i : ℤ) × (x : Share ℤ) × (numbered i (child_worths t) ≡ some x) × (loss_at side (worth_of t) x.worth ≡ pos 0)
    best-child =
        let f : numbered (pos (suc met.place)) (child_worths t) ≡ some (raised base met.share) =
        ap (numbered (pos (suc met.place))) worths-heights
        ∙ numbered-map (raised base) (pos (suc met.place)) (height_worths t)
        ∙ ap (mapped (raised base)) met.there in (
          pos (suc met.place),
          raised base met.share,
          f,
          ap (λ (z : ℤ). loss_at side z (base +ℤ pos met.share.worth)) (shift s t h)
              ∙ loss-shift base side (height_worth t) met.share.worth
              (numbered-each (Ahead side (height_worth t)) (height_worths t) (pos (suc met.place)) met.share (heights-ahead side e) met.there)
              ∙ ap pos (none-lost side (height_worth t) met.share.worth met.worth),
        )

    pub levels-heights : levels side (worth_of t) (child_worths t) ≡ height_levels side (height_worth t) (height_worths t)
    levels-heights =
        ap₂ (levels side) (shift s t h) worths-heights
        ∙ levels-shift base side (height_worth t) (height_worths t) (heights-ahead side e)

    -- at least one child is level
    pub some_level : 1 ≤ levels side (worth_of t) (child_worths t)
    some_level = rw levels-heights (met-level side (height_worth t) met.place (height_worths t) met.share met.there met.worth)

    -- where there is a choice, some play is judged to lose nothing
    pub best-judged : 2 ≤ child_count t → (i : ℤ) × (level : ℕ) × (judge t i ≡ fine (judged (pos 0) level))
    best-judged h =
        let (i, x, f, z) = best-child in (
          i,
          levels side (worth_of t) (child_worths t),
          decided-judged t i side e h
              ∙ ap (judge_child side (worth_of t) (child_worths t)) f
              ∙ ap (λ (l : ℤ). fine (judged l (levels side (worth_of t) (child_worths t)))) z,
        )

  -- where somebody plays and the children are not one, they are two or more
  several : (side : Side) → root_of (tree t) ≡ to_play side → (child_count t ≡ 1 → ⊥) → 2 ≤ child_count t
  several side e one =
      let some : 1 ≤ child_count t = root-some side (tree t) (accepted-filled s t h) e in
      elim (dec_le 2 (child_count t)) [
        | yes p ↦ p
        | no p ↦ absurd (one (omega (arith, some, p)))
      ]

  -- "Refusal 14 now needs a root with two children or more": of kind M or N, none of which has the number
  pub refused-choice : (i : ℤ) (r : Refusal) → judge t i ≡ refused r
      → (side : Side) × (root_of (tree t) ≡ to_play side) × (2 ≤ child_count t) × (child_node t i ≡ none)
  refused-choice i r e =
      let (v, h) = refused-every t i r e in
      let (z, n, side, o) = root-refused (root_of (tree t)) (worth_of t) (child_worths t) i r v in
      (side, o, several side o h, numbered-none i (child_worths t) (nodes (children (tree t))) worths-count n)

  -- and there it is given
  pub missing-refused : (i : ℤ) (side : Side) → root_of (tree t) ≡ to_play side → 2 ≤ child_count t → child_node t i ≡ none → judge t i ≡ refused NoChild
  missing-refused i side o several m =
      decided-judged t i side o several
      ∙ ap (judge_child side (worth_of t) (child_worths t)) (numbered-none i (nodes (children (tree t))) (child_worths t) (sym worths-count) m)

  pub judged-says : (i loss : ℤ) (level : ℕ) → judge t i ≡ fine (judged loss level) → Says t i loss level
  judged-says i loss level e =
      let (v, h) = judged-every t i loss level e in
      let (side, o, x, n, l, c) = root-judged (root_of (tree t)) (worth_of t) (child_worths t) i loss level v in
      record { side = side; root = o; several = several side o h; child = x; there = n; lost = l; counted = c }

  -- the loss is not negative, and a child is level
  pub judged-sound : (i loss : ℤ) (level : ℕ) → judge t i ≡ fine (judged loss level) → (le_z (pos 0) loss ≡ true) × (1 ≤ level)
  judged-sound i loss level e =
      let S = judged-says i loss level e in
      (rw S.lost at (loss-natural S.side S.root i S.child S.there), rw S.counted at (some_level S.side S.root))
