-- A root with all under it in the lines: its children by number, the best worth, and the judgement.
use Prim.Native.Nat.{ℕ, zero, suc, ◌+◌, ◌-◌, ◌*◌, ◌≤◌, ◌<◌}
use mathlib.Core.Path.{◌≡◌, refl, sym, ap, ap₂, subst, ◌∙◌}
use mathlib.Core.List.{List, [], ◌∷◌}
use mathlib.Core.Option.{Option, none, some}
use native.Mathlib.Omega.{arith}
use lib.ListN.{length, get_or, get_elem?, take, drop, length-append, length-drop}
use lib.Seq.{take_all, take_at, get_or-take}
use lib.IntN.{ℤ, pos, negsuc}
use Rattle.std.specs.Prelude.{Some, None}
use Rattle.std.proofs.lemmas.Option.{none-some, same_Some}
use Rattle.line.specs.declared.Refusal.TheVariants.{NoChild}
use Rattle.line.specs.Refusal.{refused, fine}
use Rattle.line.specs.Line.{letter_code, to_nat}
use Rattle.table.specs.Tree.{MAX, MIN, CHANCE, Forest, end, leaf, inner}
use Rattle.table.specs.Accepted.{Rooted, Filled}
use Rattle.table.specs.Slices.{laid}
use Rattle.table.specs.declared.Play.{Play}
use Rattle.table.specs.declared.Play.TheVariants.{Child, NoPlay}
use Rattle.table.specs.Root.{Side, Root, nobody, to_play, root_of, children, nodes, numbered, play_of}
use Rattle.scale.specs.declared.Scale.{Scale}
use Rattle.worth.specs.Worth.{Share}
use Rattle.worth.specs.Inside.Heights.{height_shares, first_height}
use Rattle.worth.specs.Inside.{kind_in, Beside, Lays, Fits}
use Rattle.worth.proofs.Run.{lays-le}
use Rattle.judge.specs.declared.Side.{Side as Chooser}
use Rattle.judge.specs.declared.Side.TheVariants.{Max, Min}
use Rattle.judge.specs.Judge.{no_decision, judged, unless_forced}
use Rattle.judge.specs.Inside.Heights.{height_loss, height_levels, height_judge_child, height_judge_at, forest_every, forest_judge, Ahead}
use Rattle.judge.specs.Inside.{side_of, chooser, Chained, Chain, Played, heights_in, Here, Room, Under, Listed, best_in, AllAhead, levels_in, WholeLines, Decided}
use Rattle.judge.proofs.Choice.{some-nodes, shares-count, forced, choice, none-forced}
use Rattle.judge.proofs.Best.{best-ahead}
use Rattle.judge.proofs.Shift.{numbered-each, numbered-some, numbered-none}
use Rattle.judge.proofs.Worths.{numbered-worth, best-root, all-ahead, levels-worths}

-- ---- the children by number

-- the node numbers of nodes with one parent, by the stops
abbrev starts : List ℕ → ℕ → Forest ℕ → List ℕ
starts S c end = []
starts S c (leaf n w v rest) = c ∷ starts S (get_or S c 0) rest
starts S c (inner n w k under rest) = c ∷ starts S (get_or S c 0) rest

lays-chained : (S : Beside) (c e : ℕ) (s : List ℕ) (f : Forest ℕ) → Lays S c e s f → Chained S.stops e c (starts S.stops c f)
unfolding Lays
lays-chained S c e s end l = l
lays-chained S c e s (leaf n w v rest) l =
    (refl, omega (arith, l.1), lays-chained S (get_or S.stops c 0) e (drop (25 * (get_or S.stops c 0 - c)) s) rest l.4)
lays-chained S c e s (inner n w k under rest) l =
    let j : ℕ = get_or S.stops c 0 in
    let later : c + 1 ≤ j = lays-le S (c + 1) j (take (25 * (j - (c + 1))) (drop 25 s)) under l.2 in
    (refl, omega (arith, later), lays-chained S j e (drop (25 * (j - c)) s) rest l.3)

-- as many as there are nodes
starts-count : (S : List ℕ) (c : ℕ) (f : Forest ℕ) → length (starts S c f) ≡ length (nodes f)
unfolding nodes
starts-count S c end = refl
starts-count S c (leaf n w v rest) = ap suc (starts-count S (get_or S c 0) rest)
starts-count S c (inner n w k under rest) = ap suc (starts-count S (get_or S c 0) rest)

-- and so as many as there are worths
starts-shares : (S : List ℕ) (G c : ℕ) (f : Forest ℕ) → length (starts S c f) ≡ length (height_shares G f)
starts-shares S G c f = starts-count S c f ∙ sym (shares-count G f)

-- what a play says of the number
play-child : (o : Option ℕ) (i : ℕ) → Child i ≡ play_of o → o ≡ some i
play-child none i e = let z : ◌≡◌ {A = ℕ} 0 1 = cc in absurd (omega arith)
play-child (some j) i e = let same : i ≡ j = cc in ap some (sym same)

play-none : (o : Option ℕ) → NoPlay ≡ play_of o → o ≡ none
play-none none e = refl
play-none (some j) e = let z : ◌≡◌ {A = ℕ} 0 1 = cc in absurd (omega arith)

-- and of how many there are
entry-none : (ns : List ℕ) (k : ℕ) → get_elem? ns k ≡ none → length ns ≤ k
entry-none [] k e = omega arith
entry-none (m ∷ ms) zero e = let z : ◌≡◌ {A = ℕ} 0 1 = cc in absurd (omega arith)
entry-none (m ∷ ms) (suc k) e = omega (arith, entry-none ms k e)

entry-some : (ns : List ℕ) (k i : ℕ) → get_elem? ns k ≡ some i → k < length ns
entry-some [] k i e = let z : ◌≡◌ {A = ℕ} 0 1 = cc in absurd (omega arith)
entry-some (m ∷ ms) zero i e = omega arith
entry-some (m ∷ ms) (suc k) i e = omega (arith, entry-some ms k i e)

count_none : (ns : List ℕ) (z : ℤ) → 1 ≤ to_nat z → NoPlay ≡ play_of (numbered z ns) → length ns < to_nat z
count_none ns (pos zero) h e = absurd (omega arith)
count_none ns (pos (suc k)) h e = omega (arith, entry-none ns k (play-none (get_elem? ns k) e))
count_none ns (negsuc k) h e = absurd (omega arith)

count-some : (ns : List ℕ) (z : ℤ) (i : ℕ) → Child i ≡ play_of (numbered z ns) → to_nat z ≤ length ns
count-some ns (pos zero) i e = omega arith
count-some ns (pos (suc k)) i e = entry-some ns k i (play-child (get_elem? ns k) i e)
count-some ns (negsuc k) i e = omega arith

-- ---- the root

module _ (S : Beside) (g : Scale) (n : ℕ) (s : List ℕ) where
  -- the lines after the root's own are its children's
  children-here : (f : Forest ℕ) → Lays S 0 n s f → Fits g f → length s ≡ 25 * n → Rooted f → Here S g n s 1 (children f)
  unfolding Lays
  children-here end l F h r = absurd r
  children-here (leaf m w v rest) l F h r =
      let stop : get_or S.stops 0 0 ≡ n = subst (λ (f : Forest ℕ). Lays S (get_or S.stops 0 0) n (drop (25 * (get_or S.stops 0 0 - 0)) s) f) r.2 l.4 in
      record { lays = omega (arith, l.1, stop); fits = record { filled = tt; small = tt; totals = tt } }
  children-here (inner m w k under rest) l F h r =
      let j : ℕ = get_or S.stops 0 0 in
      let stop : j ≡ n = subst (λ (f : Forest ℕ). Lays S j n (drop (25 * (j - 0)) s) f) r.2 l.3 in
      let all : take (25 * (n - 1)) (drop 25 s) ≡ drop 25 s = take_all (25 * (n - 1)) (drop 25 s) (omega (arith, length-drop 25 s)) in
      record {
        lays = subst (λ (t : List ℕ). Lays S 1 n t under) all (subst (λ (i : ℕ). Lays S 1 i (take (25 * (i - 1)) (drop 25 s)) under) stop l.2);
        fits = record { filled = F.filled.1; small = F.small.1; totals = F.totals.1 };
      }

  module _ (W : WholeLines S g n s) where
    abbrev tree : Forest ℕ
    tree = W.ready.nodes

    room_of : Room S g n s
    room_of =
        let R = W.ready in
        record { long = omega (arith, R.long); room = R.room; few = R.few; scale = R.scale }

    here : Here S g n s 1 (children tree)
    here = children-here tree W.ready.lays W.ready.fits room_of.long W.rooted

    pub chain-of : Chain S.stops n
    chain-of =
        record {
          nodes = starts S.stops 1 (children tree);
          chained = lays-chained S 1 n (drop (25 * 1) s) (children tree) here.lays;
          room = room_of.room.stops;
        }

    pub under_of : (came : List ℕ) → 1024 ≤ length came → Under S g n s (length came)
    under_of came h = record { nodes = children tree; here = here; fits = room_of; place = omega (arith, room_of.few) }

    -- a number without a child, and one with a child
    pub fewer-of : {z : ℤ} {p : Play} → Played S.stops n z p → p ≡ NoPlay → 1 ≤ to_nat z → length (nodes (children tree)) < to_nat z
    unfolding chain-of
    fewer-of {z} P e h =
        omega (arith, starts-count S.stops 1 (children tree), count_none (starts S.stops 1 (children tree)) z h (sym e ∙ P.by chain-of))

    pub so-many-of : {z : ℤ} {p : Play} → Played S.stops n z p → (i : ℕ) → p ≡ Child i → to_nat z ≤ length (nodes (children tree))
    unfolding chain-of
    so-many-of {z} P i e =
        omega (arith, starts-count S.stops 1 (children tree), count-some (starts S.stops 1 (children tree)) z i (sym e ∙ P.by chain-of))

  module _ (side : Side) (D : Decided S g n s side) where
    abbrev pub height : ℕ
    height = first_height (height_shares g.grain (tree D.whole))

    abbrev pub kids : List (Share ℕ)
    kids = height_shares g.grain (children (tree D.whole))

    -- ---- the list of the worths

    module _ (came list : List ℕ) (m : ℕ) (place : 1024 ≤ length came) (listed : Listed S g n s m came list) where
      told : (m ≡ length (heights_in kids)) × (list ≡ laid (heights_in kids) came)
      unfolding under_of
      told = listed (under_of D.whole came place)

      front : take m list ≡ heights_in kids
      front =
          ap (take m) told.1 ∙ take_at (heights_in kids) (drop (length (heights_in kids)) came) m (sym told.0)

      pub list-room : m ≤ length list
      list-room = omega (arith, told.0, ap length told.1, length-append (heights_in kids) (drop (length (heights_in kids)) came))

      -- the child of number z has its worth at this place
      pub entry_of : (z : ℤ) (x : Share ℕ) → numbered z kids ≡ some x
          → (0 < to_nat z) × (to_nat z ≤ length (take m list)) × (get_or (take m list) (to_nat z - 1) 0 ≡ x.worth)
      entry_of z x e = rw front (numbered-worth z kids x e)

      pub best_of : (r : ℕ) → r ≡ best_in side (take m list) → r ≡ height
      best_of r e =
          e ∙ ap (best_in side) front ∙ best-root g.grain side (tree D.whole) D.whole.ready.fits.filled D.root

      module _ (best : ℕ) (b : best ≡ height) where
        pub ahead_of : AllAhead side best (take m list)
        ahead_of = rw (b, front) (all-ahead side height kids (best-ahead g.grain side (tree D.whole) D.root))

        pub level-of : (r : ℕ) → r ≡ levels_in side best (take m list) → r ≡ height_levels side height kids
        level-of r e = e ∙ ap₂ (levels_in side) b front ∙ levels-worths side height kids

    -- ---- the child of a number

    abbrev pub Found : ℤ → Type 0
    Found z = (x : Share ℕ) × (numbered z kids ≡ some x)

    pub found : (z : ℤ) (i : ℕ) (p : Play) → p ≡ Child i → p ≡ play_of (numbered z (chain-of D.whole).nodes) → Found z
    unfolding chain-of
    found z i p e f =
        let o : List ℕ = starts S.stops 1 (children (tree D.whole)) in
        numbered-some z o kids i (starts-shares S.stops g.grain 1 (children (tree D.whole))) (play-child (numbered z o) i (sym e ∙ f))

    -- ---- the judgement

    decided-judge : (z : ℤ) → forest_judge g.grain (tree D.whole) z ≡ height_judge_child side height kids (numbered z kids)
    decided-judge z =
        choice (length (nodes (children (tree D.whole)))) (forest_every g.grain (tree D.whole) z) D.choice
        ∙ ap (λ (r : Root). height_judge_at r height kids z) D.root

    pub well-none : (z : ℤ) (p : Play) → p ≡ NoPlay → p ≡ play_of (numbered z (chain-of D.whole).nodes) → refused NoChild ≡ forest_judge g.grain (tree D.whole) z
    unfolding chain-of
    well-none z p e f =
        let o : List ℕ = starts S.stops 1 (children (tree D.whole)) in
        sym (decided-judge z ∙ ap (height_judge_child side height kids) (numbered-none z o kids (starts-shares S.stops g.grain 1 (children (tree D.whole))) (play-none (numbered z o) (sym e ∙ f))))

    pub well-lost : (z : ℤ) (K : Found z) (best h l level : ℕ) → best ≡ height → h ≡ K.0.worth
        → l ≡ height_loss side best h → level ≡ height_levels side height kids → fine (judged (pos l) level) ≡ forest_judge g.grain (tree D.whole) z
    well-lost z K best h l level b w x y =
        ap₂ (λ (m : ℕ) (v : ℕ). fine (judged (pos m) v)) (x ∙ ap₂ (height_loss side) b w) y
        ∙ sym (decided-judge z ∙ ap (height_judge_child side height kids) K.1)

    pub found-ahead : (z : ℤ) (K : Found z) (best h : ℕ) → best ≡ height → h ≡ K.0.worth → Ahead side best h
    found-ahead z K best h b w =
        rw (b, w) (numbered-each (Ahead side height) kids z K.0 (best-ahead g.grain side (tree D.whole) D.root) K.1)

-- ---- the root's letter

module _ (S : Beside) (n : ℕ) (s : List ℕ) where
  -- the root has a line
  pub root_line : (f : Forest ℕ) → Lays S 0 n s f → Rooted f → 1 ≤ n
  unfolding Lays
  root_line end l r = absurd r
  root_line (leaf m w v rest) l r =
      omega (arith, l.1, lays-le S (get_or S.stops 0 0) n (drop (25 * (get_or S.stops 0 0 - 0)) s) rest l.4)
  root_line (inner m w k under rest) l r =
      let j : ℕ = get_or S.stops 0 0 in
      let a : 1 ≤ j = lays-le S 1 j (take (25 * (j - 1)) (drop 25 s)) under l.2 in
      omega (arith, a, lays-le S j n (drop (25 * (j - 0)) s) rest l.3)

  abbrev q : ℕ
  q = letter_code (get_or s 5 0)

  code : q ≡ kind_in (take 25 s)
  code = ap letter_code (sym (get_or-take 25 s 5 0 (omega arith)))

  pub root-chosen : (m : Chooser) → Some m ≡ chooser q → (f : Forest ℕ) → Lays S 0 n s f → Rooted f → root_of f ≡ to_play (side_of m)
  unfolding Lays
  root-chosen m e end l r = absurd r
  root-chosen m e (leaf i w v rest) l r = absurd (none-some m (sym (rw (code, l.0) at e)))
  root-chosen m e (inner i w MAX under rest) l r = ap (λ (b : Chooser). to_play (side_of b)) (same_Some Max m (sym (rw (code, l.0) at e)))
  root-chosen m e (inner i w MIN under rest) l r = ap (λ (b : Chooser). to_play (side_of b)) (same_Some Min m (sym (rw (code, l.0) at e)))
  root-chosen m e (inner i w CHANCE under rest) l r = absurd (none-some m (sym (rw (code, l.0) at e)))

  pub root-else : None ≡ chooser q → (f : Forest ℕ) → Lays S 0 n s f → Rooted f → root_of f ≡ nobody
  unfolding Lays
  root-else e end l r = absurd r
  root-else e (leaf i w v rest) l r = refl
  root-else e (inner i w MAX under rest) l r = absurd (none-some Max (rw (code, l.0) at e))
  root-else e (inner i w MIN under rest) l r = absurd (none-some Min (rw (code, l.0) at e))
  root-else e (inner i w CHANCE under rest) l r = refl

-- ---- roots without a decision

pub none-judged : (G : ℕ) (f : Forest ℕ) (i : ℤ) → root_of f ≡ nobody → fine no_decision ≡ forest_judge G f i
none-judged G f i e =
    sym
    (ap (λ (r : Root). unless_forced (length (nodes (children f))) (height_judge_at r (first_height (height_shares G f)) (height_shares G (children f)) i)) e
    ∙ none-forced (length (nodes (children f))))

pub few-judged : (G : ℕ) (f : Forest ℕ) (i : ℤ) → Filled f → length (nodes (children f)) < 2 → fine no_decision ≡ forest_judge G f i
unfolding nodes
few-judged G end i F e = refl
few-judged G (leaf n w v rest) i F e = refl
few-judged G (inner n w k under rest) i F e =
    sym (forced (length (nodes under)) (forest_every G (inner n w k under rest) i) (omega (arith, e, some-nodes under F.0)))
