-- The search of the turned table: bounds negated and exchanged, the same play, the same reading sequence, and the budget spent or not as before; and so with
-- its own index, which is the table's negated and exchanged. Document 01, 'The search', and document 02, Items 3 and 14.
use Prim.Native.Nat.{ℕ, suc, ◌+◌, ◌*◌, ◌-◌, min, max, ◌≤◌}
use mathlib.Core.Path.{◌≡◌, refl, sym, ap, ap₂, subst, ◌∙◌}
use mathlib.Core.Bool.{Bool, false}
use mathlib.Core.List.{List, [], ◌∷◌, ◌++◌, map, map-append}
use mathlib.Core.Option.{Option, none, some}
use native.Mathlib.Nat.{le_refl, le_trans, mul-sub}
use native.Mathlib.Omega.{arith}
use lib.IntN.{ℤ, pos, negsuc, neg_ℤ, ◌+ℤ◌, ◌-ℤ◌, ◌*ℤ◌}
use Rattle.numbers.specs.Integers.{max_z, min_z}
use Rattle.numbers.proofs.Signs.{Is, plus, minus, parts, is-unique, is_eq, is-neg, is-minus, is-max, is-min}
use Rattle.numbers.proofs.Above.{is-times, lift}
use Rattle.line.specs.declared.Head.{Head}
use Rattle.line.specs.Refusal.{fine}
use Rattle.line.specs.Line.{to_nat, totals, larger, Within}
use Rattle.table.specs.Tree.{Forest, end, leaf, inner, is_chance, grain_of}
use Rattle.table.specs.Table.{Table, tree, read_text, greatest, grain}
use Rattle.table.specs.Inside.{height_tree}
use Rattle.table.specs.Accepted.{span, one, Proper}
use Rattle.table.proofs.Heights.{above, map_forest, height-back, heights-map}
use Rattle.table.proofs.Accepted.{accepted-proper}
use Rattle.table.proofs.Ends.{top}
use Rattle.index.specs.Index.{values_of, lowest_of, highest_of, Ends, entries, index_of}
use Rattle.index.specs.Inside.{least_of, greatest_of}
use Rattle.worth.specs.Worth.{worth_of}
use Rattle.worth.specs.Inside.Heights.{height_worth}
use Rattle.worth.proofs.Worth.{shift as worth-shift}
use Rattle.turn.specs.Turn.{turn_kind, turn_head, turn_tree}
use Rattle.turn.proofs.Tree.{tree-grain-turned}
use Rattle.search.specs.Search.{Play, no_play, child, Seen, unlimited, search_root, node_of}
use Rattle.search.specs.Whole.{searched, searched_until, searched_own}
use Rattle.search.specs.Inside.{natural, grained, height_rules, height_searched, own_height_rules, height_own}
use Rattle.search.proofs.Grains.{plain}
use Rattle.search.proofs.Table.{tree-within, heights-order, shifted}
use Rattle.search.proofs.Own.{own, own-within, own-order, own-shifted}
use Rattle.promise.specs.Turned.{Turns, turn_entry}
use Rattle.promise.proofs.Turn.{turn, turn-weigh, turn_frame, turn_play, turn_seen, turned-root}
use Rattle.promise.proofs.Demand.{heights-hold, heights-width}

-- ---- heights from the other end

natural-is : (z : ℤ) (a b : ℕ) → Is z a b → to_nat z ≡ a - b
natural-is (pos n) a b i = omega arith
natural-is (negsuc n) a b i = omega arith

-- minus a minus minus b is b minus a
pub turn-minus : (a b : ℤ) → neg_ℤ a -ℤ neg_ℤ b ≡ b -ℤ a
turn-minus a b =
    is-unique (neg_ℤ a -ℤ neg_ℤ b) (b -ℤ a) (minus a + plus b) (plus a + minus b)
    (is-minus (neg_ℤ a) (neg_ℤ b) (minus a) (plus a) (minus b) (plus b) (is-neg a (plus a) (minus a) (parts a)) (is-neg b (plus b) (minus b) (parts b)))
    (is_eq (b -ℤ a) (plus b + minus a) (minus b + plus a) (minus a + plus b) (plus a + minus b) (is-minus b a (plus b) (minus b) (plus a) (minus a) (parts b) (parts a)) (omega arith))

span-turn : (h : Head) → span (turn_head h) ≡ span h
span-turn h = ap to_nat (turn-minus h.lowest h.highest)

-- the height of a leaf above the turned table's lowest end
above-turn : (h : Head) (v : ℤ) → Within h v → above (neg_ℤ h.highest) (neg_ℤ v) ≡ span h - above h.lowest v
above-turn h v w =
    let lo : ℤ = h.lowest in
    let hi : ℤ = h.highest in
    let x : ℕ = above lo v in
    let iv : Is v (plus lo + x) (minus lo) = subst (λ (z : ℤ). Is z (plus lo + x) (minus lo)) (height-back lo v w.0)
    (lift lo (plus lo) (minus lo) x (parts lo)) in
    let a : to_nat (hi -ℤ v) ≡ plus hi + minus lo - (minus hi + (plus lo + x)) =
    natural-is (hi -ℤ v) (plus hi + minus lo) (minus hi + (plus lo + x))
    (is-minus hi v (plus hi) (minus hi) (plus lo + x) (minus lo) (parts hi) iv) in
    let b : span h ≡ plus hi + minus lo - (minus hi + plus lo) =
    natural-is (hi -ℤ lo) (plus hi + minus lo) (minus hi + plus lo)
    (is-minus hi lo (plus hi) (minus hi) (plus lo) (minus lo) (parts hi) (parts lo)) in
    ap to_nat (turn-minus v hi) ∙ omega arith

sub-times : (a b G : ℕ) → (a - b) * G ≡ a * G - b * G
sub-times a b G = omega (arith, mul-sub G a b)

turned-heights : (h : Head) (T K G d c : ℕ) (u : Bool) (f : Forest ℤ) → Proper T K (Within h) d c u f
    → grained G (map_forest (above (neg_ℤ h.highest)) (turn_tree f)) ≡ turn (span h * G) (grained G (map_forest (above h.lowest) f))
unfolding grained turn_tree turn
turned-heights h T K G d c u end p = refl
turned-heights h T K G d c u (leaf n w v rest) p =
    ap₂ (leaf n w) (ap (λ (x : ℕ). x * G) (above-turn h v p.1) ∙ sub-times (span h) (above h.lowest v) G)
    (turned-heights h T K G d c u rest p.4)
turned-heights h T K G d c u (inner n w k under rest) p =
    ap₂ (inner n w (turn_kind k)) (turned-heights h T K G (suc d) (c + one k) (is_chance k) under p.3) (turned-heights h T K G d c u rest p.4)

-- ---- back to the integers

times-neg : (z : ℤ) (G : ℕ) → neg_ℤ z *ℤ pos G ≡ neg_ℤ (z *ℤ pos G)
times-neg z G =
    is-unique (neg_ℤ z *ℤ pos G) (neg_ℤ (z *ℤ pos G)) (G * minus z) (G * plus z)
    (is-times G (neg_ℤ z) (minus z) (plus z) (is-neg z (plus z) (minus z) (parts z)))
    (is-neg (z *ℤ pos G) (G * plus z) (G * minus z) (is-times G z (plus z) (minus z) (parts z)))

-- x above b is, seen from the other end, S - x above minus the end
turn-back : (b : ℤ) (S x : ℕ) → x ≤ S → neg_ℤ (b +ℤ pos S) +ℤ pos (S - x) ≡ neg_ℤ (b +ℤ pos x)
turn-back b S x h =
    let i : Is (neg_ℤ (b +ℤ pos S)) (minus b) (plus b + S) = is-neg (b +ℤ pos S) (plus b + S) (minus b) (lift b (plus b) (minus b) S (parts b)) in
    is-unique (neg_ℤ (b +ℤ pos S) +ℤ pos (S - x)) (neg_ℤ (b +ℤ pos x)) (minus b) (plus b + x)
    (is_eq (neg_ℤ (b +ℤ pos S) +ℤ pos (S - x)) (minus b + (S - x)) (plus b + S) (minus b) (plus b + x)
    (lift (neg_ℤ (b +ℤ pos S)) (minus b) (plus b + S) (S - x) i) (omega arith))
    (is-neg (b +ℤ pos x) (plus b + x) (minus b) (lift b (plus b) (minus b) x (parts b)))

turn-node : (S : ℕ) (u : Play ℕ) → node_of (turn_play S u) ≡ node_of u
turn-node S no_play = refl
turn-node S (child m l h) = refl

-- ---- the table's ends from the other side, and a line's own

frame-turn : (S n : ℕ) (f : Forest ℕ) → plain S n (turn S f) ≡ turn_frame S (plain S n f)
frame-turn S n f = let x : 0 ≡ S - S = omega arith in let y : S ≡ S - 0 = omega arith in λ i. record { bottom = x i; top = y i; total = turn-weigh S f i }

least-turn : (S : ℕ) (f : Forest ℕ) → least_of S (turn S f) ≡ S - greatest_of f
unfolding least_of greatest_of turn
least-turn S end = omega arith
least-turn S (leaf n w h rest) = omega (arith, least-turn S rest)
least-turn S (inner n w k under rest) = omega (arith, least-turn S under, least-turn S rest)

greatest-turn : (S : ℕ) (f : Forest ℕ) → greatest_of (turn S f) ≡ S - least_of S f
unfolding least_of greatest_of turn
greatest-turn S end = omega arith
greatest-turn S (leaf n w h rest) = omega (arith, greatest-turn S rest)
greatest-turn S (inner n w k under rest) = omega (arith, greatest-turn S under, greatest-turn S rest)

own-frame-turn : (S n : ℕ) (f : Forest ℕ) → own S n (turn S f) ≡ turn_frame S (own S n f)
own-frame-turn S n f = λ i. record { bottom = least-turn S f i; top = greatest-turn S f i; total = turn-weigh S f i }

-- ---- the table u is t turned

-- a search found H over heights, and Z over the integers
abbrev Found : ℤ → Seen ℕ → Seen ℤ → Type 0
Found base H Z =
    (Z.low ≡ base +ℤ pos H.low) × (Z.high ≡ base +ℤ pos H.high) × (node_of Z.play ≡ node_of H.play) × (Z.read ≡ H.read) × (Z.spent ≡ H.spent)

-- "its low is minus the old high", "its high is minus the old low", "its play is the same child or again none" "and its reading sequence is equal entry by
-- entry"
abbrev pub Mirrored : (old new : Seen ℤ) → Type 0
Mirrored old new =
    (new.low ≡ neg_ℤ old.high) × (new.high ≡ neg_ℤ old.low) × (node_of new.play ≡ node_of old.play) × (new.read ≡ old.read)
    × (new.spent ≡ old.spent)

module _ (a b : List ℕ) (t u : Table) (p : read_text a ≡ fine t) (q : read_text b ≡ fine u) (turns : Turns t u) where
  abbrev G : ℕ
  G = grain t

  abbrev S : ℕ
  S = span t.head * G

  grain-turn : grain u ≡ grain t
  grain-turn = ap₂ (λ (h : Head) (f : Forest ℤ). grain_of (totals h) f) turns.head turns.nodes ∙ tree-grain-turned (totals t.head) (tree t)

  heights-turn : grained (grain u) (height_tree u) ≡ turn S (grained G (height_tree t))
  heights-turn =
      ap₂ grained grain-turn (heights-map u ∙ ap₂ (λ (h : Head) (f : Forest ℤ). map_forest (above h.lowest) f) turns.head turns.nodes)
      ∙ turned-heights t.head (larger t.head) (greatest t.lines) G 0 0 false (tree t) (accepted-proper a t p)
      ∙ ap (λ (f : Forest ℕ). turn S (grained G f)) (sym (heights-map t))

  same-top : span u.head * grain u ≡ S
  same-top = ap₂ ◌*◌ (ap span turns.head ∙ span-turn t.head) grain-turn

  -- the turned table's lowest end in grains
  base-turn : u.head.lowest *ℤ pos (grain u) ≡ neg_ℤ (t.head.lowest *ℤ pos G +ℤ pos S)
  base-turn =
      ap₂ (λ (h : Head) (g : ℕ). h.lowest *ℤ pos g) turns.head grain-turn ∙ times-neg t.head.highest G ∙ ap neg_ℤ (top a t p)

  bound-turn : (x y : ℕ) → x ≡ S - y → y ≤ S → u.head.lowest *ℤ pos (grain u) +ℤ pos x ≡ neg_ℤ (t.head.lowest *ℤ pos G +ℤ pos y)
  bound-turn x y e h = ap₂ (λ (z : ℤ) (k : ℕ). z +ℤ pos k) base-turn e ∙ turn-back (t.head.lowest *ℤ pos G) S y h

  -- where what is found over heights is turned, so is what is found over the integers
  mirrored : (old new : Seen ℕ) (Z Y : Seen ℤ) → Found (t.head.lowest *ℤ pos G) old Z → Found (u.head.lowest *ℤ pos (grain u)) new Y → new ≡ turn_seen S old
      → (old.low ≤ old.high) × (old.high ≤ S) → Mirrored Z Y
  mirrored old new Z Y i j e o = (
    j.0 ∙ bound-turn new.low old.high (ap (λ (r : Seen ℕ). r.low) e) o.1 ∙ ap neg_ℤ (sym i.1),
    j.1 ∙ bound-turn new.high old.low (ap (λ (r : Seen ℕ). r.high) e) (le_trans o.0 o.1) ∙ ap neg_ℤ (sym i.0),
    j.2 ∙ ap (λ (r : Seen ℕ). node_of r.play) e ∙ turn-node S old.play ∙ sym i.2,
    j.3 ∙ ap (λ (r : Seen ℕ). r.read) e ∙ sym i.3,
    j.4 ∙ ap (λ (r : Seen ℕ). r.spent) e ∙ sym i.4,
  )

  -- the turned table's search with its own index
  module _ (ε : ℕ) where
    own-seen-turn : height_own u ε unlimited ≡ turn_seen S (height_own t ε unlimited)
    own-seen-turn =
        ap (λ (M : ℕ). search_root natural (own_height_rules M ε unlimited) (grained (grain u) (height_tree u))) same-top
        ∙ ap (search_root natural (own_height_rules S ε unlimited)) heights-turn
        ∙ turned-root S (own_height_rules S ε unlimited) (own S) (own-frame-turn S) (record { bottom = 0; top = S; total = 0 }) (grained G (height_tree t))
        (le_refl S) (own-within a t p)

    -- "The turned table is searched with its own index, and what demand 3 says of turning then holds here too"
    pub own-turned : Mirrored (searched_own t ε) (searched_own u ε)
    own-turned =
        mirrored (height_own t ε unlimited) (height_own u ε unlimited) (searched_own t ε) (searched_own u ε) (own-shifted a t p ε) (own-shifted b u q ε) own-seen-turn
        (own-order a t p ε unlimited refl)

module _ (a b : List ℕ) (t u : Table) (p : read_text a ≡ fine t) (q : read_text b ≡ fine u) (ε : ℕ) (full : List ℕ → Bool) (turns : Turns t u) where
  pub same-grain : grain u ≡ grain t
  same-grain = grain-turn a b t u p q turns

  seen-turn : height_searched u ε full ≡ turn_seen (span t.head * grain t) (height_searched t ε full)
  seen-turn =
      let S : ℕ = span t.head * grain t in
      ap (λ (M : ℕ). search_root natural (height_rules 0 M ε full) (grained (grain u) (height_tree u))) (same-top a b t u p q turns)
      ∙ ap (search_root natural (height_rules 0 S ε full)) (heights-turn a b t u p q turns)
      ∙ turned-root S (height_rules 0 S ε full) (plain S) (frame-turn S) (record { bottom = 0; top = S; total = 0 }) (grained (grain t) (height_tree t))
      (le_refl S) (tree-within a t p)

  turned : Mirrored (searched_until t ε full) (searched_until u ε full)
  turned =
      mirrored a b t u p q turns (height_searched t ε full) (height_searched u ε full) (searched_until t ε full) (searched_until u ε full) (shifted a t p ε full)
      (shifted b u q ε full) seen-turn (heights-order a t p ε full)

  -- "its low is minus the old high"
  pub turned-low : (searched_until u ε full).low ≡ neg_ℤ (searched_until t ε full).high
  turned-low = turned.0

  -- "its high is minus the old low"
  pub turned-high : (searched_until u ε full).high ≡ neg_ℤ (searched_until t ε full).low
  turned-high = turned.1

  -- "its play is the same child or again none"
  pub turned-play : node_of (searched_until u ε full).play ≡ node_of (searched_until t ε full).play
  turned-play = turned.2

  -- "and its reading sequence is equal entry by entry"
  pub turned-read : (searched_until u ε full).read ≡ (searched_until t ε full).read
  turned-read = turned.3

  -- "whether the budget was spent"
  pub turned-spent : (searched_until u ε full).spent ≡ (searched_until t ε full).spent
  turned-spent = turned.4

-- ---- the turned table's index

neg-least : (y z : ℤ) → min_z (neg_ℤ y) (neg_ℤ z) ≡ neg_ℤ (max_z y z)
neg-least y z =
    let a : ℕ = plus y in
    let b : ℕ = minus y in
    let c : ℕ = plus z in
    let d : ℕ = minus z in
    is-unique (min_z (neg_ℤ y) (neg_ℤ z)) (neg_ℤ (max_z y z)) (b + d) (max (a + d) (c + b))
    (is_eq (min_z (neg_ℤ y) (neg_ℤ z)) (min (b + c) (d + a)) (a + c) _ _ (is-min (neg_ℤ y) (neg_ℤ z) b a d c (is-neg y a b (parts y)) (is-neg z c d (parts z))) (omega arith))
    (is-neg (max_z y z) (max (a + d) (c + b)) (b + d) (is-max y z a b c d (parts y) (parts z)))

neg-greatest : (y z : ℤ) → max_z (neg_ℤ y) (neg_ℤ z) ≡ neg_ℤ (min_z y z)
neg-greatest y z =
    let a : ℕ = plus y in
    let b : ℕ = minus y in
    let c : ℕ = plus z in
    let d : ℕ = minus z in
    is-unique (max_z (neg_ℤ y) (neg_ℤ z)) (neg_ℤ (min_z y z)) (b + d) (min (a + d) (c + b))
    (is_eq (max_z (neg_ℤ y) (neg_ℤ z)) (max (b + c) (d + a)) (a + c) _ _ (is-max (neg_ℤ y) (neg_ℤ z) b a d c (is-neg y a b (parts y)) (is-neg z c d (parts z))) (omega arith))
    (is-neg (min_z y z) (min (a + d) (c + b)) (b + d) (is-min y z a b c d (parts y) (parts z)))

lowest-turn : (l : List ℤ) → lowest_of (map neg_ℤ l) ≡ neg_ℤ (highest_of l)
unfolding lowest_of highest_of
lowest-turn [] = refl
lowest-turn (x ∷ []) = refl
lowest-turn (x ∷ y ∷ ys) = ap (min_z (neg_ℤ x)) (lowest-turn (y ∷ ys)) ∙ neg-least x (highest_of (y ∷ ys))

highest-turn : (l : List ℤ) → highest_of (map neg_ℤ l) ≡ neg_ℤ (lowest_of l)
unfolding lowest_of highest_of
highest-turn [] = refl
highest-turn (x ∷ []) = refl
highest-turn (x ∷ y ∷ ys) = ap (max_z (neg_ℤ x)) (highest-turn (y ∷ ys)) ∙ neg-greatest x (lowest_of (y ∷ ys))

values-turn : (f : Forest ℤ) → values_of (turn_tree f) ≡ map neg_ℤ (values_of f)
unfolding values_of turn_tree
values-turn end = refl
values-turn (leaf n w v rest) = ap (λ l. neg_ℤ v ∷ l) (values-turn rest)
values-turn (inner n w k under rest) = ap₂ ◌++◌ (values-turn under) (values-turn rest) ∙ sym (map-append neg_ℤ (values_of under) (values_of rest))

entries-turn : (f : Forest ℤ) → entries (turn_tree f) ≡ map turn_entry (entries f)
unfolding entries turn_tree
entries-turn end = refl
entries-turn (leaf n w v rest) = ap (λ l. none ∷ l) (entries-turn rest)
entries-turn (inner n w k under rest) =
    ap₂ (λ (e : Ends) (l : List (Option Ends)). some e ∷ l)
    (ap₂ (λ (x y : ℤ). record { low = x; high = y }) (ap lowest_of (values-turn under) ∙ lowest-turn (values_of under))
    (ap highest_of (values-turn under) ∙ highest-turn (values_of under)))
    (ap₂ ◌++◌ (entries-turn under) (entries-turn rest) ∙ sym (map-append turn_entry (entries under) (entries rest)))

pub turned-index : (t u : Table) → Turns t u → index_of u ≡ map turn_entry (index_of t)
turned-index t u turns = ap entries turns.nodes ∙ entries-turn (tree t)

-- ---- the exact worth

-- at margin 0 both bounds are the worth
module _ (s : List ℕ) (t : Table) (r : read_text s ≡ fine t) where
  closed : (x : ℕ) → height_worth t ≡ x → worth_of t ≡ t.head.lowest *ℤ pos (grain t) +ℤ pos x
  closed x e = worth-shift s t r ∙ ap (λ (y : ℕ). t.head.lowest *ℤ pos (grain t) +ℤ pos y) e

  closed-low : worth_of t ≡ (searched t 0).low
  closed-low =
      closed (height_searched t 0 unlimited).low (omega (arith, heights-hold s t r 0 unlimited, heights-width s t r 0))
      ∙ sym (shifted s t r 0 unlimited).0

  closed-high : worth_of t ≡ (searched t 0).high
  closed-high =
      closed (height_searched t 0 unlimited).high (omega (arith, heights-hold s t r 0 unlimited, heights-width s t r 0))
      ∙ sym (shifted s t r 0 unlimited).1

-- the turned table is worth minus what the table is worth
pub turned-worth : (a b : List ℕ) (t u : Table) → read_text a ≡ fine t → read_text b ≡ fine u → Turns t u → worth_of u ≡ neg_ℤ (worth_of t)
turned-worth a b t u p q turns = closed-low b u q ∙ turned-low a b t u p q 0 unlimited turns ∙ ap neg_ℤ (sym (closed-high a t p))
