-- Lines with one parent, written one after another.
use Prim.Native.Nat.{ℕ, zero, suc, ◌+◌, ◌-◌, ◌*◌, ◌^◌, ◌≤◌, ◌<◌}
use mathlib.Core.Path.{◌≡◌, refl, sym, ap, ap₂, ◌∙◌}
use mathlib.Core.Bool.{Bool, true, false, cond}
use mathlib.Core.List.{List, [], ◌∷◌, ◌++◌, append_assoc}
use native.Mathlib.Omega.{arith}
use native.Mathlib.Nat.{zero-mul, suc-mul, suc-add, zero-add, add-zero, pow-zero, pow-succ'}
use native.Mathlib.Numerals.{add-one}
use lib.Dec.{eqb, eqb-suc-zero}
use lib.ListN.{length, length-append}
use lib.Seq.{sets}
use lib.IntN.{pos, nat_abs}
use Rattle.field.proofs.Small.{choose}
use Rattle.field.proofs.Stores.{part-stored}
use Rattle.line.specs.declared.Line.{Line}
use Rattle.table.specs.Tree.{line_kind}
use Rattle.table.specs.Accepted.{flat, one}
use Rattle.writing.specs.Text.{line_text, lines_text}
use Rattle.writing.specs.Inside.{Short}
use Rattle.writing.proofs.Again.{line-again}
use Rattle.recipe.specs.declared.Place.{Place}
use Rattle.recipe.specs.declared.Siblings.{Siblings}
use Rattle.recipe.specs.Recipe.{next_state, later, points, chance_at, kind_at, weight_of, nodes, row}
use Rattle.recipe.specs.Inside.{under_of, first_line, after_first, LineReady, size_of, RowReady, row_text, Rowed}
use Rattle.line.specs.declared.Kind.{Kind}
use Rattle.line.specs.declared.Kind.TheVariants.{Leaf}
use Rattle.recipe.proofs.Rules.{nodes-leaf, nodes-more}

-- ---- small numbers

weight-few : (b : ℕ) (u : Bool) (p c : ℕ) → b ≤ 5 → weight_of b u p c ≤ 64
weight-few b false p c h = omega arith
weight-few b true p c h = go (eqb c p)
  where
    go : (t : Bool) → cond t (4 * (b - 1)) 1 ≤ 64
    go true = omega arith
    go false = omega arith

-- one part stored after another
pub then : (d d1 d2 xs ys : List ℕ) (at w from : ℕ) → length xs ≡ w → at + w ≡ from → d1 ≡ sets d at xs → d2 ≡ sets d1 from ys → d2 ≡ sets d at (xs ++ ys)
then d d1 d2 xs ys at w from p q e f = f ∙ ap (λ (l : List ℕ). sets l from ys) e ∙ sym (part-stored d xs ys at w from p q)

-- ---- states

later-add : (m n s : ℕ) → later (m + n) s ≡ later n (later m s)
unfolding later
later-add zero n s = rw (zero-add n)
later-add (suc m) n s = rw (suc-add m n) (later-add m n (next_state s))

later-small : (n s : ℕ) → s < 2147483648 → later n s < 2147483648
unfolding later
later-small zero s h = h
later-small (suc n) s h = later-small n (next_state s) (omega arith)

later-none : (n s : ℕ) → later (0 * n) s ≡ s
unfolding later
later-none n s = rw (zero-mul n)

later-one : (s : ℕ) → later 1 s ≡ next_state s
unfolding later
later-one s = refl

-- ---- the first line, those under it, and the others

suc-sub : (r : ℕ) → suc r - 1 ≡ r
suc-sub r = omega arith

lines-append : (xs ys : List Line) → lines_text (xs ++ ys) ≡ lines_text xs ++ lines_text ys
unfolding lines_text
lines-append [] ys = refl
lines-append (l ∷ xs) ys = ap (λ (z : List ℕ). line_text l ++ z) (lines-append xs ys) ∙ sym (append_assoc (line_text l) (lines_text xs) (lines_text ys))

module _ (b : ℕ) (dice : Bool) where
  abbrev children : ℕ → ℕ
  children r = cond (eqb r 0) 0 b

  nodes-step : (r : ℕ) → nodes b r ≡ 1 + children r * nodes b (r - 1)
  nodes-step zero = nodes-leaf b ∙ omega arith
  nodes-step (suc r) = rw (eqb-suc-zero r, suc-sub r) (nodes-more b r)

  state-step : (r s : ℕ) → later (children r * b ^ (r - 1)) (cond (eqb r 0) (next_state s) s) ≡ later (b ^ r) s
  state-step zero s = later-none (b ^ (0 - 1)) (next_state s) ∙ rw (pow-zero b) (sym (later-one s))
  state-step (suc r) s = rw (eqb-suc-zero r, suc-sub r, pow-succ' b r)

  -- a line; its text does not show how many C stand above it
  abbrev line_of : ℕ → Kind → ℕ → ℕ → ℕ → Line
  line_of i k parent w v = record { node = i; kind = k; parent = parent; weight = w; utility = pos v; chances = 0 }

  abbrev text : ℕ → ℕ → Bool → ℕ → ℕ → ℕ → ℕ → ℕ → ℕ → ℕ → List ℕ
  text r l u p m c i s parent n = lines_text (flat parent n (row b dice r l u p m c i s))

  abbrev top : ℕ → ℕ → Bool → ℕ → ℕ → ℕ → ℕ → ℕ → Line
  top r l u p c i s parent = line_of i (cond (eqb r 0) Leaf (line_kind (kind_at dice l))) parent (weight_of b u p c) (cond (eqb r 0) (points (next_state s)) 0)

  text-none : (r l : ℕ) (u : Bool) (p c i s parent n : ℕ) → text r l u p 0 c i s parent n ≡ []
  unfolding row flat lines_text
  text-none zero l u p c i s parent n = refl
  text-none (suc r) l u p c i s parent n = refl

  text-leaf : (l : ℕ) (u : Bool) (p m c i s parent n : ℕ) → text 0 l u p (suc m) c i s parent n
      ≡ line_text (line_of i Leaf parent (weight_of b u p c) (points (next_state s))) ++ text 0 l u p m (suc c) (suc i) (next_state s) parent n
  unfolding row flat lines_text
  text-leaf l u p m c i s parent n = refl

  text-inner : (r l : ℕ) (u : Bool) (p m c i s parent n : ℕ) → text (suc r) l u p (suc m) c i s parent n
      ≡ line_text (line_of i (line_kind (kind_at dice l)) parent (weight_of b u p c) 0)
      ++ (text r (suc l) (chance_at dice l) c b 1 (suc i) s i (n + one (kind_at dice l))
      ++ text (suc r) l u p m (suc c) (i + nodes b (suc r)) (later (b ^ suc r) s) parent n)
  unfolding row flat lines_text
  text-inner r l u p m c i s parent n =
      ap (λ (z : List ℕ). line_text (line_of i (line_kind (kind_at dice l)) parent (weight_of b u p c) 0) ++ z)
      (lines-append (flat i (n + one (kind_at dice l)) (row b dice r (suc l) (chance_at dice l) c b 1 (suc i) s)) (flat parent n (row b dice (suc r) l u p m (suc c) (i + nodes b (suc r)) (later (b ^ suc r) s))))

  text-step : (r l : ℕ) (u : Bool) (p m c i s parent n : ℕ) → text r l u p (suc m) c i s parent n
      ≡ line_text (top r l u p c i s parent)
      ++ (text (r - 1) (l + 1) (chance_at dice l) c (children r) 1 (i + 1) (cond (eqb r 0) (next_state s) s) i (n + one (kind_at dice l))
      ++ text r l u p m (c + 1) (i + nodes b r) (later (b ^ r) s) parent n)
  text-step zero l u p m c i s parent n =
      rw (text-none (0 - 1) (l + 1) (chance_at dice l) c 1 (i + 1) (next_state s) i (n + one (kind_at dice l)), nodes-leaf b, pow-zero b, later-one s, add-one c, add-one i)
      (text-leaf l u p m c i s parent n)
  text-step (suc r) l u p m c i s parent n = rw (eqb-suc-zero r, suc-sub r, add-one l, add-one c, add-one i) (text-inner r l u p m c i s parent n)

-- ---- nothing written, and one line more

pub row-none : (b : ℕ) (dice : Bool) (y : Siblings) (m c : ℕ) (at : Place) (d : List ℕ) → m ≡ 0 → Rowed b dice y m c at d d at
row-none b dice y m c at d e =
    let none : (n : ℕ) → row_text b dice y 0 c at n ≡ [] = text-none b dice y.left y.level y.under y.play c at.node at.state y.parent in
    rw e (record {
      node = rw (zero-mul (nodes b y.left)) (sym (add-zero at.node));
      state = sym (later-none (b ^ y.left) at.state);
      text = λ n. rw (none n) refl;
      long = λ n. ap length (none n) ∙ rw (zero-mul (nodes b y.left));
    })

shallow-under : (r l b : ℕ) → l + r ≤ 18 → 0 < cond (eqb r 0) 0 b → (l + 1) + (r - 1) ≤ 18
shallow-under zero l b h g = absurd (omega arith)
shallow-under (suc r) l b h g = omega arith

pub falls-under : (r m b : ℕ) → 0 < m → b ≤ 5 → (r - 1) * 8 + cond (eqb r 0) 0 b < r * 8 + m
falls-under zero m b h g = omega arith
falls-under (suc r) m b h g = rw (eqb-suc-zero r) (omega arith)

-- the numbers of a line have room
pub first_short : (b : ℕ) (dice : Bool) (y : Siblings) (c : ℕ) (at : Place) (room : ℕ) → LineReady b y at room → Short (first_line b dice y c at)
first_short b dice y c at room L =
    record {
      node = omega (arith, L.few);
      parent = omega (arith, L.parent);
      weight = omega (arith, weight-few b y.under y.play c L.most);
      utility = choose (λ (x : ℕ). nat_abs (pos x) < 10 ^ 7) (eqb y.left 0) (λ z. omega arith) (λ z. omega arith);
    }

module _ (b : ℕ) (dice : Bool) (y : Siblings) (m c : ℕ) (at : Place) (room : ℕ) (some : 0 < m) (R : RowReady b y m c at room) where
  abbrev N : ℕ
  N = nodes b y.left

  abbrev U : Siblings
  U = under_of dice y c at.node

  abbrev k : ℕ
  k = cond (eqb y.left 0) 0 b

  -- N nodes at least
  size-more : size_of b y m ≡ N + size_of b y (m - 1)
  size-more = let e : m ≡ suc (m - 1) = omega arith in ap (λ (x : ℕ). x * N) e ∙ suc-mul (m - 1) N ∙ omega arith

  N-is : N ≡ 1 + size_of b U k
  N-is = nodes-step b dice y.left

  pub line-ready : LineReady b y at room
  line-ready =
      record {
        least = R.least;
        most = R.most;
        parent = R.parent;
        state = R.state;
        few = omega (arith, R.few, size-more, N-is);
        fits = omega (arith, R.fits, size-more, N-is);
      }

  -- those under it
  pub under-ready : (q : Place) → q ≡ after_first y at → RowReady b U k 1 q room
  under-ready q e =
      let n = ap (λ (x : Place). x.node) e in
      let L = line-ready in
      record {
        least = R.least;
        most = R.most;
        shallow = shallow-under y.left y.level b (R.shallow some);
        numbers = choose (λ (x : ℕ). x + 1 ≤ 6) (eqb y.left 0) (λ z. omega arith) (λ z. omega (arith, R.most));
        parent = L.few;
        state = rw (ap (λ (x : Place). x.state) e) (choose (λ (x : ℕ). x < 2147483648) (eqb y.left 0) (λ z. omega arith) (λ z. R.state));
        few = omega (arith, R.few, size-more, N-is, n);
        fits = omega (arith, R.fits, size-more, N-is, n);
      }

  module _ (first after : Place) (d1 d2 : List ℕ) (f : first ≡ after_first y at) (W : Rowed b dice U k 1 first d1 d2 after) where
    first-node : first.node ≡ at.node + 1
    first-node = ap (λ (x : Place). x.node) f

    first-state : first.state ≡ cond (eqb y.left 0) (next_state at.state) at.state
    first-state = ap (λ (x : Place). x.state) f

    after-node : after.node ≡ at.node + N
    after-node = omega (arith, W.node, first-node, N-is)

    after-state : after.state ≡ later (b ^ y.left) at.state
    after-state = W.state ∙ ap (later (k * b ^ (y.left - 1))) first-state ∙ state-step b dice y.left at.state

    pub rest-ready : RowReady b y (m - 1) (c + 1) after room
    rest-ready =
        record {
          least = R.least;
          most = R.most;
          shallow = λ h. R.shallow some;
          numbers = omega (arith, R.numbers);
          parent = R.parent;
          state = rw after-state (later-small (b ^ y.left) at.state R.state);
          few = omega (arith, R.few, size-more, after-node);
          fits = omega (arith, R.fits, size-more, after-node);
        }

    module _ (d e : List ℕ) (q : Place) (e1 : d1 ≡ sets d (25 * at.node + 25) (line_text (first_line b dice y c at)))
        (T : Rowed b dice y (m - 1) (c + 1) after d2 e q) where
      abbrev line : List ℕ
      line = line_text (first_line b dice y c at)

      line-25 : length line ≡ 25
      line-25 = (line-again (first_line b dice y c at) (first_short b dice y c at room line-ready)).3

      abbrev under : ℕ → List ℕ
      under n = row_text b dice U k 1 first (n + one (kind_at dice y.level))

      abbrev rest : ℕ → List ℕ
      rest n = row_text b dice y (m - 1) (c + 1) after n

      parts : (n : ℕ) → row_text b dice y m c at n ≡ line ++ (under n ++ rest n)
      parts n =
          let z : m ≡ suc (m - 1) = omega arith in
          ap (λ (x : ℕ). row_text b dice y x c at n) z
          ∙ text-step b dice y.left y.level y.under y.play (m - 1) c at.node at.state y.parent n
          ∙ ap₂ (λ (v w : List ℕ). line ++ (v ++ w))
          (ap₂ (λ (i s : ℕ). text b dice (y.left - 1) (y.level + 1) (chance_at dice y.level) c k 1 i s at.node (n + one (kind_at dice y.level))) (sym first-node) (sym first-state))
          (ap₂ (λ (i s : ℕ). text b dice y.left y.level y.under y.play (m - 1) (c + 1) i s y.parent n) (sym after-node) (sym after-state))

      under-long : (n : ℕ) → length (line ++ under n) ≡ 25 * N
      under-long n = length-append line (under n) ∙ omega (arith, line-25, W.long (n + one (kind_at dice y.level)), N-is)

      pub row_more : Rowed b dice y m c at d e q
      row_more =
          record {
            node = omega (arith, T.node, after-node, size-more);
            state = T.state
                ∙ ap (later ((m - 1) * b ^ y.left)) after-state
                ∙ sym (later-add (b ^ y.left) ((m - 1) * b ^ y.left) at.state)
                ∙ ap (λ (x : ℕ). later x at.state) times;
            text = λ n.
                let A : ℕ = 25 * at.node + 25 in
                let f2 = then d d1 d2 line (under n) A 25 (25 * first.node + 25) line-25 (omega (arith, first-node)) e1 (W.text (n + one (kind_at dice y.level))) in
                then d d2 e (line ++ under n) (rest n) A (25 * N) (25 * after.node + 25) (under-long n) (omega (arith, after-node)) f2 (T.text n)
                ∙ ap (sets d A) (append_assoc line (under n) (rest n) ∙ sym (parts n));
            long = λ n. ap length (parts n ∙ sym (append_assoc line (under n) (rest n))) ∙ length-append (line ++ under n) (rest n) ∙ omega (arith, under-long n, T.long n, size-more);
          }
        where
          times : b ^ y.left + (m - 1) * b ^ y.left ≡ m * b ^ y.left
          times =
              let z : m ≡ suc (m - 1) = omega arith in
              let w : suc (m - 1) * b ^ y.left ≡ m * b ^ y.left = ap (λ (x : ℕ). x * b ^ y.left) (sym z) in
              omega (arith, suc-mul (m - 1) (b ^ y.left), w)
