-- The uses of a total on a path, counted from child to child.
use Prim.Native.Nat.{ℕ, ◌+◌, max, ◌≤◌, ◌<◌}
use mathlib.Core.Path.{◌≡◌, refl, sym, ap, subst, ◌∙◌}
use mathlib.Core.Bool.{◌&&◌}
use mathlib.Core.List.{List}
use native.Mathlib.Omega.{arith}
use lib.Dec.{eqb}
use lib.ListN.{get_or}
use Rattle.field.proofs.Small.{one-or-none}
use Rattle.table.specs.Tree.{Kind, Forest, end, leaf, inner, code_of, is_chance, weigh, used, uses}
use Rattle.table.specs.Inside.{Slices, Spans}
use Rattle.table.proofs.Runs.{code-chance}
use Rattle.table.proofs.Spans.{spans-le}
use Rattle.runs.specs.Inside.{Has, sum_at, use_at, UsedMost}
use Rattle.runs.proofs.Scan.{spans-weigh}

module _ (ks ss ws : List ℕ) where
  abbrev slices : List ℕ → Slices
  slices hs = record { kinds = ks; stops = ss; weights = ws; heights = hs }

  -- there are at most as many as there are nodes
  pub uses-small : (hs : List ℕ) (T c e : ℕ) (f : Forest ℕ) → Spans (slices hs) c e f → c + uses T f ≤ e
  unfolding Spans uses
  uses-small hs T c e end h = omega arith
  uses-small hs T c e (leaf n w v rest) h = omega (arith, uses-small hs T (c + 1) e rest h.5)
  uses-small hs T c e (inner n w k under rest) h =
      let j : ℕ = get_or ss c 0 in
      omega (
        arith,
        one-or-none (is_chance k && eqb (weigh under) T),
        uses-small hs T (c + 1) j under h.3,
        uses-small hs T j e rest h.4,
        spans-le (slices hs) (c + 1) j under h.3,
        spans-le (slices hs) j e rest h.4,
      )

  -- the first of the nodes in the entries from i up to e: what is under it, and the nodes after it
  pub record First (hs : List ℕ) (i e : ℕ) (f : Forest ℕ) : Type 0 where
    pub under : Forest ℕ
    pub rest : Forest ℕ
    pub below : Spans (slices hs) (i + 1) (get_or ss i 0) under
    pub after : Spans (slices hs) (get_or ss i 0) e rest
    pub counts : (T : ℕ) → uses T f ≡ max (use_at ks ss ws T i + uses T under) (uses T rest)
    pub later : i < get_or ss i 0
    pub within : get_or ss i 0 ≤ e

  use-is : (T i : ℕ) (k : Kind) (f : Forest ℕ) → get_or ks i 0 ≡ code_of k → sum_at ss ws i ≡ weigh f → used T k f ≡ use_at ks ss ws T i
  use-is T i k f e g = rw (e, code-chance k, g) refl

  pub first_of : (hs : List ℕ) (i e : ℕ) (f : Forest ℕ) → i < e → e ≤ 1024 → Spans (slices hs) i e f → First hs i e f
  unfolding Spans uses
  first_of hs i e end l small h = absurd (omega arith)
  first_of hs i e (leaf n w v rest) l small h =
      record {
        under = end;
        rest = rest;
        below = sym h.2;
        after = subst (λ (x : ℕ). Spans (slices hs) x e rest) (sym h.2) h.5;
        counts = λ T. rw h.1 (omega arith);
        later = omega (arith, h.2);
        within = omega (arith, h.2, spans-le (slices hs) (i + 1) e rest h.5);
      }
  first_of hs i e (inner n w k under rest) l small h =
      let j : ℕ = get_or ss i 0 in
      let b = spans-le (slices hs) j e rest h.4 in
      let a = spans-le (slices hs) (i + 1) j under h.3 in
      let s : sum_at ss ws i ≡ weigh under = spans-weigh (slices hs) 1024 (i + 1) j under h.3 (omega arith) in
      record {
        under = under;
        rest = rest;
        below = h.3;
        after = h.4;
        counts = λ T. ap (λ (x : ℕ). max (x + uses T under) (uses T rest)) (use-is T i k under h.1 s);
        later = omega arith;
        within = b;
      }

  -- where the nodes before entry i are counted
  pub record Going (T c e most i : ℕ) (R : Has ks ss ws c e) : Type 0 where
    pub rest : Forest ℕ
    pub spans : Spans (slices R.heights) i e rest
    pub known : uses T R.forest ≡ max most (uses T rest)
    pub from : c ≤ i
    pub upto : i ≤ e

  abbrev pub GoingAll : (T c e most i : ℕ) → Type 0
  GoingAll T c e most i = (R : Has ks ss ws c e) → Going T c e most i R

  pub going_start : (T c e : ℕ) → GoingAll T c e 0 c
  going_start T c e R =
      record { rest = R.forest; spans = R.spans; known = omega arith; from = omega arith; upto = spans-le (slices R.heights) c e R.forest R.spans }

  module _ (T c e most i : ℕ) (R : Has ks ss ws c e) (G : Going T c e most i R) (l : i < e) (small : e ≤ 1024) where
    pub next_of : First R.heights i e G.rest
    next_of = first_of R.heights i e G.rest l small G.spans

    -- what stands under the node at i, whose run stops at s
    pub has-under : (s : ℕ) → s ≡ get_or ss i 0 → Has ks ss ws (i + 1) s
    has-under s q = record { heights = R.heights; forest = next_of.under; spans = subst (λ (x : ℕ). Spans (slices R.heights) (i + 1) x next_of.under) (sym q) next_of.below }

    pub going_on : (s here under r : ℕ) → s ≡ get_or ss i 0 → here ≡ use_at ks ss ws T i → UsedMost ks ss ws T (i + 1) s under → r ≡ max most (here + under)
        → Going T c e r s R
    unfolding next_of has-under
    going_on s here under r q a b d =
        let N = next_of in
        let u : under ≡ uses T N.under = b (has-under s q) in
        record {
          rest = N.rest;
          spans = subst (λ (x : ℕ). Spans (slices R.heights) x e N.rest) (sym q) N.after;
          known = G.known ∙ ap (max most) (N.counts T) ∙ omega (arith, a, u, d);
          from = omega (arith, G.from, N.later, q);
          upto = omega (arith, N.within, q);
        }

  pub going_end : (T c e most i : ℕ) (R : Has ks ss ws c e) → Going T c e most i R → e ≤ i → most ≡ uses T R.forest
  going_end T c e most i R G l = sym (G.known ∙ none G.rest G.spans)
    where
      none : (f : Forest ℕ) → Spans (slices R.heights) i e f → max most (uses T f) ≡ most
      none f h = omega (arith, uses-small R.heights T i e f h)
