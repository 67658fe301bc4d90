-- A root with a single child, and one with several.
use Prim.Native.Nat.{ℕ, suc, ◌≤◌, ◌<◌}
use mathlib.Core.Path.{◌≡◌, refl, ap}
use mathlib.Core.Bool.{Bool, true, false, cond}
use native.Mathlib.Omega.{arith}
use borrow.Author.Tests.{eqb-false, eq-eqb, ne_eqb}
use lib.Dec.{eqb}
use lib.ListN.{length}
use Rattle.line.specs.Refusal.{Verdict, fine}
use Rattle.line.proofs.Signs.{true-ne-false}
use Rattle.table.specs.Tree.{Forest, end, leaf, inner, is_end}
use Rattle.table.specs.Root.{nodes}
use Rattle.worth.specs.Inside.Heights.{height_shares}
use Rattle.judge.specs.Judge.{Judgement, no_decision, unless_forced}

pub some-nodes : {A : Type 0} (f : Forest A) → is_end f ≡ false → 1 ≤ length (nodes f)
unfolding nodes
some-nodes end e = absurd (true-ne-false e)
some-nodes (leaf n w v rest) e = omega arith
some-nodes (inner n w k under rest) e = omega arith

-- there is a worth for each node
pub shares-count : (G : ℕ) (f : Forest ℕ) → length (height_shares G f) ≡ length (nodes f)
unfolding height_shares nodes
shares-count G end = refl
shares-count G (leaf n w v rest) = ap suc (shares-count G rest)
shares-count G (inner n w k under rest) = ap suc (shares-count G rest)

-- where there is no decision anyway
pub none-forced : (n : ℕ) → unless_forced n (fine no_decision) ≡ fine no_decision
none-forced n = go (eqb n 1)
  where
    go : (b : Bool) → cond b (fine no_decision) (fine no_decision) ≡ fine no_decision
    go true = refl
    go false = refl

module _ (n : ℕ) (v : Verdict Judgement) where
  pub forced : n ≡ 1 → unless_forced n v ≡ fine no_decision
  forced e = ap (λ (b : Bool). cond b (fine no_decision) v) (eq-eqb n 1 e)

  pub choice : 1 < n → unless_forced n v ≡ v
  choice h = ap (λ (b : Bool). cond b (fine no_decision) v) (ne_eqb n 1 (λ e. omega (arith, e)))

  -- a loss or a refusal is document 01's, and the play was not forced
  module _ (u : Verdict Judgement) (other : fine no_decision ≡ u → ⊥) where
    pub unforced : unless_forced n v ≡ u → (v ≡ u) × (n ≡ 1 → ⊥)
    unforced = go (eqb n 1) refl
      where
        go : (b : Bool) → eqb n 1 ≡ b → cond b (fine no_decision) v ≡ u → (v ≡ u) × (n ≡ 1 → ⊥)
        go true p e = absurd (other e)
        go false p e = (e, eqb-false n 1 p)
