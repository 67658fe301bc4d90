-- The numbers of a recipe's table: how many C a path has, its grain count, its leaves.
use Prim.Native.Nat.{ℕ, zero, suc, ◌+◌, ◌*◌, ◌^◌, ◌<◌, max}
use mathlib.Core.Path.{◌≡◌, refl, sym, ap, ◌∙◌}
use mathlib.Core.Bool.{Bool, true, false, cond}
use native.Mathlib.Omega.{arith}
use native.Mathlib.Nat.{zero-mul, suc-mul, one-mul, pow-zero, pow-succ'}
use borrow.Author.Tests.{ne_eqb}
use lib.Dec.{eqb, eqb-suc-zero}
use Rattle.line.specs.Line.{totals}
use Rattle.table.specs.Tree.{grain_of, leaves}
use Rattle.table.specs.Table.{greatest, leaf_lines}
use Rattle.table.specs.Inside.{deepest}
use Rattle.table.proofs.Runs.{flat-leaves}
use Rattle.table.proofs.Totals.{root-deepest, grain-one}
use Rattle.recipe.specs.Recipe.{next_state, later, levels, chance_at, nodes, row, recipe_head, recipe_tree, recipe_table}
use Rattle.recipe.proofs.Rules.{chances_in, chances-all, kind-chance, row-balanced}

module _ (b : ℕ) (dice : Bool) where
  -- ---- C on a path

  leaves-deepest : (l : ℕ) (u : Bool) (p m c i s : ℕ) → deepest (row b dice 0 l u p m c i s) ≡ 0
  unfolding row deepest
  leaves-deepest l u p zero c i s = refl
  leaves-deepest l u p (suc m) c i s = leaves-deepest l u p m (suc c) (suc i) (next_state s)

  -- all siblings have as many below them, and where there are none there is no C
  greatest-alike : (m x y : ℕ) → y ≡ cond (eqb m 0) 0 x → max x y ≡ x
  greatest-alike zero x y e = omega arith
  greatest-alike (suc m) x y e = let f : y ≡ x = e ∙ rw (eqb-suc-zero m) in omega arith

  row-deepest : 0 < b → (r l : ℕ) (u : Bool) (p m c i s : ℕ) → deepest (row b dice r l u p m c i s) ≡ cond (eqb m 0) 0 (chances_in dice r l)
  unfolding row deepest chances_in
  row-deepest h zero l u p m c i s = leaves-deepest l u p m c i s ∙ sym (either (eqb m 0))
    where
      either : (t : Bool) → cond {A = ℕ} t 0 0 ≡ 0
      either true = refl
      either false = refl
  row-deepest h (suc r) l u p zero c i s = refl
  row-deepest h (suc r) l u p (suc m) c i s =
      let x : ℕ = cond (chance_at dice l) 1 0 + chances_in dice r (suc l) in
      let under = row-deepest h r (suc l) (chance_at dice l) c b 1 (suc i) s in
      rw (kind-chance b dice l, under, ne_eqb b 0 (λ e. omega arith), eqb-suc-zero m)
      (greatest-alike m x _ (row-deepest h (suc r) l u p m (suc c) (i + nodes b (suc r)) (later (b ^ suc r) s)))

  module _ (some : 0 < b) (seed depth : ℕ) where
    -- K
    tree-deepest : deepest (recipe_tree b dice seed depth) ≡ cond dice depth 0
    tree-deepest = row-deepest some (levels dice depth) 0 false 0 1 1 0 seed ∙ chances-all dice depth

    pub recipe-chances : greatest (recipe_table b dice seed depth).lines ≡ cond dice depth 0
    recipe-chances = root-deepest (recipe_tree b dice seed depth) ∙ tree-deepest

    -- G
    pub recipe-grain : grain_of (totals (recipe_head b dice)) (recipe_tree b dice seed depth) ≡ (recipe_head b dice).total ^ cond dice depth 0
    recipe-grain =
        grain-one (recipe_head b dice) (recipe_tree b dice seed depth) refl (row-balanced b dice (levels dice depth) 0 false 0 1 1 0 seed (omega arith) (omega arith))
        ∙ ap (λ (k : ℕ). (recipe_head b dice).total ^ k) tree-deepest

  -- ---- leaves

  row-leaves : (r l : ℕ) (u : Bool) (p m c i s : ℕ) → leaves (row b dice r l u p m c i s) ≡ m * b ^ r
  unfolding row leaves
  row-leaves zero l u p zero c i s = rw (zero-mul (b ^ 0))
  row-leaves zero l u p (suc m) c i s = rw (row-leaves zero l u p m (suc c) (suc i) (next_state s), suc-mul m (b ^ 0)) (omega (arith, pow-zero b))
  row-leaves (suc r) l u p zero c i s = rw (zero-mul (b ^ suc r))
  row-leaves (suc r) l u p (suc m) c i s =
      rw (
        row-leaves r (suc l) (chance_at dice l) c b 1 (suc i) s,
        row-leaves (suc r) l u p m (suc c) (i + nodes b (suc r)) (later (b ^ suc r) s),
        suc-mul m (b ^ suc r),
      )
      (omega (arith, pow-succ' b r))

  pub recipe-leaves : (seed depth : ℕ) → leaf_lines (recipe_table b dice seed depth).lines ≡ b ^ levels dice depth
  recipe-leaves seed depth =
      let F = recipe_tree b dice seed depth in
      sym (flat-leaves 0 0 F) ∙ row-leaves (levels dice depth) 0 false 0 1 1 0 seed ∙ one-mul (b ^ levels dice depth)
