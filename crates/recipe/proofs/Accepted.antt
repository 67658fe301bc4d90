-- "Every table written is accepted by the reader".
use Prim.Native.Nat.{ℕ, zero, suc, ◌-◌, ◌*◌, ◌^◌, ◌≤◌, ◌<◌}
use mathlib.Core.Path.{◌≡◌, refl, sym, subst}
use mathlib.Core.Bool.{Bool, true, false, cond}
use native.Mathlib.Omega.{arith}
use native.Mathlib.Nat.{pow-le-pow_left, pow-le-pow_right}
use lib.Dec.{lit<}
use Rattle.line.specs.Line.{larger, Within}
use Rattle.line.specs.Inside.{Ranged}
use Rattle.line.proofs.Signs.{true-ne-false}
use Rattle.line.specs.Refusal.{fine}
use Rattle.table.specs.Table.{read_text}
use Rattle.table.specs.Accepted.{Proper, Rooted}
use Rattle.writing.specs.Text.{table_text}
use Rattle.writing.proofs.Reread.{Sound, read_back}
use Rattle.recipe.specs.Recipe.{nodes, levels, row, recipe_head, recipe_tree, recipe_table}
use Rattle.recipe.proofs.Rules.{row-size, row-numbered, row-filled, row-balanced, row-proper, chances-all, nodes-few}
use Rattle.recipe.proofs.Numbers.{recipe-grain}

module _ (b : ℕ) (dice : Bool) (least : 2 ≤ b) (most : b ≤ 5) where
  pub ranged : Ranged (recipe_head b dice)
  ranged = let t = range dice in record { some = t.0; total = t.1; second = omega arith; apart = λ e. omega (arith, t.0, e); lowest = omega arith; highest = omega arith; order = refl }
    where
      range : (d : Bool) → (0 < cond d (5 * (b - 1)) 1) × (cond d (5 * (b - 1)) 1 ≤ 64)
      range true = (omega arith, omega arith)
      range false = (omega arith, omega arith)

  rooted : (r s : ℕ) → Rooted (row b dice r 0 false 0 1 1 0 s)
  unfolding row
  rooted zero s = (refl, refl, refl)
  rooted (suc r) s = (refl, refl, refl)

  module _ (seed depth : ℕ) (few : nodes b (levels dice depth) ≤ 1024) where
    abbrev r : ℕ
    r = levels dice depth

    pub shallow : r ≤ 9
    shallow = nodes-few b least r few

    rare : (d : Bool) → cond d (2 * depth) depth ≤ 9 → cond d depth 0 ≤ 4
    rare true h = omega arith
    rare false h = omega arith

    -- without a second total
    larger-is : (recipe_head b dice).total ≡ larger (recipe_head b dice)
    larger-is = omega arith

    -- at most 20 to the power 4
    few-grains : (d : Bool) → cond d (2 * depth) depth ≤ 9 → cond d (5 * (b - 1)) 1 ^ cond d depth 0 ≤ 16777216
    few-grains true h =
        let p : (5 * (b - 1)) ^ depth ≤ 20 ^ depth = pow-le-pow_left (omega arith) depth in
        let few : depth ≤ 4 = omega arith in
        let q : 20 ^ depth ≤ 20 ^ 4 = pow-le-pow_right {n = 20} (lit< tt) few in
        omega arith
    few-grains false h = omega arith

    pub sound : Sound (recipe_head b dice) (recipe_tree b dice seed depth)
    sound =
        record {
          ranged = ranged;
          numbered = row-numbered b dice r 0 false 0 1 1 0 seed;
          rooted = rooted r seed;
          filled = row-filled b dice (omega arith) r 0 false 0 1 1 0 seed;
          balanced = row-balanced b dice r 0 false 0 1 1 0 seed (omega arith) (omega arith);
          proper = subst (λ (T : ℕ). Proper T 4 (Within (recipe_head b dice)) 0 0 false (recipe_tree b dice seed depth)) larger-is (row-proper b dice least r 0 false 0 1 1 0 seed 0 0 (λ e. absurd (true-ne-false (sym e))) (omega (arith, shallow)) (omega (arith, chances-all dice depth, rare dice shallow)));
          few = omega (arith, row-size b dice r 0 false 0 1 1 0 seed);
          grains = rw (recipe-grain b dice (omega arith) seed depth) (few-grains dice shallow);
        }

    pub recipe-accepted : read_text (table_text (recipe_table b dice seed depth)) ≡ fine (recipe_table b dice seed depth)
    recipe-accepted = read_back (recipe_head b dice) (recipe_tree b dice seed depth) sound
