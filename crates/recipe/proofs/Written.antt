-- The text of a recipe's table, and what it takes to store it.
use Prim.Native.Nat.{ℕ, ◌+◌, ◌*◌, ◌≤◌}
use mathlib.Core.Path.{◌≡◌, sym, ap, ◌∙◌}
use mathlib.Core.Bool.{Bool, false}
use mathlib.Core.List.{List, ◌++◌}
use native.Mathlib.Omega.{arith}
use native.Mathlib.Nat.{zero-add, one-mul}
use lib.ListN.{length, drop}
use lib.Seq.{sets, sets-eq}
use Rattle.table.specs.Slices.{laid}
use Rattle.table.proofs.Runs.{flat-length}
use Rattle.writing.specs.Text.{header_text, table_text}
use Rattle.writing.proofs.Again.{head-again}
use Rattle.writing.proofs.Reread.{text-length}
use Rattle.recipe.specs.declared.Place.{Place}
use Rattle.recipe.specs.declared.Siblings.{Siblings}
use Rattle.recipe.specs.Recipe.{levels, nodes, recipe_head, recipe_tree, recipe_table}
use Rattle.recipe.specs.Inside.{row_text, Rowed, TableReady}
use Rattle.recipe.proofs.Rules.{row-size}
use Rattle.recipe.proofs.Accepted.{ranged, sound}
use Rattle.recipe.proofs.Rows.{then}

module _ (seed b depth : ℕ) (dice : Bool) where
  pub recipe-count : length (recipe_table b dice seed depth).lines ≡ nodes b (levels dice depth)
  recipe-count =
      flat-length 0 0 (recipe_tree b dice seed depth)
      ∙ row-size b dice (levels dice depth) 0 false 0 1 1 0 seed
      ∙ one-mul (nodes b (levels dice depth))

  pub text-long : 2 ≤ b → b ≤ 5 → nodes b (levels dice depth) ≤ 1024 → length (table_text (recipe_table b dice seed depth)) ≡ 25 * nodes b (levels dice depth) + 25
  text-long least most few =
      text-length (recipe_head b dice) (recipe_tree b dice seed depth) (sound b dice least most seed depth few) ∙ ap (λ (m : ℕ). 25 * m + 25) recipe-count

  -- the root's row
  abbrev root : Siblings
  root = record { left = levels dice depth; level = 0; parent = 0; under = false; play = 0 }

  abbrev start : Place
  start = record { node = 0; state = seed }

  module _ (n room : ℕ) (T : TableReady seed b depth dice n room) where
    few-nodes : nodes b (levels dice depth) ≤ 1024
    few-nodes = omega (arith, T.count, T.few)

    -- the header and then the rows
    pub table-stored : (d d1 e : List ℕ) (q : Place) → length d ≡ room → d1 ≡ sets d 0 (header_text (recipe_head b dice) n) → Rowed b dice root 1 1 start d1 e q
        → e ≡ laid (table_text (recipe_table b dice seed depth)) d
    table-stored d d1 e q long e1 W =
        let H : List ℕ = header_text (recipe_head b dice) n in
        let X : List ℕ = row_text b dice root 1 1 start 0 in
        let text : List ℕ = table_text (recipe_table b dice seed depth) in
        let l : length H ≡ 25 = (head-again (recipe_head b dice) n (ranged b dice T.least T.most) (omega (arith, T.few))).2 in
        let t : text ≡ H ++ X = ap (λ (m : ℕ). header_text (recipe_head b dice) m ++ X) (recipe-count ∙ sym T.count) in
        then d d1 e H X 0 25 25 l (omega arith) e1 (W.text 0)
        ∙ ap (sets d 0) (sym t)
        ∙ sets-eq text d 0 (omega (arith, long, text-long T.least T.most few-nodes, T.count, T.fits))
        ∙ ap (λ (m : ℕ). text ++ drop m d) (zero-add (length text))
