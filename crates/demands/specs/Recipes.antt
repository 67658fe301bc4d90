-- Test positions by recipe. Document 02, Item 7, which is quoted: what holds of every table that the call writes, and what of any four numbers. A seed, a
-- branching number, a depth and 1 or 0 for dice are given, and a buffer of so many bytes; `recipe_call/Call.recipe_of` says which are refused.
-- proofs/Recipes.antt has the theorems.
use Rattle.std.specs.Prelude.{ℕ, ◌+◌, ◌*◌, ◌^◌, ◌≤◌, ◌≡◌, cond, List, length, take, ℤ, pos, Ok}
use Rattle.line.specs.Refusal.{fine}
use Rattle.line.specs.Line.{to_nat}
use Rattle.table.specs.declared.Summary.{Summary}
use Rattle.table.specs.Table.{read_text, answer}
use Rattle.table.specs.Slices.{laid}
use Rattle.recipe.specs.Recipe.{levels, nodes, recipe_head, worths, leaf_worths}
use Rattle.recipe_call.specs.Call.{with_dice, table_for, recipe_of, recipe_bytes}

-- "Every table written is accepted by the reader": as the table of the recipe's definition
abbrev pub RecipeAccepted : Type 0
RecipeAccepted =
    (seed branching depth dice : ℤ) (room : ℕ) (s : List ℕ) → recipe_of seed branching depth dice room ≡ fine s
    → read_text s ≡ fine (table_for seed branching depth dice)

-- "equal parameters give equal bytes": in any two buffers d and e with room for them, whatever stood there
abbrev pub EqualBytes : Type 0
EqualBytes =
    (seed branching depth dice : ℤ) (d e s u : List ℕ)
    → recipe_of seed branching depth dice (length d) ≡ fine s → recipe_of seed branching depth dice (length e) ≡ fine u
    → (s ≡ u)
    × (take (length s) (laid (recipe_bytes seed branching depth dice (length d)) d) ≡ s)
    × (take (length s) (laid (recipe_bytes seed branching depth dice (length e)) e) ≡ s)

-- "more than 1,024 nodes": what is counted there are the lines of the table, whether it is refused or not
abbrev pub NodesCounted : Type 0
NodesCounted =
    (seed branching depth dice : ℤ)
    → length (table_for seed branching depth dice).lines ≡ nodes (to_nat branching) (levels (with_dice dice) (to_nat depth))

-- its lines: a header and one for each node
abbrev pub RecipeLength : Type 0
RecipeLength =
    (seed branching depth dice : ℤ) (room : ℕ) (s : List ℕ) → recipe_of seed branching depth dice room ≡ fine s
    → let n = nodes (to_nat branching) (levels (with_dice dice) (to_nat depth)) in
    (length s ≡ 25 * n + 25) × (n ≤ 1024)

-- What the reader answers of it: "T = 5 × (b - 1)" with dice, "without dice T is 1", "ends 0 and 100"; with dice as many C on a path as plays, so that G is
-- T to the power of the depth; on each level b times as many lines, so that the leaves are b to the power of the levels
abbrev pub recipe_summary : (branching depth dice : ℤ) → Summary
recipe_summary branching depth dice =
    let b = to_nat branching in
    let chances = cond (with_dice dice) (to_nat depth) 0 in
    record {
      nodes = nodes b (levels (with_dice dice) (to_nat depth));
      total = (recipe_head b (with_dice dice)).total;
      lowest = pos 0;
      highest = pos 100;
      chances = chances;
      grain = (recipe_head b (with_dice dice)).total ^ chances;
      leaves = b ^ levels (with_dice dice) (to_nat depth);
      second = 0;
    }

abbrev pub RecipeNumbers : Type 0
RecipeNumbers =
    (seed branching depth dice : ℤ) (room : ℕ) (s : List ℕ) → recipe_of seed branching depth dice room ≡ fine s
    → answer (read_text s) ≡ Ok (recipe_summary branching depth dice)

-- "Leaves take the next state .., in line order": the utilities of the leaves, line by line, are the worths of the states after the seed
abbrev pub LeavesInOrder : Type 0
LeavesInOrder =
    (seed branching depth dice : ℤ)
    → leaf_worths (table_for seed branching depth dice).lines ≡ worths (to_nat branching ^ levels (with_dice dice) (to_nat depth)) (to_nat seed)
