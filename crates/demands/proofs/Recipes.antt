-- What holds of every table that is written by a recipe.
use Rattle.std.proofs.Common.{Ok}
use Prim.Native.Nat.{ℕ, ◌≤◌}
use mathlib.Core.Path.{◌≡◌, refl, sym, ap, ◌∙◌}
use mathlib.Core.List.{List}
use native.Mathlib.Omega.{arith}
use native.Mathlib.Nat.{le_trans}
use lib.ListN.{length, take, drop}
use lib.Seq.{take_at}
use lib.IntN.{pos}
use Rattle.line.specs.Refusal.{Verdict, fine}
use Rattle.line.specs.Line.{to_nat, totals}
use Rattle.table.specs.Tree.{grain_of}
use Rattle.table.specs.Table.{answer}
use Rattle.table.specs.Slices.{laid}
use Rattle.writing.proofs.Reread.{again-tree}
use Rattle.recipe.specs.Recipe.{recipe_head, recipe_tree}
use Rattle.recipe.proofs.Numbers.{recipe-chances, recipe-grain, recipe-leaves}
use Rattle.recipe.proofs.Accepted.{sound}
use Rattle.recipe.proofs.Order.{leaves-in-order}
use Rattle.recipe.proofs.Written.{recipe-count}
use Rattle.recipe_call.specs.Call.{with_dice, bytes_of}
use Rattle.recipe_call.proofs.Call.{in-range, written, accepted, written-long}
use Rattle.demands.specs.Recipes.{RecipeAccepted, EqualBytes, NodesCounted, RecipeLength, RecipeNumbers, LeavesInOrder}

pub recipe-accepted : RecipeAccepted
recipe-accepted seed branching depth dice room s e = accepted seed branching depth dice room s e

pub nodes-counted : NodesCounted
nodes-counted seed branching depth dice = recipe-count (to_nat seed) (to_nat branching) (to_nat depth) (with_dice dice)

pub recipe-length : RecipeLength
recipe-length seed branching depth dice room s e = written-long seed branching depth dice room s e

pub leaves-ordered : LeavesInOrder
leaves-ordered seed branching depth dice = leaves-in-order (to_nat branching) (with_dice dice) (to_nat seed) (to_nat depth)

-- ---- equal bytes

-- a text at the front of a buffer
front : (s d : List ℕ) → take (length s) (laid s d) ≡ s
front s d = take_at s (drop (length s) d) (length s) refl

pub equal-bytes : EqualBytes
equal-bytes seed branching depth dice d e s u p q =
    let same : s ≡ u = sym (written seed branching depth dice (length d) s p).2 ∙ (written seed branching depth dice (length e) u q).2 in
    let first = ap (λ (v : Verdict (List ℕ)). take (length s) (laid (bytes_of v) d)) p ∙ front s d in
    let other = ap (λ (v : Verdict (List ℕ)). take (length s) (laid (bytes_of v) e)) (q ∙ ap fine (sym same)) ∙ front s e in
    (same, first, other)

-- ---- the numbers

pub recipe-numbers : RecipeNumbers
recipe-numbers seed branching depth dice room s e =
    let b = to_nat branching in
    let with = with_dice dice in
    let (fair, few, is) = written seed branching depth dice room s e in
    let R = in-range seed branching depth dice fair in
    let some : 1 ≤ b = le_trans (omega arith) R.least in
    let F = recipe_tree b with (to_nat seed) (to_nat depth) in
    let count = recipe-count (to_nat seed) b (to_nat depth) with in
    let chances = recipe-chances b with some (to_nat seed) (to_nat depth) in
    let grain = ap (grain_of (totals (recipe_head b with))) (again-tree (recipe_head b with) F (sound b with R.least R.most (to_nat seed) (to_nat depth) few)) ∙ recipe-grain b with some (to_nat seed) (to_nat depth) in
    let leaves = recipe-leaves b with (to_nat seed) (to_nat depth) in
    ap answer (accepted seed branching depth dice room s e)
    ∙ (λ j. Ok (record {
      nodes = count j;
      total = (recipe_head b with).total;
      lowest = pos 0;
      highest = pos 100;
      chances = chances j;
      grain = grain j;
      leaves = leaves j;
      second = 0;
    }))
