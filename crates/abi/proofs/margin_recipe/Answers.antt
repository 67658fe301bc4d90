-- `abi::margin_recipe` meets its contract.
use Rattle.std.proofs.Common.{Result}
use Rattle.line.specs.declared.Refusal.{Refusal}
use Prim.Native.Nat.{ℕ}
use mathlib.Core.Path.{◌≡◌, sym, ap, subst, ◌∙◌}
use mathlib.Core.List.{List}
use borrow.Author.Rules.{rules}
use lib.ListN.{length}
use lib.IntN.{ℤ}
use mir.Syntax.{w64}
use mir.Val.{to_z, of_z}
use Rattle.table.specs.Slices.{laid}
use Rattle.recipe_call.specs.Call.{recipe_call, recipe_bytes}
use Rattle.codes.specs.Numbers.{recipe_code, recipe_numbers, put}
use Rattle.codes.specs.Inside.{SmallMade}
use Rattle.abi.proofs.Answers.{made-small}
use Rattle.abi.proofs.margin_recipe.Goals as goal
use Rattle.abi.proofs.margin_recipe.Goals.{After-write_recipe, Start}

-- what is answered, and what is then in a buffer that held d
abbrev Told : ℤ → ℤ → ℤ → ℤ → List ℕ → Result ℕ Refusal → List ℕ → Type 0
Told seed branching depth dice d m e = (m ≡ recipe_call seed branching depth dice (length d)) × (e ≡ laid (recipe_bytes seed branching depth dice (length d)) d)

told_same : (s s2 b b2 p p2 k k2 : ℤ) (d : List ℕ) (m : Result ℕ Refusal) (e : List ℕ) → s ≡ s2 → b ≡ b2 → p ≡ p2 → k ≡ k2 → Told s b p k d m e → Told s2 b2 p2 k2 d m e
told_same s s2 b b2 p p2 k k2 d m e f g h i t = rw (← f, ← g, ← h, ← i) t

-- the numbers are handed on as bits
seed-back : (s : Start) → to_z w64 (of_z w64 s.args.seed) ≡ s.args.seed
seed-back s = search rules

branching-back : (s : Start) → to_z w64 (of_z w64 s.args.branching) ≡ s.args.branching
branching-back s = search rules

depth-back : (s : Start) → to_z w64 (of_z w64 s.args.depth) ≡ s.args.depth
depth-back s = search rules

dice-back : (s : Start) → to_z w64 (of_z w64 s.args.dice) ≡ s.args.dice
dice-back s = search rules

told : (W : After-write_recipe)
    → let a = W.args in Told a.seed a.branching a.depth a.dice a.buffer.now W.write_recipe.result W.write_recipe.new.buffer
told W =
    let a = W.args in
    told_same _ a.seed _ a.branching _ a.depth _ a.dice a.buffer.now W.write_recipe.result W.write_recipe.new.buffer
    (seed-back (goal.at.After-write_recipe W).Start) (branching-back (goal.at.After-write_recipe W).Start) (depth-back (goal.at.After-write_recipe W).Start) (dice-back (goal.at.After-write_recipe W).Start) (W.write_recipe.ensures.answers, W.write_recipe.ensures.writes)

pub put_made-requires : goal.put_made-requires
put_made-requires c =
    let a = c.args in
    subst SmallMade (sym (told (goal.at.put_made-requires c).After-write_recipe).0) (made-small a.seed a.branching a.depth a.dice (length a.buffer.now))

pub returns : goal.returns
returns c =
    let P = c.put_made.ensures in
    let e = (told (goal.at.returns c).After-write_recipe).0 in
    record { code = P.code ∙ ap recipe_code e; writes = (told (goal.at.returns c).After-write_recipe).1; numbers = P.numbers ∙ ap (λ (x : Result ℕ Refusal). put 0 (recipe_numbers x) c.args.numbers.now) e }
