-- `recipe_call::write_recipe` meets its contract.
use mathlib.Core.Path.{◌≡◌, ◌∙◌}
use mathlib.Core.Bool.{false, true}
use native.Mathlib.Omega.{arith}
use borrow.Author.Rules.{rules}
use lib.Dec.{eqb}
use lib.ListN.{length}
use mir.Syntax.{w64}
use mir.Val.{of_z}
use Rattle.std.proofs.Common.{nat_eq}
use Rattle.line.specs.Line.{to_nat}
use Rattle.recipe.specs.Recipe.{levels, nodes}
use Rattle.recipe_call.specs.Call.{out_of_range, with_dice}
use Rattle.recipe_call.proofs.Call.{in-range, out, many, short, done, ready}
use Rattle.recipe_call.proofs.write_recipe.Goals as goal
use Rattle.recipe_call.proofs.write_recipe.Goals.{After-is_out_of_range, After-unsigned_abs, After-unsigned_abs-plays, After-table_nodes-count, After-unsigned_abs-2, Start}

branching-is : (c : After-unsigned_abs) → c.unsigned_abs.result ≡ to_nat c.args.branching
branching-is c = search rules

depth-is : (c : After-unsigned_abs-plays) → c.unsigned_abs-plays.result ≡ to_nat c.args.depth
depth-is c = search rules

seed-is : (c : After-unsigned_abs-2) → c.unsigned_abs-2.result ≡ to_nat c.args.seed
seed-is c = search rules

dice-is : (c : Start) → nat_eq (of_z w64 c.args.dice) 1 ≡ with_dice c.args.dice
dice-is c = search rules

-- the numbers are in range
fair : (c : After-unsigned_abs-plays) → let a = c.args in out_of_range a.seed a.branching a.depth a.dice ≡ false
fair c = search rules

-- how many nodes were counted
count-is : (c : After-table_nodes-count) → let a = c.args in c.table_nodes-count.result ≡ nodes (to_nat a.branching) (levels (with_dice a.dice) (to_nat a.depth))
count-is c =
    let P = (goal.at.After-table_nodes-count c).After-unsigned_abs-plays in
    let b = branching-is (goal.at.After-unsigned_abs-plays P).After-unsigned_abs in
    let d = dice-is (goal.at.After-unsigned_abs-plays P).Start in
    c.table_nodes-count.ensures ∙ rw (b, d, depth-is P)

pub returns-then-is_out_of_range : goal.returns-then-is_out_of_range
returns-then-is_out_of_range c =
    let a = c.args in
    let is : out_of_range a.seed a.branching a.depth a.dice ≡ true = search rules in
    let all = out a.seed a.branching a.depth a.dice a.buffer.now is in record { answers = all.0; writes = all.1 }

pub table_nodes-count-requires : goal.table_nodes-count-requires
table_nodes-count-requires c =
    let a = c.args in
    let R = in-range a.seed a.branching a.depth a.dice (fair c) in
    rw (branching-is (goal.at.After-unsigned_abs-plays c).After-unsigned_abs, depth-is c) (R.most, R.shallow)

pub returns-then-count-gt1024 : goal.returns-then-count-gt1024
returns-then-count-gt1024 c =
    let C = (goal.at.returns-then-count-gt1024 c).After-table_nodes-count in
    let a = c.args in
    let all = many a.seed a.branching a.depth a.dice (fair (goal.at.After-table_nodes-count C).After-unsigned_abs-plays) a.buffer.now (omega (arith, count-is C, c.if-count-gt1024.true)) in
    record { answers = all.0; writes = all.1 }

pub returns-then-buffer-long : goal.returns-then-buffer-long
returns-then-buffer-long c =
    let C = (goal.at.returns-then-buffer-long c).After-table_nodes-count in
    let a = c.args in
    let all = short a.seed a.branching a.depth a.dice (fair (goal.at.After-table_nodes-count C).After-unsigned_abs-plays) (omega (arith, count-is C, c.if-count-gt1024.false)) a.buffer.now (omega (arith, count-is C, c.if-buffer-long.true)) in
    record { answers = all.0; writes = all.1 }

-- where the table is written
module _ (Z : After-unsigned_abs-2) where
  abbrev counted : After-table_nodes-count
  counted = (goal.at.After-unsigned_abs-2 Z).After-table_nodes-count

  abbrev plays : After-unsigned_abs-plays
  plays = (goal.at.After-table_nodes-count counted).After-unsigned_abs-plays

  abbrev branching : After-unsigned_abs
  branching = (goal.at.After-unsigned_abs-plays plays).After-unsigned_abs

  abbrev start : Start
  start = (goal.at.After-unsigned_abs-plays plays).Start

pub write_table-requires : goal.write_table-requires
write_table-requires c =
    let Z = (goal.at.write_table-requires c).After-unsigned_abs-2 in
    let a = c.args in
    let n = count-is (counted Z) in
    rw (seed-is Z, branching-is (branching Z), depth-is (plays Z), dice-is (start Z), n)
    (ready a.seed a.branching a.depth a.dice (fair (plays Z)) (omega (arith, n, c.if-count-gt1024.false)) (length a.buffer.now) (omega (arith, n, c.if-buffer-long.false)))

pub returns : goal.returns
returns c =
    let Z = (goal.at.returns c).After-unsigned_abs-2 in
    let a = c.args in
    let n = count-is (counted Z) in
    let D = done a.seed a.branching a.depth a.dice (fair (plays Z)) (omega (arith, n, c.if-count-gt1024.false)) a.buffer.now (omega (arith, n, c.if-buffer-long.false)) in
    record {
      answers = rw n D.0;
      writes = c.write_table.ensures ∙ rw (branching-is (branching Z), dice-is (start Z), seed-is Z, depth-is (plays Z)) D.1;
    }
