-- `printing::print_search` meets its contract.
use Rattle.std.proofs.Common.{◌≡◌, ℕ, ℤ, List, ◌++◌, map, take, length, replicate, sym, ap, ◌∙◌, arith, w64, to_z, of_z, length-take}
use Rattle.std.proofs.lemmas.Int.{to_z-of_z}
use Rattle.table.specs.Table.{read_text}
use Rattle.search_call.specs.Call.{sought}
use Rattle.printing.specs.Program.{printed, leaf_row, rows_of}
use Rattle.printing.specs.Inside.{bound_rows}
use Rattle.printing.proofs.Rows.{printed-append}
use Rattle.printing.proofs.Sizes.{bounds-size}
use Rattle.printing.proofs.Found.{refused-low, found_lined, found-narrow, found-rows}
use Rattle.printing.proofs.print_search.Goals as goal

-- a number, as it is handed on
abbrev handed : ℤ → ℤ
handed z = to_z w64 (of_z w64 z)

pub put_refusal-requires : goal.put_refusal-requires
put_refusal-requires c =
    (c.requires, refused-low c.args.table.now (handed c.args.margin) 1024 c.in-Err.r c.in-Err.ensures.answers)

pub play_marks-requires : goal.play_marks-requires
play_marks-requires c = found_lined c.args.table.now (handed c.args.margin) 1024 c.in-Ok.b c.in-Ok.ensures.answers

pub put_bounds-requires : goal.put_bounds-requires
put_bounds-requires c =
    let narrow = found-narrow c.args.table.now (handed c.args.margin) 1024 c.in-Ok.b c.in-Ok.ensures.answers in
    (c.requires, narrow c.play_marks.result c.play_marks.ensures)

pub put_leaves-requires : goal.put_leaves-requires
put_leaves-requires c =
    let k : ℕ = c.play_marks.result in
    let narrow = found-narrow c.args.table.now (handed c.args.margin) 1024 c.in-Ok.b c.in-Ok.ensures.answers k c.play_marks.ensures in
    let size : length c.put_bounds.new.page ≡ 110 = ap length c.put_bounds.ensures ∙ bounds-size c.in-Ok.b k narrow in
    omega (arith, size, narrow.leaves, length-take {A = ℕ})

pub returns-in-Ok : goal.returns-in-Ok
returns-in-Ok c =
    let table : List ℕ = c.args.table.now in
    let k : ℕ = c.play_marks.result in
    let leaves : List ℕ = take c.in-Ok.b.leaves c.search_table.new.leaves in
    c.put_leaves.ensures
    ∙ ap (λ (l : List ℕ). l ++ printed (map leaf_row leaves)) c.put_bounds.ensures
    ∙ sym (printed-append (bound_rows c.in-Ok.b k) (map leaf_row leaves))
    ∙ ap (λ (l : List ℕ). printed (bound_rows c.in-Ok.b k ++ map leaf_row (take c.in-Ok.b.leaves l))) c.in-Ok.ensures.lists
    ∙ ap printed (found-rows table (handed c.args.margin) 1024 c.in-Ok.b c.in-Ok.ensures.answers k c.play_marks.ensures (replicate 1024 0))
    ∙ ap (λ (z : ℤ). printed (rows_of (sought (read_text table) z 1024))) (to_z-of_z w64 c.args.margin c.ranges.margin)
