-- `scoring::position_of` meets its contract.
use Rattle.std.proofs.lemmas.Result.{err_from_is_err_and}
use Rattle.std.proofs.Common.{Err, Ok, Result}
use Rattle.line.specs.declared.Refusal.{Refusal}
use Prim.Native.Nat.{ℕ, ◌+◌, ◌-◌, ◌*◌, ◌≤◌}
use mathlib.Core.Path.{◌≡◌, sym, ap, ap₂, ◌∙◌}
use mathlib.Core.Bool.{false}
use mathlib.Core.List.{List}
use native.Mathlib.Omega.{arith}
use lib.ListN.{length, take, drop}
use lib.IntN.{ℤ}
use mir.Syntax.{w64}
use mir.Val.{to_z, of_z}
use Rattle.line.specs.Refusal.{fine}
use Rattle.field.specs.Field.{field_of}
use Rattle.line.specs.Line.{value_of}
use Rattle.report.specs.Report.{nodes_in, size_of, bad_start, scored}
use Rattle.report.specs.Files.{head_is}
use Rattle.report.proofs.Cases.{start-stops, long-enough, head-stops, lines-missing, lines-there, nodes-range}
use Rattle.scoring.specs.Inside.{count_shown, said}
use borrow.Author.Rules.{rules}
use Rattle.scoring.proofs.position_of.Goals as goal
use Rattle.scoring.proofs.position_of.Goals.{After-count_nodes, After-is_bad_start, Else-is_bad_start, Else-s-size, In_ok-n}

abbrev part : After-is_bad_start → List ℕ
part c = c.args.s.now

well : (c : Else-is_bad_start) → bad_start (part (goal.at.Else-is_bad_start c).After-is_bad_start) ≡ false
well c = sym c.is_bad_start.ensures ∙ c.if-is_bad_start.false

long : (c : Else-is_bad_start) → 30 ≤ length (part (goal.at.Else-is_bad_start c).After-is_bad_start)
long c = long-enough (part (goal.at.Else-is_bad_start c).After-is_bad_start) (well c)

-- what the header gives
counts : (c : After-count_nodes) (r : Result ℕ Refusal) → c.count_nodes.result ≡ r → head_is (part (goal.at.After-count_nodes c).After-is_bad_start) ≡ count_shown r
counts c r e = sym c.count_nodes.ensures ∙ ap count_shown e

-- where it gives a number of nodes
abbrev counted : In_ok-n → After-count_nodes
counted c = (goal.at.In_ok-n c).After-count_nodes

abbrev nodes : In_ok-n → ℕ
nodes c = c.in_ok-n.n

is-nodes : (c : In_ok-n) → head_is (part (goal.at.In_ok-n c).After-is_bad_start) ≡ fine (nodes c)
is-nodes c = counts (counted c) (Ok (nodes c)) c.in_ok-n.was

few : (c : In_ok-n) → nodes c ≤ 1024
few c = (nodes-range (part (goal.at.In_ok-n c).After-is_bad_start) (nodes c) (is-nodes c)).2

-- the number of bytes that the position takes
size_is : (c : In_ok-n) → size_of (part (goal.at.In_ok-n c).After-is_bad_start) ≡ 30 + 25 * nodes c
size_is c = ap (λ (n : ℕ). 30 + 25 * n) (nodes-range (part (goal.at.In_ok-n c).After-is_bad_start) (nodes c) (is-nodes c)).0

pub returns-then-is_bad_start : goal.returns-then-is_bad_start
returns-then-is_bad_start c = sym (ap (said (size_of (part (goal.at.returns-then-is_bad_start c).After-is_bad_start))) (start-stops (part (goal.at.returns-then-is_bad_start c).After-is_bad_start) (sym c.is_bad_start.ensures ∙ c.if-is_bad_start.true)))

pub slice_bounds-count_nodes-end : goal.slice_bounds-count_nodes-end
slice_bounds-count_nodes-end c = long c

pub overflow_mul-size : goal.overflow_mul-size
overflow_mul-size c = record { fits = omega (arith, few c) }

pub overflow_add-size : goal.overflow_add-size
overflow_add-size c = record { fits = omega (arith, few c) }

pub returns-then-s-size : goal.returns-then-s-size
returns-then-s-size c =
    let E = (goal.at.returns-then-s-size c).Else-is_bad_start in
    sym (ap (said (size_of (part (goal.at.returns-then-s-size c).After-is_bad_start))) (lines-missing (part (goal.at.returns-then-s-size c).After-is_bad_start) (well E) (nodes (goal.at.returns-then-s-size c).In_ok-n) (is-nodes (goal.at.returns-then-s-size c).In_ok-n) (omega (arith, c.if-s-size.true, size_is (goal.at.returns-then-s-size c).In_ok-n))))

pub returns-in_err-n : goal.returns-in_err-n
returns-in_err-n c =
    let r = c.in_err-n in
    let p = err_from_is_err_and c.from_residual.result c.from_residual.ensures.1 in
    rw (p.1, p.2) (sym (ap (said (size_of (part (goal.at.returns-in_err-n c).After-is_bad_start))) (head-stops (part (goal.at.returns-in_err-n c).After-is_bad_start) (well (goal.at.returns-in_err-n c).Else-is_bad_start) r.field-0.0 (counts (goal.at.returns-in_err-n c).After-count_nodes (Err r.field-0.0) r.was))))

pub returns : goal.returns
returns c =
    let F = (goal.at.returns c).Else-s-size in
    let E = (goal.at.returns c).Else-is_bad_start in
    let s = part (goal.at.returns c).After-is_bad_start in
    let z = c.value in
    let back : to_z w64 (of_z w64 z.result) ≡ z.result = search rules in
    let n : ℕ = nodes (goal.at.returns c).In_ok-n in
    let p = (nodes-range s n (is-nodes (goal.at.returns c).In_ok-n)).0 in
    let m : 30 + 25 * n - 5 ≡ 25 + 25 * nodes_in s = omega (arith, p) in
    c.score.ensures
    ∙ ap₂ (λ (i : ℤ) (k : ℕ). said (30 + 25 * n) (scored i (take k (drop 5 s)))) (back ∙ z.ensures ∙ ap value_of c.read.ensures) m
    ∙ ap (λ (k : ℕ). said k (scored (value_of (field_of s 0 4)) (take (25 + 25 * nodes_in s) (drop 5 s)))) (sym (size_is (goal.at.returns c).In_ok-n))
    ∙ sym (ap (said (size_of s)) (lines-there s (well E) n (is-nodes (goal.at.returns c).In_ok-n) (omega (arith, F.if-s-size.false, size_is (goal.at.returns c).In_ok-n))))
