-- `search_call::search_within` meets its contract.
use Rattle.std.proofs.lemmas.Result.{err_from_is_err_and}
use Rattle.std.proofs.Common.{Err}
use Prim.Native.Nat.{ℕ}
use mathlib.Core.Path.{◌≡◌, sym, ap, ◌∙◌}
use mathlib.Core.Bool.{false}
use mathlib.Core.List.{List}
use lib.ListN.{length}
use lib.IntN.{ℤ}
use mir.Syntax.{w64}
use mir.ValLaws.{to_z-of_z}
use Rattle.line.specs.declared.Refusal.{Refusal}
use Rattle.line.specs.declared.Refusal.TheVariants.{NoRoom, BadMargin, BadBudget}
use Rattle.line.specs.Refusal.{Verdict, refused}
use Rattle.table.specs.declared.Summary.{Summary}
use Rattle.table.specs.Nodes.{kinds_in, stops_in, weights_in, heights_in}
use Rattle.table.specs.Slices.{laid}
use Rattle.table.specs.Table.{Table, read_text}
use Rattle.scale.proofs.Taken.{Taken, refused-by, taken-by}
use Rattle.search_call.specs.Call.{bad_margin, bad_budget, Sought, sought_within, search_answer, search_list, within_call, within_reads}
use Rattle.search_call.proofs.Call.{bad-margin, bad-budget, no_room}
use Rattle.search_call.proofs.search_within.Goals as goal
use Rattle.search_call.proofs.search_within.Goals.{After-decode, After-is_beyond, After-is_beyond-2, After-search_decoded-arg-1, Else-is_beyond, Else-is_beyond-2, Else-leaves-t, In_ok-t, Start}

abbrev start_of : After-decode → Start
start_of R = (goal.at.After-decode R).Start

abbrev text_of : After-decode → List ℕ
text_of R = (start_of R).args.text.now

abbrev margin-of : After-decode → ℤ
margin-of R = (start_of R).args.margin

abbrev budget-of : After-decode → ℤ
budget-of R = (start_of R).args.budget

abbrev list_of : After-decode → List ℕ
list_of R = (start_of R).args.leaves.now

-- the reading refused x
refused-at : (R : After-decode) (x : Refusal) → R.decode.result ≡ Err x → read_text (text_of R) ≡ refused x
refused-at R x e =
    refused-by (text_of R) R.decode.result x (kinds_in R.decode.new.nodes) (stops_in R.decode.new.nodes) (weights_in R.decode.new.nodes) (heights_in R.decode.new.nodes) R.decode.ensures e

-- at an accepted table: the reading, the summary, and what is left
abbrev read_of : In_ok-t → After-decode
read_of c = (goal.at.In_ok-t c).After-decode

abbrev summary-of : In_ok-t → Summary
summary-of c = c.in_ok-t.t

taken : (c : In_ok-t)
    → Taken (text_of (read_of c)) (summary-of c) (kinds_in (read_of c).decode.new.nodes) (stops_in (read_of c).decode.new.nodes) (weights_in (read_of c).decode.new.nodes) (heights_in (read_of c).decode.new.nodes)
taken c = taken-by (text_of (read_of c)) (read_of c).decode.ensures c.in_ok-t.was

-- the test of the margin is the definition's
tested : (c : After-is_beyond) → c.is_beyond.result ≡ bad_margin (margin-of (goal.at.After-is_beyond c).After-decode)
tested c =
    let S = start_of (goal.at.After-is_beyond c).After-decode in
    c.is_beyond.ensures ∙ ap bad_margin (to_z-of_z w64 S.args.margin S.ranges.margin)

-- and that of the budget
counted : (c : After-is_beyond-2) → c.is_beyond-2.result ≡ bad_budget (budget-of (goal.at.After-is_beyond-2 c).After-decode)
counted c =
    let S = start_of (goal.at.After-is_beyond-2 c).After-decode in
    c.is_beyond-2.ensures ∙ ap bad_budget (to_z-of_z w64 S.args.budget S.ranges.budget)

-- the refusals, and what is then in the list
refusing : (R : After-decode) (v : Verdict Sought) → sought_within (read_text (text_of R)) (margin-of R) (budget-of R) (length (list_of R)) ≡ v
    → (search_answer v ≡ within_call (read_text (text_of R)) (margin-of R) (budget-of R) (length (list_of R)))
    × (laid (search_list v) (list_of R) ≡ laid (within_reads (read_text (text_of R)) (margin-of R) (budget-of R) (length (list_of R))) (list_of R))
refusing R v e = (sym (ap search_answer e), sym (ap (λ (x : Verdict Sought). laid (search_list x) (list_of R)) e))

pub returns-then-is_beyond : goal.returns-then-is_beyond
returns-then-is_beyond c = let all = let R = read_of (goal.at.returns-then-is_beyond c).In_ok-t in
    refusing R (refused BadMargin) (bad-margin (taken (goal.at.returns-then-is_beyond c).In_ok-t) (margin-of R) (budget-of R) (length (list_of R)) (sym (tested (goal.at.returns-then-is_beyond c).After-is_beyond) ∙ c.if-is_beyond.true)) in record { answers = all.0; lists = all.1 }

-- past the first refusal, and past the second
good-margin : (E : Else-is_beyond) → bad_margin (margin-of (goal.at.Else-is_beyond E).After-decode) ≡ false
good-margin E = sym (tested (goal.at.Else-is_beyond E).After-is_beyond) ∙ E.if-is_beyond.false

good-budget : (E : Else-is_beyond-2) → bad_budget (budget-of (goal.at.Else-is_beyond-2 E).After-decode) ≡ false
good-budget E = sym (counted (goal.at.Else-is_beyond-2 E).After-is_beyond-2) ∙ E.if-is_beyond-2.false

pub returns-then-is_beyond-2 : goal.returns-then-is_beyond-2
returns-then-is_beyond-2 c = let all = let R = read_of (goal.at.returns-then-is_beyond-2 c).In_ok-t in
    refusing R (refused BadBudget) (bad-budget (taken (goal.at.returns-then-is_beyond-2 c).In_ok-t) (margin-of R) (budget-of R) (length (list_of R)) (good-margin (goal.at.returns-then-is_beyond-2 c).Else-is_beyond) (sym (counted (goal.at.returns-then-is_beyond-2 c).After-is_beyond-2) ∙ c.if-is_beyond-2.true)) in record { answers = all.0; lists = all.1 }

pub returns-then-leaves-t : goal.returns-then-leaves-t
returns-then-leaves-t c = let all = let R = read_of (goal.at.returns-then-leaves-t c).In_ok-t in
    refusing R (refused NoRoom)
    (no_room (taken (goal.at.returns-then-leaves-t c).In_ok-t) (margin-of R) (budget-of R) (length (list_of R)) (good-margin (goal.at.returns-then-leaves-t c).Else-is_beyond) (good-budget (goal.at.returns-then-leaves-t c).Else-is_beyond-2) c.if-leaves-t.true) in record { answers = all.0; lists = all.1 }

-- ---- where the search is called: at an accepted table, an accepted margin, an accepted budget and a list that is long enough
abbrev room_of : After-search_decoded-arg-1 → Else-leaves-t
room_of c = (goal.at.After-search_decoded-arg-1 c).Else-leaves-t

abbrev budgeted-of : After-search_decoded-arg-1 → Else-is_beyond-2
budgeted-of c = (goal.at.After-search_decoded-arg-1 c).Else-is_beyond-2

abbrev known_of : After-search_decoded-arg-1 → In_ok-t
known_of c = (goal.at.After-search_decoded-arg-1 c).In_ok-t

pub search_decoded-requires : goal.search_decoded-requires
search_decoded-requires c =
    let K = known_of c in
    let S = start_of (read_of K) in
    rw (to_z-of_z w64 S.args.margin S.ranges.margin, to_z-of_z w64 S.args.budget S.ranges.budget)
    (record {
      text = text_of (read_of K);
      taken = taken K;
      margin = good-margin (goal.at.search_decoded-requires c).Else-is_beyond;
      budget = good-budget (budgeted-of c);
      long = (room_of c).if-leaves-t.false;
    })

pub returns-in_err-t : goal.returns-in_err-t
returns-in_err-t c =
    let r = c.in_err-t in
    let v = refused-at (goal.at.returns-in_err-t c).After-decode r.field-0.0 r.was in
    let p = err_from_is_err_and c.from_residual.result c.from_residual.ensures.1 in
    let all = refusing (goal.at.returns-in_err-t c).After-decode (refused r.field-0.0) (ap (λ (v : Verdict Table). sought_within v (margin-of (goal.at.returns-in_err-t c).After-decode) (budget-of (goal.at.returns-in_err-t c).After-decode) (length (list_of (goal.at.returns-in_err-t c).After-decode))) v) in rw (p.1, p.2) record { answers = all.0; lists = all.1 }

pub returns : goal.returns
returns c = let all = let K = known_of (goal.at.returns c).After-search_decoded-arg-1 in
    let S = start_of (read_of K) in
    rw (to_z-of_z w64 S.args.margin S.ranges.margin, to_z-of_z w64 S.args.budget S.ranges.budget) at
    (c.search_decoded.ensures (text_of (read_of K)) (taken K)) in record { answers = all.0; lists = all.1 }
