-- `abi::margin_search_within` meets its contract.
use Rattle.std.proofs.Common.{Result}
use Rattle.search_call.specs.declared.Bounds.{Bounds}
use Rattle.line.specs.declared.Refusal.{Refusal}
use mathlib.Core.Path.{◌≡◌, sym, ap, ap₂, subst, ◌∙◌}
use mathlib.Core.List.{List}
use Prim.Native.Nat.{ℕ}
use lib.IntN.{ℤ}
use lib.ListN.{length}
use mir.Syntax.{w64}
use mir.Val.{to_z, of_z}
use mir.ValLaws.{to_z-of_z}
use Rattle.table.specs.Slices.{laid}
use Rattle.table.specs.Table.{read_text}
use Rattle.search_call.specs.Call.{within_call, within_reads}
use Rattle.codes.specs.Numbers.{search_code, search_numbers, put}
use Rattle.codes.specs.Inside.{SmallBounded}
use Rattle.abi.proofs.Answers.{within-small}
use Rattle.abi.proofs.margin_search_within.Goals as goal
use Rattle.abi.proofs.margin_search_within.Goals.{After-search_within, Start}

abbrev start_of : After-search_within → Start
start_of E = (goal.at.After-search_within E).Start

abbrev text_of : After-search_within → List ℕ
text_of E = (start_of E).args.text.now

abbrev list_of : After-search_within → List ℕ
list_of E = (start_of E).args.leaves.now

-- the margin and the budget are handed on as bits
back : (s : Start) → to_z w64 (of_z w64 s.args.margin) ≡ s.args.margin
back s = to_z-of_z w64 s.args.margin s.ranges.margin

budget-back : (s : Start) → to_z w64 (of_z w64 s.args.budget) ≡ s.args.budget
budget-back s = to_z-of_z w64 s.args.budget s.ranges.budget

said : (E : After-search_within) → E.search_within.result ≡ within_call (read_text (text_of E)) (start_of E).args.margin (start_of E).args.budget (length (list_of E))
said E = E.search_within.ensures.answers ∙ ap₂ (λ (m b : ℤ). within_call (read_text (text_of E)) m b (length (list_of E))) (back (start_of E)) (budget-back (start_of E))

pub put_bounded-requires : goal.put_bounded-requires
put_bounded-requires c =
    subst SmallBounded (sym (said (goal.at.put_bounded-requires c).After-search_within)) (within-small (text_of (goal.at.put_bounded-requires c).After-search_within) (start_of (goal.at.put_bounded-requires c).After-search_within).args.margin (start_of (goal.at.put_bounded-requires c).After-search_within).args.budget (length (list_of (goal.at.put_bounded-requires c).After-search_within)))

pub returns : goal.returns
returns c =
    record { code = c.put_bounded.ensures.code ∙ ap search_code (said (goal.at.returns c).After-search_within); numbers = c.put_bounded.ensures.numbers ∙ ap (λ (x : Result Bounds Refusal). put 0 (search_numbers x) (start_of (goal.at.returns c).After-search_within).args.numbers.now) (said (goal.at.returns c).After-search_within); lists = c.search_within.ensures.lists ∙ ap₂ (λ (m b : ℤ). laid (within_reads (read_text (text_of (goal.at.returns c).After-search_within)) m b (length (list_of (goal.at.returns c).After-search_within))) (list_of (goal.at.returns c).After-search_within)) (back (start_of (goal.at.returns c).After-search_within)) (budget-back (start_of (goal.at.returns c).After-search_within)) }
