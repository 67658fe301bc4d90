-- `abi::margin_search_indexed` meets its contract.
use Rattle.std.proofs.Common.{Result}
use Rattle.search_call.specs.declared.Bounds.{Bounds}
use Rattle.line.specs.declared.Refusal.{Refusal}
use Prim.Native.Nat.{ℕ}
use mathlib.Core.Path.{◌≡◌, sym, ap, subst, ◌∙◌}
use mathlib.Core.List.{List}
use lib.IntN.{ℤ}
use lib.ListN.{length}
use mir.Syntax.{w64}
use mir.Val.{to_z, of_z}
use mir.ValLaws.{to_z-of_z}
use Rattle.table.specs.Slices.{laid}
use Rattle.table.specs.Table.{read_text}
use Rattle.index_call.specs.Call.{indexed_call, indexed_reads}
use Rattle.codes.specs.Numbers.{search_code, search_numbers, put}
use Rattle.codes.specs.Inside.{SmallBounded}
use Rattle.abi.proofs.Answers.{indexed-small}
use Rattle.abi.proofs.margin_search_indexed.Goals as goal
use Rattle.abi.proofs.margin_search_indexed.Goals.{After-search_indexed, Start}

abbrev start_of : After-search_indexed → Start
start_of E = (goal.at.After-search_indexed E).Start

abbrev text_of : After-search_indexed → List ℕ
text_of E = (start_of E).args.text.now

abbrev lows-of : After-search_indexed → List ℤ
lows-of E = (start_of E).args.lows.now

abbrev highs-of : After-search_indexed → List ℤ
highs-of E = (start_of E).args.highs.now

abbrev list_of : After-search_indexed → List ℕ
list_of E = (start_of E).args.leaves.now

-- the margin is handed on as bits
back : (s : Start) → to_z w64 (of_z w64 s.args.margin) ≡ s.args.margin
back s = to_z-of_z w64 s.args.margin s.ranges.margin

said : (E : After-search_indexed)
    → E.search_indexed.result ≡ indexed_call (read_text (text_of E)) (start_of E).args.margin (lows-of E) (highs-of E) (length (list_of E))
said E = E.search_indexed.ensures.answers ∙ ap (λ (m : ℤ). indexed_call (read_text (text_of E)) m (lows-of E) (highs-of E) (length (list_of E))) (back (start_of E))

pub put_bounded-requires : goal.put_bounded-requires
put_bounded-requires c =
    subst SmallBounded (sym (said (goal.at.put_bounded-requires c).After-search_indexed)) (indexed-small (text_of (goal.at.put_bounded-requires c).After-search_indexed) (start_of (goal.at.put_bounded-requires c).After-search_indexed).args.margin (lows-of (goal.at.put_bounded-requires c).After-search_indexed) (highs-of (goal.at.put_bounded-requires c).After-search_indexed) (length (list_of (goal.at.put_bounded-requires c).After-search_indexed)))

pub returns : goal.returns
returns c =
    record { code = c.put_bounded.ensures.code ∙ ap search_code (said (goal.at.returns c).After-search_indexed); numbers = c.put_bounded.ensures.numbers ∙ ap (λ (x : Result Bounds Refusal). put 0 (search_numbers x) (start_of (goal.at.returns c).After-search_indexed).args.numbers.now) (said (goal.at.returns c).After-search_indexed); lists = c.search_indexed.ensures.lists ∙ ap (λ (m : ℤ). laid (indexed_reads (read_text (text_of (goal.at.returns c).After-search_indexed)) m (lows-of (goal.at.returns c).After-search_indexed) (highs-of (goal.at.returns c).After-search_indexed) (length (list_of (goal.at.returns c).After-search_indexed))) (list_of (goal.at.returns c).After-search_indexed)) (back (start_of (goal.at.returns c).After-search_indexed)) }
