-- `abi::margin_search` meets its contract.
use Rattle.std.proofs.Common.{Result}
use Rattle.search_call.specs.declared.Bounds.{Bounds}
use Rattle.line.specs.declared.Refusal.{Refusal}
use Prim.Native.Nat.{ℕ}
use mathlib.Core.Path.{◌≡◌, ap, ◌∙◌}
use mathlib.Core.List.{List}
use lib.IntN.{ℤ, pos}
use lib.ListN.{length}
use mir.Syntax.{w64}
use mir.Val.{to_z, of_z}
use mir.ValLaws.{to_z-of_z}
use Rattle.table.specs.Slices.{laid}
use Rattle.table.specs.Table.{read_text}
use Rattle.search_call.specs.Call.{search_call, search_reads, within_call, within_reads}
use Rattle.search_call.proofs.Answered.{default-call, default-reads}
use Rattle.codes.specs.Numbers.{search_code, search_numbers, put}
use Rattle.abi.proofs.margin_search.Goals as goal

pub returns : goal.returns
returns c =
    let text : List ℕ = c.args.text.now in
    let list : List ℕ = c.args.leaves.now in
    let m : ℤ = c.args.margin in
    -- the margin is handed on as bits
    let back : to_z w64 (of_z w64 m) ≡ m = to_z-of_z w64 m c.ranges.margin in
    let said : within_call (read_text text) (to_z w64 (of_z w64 m)) (pos 1024) (length list) ≡ search_call (read_text text) m (length list) =
    ap (λ (z : ℤ). within_call (read_text text) z (pos 1024) (length list)) back ∙ default-call text m (length list) in
    let listed : within_reads (read_text text) (to_z w64 (of_z w64 m)) (pos 1024) (length list) ≡ search_reads (read_text text) m (length list) =
    ap (λ (z : ℤ). within_reads (read_text text) z (pos 1024) (length list)) back ∙ default-reads text m (length list) in
    let E = c.margin_search_within.ensures in record { code = E.code ∙ ap search_code said; numbers = E.numbers ∙ ap (λ (x : Result Bounds Refusal). put 0 (search_numbers x) c.args.numbers.now) said; lists = E.lists ∙ ap (λ (l : List ℕ). laid l list) listed }
