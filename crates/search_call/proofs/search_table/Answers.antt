-- `search_call::search_table` meets its contract.
use Prim.Native.Nat.{ℕ}
use mathlib.Core.Path.{ap, ◌∙◌}
use mathlib.Core.List.{List}
use lib.ListN.{length}
use lib.IntN.{ℤ, pos}
use mir.Syntax.{w64}
use mir.ValLaws.{to_z-of_z}
use Rattle.table.specs.Table.{read_text}
use Rattle.table.specs.Slices.{laid}
use Rattle.search_call.specs.Call.{within_call, within_reads}
use Rattle.search_call.proofs.Answered.{default-call, default-reads}
use Rattle.search_call.proofs.search_table.Goals as goal

pub returns : goal.returns
returns c =
    let W = c.search_within in
    let text : List ℕ = c.args.text.now in
    let came : List ℕ = c.args.leaves.now in
    let m = to_z-of_z w64 c.args.margin c.ranges.margin in record {
      answers = W.ensures.answers ∙ ap (λ (z : ℤ). within_call (read_text text) z (pos 1024) (length came)) m ∙ default-call text c.args.margin (length came);
      lists = W.ensures.lists
          ∙ ap (λ (z : ℤ). laid (within_reads (read_text text) z (pos 1024) (length came)) came) m
          ∙ ap (λ (l : List ℕ). laid l came) (default-reads text c.args.margin (length came));
    }
