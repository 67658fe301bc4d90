-- `printing::put_leaves` meets its contract.
use Rattle.std.proofs.Common.{arith, ℕ, pos, ap, ◌++◌, ◌∙◌, sym, append-nil}
use Rattle.printing.specs.Program.{Leaf, columns, row_of, printed}
use Rattle.printing.proofs.Rows.{leaf-more}
use Rattle.printing.proofs.put_leaves.Goals as goal

pub loop-node-init : goal.loop-node-init
unfolding printed
loop-node-init c = (sym (append-nil c.args.page.now), omega arith)

pub loop-node-preserved : goal.loop-node-preserved
loop-node-preserved c =
    let i = c.loop-node.node-index in (
      leaf-more c.args.page.now c.loop-node.page c.put_count.new.self c.args.leaves.now i (omega arith) c.loop-node.invariant.0
          (c.put_count.ensures.bytes ∙ ap (λ (n : ℕ). c.loop-node.page ++ row_of (columns Leaf) (pos n)) c.from.ensures),
      omega arith,
    )
