-- The lines of the leaves so far are printed.
use Rattle.std.proofs.Common.{◌≡◌, ◌+◌, ◌*◌, ◌++◌, map, length, take}
use Rattle.printing.specs.Program.{printed, leaf_row}
use Rattle.printing.proofs.put_leaves.Given as goal

abbrev pub invariant-loop-node : goal.invariant-loop-node
invariant-loop-node l = (l.page ≡ l.initial.page ++ printed (map leaf_row (take l.node-index l.leaves))) × (length l.page ≡ length l.initial.page + 22 * l.node-index)
