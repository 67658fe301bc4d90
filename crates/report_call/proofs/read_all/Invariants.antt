-- `report_call::read_all` meets its contract.
use Prim.Native.Nat.{◌-◌}
use lib.ListN.{length}
use Rattle.report_call.proofs.Going.{Going}
use Rattle.report_call.proofs.read_all.Given as goal

abbrev pub invariant-loop-reader : goal.invariant-loop-reader
invariant-loop-reader l = Going l.file l.scale l.initial.kinds l.initial.losses l.initial.marks l.kinds l.losses l.marks l.t l.reader.file.now l.reader.at

abbrev pub decreases-loop-reader : goal.decreases-loop-reader
decreases-loop-reader l = length l.file - l.reader.at
