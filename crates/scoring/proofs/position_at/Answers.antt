-- `scoring::position_at` meets its contract.
use Prim.Native.Nat.{ℕ}
use mathlib.Core.Path.{sym, ap}
use mathlib.Core.List.{List}
use native.Mathlib.Omega.{arith}
use lib.ListN.{drop, length-drop}
use Rattle.report.specs.Report.{size_of}
use Rattle.report.proofs.Cases.{start-stops}
use Rattle.scoring.specs.Inside.{said}
use Rattle.scoring.proofs.Claims.{play-short}
use Rattle.scoring.proofs.position_at.Goals as goal

pub returns-then-file-at : goal.returns-then-file-at
returns-then-file-at c =
    let a = c.args in
    let rest : List ℕ = drop a.at a.file.now in
    sym (ap (said (size_of rest)) (start-stops rest (sym (play-short rest (omega (arith, length-drop a.at a.file.now, c.if-file-at.true))))))
