-- `scoring::count_nodes` meets its contract.
use Rattle.std.proofs.lemmas.Result.{err_from_is_err_and}
use Rattle.std.proofs.Common.{Err, Ok, Result}
use Rattle.line.specs.declared.Head.{Head}
use Rattle.line.specs.declared.Refusal.{Refusal}
use Prim.Native.Nat.{ℕ}
use mathlib.Core.Path.{◌≡◌, sym, ap, ◌∙◌}
use mathlib.Core.List.{List}
use Rattle.field.specs.Field.{field_of}
use Rattle.line.specs.Line.{count_of, heading_of, header}
use Rattle.parsing.specs.Inside.{head_shown}
use Rattle.line.specs.Refusal.{unless}
use Rattle.report.specs.Report.{head_checks}
use Rattle.scoring.specs.Inside.{claim_of}
use Rattle.scoring.proofs.Claims.{retold, nodes-told}
use Rattle.scoring.proofs.count_nodes.Goals as goal
use Rattle.scoring.proofs.count_nodes.Goals.{After-header}

abbrev line_of : After-header → List ℕ
line_of H = H.args.line.now

claimed : (H : After-header) → H.claim-n.result ≡ claim_of (field_of (line_of H) 0 4)
claimed H = H.claim-n.ensures ∙ ap claim_of H.read.ensures

-- the header's answer, retold
told : (H : After-header) (r : Result Head Refusal) → H.header.result ≡ r → retold H.claim-n.result (head_shown r) ≡ unless (head_checks (line_of H)) (count_of (heading_of (line_of H)).count)
told H r e =
    ap (λ (x : Result Head Refusal). retold H.claim-n.result (head_shown x)) (sym e)
    ∙ ap (retold H.claim-n.result) H.header.ensures
    ∙ ap (λ (n : ℕ). retold n (header n (line_of H))) (claimed H)
    ∙ nodes-told (line_of H)

pub returns-in_err-header : goal.returns-in_err-header
returns-in_err-header c =
    let p = err_from_is_err_and c.from_residual.result c.from_residual.ensures.1 in
    rw (p.1, p.2) (told (goal.at.returns-in_err-header c).After-header (Err c.in_err-header.field-0.0) c.in_err-header.was)

pub returns : goal.returns
returns c = told (goal.at.returns c).After-header (Ok c.in_ok-header.field-0) c.in_ok-header.was
