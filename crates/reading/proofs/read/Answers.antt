-- `reading::read` meets its contract.
use mathlib.Core.Path.{◌≡◌, sym, ap, ◌∙◌}
use Rattle.std.proofs.lemmas.Result.{err_from_is_err_and}
use Rattle.std.proofs.Common.{rules, Ok}
use Rattle.line.specs.Refusal.{refused}
use Rattle.table.specs.declared.Node.{Node}
use Rattle.line.specs.Line.{code}
use Rattle.table.specs.Table.{read_text, answer}
use Rattle.table.specs.Slices.{kinds_of, stops_of, weights_of, heights_of}
use Rattle.table.specs.Nodes.{kinds_in, stops_in, weights_in, heights_in}
use Rattle.table.proofs.Top.{unchanged}
use Rattle.reading.proofs.Top.{Accepts, decoded-accepted, decoded-refusal, nodes-long, column-kept}
use Rattle.reading.proofs.read.Goals as goal
use Rattle.reading.proofs.read.Goals.{In_ok-t}

pub returns-in_err-t : goal.returns-in_err-t
returns-in_err-t c =
    let v = read_text c.args.text.now in
    let r = c.in_err-t.field-0.0 in
    let p = err_from_is_err_and c.from_residual.result c.from_residual.ensures.1 in
    let e : v ≡ refused r = decoded-refusal v r _ _ _ _ _ _ _ _ c.in_err-t.ensures in
    rw (p.1, p.2) record { answers = sym (ap answer e); kinds = unchanged kinds_of v r _ e; stops = unchanged stops_of v r _ e; weights = unchanged weights_of v r _ e; heights = unchanged heights_of v r _ e }

pub returns : goal.returns
returns c =
    let v = read_text c.args.text.now in
    let t = c.in_ok-t.t in
    let ns = c.decode.new.nodes in
    let A : Accepts v t (kinds_in ns) (stops_in ns) (weights_in ns) (heights_in ns) = decoded-accepted v t _ _ _ _ _ _ _ _ c.in_ok-t.ensures in
    let n = nodes-long v t _ _ _ _ A in
    record {
      answers = ap Ok A.numbers ∙ sym (ap answer A.verdict);
      kinds = column-kept kinds_of _ v A.table t.nodes ns c.args.kind.now _ A.verdict n.0 A.kinds (c.put_column.ensures (λ (x : Node). code x.kind) (λ x r p. search rules));
      stops = column-kept stops_of _ v A.table t.nodes ns c.args.stop.now _ A.verdict n.1 A.stops (c.put_column-2.ensures (λ (x : Node). x.stop) (λ x r p. search rules));
      weights = column-kept weights_of _ v A.table t.nodes ns c.args.weight.now _ A.verdict n.2 A.weights (c.put_column-3.ensures (λ (x : Node). x.weight) (λ x r p. search rules));
      heights = column-kept heights_of _ v A.table t.nodes ns c.args.height.now _ A.verdict n.3 A.heights (c.put_column-4.ensures (λ (x : Node). x.height) (λ x r p. search rules));
    }
