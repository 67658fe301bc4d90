-- `reading::decode_lines` meets its contract.
use mathlib.Core.Path.{◌≡◌}
use mathlib.Core.List.{[]}
use native.Mathlib.Omega.{arith}
use lib.ListN.{drop, replicate}
use Rattle.std.proofs.lemmas.Result.{err_from_is_err_and}
use Rattle.line.specs.Refusal.{refused}
use Rattle.table.specs.Table.{node_lines, lines_of}
use Rattle.reading.proofs.Complete.{Lined, gathered-lined, gathered-refusal, few-chances, nodes-counted, nodes-decoded}
use Rattle.reading.proofs.Top.{decoded-refused}
use Rattle.reading.proofs.decode_lines.Goals as goal
use Rattle.reading.proofs.decode_lines.Goals.{In_ok-m}

lined : (c : In_ok-m)
    → let a = c.args in
    Lined a.h.lowest (node_lines a.h a.n 0 [] (drop 25 a.text.now)) c.in_ok-m.m a.nodes.now (replicate 1024 0) c.node_lines.new.nodes c.node_lines.new.up
lined c = gathered-lined _ _ _ _ _ _ _ c.in_ok-m.ensures

pub completed-requires : goal.completed-requires
completed-requires c =
    let a = c.args in
    let p = c.requires in
    let e = c.stops.ensures in
    let L = lined (goal.at.completed-requires c).In_ok-m in
    let r = p.4 in (
      omega arith,
      p.2,
      r.total,
      r.second,
      few-chances _ _ _ _ _ _ c.stops.new.nodes _ _ L,
      nodes-counted a.h a.n (drop 25 a.text.now) _ _ _ _ _ _ L p.1 p.2 e.kinds e.stops e.weights e.heights,
    )

pub returns-in_err-m : goal.returns-in_err-m
returns-in_err-m c =
    let a = c.args in
    let r = c.in_err-m.field-0.0 in
    let e : node_lines a.h a.n 0 [] (drop 25 a.text.now) ≡ refused r = gathered-refusal a.h.lowest _ r _ _ _ _ c.in_err-m.ensures in
    let p = err_from_is_err_and c.from_residual.result c.from_residual.ensures.1 in
    rw (p.1, p.2) (decoded-refused (lines_of a.h a.n (drop 25 a.text.now)) r _ _ _ _ _ _ _ _ (rw e))

pub returns : goal.returns
returns c =
    let p = c.requires in
    let e = c.stops.ensures in
    let L = lined (goal.at.returns c).In_ok-m in
    nodes-decoded c.args.h c.args.n (drop 25 c.args.text.now) _ _ _ _ _ _ L p.1 p.2 e.kinds e.stops e.weights e.heights c.completed.result c.completed.ensures
