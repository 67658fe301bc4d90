-- `judge::judge_play` meets its contract.
use Rattle.std.proofs.Common.{rules, ◌≡◌, sym, ap}
use Rattle.std.proofs.lemmas.Result.{err_from_is_err_and}
use mir.Syntax.{w64}
use mir.Val.{to_z, of_z}
use Rattle.line.specs.Refusal.{Verdict}
use Rattle.table.specs.Table.{Table}
use Rattle.table.specs.Nodes.{kinds_in, stops_in, weights_in, heights_in}
use Rattle.scale.proofs.Taken.{Taken, refused-by, taken-by, spread_at, long}
use Rattle.judge.specs.Call.{judge_call}
use Rattle.judge.proofs.Call.{whole-at, given-at}
use Rattle.judge.proofs.judge_play.Goals as goal
use Rattle.judge.proofs.judge_play.Goals.{In_ok-t, Start}

pub returns-in_err-t : goal.returns-in_err-t
returns-in_err-t c =
    let p = err_from_is_err_and c.from_residual.result c.from_residual.ensures.1 in
    rw (p.1, p.2) (ap (λ (v : Verdict Table). judge_call v c.args.number) (sym (refused-by c.args.text.now _ _ _ _ _ _ c.decode.ensures c.in_err-t.was)))

-- what is left of an accepted text
taken : (c : In_ok-t) → let l = c.decode.new.nodes in Taken c.args.text.now c.in_ok-t.t (kinds_in l) (stops_in l) (weights_in l) (heights_in l)
taken c = taken-by c.args.text.now c.decode.ensures c.in_ok-t.was

pub slice_bounds-lines-count : goal.slice_bounds-lines-count
slice_bounds-lines-count c = long (taken (goal.at.slice_bounds-lines-count c).In_ok-t)

pub slice_bounds-lines-start : goal.slice_bounds-lines-start
slice_bounds-lines-start c = long (taken (goal.at.slice_bounds-lines-start c).In_ok-t)

pub scale_of-requires : goal.scale_of-requires
scale_of-requires c = spread_at (taken (goal.at.scale_of-requires c).In_ok-t)

pub judge-requires : goal.judge-requires
judge-requires c = whole-at (taken (goal.at.judge-requires c).In_ok-t) c.scale_of.ensures

number-back : (c : Start) → to_z w64 (of_z w64 c.args.number) ≡ c.args.number
number-back c = search rules

pub returns : goal.returns
returns c =
    let s = (goal.at.returns c).Start in
    given-at (taken (goal.at.returns c).In_ok-t) c.scale_of.ensures c.args.number c.judge.result (rw (number-back s) at c.judge.ensures)
