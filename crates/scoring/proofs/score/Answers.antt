-- `scoring::score` meets its contract.
use Rattle.std.proofs.Common.{rules, ℕ, ◌≡◌, sym, ap, ◌∙◌}
use Rattle.std.proofs.lemmas.Result.{err_from_is_err_and}
use mir.Syntax.{w64}
use mir.Val.{to_z, of_z}
use Rattle.line.specs.Refusal.{Verdict, fine, next}
use Rattle.table.specs.Table.{Table, read_text}
use Rattle.table.specs.Nodes.{kinds_in, stops_in, weights_in, heights_in}
use Rattle.scale.proofs.Taken.{Taken, refused-by, taken-by, spread_at, long}
use Rattle.judge.specs.Judge.{Judgement, judge}
use Rattle.judge.specs.Call.{judge_call}
use Rattle.judge.proofs.Call.{whole-at, given-at}
use Rattle.report.specs.Report.{row_of}
use Rattle.scoring.specs.Inside.{entry_as, said}
use Rattle.scoring.proofs.Scores.{kind-first, small_at, row_at}
use Rattle.scoring.proofs.score.Goals as goal
use Rattle.scoring.proofs.score.Goals.{After-judge-o, In_ok-t, Start}

pub returns-in_err-t : goal.returns-in_err-t
returns-in_err-t c =
    let p = err_from_is_err_and c.from_residual.result c.from_residual.ensures.1 in
    rw (p.1, p.2) (ap (λ (v : Verdict Table). said c.args.size (next v (λ (t : Table). next (judge t c.args.number) (λ (j : Judgement). fine (row_of t j)))))
    (sym (refused-by c.args.text.now _ _ _ _ _ _ c.decode.ensures c.in_err-t.was)))

-- what is left of an accepted text
taken : (c : In_ok-t) → let l = c.decode.new.nodes in Taken c.args.text.now c.in_ok-t.t (kinds_in l) (stops_in l) (weights_in l) (heights_in l)
taken c = taken-by c.args.text.now c.decode.ensures c.in_ok-t.was

pub slice_bounds-lines-count : goal.slice_bounds-lines-count
slice_bounds-lines-count c = long (taken (goal.at.slice_bounds-lines-count c).In_ok-t)

pub slice_bounds-lines-start : goal.slice_bounds-lines-start
slice_bounds-lines-start c = long (taken (goal.at.slice_bounds-lines-start c).In_ok-t)

pub scale_of-requires : goal.scale_of-requires
scale_of-requires c = spread_at (taken (goal.at.scale_of-requires c).In_ok-t)

pub judge-o-requires : goal.judge-o-requires
judge-o-requires c = whole-at (taken (goal.at.judge-o-requires c).In_ok-t) c.scale_of.ensures

number-back : (c : Start) → to_z w64 (of_z w64 c.args.number) ≡ c.args.number
number-back c = search rules

-- the judgement
given : (c : After-judge-o) → c.judge-o.result ≡ judge_call (read_text c.args.text.now) c.args.number
given c =
    given-at (taken (goal.at.After-judge-o c).In_ok-t) c.scale_of.ensures c.args.number c.judge-o.result (rw (number-back (goal.at.After-judge-o c).Start) at c.judge-o.ensures)

pub entry_of-requires : goal.entry_of-requires
entry_of-requires c =
    small_at (taken (goal.at.entry_of-requires c).In_ok-t) c.args.number c.judge-o.result (given (goal.at.entry_of-requires c).After-judge-o)

pub returns : goal.returns
returns c =
    c.entry_of.ensures
    ∙ ap (λ (k : ℕ). entry_as k c.in_ok-t.t.grain c.args.size c.judge-o.result) (kind-first c.decode.new.nodes)
    ∙ row_at (taken (goal.at.returns c).In_ok-t) c.args.number c.judge-o.result (given (goal.at.returns c).After-judge-o) c.args.size
