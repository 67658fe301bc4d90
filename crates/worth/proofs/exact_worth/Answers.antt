-- `worth::exact_worth` meets its contract.
use Rattle.std.proofs.Common.{Ok, ◌≤◌, ℤ, sym, ap, ◌∙◌}
use Rattle.std.proofs.lemmas.Result.{err_from_is_err_and}
use Rattle.table.specs.Nodes.{kinds_in, stops_in, weights_in, heights_in}
use Rattle.scale.proofs.Taken.{spread_at, Taken, refused-by, taken-by, long, grains-ready, grains-at}
use Rattle.worth.specs.Call.{exact_call}
use Rattle.worth.proofs.Call.{ready_at, low-at, answered-at}
use Rattle.worth.proofs.exact_worth.Goals as goal
use Rattle.worth.proofs.exact_worth.Goals.{After-worth_of-h, In_ok-t}

pub returns-in_err-t : goal.returns-in_err-t
returns-in_err-t c =
    let p = err_from_is_err_and c.from_residual.result c.from_residual.ensures.1 in
    rw (p.1, p.2) (ap exact_call (sym (refused-by c.args.text.now _ _ _ _ _ _ c.decode.ensures c.in_err-t.was)))

-- what is left of an accepted text
taken : (c : In_ok-t) → let l = c.decode.new.nodes in Taken c.args.text.now c.in_ok-t.t (kinds_in l) (stops_in l) (weights_in l) (heights_in l)
taken c = taken-by c.args.text.now c.decode.ensures c.in_ok-t.was

pub scale_of-g-requires : goal.scale_of-g-requires
scale_of-g-requires c = spread_at (taken c)

pub slice_bounds-worth_of-count : goal.slice_bounds-worth_of-count
slice_bounds-worth_of-count c = long (taken (goal.at.slice_bounds-worth_of-count c).In_ok-t)

pub slice_bounds-worth_of-start : goal.slice_bounds-worth_of-start
slice_bounds-worth_of-start c = long (taken (goal.at.slice_bounds-worth_of-start c).In_ok-t)

pub worth_of-h-requires : goal.worth_of-h-requires
worth_of-h-requires c = ready_at (taken (goal.at.worth_of-h-requires c).In_ok-t) c.scale_of-g.ensures

low : (c : After-worth_of-h) → c.worth_of-h.result ≤ 35184372088832
low c = low-at (taken (goal.at.After-worth_of-h c).In_ok-t) c.scale_of-g.ensures c.worth_of-h.result c.worth_of-h.ensures

pub in_grains-requires : goal.in_grains-requires
in_grains-requires c = let d = (goal.at.in_grains-requires c).After-worth_of-h in grains-ready (taken (goal.at.in_grains-requires c).In_ok-t) (low d)

pub returns : goal.returns
returns c =
    let G = taken (goal.at.returns c).In_ok-t in
    ap (λ (z : ℤ). Ok (record { grains = z; grain = c.in_ok-t.t.grain })) (grains-at G (low (goal.at.returns c).After-worth_of-h) c.in_grains.ensures)
    ∙ answered-at G c.scale_of-g.ensures c.worth_of-h.result c.worth_of-h.ensures
