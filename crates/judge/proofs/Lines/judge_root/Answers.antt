-- `judge::Lines::judge_root` meets its contract.
use Rattle.std.proofs.Common.{arith, ◌≡◌, ◌-◌, ◌<◌, ◌≤◌, ℤ, length, get_or, take, replicate, sym, ap, ◌∙◌}
use mir.Syntax.{w64}
use mir.Val.{to_z, of_z}
use mir.ValLaws.{to_z-of_z}
use lib.Seq.{length-take-le}
use Rattle.line.specs.Line.{to_nat}
use Rattle.table.specs.Root.{numbered, play_of}
use Rattle.worth.specs.Inside.{beside_in}
use Rattle.judge.specs.Inside.{side_of, Decided}
use Rattle.judge.proofs.Root.{chain-of, under_of, list-room, height, entry_of, best_of, ahead_of, level-of, Found, found, found-ahead, well-none, well-lost}
use Rattle.judge.proofs.Lines.judge_root.Goals as goal
use Rattle.judge.proofs.Lines.judge_root.Goals.{After-best_of-best, After-find_child, After-list_worths-m, After-worth_at-h, In-Child, Start}

-- a root as the contract has it
abbrev At : Start → Type 0
At s = let a = s.args.self in Decided (beside_in a.nodes.now) a.scale a.n a.text.now (side_of s.args.side)

pub find_child-requires : goal.find_child-requires
find_child-requires c = chain-of _ _ _ _ c.requires.whole

number-back : (s : Start) → to_z w64 (of_z w64 s.args.number) ≡ s.args.number
number-back s = to_z-of_z w64 s.args.number s.ranges.number

-- the play is that of the number
played : (c : After-find_child) (D : At (goal.at.After-find_child c).Start)
    → c.find_child.result ≡ play_of (numbered c.args.number (chain-of _ _ _ _ D.whole).nodes)
played c D =
    let C = chain-of _ _ _ _ D.whole in
    c.find_child.ensures.by C ∙ ap (λ (z : ℤ). play_of (numbered z C.nodes)) (number-back (goal.at.After-find_child c).Start)

pub returns-in_default : goal.returns-in_default
returns-in_default c D = well-none _ _ _ _ _ D _ _ c.in_default.is (played (goal.at.returns-in_default c).After-find_child D)

pub list_worths-m-requires : goal.list_worths-m-requires
list_worths-m-requires c = under_of _ _ _ _ c.requires.whole (replicate 1024 0) (omega arith)

-- the child that was found
child : (c : In-Child) (D : At (goal.at.In-Child c).Start) → Found _ _ _ _ _ D c.args.number
child c D = found _ _ _ _ _ D _ _ _ c.in-Child.is (played (goal.at.In-Child c).After-find_child D)

pub slice_bounds-list-end : goal.slice_bounds-list-end
slice_bounds-list-end c = list-room _ _ _ _ _ c.requires (replicate 1024 0) _ _ (omega arith) c.list_worths-m.ensures

pub slice_bounds-worths-end : goal.slice_bounds-worths-end
slice_bounds-worths-end c =
    let room = list-room _ _ _ _ _ c.requires (replicate 1024 0) _ _ (omega arith) c.list_worths-m.ensures in
    sym (length-take-le _ _ room)

-- the worth of the child, and its place
entry : (c : After-list_worths-m) (D : At (goal.at.After-list_worths-m c).Start)
    → let z = c.args.number in
    let worths = take c.list_worths-m.result c.list_worths-m.new.list in
    (0 < to_nat z) × (to_nat z ≤ length worths) × (get_or worths (to_nat z - 1) 0 ≡ (child (goal.at.After-list_worths-m c).In-Child D).0.worth)
entry c D =
    let K = child (goal.at.After-list_worths-m c).In-Child D in
    entry_of _ _ _ _ _ D (replicate 1024 0) _ _ (omega arith) c.list_worths-m.ensures _ K.0 K.1

pub worth_at-h-requires : goal.worth_at-h-requires
worth_at-h-requires c =
    let e = entry (goal.at.worth_at-h-requires c).After-list_worths-m c.requires in
    rw (number-back (goal.at.worth_at-h-requires c).Start) (e.0, e.1)

-- what it and the best are worth
worth : (c : After-worth_at-h) (D : At (goal.at.After-worth_at-h c).Start) → c.worth_at-h.result ≡ (child (goal.at.After-worth_at-h c).In-Child D).0.worth
worth c D =
    let d = goal.at.After-worth_at-h c in
    (rw (number-back d.Start) at c.worth_at-h.ensures) ∙ (entry d.After-list_worths-m D).2

best : (c : After-best_of-best) (D : At (goal.at.After-best_of-best c).Start) → c.best_of-best.result ≡ height _ _ _ _ _ D
best c D = best_of _ _ _ _ _ D (replicate 1024 0) _ _ (omega arith) c.list_worths-m.ensures _ c.best_of-best.ensures

pub count_levels-level-requires : goal.count_levels-level-requires
count_levels-level-requires c =
    ahead_of _ _ _ _ _ c.requires (replicate 1024 0) _ _ (omega arith) c.list_worths-m.ensures _ (best (goal.at.count_levels-level-requires c).After-best_of-best c.requires)

pub loss-requires : goal.loss-requires
loss-requires c =
    let d = goal.at.loss-requires c in
    found-ahead _ _ _ _ _ c.requires _ (child d.In-Child c.requires) _ _ (best d.After-best_of-best c.requires) (worth d.After-worth_at-h c.requires)

pub returns : goal.returns
returns c D =
    let d = goal.at.returns c in
    let b = best d.After-best_of-best D in
    well-lost _ _ _ _ _ D _ (child d.In-Child D) _ _ _ _ b (worth d.After-worth_at-h D) c.loss.ensures
    (level-of _ _ _ _ _ D (replicate 1024 0) _ _ (omega arith) c.list_worths-m.ensures _ b _ c.count_levels-level.ensures)
