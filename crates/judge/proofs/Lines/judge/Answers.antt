-- `judge::Lines::judge` meets its contract.
use Rattle.std.proofs.Common.{arith, rules, ◌≡◌, Some, get_or, ap, ◌∙◌}
use mir.Syntax.{w64}
use mir.Val.{to_z, of_z}
use Rattle.line.specs.Line.{letter_code}
use Rattle.worth.specs.Inside.{beside_in}
use Rattle.judge.specs.declared.Side.{Side}
use Rattle.judge.specs.Inside.Heights.{forest_judge}
use Rattle.judge.specs.Inside.{side_of, chooser, WholeLines, Decided}
use Rattle.judge.proofs.Root.{chain-of, fewer-of, so-many-of, root_line, root-chosen, root-else, none-judged, few-judged}
use Rattle.judge.proofs.Lines.judge.Goals as goal
use Rattle.judge.proofs.Lines.judge.Goals.{In-Some}

pub find_child-requires : goal.find_child-requires
find_child-requires c = chain-of _ _ _ _ c.requires

pub returns-in_default : goal.returns-in_default
returns-in_default c W =
    few-judged _ W.ready.nodes _ W.ready.fits.filled (omega (arith, fewer-of _ _ _ _ W c.find_child.ensures c.in_default.is (omega arith)))

pub bounds-self-5 : goal.bounds-self-5
bounds-self-5 c = let R = c.requires.ready in omega (arith, R.long, root_line _ _ _ R.nodes R.lays c.requires.rooted)

-- a root at which a side chooses, with a second child
chosen : (c : In-Some)
    → let a = c.args.self in
    (side : Side) → Some side ≡ chooser (letter_code (get_or a.text.now 5 0))
    → WholeLines (beside_in a.nodes.now) a.scale a.n a.text.now → Decided (beside_in a.nodes.now) a.scale a.n a.text.now (side_of side)
chosen c side e W =
    record {
      whole = W;
      root = root-chosen _ _ _ side e W.ready.nodes W.ready.lays W.rooted;
      choice = omega (arith, so-many-of _ _ _ _ W c.find_child.ensures c.in-Child.field-0 c.in-Child.is);
    }

pub judge_root-requires : goal.judge_root-requires
judge_root-requires c = chosen (goal.at.judge_root-requires c).In-Some c.in-Some.side c.in-Some.ensures c.requires

pub returns-in-Some : goal.returns-in-Some
unfolding chosen
returns-in-Some c W =
    let a = c.args in
    let back : to_z w64 (of_z w64 a.number) ≡ a.number = search rules in
    c.judge_root.ensures (chosen (goal.at.returns-in-Some c).In-Some c.in-Some.side c.in-Some.ensures W) ∙ ap (forest_judge a.self.scale.grain W.ready.nodes) back

pub returns-in-None : goal.returns-in-None
returns-in-None c W = none-judged _ _ _ (root-else _ _ _ c.in-None.ensures W.ready.nodes W.ready.lays W.rooted)
