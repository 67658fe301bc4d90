-- `rolled::roll` meets its contract.
use Rattle.std.proofs.Common.{Ok, ℤ, ℕ, ◌≡◌, ◌≤◌, sym, ap, subst, ◌∙◌, List, take, drop, ◌++◌, length, arith}
use lib.IntN.{pos, ◌*ℤ◌}
use lib.Signed.{mag}
use Rattle.table.specs.Nodes.{kinds_in, stops_in, weights_in, heights_in}
use Rattle.scale.specs.declared.Scale.{Scale}
use Rattle.scale.specs.Inside.{Taken}
use Rattle.scale.proofs.Sums.{base-small, plus_none}
use Rattle.scale.proofs.Taken.{taken-by, spread_at, grains-ready, grains-at}
use Rattle.rolled.specs.Inside.Bounds.{risen}
use Rattle.rolled.proofs.Call.{has-chance, too_short, refuses, Facts, Started, nodes-few, filled-begun, roll-ready, roll-facts}
use Rattle.rolled.proofs.roll.Goals as goal
use Rattle.rolled.proofs.roll.Goals.{In_ok-t, After-fill, After-roll_out-used}

read : (c : In_ok-t)
    → let N = c.decode.new.nodes in
    Taken c.args.text.now c.in_ok-t.t (kinds_in N) (stops_in N) (weights_in N) (heights_in N)
read c = taken-by c.args.text.now c.decode.ensures c.in_ok-t.was

pub returns-then-t-gt0 : goal.returns-then-t-gt0
returns-then-t-gt0 c =
    let a = c.args in
    let G = read (goal.at.returns-then-t-gt0 c).In_ok-t in
    refuses a.text.now a.policy.now a.room _ a.leaves.now a.low.now a.high.now
    (has-chance a.text.now c.in_ok-t.t G.accepted (length a.leaves.now) a.room (omega arith))

pub returns-then-leaves-t : goal.returns-then-leaves-t
returns-then-leaves-t c =
    let a = c.args in
    let G = read (goal.at.returns-then-leaves-t c).In_ok-t in
    refuses a.text.now a.policy.now a.room _ a.leaves.now a.low.now a.high.now
    (too_short a.text.now c.in_ok-t.t G.accepted (length a.leaves.now) a.room c.if-t-gt0.false c.then-leaves-t.either)

pub scale_of-requires : goal.scale_of-requires
scale_of-requires c = spread_at (read (goal.at.scale_of-requires c).In_ok-t)

-- the highs before the first walk
abbrev highs_at : After-fill → List ℕ
highs_at c = c.fill.new.self ++ drop c.in_ok-t.t.nodes c.args.high.now

begun : (c : After-fill) → (length (highs_at c) ≡ 1024) × Started c.in_ok-t.t (highs_at c)
begun c =
    filled-begun c.in_ok-t.t c.args.high.now c.fill.new.self c.scale_of.result.top (nodes-few (read (goal.at.After-fill c).In_ok-t)) c.requires.1
    (c.fill.ensures.after (λ y e. e)) (ap (λ (g : Scale). g.top) c.scale_of.ensures)

pub roll_out-used-requires : goal.roll_out-used-requires
roll_out-used-requires c =
    let G = read (goal.at.roll_out-used-requires c).In_ok-t in
    let f = begun (goal.at.roll_out-used-requires c).After-fill in
    roll-ready G c.args.low.now _ c.requires.0 f.0 f.1 (length c.args.leaves.now) c.if-leaves-t.false

-- what they left
facts : (c : After-roll_out-used)
    → let a = c.args in
    let n = c.roll_out-used.new in
    Facts a.text.now a.policy.now a.room c.in_ok-t.t n.low n.high c.roll_out-used.result a.leaves.now n.leaves
facts c =
    let a = c.args in
    let n = c.roll_out-used.new in
    let G = read (goal.at.After-roll_out-used c).In_ok-t in
    let f = begun (goal.at.After-roll_out-used c).After-fill in
    roll-facts G a.low.now _ c.requires.0 f.0 f.1 a.policy.now n.low n.high c.roll_out-used.result a.leaves.now n.leaves a.room
    c.if-t-gt0.false c.if-leaves-t.false c.if-room-t.false c.roll_out-used.ensures

pub in_grains-requires : goal.in_grains-requires
in_grains-requires c =
    let F = facts (goal.at.in_grains-requires c).After-roll_out-used in
    grains-ready (read (goal.at.in_grains-requires c).In_ok-t) (F.small_low 0 F.some)

pub in_grains-requires-2 : goal.in_grains-requires-2
in_grains-requires-2 c = grains-ready (read (goal.at.in_grains-requires-2 c).In_ok-t) (omega arith)

pub returns : goal.returns
returns c =
    let t = c.in_ok-t.t in
    let G = read (goal.at.returns c).In_ok-t in
    let F = facts (goal.at.returns c).After-roll_out-used in
    let worth = grains-at G (F.small_low 0 F.some) c.in_grains.ensures in
    let none = grains-at G {h = 0} (omega arith) c.in_grains-2.ensures in
    let base = none ∙ plus_none (t.lowest *ℤ pos t.grain) in
    let small = subst (λ (z : ℤ). mag z ≤ 35184372088832) (sym none) (base-small t.lowest t.grain (spread_at G).lowest (spread_at G).grain) in
    record {
      answers = ap (λ (z : ℤ). Ok (record { worth = z; leaves = c.roll_out-used.result })) worth ∙ F.answers;
      lists = F.lists;
      store = record {
        nodes = F.nodes;
        fits = c.if-room-t.false;
        few = F.few;
        small = small;
        lows-are = ap (λ (z : ℤ). risen z (take t.nodes c.roll_out-used.new.low)) base ∙ F.lows;
        highs-are = ap (λ (z : ℤ). risen z (take t.nodes c.roll_out-used.new.high)) base ∙ F.highs;
        small_low = λ i o. (small, F.small_low i o);
        small-high = λ i o. (small, F.small-high i o);
      };
    }
