-- `reading::completed` meets its contract.
use mathlib.Core.Path.{◌≡◌, refl, sym, ◌∙◌}
use borrow.Author.Tests.{lt-ltb, le-ltb}
use native.Mathlib.Omega.{arith}
use Rattle.std.proofs.Common.{rules, None}
use Rattle.line.specs.Line.{totals}
use Rattle.table.specs.Inside.{slices}
use Rattle.table.specs.Nodes.{kinds_in, stops_in, weights_in}
use Rattle.reading.specs.Inside.{Counted, Summed}
use Rattle.reading.proofs.Grains.{odd-none}
use Rattle.reading.proofs.completed.Goals as goal
use Rattle.reading.proofs.completed.Goals.{In_default-odd}

-- where no sum is neither total
sums : (c : In_default-odd)
    → let a = c.args in
    let l = a.nodes.now in
    Counted (kinds_in l) (stops_in l) (weights_in l) a.n a.m.chances → Summed (kinds_in l) (stops_in l) (weights_in l) a.n a.m.chances (totals a.h)
sums c C =
    let a = c.args in
    let l = a.nodes.now in
    record {
      counted = C;
      balanced = odd-none a.h (slices (kinds_in l) (stops_in l) (weights_in l) C.heights) a.n c.requires.1 C.forest C.spans (rw (← c.other_total.ensures) (sym c.first_unbalanced-odd.ensures.first ∙ c.in_default-odd.is));
    }

pub grain_of-grain-requires : goal.grain_of-grain-requires
grain_of-grain-requires c = let p = c.requires in (p.0, p.1, p.2, p.3, p.4, sums c p.5)

pub returns-then-grain-gt16777216 : goal.returns-then-grain-gt16777216
unfolding sums
returns-then-grain-gt16777216 c =
    let G = c.grain_of-grain.result in
    let l = lt-ltb 16777216 G (omega arith) in
    let bare : c.first_childless-bare.result ≡ None = search rules in
    λ C. rw (← c.other_total.ensures, ← c.first_childless-bare.ensures.first, ← c.first_unbalanced-odd.ensures.first, bare, c.in_default-odd.is, ← c.grain_of-grain.ensures (sums (goal.at.returns-then-grain-gt16777216 c).In_default-odd C), l) refl

pub returns : goal.returns
unfolding sums
returns c =
    let G = c.grain_of-grain.result in
    let l = le-ltb 16777216 G (omega arith) in
    let bare : c.first_childless-bare.result ≡ None = search rules in
    λ C. rw (← c.other_total.ensures, ← c.first_childless-bare.ensures.first, ← c.first_unbalanced-odd.ensures.first, bare, c.in_default-odd.is, ← c.grain_of-grain.ensures (sums (goal.at.returns c).In_default-odd C), l) (search rules)
