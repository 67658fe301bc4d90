-- `reading::grain_of` meets its contract.
use Prim.Native.Nat.{◌≤◌}
use mathlib.Core.Path.{◌≡◌, ◌∙◌}
use native.Mathlib.Omega.{arith}
use Rattle.line.specs.Line.{totals}
use Rattle.table.specs.Tree.{uses}
use Rattle.table.specs.Nodes.{kinds_in, stops_in, weights_in}
use Rattle.reading.specs.Inside.{Summed}
use Rattle.reading.proofs.Grains.{power_fits, powers-fit, has_of, grain-single, grain-double, four-uses}
use Rattle.reading.proofs.grain_of.Goals as goal
use Rattle.reading.proofs.grain_of.Goals.{After-most_uses-second}

pub pow-requires : goal.pow-requires
pow-requires c = power_fits _ _ (omega arith) (omega arith)

pub returns-then-h-eq0 : goal.returns-then-h-eq0
returns-then-h-eq0 c = λ S. c.pow.ensures ∙ grain-single c.args.h _ _ _ c.args.n c.args.most S c.if-h-eq0.true

-- what the two counts are
counts : (c : After-most_uses-second)
    → let a = c.args in
    let l = a.nodes.now in
    (S : Summed (kinds_in l) (stops_in l) (weights_in l) a.n a.most (totals a.h))
    → (c.most_uses-first.result ≡ uses a.h.total S.counted.forest) × (c.most_uses-second.result ≡ uses a.h.second S.counted.forest)
counts c S =
    let a = c.args in
    let R = has_of a.h _ _ _ a.n a.most S in (c.most_uses-first.ensures R, c.most_uses-second.ensures R)

few : (c : After-most_uses-second) → (c.most_uses-first.result ≤ 4) × (c.most_uses-second.result ≤ 4)
few c =
    let a = c.args in
    let S = c.requires.5 in
    let e = counts c S in
    let f = four-uses a.h _ _ _ a.n a.most S c.requires.4 in
    (omega (arith, e.0, f a.h.total), omega (arith, e.1, f a.h.second))

pub overflow_cast-first : goal.overflow_cast-first
overflow_cast-first c = omega (arith, few c)

pub pow-requires-2 : goal.pow-requires-2
pow-requires-2 c = power_fits _ _ (omega arith) (few c).0

pub overflow_cast-second : goal.overflow_cast-second
overflow_cast-second c = omega (arith, few (goal.at.overflow_cast-second c).After-most_uses-second)

pub pow-requires-3 : goal.pow-requires-3
pow-requires-3 c = power_fits _ _ (omega arith) (few (goal.at.pow-requires-3 c).After-most_uses-second).1

pub overflow_mul-result : goal.overflow_mul-result
overflow_mul-result c =
    let f = few (goal.at.overflow_mul-result c).After-most_uses-second in
    rw (c.pow-2.ensures, c.pow-3.ensures) (powers-fit _ _ _ _ (omega arith) f.0 (omega arith) f.1)

pub returns : goal.returns
returns c =
    let h = c.args.h in
    λ S.
    let e = counts (goal.at.returns c).After-most_uses-second S in
    rw (c.pow-2.ensures, c.pow-3.ensures, e.0, e.1) (grain-double h _ _ _ c.args.n c.args.most S c.if-h-eq0.false)
