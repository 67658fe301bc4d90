-- `search_call::search_decoded` meets its contract.
use Rattle.std.proofs.Common.{Ok}
use Prim.Native.Nat.{ℕ, min, ◌≤◌}
use mathlib.Core.Path.{◌≡◌, ap, ap₂, ◌∙◌}
use mathlib.Core.List.{List}
use lib.ListN.{length}
use lib.IntN.{ℤ}
use mir.Syntax.{w64}
use mir.ValLaws.{to_z-of_z}
use Rattle.line.specs.Line.{to_nat}
use Rattle.scale.specs.Inside.{scale_for}
use Rattle.scale.proofs.Taken.{spread_at}
use Rattle.steps.specs.declared.Found.{Found}
use Rattle.search_call.specs.Inside.{rule_for, ends_for}
use Rattle.search_call.proofs.Call.{search-ready, found-small, given-at, reads_at}
use Rattle.search_call.proofs.search_decoded.Goals as goal
use Rattle.search_call.proofs.search_decoded.Goals.{After-ends_of-v, After-reads_of-n, After-search-f, Start}

abbrev start_of : After-ends_of-v → Start
start_of L = (goal.at.After-ends_of-v L).Start

rule-is : (L : After-ends_of-v) → L.rule_of-g.result ≡ rule_for (scale_for (start_of L).args.t) (start_of L).args.margin
rule-is L =
    let S = start_of L in
    L.rule_of-g.ensures ∙ ap₂ rule_for L.scale_of-s.ensures (to_z-of_z w64 S.args.margin S.ranges.margin)

ends-are : (L : After-ends_of-v) → L.ends_of-v.result ≡ ends_for (scale_for (start_of L).args.t)
ends-are L = L.ends_of-v.ensures ∙ ap ends_for L.scale_of-s.ensures

-- how many leaves may be read
most-is : (N : After-reads_of-n) → let S = start_of (goal.at.After-reads_of-n N).After-ends_of-v in N.reads_of-n.result ≡ min (to_nat S.args.budget) (length S.args.leaves.now)
most-is N =
    let S = start_of (goal.at.After-reads_of-n N).After-ends_of-v in
    N.reads_of-n.ensures ∙ ap (λ (z : ℤ). min (to_nat z) (length S.args.leaves.now)) (to_z-of_z w64 S.args.budget S.ranges.budget)

-- that many are in the list
pub search-f-requires : goal.search-f-requires
search-f-requires c =
    let S = start_of (goal.at.search-f-requires c).After-ends_of-v in
    search-ready S.requires.taken S.args.margin S.args.budget S.requires.margin S.requires.budget (rule-is (goal.at.search-f-requires c).After-ends_of-v) (ends-are (goal.at.search-f-requires c).After-ends_of-v)

-- ---- what it found
abbrev most-at : After-search-f → After-reads_of-n
most-at W = (goal.at.After-search-f W).After-reads_of-n

small : (W : After-search-f)
    → (W.search-f.result.low ≤ W.search-f.result.high) × (W.search-f.result.high ≤ 35184372088832) × (W.search-f.result.left ≤ (most-at W).reads_of-n.result)
small W =
    let N = most-at W in
    let S = start_of (goal.at.After-search-f W).After-ends_of-v in
    found-small S.requires.taken S.args.margin S.args.budget S.requires.margin S.requires.budget (rule-is (goal.at.After-search-f W).After-ends_of-v) (ends-are (goal.at.After-search-f W).After-ends_of-v) W.search-f.result
    N.reads_of-n.result S.args.leaves.now W.search-f.new.leaves (most-is N) S.requires.long W.search-f.ensures

pub bounds_of-requires : goal.bounds_of-requires
bounds_of-requires c =
    let u = small (goal.at.bounds_of-requires c).After-search-f in
    (spread_at (start_of (goal.at.bounds_of-requires c).After-ends_of-v).requires.taken, u.0, u.1, u.2)

pub scale_of-s-requires : goal.scale_of-s-requires
scale_of-s-requires c = spread_at c.requires.taken

pub returns : goal.returns
returns c s G =
    let N = most-at (goal.at.returns c).After-search-f in
    let L = (goal.at.returns c).After-ends_of-v in
    let S = start_of L in
    let f : Found = c.search-f.result in
    let leaves : List ℕ = c.search-f.new.leaves in (
      ap Ok c.bounds_of.ensures
          ∙ given-at G S.args.margin S.args.budget S.requires.margin S.requires.budget (rule-is L) (ends-are L) f N.reads_of-n.result S.args.leaves.now leaves (most-is N) S.requires.long c.search-f.ensures,
      reads_at G S.args.margin S.args.budget S.requires.margin S.requires.budget (rule-is L) (ends-are L) f N.reads_of-n.result S.args.leaves.now leaves (most-is N) S.requires.long c.search-f.ensures,
    )
