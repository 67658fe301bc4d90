-- Forced plays, at the public calls.
use Rattle.std.proofs.Common.{Err}
use Prim.Native.Nat.{ℕ, ◌<◌}
use mathlib.Core.Path.{◌≡◌, refl, sym, ap, ap₂, ◌∙◌}
use mathlib.Core.Bool.{Bool, true, false, cond}
use mathlib.Core.List.{List}
use mathlib.Core.Option.{none, some}
use native.Mathlib.Omega.{arith}
use borrow.Author.Tests.{eqb-true}
use lib.Dec.{eqb}
use lib.ListN.{length, get_elem?}
use lib.IntN.{ℤ, pos, ◌*ℤ◌}
use Rattle.line.specs.declared.Refusal.{Refusal}
use Rattle.line.specs.declared.Refusal.TheVariants.{NoChild}
use Rattle.line.specs.Refusal.{Verdict, refused, fine, next, number_of}
use Rattle.line.specs.Line.{to_nat, value_of}
use Rattle.table.specs.Tree.{Forest, end, leaf, inner}
use Rattle.table.specs.Table.{Table, tree, read_text, grain}
use Rattle.table.specs.Root.{AtM, AtN, children, nodes, play_of}
use Rattle.table.proofs.Places.{refused-number}
use Rattle.worth.specs.Worth.{value, shares}
use Rattle.judge.specs.Judge.{Judgement, judge}
use Rattle.judge.specs.Call.{judge_answer, judge_call}
use Rattle.judge.proofs.Judge.{forced-judged, choice-judged, missing-refused, refused-choice}
use Rattle.search.specs.Search.{unlimited, node_of}
use Rattle.search.specs.Whole.{searched}
use Rattle.search_call.specs.declared.Bounds.{Bounds}
use Rattle.search_call.proofs.Answered.{answered}
use Rattle.promise.specs.Play.{worth_at}
use Rattle.promise.proofs.Demand.{play-named, play-near}
use Rattle.report.specs.declared.Row.{Row}
use Rattle.report.specs.Report.{play_in, table_in, row_of, scored, total_of}
use Rattle.report.specs.Files.{listed_total}
use Rattle.report.proofs.Cases.{by_cases}
use Rattle.report.proofs.Rows.{totals-listed}
use Rattle.report.proofs.Refusals.{head-named}
use Rattle.report.proofs.Decisions.{decisions-are}
use Rattle.report_call.specs.Call.{report_kinds, report_losses}
use Rattle.demands.specs.Forced.{ForcedNoDecision, ChoiceAsBefore, Fourteen, FourteenNeeds, PositionFourteen, StillNamed, CountsFollow}
use Rattle.demands.proofs.Within.{fine-same}
use Rattle.demands.proofs.Matches.{totals-summed}

-- ---- judging

pub forced-no-decision : ForcedNoDecision
forced-no-decision s t i p one = ap (λ (v : Verdict Table). judge_call v i) p ∙ ap judge_answer (forced-judged t i one)

pub choice-as-before : ChoiceAsBefore
choice-as-before s t i p h = ap (λ (v : Verdict Table). judge_call v i) p ∙ ap judge_answer (choice-judged t i h)

-- a table's own refusals go up to 10, but for 18
not-fourteen : {P : Type 0} (r : Refusal) → (10 < number_of r → number_of r ≡ 18) → r ≡ NoChild → P
not-fourteen r h e = let n : number_of r ≡ 14 = ap number_of e in absurd (omega (arith, h (omega arith)))

answer-refused : (v : Verdict Judgement) (r : Refusal) → judge_answer v ≡ Err r → v ≡ refused r
answer-refused (refused q) r e = cc
answer-refused (fine j) r e = let z : ◌≡◌ {A = ℕ} 0 1 = cc in absurd (omega arith)

judged-fourteen : (s : List ℕ) (i : ℤ) → judge_call (read_text s) i ≡ Err NoChild → Fourteen s i
judged-fourteen s i = go (read_text s) refl
  where
    go : (v : Verdict Table) → read_text s ≡ v → judge_call v i ≡ Err NoChild → Fourteen s i
    go (refused r) p e = not-fourteen r (refused-number s r p) cc
    go (fine t) p e =
        let (side, root, several, missing) = refused-choice s t p i NoChild (answer-refused (judge t i) NoChild e) in
        record { table = t; read = p; side = side; root = root; several = several; missing = missing }

pub fourteen-needs : FourteenNeeds
fourteen-needs s i = (
  judged-fourteen s i,
  λ F. ap (λ (v : Verdict Table). judge_call v i) F.read ∙ ap judge_answer (missing-refused s F.table F.read i F.side F.root F.several F.missing),
)

-- what a position is refused with by judging
scored-judged : (i : ℤ) (text : List ℕ) → scored i text ≡ refused NoChild → judge_call (read_text text) i ≡ Err NoChild
scored-judged i text = go (read_text text)
  where
    at : (t : Table) (v : Verdict Judgement) → next v (λ (j : Judgement). fine (row_of t j)) ≡ refused NoChild → judge_answer v ≡ Err NoChild
    at t (refused r) e = cc
    at t (fine j) e = let z : ◌≡◌ {A = ℕ} 0 1 = cc in absurd (omega arith)

    go : (v : Verdict Table) → next v (λ (t : Table). next (judge t i) (λ (j : Judgement). fine (row_of t j))) ≡ refused NoChild → judge_call v i ≡ Err NoChild
    go (refused r) e = cc
    go (fine t) e = at t (judge t i) e

pub position-fourteen : PositionFourteen
position-fourteen s =
    by_cases s (λ (v : Verdict Row). v ≡ refused NoChild → Fourteen (table_in s) (value_of (play_in s)))
    (λ e. let z : ◌≡◌ {A = ℕ} 0 1 = cc in absurd (omega arith))
    (λ r h e. not-fourteen r (head-named s r h).1 cc)
    (λ n h l e. judged-fourteen (table_in s) (value_of (play_in s)) (scored-judged (value_of (play_in s)) (table_in s) e))

-- ---- the search

-- the worth found is the node's
named : (n m : ℕ) (x v : ℤ) → cond (eqb n m) (some x) none ≡ some v → some n ≡ some m
named n m x v = go (eqb n m) refl
  where
    go : (b : Bool) → eqb n m ≡ b → cond b (some x) none ≡ some v → some n ≡ some m
    go true q e = ap some (eqb-true n m q)
    go false q e = let z : ◌≡◌ {A = ℕ} 0 1 = cc in absurd (omega arith)

-- of a single node there is no other worth
only-worth : (G m : ℕ) (F : Forest ℤ) (v : ℤ) → length (nodes F) ≡ 1 → worth_at G m F ≡ some v → get_elem? (nodes F) 0 ≡ some m
unfolding worth_at nodes
only-worth G m end v one e = absurd (omega (arith, one))
only-worth G m (leaf n w u end) v one e = named n m (u *ℤ pos G) v e
only-worth G m (leaf n w u (leaf n₂ w₂ u₂ rest)) v one e = absurd (omega (arith, one))
only-worth G m (leaf n w u (inner n₂ w₂ k₂ under rest)) v one e = absurd (omega (arith, one))
only-worth G m (inner n w k under end) v one e = named n m (value k (shares G under)) v e
only-worth G m (inner n w k under (leaf n₂ w₂ u₂ rest)) v one e = absurd (omega (arith, one))
only-worth G m (inner n w k under (inner n₂ w₂ k₂ under₂ rest)) v one e = absurd (omega (arith, one))

pub still-named : StillNamed
still-named s t m room b side p root one e =
    let A = answered s m room b e in
    let ε : ℕ = to_nat m in
    let same : A.table ≡ t = fine-same A.table t (sym A.read ∙ p) in
    let (x, q, first) = play-named s t p ε unlimited refl side root in
    let (v, w, above, below) = play-near s t p ε x.node q in (
      x.node,
      ap (λ (c : Bounds). c.play) A.bounds ∙ ap (λ (u : Table). play_of (node_of (searched u ε).play)) same ∙ ap play_of q,
      only-worth (grain t) x.node (children (tree t)) v one w,
    )

-- ---- "The report's counts follow."

pub counts-follow : CountsFollow
counts-follow file scale room t e E =
    let (m, ms, n, ns) = totals-summed file scale room t e in
    let sums : (side : ℕ) → listed_total side (λ x. 1) (report_kinds file scale room) (report_losses file scale room) ≡ total_of side (λ x. 1) E.rows =
    λ side. ap₂ (listed_total side (λ x. 1)) E.in-kinds E.in-losses ∙ totals-listed side (λ x. 1) E.rows in (
      m ∙ sums 1 ∙ decisions-are AtM file E.rows E.alone,
      n ∙ sums 2 ∙ decisions-are AtN file E.rows E.alone,
    )
