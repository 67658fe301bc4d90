-- The lines of an accepted text can be judged, and the call answers with its table's judgement.
use Rattle.std.proofs.Common.{Err, None, Ok, Result, Some, Option}
use Rattle.judge.specs.declared.Decision.{Decision}
use Rattle.line.specs.declared.Refusal.{Refusal}
use Prim.Native.Nat.{ℕ}
use mathlib.Core.Path.{◌≡◌, refl, sym, ap, ◌∙◌}
use mathlib.Core.List.{List}
use native.Mathlib.Omega.{arith}
use lib.ListN.{length, drop}
use lib.IntN.{ℤ}
use Rattle.line.specs.Refusal.{Verdict, refused, fine}
use Rattle.line.specs.Line.{to_nat}
use Rattle.table.specs.declared.Summary.{Summary}
use Rattle.table.specs.Table.{Table, read_text, summary}
use Rattle.table.proofs.Accepted.{heights-rooted}
use Rattle.scale.specs.declared.Scale.{Scale}
use Rattle.scale.specs.Inside.{scale_for}
use Rattle.scale.proofs.Taken.{Taken, of-table}
use Rattle.worth.specs.Inside.{beside}
use Rattle.worth.proofs.Call.{lent, accepted-ready, lines_of, from_all}
use Rattle.judge.specs.Judge.{Judgement, no_decision, judged, judge}
use Rattle.judge.specs.Call.{judge_answer, judge_call}
use Rattle.judge.specs.Inside.{meant, WholeLines, WellJudged}
use Rattle.judge.proofs.Judge.{judge-heights}

-- what is answered with a judgement is the opinion that means it
meant-back : (r : Result (Option Decision) Refusal) → r ≡ judge_answer (meant r)
meant-back (Ok None) = refl
meant-back (Ok (Some d)) = refl
meant-back (Err r) = refl

-- and an answer with a loss is that of a judgement with it
pub answer-loss : (v : Verdict Judgement) (n level : ℕ) → judge_answer v ≡ Ok (Some (record { loss = n; level = level }))
    → (loss : ℤ) × (v ≡ fine (judged loss level)) × (to_nat loss ≡ n)
answer-loss (refused r) n level e = let z : ◌≡◌ {A = ℕ} 0 1 = cc in absurd (omega arith)
answer-loss (fine no_decision) n level e = let z : ◌≡◌ {A = ℕ} 0 1 = cc in absurd (omega arith)
answer-loss (fine (judged loss k)) n level e =
    let same : ◌≡◌ {A = Decision} (record { loss = to_nat loss; level = k }) (record { loss = n; level = level }) = cc in
    (loss, ap (λ (d : Decision). fine (judged loss d.level)) same, ap (λ (d : Decision). d.loss) same)

-- ---- an accepted table

module _ (s : List ℕ) (t : Table) (h : read_text s ≡ fine t) where
  pub accepted-whole : WholeLines (lent t) (scale_for (summary t)) (length t.lines) (drop 25 s)
  unfolding accepted-ready
  accepted-whole = record { ready = accepted-ready s t h; rooted = heights-rooted s t h }

  pub judged-table : (i : ℤ) (r : Result (Option Decision) Refusal) → WellJudged (lent t) (scale_for (summary t)) (length t.lines) (drop 25 s) i r → meant r ≡ judge t i
  unfolding accepted-whole accepted-ready
  judged-table i r told = told accepted-whole ∙ sym (judge-heights s t h i)

-- ---- what the reading left

-- g is the scale
module _ {s : List ℕ} {t : Summary} {K S W H : List ℕ} (G : Taken s t K S W H) {g : Scale} (q : g ≡ scale_for t) where
  pub whole-at : WholeLines (beside S W H) g t.nodes (lines_of s)
  whole-at =
      rw (q, from_all s) (of-table G (λ t K S W H. WholeLines (beside S W H) (scale_for t) t.nodes (drop 25 s)) (λ T p. accepted-whole s T p))

  -- r is what `judge_table` gave of the child i
  pub given-at : (i : ℤ) (r : Result (Option Decision) Refusal) → WellJudged (beside S W H) g t.nodes (lines_of s) i r → r ≡ judge_call (read_text s) i
  given-at i r w =
      of-table G (λ t K S W H. WellJudged (beside S W H) (scale_for t) t.nodes (drop 25 s) i r → r ≡ judge_call (read_text s) i) (λ T p w.
      meant-back r ∙ ap judge_answer (judged-table s T p i r w) ∙ ap (λ (v : Verdict Table). judge_call v i) (sym p))
      (rw (q, from_all s) at w)
