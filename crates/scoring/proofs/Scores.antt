-- What judging says of an accepted table as an entry: its loss fits, and it is what the definition lists.
use Rattle.std.proofs.Common.{Ok, Result, Option}
use Rattle.judge.specs.declared.Decision.{Decision}
use Rattle.line.specs.declared.Refusal.{Refusal}
use Prim.Native.Nat.{ℕ}
use mathlib.Core.Path.{◌≡◌, refl, sym, ap, ap₂, subst, ◌∙◌}
use mathlib.Core.List.{List, [], ◌∷◌}
use native.Mathlib.Omega.{arith}
use lib.ListN.{length, get_or, length-map}
use lib.IntN.{ℤ}
use Rattle.line.specs.declared.Line.{Line}
use Rattle.line.specs.Refusal.{Verdict, refused, fine, next}
use Rattle.line.specs.declared.Kind.TheVariants.{Leaf}
use Rattle.table.specs.declared.Node.{Node}
use Rattle.table.specs.Nodes.{kinds_in}
use Rattle.table.specs.declared.Summary.{Summary}
use Rattle.table.specs.Table.{Table, read_text, grain}
use Rattle.table.specs.Slices.{kinds_of, fitted}
use Rattle.table.proofs.Laid.{fitted-at}
use Rattle.table.proofs.Accepted.{accepted-size}
use Rattle.scale.proofs.Taken.{Taken, of-table, zeros, zeros-enough}
use Rattle.judge.specs.Judge.{Judgement, no_decision, judged, judge}
use Rattle.judge.specs.Call.{told, judge_answer, judge_call}
use Rattle.report.specs.Report.{row_of, scored}
use Rattle.report.specs.Inside.{SmallJudgement}
use Rattle.report.proofs.Small.{judgement-small}
use Rattle.line.specs.Line.{code}
use Rattle.scoring.specs.Inside.{SmallJudged, SmallOpinion, entry_as, said}

-- ---- a judgement as the call tells it

told-small : (G : ℕ) (j : Judgement) → SmallJudgement G j → SmallJudged G (told j)
told-small G no_decision h = tt
told-small G (judged loss level) h = h

answer-small : (G : ℕ) (v : Verdict Judgement) → ((j : Judgement) → v ≡ fine j → SmallJudgement G j) → SmallOpinion G (judge_answer v)
answer-small G (refused r) h = tt
answer-small G (fine j) h = told-small G j (h j refl)

module _ (t : Table) (size : ℕ) where
  told-row : (j : Judgement) → entry_as (get_or (kinds_of t) 0 0) (grain t) size (Ok (told j)) ≡ said size (fine (row_of t j))
  told-row no_decision = refl
  told-row (judged loss level) = refl

  answer-row : (v : Verdict Judgement) → entry_as (get_or (kinds_of t) 0 0) (grain t) size (judge_answer v) ≡ said size (next v (λ (j : Judgement). fine (row_of t j)))
  answer-row (refused r) = refl
  answer-row (fine j) = told-row j

-- the first of the kinds as they were left
kind-left : (s : List ℕ) (t : Table) → read_text s ≡ fine t → get_or (fitted (kinds_of t) zeros) 0 0 ≡ get_or (kinds_of t) 0 0
kind-left s t p =
    fitted-at (kinds_of t) zeros (length t.lines) 0 (length-map t.lines (λ (l : Line). code l.kind)) (zeros-enough s t p) (omega (arith, accepted-size s t p))

-- the first node's kind is the first of the kinds
pub kind-first : (ns : List Node) → code (get_or ns 0 (record { kind = Leaf; stop = 0; weight = 0; height = 0 })).kind ≡ get_or (kinds_in ns) 0 0
kind-first [] = refl
kind-first (n ∷ ns) = refl

-- ---- from what the reading leaves, and what `judge_table` gave

module _ {s : List ℕ} {t : Summary} {K S W H : List ℕ} (G : Taken s t K S W H) (i : ℤ) (o : Result (Option Decision) Refusal) (given : o ≡ judge_call (read_text s) i) where
  same-opinion : (T : Table) → read_text s ≡ fine T → o ≡ judge_answer (judge T i)
  same-opinion T p = given ∙ ap (λ (v : Verdict Table). judge_call v i) p

  pub small_at : SmallOpinion t.grain o
  small_at =
      of-table G (λ t K S W H. SmallOpinion t.grain o) (λ T p.
      subst (SmallOpinion (grain T)) (sym (same-opinion T p)) (answer-small (grain T) (judge T i) (λ j e. judgement-small s T p i j e)))

  pub row_at : (size : ℕ) → entry_as (get_or K 0 0) t.grain size o ≡ said size (scored i s)
  row_at size =
      of-table G (λ t K S W H. entry_as (get_or K 0 0) t.grain size o ≡ said size (scored i s)) (λ T p.
      ap₂ (λ (k : ℕ) (o : Result (Option Decision) Refusal). entry_as k (grain T) size o) (kind-left s T p) (same-opinion T p)
      ∙ answer-row T size (judge T i)
      ∙ ap (λ (v : Verdict Table). said size (next v (λ (t : Table). next (judge t i) (λ (j : Judgement). fine (row_of t j))))) (sym p))
