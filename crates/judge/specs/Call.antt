-- What the call answers. Document 01, 'Judging and turning' and 'Refused tables and calls', and document 02, Items 2 and 8.
use Rattle.judge.specs.declared.Decision.{Decision}
use Rattle.line.specs.declared.Refusal.{Refusal}
use Rattle.std.specs.Prelude.{ℕ, ℤ, Err, None, Ok, Option, Result, Some}
use Rattle.line.specs.Refusal.{Verdict, refused, fine, next, number_of, line_of}
use Rattle.line.specs.Line.{to_nat}
use Rattle.table.specs.Table.{Table}
use Rattle.judge.specs.Judge.{Judgement, no_decision, judged, judge}

-- a judgement as the call gives it; that a loss is never below zero is a theorem (proofs/Judge.loss-natural)
abbrev pub told : Judgement → Option Decision
told no_decision = None
told (judged loss level) = Some (record { loss = to_nat loss; level = level })

abbrev pub judge_answer : Verdict Judgement → Result (Option Decision) Refusal
judge_answer (refused r) = Err r
judge_answer (fine j) = Ok (told j)

-- the judgement of root child number i, or refusal 1 to 10 or 18, then 14
abbrev pub judge_call : Verdict Table → ℤ → Result (Option Decision) Refusal
judge_call v i = judge_answer (next v (λ (t : Table). judge t i))

-- document 01's number and line of every answer, 0 where there is no refusal
abbrev pub judge_number : Result (Option Decision) Refusal → ℕ
judge_number (Ok j) = 0
judge_number (Err r) = number_of r

abbrev pub judge_line : Result (Option Decision) Refusal → ℕ
judge_line (Ok j) = 0
judge_line (Err r) = line_of r
