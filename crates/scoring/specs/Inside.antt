-- What the contracts of this crate cite; no promise of a public call names these.
use Rattle.judge.specs.declared.Decision.{Decision}
use Rattle.line.specs.declared.Refusal.{Refusal}
use Rattle.scoring.specs.declared.Scored.{Scored}
use Rattle.std.specs.Prelude.{ℕ, cond, List, ltb, drop, Err, None, Ok, Option, Result, Some}
use Rattle.field.specs.declared.Field.{Field}
use Rattle.line.specs.Refusal.{Verdict, refused, fine}
use Rattle.line.specs.Line.{count_of}
use Rattle.judge.specs.Inside.{judged_of}
use Rattle.report.specs.declared.Row.{Row}
use Rattle.report.specs.Report.{size_of, loss_of, position_of}
use Rattle.report.specs.Inside.{Small}

-- a header's count where it is 1 to 1,024, else 1
abbrev pub claim_of : Field → ℕ
claim_of f = cond (ltb (count_of f) 1) 1 (cond (ltb 1024 (count_of f)) 1 (count_of f))

abbrev pub count_shown : Result ℕ Refusal → Verdict ℕ
count_shown (Err r) = refused r
count_shown (Ok n) = fine n

-- a judgement of a table with this grain count: its loss fits
abbrev pub SmallJudged : ℕ → Option Decision → Type 0
SmallJudged G None = Unit {0}
SmallJudged G (Some d) = Small G d.loss

abbrev pub SmallOpinion : ℕ → Result (Option Decision) Refusal → Type 0
SmallOpinion G (Err r) = Unit {0}
SmallOpinion G (Ok j) = SmallJudged G j

-- what judging says, as the entry of a position of so many bytes
abbrev pub entry_as : (kind G size : ℕ) → Result (Option Decision) Refusal → Result Scored Refusal
entry_as kind G size (Err r) = Err r
entry_as kind G size (Ok j) = Ok (record { row = record { kind = kind; loss = loss_of G (judged_of j) }; size = size })

-- the answer for a position of the definition, of so many bytes
abbrev pub said : (size : ℕ) → Verdict Row → Result Scored Refusal
said size (refused r) = Err r
said size (fine r) = Ok (record { row = r; size = size })

-- the position at the front of s, and the one that begins at a byte of the file
abbrev pub said_of : List ℕ → Result Scored Refusal
said_of s = said (size_of s) (position_of s)

abbrev pub said_at : List ℕ → ℕ → Result Scored Refusal
said_at file at = said_of (drop at file)
