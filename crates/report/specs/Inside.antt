-- What the contracts of internal functions cite: numbers that fit. No promise of a public call names these.
use Rattle.std.specs.Prelude.{ℕ, ◌*◌, ◌≤◌, ◌<◌, None, Option, Some}
use Rattle.line.specs.Line.{to_nat}
use Rattle.judge.specs.Judge.{Judgement, no_decision, judged}
use Rattle.report.specs.declared.Tally.{Tally}
use Rattle.report.specs.declared.Totals.{Totals}

-- a loss of a table with this grain count
pub record Small (G loss : ℕ) : Type 0 where
  pub some : 0 < G
  pub most : loss ≤ 2000000 * G
  pub grains : G ≤ 16777216

abbrev pub SmallJudgement : ℕ → Judgement → Type 0
SmallJudgement G no_decision = Unit {0}
SmallJudgement G (judged loss level) = Small G (to_nat loss)

-- a listed loss: at most 2,000,000 points
abbrev pub SmallLoss : Option ℕ → Type 0
SmallLoss None = Unit {0}
SmallLoss (Some n) = n ≤ 2000000000

pub record SmallTally (t : Tally) : Type 0 where
  pub decisions : t.decisions ≤ 500
  pub sum : t.sum ≤ 1000000000000

pub record SmallTotals (t : Totals) : Type 0 where
  pub positions : t.positions ≤ 500
  pub max : SmallTally t.max
  pub min : SmallTally t.min
