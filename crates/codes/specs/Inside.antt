-- What the contracts of internal functions cite: numbers that fit. No promise of a public call names these.
use Rattle.line.specs.declared.Refusal.{Refusal}
use Rattle.worth.specs.declared.Exact.{Exact}
use Rattle.judge.specs.declared.Decision.{Decision}
use Rattle.rolled.specs.declared.RolledOut.{RolledOut}
use Rattle.report.specs.declared.Totals.{Totals}
use Rattle.report_call.specs.declared.Unreported.{Unreported}
use Rattle.std.specs.Prelude.{ℕ, ◌<◌, ◌≤◌, ◌^◌, Err, Ok, Result, Option}
use Rattle.line.specs.Refusal.{line_of}
use Rattle.table.specs.declared.Summary.{Summary}
use Rattle.table.specs.Root.{node_number}
use Rattle.search_call.specs.declared.Bounds.{Bounds}
use Rattle.report.specs.Inside.{SmallTotals}

-- a table's counts fit a signed number
pub record SmallSummary (t : Summary) : Type 0 where
  pub nodes : t.nodes < 2 ^ 63
  pub total : t.total < 2 ^ 63
  pub chances : t.chances < 2 ^ 63
  pub grain : t.grain < 2 ^ 63
  pub leaves : t.leaves < 2 ^ 63
  pub second : t.second < 2 ^ 63

-- a search's counts fit a signed number
pub record SmallBounds (b : Bounds) : Type 0 where
  pub play : node_number b.play < 2 ^ 63
  pub leaves : b.leaves < 2 ^ 63
  pub grain : b.grain < 2 ^ 63

-- what a call answers: its counts fit a signed number, and the line of a refusal is that of a refused table, or 0
abbrev pub SmallReading : Result Summary Refusal → Type 0
SmallReading (Ok t) = SmallSummary t
SmallReading (Err r) = line_of r ≤ 1024

abbrev pub SmallExact : Result Exact Refusal → Type 0
SmallExact (Ok w) = w.grain < 2 ^ 63
SmallExact (Err r) = line_of r ≤ 1024

abbrev pub SmallOpinion : Result (Option Decision) Refusal → Type 0
SmallOpinion (Ok j) = Unit {0}
SmallOpinion (Err r) = line_of r ≤ 1024

abbrev pub SmallBounded : Result Bounds Refusal → Type 0
SmallBounded (Ok b) = SmallBounds b
SmallBounded (Err r) = line_of r ≤ 1024

abbrev pub SmallRolled : Result RolledOut Refusal → Type 0
SmallRolled (Ok w) = w.leaves < 2 ^ 63
SmallRolled (Err r) = line_of r ≤ 1024

abbrev pub SmallTurned : Result ℕ Refusal → Type 0
SmallTurned (Ok n) = Unit {0}
SmallTurned (Err r) = line_of r ≤ 1024

abbrev pub SmallMade : Result ℕ Refusal → Type 0
SmallMade (Ok n) = n < 2 ^ 63
SmallMade (Err r) = line_of r ≤ 1024

abbrev pub SmallIndexed : Result Unit Refusal → Type 0
SmallIndexed (Ok tt) = Unit {0}
SmallIndexed (Err r) = line_of r ≤ 1024

-- a report's position is at most 501
abbrev pub SmallReported : Result Totals Unreported → Type 0
SmallReported (Ok t) = SmallTotals t
SmallReported (Err u) = (line_of u.refusal ≤ 1024) × (u.position ≤ 501)
