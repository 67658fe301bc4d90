-- What the call answers. Document 01, 'Grains' and 'Refused tables and calls'.
use Rattle.worth.specs.declared.Exact.{Exact}
use Rattle.line.specs.declared.Refusal.{Refusal}
use Rattle.std.specs.Prelude.{ℕ, Err, Ok, Result}
use Rattle.line.specs.Refusal.{Verdict, refused, fine, number_of, line_of}
use Rattle.table.specs.Table.{Table, grain}
use Rattle.worth.specs.Worth.{worth_of}

-- the exact worth in grains and G, or refusal 1 to 10 or 18
abbrev pub exact_call : Verdict Table → Result Exact Refusal
exact_call (refused r) = Err r
exact_call (fine t) = Ok (record { grains = worth_of t; grain = grain t })

-- document 01's number and line of every answer, 0 where there is no refusal
abbrev pub exact_number : Result Exact Refusal → ℕ
exact_number (Ok w) = 0
exact_number (Err r) = number_of r

abbrev pub exact_line : Result Exact Refusal → ℕ
exact_line (Ok w) = 0
exact_line (Err r) = line_of r
