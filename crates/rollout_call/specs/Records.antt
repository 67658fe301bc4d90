-- The lent store after the call `rollouts`. Document 01, 'Rollouts': "kept in a lent slice of records, one record for each node"; 'Refused tables and
-- calls': "records past the nodes .. stay unchanged".
use Rattle.std.specs.Prelude.{List, ◌++◌, map, length, drop, ℤ}
use Rattle.rollout.specs.Rollout.{Pair}
use Rattle.rollout_call.specs.declared.Record.{Record}

-- a store with these bounds in its first records
abbrev pub record_of : Pair ℤ → Record
record_of r = record { low = r.low; high = r.high }

abbrev pub recorded : List (Pair ℤ) → List Record → List Record
recorded rs st = map record_of rs ++ drop (length rs) st
