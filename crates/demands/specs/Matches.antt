-- What holds of every match report. Document 02, Item 1; over files, at the public call, for any number of a scale. Marks.antt has what Item 11
-- says of it. proofs/Matches.antt has the theorems.
use Rattle.std.specs.Prelude.{ℕ, suc, ◌+◌, ◌≤◌, ◌<◌, ◌≡◌, List, ◌++◌, length, ℤ, Err, Ok}
use Rattle.line.specs.declared.Refusal.{Refusal}
use Rattle.line.specs.declared.Refusal.TheVariants.{TooMany}
use Rattle.line.specs.Refusal.{refused, number_of}
use Rattle.report.specs.declared.Row.{Row}
use Rattle.report.specs.declared.Totals.{Totals}
use Rattle.report.specs.Report.{position_of, kinds_in, losses_in}
use Rattle.report.specs.Files.{EachAlone, Whole, listed_total}
use Rattle.report_call.specs.Call.{report_call, report_kinds, report_losses, report_marks}

-- "1 is not given here"
abbrev pub NeverOne : Type 0
NeverOne = (file : List ℕ) (scale : ℤ) (room : ℕ) (r : Refusal) (k : ℕ) → report_call file scale room ≡ Err (record { refusal = r; position = k }) → number_of r ≡ 1 → ⊥

-- The entries are as many as the positions, and each is what `judge_play` says of that position alone.
pub record Entries (file : List ℕ) (scale : ℤ) (room : ℕ) (t : Totals) : Type 0 where
  pub rows : List Row
  pub positions : t.positions ≡ length rows
  pub alone : EachAlone file rows
  pub in-kinds : report_kinds file scale room ≡ kinds_in rows
  pub in-losses : report_losses file scale room ≡ losses_in rows

abbrev pub EntriesAlone : Type 0
EntriesAlone = (file : List ℕ) (scale : ℤ) (room : ℕ) (t : Totals) → report_call file scale room ≡ Ok t → Entries file scale room t

-- "for M and N the number of decisions and the sum of the listed losses": by what stands in the lists
abbrev pub ListsSum : Type 0
ListsSum =
    (file : List ℕ) (scale : ℤ) (room : ℕ) (t : Totals) → report_call file scale room ≡ Ok t
    → let K = report_kinds file scale room in
    let L = report_losses file scale room in
    (t.max.decisions ≡ listed_total 1 (λ x. 1) K L)
    × (t.max.sum ≡ listed_total 1 (λ x. x) K L)
    × (t.min.decisions ≡ listed_total 2 (λ x. 1) K L)
    × (t.min.sum ≡ listed_total 2 (λ x. x) K L)

-- A file made of two has the entries of both, where neither is refused, they are at most 500 together, and there is room for them.
abbrev pub TwoFiles : Type 0
TwoFiles =
    (a b : List ℕ) (scale : ℤ) (room : ℕ) (t u : Totals) → report_call a scale room ≡ Ok t → report_call b scale room ≡ Ok u
    → t.positions + u.positions ≤ 500 → t.positions + u.positions ≤ room
    → (v : Totals)
    × (report_call (a ++ b) scale room ≡ Ok v)
    × (v.positions ≡ t.positions + u.positions)
    × (report_kinds (a ++ b) scale room ≡ report_kinds a scale room ++ report_kinds b scale room)
    × (report_losses (a ++ b) scale room ≡ report_losses a scale room ++ report_losses b scale room)
    × (report_marks (a ++ b) scale room ≡ report_marks a scale room ++ report_marks b scale room)

-- "A position refused stops the report, which returns that refusal with the position's number, from 1": a file a whose report has fewer than
-- 500 positions, and then s, where a refused position begins; for any room, as 11 "comes last"
abbrev pub RefusedStops : Type 0
RefusedStops =
    (a s : List ℕ) (scale : ℤ) (room room' : ℕ) (t : Totals) (r : Refusal) → report_call a scale room ≡ Ok t → t.positions < 500 → 0 < length s
    → position_of s ≡ refused r → report_call (a ++ s) scale room' ≡ Err (record { refusal = r; position = suc t.positions })

-- whatever follows it: what comes after a position of which no byte is missing does not matter to it
abbrev pub OwnBytes : Type 0
OwnBytes = (s x : List ℕ) → Whole s → position_of (s ++ x) ≡ position_of s

-- "15, more than 500 positions, found when the next one begins", "and 15 has position 501"
abbrev pub TooManyStops : Type 0
TooManyStops =
    (a s : List ℕ) (scale : ℤ) (room room' : ℕ) (t : Totals) → report_call a scale room ≡ Ok t → t.positions ≡ 500 → 0 < length s
    → report_call (a ++ s) scale room' ≡ Err (record { refusal = TooMany; position = 501 })
