-- What the contracts of internal functions cite; no promise of a public call names these.
use Rattle.report_call.specs.declared.Unreported.{Unreported}
use Rattle.std.specs.Prelude.{ℕ, ◌+◌, ◌≡◌, List, ℤ, Err, Ok, Option, Result}
use Rattle.table.specs.Slices.{laid}
use Rattle.report.specs.declared.Row.{Row}
use Rattle.report.specs.declared.Tally.{Tally}
use Rattle.report.specs.declared.Totals.{Totals}
use Rattle.report.specs.Report.{Outcome, stopped, rows, match_of, counts, totals_of, kinds_in, losses_in}
use Rattle.mark.specs.declared.Marking.{Marking}
use Rattle.mark.specs.Marks.{marks_in}
use Rattle.report_call.specs.Call.{room_in, fit}

-- a tally, and the totals, with one entry more
abbrev pub with_loss : Tally → (side kind : ℕ) → Option ℕ → Tally
with_loss t side kind l =
    record { decisions = t.decisions + counts side (λ x. 1) kind l; sum = t.sum + counts side (λ x. x) kind l }

abbrev pub with_row : Totals → Row → Totals
with_row t r =
    record { positions = t.positions + 1; max = with_loss t.max 1 r.kind r.loss; min = with_loss t.min 2 r.kind r.loss }

-- the match o, read by a scale into three lists: k, l and m as they came, then as they are
abbrev pub Reads : Outcome → Marking → Result Totals Unreported → (k : List ℕ) (l : List ℤ) (m k' : List ℕ) (l' : List ℤ) (m' : List ℕ) → Type 0
Reads (stopped q n) scale r k l m k' l' m' = r ≡ Err (record { refusal = q; position = n })
Reads (rows rs) scale r k l m k' l' m' =
    (r ≡ Ok (totals_of rs)) × (k' ≡ laid (kinds_in rs) k) × (l' ≡ laid (losses_in rs) l) × (m' ≡ laid (marks_in scale rs) m)

-- what a file gives with the room in these three lists
abbrev pub match_in : (file kinds : List ℕ) (losses : List ℤ) (marks : List ℕ) → Outcome
match_in file kinds losses marks = fit (room_in kinds losses marks) (match_of file)
