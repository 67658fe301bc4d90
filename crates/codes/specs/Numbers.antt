-- Answers as numbers, for callers in other languages.
use Rattle.table.specs.declared.Summary.{Summary}
use Rattle.line.specs.declared.Refusal.{Refusal}
use Rattle.worth.specs.declared.Exact.{Exact}
use Rattle.judge.specs.declared.Decision.{Decision}
use Rattle.report_call.specs.declared.Unreported.{Unreported}
use Rattle.rolled.specs.declared.RolledOut.{RolledOut}
use Rattle.std.specs.Prelude.{ℕ, suc, ◌+◌, ◌*◌, cond, List, [], ◌∷◌, set, ℤ, pos, Err, None, Ok, Option, Result, Some}
use Rattle.line.specs.Refusal.{number_of, line_of}
use Rattle.table.specs.Root.{node_number}
use Rattle.worth.specs.Call.{exact_number, exact_line}
use Rattle.judge.specs.Call.{judge_number, judge_line}
use Rattle.turn_call.specs.Call.{turned_number, turned_line}
use Rattle.recipe_call.specs.Call.{made_number, made_line}
use Rattle.search_call.specs.declared.Bounds.{Bounds}
use Rattle.search_call.specs.Call.{search_number, search_line}
use Rattle.index_call.specs.Call.{index_number, index_line}
use Rattle.report.specs.declared.Totals.{Totals}
use Rattle.report_call.specs.Call.{report_number, report_line, report_position}
use Rattle.rolled.specs.Call.{roll_number, roll_line}

-- 0, or the refusal's line and number as one: the number in the last two decimal digits, so that 309 is refusal 9 at line 3
abbrev pub read_code : Result Summary Refusal → ℕ
read_code (Ok t) = 0
read_code (Err r) = 100 * line_of r + number_of r

-- the table's numbers, the second total last, 0 for none; no numbers where it is refused
abbrev pub numbers_of : Result Summary Refusal → List ℤ
numbers_of (Ok t) =
    pos t.nodes ∷ pos t.total ∷ t.lowest ∷ t.highest ∷ pos t.chances ∷ pos t.grain ∷ pos t.leaves ∷ pos t.second ∷ []
numbers_of (Err r) = []

-- the same of the exact worth: the worth and G
abbrev pub worth_code : Result Exact Refusal → ℕ
worth_code e = 100 * exact_line e + exact_number e

abbrev pub worth_numbers : Result Exact Refusal → List ℤ
worth_numbers (Ok w) = w.grains ∷ pos w.grain ∷ []
worth_numbers (Err r) = []

-- the same of a judgement: 1, the loss and the number of level children, or 0 where there is no decision
abbrev pub judge_code : Result (Option Decision) Refusal → ℕ
judge_code o = 100 * judge_line o + judge_number o

abbrev pub judged_numbers : Option Decision → List ℕ
judged_numbers None = 0 ∷ []
judged_numbers (Some d) = 1 ∷ d.loss ∷ d.level ∷ []

abbrev pub judge_numbers : Result (Option Decision) Refusal → List ℕ
judge_numbers (Ok j) = judged_numbers j
judge_numbers (Err r) = []

-- the same of a search: low, high, the node number of the play, 0 for none, the number of leaves read, G, the difference of the
-- bounds, and 1 where the budget was spent, else 0
abbrev pub search_code : Result Bounds Refusal → ℕ
search_code b = 100 * search_line b + search_number b

abbrev pub bounds_numbers : Bounds → List ℤ
bounds_numbers b =
    b.low ∷ b.high ∷ pos (node_number b.play) ∷ pos b.leaves ∷ pos b.grain ∷ b.difference ∷ pos (cond b.spent 1 0) ∷ []

abbrev pub search_numbers : Result Bounds Refusal → List ℤ
search_numbers (Ok b) = bounds_numbers b
search_numbers (Err r) = []

-- the same of rollouts: the worth and the number of leaves read
abbrev pub roll_code : Result RolledOut Refusal → ℕ
roll_code r = 100 * roll_line r + roll_number r

abbrev pub roll_numbers : Result RolledOut Refusal → List ℤ
roll_numbers (Ok w) = w.worth ∷ pos w.leaves ∷ []
roll_numbers (Err r) = []

-- the same of turning
abbrev pub turned_code : Result ℕ Refusal → ℕ
turned_code t = 100 * turned_line t + turned_number t

-- the same of a recipe: the number of bytes written
abbrev pub recipe_code : Result ℕ Refusal → ℕ
recipe_code m = 100 * made_line m + made_number m

abbrev pub recipe_numbers : Result ℕ Refusal → List ℤ
recipe_numbers (Ok n) = pos n ∷ []
recipe_numbers (Err r) = []

-- the same of building an index
abbrev pub index_code : Result Unit Refusal → ℕ
index_code i = 100 * index_line i + index_number i

-- the same of a report, with the position before the line, so that 2000309 is refusal 9 at line 3 of position 2
abbrev pub report_code : Result Totals Unreported → ℕ
report_code r = 1000000 * report_position r + (100 * report_line r + report_number r)

-- the number of positions, then of M and of N the number of decisions and the sum of the listed losses
abbrev pub totals_numbers : Totals → List ℤ
totals_numbers t =
    pos t.positions ∷ pos t.max.decisions ∷ pos t.max.sum ∷ pos t.min.decisions ∷ pos t.min.sum ∷ []

abbrev pub report_numbers : Result Totals Unreported → List ℤ
report_numbers (Ok t) = totals_numbers t
report_numbers (Err u) = []

module _ {A : Type 0} where
  -- the list l with xs written from its entry i on, as far as it goes
  abbrev pub put : ℕ → List A → List A → List A
  put i [] l = l
  put i (x ∷ xs) l = put (suc i) xs (set l i x)
