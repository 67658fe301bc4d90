-- Demand 1: what a refused call was lent is as it was.
use Rattle.std.proofs.Common.{Err, Ok, Result, Option}
use Rattle.worth.specs.declared.Exact.{Exact}
use Rattle.judge.specs.declared.Decision.{Decision}
use Rattle.mark.specs.declared.Marking.{Marking}
use Prim.Native.Nat.{ℕ}
use mathlib.Core.Path.{◌≡◌, refl, sym, ap, ◌∙◌}
use mathlib.Core.List.{List, [], ◌∷◌}
use native.Mathlib.Omega.{arith}
use lib.ListN.{length}
use lib.IntN.{ℤ}
use Rattle.line.specs.declared.Refusal.{Refusal}
use Rattle.line.specs.Refusal.{Verdict, refused, fine}
use Rattle.line.proofs.Numbers.{number-some}
use Rattle.table.specs.Table.{Table, read_text, answer}
use Rattle.table.specs.Slices.{laid, fitted, kinds_of, stops_of, weights_of, heights_of, decoded}
use Rattle.table.proofs.Top.{unchanged}
use Rattle.worth.specs.Call.{exact_call}
use Rattle.judge.specs.Call.{judge_call}
use Rattle.turn_call.specs.Call.{turn_of, turn_answer, turn_written}
use Rattle.recipe_call.specs.Call.{recipe_of, made_of, bytes_of}
use Rattle.search_call.specs.Call.{Sought, sought, sought_within, search_answer, search_list}
use Rattle.index.specs.Index.{lows_of, highs_of, written}
use Rattle.index_call.specs.Call.{indexed, index_answer, index_entries, sought_indexed, room_in as room_for_index}
use Rattle.rollout_call.specs.declared.Record.{Record}
use Rattle.rolled.specs.Call.{rolls, roll_answer, roll_list, roll_records}
use Rattle.rollout_call.specs.Records.{recorded}
use Rattle.report.specs.Report.{Outcome, stopped, rows, kinds_in, losses_in}
use Rattle.mark.specs.Marks.{choice_of}
use Rattle.report_call.specs.Call.{room_in, reported, report_answer, filled, marks_by}
use Rattle.codes.specs.Numbers.{read_code, numbers_of, worth_code, worth_numbers, judge_code, judge_numbers, search_code, search_numbers, roll_code, roll_numbers, turned_code, recipe_code, recipe_numbers, index_code, report_code, report_numbers, put}
use Rattle.demands.specs.Untouched.{Refuses, CodesRefuse, ReportCodesRefuse, SlicesKept, ReadUntouched, SearchUntouched, WithinUntouched, TurnUntouched, RecipeUntouched, IndexUntouched, IndexedUntouched, RollUntouched, ReportUntouched, CReadUntouched, CWorthUntouched, CJudgeUntouched, CSearchUntouched, CWithinUntouched, CTurnUntouched, CRecipeUntouched, CIndexUntouched, CIndexedUntouched, CRollUntouched, CReportUntouched}

slices-kept : (r : Refusal) (kind stop weight height : List ℕ) → SlicesKept (refused r) kind stop weight height
slices-kept r kind stop weight height =
    let kept : (f : Table → List ℕ) (a : List ℕ) → fitted (decoded f (refused r)) a ≡ a = λ f a. sym (unchanged f (refused r) r a refl) in
    (kept kinds_of kind, kept stops_of stop, kept weights_of weight, kept heights_of height)

-- ---- by the number that is returned; a call that is not refused returns 0

pub codes-refuse : CodesRefuse
codes-refuse r e = omega (arith, e, number-some r)

pub report-codes-refuse : ReportCodesRefuse
report-codes-refuse r k e = omega (arith, e, number-some r)

read-code : (v : Verdict Table) (numbers : List ℤ) (kind stop weight height : List ℕ) → Refuses (read_code (answer v))
    → (put 0 (numbers_of (answer v)) numbers ≡ numbers) × SlicesKept v kind stop weight height
read-code (refused r) numbers kind stop weight height c = (refl, slices-kept r kind stop weight height)
read-code (fine t) numbers kind stop weight height c = absurd (c refl)

worth-code : (e : Result Exact Refusal) (numbers : List ℤ) → Refuses (worth_code e) → put 0 (worth_numbers e) numbers ≡ numbers
worth-code (Ok w) numbers c = absurd (c refl)
worth-code (Err r) numbers c = refl

judge-code : (o : Result (Option Decision) Refusal) (numbers : List ℕ) → Refuses (judge_code o) → put 0 (judge_numbers o) numbers ≡ numbers
judge-code (Ok j) numbers c = absurd (c refl)
judge-code (Err r) numbers c = refl

search-code : (v : Verdict Sought) (list : List ℕ) (numbers : List ℤ) → Refuses (search_code (search_answer v))
    → (put 0 (search_numbers (search_answer v)) numbers ≡ numbers) × (laid (search_list v) list ≡ list)
search-code (refused r) list numbers c = (refl, refl)
search-code (fine s) list numbers c = absurd (c refl)

turn-code : (v : Verdict (List ℕ)) (buffer : List ℕ) → Refuses (turned_code (turn_answer v)) → laid (turn_written v) buffer ≡ buffer
turn-code (refused r) buffer c = refl
turn-code (fine s) buffer c = absurd (c refl)

recipe-code : (v : Verdict (List ℕ)) (buffer : List ℕ) (numbers : List ℤ) → Refuses (recipe_code (made_of v))
    → (put 0 (recipe_numbers (made_of v)) numbers ≡ numbers) × (laid (bytes_of v) buffer ≡ buffer)
recipe-code (refused r) buffer numbers c = (refl, refl)
recipe-code (fine s) buffer numbers c = absurd (c refl)

written_none : (l : List ℤ) → written [] l ≡ l
unfolding written
written_none [] = refl
written_none (z ∷ l) = refl

index-code : (v : Verdict Table) (lows highs : List ℤ) → Refuses (index_code (index_answer v))
    → (written (index_entries lows_of v) lows ≡ lows) × (written (index_entries highs_of v) highs ≡ highs)
index-code (refused r) lows highs c = (written_none lows, written_none highs)
index-code (fine t) lows highs c = absurd (c refl)

roll-code : (p : List ℕ) (v : Verdict Table) (list : List ℕ) (store : List Record) (numbers : List ℤ) → Refuses (roll_code (roll_answer p v))
    → (put 0 (roll_numbers (roll_answer p v)) numbers ≡ numbers) × (laid (roll_list p v) list ≡ list) × (recorded (roll_records p v) store ≡ store)
roll-code p (refused r) list store numbers c = (refl, refl, refl)
roll-code p (fine t) list store numbers c = absurd (c refl)

report-code : (s : Result Marking Refusal) (o : Outcome) (kinds : List ℕ) (losses : List ℤ) (marks : List ℕ) (numbers : List ℤ) → Refuses (report_code (report_answer o))
    → (put 0 (report_numbers (report_answer o)) numbers ≡ numbers)
    × ((laid (kinds_in (filled o)) kinds ≡ kinds) × (laid (losses_in (filled o)) losses ≡ losses) × (laid (marks_by s (filled o)) marks ≡ marks))
report-code (Err q) (stopped r k) kinds losses marks numbers c = (refl, (refl, refl, refl))
report-code (Ok s) (stopped r k) kinds losses marks numbers c = (refl, (refl, refl, refl))
report-code s (rows rs) kinds losses marks numbers c = absurd (c refl)

pub c-read-untouched : CReadUntouched
c-read-untouched s numbers kind stop weight height c = read-code (read_text s) numbers kind stop weight height c

pub c-worth-untouched : CWorthUntouched
c-worth-untouched s numbers c = worth-code (exact_call (read_text s)) numbers c

pub c-judge-untouched : CJudgeUntouched
c-judge-untouched s number numbers c = judge-code (judge_call (read_text s) number) numbers c

pub c-search-untouched : CSearchUntouched
c-search-untouched s m list numbers c = search-code (sought (read_text s) m (length list)) list numbers c

pub c-within-untouched : CWithinUntouched
c-within-untouched s m b list numbers c = search-code (sought_within (read_text s) m b (length list)) list numbers c

pub c-turn-untouched : CTurnUntouched
c-turn-untouched s buffer c = turn-code (turn_of (read_text s) (length buffer)) buffer c

pub c-recipe-untouched : CRecipeUntouched
c-recipe-untouched seed branching depth dice buffer numbers c = recipe-code (recipe_of seed branching depth dice (length buffer)) buffer numbers c

pub c-index-untouched : CIndexUntouched
c-index-untouched s lows highs c = index-code (indexed (read_text s) (room_for_index lows highs)) lows highs c

pub c-indexed-untouched : CIndexedUntouched
c-indexed-untouched s m lows highs list numbers c = search-code (sought_indexed (read_text s) m lows highs (length list)) list numbers c

pub c-roll-untouched : CRollUntouched
c-roll-untouched s p list store numbers c = roll-code p (rolls (read_text s) (length list) (length store)) list store numbers c

pub c-report-untouched : CReportUntouched
c-report-untouched file scale kinds losses marks numbers c =
    report-code (choice_of scale) (reported file scale (room_in kinds losses marks)) kinds losses marks numbers c

-- ---- by the answer: a refusal's number is not 0

pub read-untouched : ReadUntouched
read-untouched s kind stop weight height r e =
    (c-read-untouched s [] kind stop weight height (λ z. codes-refuse r (sym (ap read_code e) ∙ z))).1

pub search-untouched : SearchUntouched
search-untouched s m list r e = (c-search-untouched s m list [] (λ z. codes-refuse r (sym (ap search_code e) ∙ z))).1

pub within-untouched : WithinUntouched
within-untouched s m b list r e = (c-within-untouched s m b list [] (λ z. codes-refuse r (sym (ap search_code e) ∙ z))).1

pub turn-untouched : TurnUntouched
turn-untouched s buffer r e = c-turn-untouched s buffer (λ z. codes-refuse r (sym (ap turned_code e) ∙ z))

pub recipe-untouched : RecipeUntouched
recipe-untouched seed branching depth dice buffer r e =
    (c-recipe-untouched seed branching depth dice buffer [] (λ z. codes-refuse r (sym (ap recipe_code e) ∙ z))).1

pub index-untouched : IndexUntouched
index-untouched s lows highs r e = c-index-untouched s lows highs (λ z. codes-refuse r (sym (ap index_code e) ∙ z))

pub indexed-untouched : IndexedUntouched
indexed-untouched s m lows highs list r e = (c-indexed-untouched s m lows highs list [] (λ z. codes-refuse r (sym (ap search_code e) ∙ z))).1

pub roll-untouched : RollUntouched
roll-untouched s p list store r e =
    let k = c-roll-untouched s p list store [] (λ z. codes-refuse r (sym (ap roll_code e) ∙ z)) in
    (k.1, k.2)

pub report-untouched : ReportUntouched
report-untouched file scale kinds losses marks r k e =
    (c-report-untouched file scale kinds losses marks [] (λ z. report-codes-refuse r k (sym (ap report_code e) ∙ z))).1
