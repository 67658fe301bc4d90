-- A match file and its report. Document 02, Item 1.
use Rattle.std.specs.Prelude.{ℕ, zero, suc, ◌+◌, ◌*◌, ◌/◌, Bool, not, ◌||◌, cond, List, [], ◌∷◌, ◌++◌, map, eqb, ltb, length, get_or, take, drop, ℤ, pos, negsuc, None, Option, Some}
use Rattle.field.specs.declared.Field.{Field}
use Rattle.field.specs.Field.{field_of}
use Rattle.line.specs.declared.Refusal.{Refusal}
use Rattle.line.specs.declared.Refusal.TheVariants.{IllWritten, OutOfRange, Misnumbered, TooMany, NoPosition}
use Rattle.line.specs.Refusal.{Verdict, refused, fine, Check, unless, next}
use Rattle.line.specs.Line.{is_ill, is_blank, outside, value_of, to_nat, count_of, heading_of, ill_heading, wide_heading}
use Rattle.table.specs.Table.{Table, read_text, grain}
use Rattle.table.specs.Slices.{kinds_of}
use Rattle.judge.specs.Judge.{Judgement, no_decision, judged, judge}
use Rattle.report.specs.declared.Row.{Row}
use Rattle.report.specs.declared.Tally.{Tally}
use Rattle.report.specs.declared.Totals.{Totals}

-- ---- what a position holds; s is the file from its first byte on

-- "a play number in 4 columns"
abbrev pub play_in : List ℕ → Field
play_in s = field_of s 0 4

-- "then a table": its header is a line of 25 bytes
abbrev pub head_in : List ℕ → List ℕ
head_in s = take 25 (drop 5 s)

-- the number of nodes by its header
abbrev pub nodes_in : List ℕ → ℕ
nodes_in s = count_of (heading_of (head_in s)).count

-- "a table whose length its header count gives"
abbrev pub table_in : List ℕ → List ℕ
table_in s = take (25 + 25 * nodes_in s) (drop 5 s)

-- the bytes of the whole position
abbrev pub size_of : List ℕ → ℕ
size_of s = 30 + 25 * nodes_in s

-- ---- its refusals

-- 16: "an ill-written play-number line or fewer than 30 bytes left"; the newline is byte 5, and a blank number is ill-written
abbrev pub bad_start : List ℕ → Bool
bad_start s = ltb (length s) 30 || not (eqb (get_or s 4 0) 10) || is_ill (play_in s) || is_blank (play_in s)

-- "Then the header is checked by 2 and 3, a count outside 1 to 1,024 is 4"
abbrev pub head_checks : List ℕ → List Check
head_checks line =
    record { holds = ill_heading (get_or line 24 0) (heading_of line); gives = IllWritten 0 }
    ∷ record { holds = wide_heading (heading_of line); gives = OutOfRange 0 }
    ∷ record { holds = outside (pos 1) (pos 1024) (heading_of line).count; gives = Misnumbered 0 }
    ∷ []

-- "16, .. Then the header .., and missing node lines are 16; 1 is not given here": that 1 is never given is a theorem
-- (demands/Matches.NeverOne)
abbrev pub position_checks : List ℕ → List Check
position_checks s =
    record { holds = bad_start s; gives = NoPosition }
    ∷ (head_checks (head_in s) ++ (record { holds = ltb (length s) (size_of s); gives = NoPosition } ∷ []))

-- ---- its entry

-- "the loss in thousandths of a point (loss × 1,000 divided by the grain, rounded down)"
abbrev pub thousandths : (loss G : ℕ) → ℕ
thousandths loss G = (loss * 1000) / G

-- ""no decision" or the loss"; that a loss is never below zero is a theorem (judge/proofs/Judge.loss-natural)
abbrev pub loss_of : (G : ℕ) → Judgement → Option ℕ
loss_of G no_decision = None
loss_of G (judged loss level) = Some (thousandths (to_nat loss) G)

-- "for each position the root's kind, and "no decision" or the loss": the kind is 0 for L, 1 for M, 2 for N, 3 for C
abbrev pub row_of : Table → Judgement → Row
row_of t j = record { kind = get_or (kinds_of t) 0 0; loss = loss_of (grain t) j }

-- the play i of a table's text, judged: the table's own refusals, then 14
abbrev pub scored : ℤ → List ℕ → Verdict Row
scored i text = next (read_text text) (λ (t : Table). next (judge t i) (λ (j : Judgement). fine (row_of t j)))

unfoldable pub position_of : List ℕ → Verdict Row
position_of s = next (unless (position_checks s) (table_in s)) (scored (value_of (play_in s)))

-- ---- the match

-- the entries, or a refusal with its position
pub data Outcome : Type 0 where
  stopped : Refusal → (position : ℕ) → Outcome
  rows : List Row → Outcome

-- entries with others in front of them
abbrev pub after : List Row → Outcome → Outcome
after done (stopped r k) = stopped r k
after done (rows rs) = rows (done ++ rs)

-- the k-th position, and what the rest of the file gives: "A position refused stops the report, which returns that refusal with the
-- position's number"
abbrev pub reached : (k : ℕ) (rest : Outcome) → Verdict Row → Outcome
reached k rest (refused r) = stopped r k
reached k rest (fine r) = after (r ∷ []) rest

-- where nothing is left of the file, no position begins: "An empty file gives zeros"
abbrev pub begins : List ℕ → Outcome → Outcome
begins [] o = rows []
begins (b ∷ s) o = o

-- "positions one after another", from the k-th on, with room for `left` more: "15, more than 500 positions, found when the next one begins"
unfoldable pub match_from : (left k : ℕ) → List ℕ → Outcome
match_from zero k s = begins s (stopped TooMany k)
match_from (suc left) k s = begins s (reached k (match_from left (suc k) (drop (size_of s) s)) (position_of s))

-- positions count "from 1", and so "15 has position 501"
abbrev pub match_of : List ℕ → Outcome
match_of file = match_from 500 1 file

-- ---- what is listed, and the totals

abbrev pub kinds_in : List Row → List ℕ
kinds_in rs = map (λ (r : Row). r.kind) rs

-- in the list of losses -1 stands for "no decision"
abbrev pub loss_code : Option ℕ → ℤ
loss_code None = negsuc 0
loss_code (Some n) = pos n

abbrev pub losses_in : List Row → List ℤ
losses_in rs = map (λ (r : Row). loss_code r.loss) rs

-- ""No decision" positions count for neither side": n of the listed loss, where the decision is of the side's kind
abbrev pub counts : (side : ℕ) → (ℕ → ℕ) → (kind : ℕ) → Option ℕ → ℕ
counts side n kind None = 0
counts side n kind (Some l) = cond (eqb kind side) (n l) 0

unfoldable pub total_of : (side : ℕ) → (ℕ → ℕ) → List Row → ℕ
total_of side n [] = 0
total_of side n (r ∷ rs) = counts side n r.kind r.loss + total_of side n rs

-- "the number of decisions and the sum of the listed losses" of a side
abbrev pub tally_of : (side : ℕ) → List Row → Tally
tally_of side rs = record { decisions = total_of side (λ x. 1) rs; sum = total_of side (λ x. x) rs }

-- "It returns the number of positions, and for M and N the number of decisions and the sum of the listed losses": M is 1, N is 2
abbrev pub totals_of : List Row → Totals
totals_of rs = record { positions = length rs; max = tally_of 1 rs; min = tally_of 2 rs }
