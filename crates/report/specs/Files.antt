-- What the theorems on match files say (demands/specs/Matches and Forced). Document 02, Items 1 and 2.
use Rattle.std.specs.Prelude.{ℕ, ◌+◌, ◌≤◌, ◌≡◌, Bool, false, ◌&&◌, cond, List, [], ◌∷◌, eqb, leb, length, get_or, take, drop, ℤ, pos, negsuc, Ok}
use Rattle.line.specs.Refusal.{Verdict, fine, unless}
use Rattle.line.specs.Line.{value_of}
use Rattle.table.specs.Table.{Table, read_text}
use Rattle.table.specs.Slices.{kinds_of}
use Rattle.table.specs.Root.{child_count}
use Rattle.judge.specs.Judge.{Judgement}
use Rattle.judge.specs.Call.{told, judge_call}
use Rattle.report.specs.declared.Row.{Row}
use Rattle.report.specs.Report.{play_in, head_in, nodes_in, size_of, bad_start, head_checks, row_of, position_of}

-- p is one position and nothing else, and the entry r is what `judge_play` says of its play and its table
pub record Alone (p : List ℕ) (r : Row) : Type 0 where
  pub table : Table
  pub judgement : Judgement
  pub long : length p ≡ size_of p
  pub read : read_text (drop 5 p) ≡ fine table
  pub judged : judge_call (read_text (drop 5 p)) (value_of (play_in p)) ≡ Ok (told judgement)
  pub entry : r ≡ row_of table judgement
  pub alone : position_of p ≡ fine r

-- the file s is as many such positions as there are entries, one after another
abbrev pub EachAlone : List ℕ → List Row → Type 0
EachAlone s [] = s ≡ []
EachAlone s (r ∷ rs) = Alone (take (size_of s) s) r × EachAlone (drop (size_of s) s) rs

-- the tables of these positions
abbrev pub tables_of : (s : List ℕ) (rs : List Row) → EachAlone s rs → List Table
tables_of s [] e = []
tables_of s (r ∷ rs) e = e.0.table ∷ tables_of (drop (size_of s) s) rs e.1

-- a decision (Item 2): a root of this kind, 1 for M and 2 for N, with "two children or more"
abbrev pub decides : (side : ℕ) → Table → Bool
decides side t = eqb (get_or (kinds_of t) 0 0) side && leb 2 (child_count t)

-- in how many of the tables there is one
unfoldable pub decisions_in : (side : ℕ) → List Table → ℕ
decisions_in side [] = 0
decisions_in side (t ∷ ts) = cond (decides side t) 1 0 + decisions_in side ts

-- the number of nodes in the header of the position at the front, or 2, 3, 4
abbrev pub head_is : List ℕ → Verdict ℕ
head_is s = unless (head_checks (head_in s)) (nodes_in s)

-- no byte of the position at the front is missing: of one that is refused before its lines are counted 30 bytes are enough
pub record Whole (s : List ℕ) : Type 0 where
  pub head : 30 ≤ length s
  pub lines : bad_start s ≡ false → (n : ℕ) → head_is s ≡ fine n → size_of s ≤ length s

-- n of a loss that is listed beside the side's kind; -1 is no loss
abbrev pub counts_in : (side : ℕ) → (ℕ → ℕ) → (kind : ℕ) → ℤ → ℕ
counts_in side n kind (pos loss) = cond (eqb kind side) (n loss) 0
counts_in side n kind (negsuc m) = 0

-- the sum over the lists of kinds and losses as a report fills them
unfoldable pub listed_total : (side : ℕ) → (ℕ → ℕ) → List ℕ → List ℤ → ℕ
listed_total side n [] ls = 0
listed_total side n (k ∷ ks) [] = 0
listed_total side n (k ∷ ks) (l ∷ ls) = counts_in side n k l + listed_total side n ks ls
