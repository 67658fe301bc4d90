-- Forced plays. Document 02, Item 2; over texts and files, at the public calls. proofs/Forced.antt has the theorems.
use Rattle.std.specs.Prelude.{ℕ, ◌≤◌, ◌≡◌, List, ℤ, pos, Err, None, Ok}
use Rattle.std.proofs.Math.Option.{none, some}
use Rattle.line.specs.declared.Refusal.TheVariants.{NoChild}
use Rattle.line.specs.Refusal.{refused, fine}
use Rattle.line.specs.Line.{value_of}
use Rattle.table.specs.Table.{Table, tree, read_text}
use Rattle.table.specs.declared.Play.TheVariants.{Child}
use Rattle.table.specs.Root.{Side, to_play, root_of, child_node, child_count}
use Rattle.judge.specs.Judge.{judge_every}
use Rattle.judge.specs.Call.{judge_answer, judge_call}
use Rattle.search_call.specs.declared.Bounds.{Bounds}
use Rattle.search_call.specs.Call.{search_call}
use Rattle.report.specs.declared.Totals.{Totals}
use Rattle.report.specs.Report.{play_in, table_in, position_of}
use Rattle.report.specs.Files.{tables_of, decisions_in}
use Rattle.report_call.specs.Call.{report_call}
use Rattle.demands.specs.Matches.{Entries}

-- ---- judging

-- "A root of kind M or N with a single child is judged "no decision", as a C or L root is, for every play number." A C with a single child is one
-- of the latter, so the kind is not asked for.
abbrev pub ForcedNoDecision : Type 0
ForcedNoDecision = (s : List ℕ) (t : Table) (i : ℤ) → read_text s ≡ fine t → child_count t ≡ 1 → judge_call (read_text s) i ≡ Ok None

-- with two children or more the play is judged as in document 01; the level children are Item 8's
abbrev pub ChoiceAsBefore : Type 0
ChoiceAsBefore =
    (s : List ℕ) (t : Table) (i : ℤ) → read_text s ≡ fine t → 2 ≤ child_count t → judge_call (read_text s) i ≡ judge_answer (judge_every t i)

-- "Refusal 14 now needs a root with two children or more": of kind M or N, in an accepted text s, and no child with the number i
pub record Fourteen (s : List ℕ) (i : ℤ) : Type 0 where
  pub table : Table
  pub read : read_text s ≡ fine table
  pub side : Side
  pub root : root_of (tree table) ≡ to_play side
  pub several : 2 ≤ child_count table
  pub missing : child_node table i ≡ none

-- judging refuses 14 there, and only there
abbrev pub FourteenNeeds : Type 0
FourteenNeeds =
    (s : List ℕ) (i : ℤ) → (judge_call (read_text s) i ≡ Err NoChild → Fourteen s i) × (Fourteen s i → judge_call (read_text s) i ≡ Err NoChild)

-- and a position of a match file is refused 14 only there
abbrev pub PositionFourteen : Type 0
PositionFourteen = (s : List ℕ) → position_of s ≡ refused NoChild → Fourteen (table_in s) (value_of (play_in s))

-- Item 2 is about judging: the search still names the play at an M or N root with a single child. Document 01, 'The search': "At an M root it is
-- the first child entered that has the highest low; at an N root the first with the lowest high"
abbrev pub StillNamed : Type 0
StillNamed =
    (s : List ℕ) (t : Table) (m : ℤ) (room : ℕ) (b : Bounds) (side : Side) → read_text s ≡ fine t → root_of (tree t) ≡ to_play side → child_count t ≡ 1
    → search_call (read_text s) m room ≡ Ok b → (n : ℕ) × (b.play ≡ Child n) × (child_node t (pos 1) ≡ some n)

-- ---- "The report's counts follow."

-- a side's decisions are as many as the positions whose root is of its kind with two children or more; every report has such entries E
-- (Matches.EntriesAlone)
abbrev pub CountsFollow : Type 0
CountsFollow =
    (file : List ℕ) (scale : ℤ) (room : ℕ) (t : Totals) → report_call file scale room ≡ Ok t → (E : Entries file scale room t)
    → (t.max.decisions ≡ decisions_in 1 (tables_of file E.rows E.alone)) × (t.min.decisions ≡ decisions_in 2 (tables_of file E.rows E.alone))
