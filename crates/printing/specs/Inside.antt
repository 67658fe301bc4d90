-- What the contracts of private functions cite; no public promise names these.
use Rattle.std.specs.Prelude.{ℕ, zero, suc, ◌+◌, ◌*◌, ◌≤◌, ◌<◌, ◌^◌, cond, List, [], ◌∷◌, eqb, take, drop, pos, nat_abs}
use Rattle.field.specs.Field.{field_of}
use Rattle.line.specs.declared.Refusal.{Refusal}
use Rattle.line.specs.Refusal.{number_of, line_of}
use Rattle.line.specs.Line.{count_of}
use Rattle.table.specs.declared.Play.{Play}
use Rattle.table.specs.declared.Play.TheVariants.{Child, NoPlay}
use Rattle.search_call.specs.declared.Bounds.{Bounds}
use Rattle.printing.specs.Program.{WordLine, Low, High, Grain, Play as PlayWord, Leaves, Refuse, Line}

-- ---- the play

-- 1 for a node line under node 0
abbrev pub child_mark : List ℕ → ℕ
child_mark s = cond (eqb (count_of (field_of s 6 5)) 0) 1 0

-- how many of the nodes 1 to n stand under node 0, by the node lines s
unfoldable pub child_marks : List ℕ → ℕ → ℕ
child_marks s zero = 0
child_marks s (suc n) = child_marks s n + child_mark (take 25 (drop (25 * suc n) s))

-- the node of the play has its line in a text of so many bytes
abbrev pub Lined : ℕ → Play → Type 0
Lined size NoPlay = Unit {0}
Lined size (Child n) = (25 * n + 50 ≤ size) × (n ≤ 1024)

-- the number of the play, by the text of its table
abbrev pub play_marks : List ℕ → Play → ℕ
play_marks s NoPlay = 0
play_marks s (Child n) = child_marks (drop 25 s) n

-- ---- the rows

-- numbers that fit their columns
pub record Narrow (b : Bounds) (play : ℕ) : Type 0 where
  pub low : nat_abs b.low < 10 ^ 14
  pub high : nat_abs b.high < 10 ^ 14
  pub grain : b.grain < 10 ^ 15
  pub number : play < 10 ^ 15
  pub leaves : b.leaves ≤ 1024

abbrev pub bound_rows : Bounds → ℕ → List WordLine
bound_rows b play =
    record { word = Low; number = b.low }
    ∷ record { word = High; number = b.high }
    ∷ record { word = Grain; number = pos b.grain }
    ∷ record { word = PlayWord; number = pos play }
    ∷ record { word = Leaves; number = pos b.leaves }
    ∷ []

abbrev pub refusal_rows : Refusal → List WordLine
refusal_rows r = record { word = Refuse; number = pos (number_of r) } ∷ record { word = Line; number = pos (line_of r) } ∷ []
