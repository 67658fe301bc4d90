-- Refusals of a table, 1 to 10 and 18, of a call on an accepted one, 11 to 14, 17 and 22, of a match file, 15 and 16, of a recipe, 19,
-- and of a report's scale, 20. Document 01, 'Refused tables and calls'; document 02, Items 1, 3, 5, 7, 11 and 14.
use Rattle.std.specs.Prelude.{ℕ, Bool, cond, List, [], ◌∷◌}
use Rattle.line.specs.declared.Refusal.{Refusal}
use Rattle.line.specs.declared.Refusal.TheVariants.{Length, IllWritten, OutOfRange, Misnumbered, UnknownKind, WrongParent, Misfilled, Childless, WrongSum, TooDeep, NoRoom, BadMargin, HasChance, NoChild, TooMany, NoPosition, BadBudget, TooManyGrains, BadRecipe, BadScale, BadIndex}

-- "Returned": the number and the line of every refusal; of Item 1, "15 and 16 have line 0"; of Item 3, "A refusal for which no line
-- is named has line 0, here and later"; of Item 5, "18, a grain count above 16,777,216, after 9, line 0"; of Item 11, "20, another scale number, ..
-- line 0"
abbrev pub number_of : Refusal → ℕ
number_of Length = 1
number_of (IllWritten line) = 2
number_of (OutOfRange line) = 3
number_of (Misnumbered line) = 4
number_of (UnknownKind line) = 5
number_of (WrongParent line) = 6
number_of (Misfilled line) = 7
number_of (Childless line) = 8
number_of (WrongSum line) = 9
number_of (TooDeep line) = 10
number_of NoRoom = 11
number_of BadMargin = 12
number_of HasChance = 13
number_of NoChild = 14
number_of TooMany = 15
number_of NoPosition = 16
number_of BadBudget = 17
number_of TooManyGrains = 18
number_of BadRecipe = 19
number_of BadScale = 20
number_of BadIndex = 22

abbrev pub line_of : Refusal → ℕ
line_of Length = 0
line_of (IllWritten line) = line
line_of (OutOfRange line) = line
line_of (Misnumbered line) = line
line_of (UnknownKind line) = line
line_of (WrongParent line) = line
line_of (Misfilled line) = line
line_of (Childless line) = line
line_of (WrongSum line) = line
line_of (TooDeep line) = line
line_of NoRoom = 0
line_of BadMargin = 0
line_of HasChance = 0
line_of NoChild = 0
line_of TooMany = 0
line_of NoPosition = 0
line_of BadBudget = 0
line_of TooManyGrains = 0
line_of BadRecipe = 0
line_of BadScale = 0
line_of BadIndex = 0

-- what a step of the reading gives: a refusal, or what it read
pub data Verdict (A : Type 0) : Type 0 where
  refused : Refusal → Verdict A
  fine : A → Verdict A

-- a condition, and the refusal that is given where it holds
pub record Check : Type 0 where
  pub holds : Bool
  pub gives : Refusal

module _ {A : Type 0} where
  -- the conditions in their sequence: the first that holds refuses
  unfoldable pub unless : List Check → A → Verdict A
  unless [] a = fine a
  unless (c ∷ cs) a = cond c.holds (refused c.gives) (unless cs a)

  -- the same for the nodes that meet a condition, in the order of their lines: the lowest-numbered one refuses
  unfoldable pub unless_at : (ℕ → Refusal) → List ℕ → A → Verdict A
  unless_at gives [] a = fine a
  unless_at gives (n ∷ ns) a = refused (gives n)

module _ {A B : Type 0} where
  -- one step after another
  abbrev pub next : Verdict A → (A → Verdict B) → Verdict B
  next (refused r) f = refused r
  next (fine a) f = f a
