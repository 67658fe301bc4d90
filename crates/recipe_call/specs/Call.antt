-- What the call `write_recipe` answers. Document 02, Item 7.
use Rattle.line.specs.declared.Refusal.{Refusal}
use Rattle.std.specs.Prelude.{ℕ, Bool, ◌||◌, List, [], ◌∷◌, eqb, ltb, length, ℤ, pos, Err, Ok, Result}
use Rattle.std.specs.Int.Signed.{lt_z}
use Rattle.line.specs.declared.Refusal.TheVariants.{BadRecipe, NoRoom}
use Rattle.line.specs.Refusal.{Verdict, refused, fine, Check, unless, number_of, line_of}
use Rattle.line.specs.Line.{to_nat}
use Rattle.table.specs.Table.{Table}
use Rattle.writing.specs.Text.{table_text}
use Rattle.recipe.specs.Recipe.{levels, nodes, recipe_table}

-- a number below lo or above hi
abbrev pub beyond : ℤ → ℤ → ℤ → Bool
beyond lo hi z = lt_z z lo || lt_z hi z

-- "with or without dice" is 1 or 0
abbrev pub with_dice : ℤ → Bool
with_dice dice = eqb (to_nat dice) 1

-- the four numbers that are given
module _ (seed branching depth dice : ℤ) where
  -- "a seed (0 to 2,147,483,647), a branching number b (2 to 5), a depth in plays (0 to 9) and with or without dice"
  abbrev pub out_of_range : Bool
  out_of_range = beyond (pos 0) (pos 2147483647) seed || beyond (pos 2) (pos 5) branching || beyond (pos 0) (pos 9) depth || beyond (pos 0) (pos 1) dice

  -- "more than 1,024 nodes"
  abbrev pub too_many : Bool
  too_many = ltb 1024 (nodes (to_nat branching) (levels (with_dice dice) (to_nat depth)))

  -- the table of numbers in range
  abbrev pub table_for : Table
  table_for = recipe_table (to_nat branching) (with_dice dice) (to_nat seed) (to_nat depth)

  abbrev pub text_for : List ℕ
  text_for = table_text table_for

  -- "Refused: 19, a parameter out of range, or more than 1,024 nodes; before 11, which is given where the text does not fit": in a buffer of `room` bytes
  abbrev pub recipe_checks : ℕ → List Check
  recipe_checks room =
      record { holds = out_of_range; gives = BadRecipe }
      ∷ record { holds = too_many; gives = BadRecipe }
      ∷ record { holds = ltb room (length text_for); gives = NoRoom }
      ∷ []

  abbrev pub recipe_of : ℕ → Verdict (List ℕ)
  recipe_of room = unless (recipe_checks room) text_for

-- how many bytes are written
abbrev pub made_of : Verdict (List ℕ) → Result ℕ Refusal
made_of (refused r) = Err r
made_of (fine s) = Ok (length s)

-- the bytes at the start of the buffer; nothing is written where the call is refused
abbrev pub bytes_of : Verdict (List ℕ) → List ℕ
bytes_of (refused r) = []
bytes_of (fine s) = s

abbrev pub recipe_call : (seed branching depth dice : ℤ) → ℕ → Result ℕ Refusal
recipe_call seed branching depth dice room = made_of (recipe_of seed branching depth dice room)

abbrev pub recipe_bytes : (seed branching depth dice : ℤ) → ℕ → List ℕ
recipe_bytes seed branching depth dice room = bytes_of (recipe_of seed branching depth dice room)

-- the number and the line of every answer, 0 where there is no refusal
abbrev pub made_number : Result ℕ Refusal → ℕ
made_number (Ok n) = 0
made_number (Err r) = number_of r

abbrev pub made_line : Result ℕ Refusal → ℕ
made_line (Ok n) = 0
made_line (Err r) = line_of r
