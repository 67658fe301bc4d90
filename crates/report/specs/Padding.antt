-- Match files that differ in padding alone. Document 02, Item 9, of Item 1's files.
use Rattle.std.specs.Prelude.{ℕ, ◌+◌, ◌*◌, ◌≡◌, List, ◌∷◌, ◌++◌, length, take}
use Rattle.field.specs.Padding.{Repadded}
use Rattle.line.specs.Line.{count_of, heading_of}
use Rattle.table.specs.Padding.{SameText}

-- two positions: "a play number in 4 columns and a newline, then a table whose length its header count gives"; other bytes of the file may follow them
pub record SamePosition (a b rest-a rest-b : List ℕ) : Type 0 where
  pub play-a : List ℕ
  pub play-b : List ℕ
  pub table-a : List ℕ
  pub table-b : List ℕ
  pub is-a : a ≡ play-a ++ (10 ∷ (table-a ++ rest-a))
  pub is_b : b ≡ play-b ++ (10 ∷ (table-b ++ rest-b))
  pub four-a : length play-a ≡ 4
  pub four-b : length play-b ≡ 4
  pub plays : Repadded play-a play-b
  pub whole : length table-a ≡ 25 + 25 * count_of (heading_of (take 25 table-a)).count
  pub tables : SameText table-a table-b

-- "positions one after another", and then the same bytes
pub data SameMatch : List ℕ → List ℕ → Type 0 where
  same_rest : {a b : List ℕ} → a ≡ b → SameMatch a b
  same_more : {a b rest-a rest-b : List ℕ} → SamePosition a b rest-a rest-b → SameMatch rest-a rest-b → SameMatch a b
