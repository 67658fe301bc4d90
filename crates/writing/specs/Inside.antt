-- A table's text, field by field in a lent buffer: what the contracts cite. No promise of a public call names these.
use Rattle.std.specs.Prelude.{ℕ, ◌^◌, ◌≤◌, ◌<◌, cond, List, [], ◌∷◌, ◌++◌, eqb, length, pos, nat_abs}
use Rattle.field.specs.Field.{text_of}
use Rattle.field.specs.declared.Field.{Field}
use Rattle.field.specs.declared.Field.TheVariants.{Blank, Ill, Number}
use Rattle.line.specs.declared.Entry.{Entry}
use Rattle.line.specs.declared.Kind.{Kind}
use Rattle.line.specs.declared.Kind.TheVariants.{Leaf, Max, Min, Chance}
use Rattle.line.specs.declared.Line.{Line}
use Rattle.line.specs.Line.{letter, is_leaf}
use Rattle.writing.specs.declared.CodedLine.{CodedLine}
use Rattle.writing.specs.Text.{columns, blank, newline}

-- ---- a field in its columns

abbrev pub shown : ℕ → Field → List ℕ
shown width Blank = blank width
shown width Ill = []
shown width (Number z) = columns width z

-- it has room there
abbrev pub Fits : ℕ → Field → Type 0
Fits width Blank = Unit {0}
Fits width Ill = ⊥
Fits width (Number z) = (length (text_of z) ≤ width) × (nat_abs z < 10 ^ 15)

-- ---- a node line by its fields

abbrev pub entry_text : Entry → List ℕ
entry_text e = shown 4 e.number ++ (32 ∷ e.letter ∷ (shown 5 e.parent ++ (shown 5 e.weight ++ (shown 8 e.utility ++ newline))))

-- its numbers have room in their columns
pub record Roomy (e : Entry) : Type 0 where
  pub number : Fits 4 e.number
  pub parent : Fits 5 e.parent
  pub weight : Fits 5 e.weight
  pub utility : Fits 8 e.utility

-- ---- the fields that a node line is written in

abbrev pub entry_for : Line → Entry
entry_for l =
    record {
      number = Number (pos l.node);
      letter = letter l.kind;
      parent = cond (eqb l.node 0) Blank (Number (pos l.parent));
      weight = cond (eqb l.weight 0) Blank (Number (pos l.weight));
      utility = cond (is_leaf l.kind) (Number l.utility) Blank;
    }

-- its numbers have room there
pub record Short (l : Line) : Type 0 where
  pub node : l.node < 10 ^ 4
  pub parent : l.parent < 10 ^ 5
  pub weight : l.weight < 10 ^ 5
  pub utility : nat_abs l.utility < 10 ^ 7

-- ---- a node line whose kind is a number

-- 3 and more stand for C
abbrev pub kind_written : ℕ → Kind
kind_written k = cond (eqb k 0) Leaf (cond (eqb k 1) Max (cond (eqb k 2) Min Chance))

abbrev pub line_coded : CodedLine → Line
line_coded l = record { node = l.node; kind = kind_written l.kind; parent = l.parent; weight = l.weight; utility = l.utility; chances = l.chances }
