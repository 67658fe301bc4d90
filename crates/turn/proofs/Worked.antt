-- Table B of document 01 and its turned text, by computation.
use Prim.Native.Nat.{ℕ}
use mathlib.Core.Path.{◌≡◌, refl}
use mathlib.Core.List.{[], ◌∷◌}
use lib.IntN.{ℤ, pos}
use Rattle.field.specs.Field.{strip, digits, whole, signed, leading}
use Rattle.line.specs.declared.Kind.{Kind}
use Rattle.line.specs.declared.Kind.TheVariants.{Leaf, Max, Chance}
use Rattle.line.specs.declared.Line.{Line}
use Rattle.line.specs.Refusal.{fine, unless, unless_at}
use Rattle.line.specs.Line.{climb, among}
use Rattle.table.specs.Tree.{run, after, forest, weigh, nodes_where, powers, uses}
use Rattle.table.specs.Table.{Table, node_lines, complete, read_text}
use Rattle.table.specs.Examples.{table-b, turned-b}
use Rattle.writing.specs.Text.{lines_text, table_text}
use Rattle.turn.specs.Turn.{turned_text}

abbrev node : ℕ → Kind → ℕ → ℕ → ℤ → ℕ → Line
node n k p w u c = record { node = n; kind = k; parent = p; weight = w; utility = u; chances = c }

abbrev b : Table
b =
    record {
      head = record { total = 4; second = 0; lowest = pos 0; highest = pos 8 };
      lines = node 0 Max 0 0 (pos 0) 0 ∷ node 1 Leaf 0 0 (pos 5) 0 ∷ node 2 Chance 0 0 (pos 0) 1 ∷ node 3 Leaf 2 3 (pos 2) 1 ∷ node 4 Leaf 2 1 (pos 8) 1 ∷ [];
    }

read-b : read_text table-b ≡ fine b
unfolding strip digits whole signed unless unless_at climb run after forest weigh nodes_where among uses powers node_lines complete read_text
read-b = refl

text-b : table_text b ≡ table-b
unfolding leading lines_text
text-b = refl

text-turned-b : turned_text b ≡ turned-b
unfolding leading lines_text
text-turned-b = refl
