-- Node lines that were read, before the last two checks: the tree is theirs, and the slices hold it.
use Prim.Native.Nat.{ℕ, ◌≤◌, ◌<◌}
use mathlib.Core.Path.{◌≡◌, sym, ap, subst, ◌∙◌}
use mathlib.Core.Bool.{false}
use mathlib.Core.List.{List, []}
use native.Mathlib.Omega.{arith}
use lib.ListN.{length}
use Rattle.line.specs.declared.Line.{Line}
use Rattle.line.specs.Refusal.{fine}
use Rattle.line.specs.Line.{larger, Within}
use Rattle.table.specs.Tree.{forest, leaves}
use Rattle.table.specs.Table.{Table, node_lines, tree, greatest, leaf_lines}
use Rattle.table.specs.Inside.{Spans, height_tree, slices_of}
use Rattle.table.specs.Accepted.{flat, Proper, Rooted}
use Rattle.table.proofs.Runs.{size, Numbered, flat-length, flat-leaves, regrow-root}
use Rattle.table.proofs.Grown.{lines-counted, OneTree, one-tree}
use Rattle.table.proofs.Heights.{heights-map}
use Rattle.table.proofs.Spans.{spans-root}

module _ (t : Table) (n : ℕ) (b : List ℕ) (e : node_lines t.head n 0 [] b ≡ fine t.lines) where
  pub read_length : length t.lines ≡ n
  read_length = (lines-counted t.head n 0 [] b t.lines e).0

  pub read-few : greatest t.lines ≤ 4
  read-few = (lines-counted t.head n 0 [] b t.lines e).1

  module _ (some : 0 < n) where
    grown : OneTree t.head t.lines
    grown = one-tree t.head n b t.lines some e

    size_is : size grown.tree ≡ length t.lines
    size_is = sym (flat-length 0 0 grown.tree) ∙ ap length grown.lines

    tree_is : grown.tree ≡ tree t
    tree_is =
        sym (regrow-root (length t.lines) grown.tree grown.numbered grown.rooted (omega (arith, size_is)))
        ∙ ap (forest (λ (l : Line). l.utility) (length t.lines)) grown.lines

    pub read-numbered : Numbered 0 (tree t)
    read-numbered = subst (Numbered 0) tree_is grown.numbered

    pub read-size : size (tree t) ≡ n
    read-size = sym (ap size tree_is) ∙ size_is ∙ read_length

    pub read-flat : flat 0 0 (tree t) ≡ t.lines
    read-flat = ap (flat 0 0) (sym tree_is) ∙ grown.lines

    pub read-rooted : Rooted (tree t)
    read-rooted = subst Rooted tree_is grown.rooted

    pub read-proper : Proper (larger t.head) (greatest t.lines) (Within t.head) 0 0 false (tree t)
    read-proper = subst (Proper (larger t.head) (greatest t.lines) (Within t.head) 0 0 false) tree_is grown.proper

    pub read-leaves : leaves (tree t) ≡ leaf_lines t.lines
    read-leaves = flat-leaves 0 0 (tree t) ∙ ap leaf_lines read-flat

    pub read-spans : Spans (slices_of t) 0 (length t.lines) (height_tree t)
    read-spans = rw (size_is, tree_is, ← heights-map t) at (spans-root t grown.tree grown.lines grown.numbered grown.rooted)
