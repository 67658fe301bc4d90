-- The turned text of an accepted table is accepted as the turned table, as turning keeps the rules of a table.
use Prim.Native.Nat.{ℕ, ◌+◌, ◌*◌}
use mathlib.Core.Path.{◌≡◌, refl, sym, ap, subst, ◌∙◌}
use mathlib.Core.List.{List, map, map-append}
use lib.ListN.{length, length-map}
use lib.IntN.{ℤ, neg_ℤ}
use Rattle.line.specs.declared.Head.{Head}
use Rattle.line.specs.declared.Line.{Line}
use Rattle.line.specs.Refusal.{fine}
use Rattle.line.specs.Line.{Within}
use Rattle.table.specs.Tree.{Kind, MAX, MIN, CHANCE, Forest, end, leaf, inner, line_kind}
use Rattle.table.specs.Table.{Table, tree, read_text}
use Rattle.table.specs.Accepted.{flat, one}
use Rattle.table.proofs.Accepted.{accepted-ranged, accepted-flat, accepted-size}
use Rattle.writing.specs.Text.{table_text}
use Rattle.writing.proofs.Reread.{Sound, table_of, text-length, read_back, accepted-sound}
use Rattle.writing.proofs.Shaped.{Shaped, shaped-end, shaped-leaf, shaped-inner, sound-shaped}
use Rattle.turn.specs.Turn.{exchanged, turn_line, turn_head, turn_table, turned_text, turn_kind, turn_tree}
use Rattle.turn.proofs.Signs.{neg-less, ranged-turned}
use Rattle.turn.proofs.Tree.{kind-chance}

-- ---- the lines of a turned tree

kind-line : (k : Kind) → line_kind (turn_kind k) ≡ exchanged (line_kind k)
kind-line MAX = refl
kind-line MIN = refl
kind-line CHANCE = refl

flat-turned : (p c : ℕ) (F : Forest ℤ) → flat p c (turn_tree F) ≡ map turn_line (flat p c F)
unfolding flat turn_tree
flat-turned p c end = refl
flat-turned p c (leaf n w v rest) = rw (flat-turned p c rest)
flat-turned p c (inner n w k under rest) =
    rw (kind-chance k, kind-line k, flat-turned n (c + one k) under, flat-turned p c rest, map-append turn_line (flat n (c + one k) under) (flat p c rest))

-- ---- the rules

-- "utilities negated" are within the ends negated and exchanged
within-turned : (h : Head) (z : ℤ) → Within h z → Within (turn_head h) (neg_ℤ z)
within-turned h z w = (neg-less z h.highest ∙ w.1, neg-less h.lowest z ∙ w.0)

shaped-turned : (h : Head) (F : Forest ℤ) → Shaped h (turn_head h) F (turn_tree F)
unfolding turn_tree
shaped-turned h end = shaped-end
shaped-turned h (leaf n w v rest) = shaped-leaf (within-turned h v) (shaped-turned h rest)
shaped-turned h (inner n w k under rest) = shaped-inner (kind-chance k) (shaped-turned h under) (shaped-turned h rest)

-- ---- the text

module _ (s : List ℕ) (t : Table) (e : read_text s ≡ fine t) where
  sound : Sound (turn_head t.head) (turn_tree (tree t))
  sound =
      sound-shaped t.head (turn_head t.head) (ranged-turned t.head (accepted-ranged s t e)) refl refl (shaped-turned t.head (tree t)) (accepted-sound s t e)

  table_is : table_of (turn_head t.head) (turn_tree (tree t)) ≡ turn_table t
  table_is = ap (λ (ls : List Line). record { head = turn_head t.head; lines = ls }) (flat-turned 0 0 (tree t) ∙ ap (map turn_line) (accepted-flat s t e))

  pub turned-length : length (turned_text t) ≡ length s
  turned-length =
      subst (λ (x : Table). length (table_text x) ≡ 25 * length x.lines + 25) table_is (text-length (turn_head t.head) (turn_tree (tree t)) sound)
      ∙ ap (λ (n : ℕ). 25 * n + 25) (length-map t.lines turn_line)
      ∙ sym (accepted-size s t e).2

  pub turned-accepted : read_text (turned_text t) ≡ fine (turn_table t)
  turned-accepted = subst (λ (x : Table). read_text (table_text x) ≡ fine x) table_is (read_back (turn_head t.head) (turn_tree (tree t)) sound)
