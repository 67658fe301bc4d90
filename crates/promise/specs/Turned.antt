-- A table and its turned one. Document 01, 'Judging and turning'; of their indexes document 02, Item 14.
use Rattle.std.specs.Prelude.{◌≡◌, neg_ℤ}
use Rattle.std.proofs.Math.Option.{Option, none, some}
use Rattle.table.specs.Table.{Table, tree}
use Rattle.index.specs.Index.{Ends}
use Rattle.turn.specs.Turn.{turn_head, turn_tree}

-- u is t turned: its ends and its tree are
pub record Turns (t u : Table) : Type 0 where
  pub head : u.head ≡ turn_head t.head
  pub nodes : tree u ≡ turn_tree (tree t)

-- an entry of the index from the other side: both ends negated, and exchanged
abbrev pub turn_entry : Option Ends → Option Ends
turn_entry none = none
turn_entry (some e) = some (record { low = neg_ℤ e.high; high = neg_ℤ e.low })
