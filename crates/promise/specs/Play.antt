-- What a play is worth. Document 01, 'The search'.
use Rattle.std.specs.Prelude.{ℕ, cond, eqb, ℤ, pos, ◌*ℤ◌}
use Rattle.std.proofs.Math.Option.{Option, none, some}
use Rattle.table.specs.Tree.{Forest, end, leaf, inner}
use Rattle.table.specs.Table.{Table, tree, grain}
use Rattle.table.specs.Root.{children}
use Rattle.worth.specs.Worth.{shares, value}

-- "a play is worth the exact worth of the root child that it names": the worth of the node m among nodes with one parent, if it is there
unfoldable pub worth_at : (G m : ℕ) → Forest ℤ → Option ℤ
worth_at G m end = none
worth_at G m (leaf n w u rest) = cond (eqb n m) (some (u *ℤ pos G)) (worth_at G m rest)
worth_at G m (inner n w k under rest) = cond (eqb n m) (some (value k (shares G under))) (worth_at G m rest)

abbrev pub play_worth : Table → (m : ℕ) → Option ℤ
play_worth t m = worth_at (grain t) m (children (tree t))
