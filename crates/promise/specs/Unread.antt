-- Trees that differ in the values of some leaves alone.
use Rattle.std.specs.Prelude.{ℕ, ◌≡◌}
use mathlib.Core.List.{Memᴰ}
use Rattle.table.specs.Tree.{Kind, Forest, end, leaf, inner}
use Rattle.search.specs.Search.{Seen}

-- "a leaf is unread when its number is not among them": among the node numbers that the search writes to the list
abbrev pub ReadBy : {A : Type 0} → Seen A → ℕ → Type 0
ReadBy r n = Memᴰ n r.read

-- the same nodes, with the same value at every leaf whose number P is true of
pub data Alike {A : Type 0} (P : ℕ → Type 0) : Forest A → Forest A → Type 0 where
  alike_end : Alike P end end
  alike-leaf : {n w : ℕ} {v v2 : A} {rest rest2 : Forest A} → (P n → v ≡ v2) → Alike P rest rest2 → Alike P (leaf n w v rest) (leaf n w v2 rest2)
  alike-inner : {n w : ℕ} {k : Kind} {under under2 rest rest2 : Forest A}
      → Alike P under under2 → Alike P rest rest2 → Alike P (inner n w k under rest) (inner n w k under2 rest2)
