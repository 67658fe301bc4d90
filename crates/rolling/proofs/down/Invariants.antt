-- `rolling::down` meets its contract.
use Rattle.std.proofs.Common.{ℕ, ◌-◌, ◌≡◌, List, length, drop}
use Rattle.table.specs.Nodes.{kinds_in, stops_in}
use Rattle.rolling.specs.Inside.Lists.{Store, walk_s}
use Rattle.rolling.specs.Inside.Contracts.{stored, ReadyNode}
use Rattle.rolling.proofs.Paths.{Within, Descent}
use Rattle.rolling.proofs.down.Given as goal

-- at entry c, under `depth` nodes, with `at` policy bytes used, in the window a, b
abbrev pub Going : (K S : List ℕ) (α β : ℕ) (st : Store) (P Q : List ℕ) (used c depth at a b : ℕ) → Type 0
Going K S α β st P Q used c depth at a b =
    (H : List ℕ) (G : ℕ) (R : ReadyNode K S H G 0 α β st) → Descent K S H G R.upto (walk_s G α β 0 (drop used P) R.nodes st) st P Q c depth at a b

abbrev pub invariant-loop-w : goal.invariant-loop-w
invariant-loop-w l =
    (length l.path ≡ length l.initial.path)
    × Within (kinds_in l.nodes) (stored l.low l.high) l.c l.depth
    × Going (kinds_in l.nodes) (stops_in l.nodes) l.fn.window.alpha l.fn.window.beta (stored l.low l.high) l.policy l.path l.used l.c l.depth l.at l.w.alpha l.w.beta

abbrev pub decreases-loop-w : goal.decreases-loop-w
decreases-loop-w l = 1024 - l.c
