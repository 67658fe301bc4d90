-- What the contracts cite: node lines gathered into nodes. No promise of a public call names these.
use Rattle.gathering.specs.declared.Counts.{Counts}
use Rattle.line.specs.declared.Refusal.{Refusal}
use Rattle.std.specs.Prelude.{ℕ, List, map, ◌≡◌, ℤ, Err, Ok, Result}
use Rattle.line.specs.declared.Line.{Line}
use Rattle.line.specs.Refusal.{Verdict, refused, fine}
use Rattle.table.specs.declared.Node.{Node}
use Rattle.table.specs.Slices.{height_of, laid}
use Rattle.table.specs.Table.{greatest, leaf_lines}

-- a line as a node; one past its run stands there later
abbrev pub node_of : ℤ → Line → Node
node_of lowest l = record { kind = l.kind; stop = 0; weight = l.weight; height = height_of lowest l }

-- the node lines v, gathered: the nodes and the parents as they came, then as they are
abbrev pub Gathered : ℤ → Verdict (List Line) → Result Counts Refusal → List Node → List ℕ → List Node → List ℕ → Type 0
Gathered lowest (refused r) out ns u ns' u' = out ≡ Err r
Gathered lowest (fine ls) out ns u ns' u' =
    (out ≡ Ok (record { chances = greatest ls; leaves = leaf_lines ls }))
    × (ns' ≡ laid (map (node_of lowest) ls) ns)
    × (u' ≡ laid (map (λ (l : Line). l.parent) ls) u)
