-- The decoded table as the calls hold it: a list of nodes, seen as the four lists of numbers. No promise of a public call names these.
use Rattle.std.specs.Prelude.{ℕ, List, map}
use Rattle.line.specs.Line.{code}
use Rattle.line.specs.declared.Head.{Head}
use Rattle.table.specs.declared.Node.{Node}
use Rattle.table.specs.declared.Summary.{Summary}
use Rattle.table.specs.Inside.{Slices, slices}

abbrev pub kinds_in : List Node → List ℕ
kinds_in ns = map (λ (n : Node). code n.kind) ns

abbrev pub stops_in : List Node → List ℕ
stops_in ns = map (λ (n : Node). n.stop) ns

abbrev pub weights_in : List Node → List ℕ
weights_in ns = map (λ (n : Node). n.weight) ns

abbrev pub heights_in : List Node → List ℕ
heights_in ns = map (λ (n : Node). n.height) ns

abbrev pub slices_in : List Node → Slices
slices_in ns = slices (kinds_in ns) (stops_in ns) (weights_in ns) (heights_in ns)

-- the header of a table of these numbers
abbrev pub head_in : Summary → Head
head_in t = record { total = t.total; second = t.second; lowest = t.lowest; highest = t.highest }
