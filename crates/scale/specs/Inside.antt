-- The scale of an accepted table's heights, and what its reading leaves.
use Rattle.std.specs.Prelude.{ℕ, ◌*◌, ◌≤◌, ◌≡◌, List, ◌-ℤ◌, replicate, Ok}
use Rattle.std.specs.Int.Signed.{mag}
use Rattle.line.specs.Line.{to_nat}
use Rattle.table.specs.declared.Summary.{Summary}
use Rattle.table.specs.Table.{read_text, answer}
use Rattle.table.specs.Slices.{kinds_of, stops_of, weights_of, heights_of, fitted, decoded}
use Rattle.scale.specs.declared.Scale.{Scale}

-- an accepted table's ends and grains
pub record Spread (t : Summary) : Type 0 where
  pub lowest : mag t.lowest ≤ 1000000
  pub highest : mag t.highest ≤ 1000000
  pub grain : t.grain ≤ 16777216

-- the scale that its worth is taken by
abbrev pub scale_for : Summary → Scale
scale_for t = record { grain = t.grain; top = to_nat (t.highest -ℤ t.lowest) * t.grain }

-- each of the four slices that a call lends to the reading
abbrev pub zeros : List ℕ
zeros = replicate 1024 0

-- the text s was accepted with the summary t, and K, S, W and H are the slices as they were left
pub record Taken (s : List ℕ) (t : Summary) (K S W H : List ℕ) : Type 0 where
  pub accepted : answer (read_text s) ≡ Ok t
  pub kinds : K ≡ fitted (decoded kinds_of (read_text s)) zeros
  pub stops : S ≡ fitted (decoded stops_of (read_text s)) zeros
  pub weights : W ≡ fitted (decoded weights_of (read_text s)) zeros
  pub heights : H ≡ fitted (decoded heights_of (read_text s)) zeros
