-- What the contracts of internal functions cite; no promise of a public call names these.
use Rattle.std.specs.Prelude.{ℕ, ◌-◌, ◌≤◌, ◌≡◌, false, List, length, ℤ, pos, ◌+ℤ◌, ◌*ℤ◌, Ok}
use Rattle.line.specs.Line.{to_nat}
use Rattle.table.specs.declared.Summary.{Summary}
use Rattle.table.specs.Table.{read_text}
use Rattle.table.specs.Slices.{laid}
use Rattle.table.specs.Inside.{Slices}
use Rattle.scale.specs.declared.Scale.{Scale}
use Rattle.scale.specs.Inside.{Taken}
use Rattle.steps.specs.declared.Rule.{Rule}
use Rattle.steps.specs.declared.Ends.{Ends}
use Rattle.steps.specs.declared.Found.{Found}
use Rattle.search_call.specs.declared.Bounds.{Bounds}
use Rattle.search_call.specs.Call.{bad_margin, bad_budget, within_call, within_reads}

-- the numbers that a search goes by
abbrev pub rule_for : Scale → ℤ → Rule
rule_for s margin = record { margin = to_nat margin; grain = s.grain }

-- the ends of a table, in grains above the lowest
abbrev pub ends_for : Scale → Ends
ends_for s = record { bottom = 0; top = s.top }

-- what is answered where a search of an accepted table found f, in grains above the lowest end, with so many reads to begin with
abbrev pub bounds_for : Summary → Found → (reads : ℕ) → Bounds
bounds_for t f reads =
    record {
      low = t.lowest *ℤ pos t.grain +ℤ pos f.low;
      high = t.lowest *ℤ pos t.grain +ℤ pos f.high;
      difference = pos (f.high - f.low);
      play = f.play;
      leaves = reads - f.left;
      spent = f.spent;
      grain = t.grain;
    }

-- a table that was read from some text into these slices, and a margin, a budget and a leaf list of which nothing is refused
pub record Ready (S : Slices) (t : Summary) (m b : ℤ) (room : ℕ) : Type 0 where
  pub text : List ℕ
  pub taken : Taken text t S.kinds S.stops S.weights S.heights
  pub margin : bad_margin m ≡ false
  pub budget : bad_budget b ≡ false
  pub long : t.leaves ≤ room

-- the answer a and the list, as it came and as it is now, are those of the call on any text that is so read
abbrev pub Answers : Slices → Summary → (m b : ℤ) → Bounds → (came now : List ℕ) → Type 0
Answers S t m b a came now =
    (s : List ℕ) → Taken s t S.kinds S.stops S.weights S.heights
    → (Ok a ≡ within_call (read_text s) m b (length came)) × (now ≡ laid (within_reads (read_text s) m b (length came)) came)
