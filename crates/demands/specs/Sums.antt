-- The running sums of chance lines. Document 02, Item 4; of the search of every table that a text is accepted as, at every margin ε and until any budget is
-- spent. proofs/Sums.antt has the theorems. What the calls answer is Algorithm 1's search, as before.
use Rattle.std.specs.Prelude.{ℕ, ◌≡◌, Bool, List}
use Rattle.line.specs.Refusal.{fine}
use Rattle.table.specs.Table.{Table, read_text}
use Rattle.search.specs.Whole.{searched_until}
use Rattle.search.specs.Sums.{summed_until, SumsBefore}

-- "before each child the sums are T times Algorithm 1's low and high there"
abbrev pub SumsAreTimes : Type 0
SumsAreTimes = (s : List ℕ) (t : Table) → read_text s ≡ fine t → (ε : ℕ) (full : List ℕ → Bool) → SumsBefore t ε full

-- "and that every result is as before": low, high, the play, the leaves in reading sequence, spent
abbrev pub ResultsAsBefore : Type 0
ResultsAsBefore = (s : List ℕ) (t : Table) → read_text s ≡ fine t → (ε : ℕ) (full : List ℕ → Bool) → summed_until t ε full ≡ searched_until t ε full
