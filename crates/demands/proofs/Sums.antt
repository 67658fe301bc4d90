-- The running sums of chance lines, of every accepted text.
use Rattle.search.proofs.Summed.{summed, sums-before}
use Rattle.demands.specs.Sums.{SumsAreTimes, ResultsAsBefore}

pub sums-are-times : SumsAreTimes
sums-are-times s t r ε full = sums-before s t r ε full

pub results-as-before : ResultsAsBefore
results-as-before s t r ε full = summed s t r ε full
