-- `abi::margin_read` meets its contract.
use mathlib.Core.Path.{sym, subst}
use Rattle.codes.specs.Inside.{SmallReading}
use Rattle.abi.proofs.Answers.{reading_small}
use Rattle.abi.proofs.margin_read.Goals as goal
use Rattle.abi.proofs.margin_read.Goals.{After-read, Start}

abbrev start_of : After-read → Start
start_of R = (goal.at.After-read R).Start

pub put_reading-requires : goal.put_reading-requires
put_reading-requires c =
    subst SmallReading (sym c.read.ensures.answers) (reading_small (start_of (goal.at.put_reading-requires c).After-read).args.text.now)
