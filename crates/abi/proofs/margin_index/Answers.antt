-- `abi::margin_index` meets its contract.
use mathlib.Core.Path.{sym, subst}
use Rattle.index_call.specs.Call.{room_in}
use Rattle.codes.specs.Inside.{SmallIndexed}
use Rattle.abi.proofs.Answers.{built-small}
use Rattle.abi.proofs.margin_index.Goals as goal

pub index_code-requires : goal.index_code-requires
index_code-requires c =
    let a = c.args in
    subst SmallIndexed (sym c.build_index.ensures.answers) (built-small a.text.now (room_in a.lows.now a.highs.now))
