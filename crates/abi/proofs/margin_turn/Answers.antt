-- `abi::margin_turn` meets its contract.
use mathlib.Core.Path.{sym, ap, subst, ◌∙◌}
use lib.ListN.{length}
use Rattle.codes.specs.Numbers.{turned_code}
use Rattle.codes.specs.Inside.{SmallTurned}
use Rattle.abi.proofs.Answers.{turned-small}
use Rattle.abi.proofs.margin_turn.Goals as goal

pub turned_code-requires : goal.turned_code-requires
turned_code-requires c =
    subst SmallTurned (sym c.turn_table.ensures.answers) (turned-small c.args.text.now (length c.args.buffer.now))

pub returns : goal.returns
returns c =
    record { code = c.turned_code.ensures ∙ ap turned_code c.turn_table.ensures.answers; writes = c.turn_table.ensures.writes }
