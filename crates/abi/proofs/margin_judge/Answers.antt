-- `abi::margin_judge` meets its contract.
use Rattle.std.proofs.Common.{Result, Option}
use Rattle.judge.specs.declared.Decision.{Decision}
use Rattle.line.specs.declared.Refusal.{Refusal}
use mathlib.Core.Path.{◌≡◌, sym, ap, subst, ◌∙◌}
use borrow.Author.Rules.{rules}
use mir.Syntax.{w64}
use mir.Val.{to_z, of_z}
use Rattle.table.specs.Table.{read_text}
use Rattle.judge.specs.Call.{judge_call}
use Rattle.codes.specs.Numbers.{judge_code, judge_numbers, put}
use Rattle.codes.specs.Inside.{SmallOpinion}
use Rattle.abi.proofs.Answers.{opinion-small}
use Rattle.abi.proofs.margin_judge.Goals as goal
use Rattle.abi.proofs.margin_judge.Goals.{After-judge_play, Start}

abbrev start_of : After-judge_play → Start
start_of E = (goal.at.After-judge_play E).Start

-- the number is handed on as bits
back : (s : Start) → to_z w64 (of_z w64 s.args.number) ≡ s.args.number
back s = search rules

said : (E : After-judge_play) → E.judge_play.result ≡ judge_call (read_text (start_of E).args.text.now) (start_of E).args.number
said E = E.judge_play.ensures ∙ ap (judge_call (read_text (start_of E).args.text.now)) (back (start_of E))

pub put_opinion-requires : goal.put_opinion-requires
put_opinion-requires c =
    subst SmallOpinion (sym (said (goal.at.put_opinion-requires c).After-judge_play)) (opinion-small (start_of (goal.at.put_opinion-requires c).After-judge_play).args.text.now (start_of (goal.at.put_opinion-requires c).After-judge_play).args.number)

pub returns : goal.returns
returns c =
    record { code = c.put_opinion.ensures.code ∙ ap judge_code (said (goal.at.returns c).After-judge_play); numbers = c.put_opinion.ensures.numbers ∙ ap (λ (x : Result (Option Decision) Refusal). put 0 (judge_numbers x) (start_of (goal.at.returns c).After-judge_play).args.numbers.now) (said (goal.at.returns c).After-judge_play) }
