-- `abi::margin_worth` meets its contract.
use Rattle.std.proofs.Common.{Result}
use Rattle.worth.specs.declared.Exact.{Exact}
use Rattle.line.specs.declared.Refusal.{Refusal}
use mathlib.Core.Path.{sym, ap, subst, ◌∙◌}
use Rattle.codes.specs.Numbers.{worth_code, worth_numbers, put}
use Rattle.codes.specs.Inside.{SmallExact}
use Rattle.abi.proofs.Answers.{exact-small}
use Rattle.abi.proofs.margin_worth.Goals as goal

pub put_exact-requires : goal.put_exact-requires
put_exact-requires c =
    subst SmallExact (sym c.exact_worth.ensures) (exact-small c.args.text.now)

pub returns : goal.returns
returns c =
    let e = c.exact_worth.ensures in
    record { code = c.put_exact.ensures.code ∙ ap worth_code e; numbers = c.put_exact.ensures.numbers ∙ ap (λ (x : Result Exact Refusal). put 0 (worth_numbers x) c.args.numbers.now) e }
