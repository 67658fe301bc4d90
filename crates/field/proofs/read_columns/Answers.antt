-- Each return by what stands before the digits.
use Prim.Native.Nat.{◌<◌, ◌^◌}
use mathlib.Core.Path.{sym, ◌∙◌}
use native.Mathlib.Omega.{arith}
use lib.ListN.{length-drop}
use Rattle.field.proofs.Small.{digits_small}
use Rattle.field.proofs.Reader.{all-blank, not-blank, bare, clear, not-clear}
use Rattle.field.proofs.read_columns.Goals as goal
use Rattle.field.proofs.read_columns.Goals.{After-last_number-start}

small : (c : After-last_number-start) → c.last_number-start.result.1 < 10 ^ 18
small c = digits_small _ _ c.last_number-start.ensures.number (omega (arith, length-drop c.last_number-start.result.0 c.args.t.now))

pub returns-then-are_blank : goal.returns-then-are_blank
returns-then-are_blank c =
    let l = c.last_number-start.ensures in
    all-blank _ _ l.within l.stops c.if-start-t.true (sym c.are_blank.ensures ∙ c.if-are_blank.true)

pub returns-else-are_blank : goal.returns-else-are_blank
returns-else-are_blank c =
    let l = c.last_number-start.ensures in
    not-blank _ _ l.within l.stops c.if-start-t.true (sym c.are_blank.ensures ∙ c.if-are_blank.false)

pub number_after-requires : goal.number_after-requires
number_after-requires c = small (goal.at.number_after-requires c).After-last_number-start

pub number_after-requires-in-Some : goal.number_after-requires-in-Some
number_after-requires-in-Some c = small (goal.at.number_after-requires-in-Some c).After-last_number-start

pub returns-in-None : goal.returns-in-None
returns-in-None c =
    let l = c.last_number-start.ensures in
    c.number_after.ensures ∙ bare _ _ l.within l.stops _ l.number c.if-start-t.false c.in-None.ensures.cases

pub returns-in-Some : goal.returns-in-Some
returns-in-Some c =
    let l = c.last_number-start.ensures in
    c.number_after-in-Some.ensures ∙ clear _ _ l.within l.stops _ l.number c.if-start-t.false _ _ c.in-Some.ensures.cases (sym c.if-are_blank-2.ensures)

pub returns-in-Some-2 : goal.returns-in-Some-2
returns-in-Some-2 c =
    let l = c.last_number-start.ensures in
    not-clear _ _ l.within l.stops _ l.number c.if-start-t.false _ _ c.in-Some.ensures.cases (sym c.if-are_blank-2.ensures)
