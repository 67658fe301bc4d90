-- `timed::again` meets its contract: what `search_call` shows before its search holds here before the first of many.
use Prim.Native.Nat.{ℕ}
use mathlib.Core.Path.{◌≡◌, refl, sym, ap, ap₂, ◌∙◌}
use mathlib.Core.Bool.{false}
use mathlib.Core.List.{List}
use lib.IntN.{ℤ, pos}
use mir.Syntax.{w64}
use mir.Val.{to_z, of_z}
use mir.ValLaws.{to_z-of_z}
use Rattle.table.specs.Nodes.{kinds_in, stops_in, weights_in, heights_in}
use Rattle.table.specs.declared.Summary.{Summary}
use Rattle.scale.proofs.Taken.{Taken, taken-by, spread_at}
use Rattle.search_call.specs.Call.{bad_margin}
use Rattle.search_call.specs.Inside.{rule_for, ends_for}
use Rattle.search_call.proofs.Call.{search-ready}
use Rattle.timed.proofs.again.Goals as goal
use Rattle.timed.proofs.again.Goals.{After-decode, Else-is_beyond, In-Ok, Start}

-- at an accepted table: the reading, the text, the margin and the summary
abbrev read_of : In-Ok → After-decode
read_of c = (goal.at.In-Ok c).After-decode

abbrev start_of : In-Ok → Start
start_of c = (goal.at.In-Ok c).Start

abbrev text_of : In-Ok → List ℕ
text_of c = (start_of c).args.text.now

abbrev margin-of : In-Ok → ℤ
margin-of c = (start_of c).args.margin

abbrev summary-of : In-Ok → Summary
summary-of c = c.in-Ok.t

taken : (c : In-Ok) → Taken (text_of c) (summary-of c) (kinds_in (read_of c).decode.new.nodes) (stops_in (read_of c).decode.new.nodes) (weights_in (read_of c).decode.new.nodes) (heights_in (read_of c).decode.new.nodes)
taken c = taken-by (text_of c) (read_of c).decode.ensures c.in-Ok.is

-- the margin is handed on as bits
back : (c : In-Ok) → to_z w64 (of_z w64 (margin-of c)) ≡ margin-of c
back c = to_z-of_z w64 (margin-of c) (start_of c).ranges.margin

good-margin : (E : Else-is_beyond) → bad_margin (margin-of (goal.at.Else-is_beyond E).In-Ok) ≡ false
good-margin E = sym (E.is_beyond.ensures ∙ ap bad_margin (back (goal.at.Else-is_beyond E).In-Ok)) ∙ E.if-is_beyond.false

-- it could be searched within any budget
pub searches-requires : goal.searches-requires
searches-requires c =
    search-ready (taken (goal.at.searches-requires c).In-Ok) (margin-of (goal.at.searches-requires c).In-Ok) (pos 0) (good-margin (goal.at.searches-requires c).Else-is_beyond) refl (c.rule_of-g.ensures ∙ ap₂ rule_for c.scale_of-s.ensures (back (goal.at.searches-requires c).In-Ok))
    (c.ends_of-v.ensures ∙ ap ends_for c.scale_of-s.ensures)

pub scale_of-s-requires : goal.scale_of-s-requires
scale_of-s-requires c = spread_at (taken (goal.at.scale_of-s-requires c).In-Ok)
