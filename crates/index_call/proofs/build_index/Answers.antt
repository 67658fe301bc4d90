-- `index_call::build_index` meets its contract.
use Rattle.std.proofs.lemmas.Result.{err_from_is_err_and}
use Rattle.std.proofs.Common.{Err}
use Prim.Native.Nat.{ℕ, ◌≤◌}
use mathlib.Core.Path.{◌≡◌, sym, ap, subst, ◌∙◌}
use mathlib.Core.List.{List}
use mathlib.Core.Option.{Option}
use native.Mathlib.Omega.{arith}
use lib.ListN.{length}
use lib.IntN.{ℤ, ◌-ℤ◌}
use Rattle.line.specs.declared.Refusal.{Refusal}
use Rattle.line.specs.declared.Refusal.TheVariants.{NoRoom}
use Rattle.line.specs.Refusal.{Verdict, refused}
use Rattle.line.specs.Line.{to_nat}
use Rattle.table.specs.declared.Summary.{Summary}
use Rattle.table.specs.Nodes.{kinds_in, stops_in, weights_in, heights_in}
use Rattle.table.specs.Table.{Table, read_text}
use Rattle.scale.proofs.Taken.{Taken, refused-by, taken-by, spread_at, lowest-back, highest-back}
use Rattle.index.specs.Index.{written, lows_of, highs_of}
use Rattle.indexing.specs.declared.Base.TheVariants.{Lowest, Highest}
use Rattle.indexing.specs.Inside.{OwnEndsOf, entries_of}
use Rattle.indexing.proofs.Entries.{written-nil}
use Rattle.index_call.specs.Call.{room_in, indexed, index_answer, index_entries, index_call, index_lows, index_highs}
use Rattle.index_call.proofs.Own.{nodes-long, own-asks, own-small, own-lows, own-highs}
use Rattle.index_call.proofs.Call.{index_short, index-long, index-built}
use Rattle.index_call.proofs.build_index.Goals as goal
use Rattle.index_call.proofs.build_index.Goals.{After-decode, After-own_ends, After-span_of-span, Else-highs-t, In_ok-t, Start}

abbrev start_of : After-decode → Start
start_of R = (goal.at.After-decode R).Start

abbrev text_of : After-decode → List ℕ
text_of R = (start_of R).args.text.now

abbrev lows-of : After-decode → List ℤ
lows-of R = (start_of R).args.lows.now

abbrev highs-of : After-decode → List ℤ
highs-of R = (start_of R).args.highs.now

abbrev room_of : After-decode → ℕ
room_of R = room_in (lows-of R) (highs-of R)

-- the reading refused x
refused-at : (R : After-decode) (x : Refusal) → R.decode.result ≡ Err x → read_text (text_of R) ≡ refused x
refused-at R x e =
    refused-by (text_of R) R.decode.result x (kinds_in R.decode.new.nodes) (stops_in R.decode.new.nodes) (weights_in R.decode.new.nodes) (heights_in R.decode.new.nodes) R.decode.ensures e

-- at an accepted table: the reading, the summary, and what is left
abbrev read_of : In_ok-t → After-decode
read_of c = (goal.at.In_ok-t c).After-decode

abbrev summary-of : In_ok-t → Summary
summary-of c = c.in_ok-t.t

taken : (c : In_ok-t)
    → Taken (text_of (read_of c)) (summary-of c) (kinds_in (read_of c).decode.new.nodes) (stops_in (read_of c).decode.new.nodes) (weights_in (read_of c).decode.new.nodes) (heights_in (read_of c).decode.new.nodes)
taken c = taken-by (text_of (read_of c)) (read_of c).decode.ensures c.in_ok-t.was

-- a refusal writes nothing
refusing : (R : After-decode) (x : Refusal) → indexed (read_text (text_of R)) (room_of R) ≡ refused x
    → (index_answer (refused x) ≡ index_call (read_text (text_of R)) (room_of R))
    × ((lows-of R ≡ written (index_lows (read_text (text_of R)) (room_of R)) (lows-of R)) × (highs-of R ≡ written (index_highs (read_text (text_of R)) (room_of R)) (highs-of R)))
refusing R x e = (
  sym (ap index_answer e),
  (
    sym (ap (λ (v : Verdict Table). written (index_entries lows_of v) (lows-of R)) e ∙ written-nil (lows-of R)),
    sym (ap (λ (v : Verdict Table). written (index_entries highs_of v) (highs-of R)) e ∙ written-nil (highs-of R)),
  ),
)

pub returns-then-lows-t : goal.returns-then-lows-t
returns-then-lows-t c = let all = let R = read_of (goal.at.returns-then-lows-t c).In_ok-t in
    refusing R NoRoom (index_short (taken (goal.at.returns-then-lows-t c).In_ok-t) (room_of R) (omega (arith, c.if-lows-t.true))) in record { answers = all.0; lows = all.1.0; highs = all.1.1 }

-- where the index is built: at an accepted table and lists that are long enough
abbrev known_of : Else-highs-t → In_ok-t
known_of E = (goal.at.Else-highs-t E).In_ok-t

pub returns-then-highs-t : goal.returns-then-highs-t
returns-then-highs-t c = let all = let R = read_of (goal.at.returns-then-highs-t c).In_ok-t in
    refusing R NoRoom (index_short (taken (goal.at.returns-then-highs-t c).In_ok-t) (room_of R) (omega (arith, c.if-highs-t.true))) in record { answers = all.0; lows = all.1.0; highs = all.1.1 }

pub span_of-span-requires : goal.span_of-span-requires
span_of-span-requires c = spread_at (taken (known_of c))

long : (E : Else-highs-t) → let K = known_of E in ((summary-of K).nodes ≤ length (lows-of (read_of K))) × ((summary-of K).nodes ≤ length (highs-of (read_of K)))
long E = (omega (arith, E.if-lows-t.false), omega (arith, E.if-highs-t.false))

pub own_ends-requires : goal.own_ends-requires
own_ends-requires c =
    let G = taken (goal.at.own_ends-requires c).In_ok-t in
    let a = own-asks G in
    let n = nodes-long c.decode.new.nodes G in
    (n.0, n.1, n.1, n.1, (λ i l. omega (arith, c.span_of-span.ensures.0, a.0 i l)), a.1)

-- what it made
abbrev spanned : After-own_ends → After-span_of-span
spanned O = (goal.at.After-own_ends O).After-span_of-span

ended : (O : After-own_ends)
    → let K = known_of (goal.at.After-own_ends O).Else-highs-t in
    OwnEndsOf (kinds_in (read_of K).decode.new.nodes) (stops_in (read_of K).decode.new.nodes) (heights_in (read_of K).decode.new.nodes) (summary-of K).nodes (to_nat ((summary-of K).highest -ℤ (summary-of K).lowest)) O.own_ends.new.rise O.own_ends.new.drop
ended O =
    let K = known_of (goal.at.After-own_ends O).Else-highs-t in
    subst (λ (m : ℕ). OwnEndsOf (kinds_in (read_of K).decode.new.nodes) (stops_in (read_of K).decode.new.nodes) (heights_in (read_of K).decode.new.nodes) (summary-of K).nodes m O.own_ends.new.rise O.own_ends.new.drop) (spanned O).span_of-span.ensures.0 O.own_ends.ensures.2

pub put_ends-requires : goal.put_ends-requires
put_ends-requires c =
    let E = (goal.at.put_ends-requires c).Else-highs-t in
    let G = taken (known_of E) in
    let n = nodes-long c.decode.new.nodes G in
    (n.0, omega (arith, c.own_ends.ensures.0, n.1), (long E).0, rw (lowest-back G) (spread_at G).lowest, (own-small G (ended (goal.at.put_ends-requires c).After-own_ends)).0)

pub put_ends-requires-2 : goal.put_ends-requires-2
put_ends-requires-2 c =
    let E = (goal.at.put_ends-requires-2 c).Else-highs-t in
    let G = taken (known_of E) in
    let n = nodes-long c.decode.new.nodes G in
    (n.0, omega (arith, c.own_ends.ensures.1, n.1), (long E).1, rw (highest-back G) (spread_at G).highest, (own-small G (ended (goal.at.put_ends-requires-2 c).After-own_ends)).1)

pub returns-in_err-t : goal.returns-in_err-t
returns-in_err-t c =
    let r = c.in_err-t in
    let p = err_from_is_err_and c.from_residual.result c.from_residual.ensures.1 in
    let all = refusing (goal.at.returns-in_err-t c).After-decode r.field-0.0 (ap (λ (v : Verdict Table). indexed v (room_of (goal.at.returns-in_err-t c).After-decode)) (refused-at (goal.at.returns-in_err-t c).After-decode r.field-0.0 r.was)) in rw (p.1, p.2) record { answers = all.0; lows = all.1.0; highs = all.1.1 }

pub returns : goal.returns
returns c =
    let E = (goal.at.returns c).Else-highs-t in
    let K = known_of E in
    let R = read_of K in
    let G = taken K in
    let t = summary-of K in
    let l = long E in
    let all : indexed (read_text (text_of R)) (room_of R) ≡ read_text (text_of R) = index-long G (room_of R) (omega arith) in record {
      answers = index-built G (room_of R) ∙ ap index_answer (sym all);
      lows = c.put_ends.ensures
          ∙ ap (λ (z : ℤ). written (entries_of (kinds_in R.decode.new.nodes) c.own_ends.new.rise (Lowest z) t.nodes) (lows-of R)) (lowest-back G)
          ∙ ap (λ (l : List (Option ℤ)). written l (lows-of R)) (own-lows G (ended (goal.at.returns c).After-own_ends) ∙ ap (index_entries lows_of) (sym all));
      highs = c.put_ends-2.ensures
          ∙ ap (λ (z : ℤ). written (entries_of (kinds_in R.decode.new.nodes) c.own_ends.new.drop (Highest z) t.nodes) (highs-of R)) (highest-back G)
          ∙ ap (λ (l : List (Option ℤ)). written l (highs-of R)) (own-highs G (ended (goal.at.returns c).After-own_ends) ∙ ap (index_entries highs_of) (sym all));
    }
