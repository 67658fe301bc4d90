-- `index_call::search_indexed` meets its contract.
use Rattle.std.proofs.lemmas.Result.{err_from_is_err_and}
use Rattle.std.proofs.Common.{Err, Ok}
use Prim.Native.Nat.{ℕ, ◌≤◌}
use mathlib.Core.Path.{◌≡◌, sym, ap, ap₂, subst, ◌∙◌}
use mathlib.Core.Bool.{Bool, false, ◌&&◌}
use mathlib.Core.List.{List}
use mathlib.Core.Option.{Option}
use native.Mathlib.Omega.{arith}
use lib.ListN.{length}
use lib.IntN.{ℤ, ◌-ℤ◌}
use mir.Syntax.{w64}
use mir.ValLaws.{to_z-of_z}
use Rattle.line.specs.declared.Refusal.{Refusal}
use Rattle.line.specs.declared.Refusal.TheVariants.{NoRoom, BadMargin, BadIndex}
use Rattle.line.specs.Refusal.{Verdict, refused}
use Rattle.line.specs.Line.{to_nat}
use Rattle.table.specs.declared.Summary.{Summary}
use Rattle.table.specs.Slices.{laid}
use Rattle.table.specs.Nodes.{kinds_in, stops_in, weights_in, heights_in}
use Rattle.table.specs.Table.{Table, read_text}
use Rattle.scale.specs.Inside.{scale_for}
use Rattle.scale.proofs.Taken.{Taken, refused-by, taken-by, spread_at}
use Rattle.index.specs.Index.{agrees, lows_of, highs_of}
use Rattle.indexing.specs.Inside.{Dropped, OwnEndsOf}
use Rattle.search_call.specs.Inside.{rule_for, ends_for}
use Rattle.search_call.specs.Call.{bad_margin, Sought, search_answer, search_list}
use Rattle.index_call.specs.Call.{index_entries, sought_indexed, indexed_call, indexed_reads}
use Rattle.index_call.proofs.Own.{slices-long, nodes-long, own-asks, own-small, drops-small, own-lows, own-highs}
use Rattle.index_call.proofs.Call.{own-test, own-passed, strange, own_of, bad-index, bad-margin, no_room, search-ready, found-small, given-at, reads_at}
use Rattle.index_call.proofs.search_indexed.Goals as goal
use Rattle.index_call.proofs.search_indexed.Goals.{After-decode, After-drops, After-ends_of-v, After-is_beyond, After-is_own, After-own_ends, After-search-f, After-span_of-span, Else-is_beyond, Else-leaves-t, Else-not-is_own, In_ok-t, Start}

abbrev start_of : After-decode → Start
start_of R = (goal.at.After-decode R).Start

abbrev text_of : After-decode → List ℕ
text_of R = (start_of R).args.text.now

abbrev margin-of : After-decode → ℤ
margin-of R = (start_of R).args.margin

abbrev lows-of : After-decode → List ℤ
lows-of R = (start_of R).args.lows.now

abbrev highs-of : After-decode → List ℤ
highs-of R = (start_of R).args.highs.now

abbrev list_of : After-decode → List ℕ
list_of R = (start_of R).args.leaves.now

-- the reading refused x
refused-at : (R : After-decode) (x : Refusal) → R.decode.result ≡ Err x → read_text (text_of R) ≡ refused x
refused-at R x e =
    refused-by (text_of R) R.decode.result x (kinds_in R.decode.new.nodes) (stops_in R.decode.new.nodes) (weights_in R.decode.new.nodes) (heights_in R.decode.new.nodes) R.decode.ensures e

-- at an accepted table: the reading, the summary, and what is left
abbrev read_of : In_ok-t → After-decode
read_of c = (goal.at.In_ok-t c).After-decode

abbrev summary-of : In_ok-t → Summary
summary-of c = c.in_ok-t.t

taken : (c : In_ok-t)
    → Taken (text_of (read_of c)) (summary-of c) (kinds_in (read_of c).decode.new.nodes) (stops_in (read_of c).decode.new.nodes) (weights_in (read_of c).decode.new.nodes) (heights_in (read_of c).decode.new.nodes)
taken c = taken-by (text_of (read_of c)) (read_of c).decode.ensures c.in_ok-t.was

-- the refusals, and what is then in the list
refusing : (R : After-decode) (v : Verdict Sought) → sought_indexed (read_text (text_of R)) (margin-of R) (lows-of R) (highs-of R) (length (list_of R)) ≡ v
    → (search_answer v ≡ indexed_call (read_text (text_of R)) (margin-of R) (lows-of R) (highs-of R) (length (list_of R)))
    × (laid (search_list v) (list_of R) ≡ laid (indexed_reads (read_text (text_of R)) (margin-of R) (lows-of R) (highs-of R) (length (list_of R))) (list_of R))
refusing R v e = (sym (ap search_answer e), sym (ap (λ (x : Verdict Sought). laid (search_list x) (list_of R)) e))

pub span_of-span-requires : goal.span_of-span-requires
span_of-span-requires c = spread_at (taken c)

pub own_ends-requires : goal.own_ends-requires
own_ends-requires c =
    let G = taken (goal.at.own_ends-requires c).In_ok-t in
    let a = own-asks G in
    let n = nodes-long c.decode.new.nodes G in
    (n.0, n.1, n.1, n.1, (λ i l. omega (arith, c.span_of-span.ensures.0, a.0 i l)), a.1)

-- the ends that were made, of the table
abbrev spanned : After-own_ends → After-span_of-span
spanned O = (goal.at.After-own_ends O).After-span_of-span

abbrev known_of : After-own_ends → In_ok-t
known_of O = (goal.at.After-own_ends O).In_ok-t

ended : (O : After-own_ends)
    → let K = known_of O in
    OwnEndsOf (kinds_in (read_of K).decode.new.nodes) (stops_in (read_of K).decode.new.nodes) (heights_in (read_of K).decode.new.nodes) (summary-of K).nodes (to_nat ((summary-of K).highest -ℤ (summary-of K).lowest)) O.own_ends.new.rise O.own_ends.new.drop
ended O =
    let K = known_of O in
    subst (λ (m : ℕ). OwnEndsOf (kinds_in (read_of K).decode.new.nodes) (stops_in (read_of K).decode.new.nodes) (heights_in (read_of K).decode.new.nodes) (summary-of K).nodes m O.own_ends.new.rise O.own_ends.new.drop) (spanned O).span_of-span.ensures.0 O.own_ends.ensures.2

pub is_own-requires : goal.is_own-requires
is_own-requires c =
    let G = taken (known_of (goal.at.is_own-requires c).After-own_ends) in
    let n = nodes-long c.decode.new.nodes G in
    let s = own-small G (ended (goal.at.is_own-requires c).After-own_ends) in
    (n.0, omega (arith, c.own_ends.ensures.0, n.1), omega (arith, c.own_ends.ensures.1, n.1), spread_at G, s.0, s.1)

-- ---- the three tests
abbrev made_of : After-is_own → After-own_ends
made_of I = (goal.at.After-is_own I).After-own_ends

abbrev reading-of : After-is_own → After-decode
reading-of I = read_of (known_of (made_of I))

-- each list has the table's own entries
abbrev low-agree : After-decode → Bool
low-agree R = agrees (index_entries lows_of (read_text (text_of R))) (lows-of R)

abbrev high-agree : After-decode → Bool
high-agree R = agrees (index_entries highs_of (read_text (text_of R))) (highs-of R)

-- that is what the code compares
compared : (I : After-is_own) → I.is_own.result ≡ (low-agree (reading-of I) && high-agree (reading-of I))
compared I =
    let O = made_of I in
    let G = taken (known_of O) in
    let R = reading-of I in
    I.is_own.ensures
    ∙ ap₂ (λ (x y : List (Option ℤ)). agrees x (lows-of R) && agrees y (highs-of R)) (own-lows G (ended O)) (own-highs G (ended O))

pub returns-then-not-is_own : goal.returns-then-not-is_own
returns-then-not-is_own c = let all = let R = reading-of (goal.at.returns-then-not-is_own c).After-is_own in
    refusing R (refused BadIndex)
    (bad-index (taken (known_of (made_of (goal.at.returns-then-not-is_own c).After-is_own))) (margin-of R) (lows-of R) (highs-of R) (length (list_of R)) (own-test (low-agree R) (high-agree R) c.is_own.result (compared (goal.at.returns-then-not-is_own c).After-is_own) c.if-not-is_own.true-raw)) in record { answers = all.0; lists = all.1 }

-- past the first refusal, and past the second
own : (E : Else-not-is_own)
    → let R = reading-of (goal.at.Else-not-is_own E).After-is_own in
    strange (taken (known_of (goal.at.Else-not-is_own E).After-own_ends)) (margin-of R) (lows-of R) (highs-of R) (length (list_of R)) (read_text (text_of R)) ≡ false
own E = let R = reading-of (goal.at.Else-not-is_own E).After-is_own in own-passed (low-agree R) (high-agree R) E.is_own.result (compared (goal.at.Else-not-is_own E).After-is_own) E.if-not-is_own.false-raw

tested : (B : After-is_beyond) → B.is_beyond.result ≡ bad_margin (margin-of (goal.at.After-is_beyond B).After-decode)
tested B =
    let S = start_of (goal.at.After-is_beyond B).After-decode in
    B.is_beyond.ensures ∙ ap bad_margin (to_z-of_z w64 S.args.margin S.ranges.margin)

good-margin : (E : Else-is_beyond) → bad_margin (margin-of (goal.at.Else-is_beyond E).After-decode) ≡ false
good-margin E = sym (tested (goal.at.Else-is_beyond E).After-is_beyond) ∙ E.if-is_beyond.false

pub returns-then-is_beyond : goal.returns-then-is_beyond
returns-then-is_beyond c = let all = let R = reading-of (goal.at.returns-then-is_beyond c).After-is_own in
    refusing R (refused BadMargin)
    (bad-margin (taken (known_of (goal.at.returns-then-is_beyond c).After-own_ends)) (margin-of R) (lows-of R) (highs-of R) (length (list_of R)) (own (goal.at.returns-then-is_beyond c).Else-not-is_own) (sym (tested (goal.at.returns-then-is_beyond c).After-is_beyond) ∙ c.if-is_beyond.true)) in record { answers = all.0; lists = all.1 }

pub returns-then-leaves-t : goal.returns-then-leaves-t
returns-then-leaves-t c = let all = let R = reading-of (goal.at.returns-then-leaves-t c).After-is_own in
    refusing R (refused NoRoom)
    (no_room (taken (known_of (goal.at.returns-then-leaves-t c).After-own_ends)) (margin-of R) (lows-of R) (highs-of R) (length (list_of R)) (own (goal.at.returns-then-leaves-t c).Else-not-is_own) (good-margin (goal.at.returns-then-leaves-t c).Else-is_beyond) c.if-leaves-t.true) in record { answers = all.0; lists = all.1 }

-- ---- where the search is called: at an accepted table, its own index, an accepted margin and a list that is long enough
abbrev passed-of : Else-leaves-t → Else-not-is_own
passed-of E = (goal.at.Else-leaves-t E).Else-not-is_own

abbrev owned-of : Else-leaves-t → After-own_ends
owned-of E = made_of (goal.at.Else-leaves-t E).After-is_own

pub drops-requires : goal.drops-requires
drops-requires c =
    let O = owned-of (goal.at.drops-requires c).Else-leaves-t in
    let G = taken (known_of O) in
    let n = slices-long G in
    (omega (arith, O.own_ends.ensures.1, n.3), n.3, (λ i l. omega (arith, (spanned O).span_of-span.ensures.0, drops-small G (ended O) i l)))

pub scale_of-s-requires : goal.scale_of-s-requires
scale_of-s-requires c = spread_at (taken (known_of (goal.at.scale_of-s-requires c).After-own_ends))

abbrev dropped-of : After-ends_of-v → After-drops
dropped-of L = (goal.at.After-ends_of-v L).After-drops

abbrev long_of : After-ends_of-v → Else-leaves-t
long_of L = (goal.at.After-ends_of-v L).Else-leaves-t

abbrev lent_of : After-ends_of-v → After-own_ends
lent_of L = owned-of (long_of L)

dropped : (L : After-ends_of-v)
    → let O = lent_of L in
    let t = summary-of (known_of O) in
    Dropped (to_nat (t.highest -ℤ t.lowest)) O.own_ends.new.drop (dropped-of L).drops.new.drop t.nodes
dropped L =
    let O = lent_of L in
    let t = summary-of (known_of O) in
    subst (λ (m : ℕ). Dropped m O.own_ends.new.drop (dropped-of L).drops.new.drop t.nodes) (spanned O).span_of-span.ensures.0 (dropped-of L).drops.ensures.1

long-heights : (O : After-own_ends) → length O.own_ends.new.rise ≡ 1024
long-heights O = O.own_ends.ensures.0

rule-is : (L : After-ends_of-v) → L.rule_of-g.result ≡ rule_for (scale_for (summary-of (known_of (lent_of L)))) (margin-of (read_of (known_of (lent_of L))))
rule-is L =
    let S = start_of (read_of (known_of (lent_of L))) in
    L.rule_of-g.ensures ∙ ap₂ rule_for L.scale_of-s.ensures (to_z-of_z w64 S.args.margin S.ranges.margin)

ends-are : (L : After-ends_of-v) → L.ends_of-v.result ≡ ends_for (scale_for (summary-of (known_of (lent_of L))))
ends-are L = L.ends_of-v.ensures ∙ ap ends_for L.scale_of-s.ensures

pub search-f-requires : goal.search-f-requires
search-f-requires c =
    let O = lent_of (goal.at.search-f-requires c).After-ends_of-v in
    search-ready (taken (known_of O)) O.own_ends.new.rise O.own_ends.new.drop (dropped-of (goal.at.search-f-requires c).After-ends_of-v).drops.new.drop (ended O) (long-heights O) (dropped-of (goal.at.search-f-requires c).After-ends_of-v).drops.ensures.0 (dropped (goal.at.search-f-requires c).After-ends_of-v)
    (margin-of (read_of (known_of O))) (good-margin (goal.at.search-f-requires c).Else-is_beyond) (rule-is (goal.at.search-f-requires c).After-ends_of-v) (ends-are (goal.at.search-f-requires c).After-ends_of-v)

-- ---- what it found
abbrev asked_of : After-search-f → After-ends_of-v
asked_of W = (goal.at.After-search-f W).After-ends_of-v

small : (W : After-search-f)
    → (W.search-f.result.low ≤ W.search-f.result.high) × (W.search-f.result.high ≤ 35184372088832) × (W.search-f.result.left ≤ length (list_of (read_of (known_of (lent_of (asked_of W))))))
small W =
    let L = asked_of W in
    let O = lent_of L in
    let R = read_of (known_of O) in
    found-small (taken (known_of O)) O.own_ends.new.rise O.own_ends.new.drop (dropped-of L).drops.new.drop (ended O) (long-heights O) (dropped-of L).drops.ensures.0 (dropped L)
    (margin-of R) (good-margin (goal.at.After-search-f W).Else-is_beyond) (rule-is L) (ends-are L) W.search-f.result (list_of R) W.search-f.new.leaves (long_of L).if-leaves-t.false W.search-f.ensures

pub bounds_of-requires : goal.bounds_of-requires
bounds_of-requires c =
    let u = small (goal.at.bounds_of-requires c).After-search-f in
    (spread_at (taken (known_of (lent_of (asked_of (goal.at.bounds_of-requires c).After-search-f)))), u.0, u.1, u.2)

pub returns-in_err-t : goal.returns-in_err-t
returns-in_err-t c =
    let r = c.in_err-t in
    let v = refused-at (goal.at.returns-in_err-t c).After-decode r.field-0.0 r.was in
    let p = err_from_is_err_and c.from_residual.result c.from_residual.ensures.1 in
    let all = refusing (goal.at.returns-in_err-t c).After-decode (refused r.field-0.0) (ap (λ (v : Verdict Table). sought_indexed v (margin-of (goal.at.returns-in_err-t c).After-decode) (lows-of (goal.at.returns-in_err-t c).After-decode) (highs-of (goal.at.returns-in_err-t c).After-decode) (length (list_of (goal.at.returns-in_err-t c).After-decode))) v) in rw (p.1, p.2) record { answers = all.0; lists = all.1 }

pub returns : goal.returns
returns c =
    let L = asked_of (goal.at.returns c).After-search-f in
    let O = lent_of L in
    let K = known_of O in
    let R = read_of K in
    let G = taken K in
    let H : List ℕ = O.own_ends.new.rise in
    let D : List ℕ = O.own_ends.new.drop in
    let T : List ℕ = (dropped-of L).drops.new.drop in
    let mine = own_of G (margin-of R) (lows-of R) (highs-of R) (length (list_of R)) (own (passed-of (long_of L))) in record {
      answers = ap Ok c.bounds_of.ensures
          ∙ given-at G H D T (ended O) (long-heights O) (dropped-of L).drops.ensures.0 (dropped L) (margin-of R) (good-margin (goal.at.returns c).Else-is_beyond) (rule-is L) (ends-are L)
          c.search-f.result (list_of R) c.search-f.new.leaves (long_of L).if-leaves-t.false c.search-f.ensures (lows-of R) (highs-of R) mine;
      lists = reads_at G H D T (ended O) (long-heights O) (dropped-of L).drops.ensures.0 (dropped L) (margin-of R) (good-margin (goal.at.returns c).Else-is_beyond) (rule-is L) (ends-are L)
          c.search-f.result (list_of R) c.search-f.new.leaves (long_of L).if-leaves-t.false c.search-f.ensures (lows-of R) (highs-of R) mine;
    }
