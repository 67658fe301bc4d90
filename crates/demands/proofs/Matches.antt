-- What holds of every match report, at the public call.
use Rattle.std.proofs.Common.{Err, Ok, Result}
use Prim.Native.Nat.{ℕ, suc, ◌+◌, ◌≤◌}
use mathlib.Core.Path.{◌≡◌, refl, sym, ap, ap₂, ◌∙◌}
use mathlib.Core.Bool.{Bool, true, false, cond}
use mathlib.Core.List.{List, ◌++◌, map-append}
use native.Mathlib.Omega.{arith}
use borrow.Author.Tests.{le-ltb}
use lib.Dec.{ltb}
use lib.ListN.{length, length-append}
use lib.IntN.{ℤ}
use Rattle.line.specs.declared.Refusal.{Refusal}
use Rattle.line.specs.declared.Refusal.TheVariants.{NoRoom, TooMany}
use Rattle.report.specs.declared.Row.{Row}
use Rattle.report.specs.declared.Totals.{Totals}
use Rattle.report.specs.Report.{Outcome, stopped, rows, match_of, totals_of, kinds_in, losses_in}
use Rattle.report.specs.Files.{listed_total}
use Rattle.report.proofs.Rows.{totals-listed}
use Rattle.report.proofs.Files.{judged-alone, two-files, position-more, stops_at, too_many}
use Rattle.mark.specs.declared.Marking.{Marking}
use Rattle.mark.specs.Marks.{choice_of, marks_in}
use Rattle.report_call.specs.Call.{by_scale, fit, reported, report_answer, report_call, filled, report_kinds, report_losses, marks_by, report_marks}
use Rattle.report_call.proofs.Going.{kind-of, loss-of, mark_of}
use Rattle.report_call.proofs.Answered.{report-refused}
use Rattle.demands.specs.Matches.{NeverOne, EntriesAlone, ListsSum, TwoFiles, RefusedStops, OwnBytes, TooManyStops}

pub never-one : NeverOne
never-one file scale room r k e z = omega (arith, z, (report-refused file room scale r k e).1)

-- ---- a report that is not refused

-- what the file gives, by which scale, and that there was room for it
record Given (file : List ℕ) (scale : ℤ) (room : ℕ) (t : Totals) : Type 0 where
  marking : Marking
  known : choice_of scale ≡ Ok marking
  all : List Row
  is : match_of file ≡ rows all
  fits : fit room (match_of file) ≡ rows all
  totals : totals_of all ≡ t

given : (file : List ℕ) (scale : ℤ) (room : ℕ) (t : Totals) → report_call file scale room ≡ Ok t → Given file scale room t
given file scale room t = chosen (choice_of scale) refl
  where
    short : (s : Marking) → choice_of scale ≡ Ok s → (rs : List Row) → match_of file ≡ rows rs → (b : Bool) → ltb room (length rs) ≡ b
        → report_answer (cond b (stopped NoRoom 0) (rows rs)) ≡ Ok t → Given file scale room t
    short s k rs e true h d = let z : ◌≡◌ {A = ℕ} 0 1 = cc in absurd (omega arith)
    short s k rs e false h d =
        record {
          marking = s;
          known = k;
          all = rs;
          is = e;
          fits = ap (fit room) e ∙ ap (λ (b : Bool). cond b (stopped NoRoom 0) (rows rs)) h;
          totals = cc;
        }

    go : (s : Marking) → choice_of scale ≡ Ok s → (o : Outcome) → match_of file ≡ o → report_answer (fit room o) ≡ Ok t → Given file scale room t
    go s k (stopped r n) e d = let z : ◌≡◌ {A = ℕ} 0 1 = cc in absurd (omega arith)
    go s k (rows rs) e d = short s k rs e (ltb room (length rs)) refl d

    chosen : (c : Result Marking Refusal) → choice_of scale ≡ c → report_answer (by_scale c (fit room (match_of file))) ≡ Ok t → Given file scale room t
    chosen (Err r) k d = let z : ◌≡◌ {A = ℕ} 0 1 = cc in absurd (omega arith)
    chosen (Ok s) k d = go s k (match_of file) refl d

-- by a scale that is known the file's own outcome stands
reported-as : (file : List ℕ) (scale : ℤ) (room : ℕ) (s : Marking) → choice_of scale ≡ Ok s → reported file scale room ≡ fit room (match_of file)
reported-as file scale room s k = ap (λ (c : Result Marking Refusal). by_scale c (fit room (match_of file))) k

module _ (file : List ℕ) (scale : ℤ) (room : ℕ) (t : Totals) (G : Given file scale room t) where
  all-reported : reported file scale room ≡ rows G.all
  all-reported = reported-as file scale room G.marking G.known ∙ G.fits

  listed-kinds : report_kinds file scale room ≡ kinds_in G.all
  listed-kinds = ap (λ (o : Outcome). kinds_in (filled o)) all-reported

  listed-losses : report_losses file scale room ≡ losses_in G.all
  listed-losses = ap (λ (o : Outcome). losses_in (filled o)) all-reported

  listed-marks : report_marks file scale room ≡ marks_in G.marking G.all
  listed-marks = ap₂ (λ (c : Result Marking Refusal) (o : Outcome). marks_by c (filled o)) G.known all-reported

  count-is : t.positions ≡ length G.all
  count-is = ap (λ (x : Totals). x.positions) (sym G.totals)

pub entries-alone : EntriesAlone
entries-alone file scale room t e =
    let G = given file scale room t e in
    record {
      rows = G.all;
      positions = count-is file scale room t G;
      alone = judged-alone file G.all G.is;
      in-kinds = listed-kinds file scale room t G;
      in-losses = listed-losses file scale room t G;
    }

pub totals-summed : ListsSum
totals-summed file scale room t e =
    let G = given file scale room t e in
    let by : (side : ℕ) (n : ℕ → ℕ) → listed_total side n (kinds_in G.all) (losses_in G.all) ≡ listed_total side n (report_kinds file scale room) (report_losses file scale room) =
    λ side n. λ i. listed_total side n (sym (listed-kinds file scale room t G) i) (sym (listed-losses file scale room t G) i) in
    let of : (f : Totals → ℕ) → f t ≡ f (totals_of G.all) = λ f. ap f (sym G.totals) in (
      of (λ (x : Totals). x.max.decisions) ∙ sym (totals-listed 1 (λ x. 1) G.all) ∙ by 1 (λ x. 1),
      of (λ (x : Totals). x.max.sum) ∙ sym (totals-listed 1 (λ x. x) G.all) ∙ by 1 (λ x. x),
      of (λ (x : Totals). x.min.decisions) ∙ sym (totals-listed 2 (λ x. 1) G.all) ∙ by 2 (λ x. 1),
      of (λ (x : Totals). x.min.sum) ∙ sym (totals-listed 2 (λ x. x) G.all) ∙ by 2 (λ x. x),
    )

pub lists-sum : ListsSum
lists-sum = totals-summed

-- ---- files put together

fits_all : (room : ℕ) (rs : List Row) → length rs ≤ room → fit room (rows rs) ≡ rows rs
fits_all room rs p = ap (λ (b : Bool). cond b (stopped NoRoom 0) (rows rs)) (le-ltb room (length rs) p)

-- both reports are by one scale
same-marking : (s u : Marking) (c : Result Marking Refusal) → c ≡ Ok s → c ≡ Ok u → u ≡ s
same-marking s u c p q = cc

pub two-reports : TwoFiles
two-reports a b scale room t u e f n p =
    let G = given a scale room t e in
    let H = given b scale room u f in
    let s : Marking = G.marking in
    let all : List Row = G.all ++ H.all in
    let long : length all ≡ t.positions + u.positions = omega (arith, length-append G.all H.all, count-is a scale room t G, count-is b scale room u H) in
    let z : reported (a ++ b) scale room ≡ rows all =
    reported-as (a ++ b) scale room s G.known
    ∙ ap (fit room) (two-files a b G.all H.all G.is H.is (omega (arith, long, length-append G.all H.all)))
    ∙ fits_all room all (omega (arith, long)) in
    let marks-b : report_marks b scale room ≡ marks_in s H.all =
    listed-marks b scale room u H ∙ ap (λ (x : Marking). marks_in x H.all) (same-marking s H.marking (choice_of scale) G.known H.known) in (
      totals_of all,
      ap report_answer z,
      long,
      ap (λ (o : Outcome). kinds_in (filled o)) z
          ∙ map-append kind-of G.all H.all
          ∙ (λ i. sym (listed-kinds a scale room t G) i ++ sym (listed-kinds b scale room u H) i),
      ap (λ (o : Outcome). losses_in (filled o)) z
          ∙ map-append loss-of G.all H.all
          ∙ (λ i. sym (listed-losses a scale room t G) i ++ sym (listed-losses b scale room u H) i),
      ap₂ (λ (c : Result Marking Refusal) (o : Outcome). marks_by c (filled o)) G.known z
          ∙ map-append (mark_of s) G.all H.all
          ∙ (λ i. sym (listed-marks a scale room t G) i ++ sym marks-b i),
    )

-- what the file a ++ s gives, for any room
module _ (a : List ℕ) (scale : ℤ) (room room' : ℕ) (t : Totals) (e : report_call a scale room ≡ Ok t) where
  stops : (s : List ℕ) (r : Refusal) (k : ℕ) → match_of (a ++ s) ≡ stopped r k → report_call (a ++ s) scale room' ≡ Err (record { refusal = r; position = k })
  stops s r k p =
      let G = given a scale room t e in
      ap report_answer (reported-as (a ++ s) scale room' G.marking G.known ∙ ap (fit room') p)

pub refused-stops : RefusedStops
refused-stops a s scale room room' t r e n h p =
    let G = given a scale room t e in
    let c = count-is a scale room t G in
    stops a scale room room' t e s r (suc (length G.all)) (stops_at a s G.all G.is (omega (arith, c, n)) h r p)
    ∙ ap (λ (m : ℕ). Err (record { refusal = r; position = suc m })) (sym c)

pub own-bytes : OwnBytes
own-bytes s x w = position-more s x w

pub too-many-stops : TooManyStops
too-many-stops a s scale room room' t e n h =
    let G = given a scale room t e in
    stops a scale room room' t e s TooMany 501 (too_many a s G.all G.is (omega (arith, count-is a scale room t G, n)) h)
