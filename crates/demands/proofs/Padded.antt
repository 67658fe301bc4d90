-- The theorems of specs/Padded.antt.
use mathlib.Core.Path.{◌≡◌, ap}
use Rattle.field.proofs.Padding.{pads-read, minus-zeros as minus-zeros-ill}
use Rattle.field.proofs.Inverse.{number-pads}
use Rattle.line.specs.Refusal.{Verdict}
use Rattle.line.specs.Line.{second_of}
use Rattle.table.specs.Table.{Table, read_text, answer}
use Rattle.table.specs.Slices.{kinds_of, stops_of, weights_of, heights_of, decoded}
use Rattle.table.proofs.Padding.{text_same}
use Rattle.worth.specs.Call.{exact_call}
use Rattle.judge.specs.Call.{judge_call}
use Rattle.writing.proofs.Padding.{accepted-same}
use Rattle.turn_call.specs.Call.{turn_call, turn_bytes}
use Rattle.search_call.specs.Call.{search_call, search_reads, within_call, within_reads}
use Rattle.index_call.specs.Call.{index_call, index_lows, index_highs, indexed_call, indexed_reads}
use Rattle.rolled.specs.Call.{roll_call, roll_reads, roll_store}
use Rattle.report.proofs.Padding.{match-same}
use Rattle.mark.specs.Marks.{choice_of}
use Rattle.report.specs.Report.{Outcome, kinds_in, losses_in}
use Rattle.report_call.specs.Call.{by_scale, fit, report_answer, filled, marks_by}
use Rattle.printing.proofs.Padding.{output-same}
use Rattle.demands.specs.Padded.{EveryPadding, OnlyPaddings, MinusZeros, ZerosNoSecond, SameReading, OneTable, EveryCall, EveryReport, EveryOutput}
use Rattle.demands.proofs.Totals.{header-columns}

pub every-padding : EveryPadding
every-padding z c P = pads-read z c P

pub only-paddings : OnlyPaddings
only-paddings s from width z few e = number-pads s from width z few e

pub minus-zeros : MinusZeros
minus-zeros blanks zeros = minus-zeros-ill blanks zeros

pub zeros-no-second : ZerosNoSecond
zeros-no-second s t e z = (header-columns s t e).none (ap second_of z)

pub same-reading : SameReading
same-reading s u S = text_same s u S

pub one_table : OneTable
one_table s u t e f = accepted-same s u t e f

pub every_call : EveryCall
every_call s u S =
    let e : read_text s ≡ read_text u = text_same s u S in
    record {
      read = ap answer e;
      kinds = ap (decoded kinds_of) e;
      stops = ap (decoded stops_of) e;
      weights = ap (decoded weights_of) e;
      heights = ap (decoded heights_of) e;
      worth = ap exact_call e;
      judged = λ i. ap (λ (v : Verdict Table). judge_call v i) e;
      turned = λ room. (ap (λ (v : Verdict Table). turn_call v room) e, ap (λ (v : Verdict Table). turn_bytes v room) e);
      searched = λ m room. (ap (λ (v : Verdict Table). search_call v m room) e, ap (λ (v : Verdict Table). search_reads v m room) e);
      within = λ m b room. (ap (λ (v : Verdict Table). within_call v m b room) e, ap (λ (v : Verdict Table). within_reads v m b room) e);
      index = λ room. (
        ap (λ (v : Verdict Table). index_call v room) e,
        ap (λ (v : Verdict Table). index_lows v room) e,
        ap (λ (v : Verdict Table). index_highs v room) e,
      );
      indexed = λ m lows highs room. (
        ap (λ (v : Verdict Table). indexed_call v m lows highs room) e,
        ap (λ (v : Verdict Table). indexed_reads v m lows highs room) e,
      );
      rolled = λ p list room. (
        ap (λ (v : Verdict Table). roll_call v p list room) e,
        ap (λ (v : Verdict Table). roll_reads v p list room) e,
        ap (λ (v : Verdict Table). roll_store v p list room) e,
      );
    }

pub every-report : EveryReport
every-report a b M scale room =
    let e = match-same a b M in
    record {
      answers = ap (λ (o : Outcome). report_answer (by_scale (choice_of scale) (fit room o))) e;
      kinds = ap (λ (o : Outcome). kinds_in (filled (by_scale (choice_of scale) (fit room o)))) e;
      losses = ap (λ (o : Outcome). losses_in (filled (by_scale (choice_of scale) (fit room o)))) e;
      marks = ap (λ (o : Outcome). marks_by (choice_of scale) (filled (by_scale (choice_of scale) (fit room o)))) e;
    }

pub every-output : EveryOutput
every-output a b S = output-same a b S
