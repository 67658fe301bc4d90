-- `turn_call::turn_table` meets its contract.
use Rattle.std.proofs.lemmas.Result.{err_from_is_err_and}
use Prim.Native.Nat.{ℕ}
use mathlib.Core.Path.{◌≡◌, sym, ap}
use mathlib.Core.List.{List}
use lib.ListN.{length}
use Rattle.line.specs.declared.Refusal.TheVariants.{NoRoom}
use Rattle.line.specs.Refusal.{Verdict, refused}
use Rattle.table.specs.Nodes.{kinds_in, stops_in, weights_in, heights_in}
use Rattle.table.specs.Slices.{laid}
use Rattle.table.specs.Table.{Table, read_text}
use Rattle.scale.proofs.Taken.{Taken, refused-by, taken-by}
use Rattle.turn_call.specs.Call.{turn_of, turn_answer, turn_written}
use Rattle.turn_call.proofs.Call.{room-short, turn-ready, turned-at}
use Rattle.turn_call.proofs.turn_table.Goals as goal
use Rattle.turn_call.proofs.turn_table.Goals.{In_ok-t}

taken : (c : In_ok-t) → let l = c.decode.new.nodes in Taken c.args.text.now c.in_ok-t.t (kinds_in l) (stops_in l) (weights_in l) (heights_in l)
taken c = taken-by c.args.text.now c.decode.ensures c.in_ok-t.was

-- a refusal, and what is then in the buffer
refusing : (s d : List ℕ) (v : Verdict (List ℕ)) → turn_of (read_text s) (length d) ≡ v
    → (turn_answer v ≡ turn_answer (turn_of (read_text s) (length d))) × (laid (turn_written v) d ≡ laid (turn_written (turn_of (read_text s) (length d))) d)
refusing s d v e = (sym (ap turn_answer e), sym (ap (λ (x : Verdict (List ℕ)). laid (turn_written x) d) e))

pub returns-then-buffer-text : goal.returns-then-buffer-text
returns-then-buffer-text c =
    let d = c.args.buffer.now in
    let all = refusing c.args.text.now d (refused NoRoom) (room-short (taken (goal.at.returns-then-buffer-text c).In_ok-t) d c.if-buffer-text.true) in
    record { answers = all.0; writes = all.1 }

pub turn-requires : goal.turn-requires
turn-requires c = turn-ready (taken (goal.at.turn-requires c).In_ok-t) c.args.buffer.now c.if-buffer-text.false c.head.ensures

pub returns-in_err-t : goal.returns-in_err-t
returns-in_err-t c =
    let s = c.args.text.now in
    let d = c.args.buffer.now in
    let r = c.in_err-t.field-0.0 in
    let p = err_from_is_err_and c.from_residual.result c.from_residual.ensures.1 in
    let e : read_text s ≡ refused r = refused-by s c.decode.result r _ _ _ _ c.decode.ensures c.in_err-t.was in
    let all = refusing s d (refused r) (ap (λ (v : Verdict Table). turn_of v (length d)) e) in
    rw (p.1, p.2) record { answers = all.0; writes = all.1 }

pub returns : goal.returns
returns c =
    let all = turned-at (taken (goal.at.returns c).In_ok-t) c.args.buffer.now c.if-buffer-text.false c.head.ensures c.turn.ensures in
    record { answers = all.0; writes = all.1 }
