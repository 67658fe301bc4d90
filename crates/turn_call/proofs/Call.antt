-- What turning an accepted text gives.
use Rattle.std.proofs.Common.{Err, Ok, Result}
use Prim.Native.Nat.{ℕ, ◌+◌, ◌*◌, ◌≤◌, ◌<◌}
use mathlib.Core.Path.{◌≡◌, refl, sym, ap, subst, ◌∙◌}
use mathlib.Core.Bool.{Bool, true, false, cond}
use mathlib.Core.List.{List, ◌++◌}
use native.Mathlib.Omega.{arith}
use borrow.Author.Tests.{lt-ltb, le-ltb}
use lib.Dec.{ltb}
use lib.ListN.{length, drop}
use lib.Seq.{sets}
use Rattle.line.specs.declared.Head.{Head}
use Rattle.line.specs.declared.Refusal.{Refusal}
use Rattle.line.specs.declared.Refusal.TheVariants.{NoRoom}
use Rattle.line.specs.Refusal.{Verdict, refused, fine, unless, line_of}
use Rattle.line.specs.Inside.{Ranged}
use Rattle.table.specs.declared.Summary.{Summary}
use Rattle.table.specs.Table.{Table, read_text}
use Rattle.table.specs.Nodes.{head_in}
use Rattle.table.specs.Slices.{laid}
use Rattle.table.proofs.Places.{refused-line}
use Rattle.table.proofs.Accepted.{accepted-ranged, accepted-size}
use Rattle.scale.proofs.Taken.{Taken, of-table}
use Rattle.turn.specs.Turn.{turn_head, turned_text}
use Rattle.writing.specs.Text.{header_text}
use Rattle.turn.specs.Inside.{turned_rows, RowsRoomy}
use Rattle.turn.proofs.Accepted.{turned-length}
use Rattle.turn.proofs.Turned.{text-size, rows-roomy, turned-laid}
use Rattle.turn_call.specs.Call.{turn_of, turn_answer, turn_written, turn_call, turn_bytes}

pub turn-short : (s : List ℕ) (t : Table) (room : ℕ) → read_text s ≡ fine t → room < length s → turn_of (read_text s) room ≡ refused NoRoom
unfolding unless
turn-short s t room p l =
    ap (λ (v : Verdict Table). turn_of v room) p ∙ rw (lt-ltb room (length (turned_text t)) (omega (arith, turned-length s t p))) refl

pub turn-fine : (s : List ℕ) (t : Table) (room : ℕ) → read_text s ≡ fine t → length s ≤ room → turn_of (read_text s) room ≡ fine (turned_text t)
unfolding unless
turn-fine s t room p l =
    ap (λ (v : Verdict Table). turn_of v room) p ∙ rw (le-ltb room (length (turned_text t)) (omega (arith, turned-length s t p))) refl

-- K, S, W and H are the slices as the reading left them, and d is the buffer
module _ {s : List ℕ} {t : Summary} {K S W H : List ℕ} (G : Taken s t K S W H) (d : List ℕ) where
  pub room-short : length d < length s → turn_of (read_text s) (length d) ≡ refused NoRoom
  room-short l = of-table G (λ t K S W H. turn_of (read_text s) (length d) ≡ refused NoRoom) (λ T p. turn-short s T (length d) p l)

  module _ (long : length s ≤ length d) where
    module _ {h : Head} (is : h ≡ head_in t) where
      pub turn-ready : (25 * t.nodes + 25 ≤ length s) × (25 * t.nodes + 25 ≤ length d) × (t.nodes ≤ 1024) × Ranged h × RowsRoomy t.nodes (drop 25 s)
      turn-ready =
          rw is
          (of-table G (λ t K S W H. (25 * t.nodes + 25 ≤ length s) × (25 * t.nodes + 25 ≤ length d) × (t.nodes ≤ 1024) × Ranged (head_in t) × RowsRoomy t.nodes (drop 25 s)) (λ T p.
          let z = text-size s T p in
          (omega (arith, z), omega (arith, z), (accepted-size s T p).1, accepted-ranged s T p, rows-roomy s T p)))

      -- b is the buffer after `turn`: so many bytes, and these
      pub turned-at : {b : List ℕ} → b ≡ sets d 0 (header_text (turn_head h) t.nodes ++ turned_rows t.nodes (drop 25 s))
          → (Ok (length s) ≡ turn_call (read_text s) (length d)) × (b ≡ laid (turn_bytes (read_text s) (length d)) d)
      turned-at {b} told =
          of-table G (λ t K S W H. b ≡ sets d 0 (header_text (turn_head (head_in t)) t.nodes ++ turned_rows t.nodes (drop 25 s)) → (Ok (length s) ≡ turn_call (read_text s) (length d)) × (b ≡ laid (turn_bytes (read_text s) (length d)) d)) (λ T p told.
          let e : turn_of (read_text s) (length d) ≡ fine (turned_text T) = turn-fine s T (length d) p long in (
            ap Ok (sym (turned-length s T p)) ∙ sym (ap turn_answer e),
            told ∙ turned-laid s T p d long ∙ sym (ap (λ (v : Verdict (List ℕ)). laid (turn_written v) d) e),
          )) (told ∙ ap (λ (h : Head). sets d 0 (header_text (turn_head h) t.nodes ++ turned_rows t.nodes (drop 25 s))) is)

-- ---- a refusal

same-refusal : (r x : Refusal) → ◌≡◌ {A = Result ℕ Refusal} (Err r) (Err x) → r ≡ x
same-refusal r x e = cc

no-refusal : {P : Type 0} (r : Refusal) (n : ℕ) → ◌≡◌ {A = Result ℕ Refusal} (Ok n) (Err r) → P
no-refusal r n e = let z : ◌≡◌ {A = ℕ} 0 1 = cc in absurd (omega arith)

pub turn-line : (s : List ℕ) (room : ℕ) (r : Refusal) → turn_call (read_text s) room ≡ Err r → line_of r ≤ 1024
unfolding unless
turn-line s room r e = line_at (read_text s) refl e
  where
    line-fine : (t : Table) (c : Bool) → turn_answer (cond c (refused NoRoom) (fine (turned_text t))) ≡ Err r → line_of r ≤ 1024
    line-fine t true e = subst (λ (x : Refusal). line_of x ≤ 1024) (same-refusal NoRoom r e) (omega arith)
    line-fine t false e = no-refusal r (length (turned_text t)) e

    line_at : (v : Verdict Table) → read_text s ≡ v → turn_call v room ≡ Err r → line_of r ≤ 1024
    line_at (refused x) p e = refused-line s r (p ∙ ap refused (same-refusal x r e))
    line_at (fine t) p e = line-fine t (ltb room (length (turned_text t))) e
