-- What stands past the longest input that can be accepted changes nothing: the program need not keep it.
use Prim.Native.Nat.{ℕ, ◌<◌, ◌%◌}
use mathlib.Core.Path.{◌≡◌, refl, sym, ap, ◌∙◌}
use mathlib.Core.Bool.{Bool, true, false, not, ◌||◌}
use mathlib.Core.List.{List}
use native.Mathlib.Omega.{arith}
use borrow.Author.Tests.{lt-ltb, ltb-true, ltb-false}
use lib.Dec.{eqb, ltb}
use lib.ListN.{length, take, length-drop}
use lib.Seq.{take_all, length-take-le}
use Rattle.line.specs.declared.Refusal.TheVariants.{Length}
use Rattle.line.specs.Refusal.{Verdict, refused}
use Rattle.table.specs.Table.{Table, read_text}
use Rattle.search_call.specs.Call.{sought}
use Rattle.printing.specs.Program.{margin_of, table_of, printed, rows_of, output_of}

or-last : (a b : Bool) → (a || b || true) ≡ true
or-last true true = refl
or-last true false = refl
or-last false true = refl
or-last false false = refl

-- refused 1
too_long : (s : List ℕ) → 25625 < length s → read_text s ≡ refused Length
unfolding read_text
too_long s h = rw (lt-ltb 25625 (length s) h, or-last (not (eqb (length s % 25) 0)) (ltb (length s) 50)) refl

long-output : (s : List ℕ) → 25640 < length s → output_of s ≡ printed (rows_of (refused Length))
long-output s h =
    ap (λ (v : Verdict Table). printed (rows_of (sought v (margin_of s) 1024))) (too_long (table_of s) (omega (arith, length-drop 15 s)))

-- 15 bytes, the 25,625 of a table, and one more
pub front : (s : List ℕ) → output_of (take 25641 s) ≡ output_of s
front s = go (ltb 25640 (length s)) refl
  where
    go : (b : Bool) → ltb 25640 (length s) ≡ b → output_of (take 25641 s) ≡ output_of s
    go true e =
        let h : 25640 < length s = ltb-true 25640 (length s) e in
        long-output (take 25641 s) (omega (arith, length-take-le 25641 s (omega arith))) ∙ sym (long-output s h)
    go false e = ap output_of (take_all 25641 s (omega (arith, ltb-false 25640 (length s) e)))
