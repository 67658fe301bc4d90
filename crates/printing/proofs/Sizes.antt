-- How many bytes the rows have, and that a refusal's numbers fit.
use Prim.Native.Nat.{ℕ, ◌+◌, ◌*◌, ◌≤◌}
use mathlib.Core.Path.{◌≡◌, refl, ap, ◌∙◌}
use mathlib.Core.List.{List, [], ◌∷◌, ◌++◌, map}
use native.Mathlib.Omega.{arith}
use lib.ListN.{length, length-append}
use Rattle.field.specs.Field.{text_of}
use Rattle.field.proofs.Width.{few-columns}
use Rattle.line.specs.declared.Refusal.{Refusal}
use Rattle.line.specs.Refusal.{number_of, line_of}
use Rattle.search_call.specs.declared.Bounds.{Bounds}
use Rattle.printing.specs.Program.{Word, Low, High, Grain, Play, Leaves, Leaf, Refuse, Line, WordLine, columns, row_of, printed, leaf_row}
use Rattle.printing.specs.Inside.{Narrow, bound_rows, refusal_rows}
use Rattle.printing.proofs.Rows.{count-columns, row-size, printed-append, leaves-size}

-- a word is 6 columns wide
word_size : (w : Word) → length (columns w) ≡ 6
word_size Low = refl
word_size High = refl
word_size Grain = refl
word_size Play = refl
word_size Leaves = refl
word_size Leaf = refl
word_size Refuse = refl
word_size Line = refl

-- rows whose numbers fit
abbrev Fit : List WordLine → Type 0
Fit [] = Unit {0}
Fit (r ∷ rs) = (length (text_of r.number) ≤ 15) × Fit rs

rows-size : (rs : List WordLine) → Fit rs → length (printed rs) ≡ 22 * length rs
unfolding printed
rows-size [] f = refl
rows-size (r ∷ rs) f =
    length-append (row_of (columns r.word) r.number) (printed rs)
    ∙ omega (arith, row-size (columns r.word) r.number (word_size r.word) f.0, rows-size rs f.1)

pub refusal-size : (r : Refusal) → length (printed (refusal_rows r)) ≡ 44
refusal-size r = rows-size (refusal_rows r) (count-columns (number_of r), (count-columns (line_of r), tt))

pub bounds-size : (b : Bounds) (play : ℕ) → Narrow b play → length (printed (bound_rows b play)) ≡ 110
bounds-size b play h =
    rows-size (bound_rows b play) (
      few-columns b.low 14 (omega arith) h.low,
      (few-columns b.high 14 (omega arith) h.high, (count-columns b.grain, (count-columns play, (count-columns b.leaves, tt)))),
    )

-- the five rows and a row for each leaf
pub found-size : (b : Bounds) (play : ℕ) (ns : List ℕ) → Narrow b play → length (printed (bound_rows b play ++ map leaf_row ns)) ≡ 110 + 22 * length ns
found-size b play ns h =
    ap length (printed-append (bound_rows b play) (map leaf_row ns))
    ∙ length-append (printed (bound_rows b play)) (printed (map leaf_row ns))
    ∙ omega (arith, bounds-size b play h, leaves-size ns)
