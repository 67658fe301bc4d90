-- What the definition of the output comes to: of a refused table, of a refused margin, and of a search; and that it is never longer than
-- (5 + 1,024) lines.
use Prim.Native.Nat.{ℕ, ◌≤◌}
use mathlib.Core.Path.{◌≡◌, refl, sym, ap, ◌∙◌}
use mathlib.Core.Bool.{true, false}
use mathlib.Core.List.{List, [], ◌++◌, map}
use native.Mathlib.Omega.{arith}
use lib.ListN.{length, take, drop}
use lib.Seq.{take-append_seam}
use lib.IntN.{ℤ}
use Rattle.line.specs.declared.Refusal.{Refusal}
use Rattle.line.specs.declared.Refusal.TheVariants.{BadMargin}
use Rattle.line.specs.Refusal.{Verdict, refused, fine, unless}
use Rattle.line.specs.Line.{to_nat}
use Rattle.table.specs.Tree.{leaves}
use Rattle.table.specs.Table.{Table, read_text, tree}
use Rattle.table.specs.Slices.{laid}
use Rattle.table.proofs.Accepted.{accepted-size, accepted-leaves, accepted-leaf-lines}
use Rattle.search.specs.Whole.{searched}
use Rattle.search_call.specs.Call.{bad_margin, Sought, sought, bounds_of}
use Rattle.search_call.proofs.Call.{plain-fine}
use Rattle.printing.specs.Program.{WordLine, margin_of, table_of, printed, leaf_row, rows_of, output_of}
use Rattle.printing.specs.Inside.{play_marks, bound_rows}
use Rattle.printing.proofs.Sizes.{refusal-size, found-size}
use Rattle.printing.proofs.Found.{narrow, rows}

abbrev shown : Verdict Sought → List ℕ
shown v = printed (rows_of v)

module _ (s : List ℕ) where
  -- "so a bad table is named first"
  pub table-refused : (r : Refusal) → read_text (table_of s) ≡ refused r → output_of s ≡ printed (rows_of (refused r))
  table-refused r e = ap (λ (v : Verdict Table). shown (sought v (margin_of s) 1024)) e

  module _ (t : Table) (e : read_text (table_of s) ≡ fine t) where
    -- "an ill-written margin line is refused 12"
    pub margin-refused : bad_margin (margin_of s) ≡ true → output_of s ≡ printed (rows_of (refused BadMargin))
    unfolding unless
    margin-refused b = ap (λ (v : Verdict Table). shown (sought v (margin_of s) 1024)) e ∙ rw b refl

    -- the search of the table at the margin: there is always room for its leaves
    pub search-printed : bad_margin (margin_of s) ≡ false → output_of s ≡ printed (rows_of (fine (record { table = t; seen = searched t (to_nat (margin_of s)) })))
    search-printed b =
        let room : leaves (tree t) ≤ 1024 = omega (arith, accepted-leaves (table_of s) t e, accepted-leaf-lines (table_of s) t e, (accepted-size (table_of s) t e).1) in
        ap (λ (v : Verdict Table). shown (sought v (margin_of s) 1024)) e ∙ ap shown (plain-fine t (margin_of s) 1024 b room)

fits : (text : List ℕ) (m : ℤ) (v : Verdict Sought) → sought (read_text text) m 1024 ≡ v → length (shown v) ≤ 22638
fits text m (refused r) e = omega (arith, refusal-size r)
fits text m (fine s) e =
    let k : ℕ = play_marks text (bounds_of s).play in
    let read : List ℕ = s.seen.read in
    let n = narrow text m 1024 s e k refl in
    let same : length (shown (fine s)) ≡ length (printed (bound_rows (bounds_of s) k ++ map leaf_row (take (length read) (laid read [])))) =
    sym (ap (λ (l : List WordLine). length (printed l)) (rows text m 1024 s e k refl [])) in
    let size = found-size (bounds_of s) k (take (length read) (laid read [])) n in
    let long : length (take (length read) (laid read [])) ≡ length read = ap length (take-append_seam read (drop (length read) [])) in
    omega (arith, same, size, long, n.leaves)

-- the program's buffer holds every answer whole
pub output-fits : (s : List ℕ) → length (output_of s) ≤ 22638
output-fits s = fits (table_of s) (margin_of s) (sought (read_text (table_of s)) (margin_of s) 1024) refl
