-- Opening rolls: two totals in one table. Document 02, Item 5; over texts. What is quoted is the item, where no other paper is named. Demands 2 and 3 are
-- stated of every accepted text, so of tables of both sorts. proofs/Totals.antt has the theorems.
use Rattle.std.specs.Prelude.{ℕ, ◌^◌, ◌≤◌, ◌<◌, ◌≡◌, Bool, not, ◌||◌, List, eqb, take, pos, negsuc}
use Rattle.std.specs.Int.Signed.{lt_z}
use Rattle.field.specs.Field.{field_of}
use Rattle.field.specs.declared.Field.TheVariants.{Blank, Number}
use Rattle.line.specs.declared.Head.{Head}
use Rattle.line.specs.declared.Heading.{Heading}
use Rattle.line.specs.declared.Refusal.TheVariants.{TooManyGrains}
use Rattle.line.specs.Refusal.{refused, fine}
use Rattle.line.specs.Line.{is_ill, is_blank, outside, value_of, second_of, heading_of, ill_heading, wide_heading, head_of, totals, among, larger}
use Rattle.table.specs.Table.{Table, tree, read_text, greatest, grain}
use Rattle.table.specs.Accepted.{Excessive}
use Rattle.writing.specs.Text.{columns, totals_text}
use Rattle.worth.specs.Worth.{TotalsAre, Exact}
use Rattle.search.specs.Exact.{NoRemainder}

-- ---- the header

-- "Header columns 5-6, blank so far, may hold a second total, 1 to 64, different from the first, which then has columns 7-8": what an accepted header
-- has there. Document 01: "5-8 the total T"; Item 9: "Only zeros in header columns 5-6 mean no second total, and T has columns 5-8".
pub record Columns (s : List ℕ) (h : Head) : Type 0 where
  pub none : second_of (field_of s 4 2) ≡ Blank → (h.second ≡ 0) × (field_of s 4 4 ≡ Number (pos h.total))
  pub some : (second_of (field_of s 4 2) ≡ Blank → ⊥)
      → (field_of s 4 2 ≡ Number (pos h.second)) × (field_of s 6 2 ≡ Number (pos h.total)) × (0 < h.second) × (h.second ≤ 64) × (h.second ≡ h.total → ⊥)

abbrev pub HeaderColumns : Type 0
HeaderColumns = (s : List ℕ) (t : Table) → read_text s ≡ fine t → Columns (take 25 s) t.head

-- ---- sums, and the division

-- "A chance line's weights sum to either total, and its own sum is its T": the sum that a C's worth is divided by is one of the totals
abbrev pub OwnSums : Type 0
OwnSums = (s : List ℕ) (t : Table) → read_text s ≡ fine t → TotalsAre (totals t.head) (grain t) (tree t)

-- "The division without remainder .. must hold for tables of both sorts": of every C's worth, and of lines 20 and 21 in every search
abbrev pub DivisionExact : Type 0
DivisionExact =
    (s : List ℕ) (t : Table) → read_text s ≡ fine t → Exact (grain t) (tree t) × ((ε : ℕ) (full : List ℕ → Bool) → NoRemainder t ε full)

-- ---- 18

-- "Refused: 18, a grain count above 16,777,216, after 9": exactly where the grain count is too great and no earlier condition holds
abbrev pub EighteenIs : Type 0
EighteenIs = (s : List ℕ) → (read_text s ≡ refused TooManyGrains → Excessive s) × (Excessive s → read_text s ≡ refused TooManyGrains)

-- ---- with no second total everything is as it was: what each rule that has changed then says

-- document 01's conditions of a header: 2, "byte 25 is no newline, a field is ill-written, .. or a field blank"; 3, "T, an end .. out of range, or lowest
-- end above highest"
abbrev pub former_ill : ℕ → Heading → Bool
former_ill last g =
    not (eqb last 10)
    || is_ill g.count
    || is_ill g.total
    || is_ill g.lowest
    || is_ill g.highest
    || is_blank g.count
    || is_blank g.total
    || is_blank g.lowest
    || is_blank g.highest

abbrev pub former_wide : Heading → Bool
former_wide g =
    outside (pos 1) (pos 64) g.total
    || outside (negsuc 999999) (pos 1000000) g.lowest
    || outside (negsuc 999999) (pos 1000000) g.highest
    || lt_z (value_of g.highest) (value_of g.lowest)

-- a header whose columns 5-6 hold no second total: the total is that of columns 5-8, the conditions are those, and there is no second total
pub record OneHeading (s : List ℕ) : Type 0 where
  pub total : (heading_of s).total ≡ field_of s 4 4
  pub ill : (last : ℕ) → ill_heading last (heading_of s) ≡ former_ill last (heading_of s)
  pub wide : wide_heading (heading_of s) ≡ former_wide (heading_of s)
  pub none : (head_of (heading_of s)).second ≡ 0

-- with none: weights "1 to T", "A C's weights sum to T", "5-8 the total T"
pub record OneTotal (h : Head) : Type 0 where
  pub weights : larger h ≡ h.total
  pub sums : (n : ℕ) → among n (totals h) ≡ eqb n h.total
  pub text : totals_text h ≡ columns 4 (pos h.total)

-- "The grain count G is T to the power K", and 18 is never given
abbrev pub AsBefore : Type 0
AsBefore =
    ((s : List ℕ) → second_of (field_of s 4 2) ≡ Blank → OneHeading s)
    × ((h : Head) → h.second ≡ 0 → OneTotal h)
    × ((s : List ℕ) (t : Table) → read_text s ≡ fine t → t.head.second ≡ 0 → grain t ≡ t.head.total ^ greatest t.lines)
    × ((s : List ℕ) → second_of (field_of (take 25 s) 4 2) ≡ Blank → read_text s ≡ refused TooManyGrains → ⊥)
