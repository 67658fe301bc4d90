-- What one line says. Document 01, 'The table on paper', with the conditions of 'Refused tables and calls'; of the header's totals document 02, Items 5
-- and 9.
use Rattle.std.specs.Prelude.{ℕ, ◌+◌, max, ◌≡◌, Bool, true, false, not, ◌||◌, cond, List, [], ◌∷◌, ◌++◌, length, get_or, eqb, ltb, ℤ, pos, negsuc}
use Rattle.std.specs.Prelude.{Option, Some, None, is_none, unwrap_or}
use Rattle.std.specs.Int.Signed.{lt_z}
use Rattle.field.specs.Field.{field_of}
pub use Rattle.field.specs.Value.{is_ill, is_blank, has_number, outside, value_of, to_nat, count_of}
use Rattle.field.specs.declared.Field.{Field}
use Rattle.field.specs.declared.Field.TheVariants.{Blank, Ill, Number}
use Rattle.line.specs.declared.Heading.{Heading}
use Rattle.line.specs.declared.Entry.{Entry}
use Rattle.line.specs.declared.Head.{Head}
use Rattle.line.specs.declared.Kind.{Kind}
use Rattle.line.specs.declared.Kind.TheVariants.{Leaf, Max, Min, Chance}
use Rattle.line.specs.declared.Line.{Line}
use Rattle.line.specs.declared.Step.{Step}
use Rattle.line.specs.declared.Refusal.TheVariants.{IllWritten, OutOfRange, Misnumbered, UnknownKind, WrongParent, Misfilled, TooDeep}
use Rattle.line.specs.Refusal.{Verdict, Check, unless}

-- ---- the header

-- Item 5: "Header columns 5-6, blank so far, may hold a second total"; Item 9: "Only zeros in header columns 5-6 mean no second total". The field f
-- has those columns.
abbrev pub second_of : Field → Field
second_of f = cond (has_number 0 f) Blank f

-- without a second total "T has columns 5-8"; with one the first total "then has columns 7-8"
abbrev pub total_of : List ℕ → Field → Field
total_of s second = cond (is_blank second) (field_of s 4 4) (field_of s 6 2)

-- "columns 1-4 count of nodes, 5-8 the total T, 9-16 the lowest end, 17-24 the highest end"
abbrev pub heading_of : List ℕ → Heading
heading_of s =
    record {
      count = field_of s 0 4;
      second = second_of (field_of s 4 2);
      total = total_of s (second_of (field_of s 4 2));
      lowest = field_of s 8 8;
      highest = field_of s 16 8;
    }

-- 2: "byte 25 is no newline, a field is ill-written, .. or a field blank", but for the second total's
abbrev pub ill_heading : ℕ → Heading → Bool
ill_heading last g =
    not (eqb last 10)
    || is_ill g.count
    || is_ill g.second
    || is_ill g.total
    || is_ill g.lowest
    || is_ill g.highest
    || is_blank g.count
    || is_blank g.total
    || is_blank g.lowest
    || is_blank g.highest

-- "A bad second total is refused 3": it may be "1 to 64, different from the first"
abbrev pub bad_second : Heading → Bool
bad_second g = outside (pos 1) (pos 64) g.second || has_number (count_of g.total) g.second

-- 3: "T, an end .. out of range, or lowest end above highest"
abbrev pub wide_heading : Heading → Bool
wide_heading g =
    bad_second g
    || outside (pos 1) (pos 64) g.total
    || outside (negsuc 999999) (pos 1000000) g.lowest
    || outside (negsuc 999999) (pos 1000000) g.highest
    || lt_z (value_of g.highest) (value_of g.lowest)

-- a second total of 0 stands for none
abbrev pub head_of : Heading → Head
head_of g = record { total = count_of g.total; second = count_of g.second; lowest = value_of g.lowest; highest = value_of g.highest }

-- the header of a table of n node lines, with the byte of column 25: 2, 3, 4
abbrev pub header_checks : ℕ → ℕ → Heading → List Check
header_checks n last g =
    record { holds = ill_heading last g; gives = IllWritten 0 }
    ∷ record { holds = wide_heading g; gives = OutOfRange 0 }
    ∷ record { holds = not (has_number n g.count); gives = Misnumbered 0 }
    ∷ []

abbrev pub header_for : ℕ → ℕ → Heading → Verdict Head
header_for n last g = unless (header_checks n last g) (head_of g)

abbrev pub header : ℕ → List ℕ → Verdict Head
header n s = header_for n (get_or s 24 0) (heading_of s)

-- the totals: the first, and the second where there is one
abbrev pub totals : Head → List ℕ
totals h = h.total ∷ cond (eqb h.second 0) [] (h.second ∷ [])

-- "A chance line's weights sum to either total": n is one of these
unfoldable pub among : ℕ → List ℕ → Bool
among n [] = false
among n (t ∷ ts) = eqb n t || among n ts

-- "Weights go up to the larger total."
abbrev pub larger : Head → ℕ
larger h = max h.total h.second

-- ---- a node line

-- "1-4 node number, 5 blank, 6 kind, 7-11 parent, 12-16 weight, 17-24 utility"
abbrev pub entry_of : List ℕ → Entry
entry_of s = record { number = field_of s 0 4; letter = get_or s 5 0; parent = field_of s 6 5; weight = field_of s 11 5; utility = field_of s 16 8 }

-- "Kinds: M (MAX), N (MIN), C (chance), L (leaf)": as bytes 77, 78, 67 and 76
abbrev pub letter : Kind → ℕ
letter Leaf = 76
letter Max = 77
letter Min = 78
letter Chance = 67

-- the kind of a letter; another byte has none
abbrev pub kind_from : ℕ → Option Kind
kind_from b =
    cond (eqb b 76) (Some Leaf) (cond (eqb b 77) (Some Max) (cond (eqb b 78) (Some Min) (cond (eqb b 67) (Some Chance) None)))

-- the number of a kind: 0 for L, 1 for M, 2 for N, 3 for C
abbrev pub code : Kind → ℕ
code Leaf = 0
code Max = 1
code Min = 2
code Chance = 3

abbrev pub is_leaf : Kind → Bool
is_leaf k = eqb (code k) 0

abbrev pub is_chance : Kind → Bool
is_chance k = eqb (code k) 3

-- the kind's number, or 4 where there is none
abbrev pub code_or : Option Kind → ℕ
code_or None = 4
code_or (Some k) = code k

abbrev pub letter_code : ℕ → ℕ
letter_code b = code_or (kind_from b)

-- the kind of a line; where it has none, 5 refuses it before the kind counts
abbrev pub kind_said : Entry → Kind
kind_said e = unwrap_or (kind_from e.letter) Leaf

-- the path from a node up to the root, or no such node
pub data Above : Type 0 where
  wrong : Above
  path : List Step → Above

-- "the parent of node i is node i-1 or one of its ancestors, and is no leaf": the steps are those of node i-1, from itself up to the root
unfoldable pub climb : ℕ → List Step → Above
climb p [] = wrong
climb p (s ∷ P) = cond (eqb s.node p) (cond (is_leaf s.kind) wrong (path (s ∷ P))) (climb p P)

abbrev pub climb_to : Field → List Step → Above
climb_to Blank P = wrong
climb_to Ill P = wrong
climb_to (Number (pos p)) P = climb p P
climb_to (Number (negsuc p)) P = wrong

-- "Only node 0, the root, has a blank parent": before it there are no steps
abbrev pub ancestors : Field → List Step → Above
ancestors f [] = cond (is_blank f) (path []) wrong
ancestors f (s ∷ P) = climb_to f (s ∷ P)

abbrev pub is_wrong : Above → Bool
is_wrong wrong = true
is_wrong (path P) = false

abbrev pub steps_of : Above → List Step
steps_of wrong = []
steps_of (path P) = P

-- how many C a path has, and whether it ends at a C
abbrev pub chances_of : List Step → ℕ
chances_of [] = 0
chances_of (s ∷ P) = s.chances

abbrev pub at_chance : List Step → Bool
at_chance [] = false
at_chance (s ∷ P) = is_chance s.kind

-- 2: "byte 25 is no newline, a field is ill-written, column 5 of a node line not blank, or a field blank other than parent, weight, utility"
abbrev pub ill_entry : ℕ → ℕ → Entry → Bool
ill_entry fifth last e =
    not (eqb last 10)
    || is_ill e.number
    || is_ill e.parent
    || is_ill e.weight
    || is_ill e.utility
    || not (eqb fifth 32)
    || is_blank e.number
    || eqb e.letter 32

-- 10: "at most 64 nodes and at most four C on a path from the root"
abbrev pub deep : List Step → Bool
deep P = ltb 64 (length P) || ltb 4 (chances_of P)

-- 7: "A weight stands exactly on children of a C, a utility exactly on an L"
abbrev pub misfilled : Bool → Bool → Entry → Bool
misfilled under_c on_leaf e =
    cond under_c (is_blank e.weight) (not (is_blank e.weight)) || cond on_leaf (is_blank e.utility) (not (is_blank e.utility))

-- 3: "weights 1 to T", by Item 5 to the larger total; "utilities within the ends"
abbrev pub wide_entry : Head → Entry → Bool
wide_entry h e = outside (pos 1) (pos (larger h)) e.weight || outside h.lowest h.highest e.utility

-- the steps of node i, of the kind k, under the steps P
abbrev pub stepped : ℕ → Kind → List Step → List Step
stepped i k P = record { node = i; kind = k; chances = chances_of P + cond (is_chance k) 1 0 } ∷ P

-- a line as the last step of its path
abbrev pub step_of : Line → Step
step_of l = record { node = l.node; kind = l.kind; chances = l.chances }

-- a line that was read, with the path down to it
pub record Placed : Type 0 where
  pub line : Line
  pub steps : List Step

abbrev pub line_said : ℕ → Kind → ℕ → Entry → Line
line_said i k chances e =
    record { node = i; kind = k; parent = count_of e.parent; weight = count_of e.weight; utility = value_of e.utility; chances = chances }

abbrev pub placed : ℕ → Kind → Entry → List Step → Placed
placed i k e S = record { line = line_said i k (chances_of S) e; steps = S }

-- node i, of the kind k, below the steps P of its parent: 10, 7, 3
abbrev pub late_checks : Head → ℕ → Kind → Entry → List Step → List Check
late_checks h i k e P =
    record { holds = deep (stepped i k P); gives = TooDeep (i + 1) }
    ∷ record { holds = misfilled (at_chance P) (is_leaf k) e; gives = Misfilled (i + 1) }
    ∷ record { holds = wide_entry h e; gives = OutOfRange (i + 1) }
    ∷ []

-- node i, of the kind k if it has one, with what stands above it and the bytes of columns 5 and 25: 2, 4, 5, 6
abbrev pub early_checks : ℕ → Option Kind → Above → Entry → ℕ → ℕ → List Check
early_checks i k a e fifth last =
    record { holds = ill_entry fifth last e; gives = IllWritten (i + 1) }
    ∷ record { holds = not (has_number i e.number); gives = Misnumbered (i + 1) }
    ∷ record { holds = is_none k; gives = UnknownKind (i + 1) }
    ∷ record { holds = is_wrong a; gives = WrongParent (i + 1) }
    ∷ []

-- all of them: 2, 4, 5, 6, 10, 7, 3
abbrev pub line_checks : Head → ℕ → Entry → ℕ → ℕ → Above → List Check
line_checks h i e fifth last a =
    early_checks i (kind_from e.letter) a e fifth last ++ late_checks h i (kind_said e) e (steps_of a)

-- node i below the steps P of the line before it
abbrev pub place_of : Head → ℕ → Entry → ℕ → ℕ → List Step → Verdict Placed
place_of h i e fifth last P =
    let k : Kind = kind_said e in
    let a : Above = ancestors e.parent P in
    unless (line_checks h i e fifth last a) (placed i k e (stepped i k (steps_of a)))

-- the line s of node i
abbrev pub node_line : Head → ℕ → List Step → List ℕ → Verdict Placed
node_line h i P s = place_of h i (entry_of s) (get_or s 4 0) (get_or s 24 0) P

-- "utilities within the ends"
abbrev pub Within : Head → ℤ → Type 0
Within h z = (lt_z z h.lowest ≡ false) × (lt_z h.highest z ≡ false)
