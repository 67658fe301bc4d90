-- Match files that differ in padding alone are reported alike. Document 02, Item 9.
use Prim.Native.Nat.{ℕ, zero, suc, ◌+◌, ◌*◌, ◌≤◌, ◌<◌}
use mathlib.Core.Path.{◌≡◌, refl, sym, ap, ap₂, ◌∙◌}
use mathlib.Core.Bool.{Bool, true, false, cond, not, ◌||◌}
use mathlib.Core.List.{List, [], ◌∷◌, ◌++◌}
use native.Mathlib.Omega.{arith}
use lib.Dec.{eqb, ltb}
use lib.ListN.{length, get_or, take, drop, length-append}
use lib.Seq.{take_at, drop_at, drop-drop, get_or_at, take-append-le, length-take-le}
use lib.IntN.{ℤ, pos}
use Rattle.field.specs.Field.{strip, signed}
use Rattle.field.specs.declared.Field.{Field}
use Rattle.field.proofs.Padding.{repadded-read}
use Rattle.line.specs.declared.Heading.{Heading}
use Rattle.line.specs.declared.Refusal.TheVariants.{IllWritten, OutOfRange, Misnumbered, TooMany, NoPosition}
use Rattle.line.specs.Refusal.{Verdict, refused, Check, unless, next}
use Rattle.line.specs.Line.{is_ill, is_blank, outside, value_of, count_of, heading_of, ill_heading, wide_heading}
use Rattle.table.specs.Table.{Table, read_text}
use Rattle.table.proofs.Padding.{heading-same, text_same}
use Rattle.judge.specs.Judge.{Judgement, judge}
use Rattle.report.specs.declared.Row.{Row}
use Rattle.report.specs.Report.{play_in, head_in, nodes_in, table_in, size_of, position_checks, row_of, scored, position_of, Outcome, stopped, reached, begins, match_from, match_of}
use Rattle.report.specs.Padding.{SamePosition, SameMatch, same_rest, same_more}

-- a position's parts, in the file x
module _ (x play table rest : List ℕ) (is : x ≡ play ++ (10 ∷ (table ++ rest))) (four : length play ≡ 4) (room : 25 ≤ length table) where
  five : drop 5 x ≡ table ++ rest
  five = sym (drop-drop 1 4 x) ∙ ap (λ (y : List ℕ). drop 1 (drop 4 y)) is ∙ ap (drop 1) (drop_at play (10 ∷ (table ++ rest)) 4 four)

  is-play : play_in x ≡ signed (strip play)
  is-play = ap (λ (y : List ℕ). signed (strip (take 4 y))) is ∙ ap (λ (y : List ℕ). signed (strip y)) (take_at play (10 ∷ (table ++ rest)) 4 four)

  is_newline : get_or x 4 0 ≡ 10
  is_newline = ap (λ (y : List ℕ). get_or y 4 0) is ∙ get_or_at play 10 (table ++ rest) 0 4 four

  is-head : head_in x ≡ take 25 table
  is-head = ap (take 25) five ∙ take-append-le 25 table rest room

  is-long : length x ≡ 5 + length table + length rest
  is-long = ap length is ∙ length-append play (10 ∷ (table ++ rest)) ∙ omega (arith, length-append table rest)

  is-table : (n : ℕ) → n ≡ length table → take n (drop 5 x) ≡ table
  is-table n e = ap (take n) five ∙ take_at table rest n (sym e)

  is-rest : (n : ℕ) → n ≡ 5 + length table → drop n x ≡ rest
  is-rest n e =
      ap (λ (k : ℕ). drop k x) e
      ∙ sym (drop-drop (length table) 5 x)
      ∙ ap (drop (length table)) five
      ∙ drop_at table rest (length table) refl

-- whatever is checked before them, equal results give equal ones
after-checks : {A B : Type 0} (cs : List Check) (a b : A) (f : A → Verdict B) → f a ≡ f b → next (unless cs a) f ≡ next (unless cs b) f
unfolding unless
after-checks [] a b f e = e
after-checks {A} {B} (c ∷ cs) a b f e = go c.holds (after-checks cs a b f e)
  where
    go : (h : Bool) → next (unless cs a) f ≡ next (unless cs b) f → next (cond h (refused c.gives) (unless cs a)) f ≡ next (cond h (refused c.gives) (unless cs b)) f
    go true r = refl
    go false r = r

-- ---- one position

-- the checks, by what they look at
abbrev checks_by : (long newline : ℕ) → Field → Heading → (last : ℕ) → List Check
checks_by long newline play g last =
    record { holds = ltb long 30 || not (eqb newline 10) || is_ill play || is_blank play; gives = NoPosition }
    ∷ record { holds = ill_heading last g; gives = IllWritten 0 }
    ∷ record { holds = wide_heading g; gives = OutOfRange 0 }
    ∷ record { holds = outside (pos 1) (pos 1024) g.count; gives = Misnumbered 0 }
    ∷ record { holds = ltb long (30 + 25 * count_of g.count); gives = NoPosition }
    ∷ []

scored-same : (z : ℤ) (s u : List ℕ) → read_text s ≡ read_text u → scored z s ≡ scored z u
scored-same z s u e = ap (λ (v : Verdict Table). next v (λ (t : Table). next (judge t z) (λ (j : Judgement). Verdict.fine (row_of t j)))) e

module _ (a b f g : List ℕ) (S : SamePosition a b f g) (rest : length f ≡ length g) where
  table-long : length S.table-b ≡ length S.table-a
  table-long = sym S.tables.long

  room-a : 25 ≤ length S.table-a
  room-a = omega (arith, S.whole)

  room-b : 25 ≤ length S.table-b
  room-b = omega (arith, table-long, room-a)

  same-long : length a ≡ length b
  same-long =
      omega (arith, is-long a S.play-a S.table-a f S.is-a S.four-a room-a, is-long b S.play-b S.table-b g S.is_b S.four-b room-b, table-long, rest)

  same-play : play_in a ≡ play_in b
  same-play =
      is-play a S.play-a S.table-a f S.is-a S.four-a room-a
      ∙ repadded-read S.play-a S.play-b S.plays
      ∙ sym (is-play b S.play-b S.table-b g S.is_b S.four-b room-b)

  same-newline : get_or a 4 0 ≡ get_or b 4 0
  same-newline =
      is_newline a S.play-a S.table-a f S.is-a S.four-a room-a ∙ sym (is_newline b S.play-b S.table-b g S.is_b S.four-b room-b)

  head-a : head_in a ≡ take 25 S.table-a
  head-a = is-head a S.play-a S.table-a f S.is-a S.four-a room-a

  head-b : head_in b ≡ take 25 S.table-b
  head-b = is-head b S.play-b S.table-b g S.is_b S.four-b room-b

  same-heading : heading_of (take 25 S.table-a) ≡ heading_of (take 25 S.table-b)
  same-heading =
      heading-same (take 25 S.table-a) (take 25 S.table-b) (rw (length-take-le 25 S.table-a room-a) (omega arith)) (rw (length-take-le 25 S.table-b room-b) (omega arith)) S.tables.head

  heading-is : heading_of (head_in a) ≡ heading_of (head_in b)
  heading-is = ap heading_of head-a ∙ same-heading ∙ sym (ap heading_of head-b)

  last-is : get_or (head_in a) 24 0 ≡ get_or (head_in b) 24 0
  last-is = ap (λ (x : List ℕ). get_or x 24 0) head-a ∙ S.tables.head.last ∙ sym (ap (λ (x : List ℕ). get_or x 24 0) head-b)

  nodes-a : 25 + 25 * nodes_in a ≡ length S.table-a
  nodes-a = ap (λ (x : List ℕ). 25 + 25 * count_of (heading_of x).count) head-a ∙ sym S.whole

  nodes-b : 25 + 25 * nodes_in b ≡ length S.table-b
  nodes-b = ap (λ (x : Heading). 25 + 25 * count_of x.count) (sym heading-is) ∙ nodes-a ∙ sym table-long

  table-a-is : table_in a ≡ S.table-a
  table-a-is = is-table a S.play-a S.table-a f S.is-a S.four-a room-a (25 + 25 * nodes_in a) nodes-a

  table-b-is : table_in b ≡ S.table-b
  table-b-is = is-table b S.play-b S.table-b g S.is_b S.four-b room-b (25 + 25 * nodes_in b) nodes-b

  rest-a : drop (size_of a) a ≡ f
  rest-a = is-rest a S.play-a S.table-a f S.is-a S.four-a room-a (size_of a) (omega (arith, nodes-a))

  rest-b : drop (size_of b) b ≡ g
  rest-b = is-rest b S.play-b S.table-b g S.is_b S.four-b room-b (size_of b) (omega (arith, nodes-b))

  checks-same : position_checks a ≡ position_checks b
  checks-same = λ j. checks_by (same-long j) (same-newline j) (same-play j) (heading-is j) (last-is j)

  position-same : position_of a ≡ position_of b
  unfolding position_of
  position-same =
      (λ j. next (unless (checks-same j) (table_in a)) (scored (value_of (same-play j))))
      ∙ after-checks (position_checks b) (table_in a) (table_in b) (scored (value_of (play_in b)))
      (scored-same (value_of (play_in b)) (table_in a) (table_in b) (ap read_text table-a-is ∙ text_same S.table-a S.table-b S.tables ∙ sym (ap read_text table-b-is)))

-- ---- the match

match-long : (a b : List ℕ) → SameMatch a b → length a ≡ length b
match-long a b (same_rest e) = ap length e
match-long a b (same_more {rest-a = f} {rest-b = g} S M) = same-long a b f g S (match-long f g M)

some : (a b f g : List ℕ) (S : SamePosition a b f g) → (0 < length a) × (0 < length b)
some a b f g S =
    let r : 25 ≤ length S.table-a = omega (arith, S.whole) in
    let q : 25 ≤ length S.table-b = omega (arith, S.tables.long) in
    (omega (arith, is-long a S.play-a S.table-a f S.is-a S.four-a r), omega (arith, is-long b S.play-b S.table-b g S.is_b S.four-b q))

begins-same : (a b : List ℕ) (o : Outcome) → 0 < length a → 0 < length b → begins a o ≡ begins b o
begins-same [] b o p q = absurd (omega arith)
begins-same (x ∷ a) [] o p q = absurd (omega arith)
begins-same (x ∷ a) (y ∷ b) o p q = refl

from-same : (left k : ℕ) (a b : List ℕ) → SameMatch a b → match_from left k a ≡ match_from left k b
unfolding match_from
from-same left k a b (same_rest e) = ap (match_from left k) e
from-same zero k a b (same_more {rest-a = f} {rest-b = g} S M) = let n = some a b f g S in begins-same a b (stopped TooMany k) n.0 n.1
from-same (suc left) k a b (same_more {rest-a = f} {rest-b = g} S M) =
    let n = some a b f g S in
    let long = match-long f g M in
    let rest : match_from left (suc k) (drop (size_of a) a) ≡ match_from left (suc k) (drop (size_of b) b) =
    ap (match_from left (suc k)) (rest-a a b f g S long) ∙ from-same left (suc k) f g M ∙ sym (ap (match_from left (suc k)) (rest-b a b f g S long)) in
    ap₂ (λ (o : Outcome) (v : Verdict Row). begins a (reached k o v)) rest (position-same a b f g S long)
    ∙ begins-same a b (reached k (match_from left (suc k) (drop (size_of b) b)) (position_of b)) n.0 n.1

pub match-same : (a b : List ℕ) → SameMatch a b → match_of a ≡ match_of b
match-same a b M = from-same 500 1 a b M
