-- Match files: each entry is its position's alone, a file made of two has the entries of both, and a refused position stops the report,
-- whatever follows it.
use Prim.Native.Nat.{ℕ, zero, suc, ◌+◌, ◌-◌, ◌*◌, ◌≤◌, ◌<◌}
use mathlib.Core.Path.{◌≡◌, refl, sym, ap, ap₂, subst, ◌∙◌}
use mathlib.Core.Bool.{Bool, true, false, not, ◌||◌}
use mathlib.Core.List.{List, [], ◌∷◌, ◌++◌, append_assoc}
use native.Mathlib.Omega.{arith}
use borrow.Author.Tests.{le-ltb}
use lib.Dec.{eqb, ltb}
use lib.ListN.{length, get_or, take, drop, length-append, length-drop, take-append-drop, get_or-append}
use lib.Seq.{length-take-le, take-append-le, drop-append-le, take-length}
use Rattle.field.specs.Field.{strip, signed}
use Rattle.field.specs.declared.Field.{Field}
use Rattle.line.specs.declared.Refusal.{Refusal}
use Rattle.line.specs.declared.Refusal.TheVariants.{TooMany}
use Rattle.line.specs.Refusal.{Verdict, refused, fine, unless, next}
use Rattle.line.specs.Line.{is_ill, is_blank, value_of, count_of, heading_of}
use Rattle.table.specs.Table.{Table, read_text}
use Rattle.judge.specs.Judge.{judge}
use Rattle.judge.specs.Call.{judge_answer}
use Rattle.report.specs.declared.Row.{Row}
use Rattle.report.specs.Report.{play_in, head_in, nodes_in, size_of, table_in, bad_start, head_checks, scored, position_of, Outcome, stopped, rows, after, reached, match_from, match_of}
use Rattle.report.specs.Files.{Alone, EachAlone, head_is, Whole}
use Rattle.report.proofs.Cases.{start-stops, head-stops, lines-there}
use Rattle.report.proofs.Rows.{position-fine}

-- ---- one position, with more bytes after it

module _ (s x : List ℕ) where
  part-more : (n m : ℕ) → n + m ≤ length s → take m (drop n (s ++ x)) ≡ take m (drop n s)
  part-more n m h = ap (take m) (drop-append-le n s x (omega arith)) ∙ take-append-le m (drop n s) x (omega (arith, length-drop n s))

  module _ (long : 30 ≤ length s) where
    play-more : play_in (s ++ x) ≡ play_in s
    play-more = ap (λ (t : List ℕ). signed (strip t)) (part-more 0 4 (omega arith))

    head_more : head_in (s ++ x) ≡ head_in s
    head_more = part-more 5 25 (omega arith)

    ill-more : bad_start (s ++ x) ≡ bad_start s
    ill-more =
        ap (λ (b : Bool). b || not (eqb (get_or (s ++ x) 4 0) 10) || is_ill (play_in (s ++ x)) || is_blank (play_in (s ++ x)))
        (le-ltb (length (s ++ x)) 30 (omega (arith, length-append s x)) ∙ sym (le-ltb (length s) 30 long))
        ∙ ap₂ (λ (b : ℕ) (f : Field). ltb (length s) 30 || not (eqb b 10) || is_ill f || is_blank f) (get_or-append s x 0 4 (omega arith)) play-more

    nodes-more : nodes_in (s ++ x) ≡ nodes_in s
    nodes-more = ap (λ (h : List ℕ). count_of (heading_of h).count) head_more

    head-is-more : (v : Verdict ℕ) → head_is s ≡ v → head_is (s ++ x) ≡ v
    head-is-more v e = ap₂ (λ (h : List ℕ) (n : ℕ). unless (head_checks h) n) head_more nodes-more ∙ e

    -- all of its bytes are there
    module _ (l : size_of s ≤ length s) where
      size-more : size_of (s ++ x) ≡ size_of s
      size-more = ap (λ (n : ℕ). 30 + 25 * n) nodes-more

      table_more : table_in (s ++ x) ≡ table_in s
      table_more =
          ap (λ (n : ℕ). take (25 + 25 * n) (drop 5 (s ++ x))) nodes-more ∙ part-more 5 (25 + 25 * nodes_in s) (omega arith)

      scored-more : scored (value_of (play_in (s ++ x))) (table_in (s ++ x)) ≡ scored (value_of (play_in s)) (table_in s)
      scored-more =
          ap₂ (λ (f : Field) (t : List ℕ). scored (value_of f) t) play-more table_more

  -- what stands after a position does not matter to it
  pub position-more : Whole s → position_of (s ++ x) ≡ position_of s
  position-more W = go (bad_start s) refl
    where
      headed : bad_start s ≡ false → (v : Verdict ℕ) → head_is s ≡ v → position_of (s ++ x) ≡ position_of s
      headed w (refused r) e =
          head-stops (s ++ x) (ill-more W.head ∙ w) r (head-is-more W.head (refused r) e) ∙ sym (head-stops s w r e)
      headed w (fine n) e =
          let l = W.lines w n e in
          lines-there (s ++ x) (ill-more W.head ∙ w) n (head-is-more W.head (fine n) e) (omega (arith, size-more W.head l, length-append s x))
          ∙ scored-more W.head l
          ∙ sym (lines-there s w n e l)

      go : (b : Bool) → bad_start s ≡ b → position_of (s ++ x) ≡ position_of s
      go true e = start-stops (s ++ x) (ill-more W.head ∙ e) ∙ sym (start-stops s e)
      go false e = headed e (head_is s) refl

-- and its rest is the same, with that after it
rest_more : (s x : List ℕ) → Whole s → size_of s ≤ length s → drop (size_of (s ++ x)) (s ++ x) ≡ drop (size_of s) s ++ x
rest_more s x W l = ap (λ (n : ℕ). drop n (s ++ x)) (size-more s x W.head l) ∙ drop-append-le (size_of s) s x l

-- a position that is not refused is whole
module _ (s : List ℕ) (r : Row) (e : position_of s ≡ fine r) where
  pub row_within : size_of s ≤ length s
  row_within = (position-fine s r e).within

  row-whole : Whole s
  row-whole = let w = row_within in record { head = omega arith; lines = λ h n p. w }

  -- ---- the position alone

  -- its own bytes
  abbrev own : List ℕ
  own = take (size_of s) s

  own-long : length own ≡ size_of s
  own-long = length-take-le (size_of s) s row_within

  own-part : (n m : ℕ) → n + m ≤ size_of s → take m (drop n own) ≡ take m (drop n s)
  own-part n m h =
      sym (part-more own (drop (size_of s) s) n m (omega (arith, own-long))) ∙ ap (λ (t : List ℕ). take m (drop n t)) (take-append-drop (size_of s) s)

  own-size : size_of own ≡ size_of s
  own-size = ap (λ (h : List ℕ). 30 + 25 * count_of (heading_of h).count) (own-part 5 25 (omega arith))

  own-whole : Whole own
  own-whole = record { head = omega (arith, own-long); lines = λ h n p. omega (arith, own-long, own-size) }

  own-fine : position_of own ≡ fine r
  own-fine = sym (position-more own (drop (size_of s) s) own-whole) ∙ ap position_of (take-append-drop (size_of s) s) ∙ e

  -- its table is what stands after the play number
  own-table : table_in own ≡ drop 5 own
  own-table =
      let m : 25 + 25 * nodes_in own ≡ length (drop 5 own) = omega (arith, own-size, own-long, length-drop 5 own) in
      ap (λ (n : ℕ). take n (drop 5 own)) m ∙ take-length (drop 5 own)

  pub row-alone : Alone own r
  row-alone =
      let C = (position-fine own r own-fine).scored in
      let p : read_text (drop 5 own) ≡ fine C.table = ap read_text (sym own-table) ∙ C.read in
      record {
        table = C.table;
        judgement = C.judgement;
        long = own-long ∙ sym own-size;
        read = p;
        judged = ap (λ (v : Verdict Table). judge_answer (next v (λ (t : Table). judge t (value_of (play_in own))))) p ∙ ap judge_answer C.judged;
        entry = sym C.entry;
        alone = own-fine;
      }

-- ---- the match, step by step

-- entries that begin with r
after_one : (r : Row) (o : Outcome) (rs : List Row) → after (r ∷ []) o ≡ rows rs → (qs : List Row) × (o ≡ rows qs) × (r ∷ qs ≡ rs)
after_one r (stopped q k) rs e = let z : ◌≡◌ {A = ℕ} 0 1 = cc in absurd (omega arith)
after_one r (rows qs) rs e = (qs, refl, cc)

pub after_none : (o : Outcome) → o ≡ after [] o
after_none (stopped r k) = refl
after_none (rows rs) = refl

pub after-after : (xs ys : List Row) (o : Outcome) → after xs (after ys o) ≡ after (xs ++ ys) o
after-after xs ys (stopped r k) = refl
after-after xs ys (rows rs) = ap rows (sym (append_assoc xs ys rs))

pub match-end : (left k : ℕ) → match_from left k [] ≡ rows []
unfolding match_from
match-end zero k = refl
match-end (suc left) k = refl

pub match-full : (k : ℕ) (s : List ℕ) → 0 < length s → match_from 0 k s ≡ stopped TooMany k
unfolding match_from
match-full k [] h = absurd (omega arith)
match-full k (b ∷ s) h = refl

pub match-on : (left k : ℕ) (s : List ℕ) → 0 < length s
    → match_from (suc left) k s ≡ reached k (match_from left (suc k) (drop (size_of s) s)) (position_of s)
unfolding match_from
match-on left k [] h = absurd (omega arith)
match-on left k (b ∷ s) h = refl

-- a match with the entries rs, one position after another
pub data Runs : (left : ℕ) → List ℕ → List Row → Type 0 where
  none : {left : ℕ} → Runs left [] []
  more : {left : ℕ} {s : List ℕ} {rs : List Row} (r : Row) → 0 < length s → position_of s ≡ fine r → Runs left (drop (size_of s) s) rs → Runs (suc left) s (r ∷ rs)

stopped-rows : (P : Type 0) (q : Refusal) (k : ℕ) (rs : List Row) → stopped q k ≡ rows rs → P
stopped-rows P q k rs e = let z : ◌≡◌ {A = ℕ} 0 1 = cc in absurd (omega arith)

module _ (left k : ℕ) (s : List ℕ) (rs : List Row) (some : 0 < length s) where
  -- the rest of the file
  abbrev rest : List ℕ
  rest = drop (size_of s) s

  runs_on : ((qs : List Row) → match_from left (suc k) rest ≡ rows qs → Runs left rest qs) → (v : Verdict Row) → position_of s ≡ v
      → reached k (match_from left (suc k) rest) v ≡ rows rs → Runs (suc left) s rs
  runs_on then (refused q) p h = stopped-rows _ q k rs h
  runs_on then (fine r) p h =
      let (qs, x, y) = after_one r (match_from left (suc k) rest) rs h in
      subst (Runs (suc left) s) y (more r some p (then qs x))

-- nothing is left of a file, or something
data Left (s : List ℕ) : Type 0 where
  nothing : s ≡ [] → Left s
  something : 0 < length s → Left s

left-of : (s : List ℕ) → Left s
left-of [] = nothing refl
left-of (b ∷ s) = something (omega arith)

runs-end : (left k : ℕ) (s : List ℕ) (rs : List Row) → match_from left k s ≡ rows rs → s ≡ [] → Runs left s rs
runs-end left k s rs e n =
    let z : rows [] ≡ rows rs = sym (match-end left k) ∙ ap (match_from left k) (sym n) ∙ e in
    let q : [] ≡ rs = cc in
    subst (λ (t : List ℕ). Runs left t rs) (sym n) (subst (Runs left []) q none)

pub runs : (left k : ℕ) (s : List ℕ) (rs : List Row) → match_from left k s ≡ rows rs → Runs left s rs
runs zero k s rs e = go (left-of s)
  where
    go : Left s → Runs zero s rs
    go (nothing n) = runs-end zero k s rs e n
    go (something h) = stopped-rows _ TooMany k rs (sym (match-full k s h) ∙ e)
runs (suc left) k s rs e = go (λ qs x. runs left (suc k) (drop (size_of s) s) qs x) (left-of s)
  where
    go : ((qs : List Row) → match_from left (suc k) (drop (size_of s) s) ≡ rows qs → Runs left (drop (size_of s) s) qs) → Left s → Runs (suc left) s rs
    go ih (nothing n) = runs-end (suc left) k s rs e n
    go ih (something h) = runs_on left k s rs h ih (position_of s) refl (sym (match-on left k s h) ∙ e)

-- ---- what is said of match files

-- as many entries as positions, each what judging says of that position alone
each-alone : (left : ℕ) (s : List ℕ) (rs : List Row) → Runs left s rs → EachAlone s rs
each-alone left s rs none = refl
each-alone left s rs (more r h e R) = (row-alone s r e, each-alone _ (drop (size_of s) s) _ R)

pub judged-alone : (file : List ℕ) (rs : List Row) → match_of file ≡ rows rs → EachAlone file rs
judged-alone file rs e = each-alone 500 file rs (runs 500 1 file rs e)

-- from another place of the count
from_at : (done : List Row) (b : List ℕ) (l k l' k' : ℕ) → l ≡ l' → k ≡ k' → after done (match_from l k b) ≡ after done (match_from l' k' b)
from_at done b l k l' k' p q = ap₂ (λ (l k : ℕ). after done (match_from l k b)) p q

-- a file made of a, which is not refused, and b: the entries of a, and then b where so many positions fewer are left
joined : (left k : ℕ) (a b : List ℕ) (rs : List Row) → Runs left a rs → match_from left k (a ++ b) ≡ after rs (match_from (left - length rs) (k + length rs) b)
joined left k a b rs none = after_none (match_from left k b) ∙ from_at [] b left k (left - 0) (k + 0) (omega arith) (omega arith)
joined left k a b rs (more {left = l} {rs = qs} r h e R) =
    match-on l k (a ++ b) (omega (arith, length-append a b))
    ∙ ap (reached k (match_from l (suc k) (drop (size_of (a ++ b)) (a ++ b)))) (position-more a b (row-whole a r e) ∙ e)
    ∙ ap (λ (t : List ℕ). after (r ∷ []) (match_from l (suc k) t)) (rest_more a b (row-whole a r e) (row_within a r e))
    ∙ ap (after (r ∷ [])) (joined l (suc k) (drop (size_of a) a) b qs R)
    ∙ after-after (r ∷ []) qs (match_from (l - length qs) (suc k + length qs) b)
    ∙ from_at (r ∷ qs) b (l - length qs) (suc k + length qs) (suc l - suc (length qs)) (k + suc (length qs)) (omega arith) (omega arith)

-- a, which is not refused, and then b
module _ (a b : List ℕ) (rs : List Row) (e : match_of a ≡ rows rs) where
  then-on : match_of (a ++ b) ≡ after rs (match_from (500 - length rs) (suc (length rs)) b)
  then-on = joined 500 1 a b rs (runs 500 1 a rs e) ∙ from_at rs b (500 - length rs) (1 + length rs) (500 - length rs) (suc (length rs)) refl (omega arith)

  -- "15, more than 500 positions, found when the next one begins"
  pub too_many : length rs ≡ 500 → 0 < length b → match_of (a ++ b) ≡ stopped TooMany 501
  too_many n h = then-on ∙ from_at rs b (500 - length rs) (suc (length rs)) 0 501 (omega arith) (omega arith) ∙ ap (after rs) (match-full 501 b h)

  -- "A position refused stops the report, which returns that refusal with the position's number"
  pub stops_at : length rs < 500 → 0 < length b → (r : Refusal) → position_of b ≡ refused r → match_of (a ++ b) ≡ stopped r (suc (length rs))
  stops_at n h r p =
      then-on
      ∙ from_at rs b (500 - length rs) (suc (length rs)) (suc (499 - length rs)) (suc (length rs)) (omega arith) refl
      ∙ ap (after rs) (match-on (499 - length rs) (suc (length rs)) b h)
      ∙ ap (λ (v : Verdict Row). after rs (reached (suc (length rs)) (match_from (499 - length rs) (suc (suc (length rs))) (drop (size_of b) b)) v)) p

-- the count of positions before b does not matter to its entries
again : (left l' k' : ℕ) (b : List ℕ) (qs : List Row) → Runs left b qs → length qs ≤ l' → match_from l' k' b ≡ rows qs
again left l' k' b qs none h = match-end l' k'
again left l' k' b qs (more {left = l} {rs = ps} r h e R) m =
    ap (λ (n : ℕ). match_from n k' b) (omega arith)
    ∙ match-on (l' - 1) k' b h
    ∙ ap (reached k' (match_from (l' - 1) (suc k') (drop (size_of b) b))) e
    ∙ ap (after (r ∷ [])) (again l (l' - 1) (suc k') (drop (size_of b) b) ps R (omega arith))

-- a file made of two has the entries of both
pub two-files : (a b : List ℕ) (rs qs : List Row) → match_of a ≡ rows rs → match_of b ≡ rows qs → length rs + length qs ≤ 500 → match_of (a ++ b) ≡ rows (rs ++ qs)
two-files a b rs qs e f n =
    then-on a b rs e ∙ ap (after rs) (again 500 (500 - length rs) (suc (length rs)) b qs (runs 500 1 b qs f) (omega arith))
