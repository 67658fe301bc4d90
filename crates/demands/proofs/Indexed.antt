-- Document 02, Item 14, at the public calls.
use Rattle.std.proofs.Common.{Err, Ok, Result}
use Prim.Native.Nat.{ℕ, ◌≤◌, ◌<◌}
use mathlib.Core.Path.{◌≡◌, refl, sym, ap, ap₂, subst, ◌∙◌}
use mathlib.Core.Bool.{Bool, true, false, not, ◌||◌}
use mathlib.Core.List.{List, [], ◌∷◌, map}
use mathlib.Core.Option.{Option, none, some}
use native.Mathlib.Omega.{arith}
use borrow.Author.Tests.{ltb-true, ltb-false, lt-ltb, le-ltb}
use lib.Dec.{ltb}
use lib.ListN.{length}
use lib.IntN.{ℤ, pos, neg_ℤ, ◌+ℤ◌, ◌-ℤ◌}
use lib.Signed.{le_z}
use Rattle.numbers.specs.Integers.{eq_z}
use Rattle.line.specs.declared.Line.{Line}
use Rattle.line.specs.declared.Refusal.{Refusal}
use Rattle.line.specs.declared.Refusal.TheVariants.{NoRoom, BadMargin, BadIndex}
use Rattle.line.specs.Refusal.{Verdict, refused, fine, number_of, unless}
use Rattle.line.specs.Line.{to_nat}
use Rattle.line.proofs.Signs.{true-ne-false}
use Rattle.table.specs.Tree.{leaves}
use Rattle.table.specs.Table.{Table, tree, read_text, grain}
use Rattle.table.specs.Root.{play_of}
use Rattle.table.proofs.Places.{refused-number}
use Rattle.index.specs.Index.{Ends, index_of, of_entry, lows_of, highs_of, written, agrees, not_own}
use Rattle.worth.specs.Worth.{worth_of}
use Rattle.worth.specs.Call.{exact_call}
use Rattle.turn.specs.Turn.{turn_table}
use Rattle.turn.proofs.Tree.{tree-turned}
use Rattle.turn.proofs.Accepted.{turned-accepted}
use Rattle.turn_call.specs.Call.{turn_of}
use Rattle.search.specs.Search.{Seen, unlimited, node_of}
use Rattle.search.specs.Whole.{searched_own}
use Rattle.search.proofs.Own.{own-unspent, own-no-remainder}
use Rattle.search_call.specs.declared.Bounds.{Bounds}
use Rattle.search_call.specs.Call.{Sought, bad_margin, bounds_of, search_answer, search_list, search_line}
use Rattle.search_call.proofs.Call.{inside_is}
use Rattle.index_call.specs.Call.{room_in, indexed, index_answer, index_call, index_line, index_entries, sought_indexed, indexed_call, indexed_reads}
use Rattle.promise.specs.Unread.{Alike, ReadBy}
use Rattle.promise.specs.Turned.{Turns, turn_entry}
use Rattle.promise.proofs.Own.{own-contains, own-width, own-play-near, own-play-named, own-play-none}
use Rattle.promise.proofs.Changed as changed
use Rattle.promise.proofs.Turned as mirror
use Rattle.demands.specs.Demands.{child_worth, Promised, SameLines, same_none, same_more, Mirrors}
use Rattle.demands.specs.Indexed.{Lowest, Highest, Indexes, indexes-none, indexes-leaf, indexes-line, Fills, built_lows, built_highs, OwnIndex, OwnFor, Builds, BuildAnswer, build-table, build-lows, build-highs, build-done, BuildAnswers, ElevenIs, TwentyTwoIs, ShortRefused, BuiltAccepted, LeavesFree, IndexedAnswer, of-table, of-index, of-margin, of_room, of-search, IndexedAnswers, NoLine, AnswersIndexed, Indexed1, Counts, IndexedCounts, IndexedPlay, Indexed2, UnchangedIndex, Indexed3, IndexTurned, IndexedDivision}
use Rattle.demands.proofs.Utilities.{tree-alike}
use Rattle.demands.proofs.Within.{fine-same, written as turn-written, child-some, same-sought, same-grains}
use Rattle.demands.proofs.Index.{lines-indexed, eq-true, eq_self, and_both, both-and, neither, not-either, filled-owns, owns-long, fills-lows, fills-highs, own-accepted, accepted-own, same-own}

-- ---- building

module _ (t : Table) (room : ℕ) where
  build-short : room < length t.lines → indexed (fine t) room ≡ refused NoRoom
  unfolding unless
  build-short h = rw (lt-ltb room (length t.lines) h) refl

  build-fine : length t.lines ≤ room → indexed (fine t) room ≡ fine t
  unfolding unless
  build-fine h = rw (le-ltb room (length t.lines) h) refl

no-build : {P : Type 0} (r : Refusal) → ◌≡◌ {A = Result (Unit {0}) Refusal} (Err r) (Ok tt) → P
no-build r e = let z : ◌≡◌ {A = ℕ} 0 1 = cc in absurd (omega arith)

module _ (s : List ℕ) (lows highs : List ℤ) where
  abbrev least : ℕ
  least = room_in lows highs

  build-of : (t : Table) → read_text s ≡ fine t → (c d : Bool) → ltb (length lows) (length t.lines) ≡ c → ltb (length highs) (length t.lines) ≡ d
      → BuildAnswer s lows highs (index_call (fine t) least)
  build-of t p true d x y =
      let h : length lows < length t.lines = ltb-true (length lows) (length t.lines) x in
      subst (BuildAnswer s lows highs) (sym (ap index_answer (build-short t least (omega (arith, h))))) (build-lows p h)
  build-of t p false true x y =
      let h : length highs < length t.lines = ltb-true (length highs) (length t.lines) y in
      subst (BuildAnswer s lows highs) (sym (ap index_answer (build-short t least (omega (arith, h))))) (build-highs p h)
  build-of t p false false x y =
      let h : length t.lines ≤ length lows = ltb-false (length lows) (length t.lines) x in
      let k : length t.lines ≤ length highs = ltb-false (length highs) (length t.lines) y in
      subst (BuildAnswer s lows highs) (sym (ap index_answer (build-fine t least (omega (arith, h, k))))) (build-done p h k)

  build-at : (v : Verdict Table) → read_text s ≡ v → BuildAnswer s lows highs (index_call v least)
  build-at (refused r) p = build-table p
  build-at (fine t) p = build-of t p (ltb (length lows) (length t.lines)) (ltb (length highs) (length t.lines)) refl refl

  -- a call that was not refused
  built-long : (a : Result Unit Refusal) → a ≡ (Ok tt) → BuildAnswer s lows highs a
      → (t : Table) × (read_text s ≡ fine t) × (length t.lines ≤ length lows) × (length t.lines ≤ length highs)
  built-long a e (build-table {r} p) = no-build r e
  built-long a e (build-lows p h) = no-build NoRoom e
  built-long a e (build-highs p h) = no-build NoRoom e
  built-long a e (build-done {t} p x y) = (t, p, x, y)

pub build-answers : BuildAnswers
build-answers s lows highs = build-at s lows highs (read_text s) refl

same-built : (r x : Refusal) → ◌≡◌ {A = Result Unit Refusal} (Err r) (Err x) → r ≡ x
same-built r x e = cc

not-room : ◌≡◌ {A = Result (Unit {0}) Refusal} (Ok tt) (Err NoRoom) → ⊥
not-room e = let z : ◌≡◌ {A = ℕ} 0 1 = cc in omega arith

pub eleven : ElevenIs
eleven s lows highs = (
  λ t p h. ap (λ (v : Verdict Table). index_call v (room_in lows highs)) p ∙ ap index_answer (build-short t (room_in lows highs) h),
  λ e. back (index_call (read_text s) (room_in lows highs)) e (build-answers s lows highs),
)
  where
    back : (a : Result Unit Refusal) → a ≡ Err NoRoom → BuildAnswer s lows highs a
        → (t : Table) × (read_text s ≡ fine t) × (room_in lows highs < length t.lines)
    back a e (build-table {r} p) =
        let n : number_of r ≡ 11 = ap number_of (same-built r NoRoom e) in
        absurd (omega (arith, n, refused-number s r p (omega arith)))
    back a e (build-lows {t} p h) = (t, p, omega (arith, h))
    back a e (build-highs {t} p h) = (t, p, omega (arith, h))
    back a e (build-done p x y) = absurd (not-room e)

pub builds : Builds
builds s lows highs e =
    let (t, p, x, y) = built-long s lows highs (index_call (read_text s) (room_in lows highs)) e (build-answers s lows highs) in
    let fits : indexed (read_text s) (room_in lows highs) ≡ fine t =
    ap (λ (v : Verdict Table). indexed v (room_in lows highs)) p ∙ build-fine t (room_in lows highs) (omega (arith, x, y)) in (
      t,
      p,
      subst (λ (v : Verdict Table). Fills Lowest 0 t.lines lows (written (index_entries lows_of v) lows)) (sym fits) (fills-lows s t p lows x),
      subst (λ (v : Verdict Table). Fills Highest 0 t.lines highs (written (index_entries highs_of v) highs)) (sym fits) (fills-highs s t p highs y),
    )

-- ---- what the search answers

module _ (t : Table) (m : ℤ) (lows highs : List ℤ) (room : ℕ) where
  sought-index : not_own t lows highs ≡ true → sought_indexed (fine t) m lows highs room ≡ refused BadIndex
  unfolding unless
  sought-index x = rw x refl

  sought-margin : not_own t lows highs ≡ false → bad_margin m ≡ true → sought_indexed (fine t) m lows highs room ≡ refused BadMargin
  unfolding unless
  sought-margin x y = rw (x, y) refl

  sought-room : not_own t lows highs ≡ false → bad_margin m ≡ false → room < leaves (tree t) → sought_indexed (fine t) m lows highs room ≡ refused NoRoom
  unfolding unless
  sought-room x y l = rw (x, y, lt-ltb room (leaves (tree t)) l) refl

  sought-fine : not_own t lows highs ≡ false → bad_margin m ≡ false → leaves (tree t) ≤ room
      → sought_indexed (fine t) m lows highs room ≡ fine (record { table = t; seen = searched_own t (to_nat m) })
  unfolding unless
  sought-fine x y l = rw (x, y, le-ltb room (leaves (tree t)) l) refl

module _ (s : List ℕ) (m : ℤ) (lows highs : List ℤ) (room : ℕ) where
  abbrev Answer : Result Bounds Refusal → Type 0
  Answer = IndexedAnswer s m lows highs room

  answer-of : (t : Table) → read_text s ≡ fine t → (c d e : Bool) → not_own t lows highs ≡ c → bad_margin m ≡ d → ltb room (leaves (tree t)) ≡ e
      → IndexedAnswer s m lows highs room (indexed_call (fine t) m lows highs room)
  answer-of t p true d e x y z =
      subst Answer (sym (ap search_answer (sought-index t m lows highs room x)))
      (of-index p (λ own. true-ne-false (sym x ∙ own-accepted s t p lows highs own)))
  answer-of t p false true e x y z =
      subst Answer (sym (ap search_answer (sought-margin t m lows highs room x y))) (of-margin p (accepted-own s t p lows highs x) y)
  answer-of t p false false true x y z =
      let h : room < leaves (tree t) = ltb-true room (leaves (tree t)) z in
      subst Answer (sym (ap search_answer (sought-room t m lows highs room x y h))) (of_room p (accepted-own s t p lows highs x) y h)
  answer-of t p false false false x y z =
      let h : leaves (tree t) ≤ room = ltb-false room (leaves (tree t)) z in
      subst Answer (sym (ap search_answer (sought-fine t m lows highs room x y h))) (of-search p (accepted-own s t p lows highs x) y h)

  answer_at : (v : Verdict Table) → read_text s ≡ v → IndexedAnswer s m lows highs room (indexed_call v m lows highs room)
  answer_at (refused r) p = of-table p
  answer_at (fine t) p = answer-of t p (not_own t lows highs) (bad_margin m) (ltb room (leaves (tree t))) refl refl refl

pub indexed-answers : IndexedAnswers
indexed-answers s m lows highs room = answer_at s m lows highs room (read_text s) refl

-- ---- 22

same-refusal : (r x : Refusal) → ◌≡◌ {A = Result Bounds Refusal} (Err r) (Err x) → r ≡ x
same-refusal r x e = cc

-- its number is that of no other refusal here
other-number : {P : Type 0} (r : Refusal) → (number_of r ≡ 22 → ⊥) → ◌≡◌ {A = Result Bounds Refusal} (Err r) (Err BadIndex) → P
other-number r h e = absurd (h (ap number_of (same-refusal r BadIndex e)))

no-bounds : {P : Type 0} (r : Refusal) (b : Bounds) → ◌≡◌ {A = Result Bounds Refusal} (Ok b) (Err r) → P
no-bounds r b e = let z : ◌≡◌ {A = ℕ} 0 1 = cc in absurd (omega arith)

module _ (s : List ℕ) (m : ℤ) (lows highs : List ℤ) (room : ℕ) where
  index-refused : (a : Result Bounds Refusal) → a ≡ Err BadIndex → IndexedAnswer s m lows highs room a → (t : Table) × (read_text s ≡ fine t) × (OwnIndex t lows highs → ⊥)
  index-refused a e (of-table {r} p) = other-number r (λ n. omega (arith, n, refused-number s r p (omega arith))) e
  index-refused a e (of-index {t} p own) = (t, p, own)
  index-refused a e (of-margin p own x) = other-number BadMargin (λ n. omega arith) e
  index-refused a e (of_room p own x h) = other-number NoRoom (λ n. omega arith) e
  index-refused a e (of-search p own x h) = no-bounds BadIndex _ e

pub twenty-two : TwentyTwoIs
twenty-two s m lows highs room = (
  λ t p own. ap (λ (v : Verdict Table). indexed_call v m lows highs room) p ∙ ap search_answer (sought-index t m lows highs room (not_own-here t p own)),
  λ e. index-refused s m lows highs room (indexed_call (read_text s) m lows highs room) e (indexed-answers s m lows highs room),
)
  where
    not_own-here : (t : Table) → read_text s ≡ fine t → (OwnIndex t lows highs → ⊥) → not_own t lows highs ≡ true
    not_own-here t p own = go (not_own t lows highs) refl
      where
        go : (c : Bool) → not_own t lows highs ≡ c → c ≡ true
        go true x = refl
        go false x = absurd (own (accepted-own s t p lows highs x))

pub short-refused : ShortRefused
short-refused s t m lows highs room p h =
    (twenty-two s m lows highs room).0 t p (λ own. omega (arith, h, owns-long own.0, owns-long own.1))

pub built-accepted : BuiltAccepted
built-accepted s lows highs e =
    let (t, p, a, b) = builds s lows highs e in
    let own : OwnFor s (built_lows s lows highs) (built_highs s lows highs) = λ u q.
    subst (λ (x : Table). OwnIndex x (built_lows s lows highs) (built_highs s lows highs)) (fine-same t u (sym p ∙ q)) (filled-owns a, filled-owns b) in (
      own,
      λ m room r. let (u, q, n) = (twenty-two s m (built_lows s lows highs) (built_highs s lows highs) room).1 r in n (own u q),
    )

pub leaves_free : LeavesFree
leaves_free s t m lows highs lows2 highs2 room p a b =
    let asked : Bool → Verdict Sought = λ c.
    unless
    (record { holds = c; gives = BadIndex }
    ∷ record { holds = bad_margin m; gives = BadMargin }
    ∷ record { holds = ltb room (leaves (tree t)); gives = NoRoom }
    ∷ [])
    (record { table = t; seen = searched_own t (to_nat m) }) in
    let same : sought_indexed (read_text s) m lows highs room ≡ sought_indexed (read_text s) m lows2 highs2 room =
    ap (λ (v : Verdict Table). sought_indexed v m lows highs room) p
    ∙ ap asked (same-own s t p lows highs lows2 highs2 a b)
    ∙ sym (ap (λ (v : Verdict Table). sought_indexed v m lows2 highs2 room) p) in
    (ap search_answer same, ap search_list same)

-- ---- lines

module _ (s : List ℕ) (t : Table) (p : read_text s ≡ fine t) where
  no_table : {P : Type 0} (r : Refusal) → read_text s ≡ refused r → P
  no_table r q = refused-fine r (sym q ∙ p)
    where
      refused-fine : {P : Type 0} (r : Refusal) → refused r ≡ fine t → P
      refused-fine r e = let z : ◌≡◌ {A = ℕ} 0 1 = cc in absurd (omega arith)

  search-line : (m : ℤ) (lows highs : List ℤ) (room : ℕ) (a : Result Bounds Refusal) → IndexedAnswer s m lows highs room a → search_line a ≡ 0
  search-line m lows highs room a (of-table {r} q) = no_table r q
  search-line m lows highs room a (of-index q own) = refl
  search-line m lows highs room a (of-margin q own x) = refl
  search-line m lows highs room a (of_room q own x h) = refl
  search-line m lows highs room a (of-search q own x h) = refl

  build-line : (room : ℕ) → index_line (index_call (read_text s) room) ≡ 0
  build-line room = ap (λ (v : Verdict Table). index_line (index_call v room)) p ∙ go (ltb room (length t.lines)) refl
    where
      go : (c : Bool) → ltb room (length t.lines) ≡ c → index_line (index_call (fine t) room) ≡ 0
      go true x = ap (λ (v : Verdict Table). index_line (index_answer v)) (build-short t room (ltb-true room (length t.lines) x))
      go false x = ap (λ (v : Verdict Table). index_line (index_answer v)) (build-fine t room (ltb-false room (length t.lines) x))

pub no_line : NoLine
no_line s t p = (
  build-line s t p,
  λ m lows highs room. search-line s t p m lows highs room (indexed_call (read_text s) m lows highs room) (indexed-answers s m lows highs room),
)

-- ---- an answer with bounds

-- the text, the index, the margin and the list are accepted; b is what the search of the table gave
record Answered (s : List ℕ) (m : ℤ) (lows highs : List ℤ) (room : ℕ) (b : Bounds) : Type 0 where
  table : Table
  read : read_text s ≡ fine table
  own : OwnIndex table lows highs
  margin : bad_margin m ≡ false
  long : leaves (tree table) ≤ room
  bounds : b ≡ bounds_of (record { table = table; seen = searched_own table (to_nat m) })

no_answer : {P : Type 0} (r : Refusal) (b : Bounds) → ◌≡◌ {A = Result Bounds Refusal} (Err r) (Ok b) → P
no_answer r b e = let z : ◌≡◌ {A = ℕ} 0 1 = cc in absurd (omega arith)

same-bounds : (a b : Bounds) → ◌≡◌ {A = Result Bounds Refusal} (Ok a) (Ok b) → b ≡ a
same-bounds a b e = cc

module _ (s : List ℕ) (m : ℤ) (lows highs : List ℤ) (room : ℕ) where
  answered-of : (b : Bounds) (a : Result Bounds Refusal) → a ≡ Ok b → IndexedAnswer s m lows highs room a → Answered s m lows highs room b
  answered-of b a e (of-table {r} p) = no_answer r b e
  answered-of b a e (of-index p own) = no_answer BadIndex b e
  answered-of b a e (of-margin p own x) = no_answer BadMargin b e
  answered-of b a e (of_room p own x h) = no_answer NoRoom b e
  answered-of b a e (of-search {t} p own x h) =
      record { table = t; read = p; own = own; margin = x; long = h; bounds = same-bounds (bounds_of (record { table = t; seen = searched_own t (to_nat m) })) b e }

  answered : (b : Bounds) → indexed_call (read_text s) m lows highs room ≡ Ok b → Answered s m lows highs room b
  answered b e = answered-of b (indexed_call (read_text s) m lows highs room) e (indexed-answers s m lows highs room)

  -- the same from the other side
  module _ (t : Table) (p : read_text s ≡ fine t) (own : OwnIndex t lows highs) (good : bad_margin m ≡ false) (long : leaves (tree t) ≤ room) where
    sought-found : sought_indexed (read_text s) m lows highs room ≡ fine (record { table = t; seen = searched_own t (to_nat m) })
    sought-found =
        ap (λ (v : Verdict Table). sought_indexed v m lows highs room) p ∙ sought-fine t m lows highs room (own-accepted s t p lows highs own) good long

    answers : indexed_call (read_text s) m lows highs room ≡ Ok (bounds_of (record { table = t; seen = searched_own t (to_nat m) }))
    answers = ap search_answer sought-found

    reads : indexed_reads (read_text s) m lows highs room ≡ (searched_own t (to_nat m)).read
    reads = ap search_list sought-found

pub always-answers-indexed : AnswersIndexed
always-answers-indexed s t m lows highs room p own good long =
    (bounds_of (record { table = t; seen = searched_own t (to_nat m) }), answers s m lows highs room t p own good (long t p))

-- ---- demand 3

promised-of : (s : List ℕ) (t : Table) (m : ℤ) → read_text s ≡ fine t → bad_margin m ≡ false
    → Promised s m (bounds_of (record { table = t; seen = searched_own t (to_nat m) }))
promised-of s t m p good =
    let ε : ℕ = to_nat m in
    let e : pos ε ≡ m = inside_is 40000000000000 m good in
    let c = own-contains s t p ε in
    record {
      worth = worth_of t;
      exact = ap exact_call p;
      above = c.0;
      below = c.1;
      narrow = subst (λ (z : ℤ). le_z (searched_own t ε).high ((searched_own t ε).low +ℤ z) ≡ true) e (own-width s t p ε);
      near = λ n q.
          let (v, w, x, y) = own-play-near s t p ε n (child-some (node_of (searched_own t ε).play) n q) in (
            v,
            ap (λ (a : Verdict Table). child_worth a n) p ∙ w,
            subst (λ (z : ℤ). le_z v (worth_of t +ℤ z) ≡ true) e x,
            subst (λ (z : ℤ). le_z (worth_of t) (v +ℤ z) ≡ true) e y,
          );
    }

pub indexed-sentence1 : Indexed1
indexed-sentence1 s m lows highs room b e =
    let A = answered s m lows highs room b e in
    subst (Promised s m) (sym A.bounds) (promised-of s A.table m A.read A.margin)

-- what an answer is, of the table that was read
found_of : (s : List ℕ) (t : Table) (m : ℤ) (lows highs : List ℤ) (room : ℕ) (b : Bounds) → read_text s ≡ fine t → indexed_call (read_text s) m lows highs room ≡ Ok b
    → (bounds_of (record { table = t; seen = searched_own t (to_nat m) }) ≡ b) × (indexed_reads (read_text s) m lows highs room ≡ (searched_own t (to_nat m)).read)
found_of s t m lows highs room b p e =
    let A = answered s m lows highs room b e in
    let same : A.table ≡ t = fine-same A.table t (sym A.read ∙ p) in (
      ap (λ (x : Table). bounds_of (record { table = x; seen = searched_own x (to_nat m) })) (sym same) ∙ sym A.bounds,
      reads s m lows highs room A.table A.read A.own A.margin A.long ∙ ap (λ (x : Table). (searched_own x (to_nat m)).read) same,
    )

pub indexed-counts : IndexedCounts
indexed-counts s t m lows highs room b p e =
    let (bounds, listed) = found_of s t m lows highs room b p e in
    subst (Counts t (indexed_reads (read_text s) m lows highs room)) bounds (record {
      difference = refl;
      leaves = ap length (sym listed);
      spent = own-unspent s t p (to_nat m);
      grain = refl;
    })

pub indexed-play : IndexedPlay
indexed-play s t m lows highs room b p e =
    let (bounds, listed) = found_of s t m lows highs room b p e in
    let ε : ℕ = to_nat m in
    let play : play_of (node_of (searched_own t ε).play) ≡ b.play = ap (λ (x : Bounds). x.play) bounds in (
      λ side root. let (x, named, first) = own-play-named s t p ε side root in (x, sym play ∙ ap play_of named, first),
      λ root. sym play ∙ ap play_of (own-play-none s t p ε root),
    )

-- ---- other utilities

-- the same index, and so the same lists are its own
same_index : (s u : List ℕ) (t v : Table) → read_text s ≡ fine t → read_text u ≡ fine v → index_of v ≡ index_of t
    → (lows highs : List ℤ) → OwnIndex t lows highs → OwnIndex v lows highs
same_index s u t v p q e lows highs own =
    let same : not_own v lows highs ≡ not_own t lows highs =
    ap (λ (es : List (Option Ends)). not (agrees (map (of_entry (λ (x : Ends). x.low)) es) lows) || not (agrees (map (of_entry (λ (x : Ends). x.high)) es) highs)) e in
    accepted-own u v q lows highs (same ∙ own-accepted s t p lows highs own)

-- the same lines have entries
data Shape : List (Option Ends) → List (Option Ends) → Type 0 where
  shape-end : Shape [] []
  shape-leaf : {es fs : List (Option Ends)} → Shape es fs → Shape (none ∷ es) (none ∷ fs)
  shape-line : {e f : Ends} {es fs : List (Option Ends)} → Shape es fs → Shape (some e ∷ es) (some f ∷ fs)

shaped : {read : List ℕ} {i : ℕ} {ls ms : List Line} {es fs : List (Option Ends)} → SameLines read ls ms → Indexes i ls es → Indexes i ms fs → Shape es fs
shaped same_none indexes-none indexes-none = shape-end
shaped (same_more q s) (indexes-leaf n k r) (indexes-leaf m j o) = shape-leaf (shaped s r o)
shaped (same_more q s) (indexes-leaf n k r) (indexes-line m j x y o) = absurd (j k)
shaped (same_more q s) (indexes-line n k x y r) (indexes-leaf m j o) = absurd (k j)
shaped (same_more q s) (indexes-line n k x y r) (indexes-line m j z w o) = shape-line (shaped s r o)

-- two indexes that the same lists agree with
agreed-same : {es fs : List (Option Ends)} → Shape es fs → (a b : List ℤ)
    → agrees (map (of_entry (λ (x : Ends). x.low)) es) a ≡ true → agrees (map (of_entry (λ (x : Ends). x.high)) es) b ≡ true
    → agrees (map (of_entry (λ (x : Ends). x.low)) fs) a ≡ true → agrees (map (of_entry (λ (x : Ends). x.high)) fs) b ≡ true → fs ≡ es
unfolding agrees
agreed-same shape-end a b i j k l = refl
agreed-same (shape-leaf s) [] b i j k l = absurd (true-ne-false (sym i))
agreed-same (shape-leaf s) (x ∷ a) [] i j k l = absurd (true-ne-false (sym j))
agreed-same (shape-leaf s) (x ∷ a) (y ∷ b) i j k l = ap (λ (es : List (Option Ends)). none ∷ es) (agreed-same s a b i j k l)
agreed-same (shape-line s) [] b i j k l = absurd (true-ne-false (sym i))
agreed-same (shape-line s) (x ∷ a) [] i j k l = absurd (true-ne-false (sym j))
agreed-same (shape-line {e} {f} {es} {fs} s) (x ∷ a) (y ∷ b) i j k l =
    let (ei, is) = and_both (eq_z e.low x) (agrees (map (of_entry (λ (x : Ends). x.low)) es) a) i in
    let (ej, js) = and_both (eq_z e.high y) (agrees (map (of_entry (λ (x : Ends). x.high)) es) b) j in
    let (fk, ks) = and_both (eq_z f.low x) (agrees (map (of_entry (λ (x : Ends). x.low)) fs) a) k in
    let (fl, ls) = and_both (eq_z f.high y) (agrees (map (of_entry (λ (x : Ends). x.high)) fs) b) l in
    let low : f.low ≡ e.low = eq-true f.low x fk ∙ sym (eq-true e.low x ei) in
    let high : f.high ≡ e.high = eq-true f.high y fl ∙ sym (eq-true e.high y ej) in
    ap₂ (λ (z : Ends) (zs : List (Option Ends)). some z ∷ zs) (ap₂ (λ (p q : ℤ). record { low = p; high = q }) low high) (agreed-same s a b is js ks ls)

pub unchanged-index : UnchangedIndex
unchanged-index s u read D lows highs own =
    let t : Table = D.old in
    let v : Table = D.new in (
      λ new.
          let (a, b) = not-either (agrees (lows_of t) lows) (agrees (highs_of t) highs) (own-accepted s t D.is-old lows highs own) in
          let (c, d) = not-either (agrees (lows_of v) lows) (agrees (highs_of v) highs) (own-accepted u v D.is-new lows highs new) in
          agreed-same (shaped D.lines (lines-indexed s t D.is-old) (lines-indexed u v D.is-new)) lows highs a b c d,
      λ e. same_index s u t v D.is-old D.is-new e lows highs own,
    )

pub indexed-sentence2 : Indexed2
indexed-sentence2 s m lows highs room b e u D index other long =
    let A = answered s m lows highs room b e in
    let ε : ℕ = to_nat m in
    let t : Table = D.old in
    let v : Table = D.new in
    let p : read_text s ≡ fine t = D.is-old in
    let q : read_text u ≡ fine v = D.is-new in
    let same : A.table ≡ t = fine-same A.table t (sym A.read ∙ p) in
    let own : OwnIndex v lows highs = same_index s u t v p q index lows highs (subst (λ (x : Table). OwnIndex x lows highs) same A.own) in
    let (bounds, listed) = found_of s t m lows highs room b p e in
    let alike : Alike (ReadBy (searched_own t ε)) (tree t) (tree v) =
    tree-alike (searched_own t ε).read t v (subst (λ (l : List ℕ). SameLines l t.lines v.lines) listed D.lines) in
    let found : searched_own v ε ≡ searched_own t ε = changed.own-same-answer s u t v p q ε D.head alike index in
    let again : bounds_of (record { table = v; seen = searched_own v ε }) ≡ b =
    same-sought t v (searched_own t ε) (searched_own v ε) (changed.own-same-grain s u t v p q ε D.head alike index) found ∙ bounds in (
      answers u m lows highs other v q own A.margin (long v q) ∙ ap Ok again,
      reads u m lows highs other v q own A.margin (long v q) ∙ ap (λ (x : Seen ℤ). x.read) found ∙ sym listed,
      subst (Promised u m) again (promised-of u v m q A.margin),
    )

-- ---- the turned table

-- what turning writes is the turned table's text, which is accepted
turned-read : (s : List ℕ) (t : Table) → read_text s ≡ fine t → (size : ℕ) (u : List ℕ) → turn_of (read_text s) size ≡ fine u → read_text u ≡ fine (turn_table t)
turned-read s t p size u w =
    subst (λ (x : List ℕ). read_text x ≡ fine (turn_table t)) (turn-written t size u (ap (λ (x : Verdict Table). turn_of x size) (sym p) ∙ w)) (turned-accepted s t p)

abbrev turns : (t : Table) → Turns t (turn_table t)
turns t = record { head = refl; nodes = tree-turned t }

pub indexed-sentence3 : Indexed3
indexed-sentence3 s m lows highs room b e size u w lows2 highs2 own other long =
    let A = answered s m lows highs room b e in
    let ε : ℕ = to_nat m in
    let t : Table = A.table in
    let v : Table = turn_table t in
    let p : read_text s ≡ fine t = A.read in
    let q : read_text u ≡ fine v = turned-read s t p size u w in
    let grains : grain v ≡ grain t = mirror.same-grain s u t v p q ε unlimited (turns t) in
    let (low, high, play, read, spent) = mirror.own-turned s u t v p q (turns t) ε in
    let c : Bounds = bounds_of (record { table = v; seen = searched_own v ε }) in (
      c,
      answers u m lows2 highs2 other v q (own v q) A.margin (long v q),
      subst (λ (x : Bounds). Mirrors x c) (sym A.bounds) (record {
        low = low;
        high = high;
        difference = ap₂ ◌-ℤ◌ high low ∙ mirror.turn-minus (searched_own t ε).low (searched_own t ε).high;
        play = ap play_of play;
        leaves = ap length read;
        spent = spent;
        grain = grains;
      }),
      reads u m lows2 highs2 other v q (own v q) A.margin (long v q) ∙ read ∙ sym (reads s m lows highs room t p A.own A.margin A.long),
      (λ z x.
          let is : z ≡ worth_of t = same-grains z (worth_of t) b.grain (grain t) (sym x ∙ ap exact_call p) in
          ap exact_call q
          ∙ ap₂ (λ (z : ℤ) (g : ℕ). Ok (record { grains = z; grain = g })) (mirror.turned-worth s u t v p q (turns t) ∙ ap neg_ℤ (sym is)) (grains ∙ sym (ap (λ (y : Bounds). y.grain) A.bounds))),
      promised-of u v m q A.margin,
    )

-- one end of the turned entries against the other end, negated
turned-agrees : (f g : Ends → ℤ) → ((e : Ends) → f (record { low = neg_ℤ e.high; high = neg_ℤ e.low }) ≡ neg_ℤ (g e)) → (es : List (Option Ends)) (a : List ℤ)
    → agrees (map (of_entry g) es) a ≡ true → agrees (map (of_entry f) (map turn_entry es)) (map neg_ℤ a) ≡ true
unfolding agrees
turned-agrees f g h [] a x = refl
turned-agrees f g h (none ∷ es) [] x = absurd (true-ne-false (sym x))
turned-agrees f g h (some e ∷ es) [] x = absurd (true-ne-false (sym x))
turned-agrees f g h (none ∷ es) (z ∷ a) x = turned-agrees f g h es a x
turned-agrees f g h (some e ∷ es) (z ∷ a) x =
    let (is, more) = and_both (eq_z (g e) z) (agrees (map (of_entry g) es) a) x in
    let end : f (record { low = neg_ℤ e.high; high = neg_ℤ e.low }) ≡ neg_ℤ z = h e ∙ ap neg_ℤ (eq-true (g e) z is) in
    both-and (eq_z (f (record { low = neg_ℤ e.high; high = neg_ℤ e.low })) (neg_ℤ z)) (agrees (map (of_entry f) (map turn_entry es)) (map neg_ℤ a))
    (subst (λ (y : ℤ). eq_z y (neg_ℤ z) ≡ true) (sym end) (eq_self (neg_ℤ z))) (turned-agrees f g h es a more)

pub index-turned : IndexTurned
index-turned s t p size u w =
    let q : read_text u ≡ fine (turn_table t) = turned-read s t p size u w in
    let mirrored : (v : Table) → read_text u ≡ fine v → index_of v ≡ map turn_entry (index_of t) = λ v r.
    ap index_of (fine-same v (turn_table t) (sym r ∙ q)) ∙ mirror.turned-index t (turn_table t) (turns t) in (
      mirrored,
      λ lows highs own v r.
          let (a, b) = not-either (agrees (lows_of t) lows) (agrees (highs_of t) highs) (own-accepted s t p lows highs own) in
          accepted-own u v r (map neg_ℤ highs) (map neg_ℤ lows)
          (neither (agrees (lows_of v) (map neg_ℤ highs)) (agrees (highs_of v) (map neg_ℤ lows))
          (subst (λ (es : List (Option Ends)). agrees (map (of_entry (λ (x : Ends). x.low)) es) (map neg_ℤ highs) ≡ true) (sym (mirrored v r))
          (turned-agrees (λ (x : Ends). x.low) (λ (x : Ends). x.high) (λ x. refl) (index_of t) highs b))
          (subst (λ (es : List (Option Ends)). agrees (map (of_entry (λ (x : Ends). x.high)) es) (map neg_ℤ lows) ≡ true) (sym (mirrored v r))
          (turned-agrees (λ (x : Ends). x.high) (λ (x : Ends). x.low) (λ x. refl) (index_of t) lows a))),
    )

-- ---- lines 20 and 21

pub indexed-division : IndexedDivision
indexed-division s t p ε = own-no-remainder s t p ε
