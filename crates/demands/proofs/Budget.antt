-- Document 02, Item 3, at the public calls.
use Rattle.std.proofs.Common.{Err, Ok, Result}
use Prim.Native.Nat.{ℕ, ◌<◌}
use mathlib.Core.Path.{◌≡◌, refl, sym, ap, ap₂, subst, ◌∙◌}
use mathlib.Core.Bool.{Bool, true, false}
use mathlib.Core.List.{List, []}
use native.Mathlib.Omega.{arith}
use borrow.Author.Tests.{ltb-true, ltb-false, le-ltb}
use lib.Dec.{ltb}
use lib.ListN.{length, take}
use lib.IntN.{ℤ, pos, ◌*ℤ◌}
use lib.Signed.{lt_z}
use Rattle.field.specs.Field.{strip, digits, whole as whole_field, signed, leading}
use Rattle.numbers.specs.Integers.{max_z, min_z, floor_z, ceil_z}
use Rattle.line.specs.declared.Refusal.TheVariants.{NoRoom, BadMargin, BadBudget}
use Rattle.line.specs.declared.Refusal.{Refusal}
use Rattle.line.specs.Refusal.{Verdict, refused, fine, number_of, unless, unless_at}
use Rattle.line.specs.Line.{to_nat, climb, among}
use Rattle.table.specs.Tree.{Forest, end, leaf, inner, run, after as after_run, forest, weigh, nodes_where, powers, uses, leaves}
use Rattle.table.specs.Table.{Table, tree, node_lines, complete, read_text, greatest, grain}
use Rattle.table.specs.Accepted.{Rooted}
use Rattle.table.specs.Root.{play_of}
use Rattle.table.proofs.Places.{refused-number}
use Rattle.table.proofs.Accepted.{accepted-rooted}
use Rattle.search.specs.Search.{Seen, no_play, limited, node_of, begin, finish, cut, point, met_spent, lower, upper, safer, update, stop, scan, search, search_root}
use Rattle.search.specs.Whole.{whole, rules, searched, searched_within, down_z, up_z, gain_z, loss_z, in_grains}
use Rattle.search.proofs.Within.{spent-where, unspent-same, first_reads}
use Rattle.search_call.specs.declared.Bounds.{Bounds}
use Rattle.search_call.specs.Call.{bad_margin, bad_budget, bounds_of, search_answer, within_call}
use Rattle.search_call.proofs.Call.{inside_is, inside-small, part_length, default-budget, sought-margin, sought-budget, sought-room, sought-fine}
use Rattle.search_call.proofs.Answered.{answered, answers, reads, answered-within, answers-within, reads-within, unspent-answer}
use Rattle.demands.specs.Budget.{DefaultBudget, NeverSpent, SpentWhere, UnspentSame, SpentFirst, Unread, RootUnread, SeventeenIs, Budgets, AnswersWithin, Within1, Within2, Within3, budgets, AllKnown}
use Rattle.demands.proofs.Within.{fine-same, within-kept, within_same, within-turned}

-- ---- budgets in range

pub in-range : Budgets
in-range = (λ n l. rw (le-ltb n 0 (omega arith), le-ltb 1024 n l) refl, λ b x. (to_nat b, inside-small 1024 b x, sym (inside_is 1024 b x)))

-- ---- against document 01's search

pub default-same : DefaultBudget
default-same s m room = sym (default-budget s m room)

pub never-spent : NeverSpent
never-spent = unspent-answer

pub spent-exactly : SpentWhere
spent-exactly s m b room other a c e f =
    let A = answered-within s m b room a e in
    let C = answered s m other c f in
    let ε : ℕ = to_nat m in
    let same : C.table ≡ A.table = fine-same C.table A.table (sym C.read ∙ A.read) in
    let count : c.leaves ≡ length (searched A.table ε).read =
    ap (λ (x : Bounds). x.leaves) C.bounds ∙ ap (λ (t : Table). length (searched t ε).read) same in
    ap (λ (x : Bounds). x.spent) A.bounds
    ∙ spent-where s A.table A.read ε (to_nat b)
    ∙ ap (ltb (to_nat b)) (sym count)
    ∙ ap (λ (z : ℤ). lt_z z (pos c.leaves)) (inside_is 1024 b A.budget)

pub unspent-answers : UnspentSame
unspent-answers s m b room a e z =
    let A = answered-within s m b room a e in
    let t : Table = A.table in
    let found : searched_within t (to_nat m) (to_nat b) ≡ searched t (to_nat m) =
    unspent-same s t A.read (to_nat m) (to_nat b) (sym (ap (λ (x : Bounds). x.spent) A.bounds) ∙ z) in (
      answers s m room t A.read A.margin A.long
          ∙ ap Ok (ap (λ (x : Seen ℤ). bounds_of (record { table = t; seen = x })) (sym found) ∙ sym A.bounds),
      reads s m room t A.read A.margin A.long
          ∙ sym (ap (λ (x : Seen ℤ). x.read) found)
          ∙ sym (reads-within s m b room t A.read A.margin A.budget A.long),
    )

pub spent-first : SpentFirst
spent-first s m b room a e z =
    let A = answered-within s m b room a e in
    let t : Table = A.table in
    let n : ℕ = to_nat b in
    let all : List ℕ = (searched t (to_nat m)).read in
    let more : n < length all =
    ltb-true n (length all) (sym (spent-where s t A.read (to_nat m) n) ∙ sym (ap (λ (x : Bounds). x.spent) A.bounds) ∙ z) in
    let first = first_reads s t A.read (to_nat m) n in
    let count : a.leaves ≡ n = ap (λ (x : Bounds). x.leaves) A.bounds ∙ ap length first ∙ part_length n n all (omega arith) in (
      reads-within s m b room t A.read A.margin A.budget A.long
          ∙ first
          ∙ ap₂ take (sym count) (sym (reads s m room t A.read A.margin A.long)),
      ap pos count ∙ inside_is 1024 b A.budget,
    )

-- ---- the root met unread

unread-seen : (t : Table) (ε : ℕ) (f : Forest ℤ) → Rooted f
    → search_root whole (rules t ε (limited 0)) (in_grains (grain t) f)
    ≡ record { low = t.head.lowest *ℤ pos (grain t); high = t.head.highest *ℤ pos (grain t); play = no_play; read = []; spent = true }
unfolding search_root search met_spent in_grains
unread-seen t ε end r = absurd r
unread-seen t ε (leaf n w v rest) r = refl
unread-seen t ε (inner n w k under rest) r = refl

pub root-unread : RootUnread
root-unread s t m room a p e =
    let A = answered-within s m (pos 0) room a e in
    let same : A.table ≡ t = fine-same A.table t (sym A.read ∙ p) in
    let seen = unread-seen t (to_nat m) (tree t) (accepted-rooted s t p) in
    let bounds : bounds_of (record { table = t; seen = searched_within t (to_nat m) 0 }) ≡ a =
    ap (λ (x : Table). bounds_of (record { table = x; seen = searched_within x (to_nat m) 0 })) (sym same) ∙ sym A.bounds in
    subst (Unread t) bounds (record {
      low = ap (λ (x : Seen ℤ). x.low) seen;
      high = ap (λ (x : Seen ℤ). x.high) seen;
      play = ap (λ (x : Seen ℤ). play_of (node_of x.play)) seen;
      leaves = ap (λ (x : Seen ℤ). length x.read) seen;
      spent = ap (λ (x : Seen ℤ). x.spent) seen;
    })

-- ---- 17

no-seventeen : {P : Type 0} (a : Bounds) → ◌≡◌ {A = Result Bounds Refusal} (Ok a) (Err BadBudget) → P
no-seventeen a e = let z : ◌≡◌ {A = ℕ} 0 1 = cc in absurd (omega arith)

twelve : {P : Type 0} → ◌≡◌ {A = Result Bounds Refusal} (Err BadMargin) (Err BadBudget) → P
twelve e = let q : BadMargin ≡ BadBudget = cc in let z : ◌≡◌ {A = ℕ} 12 17 = ap number_of q in absurd (omega arith)

eleven : {P : Type 0} → ◌≡◌ {A = Result Bounds Refusal} (Err NoRoom) (Err BadBudget) → P
eleven e = let q : NoRoom ≡ BadBudget = cc in let z : ◌≡◌ {A = ℕ} 11 17 = ap number_of q in absurd (omega arith)

-- no table is refused 17
table-seventeen : {P : Type 0} (s : List ℕ) (r : Refusal) → read_text s ≡ refused r → ◌≡◌ {A = Result Bounds Refusal} (Err r) (Err BadBudget) → P
table-seventeen s r p e = let q : r ≡ BadBudget = cc in let n : number_of r ≡ 17 = ap number_of q in absurd (omega (arith, refused-number s r p (omega arith)))

pub seventeen : SeventeenIs
seventeen s m b room = (
  λ t p good bad. ap (λ (v : Verdict Table). within_call v m b room) p ∙ ap search_answer (sought-budget t m b room good bad),
  λ e. at (read_text s) refl e,
)
  where
    back : (t : Table) → read_text s ≡ fine t → (x y z : Bool) → bad_margin m ≡ x → bad_budget b ≡ y → ltb room (leaves (tree t)) ≡ z
        → within_call (fine t) m b room ≡ Err BadBudget → (t : Table) × (read_text s ≡ fine t) × (bad_margin m ≡ false) × (bad_budget b ≡ true)
    back t p true y z bad over short e = twelve (sym (ap search_answer (sought-margin t m b room bad)) ∙ e)
    back t p false true z bad over short e = (t, p, bad, over)
    back t p false false true bad over short e =
        eleven (sym (ap search_answer (sought-room t m b room bad over (ltb-true room (leaves (tree t)) short))) ∙ e)
    back t p false false false bad over short e =
        no-seventeen _ (sym (ap search_answer (sought-fine t m b room bad over (ltb-false room (leaves (tree t)) short))) ∙ e)

    at : (v : Verdict Table) → read_text s ≡ v → within_call v m b room ≡ Err BadBudget
        → (t : Table) × (read_text s ≡ fine t) × (bad_margin m ≡ false) × (bad_budget b ≡ true)
    at (refused r) p e = table-seventeen s r p e
    at (fine t) p e = back t p (bad_margin m) (bad_budget b) (ltb room (leaves (tree t))) refl refl refl e

-- ---- demand 3

pub always-answers-within : AnswersWithin
always-answers-within s t m b room p good over long =
    (bounds_of (record { table = t; seen = searched_within t (to_nat m) (to_nat b) }), answers-within s m b room t p good over (long t p))

pub within-sentence1 : Within1
within-sentence1 = within-kept

pub within-sentence2 : Within2
within-sentence2 = within_same

pub within-sentence3 : Within3
within-sentence3 = within-turned

-- ---- known answers

pub all-budgets : AllKnown budgets
unfolding strip digits whole_field signed leading unless unless_at climb run after_run forest weigh nodes_where leaves node_lines complete read_text greatest among uses powers max_z min_z floor_z ceil_z begin finish cut point met_spent lower upper safer update stop scan search search_root down_z up_z gain_z loss_z in_grains
all-budgets = (refl, refl, (refl, refl, (refl, refl, (refl, refl, (refl, refl, (refl, refl, (refl, refl, (refl, refl, (refl, refl, (refl, refl, (refl, refl, (refl, refl, tt))))))))))))
