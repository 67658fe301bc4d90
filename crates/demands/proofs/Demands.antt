-- Demand 3 at the public calls, and demand 2's sentence on rollouts.
use Rattle.std.proofs.Common.{Err, Ok, Result}
use Prim.Native.Nat.{ℕ}
use mathlib.Core.Path.{◌≡◌, refl, sym, ap, subst, ◌∙◌}
use mathlib.Core.Bool.{Bool, true, false, ◌||◌, cond}
use mathlib.Core.List.{List}
use native.Mathlib.Omega.{arith}
use borrow.Author.Tests.{le-ltb}
use lib.Dec.{ltb}
use lib.ListN.{length}
use lib.IntN.{ℤ, pos}
use Rattle.line.specs.declared.Refusal.{Refusal}
use Rattle.line.specs.declared.Refusal.TheVariants.{NoRoom, HasChance}
use Rattle.line.specs.Refusal.{Verdict, refused, fine, unless}
use Rattle.line.specs.Line.{to_nat}
use Rattle.table.specs.Tree.{leaves}
use Rattle.table.specs.Table.{Table, tree, read_text, grain}
use Rattle.table.specs.Leaves.{Distinct}
use Rattle.worth.specs.Call.{exact_call}
use Rattle.writing.specs.Text.{table_text}
use Rattle.turn.specs.Turn.{turn_table, turned_text}
use Rattle.turn.proofs.Tree.{table-twice}
use Rattle.writing.proofs.Reread.{blank-accepted, blank-length, blank-same}
use Rattle.turn.proofs.Accepted.{turned-accepted, turned-length}
use Rattle.turn_call.specs.Call.{turn_of}
use Rattle.turn_call.proofs.Call.{turn-fine}
use Rattle.search.specs.Whole.{searched}
use Rattle.search_call.specs.declared.Bounds.{Bounds}
use Rattle.search_call.specs.Call.{bounds_of, search_call, within_reads}
use Rattle.search_call.proofs.Answered.{answers, default-call, default-reads, unspent-answer}
use Rattle.rollout.specs.Whole.{has_chance, rolled, rolled_worth}
use Rattle.rollout.proofs.Demand.{ends-on-worth, no-leaf-twice}
use Rattle.rolled.specs.declared.RolledOut.{RolledOut}
use Rattle.rolled.specs.Call.{rolls, roll_answer, roll_list, roll_call}
use Rattle.demands.specs.Demands.{Promised, Differ, Answers, Sentence1, Sentence2, GivenText, Sentence3, TurnAnswers, TurningTwice, RolloutsEnd, RollAnswers}
use Rattle.demands.specs.Budget.{KeptWithin}
use Rattle.demands.proofs.Utilities.{given-same, given-accepted}
use Rattle.demands.proofs.Within.{within-kept, within_same, within-turned, no_text, written}

-- ---- the search: with the greatest budget, which is never spent

-- what is kept within it is all that demand 3 promises
promised : (s u : List ℕ) (m : ℤ) (room : ℕ) (b : Bounds) → search_call (read_text s) m room ≡ Ok b → KeptWithin u m b → Promised u m b
promised s u m room b e k = k.unspent (unspent-answer s m room b e)

pub always-answers : Answers
always-answers s t m room p good long =
    (bounds_of (record { table = t; seen = searched t (to_nat m) }), answers s m room t p good (long t p))

pub sentence1 : Sentence1
sentence1 s m room b e = promised s s m room b e (within-kept s m (pos 1024) room b (default-call s m room ∙ e))

pub sentence2 : Sentence2
sentence2 s m room b e u D other long =
    let unread : Differ (within_reads (read_text s) m (pos 1024) room) s u = subst (λ (l : List ℕ). Differ l s u) (sym (default-reads s m room)) D in
    let (call, read, kept) = within_same s m (pos 1024) room b (default-call s m room ∙ e) u unread other long in
    (sym (default-call u m other) ∙ call, sym (default-reads u m other) ∙ read ∙ default-reads s m room, promised s u m room b e kept)

pub given-text : GivenText
given-text s t p read lines g =
    let u : Table = record { head = t.head; lines = lines } in (
      table_text u,
      record { old = t; new = u; is-old = p; is-new = given-accepted s t p read lines g; head = refl; lines = given-same t.head read g },
      refl,
    )

-- ---- the turned table

pub sentence3 : Sentence3
sentence3 s m room b e size u w other long =
    let (c, call, mirrors, read, worths, kept) = within-turned s m (pos 1024) room b (default-call s m room ∙ e) size u w other long in
    let again : search_call (read_text u) m other ≡ Ok c = sym (default-call u m other) ∙ call in
    (c, again, mirrors, sym (default-reads u m other) ∙ read ∙ default-reads s m room, worths, promised u u m other c again kept)

turned-of : (s : List ℕ) (size : ℕ) (u : List ℕ) (x : Verdict Table) → read_text s ≡ x → turn_of x size ≡ fine u → (t : Table) × (read_text s ≡ fine t) × (turned_text t ≡ u)
turned-of s size u (refused r) p w = no_text r u w
turned-of s size u (fine t) p w = (t, p, written t size u w)

pub turning-twice : TurningTwice
turning-twice s size u w =
    let (t, p, text) = turned-of s size u (read_text s) refl w in
    let q : read_text u ≡ fine (turn_table t) = subst (λ (x : List ℕ). read_text x ≡ fine (turn_table t)) text (turned-accepted s t p) in
    let r = blank-accepted s t p in
    let same : length (table_text t) ≡ length u = blank-length s t p ∙ sym (turned-length s t p) ∙ ap length text in (
      t,
      table_text t,
      refl,
      p,
      r,
      blank-same s t p,
      λ other long. (
        turn-fine u (turn_table t) other q long ∙ ap (λ (x : Table). fine (table_text x)) (table-twice t),
        turn-fine (table_text t) t other r (omega (arith, same)) ∙ ap fine text,
      ),
    )

pub turn-answers : TurnAnswers
turn-answers s t size p long = (turned_text t, turn-fine s t size p long, turned-length s t p)

-- ---- rollouts

no-roll : {P : Type 0} (r : Refusal) (w : ℤ) (n : ℕ) → ◌≡◌ {A = Result RolledOut Refusal} (Err r) (Ok (record { worth = w; leaves = n })) → P
no-roll r w n e = let z : ◌≡◌ {A = ℕ} 0 1 = cc in absurd (omega arith)

same-done : (y z : ℤ) (a b : ℕ) → ◌≡◌ {A = Result RolledOut Refusal} (Ok (record { worth = y; leaves = a })) (Ok (record { worth = z; leaves = b })) → y ≡ z
same-done y z a b e =
    let same : ◌≡◌ {A = RolledOut} (record { worth = y; leaves = a }) (record { worth = z; leaves = b }) = cc in
    ap (λ (o : RolledOut). o.worth) same

-- a call that was not refused
rolled-of : (s p : List ℕ) (list room : ℕ) (w : ℤ) (n : ℕ) (v : Verdict Table) → read_text s ≡ v → roll_call v p list room ≡ Ok (record { worth = w; leaves = n })
    → (t : Table) × (read_text s ≡ fine t) × (has_chance t ≡ false) × (rolls (read_text s) list room ≡ fine t) × (w ≡ rolled_worth t p)
unfolding unless
rolled-of s p list room w n (refused r) q e = no-roll r w n e
rolled-of s p list room w n (fine t) q e = go (has_chance t) (ltb list (leaves (tree t)) || ltb room (length t.lines)) refl refl e
  where
    go : (x y : Bool) → has_chance t ≡ x → (ltb list (leaves (tree t)) || ltb room (length t.lines)) ≡ y
        → roll_answer p (cond x (refused HasChance) (cond y (refused NoRoom) (fine t))) ≡ Ok (record { worth = w; leaves = n })
        → (t : Table) × (read_text s ≡ fine t) × (has_chance t ≡ false) × (rolls (read_text s) list room ≡ fine t) × (w ≡ rolled_worth t p)
    go true y c d e = no-roll HasChance w n e
    go false true c d e = no-roll NoRoom w n e
    go false false c d e =
        (t, q, c, ap (λ (v : Verdict Table). rolls v list room) q ∙ rw (c, d) refl, sym (same-done (rolled_worth t p) w (length (rolled t p).read) n e))

pub rollouts-end : RolloutsEnd
rollouts-end s p list room w n e =
    let (t, q, c, f, worth) = rolled-of s p list room w n (read_text s) refl e in (
      (grain t, ap exact_call q ∙ ap (λ (z : ℤ). Ok (record { grains = z; grain = grain t })) (sym (ends-on-worth s t q c p) ∙ sym worth)),
      subst Distinct (sym (ap (roll_list p) f)) (no-leaf-twice s t q c p),
    )

pub roll-answers : RollAnswers
unfolding unless
roll-answers s t p list room q c long wide = (
  rolled_worth t p,
  length (rolled t p).read,
  ap (λ (v : Verdict Table). roll_call v p list room) q ∙ rw (c, le-ltb list (leaves (tree t)) long, le-ltb room (length t.lines) wide) refl,
)
