-- What an answer of the search tells of the text, the margin, the budget and the list.
use Rattle.std.proofs.Common.{Err, Ok, Result}
use Prim.Native.Nat.{ℕ, ◌≤◌, ◌<◌}
use mathlib.Core.Path.{◌≡◌, refl, sym, ap, subst, ◌∙◌}
use mathlib.Core.Bool.{Bool, true, false}
use mathlib.Core.List.{List}
use mathlib.Core.Option.{Option, none, some}
use native.Mathlib.Omega.{arith}
use borrow.Author.Tests.{ltb-true, ltb-false}
use lib.Dec.{ltb}
use lib.IntN.{ℤ, pos}
use Rattle.line.specs.declared.Refusal.{Refusal}
use Rattle.line.specs.declared.Refusal.TheVariants.{NoRoom, BadMargin, BadBudget}
use Rattle.line.specs.Refusal.{Verdict, refused, fine, line_of}
use Rattle.line.specs.Line.{to_nat}
use Rattle.table.specs.Tree.{leaves}
use Rattle.table.specs.Table.{Table, read_text, tree}
use Rattle.table.specs.Root.{play_of}
use Rattle.table.specs.declared.Play.{Play}
use Rattle.table.specs.declared.Play.TheVariants.{Child, NoPlay}
use Rattle.table.proofs.Accepted.{accepted-size, accepted-grain, accepted-leaves, accepted-leaf-lines}
use Rattle.table.proofs.Places.{refused-line}
use Rattle.search.specs.Search.{Seen, limited, node_of}
use Rattle.search.specs.Whole.{searched, searched_until, searched_within}
use Rattle.search.proofs.Table.{reads-few, play-small}
use Rattle.search.proofs.Within.{unlimited-unspent, greatest-budget}
use Rattle.search_call.specs.declared.Bounds.{Bounds}
use Rattle.search_call.specs.Call.{bad_margin, bad_budget, sought_within, bounds_of, search_answer, search_list, search_call, search_reads, within_call, within_reads}
use Rattle.search_call.proofs.Call.{sought-margin, sought-budget, sought-room, sought-fine, default-budget}

-- ---- an answer with bounds

-- the text is accepted, and so are the margin, the budget and the list; a is what the search of the table gave
pub record AnsweredWithin (s : List ℕ) (m b : ℤ) (room : ℕ) (a : Bounds) : Type 0 where
  pub table : Table
  pub read : read_text s ≡ fine table
  pub margin : bad_margin m ≡ false
  pub budget : bad_budget b ≡ false
  pub long : leaves (tree table) ≤ room
  pub bounds : a ≡ bounds_of (record { table = table; seen = searched_within table (to_nat m) (to_nat b) })

no_answer : {P : Type 0} (r : Refusal) (b : Bounds) → ◌≡◌ {A = Result Bounds Refusal} (Err r) (Ok b) → P
no_answer r b e = let z : ◌≡◌ {A = ℕ} 0 1 = cc in absurd (omega arith)

same-bounds : (a b : Bounds) → ◌≡◌ {A = Result Bounds Refusal} (Ok a) (Ok b) → b ≡ a
same-bounds a b e = cc

module _ (s : List ℕ) (m b : ℤ) (room : ℕ) (a : Bounds) where
  within-fine : (t : Table) → read_text s ≡ fine t → (x y z : Bool) → bad_margin m ≡ x → bad_budget b ≡ y → ltb room (leaves (tree t)) ≡ z
      → search_answer (sought_within (fine t) m b room) ≡ Ok a → AnsweredWithin s m b room a
  within-fine t p true y z bad over short e = no_answer BadMargin a (sym (ap search_answer (sought-margin t m b room bad)) ∙ e)
  within-fine t p false true z bad over short e = no_answer BadBudget a (sym (ap search_answer (sought-budget t m b room bad over)) ∙ e)
  within-fine t p false false true bad over short e =
      no_answer NoRoom a (sym (ap search_answer (sought-room t m b room bad over (ltb-true room (leaves (tree t)) short))) ∙ e)
  within-fine t p false false false bad over short e =
      let enough : leaves (tree t) ≤ room = ltb-false room (leaves (tree t)) short in
      record {
        table = t;
        read = p;
        margin = bad;
        budget = over;
        long = enough;
        bounds = same-bounds (bounds_of (record { table = t; seen = searched_within t (to_nat m) (to_nat b) })) a (sym (ap search_answer (sought-fine t m b room bad over enough)) ∙ e);
      }

  within-at : (v : Verdict Table) → read_text s ≡ v → within_call v m b room ≡ Ok a → AnsweredWithin s m b room a
  within-at (refused r) p e = no_answer r a e
  within-at (fine t) p e = within-fine t p (bad_margin m) (bad_budget b) (ltb room (leaves (tree t))) refl refl refl e

  pub answered-within : within_call (read_text s) m b room ≡ Ok a → AnsweredWithin s m b room a
  answered-within e = within-at (read_text s) refl e

-- the same from the other side: such a table, margin, budget and list give that answer and these leaves
module _ (s : List ℕ) (m b : ℤ) (room : ℕ) (t : Table) (p : read_text s ≡ fine t) (good : bad_margin m ≡ false) (over : bad_budget b ≡ false)
    (long : leaves (tree t) ≤ room) where
  pub answers-within : within_call (read_text s) m b room ≡ Ok (bounds_of (record { table = t; seen = searched_within t (to_nat m) (to_nat b) }))
  answers-within = ap (λ (v : Verdict Table). within_call v m b room) p ∙ ap search_answer (sought-fine t m b room good over long)

  pub reads-within : within_reads (read_text s) m b room ≡ (searched_within t (to_nat m) (to_nat b)).read
  reads-within = ap (λ (v : Verdict Table). within_reads v m b room) p ∙ ap search_list (sought-fine t m b room good over long)

-- ---- where no budget is named

-- the call of document 01 is the one with a budget of 1,024
pub default-call : (s : List ℕ) (m : ℤ) (room : ℕ) → within_call (read_text s) m (pos 1024) room ≡ search_call (read_text s) m room
default-call s m room = ap search_answer (default-budget s m room)

pub default-reads : (s : List ℕ) (m : ℤ) (room : ℕ) → within_reads (read_text s) m (pos 1024) room ≡ search_reads (read_text s) m room
default-reads s m room = ap search_list (default-budget s m room)

pub record Answered (s : List ℕ) (m : ℤ) (room : ℕ) (b : Bounds) : Type 0 where
  pub table : Table
  pub read : read_text s ≡ fine table
  pub margin : bad_margin m ≡ false
  pub long : leaves (tree table) ≤ room
  pub bounds : b ≡ bounds_of (record { table = table; seen = searched table (to_nat m) })

pub answered : (s : List ℕ) (m : ℤ) (room : ℕ) (b : Bounds) → search_call (read_text s) m room ≡ Ok b → Answered s m room b
answered s m room b e =
    let A = answered-within s m (pos 1024) room b (default-call s m room ∙ e) in
    let t : Table = A.table in
    record {
      table = t;
      read = A.read;
      margin = A.margin;
      long = A.long;
      bounds = A.bounds ∙ ap (λ (x : Seen ℤ). bounds_of (record { table = t; seen = x })) (greatest-budget s t A.read (to_nat m));
    }

pub unspent-answer : (s : List ℕ) (m : ℤ) (room : ℕ) (b : Bounds) → search_call (read_text s) m room ≡ Ok b → b.spent ≡ false
unspent-answer s m room b e =
    let A = answered s m room b e in
    ap (λ (x : Bounds). x.spent) A.bounds ∙ unlimited-unspent A.table (to_nat m)

module _ (s : List ℕ) (m : ℤ) (room : ℕ) (t : Table) (p : read_text s ≡ fine t) (good : bad_margin m ≡ false) (long : leaves (tree t) ≤ room) where
  pub answers : search_call (read_text s) m room ≡ Ok (bounds_of (record { table = t; seen = searched t (to_nat m) }))
  answers =
      sym (default-call s m room) ∙ answers-within s m (pos 1024) room t p good refl long
      ∙ ap (λ (x : Seen ℤ). Ok (bounds_of (record { table = t; seen = x }))) (greatest-budget s t p (to_nat m))

  pub reads : search_reads (read_text s) m room ≡ (searched t (to_nat m)).read
  reads =
      sym (default-reads s m room) ∙ reads-within s m (pos 1024) room t p good refl long ∙ ap (λ (x : Seen ℤ). x.read) (greatest-budget s t p (to_nat m))

-- ---- sizes

-- a play is a node below n
abbrev pub PlayBelow : ℕ → Play → Type 0
PlayBelow n (Child m) = m < n
PlayBelow n NoPlay = Unit {0}

pub below_of : (n : ℕ) (p : Option ℕ) → ((m : ℕ) → p ≡ some m → m < n) → PlayBelow n (play_of p)
below_of n none h = tt
below_of n (some m) h = h m refl

pub record Sizes (b : Bounds) : Type 0 where
  pub play : PlayBelow 1024 b.play
  pub leaves : b.leaves ≤ 1024
  pub grain : b.grain ≤ 16777216

pub within-sizes : (s : List ℕ) (m b : ℤ) (room : ℕ) (a : Bounds) → within_call (read_text s) m b room ≡ Ok a → Sizes a
within-sizes s m b room a e =
    let A = answered-within s m b room a e in
    let t : Table = A.table in
    let z = (accepted-size s t A.read).1 in
    let ε : ℕ = to_nat m in
    let full = limited (to_nat b) in
    subst Sizes (sym A.bounds) (record {
      play = below_of 1024 (node_of (searched_until t ε full).play) (λ n q. omega (arith, z, play-small s t A.read ε full n q));
      leaves = omega (arith, z, reads-few s t A.read ε full, accepted-leaves s t A.read, accepted-leaf-lines s t A.read);
      grain = accepted-grain s t A.read;
    })

-- ---- a refusal

same-refusal : (r x : Refusal) → ◌≡◌ {A = Result Bounds Refusal} (Err r) (Err x) → r ≡ x
same-refusal r x e = cc

no-refusal : {P : Type 0} (r : Refusal) (b : Bounds) → ◌≡◌ {A = Result Bounds Refusal} (Ok b) (Err r) → P
no-refusal r b e = let z : ◌≡◌ {A = ℕ} 0 1 = cc in absurd (omega arith)

module _ (s : List ℕ) (m b : ℤ) (room : ℕ) (r : Refusal) where
  -- of a refusal without a line
  own_line : (x : Refusal) → line_of x ≡ 0 → ◌≡◌ {A = Result Bounds Refusal} (Err x) (Err r) → line_of r ≤ 1024
  own_line x z e = subst (λ (q : Refusal). line_of q ≤ 1024) (same-refusal x r e) (omega arith)

  line-fine : (t : Table) (x y z : Bool) → bad_margin m ≡ x → bad_budget b ≡ y → ltb room (leaves (tree t)) ≡ z
      → search_answer (sought_within (fine t) m b room) ≡ Err r → line_of r ≤ 1024
  line-fine t true y z bad over short e = own_line BadMargin refl (sym (ap search_answer (sought-margin t m b room bad)) ∙ e)
  line-fine t false true z bad over short e = own_line BadBudget refl (sym (ap search_answer (sought-budget t m b room bad over)) ∙ e)
  line-fine t false false true bad over short e =
      own_line NoRoom refl (sym (ap search_answer (sought-room t m b room bad over (ltb-true room (leaves (tree t)) short))) ∙ e)
  line-fine t false false false bad over short e =
      no-refusal r (bounds_of (record { table = t; seen = searched_within t (to_nat m) (to_nat b) })) (sym (ap search_answer (sought-fine t m b room bad over (ltb-false room (leaves (tree t)) short))) ∙ e)

  line_at : (v : Verdict Table) → read_text s ≡ v → within_call v m b room ≡ Err r → line_of r ≤ 1024
  line_at (refused q) p e = refused-line s r (p ∙ ap refused (same-refusal q r e))
  line_at (fine t) p e = line-fine t (bad_margin m) (bad_budget b) (ltb room (leaves (tree t))) refl refl refl e

  pub within-line : within_call (read_text s) m b room ≡ Err r → line_of r ≤ 1024
  within-line e = line_at (read_text s) refl e
