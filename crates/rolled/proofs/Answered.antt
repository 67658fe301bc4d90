-- What an answer of the rollouts tells of its sizes.
use Rattle.std.proofs.Common.{Err, Ok, Result}
use Rattle.rolled.specs.declared.RolledOut.{RolledOut}
use Rattle.line.specs.declared.Refusal.{Refusal}
use Prim.Native.Nat.{ℕ, ◌≤◌}
use mathlib.Core.Path.{◌≡◌, refl, sym, ap₂, subst}
use mathlib.Core.Bool.{Bool, true, false, ◌||◌}
use mathlib.Core.List.{List, [], ◌∷◌}
use native.Mathlib.Omega.{arith}
use lib.Dec.{ltb}
use lib.ListN.{length}
use Rattle.line.specs.declared.Refusal.TheVariants.{NoRoom, HasChance}
use Rattle.line.specs.Refusal.{Verdict, refused, fine, unless, line_of}
use Rattle.table.specs.Tree.{leaves}
use Rattle.table.specs.Table.{Table, read_text, tree}
use Rattle.table.proofs.Accepted.{accepted-size, accepted-leaves, accepted-leaf-lines}
use Rattle.table.proofs.Places.{refused-line}
use Rattle.rollout.specs.Whole.{has_chance}
use Rattle.rollout.proofs.Demand.{few-leaves}
use Rattle.rolled.specs.Call.{rolls, roll_answer, roll_call}

-- at most 1024 leaves are read, and the line of a refusal is at most 1024
abbrev pub RollSized : Result RolledOut Refusal → Type 0
RollSized (Ok w) = w.leaves ≤ 1024
RollSized (Err r) = line_of r ≤ 1024

module _ (s P : List ℕ) (list room : ℕ) where
  -- an accepted table t by its two tests
  rolls-by : (t : Table) (x y : Bool) → has_chance t ≡ x → (ltb list (leaves (tree t)) || ltb room (length t.lines)) ≡ y
      → rolls (fine t) list room ≡ unless (record { holds = x; gives = HasChance } ∷ record { holds = y; gives = NoRoom } ∷ []) t
  rolls-by t x y p q = ap₂ (λ (a b : Bool). unless (record { holds = a; gives = HasChance } ∷ record { holds = b; gives = NoRoom } ∷ []) t) p q

  sized-fine : (t : Table) → read_text s ≡ fine t → (x y : Bool) → has_chance t ≡ x → (ltb list (leaves (tree t)) || ltb room (length t.lines)) ≡ y
      → RollSized (roll_answer P (rolls (fine t) list room))
  unfolding unless
  sized-fine t h true y p q = subst (λ (v : Verdict Table). RollSized (roll_answer P v)) (sym (rolls-by t true y p q)) (omega arith)
  sized-fine t h false true p q = subst (λ (v : Verdict Table). RollSized (roll_answer P v)) (sym (rolls-by t false true p q)) (omega arith)
  sized-fine t h false false p q =
      subst (λ (v : Verdict Table). RollSized (roll_answer P v)) (sym (rolls-by t false false p q))
      (omega (arith, few-leaves s t h p P, (accepted-size s t h).1, accepted-leaves s t h, accepted-leaf-lines s t h))

  sized-at : (v : Verdict Table) → read_text s ≡ v → RollSized (roll_call v P list room)
  sized-at (refused r) h = refused-line s r h
  sized-at (fine t) h = sized-fine t h (has_chance t) (ltb list (leaves (tree t)) || ltb room (length t.lines)) refl refl

  pub roll-sizes : RollSized (roll_call (read_text s) P list room)
  roll-sizes = sized-at (read_text s) refl
