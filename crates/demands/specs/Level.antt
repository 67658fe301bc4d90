-- Level plays. Document 02, Item 8; over texts, at the public call. proofs/Level.antt has the theorems.
use Rattle.judge.specs.declared.Decision.{Decision}
use Rattle.line.specs.declared.Refusal.{Refusal}
use Rattle.std.specs.Prelude.{ℕ, zero, suc, ◌+◌, ◌≤◌, ◌≡◌, Bool, false, cond, List, [], ◌∷◌, eqb, ℤ, pos, Err, None, Ok, Result, Some, Option}
use Rattle.numbers.specs.Integers.{eq_z}
use Rattle.line.specs.Refusal.{Verdict, fine}
use Rattle.table.specs.Table.{Table, read_text}
use Rattle.table.specs.Root.{child_count}
use Rattle.worth.specs.Worth.{Share, worth_of}
use Rattle.judge.specs.Judge.{child_worths}
use Rattle.judge.specs.Call.{judge_call}

-- "Two plays are now level only when their losses are equal to the grain, so the level children are those of loss 0"

abbrev pub loses_nothing : Result (Option Decision) Refusal → Bool
loses_nothing (Ok None) = false
loses_nothing (Ok (Some d)) = eqb d.loss 0
loses_nothing (Err r) = false

-- how many of the n plays after play number k are judged to lose nothing
unfoldable pub unlost : Verdict Table → (k n : ℕ) → ℕ
unlost v k zero = 0
unlost v k (suc n) = cond (loses_nothing (judge_call v (pos (suc k)))) 1 0 + unlost v (suc k) n

-- the number of level children is that of the plays judged to lose nothing, of all the root's children
abbrev pub LevelLoseNothing : Type 0
LevelLoseNothing =
    (s : List ℕ) (t : Table) (i : ℤ) (loss level : ℕ) → read_text s ≡ fine t → judge_call (read_text s) i ≡ Ok (Some (record { loss = loss; level = level }))
    → level ≡ unlost (read_text s) 0 (child_count t)

-- how many of these children are worth v
unfoldable pub count_worth : (v : ℤ) → List (Share ℤ) → ℕ
count_worth v [] = 0
count_worth v (x ∷ xs) = cond (eq_z x.worth v) 1 0 + count_worth v xs

-- the number of level children is that of the root's children with the root's worth, and so at least 1
abbrev pub LevelAreBest : Type 0
LevelAreBest =
    (s : List ℕ) (t : Table) (i : ℤ) (loss level : ℕ) → read_text s ≡ fine t → judge_call (read_text s) i ≡ Ok (Some (record { loss = loss; level = level }))
    → (level ≡ count_worth (worth_of t) (child_worths t)) × (1 ≤ level)
