-- Document 01, 'Positions with known results': the rows with a star, as one table. Plays are named by node: in A and B the first root child is node 1.
-- proofs/Rows.antt has the theorem about all rows.
use Rattle.judge.specs.declared.Decision.{Decision}
use Rattle.line.specs.declared.Refusal.{Refusal}
use Rattle.search_call.specs.declared.Bounds.{Bounds}
use Rattle.rolled.specs.declared.RolledOut.{RolledOut}
use Rattle.std.specs.Prelude.{◌≡◌, false, List, [], ◌∷◌, ℕ, ℤ, pos, negsuc, ◌-ℤ◌, Ok, Result, Some, Option}
use Rattle.table.specs.Table.{read_text}
use Rattle.table.specs.Examples.{table-a, table-b, turned-b, lone-leaf}
use Rattle.table.specs.declared.Play.{Play}
use Rattle.table.specs.declared.Play.TheVariants.{Child, NoPlay}
use Rattle.judge.specs.Call.{judge_call}
use Rattle.turn_call.specs.Call.{turn_call, turn_bytes}
use Rattle.search_call.specs.Call.{search_call, search_reads}
use Rattle.rolled.specs.Call.{roll_call, roll_reads}

-- a call with its arguments; leaf lists have 1,024 entries, stores 1,024 records and buffers 25,625 bytes
pub data Call : Type 0 where
  search : (margin : ℤ) → Call
  judge : (number : ℤ) → Call
  roll : (policy : List ℕ) → Call
  turn : Call

-- what a call tells: its answer, and the entries of the leaf list, or the bytes of the buffer, that it fills
pub data Told : Type 0 where
  sought : Result Bounds Refusal → List ℕ → Told
  opined : Result (Option Decision) Refusal → Told
  ended : Result RolledOut Refusal → List ℕ → Told
  wrote : Result ℕ Refusal → List ℕ → Told

abbrev pub tells : Call → List ℕ → Told
tells (search margin) text = sought (search_call (read_text text) margin 1024) (search_reads (read_text text) margin 1024)
tells (judge number) text = opined (judge_call (read_text text) number)
tells (roll policy) text = ended (roll_call (read_text text) policy 1024 1024) (roll_reads (read_text text) policy 1024 1024)
tells turn text = wrote (turn_call (read_text text) 25625) (turn_bytes (read_text text) 25625)

pub record Row : Type 0 where
  pub call : Call
  pub text : List ℕ
  pub told : Told

abbrev pub bounds : (low high : ℤ) (grain : ℕ) (play : Play) (leaves : ℕ) → List ℕ → Told
bounds low high grain play leaves read =
    sought (Ok (record { low = low; high = high; difference = high -ℤ low; play = play; leaves = leaves; spent = false; grain = grain })) read

abbrev pub rows : List Row
rows =
    record { call = search (pos 0); text = table-a; told = bounds (pos 3) (pos 3) 1 (Child 1) 3 (2 ∷ 3 ∷ 5 ∷ []) }
    ∷ record { call = search (pos 2); text = table-a; told = bounds (pos 3) (pos 3) 1 (Child 1) 3 (2 ∷ 3 ∷ 5 ∷ []) }
    ∷ record { call = search (pos 3); text = table-a; told = bounds (pos 0) (pos 3) 1 (Child 1) 2 (2 ∷ 5 ∷ []) }
    ∷ record { call = search (pos 9); text = table-a; told = bounds (pos 0) (pos 3) 1 (Child 1) 2 (2 ∷ 5 ∷ []) }
    ∷ record { call = search (pos 10); text = table-a; told = bounds (pos 0) (pos 10) 1 (Child 1) 1 (2 ∷ []) }
    ∷ record { call = search (pos 0); text = table-b; told = bounds (pos 20) (pos 20) 4 (Child 1) 2 (1 ∷ 3 ∷ []) }
    ∷ record { call = search (pos 11); text = table-b; told = bounds (pos 20) (pos 20) 4 (Child 1) 2 (1 ∷ 3 ∷ []) }
    ∷ record { call = search (pos 12); text = table-b; told = bounds (pos 20) (pos 32) 4 (Child 1) 1 (1 ∷ []) }
    ∷ record { call = turn; text = table-b; told = wrote (Ok 150) turned-b }
    ∷ record { call = search (pos 12); text = turned-b; told = bounds (negsuc 31) (negsuc 19) 4 (Child 1) 1 (1 ∷ []) }
    ∷ record { call = search (pos 0); text = lone-leaf; told = bounds (pos 7) (pos 7) 1 NoPlay 1 (0 ∷ []) }
    ∷ record { call = search (pos 40000000000000); text = lone-leaf; told = bounds (pos 7) (pos 7) 1 NoPlay 1 (0 ∷ []) }
    ∷ record { call = judge (pos 2); text = table-b; told = opined (Ok (Some (record { loss = 6; level = 1 }))) }
    ∷ record { call = roll []; text = table-a; told = ended (Ok (record { worth = pos 3; leaves = 3 })) (2 ∷ 3 ∷ 5 ∷ []) }
    ∷ record { call = roll (1 ∷ 1 ∷ []); text = table-a; told = ended (Ok (record { worth = pos 3; leaves = 4 })) (6 ∷ 2 ∷ 3 ∷ 5 ∷ []) }
    ∷ []

-- every row's call on its text tells what the row has
abbrev pub AllTell : List Row → Type 0
AllTell [] = Unit {0}
AllTell (r ∷ rs) = (tells r.call r.text ≡ r.told) × AllTell rs
