-- What the contract of `roll` cites: what the rollouts leave.
use Rattle.std.specs.Prelude.{ℕ, ℤ, ◌≤◌, ◌≡◌, List, [], length, take, Ok, Err, Result, MatchResult}
use Rattle.std.specs.Int.Signed.{mag}
use Rattle.line.specs.declared.Refusal.{Refusal}
use Rattle.line.specs.Refusal.{Verdict}
use Rattle.table.specs.Table.{Table}
use Rattle.table.specs.Slices.{laid}
use Rattle.rollout.specs.Rollout.{Pair}
use Rattle.rolled.specs.declared.Outcome.{Outcome}
use Rattle.rolled.specs.declared.RolledOut.{RolledOut}
use Rattle.rolled.specs.Call.{roll_call, roll_reads, roll_store}
use Rattle.rolled.specs.Inside.Bounds.{lows_of, highs_of, risen, SmallHeights}

-- what the call answers of it
abbrev pub answer_of : Result Outcome Refusal → Result RolledOut Refusal
answer_of (Ok o) = Ok (record { worth = o.worth; leaves = o.leaves })
answer_of (Err r) = Err r

-- the lows and the highs above the base of the outcome o are those of the records, for which there is room
pub record Bounded (o : Outcome) (records : List (Pair ℤ)) (room : ℕ) (low high : List ℕ) : Type 0 where
  pub nodes : o.nodes ≡ length records
  pub fits : o.nodes ≤ room
  pub few : o.nodes ≤ 1024
  pub small : mag o.base ≤ 35184372088832
  pub lows-are : risen o.base (take o.nodes low) ≡ lows_of records
  pub highs-are : risen o.base (take o.nodes high) ≡ highs_of records
  pub small_low : SmallHeights o.base o.nodes low
  pub small-high : SmallHeights o.base o.nodes high

-- the outcome, the leaf list, as it came and as it is now, and the lows and the highs are those of the call; a refused one has no records
pub record RollsTo (v : Verdict Table) (p : List ℕ) (room : ℕ) (r : Result Outcome Refusal) (came now low high : List ℕ) : Type 0 where
  pub answers : answer_of r ≡ roll_call v p (length came) room
  pub lists : now ≡ laid (roll_reads v p (length came) room) came
  pub store : MatchResult r (λ o. Bounded o (roll_store v p (length came) room) room low high) (λ e. roll_store v p (length came) room ≡ [])
