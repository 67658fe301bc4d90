-- The bounds of the nodes as two lists of heights above a base.
use Rattle.std.specs.Prelude.{ℕ, ◌≤◌, ◌<◌, List, map, ℤ, pos, ◌+ℤ◌, get_or}
use Rattle.std.specs.Int.Signed.{mag}
use Rattle.rollout.specs.Rollout.{Pair}

-- the lows and the highs of records
abbrev pub lows_of : List (Pair ℤ) → List ℤ
lows_of rs = map (λ (r : Pair ℤ). r.low) rs

abbrev pub highs_of : List (Pair ℤ) → List ℤ
highs_of rs = map (λ (r : Pair ℤ). r.high) rs

-- heights above b
abbrev pub risen : ℤ → List ℕ → List ℤ
risen b hs = map (λ (h : ℕ). b +ℤ pos h) hs

-- the first n of them, added to b, stay within 64 bits
abbrev pub SmallHeights : ℤ → ℕ → List ℕ → Type 0
SmallHeights b n hs = (i : ℕ) → i < n → (mag b ≤ 35184372088832) × (get_or hs i 0 ≤ 35184372088832)
