-- What holds of a header and of a line that were read; contracts of internal functions and proofs cite these, and no promise of a public call.
use Rattle.std.specs.Prelude.{ℕ, ◌≤◌, ◌<◌, ◌≡◌, Bool, true, false, cond, eqb, nat_abs}
use Rattle.std.specs.Int.Signed.{mag, lt_z}
use Rattle.line.specs.declared.Head.{Head}
use Rattle.line.specs.declared.Line.{Line}

-- "T 1 to 64; ends -1,000,000 to 1,000,000, the lowest at most the highest"; "a second total, 1 to 64, different from the first", or 0 for none
pub record Ranged (h : Head) : Type 0 where
  pub some : 0 < h.total
  pub total : h.total ≤ 64
  pub second : h.second ≤ 64
  pub apart : h.second ≡ h.total → ⊥
  pub lowest : nat_abs h.lowest ≤ 1000000
  pub highest : nat_abs h.highest ≤ 1000000
  pub order : lt_z h.highest h.lowest ≡ false

-- the second total, or the first again where there is none
abbrev pub other : Head → ℕ
other h = cond (eqb h.second 0) h.total h.second

-- "weights 1 to T" under a C, by Item 5 to the larger total, and none elsewhere
abbrev pub Weighs : Bool → ℕ → ℕ → Type 0
Weighs true T w = (0 < w) × (w ≤ T)
Weighs false T w = w ≡ 0

-- a line's numbers fit the slices
pub record Sized (l : Line) : Type 0 where
  pub parent : l.parent < 1024
  pub weight : l.weight ≤ 64
  pub utility : mag l.utility ≤ 1000000
