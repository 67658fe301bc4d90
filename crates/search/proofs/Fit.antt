-- What divides the heights of an accepted table, in grains.
use Prim.Native.Nat.{ℕ, ◌*◌, ◌∣◌}
use mathlib.Core.Path.{◌≡◌, ap}
use native.Mathlib.Nat.{dvd-mul_left_of_dvd, dvd-mul_left, dvd_trans, dvd-zero}
use Rattle.table.specs.Tree.{Kind, Forest, end, leaf, inner, weigh}
use Rattle.table.proofs.Totals as sums
use Rattle.table.proofs.Totals.{Divided}
use Rattle.search.specs.Search.{Frame, framed}
use Rattle.search.specs.Inside.{grained}
use Rattle.search.proofs.Grains.{plain, grained-weigh}

-- what divides the worths of a node's children, where g divides its own
abbrev pub grade : Frame ℕ → Kind → ℕ → ℕ
grade e k g = sums.grade k e.total g

-- g divides both ends
abbrev pub Even : ℕ → Frame ℕ → Type 0
Even g e = (g ∣ e.bottom) × (g ∣ e.top)

-- g divides the worth of these nodes, and no division under them leaves a remainder
abbrev pub Fit : (ℕ → Forest ℕ → Frame ℕ) → ℕ → Forest ℕ → Type 0
Fit frame g end = Unit {0}
Fit frame g (leaf n w h rest) = (g ∣ h) × Fit frame g rest
Fit frame g (inner n w k under rest) =
    Even (grade (frame n under) k g) (frame n under) × Fit frame (grade (frame n under) k g) under × Fit frame g rest

-- where G divides the ends of every frame, and the sums on each path divide the grain count
module _ (G : ℕ) (bottom top : Forest ℕ → ℕ) (ends : (f : Forest ℕ) → (G ∣ bottom (grained G f)) × (G ∣ top (grained G f))) where
  -- a C's own sum is the total of its frame
  grade-own : (k : Kind) (g : ℕ) (f : Forest ℕ) → grade (framed (bottom (grained G f)) (top (grained G f)) (grained G f)) k g ≡ sums.grade k (weigh f) g
  grade-own k g f = ap (λ (x : ℕ). sums.grade k x g) (grained-weigh G f)

  pub fit-by : (g : ℕ) (f : Forest ℕ) → Divided G g f → Fit (λ (n : ℕ) (f : Forest ℕ). framed (bottom f) (top f) f) g (grained G f)
  unfolding grained
  fit-by g end d = tt
  fit-by g (leaf n w h rest) d = (dvd-mul_left_of_dvd g d.0 h, fit-by g rest d.1)
  fit-by g (inner n w k under rest) d =
      let j : ℕ = sums.grade k (weigh under) g in
      rw (grade-own k g under) ((dvd_trans j d.0 (ends under).0, dvd_trans j d.0 (ends under).1), fit-by j under d.1, fit-by g rest d.2)

-- the table's ends
pub fit : (S G g : ℕ) (f : Forest ℕ) → Divided G g f → Fit (plain (S * G)) g (grained G f)
fit S G = fit-by G (λ _. 0) (λ _. S * G) (λ f. (dvd-zero G, dvd-mul_left G S))
