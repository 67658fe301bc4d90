-- The marks by their steps, and the scales by their numbers.
use Rattle.std.proofs.Common.{Err, Ok, Result}
use Rattle.mark.specs.declared.Marking.{Marking}
use Rattle.line.specs.declared.Refusal.{Refusal}
use Prim.Native.Nat.{ℕ, ◌≤◌, ◌<◌}
use mathlib.Core.Path.{◌≡◌, refl, ap}
use mathlib.Core.Bool.{Bool, true, false, cond}
use native.Mathlib.Omega.{arith}
use borrow.Author.Tests.{eqb-true, eqb-false, leb-true, leb-false}
use lib.Dec.{eqb, leb}
use lib.IntN.{ℤ, pos, negsuc}
use Rattle.line.specs.declared.Refusal.TheVariants.{BadScale}
use Rattle.mark.specs.declared.Mark.TheVariants.{NoMark, Doubtful, Error, Blunder}
use Rattle.mark.specs.declared.Marking.TheVariants.{Printed, New}
use Rattle.mark.specs.Marks.{steps, choice_of, mark_number}

-- ---- the mark of a loss

module _ (doubtful error blunder loss : ℕ) where
  -- the mark's number, by the steps that the loss reaches
  by-steps : (P : ℕ → Type 0) → (loss < doubtful → loss < error → loss < blunder → P 1) → (doubtful ≤ loss → loss < error → loss < blunder → P 2)
      → (error ≤ loss → loss < blunder → P 3) → (blunder ≤ loss → P 4) → P (mark_number (steps doubtful error blunder loss))
  by-steps P f g h k = third (leb blunder loss) refl
    where
      first : loss < error → loss < blunder → (b : Bool) → leb doubtful loss ≡ b → P (mark_number (cond b Doubtful NoMark))
      first q r true e = g (leb-true doubtful loss e) q r
      first q r false e = f (leb-false doubtful loss e) q r

      second : loss < blunder → (b : Bool) → leb error loss ≡ b → P (mark_number (cond b Error (cond (leb doubtful loss) Doubtful NoMark)))
      second r true e = h (leb-true error loss e) r
      second r false e = first (leb-false error loss e) r (leb doubtful loss) refl

      third : (b : Bool) → leb blunder loss ≡ b → P (mark_number (cond b Blunder (cond (leb error loss) Error (cond (leb doubtful loss) Doubtful NoMark))))
      third true e = k (leb-true blunder loss e)
      third false e = second (leb-false blunder loss e) (leb error loss) refl

  abbrev number : ℕ
  number = mark_number (steps doubtful error blunder loss)

  some-mark : 1 ≤ number
  some-mark = by-steps (λ n. 1 ≤ n) (λ p q r. omega arith) (λ p q r. omega arith) (λ q r. omega arith) (λ r. omega arith)

  -- from each step on the mark is at least this bad
  pub from-doubtful : doubtful ≤ loss → 2 ≤ number
  from-doubtful h = by-steps (λ n. 2 ≤ n) (λ p q r. omega arith) (λ p q r. omega arith) (λ q r. omega arith) (λ r. omega arith)

  pub from-error : error ≤ loss → 3 ≤ number
  from-error h = by-steps (λ n. 3 ≤ n) (λ p q r. omega arith) (λ p q r. omega arith) (λ q r. omega arith) (λ r. omega arith)

  pub from-blunder : blunder ≤ loss → 4 ≤ number
  from-blunder h = by-steps (λ n. 4 ≤ n) (λ p q r. omega arith) (λ p q r. omega arith) (λ q r. omega arith) (λ r. omega arith)

  -- and below it milder, where the steps rise
  module _ (rises : doubtful ≤ error) (more : error ≤ blunder) where
    pub below-doubtful : loss < doubtful → number < 2
    below-doubtful h = by-steps (λ n. n < 2) (λ p q r. omega arith) (λ p q r. omega arith) (λ q r. omega arith) (λ r. omega arith)

    pub below-error : loss < error → number < 3
    below-error h = by-steps (λ n. n < 3) (λ p q r. omega arith) (λ p q r. omega arith) (λ q r. omega arith) (λ r. omega arith)

    pub below-blunder : loss < blunder → number < 4
    below-blunder h = by-steps (λ n. n < 4) (λ p q r. omega arith) (λ p q r. omega arith) (λ q r. omega arith) (λ r. omega arith)

-- no step is later, and so no mark milder
pub earlier-steps : (d e b d' e' b' loss : ℕ) → d' ≤ d → e' ≤ e → b' ≤ b → mark_number (steps d e b loss) ≤ mark_number (steps d' e' b' loss)
earlier-steps d e b d' e' b' loss f g h =
    by-steps d e b loss (λ n. n ≤ mark_number (steps d' e' b' loss))
    (λ p q r. some-mark d' e' b' loss)
    (λ p q r. from-doubtful d' e' b' loss (omega arith))
    (λ q r. from-error d' e' b' loss (omega arith))
    (λ r. from-blunder d' e' b' loss (omega arith))

-- ---- the scale of a number

module _ (P : Result Marking Refusal → Type 0) where
  pub choices : (z : ℤ) → (z ≡ pos 1 → P (Ok Printed)) → (z ≡ pos 2 → P (Ok New)) → ((z ≡ pos 1 → ⊥) → (z ≡ pos 2 → ⊥) → P (Err BadScale)) → P (choice_of z)
  choices (negsuc n) f g h = h (λ e. let z : ◌≡◌ {A = ℕ} 0 1 = cc in omega arith) (λ e. let z : ◌≡◌ {A = ℕ} 0 1 = cc in omega arith)
  choices (pos n) f g h = first (eqb n 1) refl
    where
      same : (m : ℕ) → pos n ≡ pos m → n ≡ m
      same m e = cc

      second : (pos n ≡ pos 1 → ⊥) → (b : Bool) → eqb n 2 ≡ b → P (cond b (Ok New) (Err BadScale))
      second not true e = g (ap pos (eqb-true n 2 e))
      second not false e = h not (λ q. eqb-false n 2 e (same 2 q))

      first : (b : Bool) → eqb n 1 ≡ b → P (cond b (Ok Printed) (cond (eqb n 2) (Ok New) (Err BadScale)))
      first true e = f (ap pos (eqb-true n 1 e))
      first false e = second (λ q. eqb-false n 1 e (same 1 q)) (eqb n 2) refl

pub choice-none : (z : ℤ) → (z ≡ pos 1 → ⊥) → (z ≡ pos 2 → ⊥) → Err BadScale ≡ choice_of z
choice-none z f g =
    choices (λ (c : Result Marking Refusal). Err BadScale ≡ c) z (λ e. absurd (f e)) (λ e. absurd (g e)) (λ p q. refl)
