-- From the answer for a position back to the definition's.
use Rattle.std.proofs.Common.{Err, Ok}
use Prim.Native.Nat.{ℕ}
use mathlib.Core.Path.{◌≡◌, ap}
use native.Mathlib.Omega.{arith}
use Rattle.line.specs.declared.Refusal.{Refusal}
use Rattle.line.specs.Refusal.{Verdict, refused, fine}
use Rattle.report.specs.declared.Row.{Row}
use Rattle.scoring.specs.declared.Scored.{Scored}
use Rattle.scoring.specs.Inside.{said}

pub said-fine : (size : ℕ) (v : Verdict Row) (p : Scored) → said size v ≡ Ok p → (v ≡ fine p.row) × (size ≡ p.size)
said-fine size (refused q) p e = let z : ◌≡◌ {A = ℕ} 0 1 = cc in absurd (omega arith)
said-fine size (fine x) p e =
    let same : ◌≡◌ {A = Scored} (record { row = x; size = size }) p = cc in
    (ap (λ (p : Scored). fine p.row) same, ap (λ (p : Scored). p.size) same)

pub said-refused : (size : ℕ) (v : Verdict Row) (r : Refusal) → said size v ≡ Err r → v ≡ refused r
said-refused size (refused q) r e = ap refused cc
said-refused size (fine x) r e = let z : ◌≡◌ {A = ℕ} 0 1 = cc in absurd (omega arith)
