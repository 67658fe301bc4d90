-- Numbers negated, and a turned header.
use Prim.Native.Nat.{zero, suc}
use mathlib.Core.Path.{◌≡◌, refl, sym, ◌∙◌}
use lib.Dec.{leb-zero, leb-suc-zero, leb-suc-suc}
use lib.IntN.{ℤ, pos, negsuc, neg_ℤ}
use lib.Signed.{lt_z}
use Rattle.field.proofs.Bits.{abs_neg}
use Rattle.line.specs.declared.Head.{Head}
use Rattle.line.specs.Inside.{Ranged}
use Rattle.turn.specs.Turn.{turn_head}

pub neg-less : (a b : ℤ) → lt_z (neg_ℤ a) (neg_ℤ b) ≡ lt_z b a
neg-less (pos zero) (pos zero) = refl
neg-less (pos zero) (pos (suc n)) = sym (leb-suc-zero (suc n))
neg-less (pos zero) (negsuc n) = leb-suc-suc 0 n ∙ leb-zero n
neg-less (pos (suc m)) (pos zero) = sym (leb-suc-suc 0 m ∙ leb-zero m)
neg-less (pos (suc m)) (pos (suc n)) = sym (leb-suc-suc (suc n) m)
neg-less (pos (suc m)) (negsuc n) = refl
neg-less (negsuc m) (pos zero) = leb-suc-zero (suc m)
neg-less (negsuc m) (pos (suc n)) = refl
neg-less (negsuc m) (negsuc n) = leb-suc-suc (suc m) n

pub ranged-turned : (h : Head) → Ranged h → Ranged (turn_head h)
ranged-turned h r =
    record {
      some = r.some;
      total = r.total;
      second = r.second;
      apart = r.apart;
      lowest = rw (abs_neg h.highest) r.highest;
      highest = rw (abs_neg h.lowest) r.lowest;
      order = neg-less h.lowest h.highest ∙ r.order;
    }
