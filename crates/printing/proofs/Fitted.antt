-- The printed bytes in a lent buffer, as many as it has room for.
use Rattle.std.proofs.Common.{ℕ, ◌≡◌, ◌-◌, min, List, ◌++◌, length, take, drop, arith}
use Rattle.std.proofs.lemmas.List.{take_all, take_rest, drop_all, length-take}
use Rattle.table.specs.Slices.{fitted}

-- the part of the input from byte 15 on, as it is handed on
pub part-table : (l : List ℕ) (k : ℕ) → k ≡ min (length l) 15 → take (length l - k) (drop k l) ≡ drop 15 l
part-table l k e = grind (arith, take_rest, drop_all)

-- m bytes of P, copied to the front of `output`
pub copied : (P output : List ℕ) (m : ℕ) → m ≡ min (length P) (length output) → take m P ++ drop m output ≡ fitted P output
copied P output m e = grind (arith, take_all, length-take)
