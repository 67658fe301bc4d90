-- Level plays, at the public call.
use Rattle.std.proofs.Common.{Ok, Some}
use Prim.Native.Nat.{ℕ, suc, ◌+◌, ◌≤◌}
use mathlib.Core.Path.{◌≡◌, refl, sym, ap, ap₂, ◌∙◌}
use mathlib.Core.Bool.{Bool, cond}
use mathlib.Core.List.{List, [], ◌∷◌}
use mathlib.Core.Option.{some}
use native.Mathlib.Omega.{arith}
use lib.Dec.{eqb}
use lib.ListN.{length, get_elem?}
use lib.IntN.{ℤ, pos}
use Rattle.numbers.specs.Integers.{eq_z}
use Rattle.numbers.proofs.Signs.{minus-none, same-flip}
use Rattle.line.specs.Refusal.{Verdict, fine}
use Rattle.line.specs.Line.{to_nat}
use Rattle.table.specs.Table.{Table, tree, read_text}
use Rattle.table.specs.Root.{Side, AtM, AtN, to_play, root_of, numbered, child_count}
use Rattle.worth.specs.Worth.{Share, worth_of}
use Rattle.judge.specs.Judge.{child_worths, loss_at, levels, Judgement, judge_child, judged, judge}
use Rattle.judge.specs.Call.{judge_answer, judge_call}
use Rattle.judge.proofs.Judge.{judged-says, judged-sound, decided-judged, loss-heights, worths-count}
use Rattle.judge.proofs.Call.{answer-loss}
use Rattle.demands.specs.Level.{loses_nothing, unlost, LevelLoseNothing, count_worth, LevelAreBest}

-- ---- losses over the integers

-- a child that loses nothing has the root's worth
loss-none : (s : Side) (exact worth : ℤ) → eq_z (loss_at s exact worth) (pos 0) ≡ eq_z worth exact
loss-none AtM exact worth = minus-none exact worth ∙ same-flip exact worth
loss-none AtN exact worth = minus-none worth exact

levels-worth : (s : Side) (exact : ℤ) (xs : List (Share ℤ)) → levels s exact xs ≡ count_worth exact xs
unfolding levels count_worth
levels-worth s exact [] = refl
levels-worth s exact (x ∷ xs) = ap₂ (λ (b : Bool) (n : ℕ). cond b 1 0 + n) (loss-none s exact x.worth) (levels-worth s exact xs)

-- ---- the judgement that was answered

module _ (s : List ℕ) (t : Table) (p : read_text s ≡ fine t) where
  answered : (i : ℤ) (loss level : ℕ) → judge_call (read_text s) i ≡ Ok (Some (record { loss = loss; level = level }))
      → (z : ℤ) × (judge t i ≡ fine (judged z level)) × (to_nat z ≡ loss)
  answered i loss level e = answer-loss (judge t i) loss level (sym (ap (λ (v : Verdict Table). judge_call v i) p) ∙ e)

  module _ (side : Side) (o : root_of (tree t) ≡ to_play side) (several : 2 ≤ child_count t) where
    -- a child's play is said to lose nothing where its loss is 0
    said : (i : ℤ) (x : Share ℤ) → numbered i (child_worths t) ≡ some x
        → loses_nothing (judge_call (read_text s) i) ≡ eq_z (loss_at side (worth_of t) x.worth) (pos 0)
    said i x f =
        let (y, g, q) = loss-heights s t p side o i x f in
        ap (λ (v : Verdict Table). loses_nothing (judge_call v i)) p
        ∙ ap (λ (v : Verdict Judgement). loses_nothing (judge_answer v)) (decided-judged t i side o several ∙ ap (judge_child side (worth_of t) (child_worths t)) f)
        ∙ ap (λ (z : ℤ). eqb (to_nat z) 0) q
        ∙ sym (ap (λ (z : ℤ). eq_z z (pos 0)) q)

    -- one child after another, from that of number k + 1 on
    counted : (k : ℕ) (xs : List (Share ℤ)) → ((j n : ℕ) (x : Share ℤ) → n ≡ k + j → get_elem? xs j ≡ some x → numbered (pos (suc n)) (child_worths t) ≡ some x)
        → levels side (worth_of t) xs ≡ unlost (read_text s) k (length xs)
    unfolding levels unlost
    counted k [] f = refl
    counted k (x ∷ xs) f =
        ap₂ (λ (b : Bool) (n : ℕ). cond b 1 0 + n) (sym (said (pos (suc k)) x (f 0 k x (omega arith) refl)))
        (counted (suc k) xs (λ j n y h e. f (suc j) n y (omega (arith, h)) e))

    all-counted : levels side (worth_of t) (child_worths t) ≡ unlost (read_text s) 0 (child_count t)
    all-counted =
        counted 0 (child_worths t) (λ j n x h e. ap (get_elem? (child_worths t)) (omega (arith, h)) ∙ e) ∙ ap (unlost (read_text s) 0) (worths-count s t p)

-- ---- the theorems

pub level-lose-nothing : LevelLoseNothing
level-lose-nothing s t i loss level p e =
    let (z, q, l) = answered s t p i loss level e in
    let S = judged-says s t p i z level q in
    sym S.counted ∙ all-counted s t p S.side S.root S.several

pub level-are-best : LevelAreBest
level-are-best s t i loss level p e =
    let (z, q, l) = answered s t p i loss level e in
    let S = judged-says s t p i z level q in
    (sym S.counted ∙ levels-worth S.side (worth_of t) (child_worths t), (judged-sound s t p i z level q).1)
