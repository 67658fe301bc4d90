-- A loss is at most the span, and so its thousandths fit.
use Prim.Native.Nat.{ℕ, ◌*◌, ◌≤◌}
use mathlib.Core.Path.{◌≡◌, refl, subst}
use mathlib.Core.Bool.{Bool, true, false, cond}
use mathlib.Core.List.{List}
use mathlib.Core.Option.{Option, none, some}
use native.Mathlib.Nat.{le_trans, mul-le-mul_right, div-le_of_le-mul}
use native.Mathlib.Omega.{arith}
use lib.Dec.{eqb}
use lib.ListN.{length}
use lib.IntN.{ℤ}
use Rattle.line.specs.Refusal.{Verdict, refused, fine}
use Rattle.line.specs.Line.{to_nat}
use Rattle.table.specs.Tree.{Forest, end, leaf, inner}
use Rattle.table.specs.Table.{Table, read_text, grain}
use Rattle.table.specs.Inside.{height_tree}
use Rattle.table.specs.Accepted.{span}
use Rattle.table.specs.Root.{Side, AtM, AtN, Root, nobody, to_play, root_of, children, nodes, numbered}
use Rattle.table.proofs.Accepted.{some-grain, accepted-grain}
use Rattle.table.proofs.Ends.{accepted-span}
use Rattle.worth.specs.Worth.{Share}
use Rattle.worth.specs.Inside.Heights.{height_worth, SmallWorths}
use Rattle.worth.proofs.Bounds.{Each, small-each}
use Rattle.worth.proofs.Worth.{heights-small, height-within}
use Rattle.judge.specs.Judge.{Judgement, no_decision, judged, unless_forced, judge}
use Rattle.judge.specs.Inside.Heights.{height_worths, height_loss, height_judge_child, height_judge_at, forest_every}
use Rattle.judge.proofs.Shift.{numbered-each}
use Rattle.judge.proofs.Judge.{judge-heights}
use Rattle.report.specs.Report.{loss_of}
use Rattle.report.specs.Inside.{SmallJudgement, SmallLoss}

-- ---- over heights

children-small : (G M : ℕ) (F : Forest ℕ) → SmallWorths G M F → SmallWorths G M (children F)
children-small G M end s = tt
children-small G M (leaf n w v rest) s = tt
children-small G M (inner n w k under rest) s = s.1

loss-le : (M : ℕ) (s : Side) (best h : ℕ) → best ≤ M → h ≤ M → height_loss s best h ≤ M
loss-le M AtM best h p q = omega arith
loss-le M AtN best h p q = omega arith

-- where there is a loss, it is at most M
abbrev Within : ℕ → Verdict Judgement → Type 0
Within M (refused r) = Unit {0}
Within M (fine no_decision) = Unit {0}
Within M (fine (judged loss level)) = to_nat loss ≤ M

module _ (M best : ℕ) (xs : List (Share ℕ)) (low : best ≤ M) (each : Each (λ (x : ℕ). x ≤ M) xs) (i : ℤ) where
  child-within : (s : Side) (o : Option (Share ℕ)) → numbered i xs ≡ o → Within M (height_judge_child s best xs o)
  child-within s none e = tt
  child-within s (some x) e = loss-le M s best x.worth low (numbered-each (λ (y : ℕ). y ≤ M) xs i x each e)

  root-within : (r : Root) → Within M (height_judge_at r best xs i)
  root-within nobody = tt
  root-within (to_play s) = child-within s (numbered i xs) refl

forced-within : (M children : ℕ) (v : Verdict Judgement) → Within M v → Within M (unless_forced children v)
forced-within M children v w = go (eqb children 1)
  where
    go : (b : Bool) → Within M (cond b (fine no_decision) v)
    go true = tt
    go false = w

-- ---- an accepted table

module _ (s : List ℕ) (t : Table) (p : read_text s ≡ fine t) (i : ℤ) where
  abbrev most : ℕ
  most = span t.head * grain t

  each-small : Each (λ (x : ℕ). x ≤ most) (height_worths t)
  each-small = small-each (grain t) most (children (height_tree t)) (children-small (grain t) most (height_tree t) (heights-small s t p))

  judge-within : Within most (judge t i)
  judge-within =
      rw (judge-heights s t p i)
      (forced-within most (length (nodes (children (height_tree t)))) (forest_every (grain t) (height_tree t) i)
      (root-within most (height_worth t) (height_worths t) (height-within s t p) each-small i (root_of (height_tree t))))

  small-within : (j : Judgement) → Within most (fine j) → SmallJudgement (grain t) j
  small-within no_decision w = tt
  small-within (judged loss level) w =
      record {
        some = some-grain s t p;
        most = le_trans w (mul-le-mul_right (grain t) (accepted-span s t p));
        grains = accepted-grain s t p;
      }

  pub judgement-small : (j : Judgement) → judge t i ≡ fine j → SmallJudgement (grain t) j
  judgement-small j e = small-within j (subst (Within most) e judge-within)

pub listed_small : (G : ℕ) (j : Judgement) → SmallJudgement G j → SmallLoss (loss_of G j)
listed_small G no_decision h = tt
listed_small G (judged loss level) h = div-le_of_le-mul G (omega (arith, h.most))
