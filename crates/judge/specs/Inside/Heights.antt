-- The judgement over heights, in grains above the lowest end: what is computed with.
use Rattle.std.specs.Prelude.{ℕ, zero, suc, ◌+◌, ◌-◌, ◌≤◌, cond, List, [], ◌∷◌, eqb, length, ℤ, pos}
use Rattle.std.proofs.Math.Option.{Option, none, some}
use Rattle.line.specs.declared.Refusal.TheVariants.{NoChild}
use Rattle.line.specs.Refusal.{Verdict, refused, fine}
use Rattle.table.specs.Tree.{Forest, end, leaf, inner}
use Rattle.table.specs.Table.{Table, grain}
use Rattle.table.specs.Inside.{height_tree}
use Rattle.table.specs.Root.{Side, AtM, AtN, Root, nobody, to_play, root_of, children, nodes, numbered}
use Rattle.worth.specs.Worth.{Share}
use Rattle.worth.specs.Inside.Heights.{height_shares, first_height}
use Rattle.judge.specs.Judge.{Judgement, no_decision, judged, unless_forced}

-- the root's children with their worths
abbrev pub height_worths : Table → List (Share ℕ)
height_worths t = height_shares (grain t) (children (height_tree t))

abbrev pub height_loss : Side → (best height : ℕ) → ℕ
height_loss AtM best height = best - height
height_loss AtN best height = height - best

-- how many children lose nothing
unfoldable pub height_levels : Side → (best : ℕ) → List (Share ℕ) → ℕ
height_levels s best [] = 0
height_levels s best (x ∷ xs) = cond (eqb (height_loss s best x.worth) 0) 1 0 + height_levels s best xs

abbrev pub height_judge_child : Side → (best : ℕ) (xs : List (Share ℕ)) → Option (Share ℕ) → Verdict Judgement
height_judge_child s best xs none = refused NoChild
height_judge_child s best xs (some x) = fine (judged (pos (height_loss s best x.worth)) (height_levels s best xs))

abbrev pub height_judge_at : Root → (best : ℕ) (xs : List (Share ℕ)) → ℤ → Verdict Judgement
height_judge_at nobody best xs i = fine no_decision
height_judge_at (to_play s) best xs i = height_judge_child s best xs (numbered i xs)

-- the judgement at the first of the nodes F, forced plays too, and without them
abbrev pub forest_every : (G : ℕ) → Forest ℕ → ℤ → Verdict Judgement
forest_every G F i = height_judge_at (root_of F) (first_height (height_shares G F)) (height_shares G (children F)) i

abbrev pub forest_judge : (G : ℕ) → Forest ℕ → ℤ → Verdict Judgement
forest_judge G F i = unless_forced (length (nodes (children F))) (forest_every G F i)

abbrev pub height_judge : Table → ℤ → Verdict Judgement
height_judge t i = forest_judge (grain t) (height_tree t) i

-- no child is better than the best
abbrev pub Ahead : Side → (best height : ℕ) → Type 0
Ahead AtM best height = height ≤ best
Ahead AtN best height = best ≤ height

module _ {A : Type 0} where
  -- nodes with one parent without the first k: the child of number k + 1 with all under it, and those after it
  unfoldable pub from : ℕ → Forest A → Forest A
  from zero F = F
  from (suc k) end = end
  from (suc k) (leaf n w v rest) = from k rest
  from (suc k) (inner n w kind under rest) = from k rest
