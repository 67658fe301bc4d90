-- The judgement of the play made at the root. Document 01, 'Judging and turning', and document 02, Items 2 and 8.
use Rattle.std.specs.Prelude.{ℕ, ◌+◌, cond, List, [], ◌∷◌, eqb, ℤ, pos, ◌-ℤ◌}
use Rattle.std.proofs.Math.Option.{Option, none, some}
use Rattle.numbers.specs.Integers.{eq_z}
use Rattle.line.specs.declared.Refusal.TheVariants.{NoChild}
use Rattle.line.specs.Refusal.{Verdict, refused, fine}
use Rattle.table.specs.Table.{Table, tree, grain}
use Rattle.table.specs.Root.{Side, AtM, AtN, Root, nobody, to_play, root_of, children, numbered, child_count}
use Rattle.worth.specs.Worth.{Share, shares, worth_of}

-- the root's children with their worths: "a play is worth the exact worth of the root child that it names"
abbrev pub child_worths : Table → List (Share ℤ)
child_worths t = shares (grain t) (children (tree t))

-- "the loss is the exact worth minus the child's at M, the child's minus the exact worth at N"
abbrev pub loss_at : Side → (exact worth : ℤ) → ℤ
loss_at AtM exact worth = exact -ℤ worth
loss_at AtN exact worth = worth -ℤ exact

-- The number of level children. Document 02, Item 8: "the level children are those of loss 0"; document 01 had those that lose less than a point.
unfoldable pub levels : Side → (exact : ℤ) → List (Share ℤ) → ℕ
levels s exact [] = 0
levels s exact (x ∷ xs) = cond (eq_z (loss_at s exact x.worth) (pos 0)) 1 0 + levels s exact xs

-- ""no decision" alone, with no loss or level number", or the two
pub data Judgement : Type 0 where
  no_decision : Judgement
  judged : (loss : ℤ) (level : ℕ) → Judgement

-- where a child x of the children xs is played, "the number of level children is returned too"; 14: "judging at M or N: no such child"
abbrev pub judge_child : Side → (exact : ℤ) (xs : List (Share ℤ)) → Option (Share ℤ) → Verdict Judgement
judge_child s exact xs none = refused NoChild
judge_child s exact xs (some x) = fine (judged (loss_at s exact x.worth) (levels s exact xs))

-- "At a C or L root the answer is "no decision" alone, .. for every number. Otherwise the loss .."
abbrev pub judge_at : Root → (exact : ℤ) (xs : List (Share ℤ)) → ℤ → Verdict Judgement
judge_at nobody exact xs i = fine no_decision
judge_at (to_play s) exact xs i = judge_child s exact xs (numbered i xs)

-- Judging as in document 01 but for Item 8's level children, of forced plays too: "Judging takes the number, from 1, of the root child played"
abbrev pub judge_every : Table → ℤ → Verdict Judgement
judge_every t i = judge_at (root_of (tree t)) (worth_of t) (child_worths t) i

-- Document 02, Item 2: "A root of kind M or N with a single child is judged "no decision", as a C or L root is, for every play number": v is
-- the judgement where the play is not forced, and of a C with a single child that is "no decision" anyway
abbrev pub unless_forced : (children : ℕ) → Verdict Judgement → Verdict Judgement
unless_forced children v = cond (eqb children 1) (fine no_decision) v

-- the judgement of root child number i
abbrev pub judge : Table → ℤ → Verdict Judgement
judge t i = unless_forced (child_count t) (judge_every t i)
