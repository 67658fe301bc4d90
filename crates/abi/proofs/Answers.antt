-- What a call answers of any text is small enough for its code and numbers.
use Rattle.std.proofs.Common.{Err, Ok, Result}
use Rattle.line.specs.declared.Refusal.{Refusal}
use Rattle.search_call.specs.declared.Bounds.{Bounds}
use Rattle.rolled.specs.declared.RolledOut.{RolledOut}
use Rattle.report.specs.declared.Totals.{Totals}
use Rattle.report_call.specs.declared.Unreported.{Unreported}
use Prim.Native.Nat.{ℕ, ◌<◌}
use mathlib.Core.Path.{◌≡◌, refl, ap}
use mathlib.Core.List.{List}
use native.Mathlib.Omega.{arith}
use lib.IntN.{ℤ}
use Rattle.line.specs.Refusal.{Verdict, refused, fine, line_of}
use Rattle.table.specs.Table.{Table, read_text, answer}
use Rattle.table.specs.declared.Play.{Play}
use Rattle.table.specs.declared.Play.TheVariants.{Child, NoPlay}
use Rattle.table.proofs.Accepted.{accepted-ranged, accepted-size, accepted-few, accepted-grain, accepted-leaf-lines}
use Rattle.table.proofs.Places.{refused-line}
use Rattle.worth.specs.Call.{exact_call}
use Rattle.judge.specs.Judge.{Judgement, judge}
use Rattle.judge.specs.Call.{judge_answer, judge_call}
use Rattle.judge.proofs.Judge.{judge-refused}
use Rattle.turn_call.specs.Call.{turn_call}
use Rattle.turn_call.proofs.Call.{turn-line}
use Rattle.recipe_call.specs.Call.{recipe_of, made_of, recipe_call}
use Rattle.recipe_call.proofs.Call.{recipe-line, written-long}
use Rattle.search_call.specs.Call.{within_call}
use Rattle.search_call.proofs.Answered.{PlayBelow, within-line, within-sizes}
use Rattle.index_call.specs.Call.{index_call, indexed_call}
use Rattle.index_call.proofs.Answered.{index-cases, indexed-cases}
use Rattle.rolled.specs.Call.{roll_call}
use Rattle.rolled.proofs.Answered.{RollSized, roll-sizes}
use Rattle.report_call.specs.Call.{report_call}
use Rattle.report_call.proofs.Answered.{report-refused, report-totals}
use Rattle.table.specs.Root.{node_number}
use Rattle.codes.specs.Inside.{SmallReading, SmallExact, SmallOpinion, SmallBounded, SmallRolled, SmallTurned, SmallMade, SmallIndexed, SmallReported}

node-small : (p : Play) → PlayBelow 1024 p → node_number p < 1024
node-small (Child n) h = h
node-small NoPlay h = omega arith

rolled-sized : (r : Result RolledOut Refusal) → RollSized r → SmallRolled r
rolled-sized (Ok w) h = omega (arith, h)
rolled-sized (Err r) h = h

module _ (s : List ℕ) where
  pub reading_small : SmallReading (answer (read_text s))
  reading_small = go (read_text s) refl
    where
      go : (v : Verdict Table) → read_text s ≡ v → SmallReading (answer v)
      go (refused r) p = refused-line s r p
      go (fine t) p =
          record {
            nodes = omega (arith, accepted-size s t p);
            total = omega (arith, (accepted-ranged s t p).total);
            chances = omega (arith, accepted-few s t p);
            grain = omega (arith, accepted-grain s t p);
            leaves = omega (arith, accepted-leaf-lines s t p, accepted-size s t p);
            second = omega (arith, (accepted-ranged s t p).second);
          }

  pub exact-small : SmallExact (exact_call (read_text s))
  exact-small = go (read_text s) refl
    where
      go : (v : Verdict Table) → read_text s ≡ v → SmallExact (exact_call v)
      go (refused r) p = refused-line s r p
      go (fine t) p = omega (arith, accepted-grain s t p)

  pub opinion-small : (i : ℤ) → SmallOpinion (judge_call (read_text s) i)
  opinion-small i = go (read_text s) refl
    where
      of : (t : Table) (v : Verdict Judgement) → judge t i ≡ v → SmallOpinion (judge_answer v)
      of t (refused r) p = omega (arith, ap line_of (judge-refused t i r p))
      of t (fine j) p = tt

      go : (v : Verdict Table) → read_text s ≡ v → SmallOpinion (judge_call v i)
      go (refused r) p = refused-line s r p
      go (fine t) p = of t (judge t i) refl

  pub within-small : (m b : ℤ) (room : ℕ) → SmallBounded (within_call (read_text s) m b room)
  within-small m n room = go (within_call (read_text s) m n room) refl
    where
      go : (b : Result Bounds Refusal) → within_call (read_text s) m n room ≡ b → SmallBounded b
      go (Err r) e = within-line s m n room r e
      go (Ok b) e =
          let z = within-sizes s m n room b e in
          record { play = omega (arith, node-small b.play z.play); leaves = omega (arith, z.leaves); grain = omega (arith, z.grain) }

  pub built-small : (room : ℕ) → SmallIndexed (index_call (read_text s) room)
  built-small room = index-cases s room SmallIndexed (λ r p. refused-line s r p) (omega arith) tt

  pub indexed-small : (m : ℤ) (lows highs : List ℤ) (room : ℕ) → SmallBounded (indexed_call (read_text s) m lows highs room)
  indexed-small m lows highs room =
      indexed-cases s m lows highs room SmallBounded (λ r p. refused-line s r p) (λ r z. omega arith) (λ b z.
      record { play = omega (arith, node-small b.play z.play); leaves = omega (arith, z.leaves); grain = omega (arith, z.grain) })

  pub rolled-small : (p : List ℕ) (list room : ℕ) → SmallRolled (roll_call (read_text s) p list room)
  rolled-small p list room = rolled-sized (roll_call (read_text s) p list room) (roll-sizes s p list room)

  pub turned-small : (room : ℕ) → SmallTurned (turn_call (read_text s) room)
  turned-small room = go (turn_call (read_text s) room) refl
    where
      go : (t : Result ℕ Refusal) → turn_call (read_text s) room ≡ t → SmallTurned t
      go (Err r) e = turn-line s room r e
      go (Ok n) e = tt

-- of any recipe
pub made-small : (seed branching depth dice : ℤ) (room : ℕ) → SmallMade (recipe_call seed branching depth dice room)
made-small seed branching depth dice room = go (recipe_of seed branching depth dice room) refl
  where
    go : (v : Verdict (List ℕ)) → recipe_of seed branching depth dice room ≡ v → SmallMade (made_of v)
    go (refused r) e = recipe-line seed branching depth dice room r e
    go (fine s) e = let z = written-long seed branching depth dice room s e in omega (arith, z.0, z.1)

-- of any file
pub reported-small : (file : List ℕ) (scale : ℤ) (room : ℕ) → SmallReported (report_call file scale room)
reported-small file scale room = go (report_call file scale room) refl
  where
    go : (r : Result Totals Unreported) → report_call file scale room ≡ r → SmallReported r
    go (Err u) e = let h = report-refused file room scale u.refusal u.position e in (h.2, h.0)
    go (Ok t) e = report-totals file room scale t e
