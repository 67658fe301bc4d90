-- What the rollouts of an accepted text give.
use Rattle.std.proofs.Common.{Err, Ok, ℤ}
use Prim.Native.Nat.{ℕ, ◌*◌, ◌≤◌, ◌<◌}
use mathlib.Core.Path.{◌≡◌, refl, sym, ap, ap₂, subst, ◌∙◌}
use mathlib.Core.Bool.{true, false, not, ◌||◌}
use mathlib.Core.List.{List, ◌++◌}
use mathlib.Core.Logic.{◌⊎◌, inl, inr}
use native.Mathlib.Omega.{arith}
use borrow.Author.Tests.{eq-eqb, ne_eqb, lt-ltb, le-ltb}
use lib.Dec.{eqb, ltb}
use lib.ListN.{length, get_or, take, drop, replicate, length-append, length-drop, length-replicate, get_or-replicate, get_or-append}
use lib.Seq.{length-take-le}
use lib.IntN.{pos, ◌+ℤ◌, ◌*ℤ◌}
use Rattle.line.specs.declared.Refusal.{Refusal}
use Rattle.line.specs.declared.Refusal.TheVariants.{NoRoom, HasChance}
use Rattle.line.specs.Refusal.{Verdict, refused, fine, unless}
use Rattle.table.specs.declared.Summary.{Summary}
use Rattle.table.specs.Tree.{leaves}
use Rattle.table.specs.Table.{Table, read_text, tree, summary, answer, grain}
use Rattle.table.specs.Slices.{laid}
use Rattle.table.specs.Accepted.{span}
use Rattle.table.proofs.Accepted.{answer-accepted, accepted-size, accepted-leaves}
use Rattle.table.proofs.Ends.{span-grains}
use Rattle.scale.specs.Inside.{scale_for, zeros, Taken}
use Rattle.scale.proofs.Taken.{zeros-enough, of-table}
use Rattle.rolling.specs.Inside.Lists.{AtEnds}
use Rattle.rolling.specs.Inside.Contracts.{stored, ReadyRoll, WellRolled}
use Rattle.rolled.specs.Inside.Bounds.{lows_of, highs_of, risen}
use Rattle.rolled.specs.Inside.Contracts.{RollsTo}
use Rattle.rolled.specs.Call.{rolls, roll_answer, roll_list, roll_records, roll_call, roll_reads, roll_store}
use Rattle.rolled.proofs.Given.{Given, accepted-roll-ready, accepted-rolled}

-- ---- the call's own refusals

module _ (t : Table) (list room : ℕ) where
  chance-yes : (k : ℕ) → 0 < k → not (eqb k 0) ≡ true
  chance-yes k h = ap not (ne_eqb k 0 (λ e. omega arith))

  chance-no : (k : ℕ) → k ≤ 0 → not (eqb k 0) ≡ false
  chance-no k h = ap not (eq-eqb k 0 (omega arith))

  rolls-chance : 0 < (summary t).chances → rolls (fine t) list room ≡ refused HasChance
  unfolding unless
  rolls-chance h = rw (chance-yes (summary t).chances h) refl

  rolls-room : (summary t).chances ≤ 0 → (ltb list (leaves (tree t)) || ltb room (length t.lines)) ≡ true → rolls (fine t) list room ≡ refused NoRoom
  unfolding unless
  rolls-room h b = rw (chance-no (summary t).chances h, b) refl

  pub rolls-fine : (summary t).chances ≤ 0 → (ltb list (leaves (tree t)) || ltb room (length t.lines)) ≡ false → rolls (fine t) list room ≡ fine t
  unfolding unless
  rolls-fine h b = rw (chance-no (summary t).chances h, b) refl

-- of an accepted text s with the summary t
module _ (s : List ℕ) (t : Summary) (e : answer (read_text s) ≡ Ok t) (list room : ℕ) where
  pub has-chance : 0 < t.chances → rolls (read_text s) list room ≡ refused HasChance
  has-chance h =
      let (T, p, q) = answer-accepted (read_text s) t e in
      ap (λ (v : Verdict Table). rolls v list room) p ∙ rolls-chance T list room (subst (λ (x : Summary). 0 < x.chances) (sym q) h)

  pub too_short : t.chances ≤ 0 → (list < t.leaves) ⊎ ((t.leaves ≤ list) × (room < t.nodes)) → rolls (read_text s) list room ≡ refused NoRoom
  too_short h b =
      let (T, p, q) = answer-accepted (read_text s) t e in
      let b' = wanting list (summary T).leaves room (summary T).nodes
      (subst (λ (x : Summary). (list < x.leaves) ⊎ ((x.leaves ≤ list) × (room < x.nodes))) (sym q) b) in
      ap (λ (v : Verdict Table). rolls v list room) p
      ∙ rolls-room T list room (subst (λ (x : Summary). x.chances ≤ 0) (sym q) h) (rw (accepted-leaves s T p) b')
    where
      wanting : (a b c d : ℕ) → (a < b) ⊎ ((b ≤ a) × (c < d)) → (ltb a b || ltb c d) ≡ true
      wanting a b c d (inl h) = rw (lt-ltb a b h) refl
      wanting a b c d (inr h) = rw (le-ltb a b h.0, lt-ltb c d h.1) refl

pub nodes-few : {s : List ℕ} {t : Summary} {K S W H : List ℕ} → Taken s t K S W H → t.nodes ≤ 1024
nodes-few {s} G = of-table G (λ t K S W H. t.nodes ≤ 1024) (λ T p. (accepted-size s T p).1)

-- ---- what was left

-- t is the summary of the text s; the number r, the heights and the list, as it came and as it is now, were left
pub record Facts (s P : List ℕ) (room : ℕ) (t : Summary) (low high : List ℕ) (r : ℕ) (came now : List ℕ) : Type 0 where
  pub answers : Ok (record { worth = t.lowest *ℤ pos t.grain +ℤ pos (get_or low 0 0); leaves = r }) ≡ roll_call (read_text s) P (length came) room
  pub nodes : t.nodes ≡ length (roll_store (read_text s) P (length came) room)
  pub lists : now ≡ laid (roll_reads (read_text s) P (length came) room) came
  pub lows : risen (t.lowest *ℤ pos t.grain) (take t.nodes low) ≡ lows_of (roll_store (read_text s) P (length came) room)
  pub highs : risen (t.lowest *ℤ pos t.grain) (take t.nodes high) ≡ highs_of (roll_store (read_text s) P (length came) room)
  pub some : 0 < t.nodes
  pub few : t.nodes ≤ 1024
  pub small_low : (i : ℕ) → i < t.nodes → get_or low i 0 ≤ 35184372088832
  pub small-high : (i : ℕ) → i < t.nodes → get_or high i 0 ≤ 35184372088832

facts-of : (s P : List ℕ) (room : ℕ) (T : Table) (p : read_text s ≡ fine T) (low high : List ℕ) (r : ℕ) (came now : List ℕ)
    → (summary T).chances ≤ 0 → (summary T).leaves ≤ length came → (summary T).nodes ≤ room
    → Given s T p P low high r came now → Facts s P room (summary T) low high r came now
facts-of s P room T p low high r came now c l n g =
    let enough : (ltb (length came) (summary T).leaves || ltb room (summary T).nodes) ≡ false = rw (le-ltb (length came) (summary T).leaves l, le-ltb room (summary T).nodes n) refl in
    let fits : rolls (read_text s) (length came) room ≡ fine T = ap (λ (v : Verdict Table). rolls v (length came) room) p ∙ rolls-fine T (length came) room c (rw (accepted-leaves s T p) enough) in
    let big = span-grains s T p in
    record {
      answers = ap₂ (λ (z : ℤ) (m : ℕ). Ok (record { worth = z; leaves = m })) g.worth g.used ∙ sym (ap (roll_answer P) fits);
      nodes = sym g.size ∙ sym (ap (λ (v : Verdict Table). length (roll_records P v)) fits);
      lists = g.leaves ∙ sym (ap (λ (v : Verdict Table). laid (roll_list P v) came) fits);
      lows = g.lows ∙ sym (ap (λ (v : Verdict Table). lows_of (roll_records P v)) fits);
      highs = g.highs ∙ sym (ap (λ (v : Verdict Table). highs_of (roll_records P v)) fits);
      some = (accepted-size s T p).0;
      few = (accepted-size s T p).1;
      small_low = λ i o. omega (arith, (g.small i o).0, big);
      small-high = λ i o. omega (arith, (g.small i o).1, big);
    }

-- the highs of the nodes are the highest end
abbrev pub Started : Summary → List ℕ → Type 0
Started t high = (i : ℕ) → i < t.nodes → get_or high i 0 ≡ (scale_for t).top

-- filled at the front with it
pub filled-begun : (t : Summary) (high front : List ℕ) (top : ℕ) → t.nodes ≤ 1024 → length high ≡ 1024 → front ≡ replicate (length (take t.nodes high)) top → top ≡ (scale_for t).top
    → (length (front ++ drop t.nodes high) ≡ 1024) × Started t (front ++ drop t.nodes high)
filled-begun t high front top few long f e =
    let n : ℕ = t.nodes in
    let k : length front ≡ n = ap length f ∙ length-replicate {A = ℕ} (length (take n high)) top ∙ length-take-le n high (omega arith) in (
      omega (arith, length-append front (drop n high), length-drop n high),
      λ i o. get_or-append front (drop n high) 0 i (omega arith) ∙ ap (λ (l : List ℕ). get_or l i 0) f
          ∙ get_or-replicate (length (take n high)) i top 0 (omega (arith, length-take-le n high (omega arith))) ∙ e,
    )

-- zl and zh are the lows and the highs before the first walk
module _ {s : List ℕ} {t : Summary} {K S W H : List ℕ} (G : Taken s t K S W H) (zl zh : List ℕ) (is_z : zl ≡ replicate 1024 0) (long : length zh ≡ 1024) (begun : Started t zh) where
  at-ends : (T : Table) → read_text s ≡ fine T → Started (summary T) zh → AtEnds (length T.lines) (span T.head * grain T) (stored zl zh)
  at-ends T p b =
      let z = (accepted-size s T p).1 in
      let k : length zl ≡ 1024 = ap length is_z ∙ length-replicate {A = ℕ} 1024 0 in
      record { room = (omega arith, omega arith); ends = λ i o. (ap (λ (l : List ℕ). get_or l i 0) is_z ∙ get_or-replicate 1024 i 0 0 (omega arith), b i o) }

  pub roll-ready : (room : ℕ) → t.leaves ≤ room → ReadyRoll K S H t.grain t.nodes (stored zl zh) room
  roll-ready room enough =
      of-table G (λ t K S W H. Started t zh → t.leaves ≤ room → ReadyRoll K S H t.grain t.nodes (stored zl zh) room)
      (λ T p b o. let z = zeros-enough s T p in accepted-roll-ready s T p zeros zeros zeros zeros z z z z (stored zl zh) (at-ends T p b) room o) begun enough

  pub roll-facts : (P low high : List ℕ) (r : ℕ) (came now : List ℕ) (room : ℕ) → t.chances ≤ 0 → t.leaves ≤ length came → t.nodes ≤ room
      → WellRolled K S H t.grain t.nodes P (stored zl zh) (stored low high) r came now → Facts s P room t low high r came now
  roll-facts P low high r came now room c l n told =
      of-table G
      (λ t K S W H. Started t zh → t.chances ≤ 0 → t.leaves ≤ length came → t.nodes ≤ room
      → WellRolled K S H t.grain t.nodes P (stored zl zh) (stored low high) r came now → Facts s P room t low high r came now)
      (λ T p b c l n told. let z = zeros-enough s T p in
      facts-of s P room T p low high r came now c l n (accepted-rolled s T p zeros zeros zeros zeros z z z z (stored zl zh) (at-ends T p b) P low high r came now l told))
      begun c l n told

-- a refused call: nothing is written
pub refuses : (s P : List ℕ) (room : ℕ) (r : Refusal) (came low high : List ℕ) → rolls (read_text s) (length came) room ≡ refused r
    → RollsTo (read_text s) P room (Err r) came came low high
refuses s P room r came low high e =
    record {
      answers = sym (ap (roll_answer P) e);
      lists = sym (ap (λ (v : Verdict Table). laid (roll_list P v) came) e);
      store = ap (roll_records P) e;
    }
