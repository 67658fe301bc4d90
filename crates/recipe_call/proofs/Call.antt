-- The call as a whole: its refusals, and what it writes.
use Rattle.std.proofs.Common.{Err, Ok, Result}
use Prim.Native.Nat.{ℕ, ◌+◌, ◌*◌, ◌≤◌, ◌<◌}
use mathlib.Core.Path.{◌≡◌, refl, sym, ap, subst, ◌∙◌}
use mathlib.Core.Bool.{Bool, true, false, ◌||◌, cond}
use mathlib.Core.List.{List}
use native.Mathlib.Omega.{arith}
use borrow.Author.Tests.{ltb-false, lt-ltb, le-ltb}
use lib.Dec.{ltb}
use lib.ListN.{length}
use lib.IntN.{ℤ, pos, negsuc}
use lib.Signed.{lt_z}
use Rattle.line.specs.declared.Refusal.{Refusal}
use Rattle.line.specs.declared.Refusal.TheVariants.{BadRecipe, NoRoom}
use Rattle.line.specs.Refusal.{Verdict, refused, fine, unless, line_of}
use Rattle.line.specs.Line.{to_nat}
use Rattle.line.proofs.Signs.{true-ne-false}
use Rattle.line.proofs.Checks.{or_left, or_right}
use Rattle.line.proofs.Fine.{unless-fine}
use Rattle.table.specs.Table.{read_text}
use Rattle.table.specs.Slices.{laid}
use Rattle.recipe.specs.Recipe.{levels, nodes}
use Rattle.recipe.specs.Inside.{TableReady}
use Rattle.recipe.proofs.Accepted.{recipe-accepted}
use Rattle.recipe.proofs.Written.{text-long}
use Rattle.recipe_call.specs.Call.{beyond, out_of_range, with_dice, too_many, table_for, text_for, recipe_checks, recipe_of, made_of, bytes_of, recipe_call, recipe_bytes}

-- ---- the ranges

between : (lo hi : ℕ) (z : ℤ) → beyond (pos lo) (pos hi) z ≡ false → (lo ≤ to_nat z) × (to_nat z ≤ hi)
between lo hi (pos n) e = (ltb-false n lo (or_left (lt_z (pos n) (pos lo)) (lt_z (pos hi) (pos n)) e), ltb-false hi n (or_right (lt_z (pos n) (pos lo)) (lt_z (pos hi) (pos n)) e))
between lo hi (negsuc n) e = absurd (true-ne-false e)

pub record InRange (seed b depth : ℕ) : Type 0 where
  pub seed-most : seed ≤ 2147483647
  pub least : 2 ≤ b
  pub most : b ≤ 5
  pub shallow : depth ≤ 9

module _ (seed branching depth dice : ℤ) where
  pub in-range : out_of_range seed branching depth dice ≡ false → InRange (to_nat seed) (to_nat branching) (to_nat depth)
  in-range e =
      let s : Bool = beyond (pos 0) (pos 2147483647) seed in
      let m : Bool = beyond (pos 2) (pos 5) branching in
      let d : Bool = beyond (pos 0) (pos 9) depth in
      let three = or_left (s || m || d) (beyond (pos 0) (pos 1) dice) e in
      let two = or_left (s || m) d three in
      let x = between 2 5 branching (or_right s m two) in
      record { seed-most = (between 0 2147483647 seed (or_left s m two)).1; least = x.0; most = x.1; shallow = (between 0 9 depth (or_right (s || m) d three)).1 }

  abbrev n : ℕ
  n = nodes (to_nat branching) (levels (with_dice dice) (to_nat depth))

  abbrev text : List ℕ
  text = text_for seed branching depth dice

  -- ---- what is answered, and what is then in the buffer d

  abbrev Answers : Result ℕ Refusal → List ℕ → List ℕ → Type 0
  Answers a d e = (a ≡ recipe_call seed branching depth dice (length d)) × (e ≡ laid (recipe_bytes seed branching depth dice (length d)) d)

  answers : (d : List ℕ) (v : Verdict (List ℕ)) → recipe_of seed branching depth dice (length d) ≡ v → Answers (made_of v) d (laid (bytes_of v) d)
  answers d v e = (sym (ap made_of e), sym (ap (λ (x : Verdict (List ℕ)). laid (bytes_of x) d) e))

  pub out : (d : List ℕ) → out_of_range seed branching depth dice ≡ true → Answers (Err BadRecipe) d d
  unfolding unless
  out d e = answers d (refused BadRecipe) (rw e)

  module _ (fair : out_of_range seed branching depth dice ≡ false) where
    pub many : (d : List ℕ) → 1024 < n → Answers (Err BadRecipe) d d
    unfolding unless
    many d h = answers d (refused BadRecipe) (rw (fair, lt-ltb 1024 n h))

    module _ (few : n ≤ 1024) where
      text-is : length text ≡ 25 * n + 25
      text-is =
          let R = in-range fair in
          text-long (to_nat seed) (to_nat branching) (to_nat depth) (with_dice dice) R.least R.most few

      pub short : (d : List ℕ) → length d < 25 * n + 25 → Answers (Err NoRoom) d d
      unfolding unless
      short d h = answers d (refused NoRoom) (rw (fair, le-ltb 1024 n few, lt-ltb (length d) (length text) (omega (arith, text-is))))

      pub done : (d : List ℕ) → 25 * n + 25 ≤ length d → Answers (Ok (25 * n + 25)) d (laid text d)
      unfolding unless
      done d h =
          let A = answers d (fine text) (rw (fair, le-ltb 1024 n few, le-ltb (length d) (length text) (omega (arith, text-is)))) in
          (ap Ok (sym text-is) ∙ A.0, A.1)

      pub ready : (room : ℕ) → 25 * n + 25 ≤ room → TableReady (to_nat seed) (to_nat branching) (to_nat depth) (with_dice dice) n room
      ready room h =
          let R = in-range fair in
          record { seed-small = omega (arith, R.seed-most); least = R.least; most = R.most; shallow = R.shallow; count = refl; few = few; fits = h }

  -- ---- a recipe that is not refused

  -- its numbers are in range and its nodes few
  pub written : (room : ℕ) (s : List ℕ) → recipe_of seed branching depth dice room ≡ fine s
      → (out_of_range seed branching depth dice ≡ false) × (n ≤ 1024) × (text ≡ s)
  written room s e =
      let r = unless-fine (recipe_checks seed branching depth dice room) text s e in
      (r.0.0, ltb-false 1024 n r.0.1.0, r.1)

  -- "Every table written is accepted by the reader"
  pub accepted : (room : ℕ) (s : List ℕ) → recipe_of seed branching depth dice room ≡ fine s → read_text s ≡ fine (table_for seed branching depth dice)
  accepted room s e =
      let (fair, few, is) = written room s e in
      let R = in-range fair in
      subst (λ (x : List ℕ). read_text x ≡ fine (table_for seed branching depth dice)) is
      (recipe-accepted (to_nat branching) (with_dice dice) R.least R.most (to_nat seed) (to_nat depth) few)

  pub written-long : (room : ℕ) (s : List ℕ) → recipe_of seed branching depth dice room ≡ fine s → (length s ≡ 25 * n + 25) × (n ≤ 1024)
  written-long room s e =
      let (fair, few, is) = written room s e in
      (ap length (sym is) ∙ text-is fair few, few)

  -- a refusal has line 0
  pub recipe-line : (room : ℕ) (r : Refusal) → recipe_of seed branching depth dice room ≡ refused r → line_of r ≤ 1024
  unfolding unless
  recipe-line room r e = go (out_of_range seed branching depth dice) (too_many seed branching depth dice) (ltb room (length text)) e
    where
      same : (x : Refusal) → line_of x ≤ 1024 → ◌≡◌ {A = Verdict (List ℕ)} (refused x) (refused r) → line_of r ≤ 1024
      same x h e = let z : x ≡ r = cc in subst (λ (y : Refusal). line_of y ≤ 1024) z h

      go : (a b c : Bool) → cond a (refused BadRecipe) (cond b (refused BadRecipe) (cond c (refused NoRoom) (fine text))) ≡ refused r → line_of r ≤ 1024
      go true b c e = same BadRecipe (omega arith) e
      go false true c e = same BadRecipe (omega arith) e
      go false false true e = same NoRoom (omega arith) e
      go false false false e = let z : ◌≡◌ {A = ℕ} 0 1 = cc in absurd (omega arith)
