-- The cases of a position one after another: what is known where each is reached.
use Prim.Native.Nat.{ℕ, ◌≤◌, ◌<◌}
use mathlib.Core.Path.{◌≡◌, refl, ap, ◌∙◌}
use mathlib.Core.Bool.{Bool, true, false, not, cond}
use mathlib.Core.List.{List, [], ◌∷◌, ◌++◌}
use native.Mathlib.Omega.{arith}
use borrow.Author.Tests.{ltb-false, lt-ltb, le-ltb}
use lib.Dec.{eqb, ltb}
use lib.ListN.{length, get_or}
use lib.IntN.{pos, negsuc}
use Rattle.field.specs.declared.Field.{Field}
use Rattle.field.specs.declared.Field.TheVariants.{Blank, Ill, Number}
use Rattle.line.specs.declared.Heading.{Heading}
use Rattle.line.specs.declared.Refusal.{Refusal}
use Rattle.line.specs.declared.Refusal.TheVariants.{NoPosition}
use Rattle.line.specs.Refusal.{Verdict, refused, fine, Check, unless, next}
use Rattle.line.specs.Line.{is_ill, is_blank, outside, count_of, value_of, heading_of, ill_heading}
use Rattle.line.proofs.Signs.{true-ne-false}
use Rattle.line.proofs.Checks.{or_left, or_right}
use Rattle.line.proofs.Fine.{nor9, nor10, unless-fine}
use Rattle.report.specs.declared.Row.{Row}
use Rattle.report.specs.Report.{play_in, head_in, nodes_in, size_of, table_in, bad_start, head_checks, scored, position_of}
use Rattle.report.specs.Files.{head_is}

-- ---- a list of checks

module _ {A B : Type 0} where
  -- one that refuses, with others after it
  refused-before : (cs ds : List Check) (a : A) (b : B) (r : Refusal) → unless cs a ≡ refused r → unless (cs ++ ds) b ≡ refused r
  unfolding unless
  refused-before [] ds a b r e = let z : ◌≡◌ {A = ℕ} 0 1 = cc in absurd (omega arith)
  refused-before (c ∷ cs) ds a b r e = go (refused-before cs ds a b r) c.holds e
    where
      go : (unless cs a ≡ refused r → unless (cs ++ ds) b ≡ refused r) → (t : Bool) → cond t (refused c.gives) (unless cs a) ≡ refused r
          → cond t (refused c.gives) (unless (cs ++ ds) b) ≡ refused r
      go ih true e = ap refused cc
      go ih false e = ih e

  -- one that does not
  fine_before : (cs ds : List Check) (a x : A) (b : B) → unless cs a ≡ fine x → unless (cs ++ ds) b ≡ unless ds b
  unfolding unless
  fine_before [] ds a x b e = refl
  fine_before (c ∷ cs) ds a x b e = go (fine_before cs ds a x b) c.holds e
    where
      go : (unless cs a ≡ fine x → unless (cs ++ ds) b ≡ unless ds b) → (t : Bool) → cond t (refused c.gives) (unless cs a) ≡ fine x
          → cond t (refused c.gives) (unless (cs ++ ds) b) ≡ unless ds b
      go ih true e = let z : ◌≡◌ {A = ℕ} 0 1 = cc in absurd (omega arith)
      go ih false e = ih e

-- ---- the header

module _ (last : ℕ) (g : Heading) (well : ill_heading last g ≡ false) where
  pub count-well : (is_ill g.count ≡ false) × (is_blank g.count ≡ false)
  count-well =
      let i = nor10 (not (eqb last 10)) (is_ill g.count) (is_ill g.second) (is_ill g.total) (is_ill g.lowest) (is_ill g.highest) (is_blank g.count) (is_blank g.total) (is_blank g.lowest) (is_blank g.highest) well in
      (i.1, i.6)

pub count-range : (f : Field) → is_ill f ≡ false → is_blank f ≡ false → outside (pos 1) (pos 1024) f ≡ false → (0 < count_of f) × (count_of f ≤ 1024)
count-range Blank i b o = absurd (true-ne-false b)
count-range Ill i b o = absurd (true-ne-false i)
count-range (Number (pos m)) i b o =
    (omega (arith, ltb-false m 1 (or_left (ltb m 1) (ltb 1024 m) o)), ltb-false 1024 m (or_right (ltb m 1) (ltb 1024 m) o))
count-range (Number (negsuc m)) i b o = absurd (true-ne-false o)

-- a number of nodes that is given
pub nodes-range : (s : List ℕ) (n : ℕ) → head_is s ≡ fine n → (nodes_in s ≡ n) × (0 < n) × (n ≤ 1024)
nodes-range s n e =
    let g = heading_of (head_in s) in
    let r = unless-fine (head_checks (head_in s)) (nodes_in s) n e in
    let z = count-well (get_or (head_in s) 24 0) g r.0.0 in
    let c = rw r.1 at (count-range g.count z.0 z.1 r.0.1.1.0) in
    (r.1, c.0, c.1)

-- ---- the cases

module _ (s : List ℕ) where
  -- the last check, and all after the first
  abbrev last : List Check
  last = record { holds = ltb (length s) (size_of s); gives = NoPosition } ∷ []

  abbrev later : List Check
  later = head_checks (head_in s) ++ last

  abbrev goes : Verdict (List ℕ) → Verdict Row
  goes v = next v (scored (value_of (play_in s)))

  begun : (b : Bool) → bad_start s ≡ b → position_of s ≡ goes (cond b (refused NoPosition) (unless later (table_in s)))
  unfolding position_of unless
  begun b e = ap (λ (t : Bool). goes (cond t (refused NoPosition) (unless later (table_in s)))) e

  pub start-stops : bad_start s ≡ true → position_of s ≡ refused NoPosition
  start-stops h = begun true h

  module _ (well : bad_start s ≡ false) where
    pub long-enough : 30 ≤ length s
    long-enough =
        ltb-false (length s) 30
        (nor9 false false false false false (ltb (length s) 30) (not (eqb (get_or s 4 0) 10)) (is_ill (play_in s)) (is_blank (play_in s)) well).5

    pub head-stops : (r : Refusal) → head_is s ≡ refused r → position_of s ≡ refused r
    head-stops r e = begun false well ∙ ap goes (refused-before (head_checks (head_in s)) last (nodes_in s) (table_in s) r e)

    module _ (n : ℕ) (e : head_is s ≡ fine n) where
      past_head : (b : Bool) → ltb (length s) (size_of s) ≡ b → position_of s ≡ goes (cond b (refused NoPosition) (fine (table_in s)))
      unfolding unless
      past_head b h =
          begun false well
          ∙ ap goes (fine_before (head_checks (head_in s)) last (nodes_in s) n (table_in s) e)
          ∙ ap (λ (t : Bool). goes (cond t (refused NoPosition) (fine (table_in s)))) h

      pub lines-missing : length s < size_of s → position_of s ≡ refused NoPosition
      lines-missing l = past_head true (lt-ltb (length s) (size_of s) l)

      pub lines-there : size_of s ≤ length s → position_of s ≡ scored (value_of (play_in s)) (table_in s)
      lines-there l = past_head false (le-ltb (length s) (size_of s) l)

-- what is said of each of these cases holds of every position
module _ (s : List ℕ) (P : Verdict Row → Type 0) where
  lines-cases : P (refused NoPosition) → ((n : ℕ) → head_is s ≡ fine n → size_of s ≤ length s → P (scored (value_of (play_in s)) (table_in s)))
      → bad_start s ≡ false → (n : ℕ) → head_is s ≡ fine n → (b : Bool) → ltb (length s) (size_of s) ≡ b → P (position_of s)
  lines-cases none some w n e true h = rw (past_head s w n e true h) none
  lines-cases none some w n e false h = rw (past_head s w n e false h) (some n e (ltb-false (length s) (size_of s) h))

  head-cases : P (refused NoPosition) → ((r : Refusal) → head_is s ≡ refused r → P (refused r))
      → ((n : ℕ) → head_is s ≡ fine n → size_of s ≤ length s → P (scored (value_of (play_in s)) (table_in s)))
      → bad_start s ≡ false → (v : Verdict ℕ) → head_is s ≡ v → P (position_of s)
  head-cases none head some w (refused r) e = rw (head-stops s w r e) (head r e)
  head-cases none head some w (fine n) e = lines-cases none some w n e (ltb (length s) (size_of s)) refl

  pub by_cases : P (refused NoPosition) → ((r : Refusal) → head_is s ≡ refused r → P (refused r))
      → ((n : ℕ) → head_is s ≡ fine n → size_of s ≤ length s → P (scored (value_of (play_in s)) (table_in s)))
      → P (position_of s)
  by_cases none head some = go (bad_start s) refl
    where
      go : (b : Bool) → bad_start s ≡ b → P (position_of s)
      go true e = rw (start-stops s e) none
      go false e = head-cases none head some e (head_is s) refl
