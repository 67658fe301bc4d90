-- "Leaves take the next state .., in line order".
use Prim.Native.Nat.{ℕ, zero, suc, ◌+◌, ◌*◌, ◌^◌}
use mathlib.Core.Path.{◌≡◌, refl, sym, ap, ap₂, ◌∙◌}
use mathlib.Core.Bool.{Bool, true, false, cond}
use mathlib.Core.List.{List, [], ◌∷◌, ◌++◌}
use native.Mathlib.Omega.{arith}
use native.Mathlib.Nat.{zero-mul, suc-mul, suc-add, zero-add, add_comm, one-mul, pow-zero, pow-succ'}
use lib.IntN.{ℤ, pos}
use Rattle.line.specs.declared.Line.{Line}
use Rattle.table.specs.Accepted.{flat, one}
use Rattle.table.proofs.Runs.{code-inner}
use Rattle.line.specs.Line.{is_leaf}
use Rattle.recipe.specs.Recipe.{next_state, later, points, levels, chance_at, kind_at, nodes, row, recipe_table, worths, leaf_worths}

worths-add : (m n s : ℕ) → worths (m + n) s ≡ worths m s ++ worths n (later m s)
unfolding worths later
worths-add zero n s = rw (zero-add n)
worths-add (suc m) n s = rw (suc-add m n) (ap (λ (x : List ℤ). pos (points (next_state s)) ∷ x) (worths-add m n (next_state s)))

leaves-append : (a b : List Line) → leaf_worths (a ++ b) ≡ leaf_worths a ++ leaf_worths b
unfolding leaf_worths
leaves-append [] b = refl
leaves-append (l ∷ a) b = go (is_leaf l.kind) (leaves-append a b)
  where
    go : (t : Bool) → leaf_worths (a ++ b) ≡ leaf_worths a ++ leaf_worths b
        → cond t (l.utility ∷ leaf_worths (a ++ b)) (leaf_worths (a ++ b)) ≡ cond t (l.utility ∷ leaf_worths a) (leaf_worths a) ++ leaf_worths b
    go true e = ap (λ (x : List ℤ). l.utility ∷ x) e
    go false e = e

module _ (b : ℕ) (dice : Bool) where
  row-worths : (r l : ℕ) (u : Bool) (p m c i s parent n : ℕ) → leaf_worths (flat parent n (row b dice r l u p m c i s)) ≡ worths (m * b ^ r) s
  unfolding row flat leaf_worths worths
  row-worths zero l u p zero c i s parent n = rw (zero-mul (b ^ 0))
  row-worths (suc r) l u p zero c i s parent n = rw (zero-mul (b ^ suc r))
  row-worths zero l u p (suc m) c i s parent n =
      let e : suc m * b ^ 0 ≡ suc (m * b ^ 0) = suc-mul m (b ^ 0) ∙ omega (arith, pow-zero b) in
      rw e (ap (λ (x : List ℤ). pos (points (next_state s)) ∷ x) (row-worths zero l u p m (suc c) (suc i) (next_state s) parent n))
  row-worths (suc r) l u p (suc m) c i s parent n =
      let k = kind_at dice l in
      let U = flat i (n + one k) (row b dice r (suc l) (chance_at dice l) c b 1 (suc i) s) in
      let T = flat parent n (row b dice (suc r) l u p m (suc c) (i + nodes b (suc r)) (later (b ^ suc r) s)) in
      let e : suc m * b ^ suc r ≡ b ^ suc r + m * b ^ suc r = suc-mul m (b ^ suc r) ∙ add_comm (m * b ^ suc r) (b ^ suc r) in
      rw (code-inner k, e)
      (leaves-append U T
      ∙ ap₂ ◌++◌ (row-worths r (suc l) (chance_at dice l) c b 1 (suc i) s i (n + one k) ∙ ap (λ (x : ℕ). worths x s) (sym (pow-succ' b r)))
      (row-worths (suc r) l u p m (suc c) (i + nodes b (suc r)) (later (b ^ suc r) s) parent n)
      ∙ sym (worths-add (b ^ suc r) (m * b ^ suc r) s))

  pub leaves-in-order : (seed depth : ℕ) → leaf_worths (recipe_table b dice seed depth).lines ≡ worths (b ^ levels dice depth) seed
  leaves-in-order seed depth = row-worths (levels dice depth) 0 false 0 1 1 0 seed 0 0 ∙ ap (λ (x : ℕ). worths x seed) (one-mul (b ^ levels dice depth))
