-- The search of a whole table: what the calls at the root ask, and what they give.
use Prim.Native.Nat.{ℕ, suc, ◌-◌, ◌≤◌, ◌<◌}
use mathlib.Core.Path.{◌≡◌, refl, sym, ap, subst, ◌∙◌}
use mathlib.Core.List.{List, [], ◌∷◌}
use native.Mathlib.Nat.{le_refl, le_trans}
use native.Mathlib.Omega.{arith}
use lib.ListN.{length, get_or, set}
use Rattle.table.specs.Tree.{MAX, Forest, end, leaf, inner}
use Rattle.std.proofs.lemmas.List.{length-map}
use Rattle.table.specs.Inside.{Slices, Spans}
use Rattle.table.specs.declared.Node.{Node}
use Rattle.table.specs.Nodes.{slices_in}
use Rattle.table.specs.Slices.{laid}
use Rattle.table.proofs.Nodes.{code-pos, root-stop, root-some}
use Rattle.search.specs.Search.{Seen}
use Rattle.steps.specs.declared.Ends.{Ends}
use Rattle.steps.specs.declared.Window.{Window}
use Rattle.steps.specs.declared.Found.{Found}
use Rattle.steps.specs.Inside.{put_from, Gives, limit}
use Rattle.searching.specs.Inside.{Way, node_seen, ReadyRoot, root_seen, Shows, Searched}
use Rattle.searching.proofs.Rules.{NodeTold, ReadyNode, ready-nested}

-- ---- a list written from its front

put-later : (y : ℕ) (l : List ℕ) (k : ℕ) (xs : List ℕ) → put_from (y ∷ l) (suc k) xs ≡ y ∷ put_from l k xs
unfolding put_from
put-later y l k [] = refl
put-later y l k (x ∷ xs) = put-later y (set l k x) (suc k) xs

put-laid : (l xs : List ℕ) → length xs ≤ length l → put_from l 0 xs ≡ laid xs l
unfolding put_from
put-laid l [] h = refl
put-laid [] (x ∷ xs) h = absurd (omega arith)
put-laid (y ∷ l) (x ∷ xs) h = put-later x l 0 xs ∙ ap (λ (z : List ℕ). x ∷ z) (put-laid l xs (omega arith))

-- ---- the root

-- line 6: its window is between its ends, which were read as u
abbrev pub root_window : Ends → Window
root_window u = record { alpha = u.bottom; beta = u.top }

module _ {t : Slices} {g : Way} {v : Ends} {n : ℕ} (R : ReadyRoot t g v n) where
  root-at : (w : Window) → w.alpha ≤ limit → w.beta ≤ limit → (room : ℕ) → ReadyNode t g v w 0 n room room
  root-at w p q room =
      record {
        nodes = R.nodes;
        parent = MAX;
        upto = n;
        spans = R.spans;
        some = root-some t n R.nodes R.spans R.rooted;
        fit = R.fit;
        stop = root-stop t n R.nodes R.spans R.rooted;
        ends = R.ends;
        rule = R.rule;
        alpha = p;
        beta = q;
        holds = R.holds;
        within = le_refl room;
      }

  -- before its ends are read, where the window does not matter
  pub root-first : (room : ℕ) → ReadyNode t g v (record { alpha = 0; beta = 0 }) 0 n room room
  root-first room = root-at (record { alpha = 0; beta = 0 }) (omega arith) (omega arith) room

  pub root-ready : (room : ℕ) → (get_or t.kinds 0 0 ≡ 0 → ⊥) → {u : Ends} → u ≡ g.own 0 → ReadyNode t g v (root_window u) 0 n room room
  root-ready room ne {u} is =
      let own = ready-nested (root-first room) ne in
      let h : u.top ≤ limit = subst (λ (v : Ends). v.top ≤ limit) (sym is) (le_trans own.top R.ends.top) in
      let b : u.bottom ≤ limit = le_trans (subst (λ (v : Ends). v.bottom ≤ v.top) (sym is) own.order) h in
      root-at (root_window u) b h room

pub root-long : (ns : List Node) {g : Way} {v : Ends} {n : ℕ} → ReadyRoot (slices_in ns) g v n → 0 < length ns
root-long ns {g} {v} {n} R =
    omega (arith, root-some (slices_in ns) n R.nodes R.spans R.rooted, R.holds.heights, length-map ns (λ (n : Node). n.height))

shown : (r : Found) (a : Seen ℕ) (came now : List ℕ) → Gives (length came) r a came now → Shows r a came now
shown r a came now G =
    let front : length came - length came ≡ 0 = omega arith in
    record {
      low = G.low;
      high = G.high;
      play = G.play;
      reads = G.reads;
      spent = G.spent;
      leaves = G.leaves ∙ ap (λ (n : ℕ). put_from came n a.read) front ∙ put-laid came a.read (omega (arith, G.reads));
    }

-- a lone leaf needs no window
leaf-window : (g : Way) (v : Ends) (left : ℕ) (t : Slices) (n : ℕ) (F : Forest ℕ) (w y : Window) → Spans t 0 n F → 0 < n → get_or t.kinds 0 0 ≡ 0
    → node_seen g v left F w ≡ node_seen g v left F y
unfolding Spans
leaf-window g v left t n end w y is lt z = absurd (omega arith)
leaf-window g v left t n (leaf i x h rest) w y is lt z = refl
leaf-window g v left t n (inner i x j under rest) w y is lt z = absurd (omega (arith, code-pos j, is.1))

module _ {t : Slices} {g : Way} {v : Ends} {n : ℕ} {r : Found} {came now : List ℕ} where
  -- what is told of the root is the search of the table
  pub root-searched : {u : Ends} → u ≡ g.own 0 → NodeTold t g v (root_window u) 0 (length came) r came now → Searched t g v n r came now
  root-searched {u} is T R =
      let F = R.nodes in
      shown r (root_seen g v (length came) F) came now
      (subst (λ (u : Ends). Gives (length came) r (node_seen g v (length came) F (root_window u)) came now) is
      (T.tells F n R.spans (root-some t n F R.spans R.rooted)))

  pub leaf-searched : get_or t.kinds 0 0 ≡ 0 → NodeTold t g v (record { alpha = 0; beta = 0 }) 0 (length came) r came now → Searched t g v n r came now
  leaf-searched z T R =
      let F = R.nodes in
      let some : 0 < n = root-some t n F R.spans R.rooted in
      shown r (root_seen g v (length came) F) came now
      (subst (λ (a : Seen ℕ). Gives (length came) r a came now)
      (leaf-window g v (length came) t n F (record { alpha = 0; beta = 0 }) (root_window (g.own 0)) R.spans some z) (T.tells F n R.spans some))
