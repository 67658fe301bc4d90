-- The search with sums looks at frames at the tree's own inner nodes alone; so what the code reads of them from two slices is what they are.
use Prim.Native.Nat.{ℕ, ◌*◌}
use mathlib.Core.Path.{◌≡◌, refl, sym, ap, ◌∙◌}
use mathlib.Core.Bool.{Bool, cond}
use mathlib.Core.List.{List, []}
use Rattle.table.specs.Tree.{Kind, Forest, end, leaf, inner}
use Rattle.table.specs.Accepted.{Rooted}
use Rattle.search.specs.Search as alg
use Rattle.search.specs.Search.{Frame, Seen, Arith, Rules, limited, begin, point, met, update, stop, cut}
use Rattle.search.specs.Sums.{SumArith, on_sums, scaled, keep, leave, enter_sums, scan_sums, search_sums, root_sums}
use Rattle.search.specs.Inside.{natural, height_sums, grained}
use Rattle.search.proofs.Steps.{sums_after}
use Rattle.steps.specs.Inside.{leaf_seen}
use Rattle.steps.specs.declared.Ends.{Ends}
use Rattle.searching.specs.Inside.{Way, rules_of, root_seen}

module _ {A : Type 0} (P : SumArith A) (O : Arith A) (fr fr2 : ℕ → Forest A → Frame A) (ε : ℕ) (full : List ℕ → Bool) where
  abbrev R : Rules A
  R = record { frame = fr; margin = ε; full = full }

  abbrev R2 : Rules A
  R2 = record { frame = fr2; margin = ε; full = full }

  -- the same frame at every inner node
  abbrev pub SameAt : Forest A → Type 0
  SameAt end = Unit {0}
  SameAt (leaf n w v rest) = SameAt rest
  SameAt (inner n w k under rest) = (fr n under ≡ fr2 n under) × SameAt under × SameAt rest

  after_same : (e : Frame A) (k : Kind) (rest : Forest A) (t : alg.State A) → scan_sums P O R e k rest t ≡ scan_sums P O R2 e k rest t
      → sums_after P O R e k rest t ≡ sums_after P O R2 e k rest t
  after_same e k rest t q = ap (λ (x : Seen A). cond (stop O (scaled e k ε) rest t) (leave P e k (cut e k t)) x) q

  scan-same : (e : Frame A) (k : Kind) (f : Forest A) (s : alg.State A) → SameAt f → scan_sums P O R e k f s ≡ scan_sums P O R2 e k f s
  unfolding scan_sums
  scan-same e k end s h = refl
  scan-same e k (leaf n w v rest) s h = after_same e k rest _ (scan-same e k rest _ h)
  scan-same e k (inner n w c under rest) s h =
      let d : Frame A = fr n under in
      let child : Frame A → Seen A = λ d. met R d s.read (scan_sums P O R2 d c under (enter_sums P O e k w d c s)) in
      let step : Seen A → alg.State A = λ r. update (on_sums O P) e k n w s r in
      ap (λ (r : Seen A). sums_after P O R e k rest (step (met R d s.read r))) (scan-same d c under (enter_sums P O e k w d c s) h.1)
      ∙ ap (λ (d : Frame A). sums_after P O R e k rest (step (child d))) h.0
      ∙ after_same e k rest _ (scan-same e k rest _ h.2)

-- the search of a tree by its slices, where a lone leaf gives the same
pub root-same : (g : Way) (v : Ends) (left : ℕ) (F : Forest ℕ) (fr : ℕ → Forest ℕ → Frame ℕ) → Rooted F
    → SameAt height_sums natural (rules_of g left).frame fr g.rule.margin (limited left) (grained g.rule.grain F)
    → let R2 : Rules ℕ = record { frame = fr; margin = g.rule.margin; full = limited left } in
    ((n h : ℕ) → leaf_seen v left n h ≡ met R2 (fr n end) [] (point n h []))
    → root_seen g v left F ≡ root_sums height_sums natural R2 (grained g.rule.grain F)
unfolding root_sums search_sums grained
root-same g v left end fr r h lone = absurd r
root-same g v left (leaf n w x rest) fr r h lone = lone n (x * g.rule.grain)
root-same g v left (inner n w k under rest) fr r h lone =
    let f : Forest ℕ = grained g.rule.grain under in
    let R1 : Rules ℕ = rules_of g left in
    let R2 : Rules ℕ = record { frame = fr; margin = g.rule.margin; full = limited left } in
    let first : Frame ℕ → alg.State ℕ = λ e. keep height_sums e k (begin e k e.bottom e.top []) in
    ap (λ (i : ℕ). met R1 (R1.frame n f) [] (scan_sums height_sums natural R1 (R1.frame n f) k f (keep height_sums (R1.frame n f) k (begin (R1.frame n f) k (R1.frame i f).bottom (R1.frame i f).top [])))) (sym r.0)
    ∙ ap (λ (x : Seen ℕ). met R1 (R1.frame n f) [] x) (scan-same height_sums natural R1.frame fr g.rule.margin (limited left) (R1.frame n f) k f (first (R1.frame n f)) h.1)
    ∙ ap (λ (e : Frame ℕ). met R2 e [] (scan_sums height_sums natural R2 e k f (first e))) h.0
