-- What `decode` asks of the crates above and promises them, and what the contracts below it cite. No promise of `reading::read` names these.
use Rattle.std.specs.Prelude.{ℕ, ◌+◌, cond, List, ◌≡◌, ltb, Err, None, Ok, Option, Result, Some}
use Rattle.line.specs.declared.Head.{Head}
use Rattle.line.specs.declared.Refusal.{Refusal}
use Rattle.line.specs.declared.Refusal.TheVariants.{Childless, WrongSum, TooManyGrains}
use Rattle.line.specs.Refusal.{Verdict, refused, fine}
use Rattle.line.specs.Inside.{other}
use Rattle.table.specs.declared.Summary.{Summary}
use Rattle.table.specs.Tree.{Forest}
use Rattle.table.specs.Inside.{Spans, deepest}
use Rattle.table.specs.Accepted.{Balanced}
use Rattle.table.specs.Slices.{laid, kinds_of, stops_of, weights_of, heights_of}
use Rattle.table.specs.Table.{Table, summary}
use Rattle.runs.specs.Inside.{first_where, bare_at, odd_at}

-- the nodes that the first n entries hold; `most` is the greatest number of C on a path down through them
pub record Counted (kinds stops weights : List ℕ) (n most : ℕ) : Type 0 where
  pub heights : List ℕ
  pub forest : Forest ℕ
  pub spans : Spans (record { kinds = kinds; stops = stops; weights = weights; heights = heights }) 0 n forest
  pub deep : most ≡ deepest forest

-- and each C's weights sum to one of these
pub record Summed (kinds stops weights : List ℕ) (n most : ℕ) (ts : List ℕ) : Type 0 where
  pub counted : Counted kinds stops weights n most
  pub balanced : Balanced ts counted.forest

abbrev pub summary_of : (n : ℕ) → Head → (most leaves G : ℕ) → Summary
summary_of n h most leaves G =
    record {
      nodes = n;
      total = h.total;
      lowest = h.lowest;
      highest = h.highest;
      chances = most;
      grain = G;
      leaves = leaves;
      second = h.second;
    }

-- a refusal for the node that was found
abbrev pub refuse_at : (ℕ → Refusal) → Option ℕ → Result Summary Refusal → Result Summary Refusal
refuse_at gives None else = else
refuse_at gives (Some i) else = Err (gives (i + 1))

-- 8, 9, 18, or accepted, where G is the grain count
abbrev pub complete_at : List ℕ → List ℕ → List ℕ → (n : ℕ) → Head → (most leaves G : ℕ) → Result Summary Refusal
complete_at kinds stops weights n h most leaves G =
    refuse_at Childless (first_where (bare_at kinds stops) n)
    (refuse_at WrongSum (first_where (odd_at kinds stops weights h.total (other h)) n)
    (cond (ltb 16777216 G) (Err TooManyGrains) (Ok (summary_of n h most leaves G))))

-- the table v, decoded into slices: k, s, w and g as they came, then as they are
abbrev pub Decoded : Verdict Table → Result Summary Refusal → List ℕ → List ℕ → List ℕ → List ℕ → List ℕ → List ℕ → List ℕ → List ℕ → Type 0
Decoded (refused r) out k s w g k' s' w' g' = out ≡ Err r
Decoded (fine t) out k s w g k' s' w' g' =
    (out ≡ Ok (summary t))
    × (k' ≡ laid (kinds_of t) k)
    × (s' ≡ laid (stops_of t) s)
    × (w' ≡ laid (weights_of t) w)
    × (g' ≡ laid (heights_of t) g)
