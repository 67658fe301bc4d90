-- The decoded table: number slices, one entry for each node, by node number. Document 01, 'The table on paper'.
use Rattle.std.specs.Prelude.{ℕ, ◌+◌, cond, List, [], ◌∷◌, ◌++◌, map, length, take, drop, ℤ, ◌-ℤ◌}
use Rattle.line.specs.declared.Line.{Line}
use Rattle.line.specs.Refusal.{Verdict, refused, fine}
use Rattle.line.specs.Line.{to_nat, code, is_leaf}
use Rattle.table.specs.Tree.{run}
use Rattle.table.specs.Table.{Table}

-- how many points a leaf stands above the lowest end
abbrev pub height_of : ℤ → Line → ℕ
height_of lowest l = cond (is_leaf l.kind) (to_nat (l.utility -ℤ lowest)) 0

abbrev pub kinds_of : Table → List ℕ
kinds_of t = map (λ (l : Line). code l.kind) t.lines

abbrev pub weights_of : Table → List ℕ
weights_of t = map (λ (l : Line). l.weight) t.lines

abbrev pub heights_of : Table → List ℕ
heights_of t = map (height_of t.head.lowest) t.lines

-- one past the last line of each line's run
unfoldable pub line_stops : List Line → List ℕ
line_stops [] = []
line_stops (l ∷ ls) = (l.node + 1 + length (run l.node ls)) ∷ line_stops ls

abbrev pub stops_of : Table → List ℕ
stops_of t = line_stops t.lines

module _ {A : Type 0} where
  -- a slice a with the entries xs, for which it has room, at its front
  abbrev pub laid : List A → List A → List A
  laid xs a = xs ++ drop (length xs) a

  -- the same with as many of xs as a has room for
  abbrev pub fitted : List A → List A → List A
  fitted xs a = laid (take (length a) xs) a

-- the numbers of an accepted table; of a refused one none, so that nothing is written
abbrev pub decoded : (Table → List ℕ) → Verdict Table → List ℕ
decoded f (refused r) = []
decoded f (fine t) = f t
