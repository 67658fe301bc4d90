-- Leaves listed once, in the sequence in which they are first read. Document 02, Item 12: "No leaf is listed twice".
use Rattle.std.specs.Prelude.{ℕ, cond, List, [], ◌∷◌, ◌++◌}
use Rattle.line.specs.Line.{among}

-- the list with one leaf more, if it was "not listed yet"
unfoldable pub add_leaf : (listed : List ℕ) (n : ℕ) → List ℕ
add_leaf listed n = cond (among n listed) listed (listed ++ (n ∷ []))

-- "adds each leaf not listed yet in reading sequence": of the leaves read, after those listed before
unfoldable pub add_new : (listed read : List ℕ) → List ℕ
add_new listed [] = listed
add_new listed (n ∷ read) = add_new (add_leaf listed n) read
