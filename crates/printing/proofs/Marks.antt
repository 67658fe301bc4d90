-- Counting the lines of root children.
use Rattle.std.proofs.Common.{ℕ, zero, suc, ◌≡◌, ◌+◌, ◌*◌, ◌/◌, ◌-◌, ◌≤◌, ◌<◌, Bool, List, [], ◌∷◌, ◌++◌, length, get_or, take, drop, refl, sym, ap, ap₂, subst, ◌∙◌, arith, add-one, filter}
use Rattle.std.proofs.Math.Dec.{eqb}
use Rattle.std.specs.Slice.Iter.{chunks_exact_rest, chunks_exact_size, chunks_exact_steps}
use Rattle.std.specs.declared.slice.ChunksExact.{ChunksExact}
use Rattle.std.proofs.lemmas.Iterator.{YieldsList}
use Rattle.std.proofs.lemmas.Iterator.Splits.{YieldsList-from_shown_while}
use Rattle.std.proofs.lemmas.List.{take_at, drop_at, take_all, drop-drop, take-take, length-append, length-drop, length-take-le}
use Rattle.std.proofs.lemmas.Slice.{between_is}
use Rattle.std.proofs.lemmas.List.Filters.{length-filter_more}
use Rattle.field.specs.Field.{field_of}
use Rattle.field.proofs.Small.{one-or-none}
use Rattle.line.specs.Line.{count_of}
use Rattle.printing.specs.Inside.{child_mark, child_marks}

-- whether a line is that of a root child
abbrev pub is_child : List ℕ → Bool
is_child s = eqb (count_of (field_of s 6 5)) 0

-- the first n lines of a text
unfoldable pub lines_of : ℕ → List ℕ → List (List ℕ)
lines_of zero s = []
lines_of (suc n) s = take 25 s ∷ lines_of n (drop 25 s)

length-lines : (n : ℕ) (s : List ℕ) → length (lines_of n s) ≡ n
unfolding lines_of
length-lines zero s = refl
length-lines (suc n) s = ap suc (length-lines n (drop 25 s))

line-at : (n i : ℕ) (s d : List ℕ) → i < n → get_or (lines_of n s) i d ≡ take 25 (drop (25 * i) s)
unfolding lines_of
line-at zero i s d h = absurd (omega arith)
line-at (suc n) zero s d h = refl
line-at (suc n) (suc i) s d h =
    let e : 25 + 25 * i ≡ 25 * suc i = omega arith in
    line-at n i (drop 25 s) d (omega arith) ∙ ap (take 25) (drop-drop (25 * i) 25 s ∙ ap (λ (k : ℕ). drop k s) e)

-- ---- the lines that a chain over them gives

lines-more : (x t : List ℕ) → length x ≡ 25 → lines_of (length (x ++ t) / 25) (x ++ t) ≡ x ∷ lines_of (length t / 25) t
unfolding lines_of
lines-more x t h =
    let e : length (x ++ t) / 25 ≡ suc (length t / 25) = omega (arith, length-append x t) in
    rw (e, take_at x t 25 h, drop_at x t 25 h) refl

lines-none : (s : List ℕ) → length s < 25 → length (lines_of (length s / 25) s) ≡ 0
lines-none s h = length-lines (length s / 25) s ∙ omega arith

abbrev left : ChunksExact ℕ → List (List ℕ)
left c = lines_of (length (chunks_exact_rest c) / 25) (chunks_exact_rest c)

lines-road : {c : ChunksExact ℕ} (n : ℕ) (s : List ℕ) → chunks_exact_size c ≡ 25 → chunks_exact_rest c ≡ s → length s ≡ 25 * n
    → YieldsList chunks_exact_steps (λ x. x.now) c (lines_of n s)
lines-road {c} n s size rest long =
    let road : YieldsList chunks_exact_steps (λ x. x.now) c (left c) =
    YieldsList-from_shown_while chunks_exact_steps (λ x. x.now) left (λ (d : ChunksExact ℕ). chunks_exact_size d ≡ 25)
    (λ a b P h. lines-none (chunks_exact_rest a) (omega (arith, P, h.1.0)))
    (λ a x b P h. (h.0 ∙ P, ap (λ (l : List ℕ). lines_of (length l / 25) l) h.1.0 ∙ lines-more x.now (chunks_exact_rest b) (h.1.1 ∙ P)))
    c size in
    let e : length s / 25 ≡ n = omega (arith, long) in
    subst (λ (l : List (List ℕ)). YieldsList chunks_exact_steps (λ x. x.now) c l) (ap (λ (l : List ℕ). lines_of (length l / 25) l) rest ∙ ap (λ (k : ℕ). lines_of k s) e) road

-- the same of a longer text
lines-front : (n m : ℕ) (s : List ℕ) → m ≡ 25 * n → lines_of n (take m s) ≡ lines_of n s
unfolding lines_of
lines-front zero m s e = refl
lines-front (suc n) m s e =
    let more : 25 ≤ m = omega (arith, e) in
    rw (take-take 25 m s more, ← between_is s 25 m, lines-front n (m - 25) (drop 25 s) (omega (arith, e))) refl

-- those of the nodes up to n
pub node-road : {c : ChunksExact ℕ} (n m : ℕ) (s : List ℕ) → chunks_exact_size c ≡ 25 → chunks_exact_rest c ≡ take m (drop 25 s) → m ≡ 25 * n → 25 * n + 25 ≤ length s
    → YieldsList chunks_exact_steps (λ x. x.now) c (lines_of n (drop 25 s))
node-road {c} n m s size rest e room =
    subst (λ (l : List (List ℕ)). YieldsList chunks_exact_steps (λ x. x.now) c l) (lines-front n m (drop 25 s) e)
    (lines-road n (take m (drop 25 s)) size rest (length-take-le m (drop 25 s) (omega (arith, e, length-drop 25 s)) ∙ e))

-- ---- how many of them are root children's

count-marks : (s : List ℕ) (n i : ℕ) → i ≤ n → length (filter is_child (take i (lines_of n (drop 25 s)))) ≡ child_marks s i
unfolding child_marks
count-marks s n zero h = refl
count-marks s n (suc i) h =
    let ls : List (List ℕ) = lines_of n (drop 25 s) in
    let e : 25 + 25 * i ≡ 25 * suc i = omega arith in
    let at : get_or ls i [] ≡ take 25 (drop (25 * suc i) s) = line-at n i (drop 25 s) [] h ∙ ap (take 25) (drop-drop (25 * i) 25 s ∙ ap (λ (k : ℕ). drop k s) e) in
    ap (λ (k : ℕ). length (filter is_child (take k ls))) (sym (add-one i))
    ∙ length-filter_more is_child ls i [] (omega (arith, length-lines n (drop 25 s)))
    ∙ ap₂ (λ (x y : ℕ). x + y) (count-marks s n i (omega arith)) (ap child_mark at)

pub marks-counted : (s : List ℕ) (n : ℕ) → length (filter is_child (lines_of n (drop 25 s))) ≡ child_marks s n
marks-counted s n =
    let all = take_all n (lines_of n (drop 25 s)) (omega (arith, length-lines n (drop 25 s))) in
    ap (λ (l : List (List ℕ)). length (filter is_child l)) (sym all) ∙ count-marks s n n (omega arith)

pub marks-few : (s : List ℕ) (n : ℕ) → child_marks s n ≤ n
unfolding child_marks
marks-few s zero = omega arith
marks-few s (suc n) = omega (arith, marks-few s n, one-or-none (eqb (count_of (field_of (take 25 (drop (25 * suc n) s)) 6 5)) 0))
