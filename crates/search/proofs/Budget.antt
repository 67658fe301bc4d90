-- A search with a budget is the search without one, as far as the budget goes, over any arithmetic. Document 02, Item 3.
use Prim.Native.Nat.{ℕ, min, ◌≤◌, ◌<◌}
use mathlib.Core.Path.{◌≡◌, refl, sym, ap, ◌∙◌}
use mathlib.Core.Bool.{Bool, true, false, not, cond}
use mathlib.Core.List.{List, [], ◌∷◌, ◌++◌, append_assoc, append-nil}
use native.Mathlib.Omega.{arith}
use borrow.Author.Tests.{lt-ltb, le-ltb}
use lib.ListN.{length, take, length-append, length-take}
use lib.Seq.{take-append-le, take_all}
use lib.Dec.{T as Holds, leb, ltb, leb→le, le→leb, nleb→lt}
use Rattle.field.proofs.Small.{choose}
use Rattle.line.proofs.Signs.{true-ne-false}
use Rattle.table.specs.Tree.{Kind, Forest, end, leaf, inner, is_end}
use Rattle.table.specs.Accepted.{Filled, Rooted}
use Rattle.search.specs.Search.{Frame, Seen, State, Arith, Rules, unlimited, limited, begin, finish, cut, point, met_spent, met, lower, upper, update, stop, scan, search, search_root}
use Rattle.search.proofs.Steps.{seen_after}

holds-true : (c : Bool) → Holds c → c ≡ true
holds-true true h = refl
holds-true false h = absurd h

module _ {A : Type 0} where
  -- ---- without a budget

  -- what was read from l on, and no node was met unread
  abbrev Grown : List ℕ → Seen A → Type 0
  Grown l r = (x : List ℕ) × (r.read ≡ l ++ x) × (r.spent ≡ false)

  grown-on : (l : List ℕ) (r q : Seen A) → Grown l r → Grown r.read q → Grown l q
  grown-on l r q g h = (g.0 ++ h.0, h.1 ∙ ap (λ (z : List ℕ). z ++ h.0) g.1 ∙ append_assoc l g.0 h.0, h.2)

  longer : (l : List ℕ) (r : Seen A) → Grown l r → length l ≤ length r.read
  longer l r g = rw (g.1, length-append) (omega arith)

  same_start : (b : ℕ) (l : List ℕ) (r : Seen A) → Grown l r → b ≤ length l → take b r.read ≡ take b l
  same_start b l r g h = rw g.1 (take-append-le b l g.0 h)

  module _ (O : Arith A) (frame : ℕ → Forest A → Frame A) (ε : ℕ) where
    abbrev P : Rules A
    P = record { frame = frame; margin = ε; full = unlimited }

    grown-after : (e : Frame A) (k : Kind) (rest : Forest A) (t : State A) → t.spent ≡ false → Grown t.read (scan O P e k rest t)
        → Grown t.read (seen_after O P e k rest t)
    unfolding cut
    grown-after e k rest t p g = choose (Grown t.read) (stop O ε rest t) (λ _. ([], sym (append-nil t.read), p)) (λ _. g)

    grown-point : (n : ℕ) (v : A) (l : List ℕ) → Grown l (point n v l)
    unfolding point
    grown-point n v l = (n ∷ [], refl, refl)

    grown-step : (e : Frame A) (k : Kind) (n w : ℕ) (rest : Forest A) (s : State A) (l : List ℕ) (r : Seen A) → Grown l r
        → ((t : State A) → t.spent ≡ false → Grown t.read (scan O P e k rest t)) → Grown l (seen_after O P e k rest (update O e k n w s r))
    unfolding update
    grown-step e k n w rest s l r g ih =
        let t : State A = update O e k n w s r in
        grown-on l r (seen_after O P e k rest t) g (grown-after e k rest t g.2 (ih t g.2))

    grown : (e : Frame A) (k : Kind) (f : Forest A) (s : State A) → s.spent ≡ false → Grown s.read (scan O P e k f s)
    unfolding scan finish begin
    grown e k end s p = ([], sym (append-nil s.read), p)
    grown e k (leaf n w v rest) s p = grown-step e k n w rest s s.read _ (grown-point n v s.read) (λ t. grown e k rest t)
    grown e k (inner n w c under rest) s p =
        let d : Frame A = frame n under in
        grown-step e k n w rest s s.read _ (grown d c under (begin d c (lower O e k w s) (upper O e k w s) s.read) refl) (λ t. grown e k rest t)

    -- a node with a child reads a leaf
    reads : (e : Frame A) (k : Kind) (f : Forest A) (s : State A) → Filled f → is_end f ≡ false → length s.read < length (scan O P e k f s).read
    unfolding scan update begin point
    reads e k end s i z = absurd (true-ne-false z)
    reads e k (leaf n w v rest) s i z =
        let t : State A = update O e k n w s (point n v s.read) in
        omega (arith, longer t.read (seen_after O P e k rest t) (grown-after e k rest t refl (grown e k rest t refl)), length-append s.read (n ∷ []))
    reads e k (inner n w c under rest) s i z =
        let d : Frame A = frame n under in
        let s2 : State A = begin d c (lower O e k w s) (upper O e k w s) s.read in
        let t : State A = update O e k n w s (scan O P d c under s2) in
        let p : t.spent ≡ false = (grown d c under s2 refl).2 in
        omega (arith, longer t.read (seen_after O P e k rest t) (grown-after e k rest t p (grown e k rest t p)), reads d c under s2 i.1 i.0)

    -- ---- with a budget of b

    module _ (b : ℕ) where
      abbrev B : Rules A
      B = record { frame = frame; margin = ε; full = limited b }

      -- once the budget is spent nothing is read
      abbrev Idle : List ℕ → Seen A → Type 0
      Idle l r = (r.read ≡ l) × (r.spent ≡ true)

      idle-after : (e : Frame A) (k : Kind) (rest : Forest A) (t : State A) → t.spent ≡ true → Idle t.read (scan O B e k rest t)
          → Idle t.read (seen_after O B e k rest t)
      unfolding cut
      idle-after e k rest t p g = choose (Idle t.read) (stop O ε rest t) (λ _. (refl, p)) (λ _. g)

      idle : (e : Frame A) (k : Kind) (f : Forest A) (s : State A) → leb b (length s.read) ≡ true → s.spent ≡ true → Idle s.read (scan O B e k f s)
      unfolding scan finish update met_spent
      idle e k end s q p = (refl, p)
      idle e k (leaf n w v rest) s q p = rw q (idle-after e k rest _ refl (idle e k rest _ q refl))
      idle e k (inner n w c under rest) s q p = rw q (idle-after e k rest _ refl (idle e k rest _ q refl))

      -- the search p without a budget and q with it: either the budget lasts, and all is the same, or it is spent, and q read the first b of p's leaves
      pub data Run (p q : Seen A) : Type 0 where
        lasts : length p.read ≤ b → q ≡ p → Run p q
        ends : b < length p.read → q.read ≡ take b p.read → q.spent ≡ true → Run p q

      run-stay : (e : Frame A) (k : Kind) (rest : Forest A) (t : State A) → length t.read ≤ b → Run (scan O P e k rest t) (scan O B e k rest t)
          → Run (seen_after O P e k rest t) (seen_after O B e k rest t)
      unfolding cut
      run-stay e k rest t h g = pick (stop O ε rest t)
        where
          pick : (c : Bool) → Run (cond c (cut e k t) (scan O P e k rest t)) (cond c (cut e k t) (scan O B e k rest t))
          pick true = lasts h refl
          pick false = g

      -- a child whose search spends the budget
      run-over : (e : Frame A) (k : Kind) (n w : ℕ) (rest : Forest A) (s : State A) (p q : Seen A) → p.spent ≡ false → b < length p.read
          → q.read ≡ take b p.read → q.spent ≡ true
          → Run (seen_after O P e k rest (update O e k n w s p)) (seen_after O B e k rest (update O e k n w s q))
      unfolding update
      run-over e k n w rest s p q o h x y =
          let t : State A = update O e k n w s p in
          let u : State A = update O e k n w s q in
          let g = grown-after e k rest t o (grown e k rest t o) in
          let z : leb b (length q.read) ≡ true = holds-true _ (rw (x, length-take) (le→leb b (min b (length p.read)) (omega arith))) in
          let d = idle-after e k rest u y (idle e k rest u z y) in
          ends (omega (arith, longer t.read (seen_after O P e k rest t) g)) (d.0 ∙ x ∙ sym (same_start b t.read (seen_after O P e k rest t) g (omega arith))) d.1

      run_step : (e : Frame A) (k : Kind) (n w : ℕ) (rest : Forest A) (s : State A) (p q : Seen A) → p.spent ≡ false → Run p q
          → ((t : State A) → t.spent ≡ false → length t.read ≤ b → Run (scan O P e k rest t) (scan O B e k rest t))
          → Run (seen_after O P e k rest (update O e k n w s p)) (seen_after O B e k rest (update O e k n w s q))
      unfolding update
      run_step e k n w rest s p q o (lasts h x) ih = rw x (run-stay e k rest (update O e k n w s p) h (ih _ o h))
      run_step e k n w rest s p q o (ends h x y) ih = run-over e k n w rest s p q o h x y

      -- a child that is met, where l is read so far and p reads more
      run-met : (e : Frame A) (l : List ℕ) (p q : Seen A) → length l ≤ b → Grown l p → length l < length p.read
          → (Holds (not (leb b (length l))) → Run p q) → Run p (met B e l q)
      unfolding met_spent
      run-met e l p q h g m r =
          choose (Run p) (leb b (length l))
          (λ z. ends (omega (arith, leb→le b (length l) z)) (sym (same_start b l p g (leb→le b (length l) z) ∙ take_all b l h)) refl)
          r

      run-point : (e : Frame A) (n : ℕ) (v : A) (l : List ℕ) → length l ≤ b → Run (point n v l) (met B e l (point n v l))
      unfolding point
      run-point e n v l h =
          let m = length-append l (n ∷ []) in
          run-met e l (point n v l) (point n v l) h (grown-point n v l) (omega arith) (λ z. lasts (omega (arith, nleb→lt b (length l) z)) refl)

      run : (e : Frame A) (k : Kind) (f : Forest A) (s : State A) → Filled f → s.spent ≡ false → length s.read ≤ b → Run (scan O P e k f s) (scan O B e k f s)
      unfolding scan finish point begin
      run e k end s i p h = lasts h refl
      run e k (leaf n w v rest) s i p h =
          run_step e k n w rest s (point n v s.read) (met B e s.read (point n v s.read)) refl (run-point e n v s.read h) (λ t o y. run e k rest t i o y)
      run e k (inner n w c under rest) s i p h =
          let d : Frame A = frame n under in
          let s2 : State A = begin d c (lower O e k w s) (upper O e k w s) s.read in
          let g = grown d c under s2 refl in
          run_step e k n w rest s (scan O P d c under s2) _ g.2
          (run-met d s.read _ _ h g (reads d c under s2 i.1 i.0) (λ _. run d c under s2 i.1 refl h)) (λ t o y. run e k rest t i.2 o y)

      -- the whole search of a root
      run-root : (f : Forest A) → Rooted f → Filled f → Run (search_root O P f) (search_root O B f)
      unfolding search_root search begin
      run-root end r i = absurd r
      run-root (leaf n w v rest) r i = run-point (frame n end) n v [] (omega arith)
      run-root (inner n w k under rest) r i =
          let e : Frame A = frame n under in
          let s : State A = begin e k e.bottom e.top [] in
          run-met e [] (scan O P e k under s) (scan O B e k under s) (omega arith) (grown e k under s refl) (reads e k under s i.1 i.0)
          (λ _. run e k under s i.1 refl (omega arith))

      run-spent : (p q : Seen A) → p.spent ≡ false → Run p q → q.spent ≡ ltb b (length p.read)
      run-spent p q z (lasts h x) = ap (λ (r : Seen A). r.spent) x ∙ z ∙ sym (le-ltb b (length p.read) h)
      run-spent p q z (ends h x y) = y ∙ sym (lt-ltb b (length p.read) h)

      run-same : (p q : Seen A) → q.spent ≡ false → Run p q → q ≡ p
      run-same p q z (lasts h x) = x
      run-same p q z (ends h x y) = absurd (true-ne-false (sym y ∙ z))

      run-first : (p q : Seen A) → Run p q → q.read ≡ take b p.read
      run-first p q (lasts h x) = ap (λ (r : Seen A). r.read) x ∙ sym (take_all b p.read h)
      run-first p q (ends h x y) = x

    -- the search without a budget meets no node unread
    pub never-spent : (f : Forest A) → (search_root O P f).spent ≡ false
    unfolding search_root search begin point
    never-spent end = refl
    never-spent (leaf n w v rest) = refl
    never-spent (inner n w k under rest) = let e : Frame A = frame n under in (grown e k under (begin e k e.bottom e.top []) refl).2

    module _ (b : ℕ) (f : Forest A) (r : Rooted f) (i : Filled f) where
      -- spent exactly where the search without a budget reads more
      pub spent-where : (search_root O (B b) f).spent ≡ ltb b (length (search_root O P f).read)
      spent-where = run-spent b (search_root O P f) (search_root O (B b) f) (never-spent f) (run-root b f r i)

      -- not spent: the same answer
      pub unspent-same : (search_root O (B b) f).spent ≡ false → search_root O (B b) f ≡ search_root O P f
      unspent-same z = run-same b (search_root O P f) (search_root O (B b) f) z (run-root b f r i)

      -- as where no more leaves are read
      pub enough : length (search_root O P f).read ≤ b → search_root O (B b) f ≡ search_root O P f
      enough h = unspent-same (spent-where ∙ le-ltb b (length (search_root O P f).read) h)

      -- spent or not: the first b leaves
      pub first_reads : (search_root O (B b) f).read ≡ take b (search_root O P f).read
      first_reads = run-first b (search_root O P f) (search_root O (B b) f) (run-root b f r i)
