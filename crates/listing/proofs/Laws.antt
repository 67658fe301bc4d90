-- A list that leaves are added to once: what it has, that none stands twice, and the marks beside it.
use Prim.Native.Nat.{ℕ, ◌≤◌, ◌<◌}
use mathlib.Core.Path.{◌≡◌, refl, sym, ap, subst, ◌∙◌}
use mathlib.Core.Bool.{Bool, true, false, ◌||◌}
use mathlib.Core.List.Memᴰ
use mathlib.Core.List.{List, [], ◌∷◌, ◌++◌, append_assoc, append-nil, Memᴰ}
use mathlib.Core.Logic.{◌⊎◌, inl, inr, ⊎_elim}
use native.Mathlib.Omega.{arith}
use borrow.Author.Tests.{eqb-true, eqb-false}
use lib.Dec.{eqb}
use lib.ListN.{length, get_or, set, length-append, length-set}
use lib.Seq.{get_or-set_same, get_or-set_other}
use Rattle.line.specs.Line.{among}
use Rattle.line.proofs.Signs.{true-ne-false}
use Rattle.table.specs.Leaves.{Lacks, Distinct}
use Rattle.table.proofs.Leaves.{lacks-not}
use Rattle.listing.specs.Listing.{add_leaf, add_new}
use Rattle.listing.specs.Inside.{Marked}

-- ---- the test

pub among_in : (n : ℕ) (l : List ℕ) → among n l ≡ true → Memᴰ n l
unfolding among
among_in n [] e = absurd (true-ne-false (sym e))
among_in n (a ∷ l) e = go (among_in n l) (eqb n a) refl e
  where
    go : (among n l ≡ true → Memᴰ n l) → (b : Bool) → eqb n a ≡ b → (b || among n l) ≡ true → Memᴰ n (a ∷ l)
    go ih true q e = Memᴰ.head (eqb-true n a q)
    go ih false q e = Memᴰ.tail (ih e)

pub among-lacks : (n : ℕ) (l : List ℕ) → among n l ≡ false → Lacks n l
unfolding among
among-lacks n [] e = tt
among-lacks n (a ∷ l) e = go (among-lacks n l) (eqb n a) refl e
  where
    go : (among n l ≡ false → Lacks n l) → (b : Bool) → eqb n a ≡ b → (b || among n l) ≡ false → Lacks n (a ∷ l)
    go ih true q e = absurd (true-ne-false e)
    go ih false q e = (eqb-false n a q, ih e)

among-last : (j n : ℕ) (l : List ℕ) → among j (l ++ (n ∷ [])) ≡ (eqb j n || among j l)
unfolding among
among-last j n [] = refl
among-last j n (a ∷ l) = ap (λ (b : Bool). eqb j a || b) (among-last j n l) ∙ swap (eqb j a) (eqb j n)
  where
    swap : (b d : Bool) → (b || (d || among j l)) ≡ (d || (b || among j l))
    swap true true = refl
    swap true false = refl
    swap false d = refl

-- ---- one leaf

-- a property of the list with one leaf more, by whether it was listed
leaf-is : (P : List ℕ → Type 0) (l : List ℕ) (n : ℕ) → (among n l ≡ true → P l) → (among n l ≡ false → P (l ++ (n ∷ []))) → P (add_leaf l n)
unfolding add_leaf
leaf-is P l n f g = go (among n l) refl
  where
    go : (b : Bool) → among n l ≡ b → P (add_leaf l n)
    go true e = rw e (f e)
    go false e = rw e (g e)

pub leaf-listed : (l : List ℕ) (n : ℕ) → among n l ≡ true → add_leaf l n ≡ l
unfolding add_leaf
leaf-listed l n e = rw e

pub leaf-new : (l : List ℕ) (n : ℕ) → among n l ≡ false → add_leaf l n ≡ l ++ (n ∷ [])
unfolding add_leaf
leaf-new l n e = rw e

leaf-longer : (l : List ℕ) (n : ℕ) → length l ≤ length (add_leaf l n)
leaf-longer l n = leaf-is (λ (m : List ℕ). length l ≤ length m) l n (λ _. omega arith) (λ _. omega (arith, length-append l (n ∷ [])))

leaf-keep : (l : List ℕ) (n x : ℕ) → Memᴰ x l → Memᴰ x (add_leaf l n)
leaf-keep l n x i = leaf-is (Memᴰ x) l n (λ _. i) (λ _. Memᴰ.append_left (n ∷ []) i)

leaf-self : (l : List ℕ) (n : ℕ) → Memᴰ n (add_leaf l n)
leaf-self l n = leaf-is (Memᴰ n) l n (among_in n l) (λ _. Memᴰ.append_right l (Memᴰ.head refl))

leaf-only : (l : List ℕ) (n x : ℕ) → Memᴰ x (add_leaf l n) → Memᴰ x l ⊎ (x ≡ n)
leaf-only l n x =
    leaf-is (λ (m : List ℕ). Memᴰ x m → Memᴰ x l ⊎ (x ≡ n)) l n (λ _ i. inl i)
    (λ _ i. ⊎_elim (λ a. inl a) (λ a. inr (Memᴰ.eq_of_singleton a)) (Memᴰ.append_cases l i))

lacks-last : (m n : ℕ) (l : List ℕ) → Lacks m l → (m ≡ n → ⊥) → Lacks m (l ++ (n ∷ []))
lacks-last m n [] h d = (d, tt)
lacks-last m n (a ∷ l) h d = (h.0, lacks-last m n l h.1 d)

distinct-last : (n : ℕ) (l : List ℕ) → Distinct l → Lacks n l → Distinct (l ++ (n ∷ []))
distinct-last n [] d h = (tt, tt)
distinct-last n (a ∷ l) d h = (lacks-last a n l d.0 (λ q. h.0 (sym q)), distinct-last n l d.1 h.1)

leaf-distinct : (l : List ℕ) (n : ℕ) → Distinct l → Distinct (add_leaf l n)
leaf-distinct l n d = leaf-is Distinct l n (λ _. d) (λ e. distinct-last n l d (among-lacks n l e))

-- ---- the leaves of a reading sequence

pub new-longer : (l r : List ℕ) → length l ≤ length (add_new l r)
unfolding add_new
new-longer l [] = omega arith
new-longer l (n ∷ r) = omega (arith, leaf-longer l n, new-longer (add_leaf l n) r)

pub new-keep : (l r : List ℕ) (x : ℕ) → Memᴰ x l → Memᴰ x (add_new l r)
unfolding add_new
new-keep l [] x i = i
new-keep l (n ∷ r) x i = new-keep (add_leaf l n) r x (leaf-keep l n x i)

pub new-all : (l r : List ℕ) (x : ℕ) → Memᴰ x r → Memᴰ x (add_new l r)
unfolding add_new
new-all l [] x i = elim i [ ]
new-all l (n ∷ r) x (Memᴰ.head e) = new-keep (add_leaf l n) r x (subst (λ (y : ℕ). Memᴰ y (add_leaf l n)) (sym e) (leaf-self l n))
new-all l (n ∷ r) x (Memᴰ.tail i) = new-all (add_leaf l n) r x i

pub new-only : (l r : List ℕ) (x : ℕ) → Memᴰ x (add_new l r) → Memᴰ x l ⊎ Memᴰ x r
unfolding add_new
new-only l [] x i = inl i
new-only l (n ∷ r) x i =
    ⊎_elim (λ a. ⊎_elim (λ b. inl b) (λ e. inr (Memᴰ.head e)) (leaf-only l n x a)) (λ a. inr (Memᴰ.tail a)) (new-only (add_leaf l n) r x i)

pub new-distinct : (l r : List ℕ) → Distinct l → Distinct (add_new l r)
unfolding add_new
new-distinct l [] d = d
new-distinct l (n ∷ r) d = new-distinct (add_leaf l n) r (leaf-distinct l n d)

-- leaves of which none is listed yet and none stands twice are all added
not_listed : (l r : List ℕ) (n : ℕ) → Distinct (l ++ (n ∷ r)) → among n l ≡ false
unfolding among
not_listed [] r n d = refl
not_listed (a ∷ l) r n d = go (not_listed l r n d.1) (eqb n a) refl
  where
    go : among n l ≡ false → (b : Bool) → eqb n a ≡ b → (b || among n l) ≡ false
    go ih true q = absurd (lacks-not a n d.0 (Memᴰ.append_right l (Memᴰ.head refl)) (sym (eqb-true n a q)))
    go ih false q = ih

pub all_new : (l r : List ℕ) → Distinct (l ++ r) → add_new l r ≡ l ++ r
unfolding add_new
all_new l [] d = sym (append-nil l)
all_new l (n ∷ r) d =
    let again : (l ++ (n ∷ [])) ++ r ≡ l ++ (n ∷ r) = append_assoc l (n ∷ []) r in
    ap (λ (m : List ℕ). add_new m r) (leaf-new l n (not_listed l r n d)) ∙ all_new (l ++ (n ∷ [])) r (subst Distinct (sym again) d) ∙ again

-- ---- the marks

-- nothing is listed, and no mark is set
pub marked-none : (marks : List Bool) → ((n : ℕ) → n < length marks → get_or marks n false ≡ false) → Marked marks []
unfolding among
marked-none marks h n i = h n i

pub marked_more : (marks : List Bool) (l : List ℕ) (n : ℕ) → n < length marks → Marked marks l → Marked (set marks n true) (l ++ (n ∷ []))
marked_more marks l n h m j i = go (eqb j n) refl
  where
    go : (b : Bool) → eqb j n ≡ b → get_or (set marks n true) j false ≡ among j (l ++ (n ∷ []))
    go true q =
        ap (λ (x : ℕ). get_or (set marks n true) x false) (eqb-true j n q) ∙ get_or-set_same marks n true false h
        ∙ sym (among-last j n l ∙ ap (λ (b : Bool). b || among j l) q)
    go false q =
        get_or-set_other marks n j true false (eqb-false j n q) ∙ m j (omega (arith, length-set marks n true))
        ∙ sym (among-last j n l ∙ ap (λ (b : Bool). b || among j l) q)
