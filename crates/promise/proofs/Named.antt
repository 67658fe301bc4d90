-- The play named at an M or N root is the first best child entered, and no play is named at any other root or at one met unread, over any
-- arithmetic whose rule for the play is a strict order. Document 01, 'The search', and document 02, Items 3 and 6.
use Prim.Native.Nat.{ℕ}
use mathlib.Core.Path.{◌≡◌, refl, sym, ap, subst, ◌∙◌}
use mathlib.Core.Logic.{◌⊎◌, inl, inr}
use mathlib.Core.Bool.{Bool, true, false, cond}
use mathlib.Core.List.Memᴰ
use mathlib.Core.List.{List, [], ◌∷◌, ◌++◌, append-nil, append_assoc, Memᴰ}
use mathlib.Core.Option.{none, some}
use native.Mathlib.Omega.{arith}
use lib.IntN.{ℤ}
use lib.Signed.{lt_z}
use Rattle.field.proofs.Small.{choose}
use Rattle.line.proofs.Signs.{true-ne-false}
use Rattle.table.specs.Tree.{Kind, MAX, MIN, CHANCE, Forest, end, leaf, inner, is_end}
use Rattle.table.specs.Accepted.{Filled}
use Rattle.table.specs.Root.{Side, AtM, AtN, Root, nobody, to_play, side_of, root_of, children}
use Rattle.search.specs.Search.{Frame, Play, no_play, child, Seen, State, Arith, Rules, begin, finish, cut, point, met_spent, met, safer, better, prefer, update, stop, scan, search, search_root, node_of}
use Rattle.search.specs.Whole.{whole, in_grains}
use Rattle.search.proofs.Steps.{both, seen_under, seen_after}
use Rattle.search.proofs.Grains.{grains-end}
use Rattle.promise.specs.Entered.{Entered, as_entered, entered, entered_root, worse, FirstBest}
use Rattle.promise.proofs.Order.{Strict}

-- the play of a root whose children entered are xs: "either a root child or none", "at C and L there is none"
abbrev pub Chosen : {A : Type 0} → (Side → Entered A → Entered A → Bool) → Root → List (Entered A) → Play A → Type 0
Chosen behind nobody xs p = node_of p ≡ none
Chosen {A} behind (to_play side) xs p = (x : Entered A) × (node_of p ≡ some x.node) × FirstBest (behind side) xs x

-- the play so far, where the children entered so far are xs
module _ {A : Type 0} (behind : Side → Entered A → Entered A → Bool) where
  abbrev pub Held : Root → List (Entered A) → Play A → Type 0
  Held nobody xs p = node_of p ≡ none
  Held (to_play side) xs no_play = xs ≡ []
  Held (to_play side) xs (child m l h) = FirstBest (behind side) xs (record { node = m; low = l; high = h })

  held-chosen : (q : Root) (xs : List (Entered A)) (p : Play A) → (xs ≡ [] → ⊥) → Held q xs p → Chosen behind q xs p
  held-chosen nobody xs p x h = h
  held-chosen (to_play side) xs no_play x h = absurd (x h)
  held-chosen (to_play side) xs (child m l b) x F = (record { node = m; low = l; high = b }, refl, F)

module _ {A : Type 0} (O : Arith A) (R : Rules A) where
  -- the first child is entered
  entered-some : (e : Frame A) (k : Kind) (f : Forest A) (s : State A) → is_end f ≡ false → entered O R e k f s ≡ [] → ⊥
  unfolding entered
  entered-some e k end s x q = true-ne-false x
  entered-some e k (leaf n w v rest) s x q = let z : ◌≡◌ {A = ℕ} 0 1 = cc in omega arith
  entered-some e k (inner n w c under rest) s x q = let z : ◌≡◌ {A = ℕ} 0 1 = cc in omega arith

  pub root-entered : (f : Forest A) → R.full [] ≡ false → is_end (children f) ≡ false → entered_root O R f ≡ [] → ⊥
  unfolding entered_root
  root-entered end z x q = true-ne-false x
  root-entered (leaf n w v rest) z x q = true-ne-false x
  root-entered (inner n w k under rest) z x q =
      let e : Frame A = R.frame n under in
      entered-some e k under (begin e k e.bottom e.top []) x (rw z at q)

  -- a root met unread names no play
  pub root-unread : (f : Forest A) → R.full [] ≡ true → node_of (search_root O R f).play ≡ none
  unfolding search_root search met_spent
  root-unread end z = refl
  root-unread (leaf n w v rest) z = rw z refl
  root-unread (inner n w k under rest) z = rw z refl

-- `beats` asks whether the earlier child is behind
abbrev pub Asks : {A : Type 0} → Arith A → (Side → Entered A → Entered A → Bool) → Type 0
Asks {A} O behind = (n : ℕ) (r : Seen A) (b : Entered A)
    → (O.beats MAX r.low r.high b.low b.high ≡ behind AtM b (as_entered n r))
    × (O.beats MIN r.low r.high b.low b.high ≡ behind AtN b (as_entered n r))

module _ {A : Type 0} (O : Arith A) (behind : Side → Entered A → Entered A → Bool) (strict : (side : Side) → Strict (behind side)) (asks : Asks O behind) where
  module _ (side : Side) where
    -- one child more, which is not better
    best-stays : (xs : List (Entered A)) (b x : Entered A) → behind side b x ≡ false → FirstBest (behind side) xs b → FirstBest (behind side) (xs ++ (x ∷ [])) b
    best-stays xs b x h F = record {
      before = F.before;
      later = F.later ++ (x ∷ []);
      among = ap (λ (l : List (Entered A)). l ++ (x ∷ [])) F.among ∙ append_assoc F.before (b ∷ F.later) (x ∷ []);
      earlier-worse = F.earlier-worse;
      later-no-better = λ y m. ahead y (Memᴰ.append_cases F.later m);
    }
      where
        ahead : (y : Entered A) → Memᴰ y F.later ⊎ Memᴰ y (x ∷ []) → behind side b y ≡ false
        ahead y (inl i) = F.later-no-better y i
        ahead y (inr i) = subst (λ (z : Entered A). behind side b z ≡ false) (sym (Memᴰ.eq_of_singleton i)) h

    -- one child more, which is
    best-moves : (xs : List (Entered A)) (b x : Entered A) → behind side b x ≡ true → FirstBest (behind side) xs b → FirstBest (behind side) (xs ++ (x ∷ [])) x
    best-moves xs b x h F = record {
      before = xs;
      later = [];
      among = refl;
      earlier-worse = λ y m. earlier y (Memᴰ.append_cases F.before (subst (Memᴰ y) F.among m));
      later-no-better = λ y m. absurd (Memᴰ.not-nil m);
    }
      where
        level : (y : Entered A) → (y ≡ b) ⊎ Memᴰ y F.later → behind side y x ≡ true
        level y (inl e) = subst (λ (z : Entered A). behind side z x ≡ true) (sym e) h
        level y (inr i) = (strict side).past b y x h (F.later-no-better y i)

        earlier : (y : Entered A) → Memᴰ y F.before ⊎ Memᴰ y (b ∷ F.later) → behind side y x ≡ true
        earlier y (inl i) = (strict side).past b y x h ((strict side).asym y b (F.earlier-worse y i))
        earlier y (inr i) = level y (Memᴰ.cases_cons i)

    best-alone : (x : Entered A) → FirstBest (behind side) (x ∷ []) x
    best-alone x = record { before = []; later = []; among = refl; earlier-worse = λ y m. absurd (Memᴰ.not-nil m); later-no-better = λ y m. absurd (Memᴰ.not-nil m) }

    -- which of the two it is, is asked by `better`
    better-best : (k : Kind) (n : ℕ) (xs : List (Entered A)) (b : Entered A) (r : Seen A)
        → O.beats k r.low r.high b.low b.high ≡ behind side b (as_entered n r) → FirstBest (behind side) xs b
        → Held behind (to_play side) (xs ++ (as_entered n r ∷ [])) (better O k n (child b.node b.low b.high) r)
    unfolding better
    better-best k n xs b r is F = rw is (go (behind side b (as_entered n r)) refl)
      where
        go : (t : Bool) → behind side b (as_entered n r) ≡ t
            → Held behind (to_play side) (xs ++ (as_entered n r ∷ [])) (cond t (child n r.low r.high) (child b.node b.low b.high))
        go true e = best-moves xs b (as_entered n r) e F
        go false e = best-stays xs b (as_entered n r) e F

    better-held : (k : Kind) (n : ℕ) (xs : List (Entered A)) (p : Play A) (r : Seen A)
        → ((b : Entered A) → O.beats k r.low r.high b.low b.high ≡ behind side b (as_entered n r)) → Held behind (to_play side) xs p
        → Held behind (to_play side) (xs ++ (as_entered n r ∷ [])) (better O k n p r)
    unfolding better
    better-held k n xs no_play r is h =
        subst (λ (l : List (Entered A)). FirstBest (behind side) (l ++ (as_entered n r ∷ [])) (as_entered n r)) (sym h) (best-alone (as_entered n r))
    better-held k n xs (child m l b) r is F = better-best k n xs (record { node = m; low = l; high = b }) r (is (record { node = m; low = l; high = b })) F

  update-held : (e : Frame A) (k : Kind) (n w : ℕ) (s : State A) (r : Seen A) (xs : List (Entered A)) → Held behind (side_of k) xs s.play
      → Held behind (side_of k) (xs ++ (as_entered n r ∷ [])) (update O e k n w s r).play
  unfolding update prefer
  update-held e MAX n w s r xs h = better-held AtM MAX n xs s.play r (λ b. (asks n r b).0) h
  update-held e MIN n w s r xs h = better-held AtN MIN n xs s.play r (λ b. (asks n r b).1) h
  update-held e CHANCE n w s r xs h = refl

  cut-play : (e : Frame A) (k : Kind) (s : State A) → (cut e k s).play ≡ s.play
  unfolding cut
  cut-play e MAX s = refl
  cut-play e MIN s = refl
  cut-play e CHANCE s = refl

  module _ (R : Rules A) where
    after-held : (e : Frame A) (k : Kind) (rest : Forest A) (t : State A) (xs : List (Entered A)) (x : Entered A)
        → Held behind (side_of k) (xs ++ (x ∷ [])) t.play
        → Held behind (side_of k) (xs ++ (x ∷ []) ++ entered O R e k rest t) (scan O R e k rest t).play
        → Held behind (side_of k) (xs ++ (x ∷ cond (stop O R.margin rest t) [] (entered O R e k rest t))) (seen_after O R e k rest t).play
    after-held e k rest t xs x h i =
        both (λ (l : List (Entered A)) (r : Seen A). Held behind (side_of k) (xs ++ (x ∷ l)) r.play) (stop O R.margin rest t) (rw (cut-play e k t) h)
        (subst (λ (l : List (Entered A)). Held behind (side_of k) l (scan O R e k rest t).play) (append_assoc xs (x ∷ []) (entered O R e k rest t)) i)

    scan-held : (e : Frame A) (k : Kind) (f : Forest A) (s : State A) (xs : List (Entered A)) → Held behind (side_of k) xs s.play
        → Held behind (side_of k) (xs ++ entered O R e k f s) (scan O R e k f s).play
    unfolding scan entered finish
    scan-held e k end s xs h = subst (λ (l : List (Entered A)). Held behind (side_of k) l s.play) (sym (append-nil xs)) h
    scan-held e k (leaf n w v rest) s xs h =
        let r : Seen A = met R e s.read (point n v s.read) in
        let t : State A = update O e k n w s r in
        let j = update-held e k n w s r xs h in
        after-held e k rest t xs (as_entered n r) j (scan-held e k rest t (xs ++ (as_entered n r ∷ [])) j)
    scan-held e k (inner n w c under rest) s xs h =
        let r : Seen A = met R (R.frame n under) s.read (seen_under O R e k n w c under s) in
        let t : State A = update O e k n w s r in
        let j = update-held e k n w s r xs h in
        after-held e k rest t xs (as_entered n r) j (scan-held e k rest t (xs ++ (as_entered n r ∷ [])) j)

    begin-held : (e : Frame A) (k : Kind) (a b : A) (l : List ℕ) → Held behind (side_of k) [] (begin e k a b l).play
    unfolding begin
    begin-held e MAX a b l = refl
    begin-held e MIN a b l = refl
    begin-held e CHANCE a b l = refl

    -- a node met unread names no play
    spent-held : (q : Root) (e : Frame A) (l : List ℕ) → Held behind q [] (met_spent e l).play
    unfolding met_spent
    spent-held nobody e l = refl
    spent-held (to_play side) e l = refl

    pub root-held : (f : Forest A) → Held behind (root_of f) (entered_root O R f) (search_root O R f).play
    unfolding search_root search point entered_root
    root-held end = refl
    root-held (leaf n w v rest) =
        choose (λ (r : Seen A). node_of r.play ≡ none) (R.full []) (λ _. spent-held nobody (R.frame n end) []) (λ _. refl)
    root-held (inner n w k under rest) =
        let e : Frame A = R.frame n under in
        let s : State A = begin e k e.bottom e.top [] in
        both (λ (l : List (Entered A)) (r : Seen A). Held behind (side_of k) l r.play) (R.full []) (spent-held (side_of k) e [])
        (scan-held e k under s [] (begin-held e k e.bottom e.top []))

    -- where the root is not met unread
    pub root-named : (f : Forest A) → R.full [] ≡ false → Filled f → Chosen behind (root_of f) (entered_root O R f) (search_root O R f).play
    root-named end z x = root-held end
    root-named (leaf n w v rest) z x = root-held (leaf n w v rest)
    root-named (inner n w k under rest) z x =
        let f : Forest A = inner n w k under rest in
        held-chosen behind (side_of k) (entered_root O R f) (search_root O R f).play (root-entered O R f z x.0) (root-held f)

-- ---- no two children are both the first best

module _ {A : Type 0} (behind : Entered A → Entered A → Bool) where
  -- those in b are behind x, and x is behind none in l
  abbrev Parts : List (Entered A) → Entered A → List (Entered A) → Type 0
  Parts b x l = ((z : Entered A) → Memᴰ z b → behind z x ≡ true) × ((z : Entered A) → Memᴰ z l → behind x z ≡ false)

  -- of two the one entered first would be behind the other, and would not
  parts-apart : {P : Type 0} (l c m : List (Entered A)) (x y z : Entered A) → x ∷ l ≡ z ∷ c ++ (y ∷ m) → Parts [] x l → Parts (z ∷ c) y m → P
  parts-apart l c m x y z q p r =
      let first : x ≡ z = cc in
      let rest : c ++ (y ∷ m) ≡ l = cc in
      absurd (true-ne-false (sym (r.0 x (Memᴰ.head first)) ∙ p.1 y (subst (Memᴰ y) rest (Memᴰ.append_right c (Memᴰ.head refl)))))

  parts_same : (b l c m : List (Entered A)) (x y : Entered A) → b ++ (x ∷ l) ≡ c ++ (y ∷ m) → Parts b x l → Parts c y m → x ≡ y
  parts_same [] l [] m x y q p r = cc
  parts_same [] l (z ∷ c) m x y q p r = parts-apart l c m x y z q p r
  parts_same (z ∷ b) l [] m x y q p r = parts-apart m b l y x z (sym q) r p
  parts_same (z ∷ b) l (w ∷ c) m x y q p r =
      let u : Parts b x l = (λ a h. p.0 a (Memᴰ.tail h), p.1) in
      let v : Parts c y m = (λ a h. r.0 a (Memᴰ.tail h), r.1) in
      let rest : b ++ (x ∷ l) ≡ c ++ (y ∷ m) = cc in
      parts_same b l c m x y rest u v

  pub best-same : (xs : List (Entered A)) (x y : Entered A) → FirstBest behind xs x → FirstBest behind xs y → x ≡ y
  best-same xs x y F G =
      parts_same F.before F.later G.before G.later x y (sym F.among ∙ G.among) (F.earlier-worse, F.later-no-better)
      (G.earlier-worse, G.later-no-better)

-- ---- the integers

pub asks-whole : Asks whole (worse lt_z)
unfolding safer
asks-whole n r b = (refl, refl)

-- ---- the same nodes in grains

pub grains-root : (G : ℕ) (f : Forest ℤ) → root_of (in_grains G f) ≡ root_of f
unfolding in_grains
grains-root G end = refl
grains-root G (leaf n w v rest) = refl
grains-root G (inner n w k under rest) = refl

pub grains-children : (G : ℕ) (f : Forest ℤ) → is_end (children (in_grains G f)) ≡ is_end (children f)
unfolding in_grains
grains-children G end = refl
grains-children G (leaf n w v rest) = refl
grains-children G (inner n w k under rest) = grains-end G under
