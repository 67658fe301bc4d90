-- Unread leaves do not matter to the search, over any arithmetic.
use Prim.Native.Nat.{ℕ}
use mathlib.Core.Path.{◌≡◌, refl, ap, ◌∙◌}
use mathlib.Core.Bool.{Bool, true, false, cond}
use mathlib.Core.List.{List, [], ◌∷◌, ◌++◌, Memᴰ}
use Rattle.field.proofs.Small.{choose}
use Rattle.table.specs.Tree.{Kind, MAX, MIN, CHANCE, Forest, end, leaf, inner}
use Rattle.search.specs.Search.{Frame, Seen, State, Arith, Rules, begin, finish, cut, point, met_spent, met, lower, upper, update, stop, scan, search, search_root}
use Rattle.search.proofs.Steps.{seen_under, seen_after}
use Rattle.promise.specs.Unread.{ReadBy, Alike, alike_end, alike-leaf, alike-inner}

-- P of each number
data Each (P : ℕ → Type 0) : List ℕ → Type 0 where
  none : Each P []
  more : {x : ℕ} {l : List ℕ} → P x → Each P l → Each P (x ∷ l)

each-split : (P : ℕ → Type 0) (l m : List ℕ) → Each P (l ++ m) → Each P l × Each P m
each-split P [] m e = (none, e)
each-split P (x ∷ l) m (more p e) = let r = each-split P l m e in (more p r.0, r.1)

each-one : {P : ℕ → Type 0} {x : ℕ} → Each P (x ∷ []) → P x
each-one (more p e) = p

-- where the test chooses x, y is not looked at
same_cond : {A : Type 0} (x : A) {y z : A} (Q : A → Type 0) (b : Bool) → (Q y → y ≡ z) → Q (cond b x y) → cond b x y ≡ cond b x z
same_cond x Q true f q = refl
same_cond x Q false f q = f q

module _ {A : Type 0} (frame : ℕ → Forest A → Frame A) where
  -- two trees with the same nodes whose inner nodes have the same frames, pair by pair
  abbrev pub SameFrames : Forest A → Forest A → Type 0
  SameFrames end g = Unit {0}
  SameFrames (leaf n w v rest) end = Unit {0}
  SameFrames (leaf n w v rest) (leaf m x u others) = SameFrames rest others
  SameFrames (leaf n w v rest) (inner m x c below others) = Unit {0}
  SameFrames (inner n w k under rest) end = Unit {0}
  SameFrames (inner n w k under rest) (leaf m x u others) = Unit {0}
  SameFrames (inner n w k under rest) (inner m x c below others) = (frame n under ≡ frame m below) × SameFrames under below × SameFrames rest others

  -- they have, where a frame does not depend on what may differ
  pub frames-alike : {P : ℕ → Type 0} → ((n : ℕ) (x y : Forest A) → Alike P x y → frame n x ≡ frame n y) → {f g : Forest A} → Alike P f g → SameFrames f g
  frames-alike h alike_end = tt
  frames-alike h (alike-leaf q a) = frames-alike h a
  frames-alike h (alike-inner {n = n} {under = under} {under2 = under2} u a) = (h n under under2 u, frames-alike h u, frames-alike h a)

module _ {A : Type 0} (O : Arith A) (R : Rules A) (P : ℕ → Type 0) where
  update-read : (e : Frame A) (k : Kind) (n w : ℕ) (s : State A) (r : Seen A) → (update O e k n w s r).read ≡ r.read
  unfolding update
  update-read e MAX n w s r = refl
  update-read e MIN n w s r = refl
  update-read e CHANCE n w s r = refl

  cut-read : (e : Frame A) (k : Kind) (s : State A) → (cut e k s).read ≡ s.read
  unfolding cut
  cut-read e MAX s = refl
  cut-read e MIN s = refl
  cut-read e CHANCE s = refl

  begin-read : (e : Frame A) (k : Kind) (a b : A) (l : List ℕ) → (begin e k a b l).read ≡ l
  unfolding begin
  begin-read e MAX a b l = refl
  begin-read e MIN a b l = refl
  begin-read e CHANCE a b l = refl

  stop-alike : (f g : Forest A) (t : State A) → Alike P f g → stop O R.margin f t ≡ stop O R.margin g t
  unfolding stop
  stop-alike f g t alike_end = refl
  stop-alike f g t (alike-leaf h a) = refl
  stop-alike f g t (alike-inner a c) = refl

  abbrev All : Seen A → Type 0
  All r = Each P r.read

  back-point : (n : ℕ) (h : A) (l : List ℕ) → All (point n h l) → Each P l × P n
  unfolding point
  back-point n h l x = let y = each-split P l (n ∷ []) x in (y.0, each-one y.1)

  -- a node met unread reads nothing
  back-met : (e : Frame A) (l : List ℕ) (r : Seen A) → (All r → Each P l) → All (met R e l r) → Each P l
  unfolding met_spent
  back-met e l r f = choose (λ (r : Seen A). All r → Each P l) (R.full l) (λ _ x. x) (λ _. f)

  back-after : (e : Frame A) (k : Kind) (f : Forest A) (t : State A) → (All (scan O R e k f t) → Each P t.read) → All (seen_after O R e k f t)
      → Each P t.read
  back-after e k f t ih = choose (λ (r : Seen A). All r → Each P t.read) (stop O R.margin f t) (λ _ x. rw cut-read at x) (λ _. ih)

  -- what was read before is read in the end
  back : (e : Frame A) (k : Kind) (f : Forest A) (s : State A) → All (scan O R e k f s) → Each P s.read
  unfolding scan finish
  back e k end s x = x
  back e k (leaf n w h rest) s x =
      back-met e s.read (point n h s.read) (λ y. (back-point n h s.read y).0) (rw update-read at (back-after e k rest _ (back e k rest _) x))
  back e k (inner n w c under rest) s x =
      let d : Frame A = R.frame n under in
      back-met d s.read (seen_under O R e k n w c under s)
      (λ y. rw begin-read at (back d c under (begin d c (lower O e k w s) (upper O e k w s) s.read) y))
      (rw update-read at (back-after e k rest _ (back e k rest _) x))

  same_after : (e : Frame A) (k : Kind) {f g : Forest A} (t : State A) → Alike P f g → (All (scan O R e k f t) → scan O R e k f t ≡ scan O R e k g t)
      → All (seen_after O R e k f t) → seen_after O R e k f t ≡ seen_after O R e k g t
  same_after e k {f} {g} t a ih x = rw (← stop-alike f g t a) (same_cond (cut e k t) All (stop O R.margin f t) ih x)

  unread : (e : Frame A) (k : Kind) {f g : Forest A} (s : State A) → Alike P f g → SameFrames R.frame f g → All (scan O R e k f s)
      → scan O R e k f s ≡ scan O R e k g s
  unfolding scan
  unread e k s alike_end i x = refl
  unread e k s (alike-leaf {n} {w} {v} {v2} {rest} {rest2} q a) i x =
      let r : Seen A = point n v s.read in
      let t : State A = update O e k n w s (met R e s.read r) in
      let y : All (met R e s.read r) = rw update-read at (back-after e k rest t (back e k rest t) x) in
      let same : met R e s.read r ≡ met R e s.read (point n v2 s.read) =
      same_cond (met_spent e s.read) All (R.full s.read) (λ z. ap (λ y. point n y s.read) (q (back-point n v s.read z).1)) y in
      same_after e k t a (unread e k t a i) x ∙ ap (λ y. seen_after O R e k rest2 (update O e k n w s y)) same
  unread e k s (alike-inner {n} {w} {k = c} {under} {under2} {rest} {rest2} u a) i x =
      let d : Frame A = R.frame n under in
      let r : Seen A = seen_under O R e k n w c under s in
      let t : State A = update O e k n w s (met R d s.read r) in
      let y : All (met R d s.read r) = rw update-read at (back-after e k rest t (back e k rest t) x) in
      let s2 : Frame A → State A = λ d. begin d c (lower O e k w s) (upper O e k w s) s.read in
      let same : met R d s.read r ≡ met R (R.frame n under2) s.read (seen_under O R e k n w c under2 s) =
      same_cond (met_spent d s.read) All (R.full s.read) (unread d c (s2 d) u i.1) y
      ∙ ap (λ (d : Frame A). met R d s.read (scan O R d c under2 (s2 d))) i.0 in
      same_after e k t a (unread e k t a i.2) x ∙ ap (λ v. seen_after O R e k rest2 (update O e k n w s v)) same

-- each number of a list is in it
each-self : (l : List ℕ) (P : ℕ → Type 0) → ((n : ℕ) → Memᴰ n l → P n) → Each P l
each-self [] P h = none
each-self (x ∷ l) P h = more (h x (Memᴰ.head refl)) (each-self l P (λ n m. h n (Memᴰ.tail m)))

module _ {A : Type 0} (O : Arith A) (R : Rules A) where
  unread-search : (P : ℕ → Type 0) (e : Frame A) (k : Kind) (f g : Forest A) → Alike P f g → SameFrames R.frame f g
      → ((n : ℕ) → Memᴰ n (search O R e k f).read → P n) → search O R e k f ≡ search O R e k g
  unfolding search
  unread-search P e k f g a i all =
      same_cond (met_spent e []) (All O R P) (R.full []) (unread O R P e k (begin e k e.bottom e.top []) a i)
      (each-self (search O R e k f).read P all)

  unread-from : (P : ℕ → Type 0) (f g : Forest A) → Alike P f g → SameFrames R.frame f g
      → ((n : ℕ) → Memᴰ n (search_root O R f).read → P n) → search_root O R f ≡ search_root O R g
  unfolding search_root point
  unread-from P f g alike_end i all = refl
  unread-from P f g (alike-leaf {n} {w} {v} {v2} {rest} q a) i all =
      same_cond (met_spent (R.frame n end) []) (All O R P) (R.full []) (λ z. ap (λ (x : A). point n x []) (q (back-point O R P n v [] z).1))
      (each-self (search_root O R (leaf n w v rest)).read P all)
  unread-from P f g (alike-inner {n} {w} {k} {under} {under2} u a) i all =
      unread-search P (R.frame n under) k under under2 u i.1 all ∙ ap (λ (e : Frame A). search O R e k under2) i.0

  -- trees that differ in unread leaves alone, and in no frame, have the same answer
  pub unread-root : (f g : Forest A) → Alike (ReadBy (search_root O R f)) f g → SameFrames R.frame f g
      → search_root O R f ≡ search_root O R g
  unread-root f g a i = unread-from (ReadBy (search_root O R f)) f g a i (λ n m. m)
