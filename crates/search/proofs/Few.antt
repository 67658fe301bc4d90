-- A search reads some of the leaves, in line order, and its play is a node of the table.
use Prim.Native.Nat.{ℕ, ◌+◌, ◌≤◌, ◌<◌}
use mathlib.Core.Path.{◌≡◌, refl, sym, ap, subst, ◌∙◌}
use mathlib.Core.List.{List, [], ◌∷◌, ◌++◌, append-nil, append_assoc}
use mathlib.Core.Option.{none, some}
use native.Mathlib.Omega.{arith}
use lib.ListN.{length, get_or, length-append}
use Rattle.field.proofs.Small.{choose}
use Rattle.table.specs.Tree.{Kind, MAX, MIN, CHANCE, Forest, end, leaf, inner, leaves}
use Rattle.table.specs.Inside.{Slices, Spans}
use Rattle.table.specs.Root.{children}
use Rattle.table.specs.Leaves.{leaf_nodes}
use Rattle.table.proofs.Spans.{spans-le}
use Rattle.table.proofs.Leaves.{Sub, sub-none, sub-take, sub-append, sub-length, nodes-length}
use Rattle.search.specs.Search.{Frame, Play, no_play, child, Seen, State, Arith, Rules, begin, finish, cut, point, met_spent, met, lower, upper, better, update, stop, scan, search, search_root, node_of}
use Rattle.search.specs.Inside.{grained}
use Rattle.search.proofs.Steps.{seen_under, seen_after}

-- no play has no number
pub none-some : {A : Type 0} {x : A} {P : Type 0} → none ≡ some x → P
none-some e = absurd (let z : ◌≡◌ {A = ℕ} 0 1 = cc in omega arith)

-- ---- the leaves read

-- what is read after the leaves l are some of the leaves of f, in line order
pub record ReadsOf {A : Type 0} (f : Forest A) (l read : List ℕ) : Type 0 where
  pub more : List ℕ
  pub are : read ≡ l ++ more
  pub some : Sub more (leaf_nodes f)

module _ {A : Type 0} (O : Arith A) (R : Rules A) where
  reads_none : (f : Forest A) (l : List ℕ) → ReadsOf f l l
  reads_none f l = record { more = []; are = sym (append-nil l); some = sub-none }

  -- those of some nodes, and then of the nodes after them
  reads_then : (f g h : Forest A) (l m n : List ℕ) → leaf_nodes f ++ leaf_nodes g ≡ leaf_nodes h → ReadsOf f l m → ReadsOf g m n → ReadsOf h l n
  reads_then f g h l m n e a b =
      record {
        more = a.more ++ b.more;
        are = b.are ∙ ap (λ (x : List ℕ). x ++ b.more) a.are ∙ append_assoc l a.more b.more;
        some = subst (Sub (a.more ++ b.more)) e (sub-append a.some b.some);
      }

  reads-after : (e : Frame A) (k : Kind) (rest : Forest A) (t : State A) → ReadsOf rest t.read (scan O R e k rest t).read
      → ReadsOf rest t.read (seen_after O R e k rest t).read
  unfolding cut
  reads-after e k rest t more = choose (λ (r : Seen A). ReadsOf rest t.read r.read) (stop O R.margin rest t) (λ _. reads_none rest t.read) (λ _. more)

  reads-met : (e : Frame A) (f : Forest A) (l : List ℕ) (r : Seen A) → ReadsOf f l r.read → ReadsOf f l (met R e l r).read
  unfolding met_spent
  reads-met e f l r more = choose (λ (r : Seen A). ReadsOf f l r.read) (R.full l) (λ _. reads_none f l) (λ _. more)

  reads-point : (n w : ℕ) (v : A) (l : List ℕ) → ReadsOf (leaf n w v end) l (point n v l).read
  unfolding point leaf_nodes
  reads-point n w v l = record { more = n ∷ []; are = refl; some = sub-take sub-none }

  reads-scan : (e : Frame A) (k : Kind) (f : Forest A) (s : State A) → ReadsOf f s.read (scan O R e k f s).read
  unfolding scan finish leaf_nodes update begin
  reads-scan e k end s = reads_none end s.read
  reads-scan e k (leaf n w v rest) s =
      let t : State A = update O e k n w s (met R e s.read (point n v s.read)) in
      reads_then (leaf n w v end) rest (leaf n w v rest) s.read t.read _ refl
      (reads-met e (leaf n w v end) s.read (point n v s.read) (reads-point n w v s.read))
      (reads-after e k rest t (reads-scan e k rest t))
  reads-scan e k (inner n w c under rest) s =
      let d : Frame A = R.frame n under in
      let r : Seen A = seen_under O R e k n w c under s in
      let t : State A = update O e k n w s (met R d s.read r) in
      reads_then under rest (inner n w c under rest) s.read t.read _ refl
      (reads-met d under s.read r (reads-scan d c under (begin d c (lower O e k w s) (upper O e k w s) s.read)))
      (reads-after e k rest t (reads-scan e k rest t))

  reads-root : (f : Forest A) → ReadsOf f [] (search_root O R f).read
  unfolding search_root search point leaf_nodes begin
  reads-root end = reads_none end []
  reads-root (leaf n w v rest) =
      reads-met (R.frame n end) (leaf n w v rest) [] (point n v []) (record { more = n ∷ []; are = refl; some = sub-take sub-none })
  reads-root (inner n w k under rest) =
      let e : Frame A = R.frame n under in
      let s : State A = begin e k e.bottom e.top [] in
      let r = reads-met e under [] (scan O R e k under s) (reads-scan e k under s) in
      record { more = r.more; are = r.are; some = subst (λ (l : List ℕ). Sub l (leaf_nodes under ++ leaf_nodes rest)) (append-nil r.more) (sub-append r.some sub-none) }

  few-after : (e : Frame A) (k : Kind) (rest : Forest A) (t : State A) (n : ℕ) → length t.read + leaves rest ≤ n
      → length (scan O R e k rest t).read ≤ n → length (seen_after O R e k rest t).read ≤ n
  unfolding cut
  few-after e k rest t n h more = choose (λ (r : Seen A). length r.read ≤ n) (stop O R.margin rest t) (λ _. omega arith) (λ _. more)

  few-met : (e : Frame A) (l : List ℕ) (r : Seen A) (n : ℕ) → length l ≤ n → length r.read ≤ n → length (met R e l r).read ≤ n
  unfolding met_spent
  few-met e l r n h more = choose (λ (r : Seen A). length r.read ≤ n) (R.full l) (λ _. h) (λ _. more)

  pub few-scan : (e : Frame A) (k : Kind) (f : Forest A) (s : State A) → length (scan O R e k f s).read ≤ length s.read + leaves f
  unfolding scan finish leaves point update begin
  few-scan e k end s = omega arith
  few-scan e k (leaf n w v rest) s =
      let r : Seen A = point n v s.read in
      let t : State A = update O e k n w s (met R e s.read r) in
      let one : length r.read ≡ length s.read + 1 = length-append s.read (n ∷ []) in
      let got : length t.read ≤ length s.read + 1 = few-met e s.read r _ (omega arith) (omega arith) in
      few-after e k rest t _ (omega arith) (omega (arith, few-scan e k rest t))
  few-scan e k (inner n w c under rest) s =
      let r : Seen A = seen_under O R e k n w c under s in
      let d : Frame A = R.frame n under in
      let t : State A = update O e k n w s (met R d s.read r) in
      let some = few-scan d c under (begin d c (lower O e k w s) (upper O e k w s) s.read) in
      let got : length t.read ≤ length s.read + leaves under = few-met d s.read r _ (omega arith) some in
      few-after e k rest t _ (omega arith) (omega (arith, few-scan e k rest t))

  -- what is read are some of the leaves, in line order
  pub reads-leaves : (f : Forest A) → Sub (search_root O R f).read (leaf_nodes f)
  reads-leaves f = let r = reads-root f in subst (λ (l : List ℕ). Sub l (leaf_nodes f)) (sym r.are) r.some

  pub few-reads : (f : Forest A) → length (search_root O R f).read ≤ leaves f
  few-reads f = omega (arith, sub-length (reads-leaves f), nodes-length f)

-- ---- the play

-- P of the number of each of these nodes with one parent
abbrev pub EachNode : {A : Type 0} → (ℕ → Type 0) → Forest A → Type 0
EachNode P end = Unit {0}
EachNode P (leaf m w v rest) = P m × EachNode P rest
EachNode P (inner m w k under rest) = P m × EachNode P rest

module _ {A : Type 0} (O : Arith A) (R : Rules A) (P : ℕ → Type 0) where
  abbrev Among : Play A → Type 0
  Among no_play = Unit {0}
  Among (child m l h) = P m

  among-better : (k : Kind) (m : ℕ) (p : Play A) (r : Seen A) → P m → Among p → Among (better O k m p r)
  unfolding better
  among-better k m no_play r h i = h
  among-better k m (child j l u) r h i = choose Among (O.beats k r.low r.high l u) (λ _. h) (λ _. i)

  among-update : (e : Frame A) (k : Kind) (m w : ℕ) (s : State A) (r : Seen A) → P m → Among s.play → Among (update O e k m w s r).play
  unfolding update
  among-update e MAX m w s r h i = among-better MAX m s.play r h i
  among-update e MIN m w s r h i = among-better MIN m s.play r h i
  among-update e CHANCE m w s r h i = tt

  among-after : (e : Frame A) (k : Kind) (rest : Forest A) (t : State A) → Among t.play → Among (scan O R e k rest t).play
      → Among (seen_after O R e k rest t).play
  unfolding cut
  among-after e k rest t i more = choose (λ (r : Seen A). Among r.play) (stop O R.margin rest t) (λ _. i) (λ _. more)

  among-scan : (e : Frame A) (k : Kind) (f : Forest A) (s : State A) → EachNode P f → Among s.play → Among (scan O R e k f s).play
  unfolding scan finish
  among-scan e k end s h i = i
  among-scan e k (leaf m w v rest) s h i =
      let j = among-update e k m w s (met R e s.read (point m v s.read)) h.0 i in
      among-after e k rest _ j (among-scan e k rest _ h.1 j)
  among-scan e k (inner m w c under rest) s h i =
      let j = among-update e k m w s (met R (R.frame m under) s.read (seen_under O R e k m w c under s)) h.0 i in
      among-after e k rest _ j (among-scan e k rest _ h.1 j)

  among-met : (e : Frame A) (l : List ℕ) (r : Seen A) → Among r.play → Among (met R e l r).play
  unfolding met_spent
  among-met e l r i = choose (λ (r : Seen A). Among r.play) (R.full l) (λ _. tt) (λ _. i)

  among-root : (f : Forest A) → EachNode P (children f) → Among (search_root O R f).play
  unfolding search_root search point begin
  among-root end h = tt
  among-root (leaf m w v rest) h = among-met (R.frame m end) [] (point m v []) tt
  among-root (inner m w k under rest) h =
      let e : Frame A = R.frame m under in
      let s : State A = begin e k e.bottom e.top [] in
      among-met e [] (scan O R e k under s) (among-scan e k under s h tt)

  -- the play of a root is a root child: what holds of the number of each of these holds of its
  pub play-among : (f : Forest A) → EachNode P (children f) → (m : ℕ) → node_of (search_root O R f).play ≡ some m → P m
  play-among f h m = named (search_root O R f).play (among-root f h)
    where
      named : (p : Play A) → Among p → node_of p ≡ some m → P m
      named no_play i e = none-some e
      named (child j l u) i e = let same : j ≡ m = cc in subst P same i

nodes-below : (G c e : ℕ) (s : Slices) (f : Forest ℕ) → Spans s c e f → EachNode (λ (m : ℕ). m < e) (grained G f)
unfolding Spans grained
nodes-below G c e s end x = tt
nodes-below G c e s (leaf n w h rest) x = (omega (arith, x.0, spans-le s (c + 1) e rest x.5), nodes-below G (c + 1) e s rest x.5)
nodes-below G c e s (inner n w k under rest) x =
    let j : ℕ = get_or s.stops c 0 in
    (omega (arith, x.0, spans-le s (c + 1) j under x.3, spans-le s j e rest x.4), nodes-below G j e s rest x.4)

below_more : {A : Type 0} (n m : ℕ) (f : Forest A) → n ≤ m → EachNode (λ (i : ℕ). i < n) f → EachNode (λ (i : ℕ). i < m) f
below_more n m end l h = tt
below_more n m (leaf i w v rest) l h = (omega arith, below_more n m rest l h.1)
below_more n m (inner i w k under rest) l h = (omega arith, below_more n m rest l h.1)

pub children-below : (G c e : ℕ) (s : Slices) (f : Forest ℕ) → Spans s c e f → EachNode (λ (m : ℕ). m < e) (children (grained G f))
unfolding Spans grained
children-below G c e s end x = tt
children-below G c e s (leaf n w h rest) x = tt
children-below G c e s (inner n w k under rest) x =
    let j : ℕ = get_or s.stops c 0 in
    below_more j e (grained G under) (spans-le s j e rest x.4) (nodes-below G (c + 1) j s under x.3)
