-- Demand 3 of the search within a budget, at its call: the steps from which the theorems with a budget and without follow.
use Rattle.std.proofs.Common.{Ok, Result}
use Prim.Native.Nat.{ℕ, ◌≤◌}
use mathlib.Core.Path.{◌≡◌, refl, sym, ap, ap₂, subst, ◌∙◌}
use mathlib.Core.Bool.{Bool, true, false, cond}
use mathlib.Core.List.{List}
use mathlib.Core.Option.{Option, none, some}
use native.Mathlib.Omega.{arith}
use lib.Dec.{ltb}
use lib.ListN.{length}
use lib.IntN.{ℤ, pos, neg_ℤ, ◌+ℤ◌, ◌-ℤ◌}
use lib.Signed.{le_z}
use Rattle.line.specs.declared.Refusal.{Refusal}
use Rattle.line.specs.declared.Refusal.TheVariants.{NoRoom}
use Rattle.line.specs.Refusal.{Verdict, refused, fine, unless}
use Rattle.line.specs.Line.{to_nat}
use Rattle.table.specs.Tree.{leaves}
use Rattle.table.specs.Table.{Table, tree, read_text, grain}
use Rattle.table.specs.Root.{root_of, play_of}
use Rattle.table.specs.declared.Play.TheVariants.{Child}
use Rattle.worth.specs.declared.Exact.{Exact}
use Rattle.worth.specs.Worth.{worth_of}
use Rattle.worth.specs.Call.{exact_call}
use Rattle.turn.specs.Turn.{turn_table, turned_text}
use Rattle.turn.proofs.Tree.{tree-turned}
use Rattle.turn.proofs.Accepted.{turned-accepted}
use Rattle.turn_call.specs.Call.{turn_of}
use Rattle.search.specs.Search.{Seen, unlimited, limited, node_of}
use Rattle.search.specs.Whole.{searched, searched_within}
use Rattle.search.proofs.Within.{unspent-same}
use Rattle.search_call.specs.declared.Bounds.{Bounds}
use Rattle.search_call.specs.Call.{bad_margin, bounds_of, within_reads}
use Rattle.search_call.proofs.Call.{inside_is}
use Rattle.search_call.proofs.Answered.{answered-within, answers-within, reads-within}
use Rattle.promise.specs.Unread.{Alike, ReadBy}
use Rattle.promise.specs.Turned.{Turns}
use Rattle.promise.proofs.Demand.{contains, width, play-near, play-side}
use Rattle.promise.proofs.Changed as changed
use Rattle.promise.proofs.Turned as mirror
use Rattle.demands.specs.Demands.{child_worth, Promised, SameLines, Mirrors}
use Rattle.demands.specs.Budget.{Kept, KeptWithin, Within1, Within2, Within3}
use Rattle.demands.proofs.Utilities.{tree-alike}

-- ---- what an answer promises

pub child-some : (p : Option ℕ) (n : ℕ) → play_of p ≡ Child n → p ≡ some n
child-some none n e = let x : ◌≡◌ {A = ℕ} 0 1 = cc in absurd (omega arith)
child-some (some m) n e = cc

pub fine-same : (t u : Table) → fine t ≡ fine u → t ≡ u
fine-same t u e = cc

-- of a table's search without a budget, at a margin that is accepted
promised-of : (s : List ℕ) (t : Table) (m : ℤ) → read_text s ≡ fine t → bad_margin m ≡ false
    → Promised s m (bounds_of (record { table = t; seen = searched t (to_nat m) }))
promised-of s t m p good =
    let ε : ℕ = to_nat m in
    let e : pos ε ≡ m = inside_is 40000000000000 m good in
    let c = contains s t p ε unlimited in
    record {
      worth = worth_of t;
      exact = ap exact_call p;
      above = c.0;
      below = c.1;
      narrow = subst (λ (z : ℤ). le_z (searched t ε).high ((searched t ε).low +ℤ z) ≡ true) e (width s t p ε);
      near = λ n q.
          let (v, w, x, y) = play-near s t p ε n (child-some (node_of (searched t ε).play) n q) in (
            v,
            ap (λ (a : Verdict Table). child_worth a n) p ∙ w,
            subst (λ (z : ℤ). le_z v (worth_of t +ℤ z) ≡ true) e x,
            subst (λ (z : ℤ). le_z (worth_of t) (v +ℤ z) ≡ true) e y,
          );
    }

-- of one with a budget
module _ (s : List ℕ) (t : Table) (m b : ℤ) (p : read_text s ≡ fine t) where
  abbrev seen : Seen ℤ
  seen = searched_within t (to_nat m) (to_nat b)

  kept_of : Kept s (bounds_of (record { table = t; seen = searched_within t (to_nat m) (to_nat b) }))
  kept_of =
      let c = contains s t p (to_nat m) (limited (to_nat b)) in
      record {
        worth = worth_of t;
        exact = ap exact_call p;
        above = c.0;
        below = c.1;
        side = λ n q.
            let (v, w, x, y) = play-side s t p (to_nat m) (limited (to_nat b)) n (child-some (node_of seen.play) n q) in (
              v,
              ap (λ (a : Verdict Table). child_worth a n) p ∙ w,
              λ u r. let same : t ≡ u = fine-same t u (sym p ∙ r) in
                  (λ root. x (ap (λ (k : Table). root_of (tree k)) same ∙ root), λ root. y (ap (λ (k : Table). root_of (tree k)) same ∙ root)),
            );
      }

  kept-within : bad_margin m ≡ false → KeptWithin s m (bounds_of (record { table = t; seen = searched_within t (to_nat m) (to_nat b) }))
  kept-within good = record {
    always = kept_of;
    unspent = λ z.
        subst (λ (x : Seen ℤ). Promised s m (bounds_of (record { table = t; seen = x }))) (sym (unspent-same s t p (to_nat m) (to_nat b) z)) (promised-of s t m p good);
  }

pub within-kept : Within1
within-kept s m b room a e =
    let A = answered-within s m b room a e in
    subst (KeptWithin s m) (sym A.bounds) (kept-within s A.table m b A.read A.margin)

-- ---- other utilities

pub same-sought : (t u : Table) (x y : Seen ℤ) → grain u ≡ grain t → y ≡ x → bounds_of (record { table = u; seen = y }) ≡ bounds_of (record { table = t; seen = x })
same-sought t u x y g e =
    ap₂ (λ (r : Seen ℤ) (k : ℕ). record {
      low = r.low;
      high = r.high;
      difference = r.high -ℤ r.low;
      play = play_of (node_of r.play);
      leaves = length r.read;
      spent = r.spent;
      grain = k;
    }) e g

pub within_same : Within2
within_same s m b room a e u D other long =
    let A = answered-within s m b room a e in
    let ε : ℕ = to_nat m in
    let n : ℕ = to_nat b in
    let full = limited n in
    let t : Table = D.old in
    let v : Table = D.new in
    let same : A.table ≡ t = fine-same A.table t (sym A.read ∙ D.is-old) in
    let bounds : a ≡ bounds_of (record { table = t; seen = searched_within t ε n }) = A.bounds ∙ ap (λ (x : Table). bounds_of (record { table = x; seen = searched_within x ε n })) same in
    let enough : leaves (tree t) ≤ room = subst (λ (x : Table). leaves (tree x) ≤ room) same A.long in
    let listed : within_reads (read_text s) m b room ≡ (searched_within t ε n).read = reads-within s m b room t D.is-old A.margin A.budget enough in
    let alike : Alike (ReadBy (searched_within t ε n)) (tree t) (tree v) = tree-alike (searched_within t ε n).read t v (subst (λ (l : List ℕ). SameLines l t.lines v.lines) listed D.lines) in
    let found : searched_within v ε n ≡ searched_within t ε n = changed.same_answer s u t v D.is-old D.is-new ε full D.head alike in
    let again : bounds_of (record { table = v; seen = searched_within v ε n }) ≡ a =
    same-sought t v (searched_within t ε n) (searched_within v ε n) (changed.same-grain s u t v D.is-old D.is-new ε full D.head alike) found ∙ sym bounds in (
      answers-within u m b other v D.is-new A.margin A.budget (long v D.is-new) ∙ ap Ok again,
      reads-within u m b other v D.is-new A.margin A.budget (long v D.is-new) ∙ ap (λ (x : Seen ℤ). x.read) found ∙ sym listed,
      subst (KeptWithin u m) again (kept-within u v m b D.is-new A.margin),
    )

-- ---- the turned table

text_same : (s u : List ℕ) → ◌≡◌ {A = Verdict (List ℕ)} (fine s) (fine u) → s ≡ u
text_same s u e = cc

pub no_text : {P : Type 0} (r : Refusal) (u : List ℕ) → ◌≡◌ {A = Verdict (List ℕ)} (refused r) (fine u) → P
no_text r u e = let z : ◌≡◌ {A = ℕ} 0 1 = cc in absurd (omega arith)

-- what turning writes is the turned table's text
pub written : (t : Table) (size : ℕ) (u : List ℕ) → turn_of (fine t) size ≡ fine u → turned_text t ≡ u
unfolding unless
written t size u e = go (ltb size (length (turned_text t))) e
  where
    go : (c : Bool) → cond c (refused NoRoom) (fine (turned_text t)) ≡ fine u → turned_text t ≡ u
    go true e = no_text NoRoom u e
    go false e = text_same (turned_text t) u e

pub same-grains : (y z : ℤ) (g h : ℕ) → ◌≡◌ {A = Result Exact Refusal} (Ok (record { grains = y; grain = g })) (Ok (record { grains = z; grain = h })) → y ≡ z
same-grains y z g h e =
    let same : ◌≡◌ {A = Exact} (record { grains = y; grain = g }) (record { grains = z; grain = h }) = cc in
    ap (λ (w : Exact). w.grains) same

pub within-turned : Within3
within-turned s m b room a e size u w other long =
    let A = answered-within s m b room a e in
    let ε : ℕ = to_nat m in
    let n : ℕ = to_nat b in
    let full = limited n in
    let t : Table = A.table in
    let v : Table = turn_table t in
    let p = A.read in
    let text : turned_text t ≡ u = written t size u (ap (λ (x : Verdict Table). turn_of x size) (sym p) ∙ w) in
    let q : read_text u ≡ fine v = subst (λ (x : List ℕ). read_text x ≡ fine v) text (turned-accepted s t p) in
    let turns : Turns t v = record { head = refl; nodes = tree-turned t } in
    let grains : grain v ≡ grain t = mirror.same-grain s u t v p q ε full turns in
    let low = mirror.turned-low s u t v p q ε full turns in
    let high = mirror.turned-high s u t v p q ε full turns in
    let read : (searched_within v ε n).read ≡ (searched_within t ε n).read = mirror.turned-read s u t v p q ε full turns in
    let c : Bounds = bounds_of (record { table = v; seen = searched_within v ε n }) in (
      c,
      answers-within u m b other v q A.margin A.budget (long v q),
      subst (λ (x : Bounds). Mirrors x c) (sym A.bounds) (record {
        low = low;
        high = high;
        difference = ap₂ ◌-ℤ◌ high low ∙ mirror.turn-minus (searched_within t ε n).low (searched_within t ε n).high;
        play = ap play_of (mirror.turned-play s u t v p q ε full turns);
        leaves = ap length read;
        spent = mirror.turned-spent s u t v p q ε full turns;
        grain = grains;
      }),
      reads-within u m b other v q A.margin A.budget (long v q) ∙ read ∙ sym (reads-within s m b room t p A.margin A.budget A.long),
      (λ z x.
          let is : z ≡ worth_of t = same-grains z (worth_of t) a.grain (grain t) (sym x ∙ ap exact_call p) in
          ap exact_call q
          ∙ ap₂ (λ (z : ℤ) (g : ℕ). Ok (record { grains = z; grain = g })) (mirror.turned-worth s u t v p q turns ∙ ap neg_ℤ (sym is)) (grains ∙ sym (ap (λ (y : Bounds). y.grain) A.bounds))),
      kept-within u v m b q A.margin,
    )
