use Rattle.std.proofs.Common.{arith, ◌≡◌, ℕ, ◌+◌, ◌-◌, ◌*◌, take, drop, get_or, refl, sym, ap, ◌∙◌}
use Rattle.std.proofs.lemmas.Grind.{common_steps}
use Rattle.line.specs.declared.Kind.{Kind}
use Rattle.line.specs.declared.Kind.TheVariants.{Leaf, Max, Min, Chance}
use Rattle.line.specs.Line.{code}
use Rattle.table.specs.Tree.{kind_of}
use Rattle.table.specs.Nodes.{stops_in, weights_in, heights_in}
use Rattle.worth.specs.Inside.{kind_in, beside_in, ReadyRun}
use Rattle.worth.proofs.Run.{Child, going_start, going-total, going_end, Next, next_of, Turn, turn-of, child-of, leaf-of, turn-fits, turn_on}
use Rattle.worth.proofs.+worth_under.Goals as goal
use Rattle.worth.proofs.+worth_under.Goals.{in-Leaf, in_default, After-from-s, After-from-w, After-kind_at}

pub loop-i-init : goal.loop-i-init
loop-i-init t c =
    let a = c.args in
    going_start (beside_in a.nodes.now) a.g (kind_of (code a.k)) a.c a.e a.run.now c.before_any-a.result c.before_any-a.ensures

-- at a line: what is left from its node on
next : (t : ℕ) (c : After-from-s t)
    → let a = c.args in
    (R : ReadyRun (beside_in a.nodes.now) a.g (kind_of (code a.k)) a.c a.e a.run.now)
    → Next (beside_in a.nodes.now) a.g (kind_of (code a.k)) a.c a.e a.run.now c.loop-i.a c.loop-i.total c.loop-i.i R
next t c R = let l = c.loop-i in next_of _ _ _ _ _ _ l.a l.total l.i R l.invariant c.loop-i-test.true

stop-is : (t : ℕ) (c : After-from-s t) → c.from-s.result ≡ get_or (stops_in c.args.nodes.now) c.loop-i.i 0
stop-is t c = grind (arith, common_steps)

turn : (t : ℕ) (c : After-from-s t) → let a = c.args in Turn a.c a.e c.loop-i.i c.from-s.result a.run.now
turn t c = turn-of _ _ _ _ _ _ _ _ _ c.requires (next t c c.requires) _ (stop-is t c)

pub overflow_sub-at : goal.overflow_sub-at
overflow_sub-at t c = (turn t (goal.at.overflow_sub-at t c).After-from-s).from

pub kind_at-requires : goal.kind_at-requires
kind_at-requires t c = let n = turn t (goal.at.kind_at-requires t c).After-from-s in omega arith

pub overflow_sub-s : goal.overflow_sub-s
overflow_sub-s t c = let n = turn t (goal.at.overflow_sub-s t c).After-from-s in omega arith

pub slice_bounds-worth_under-count : goal.slice_bounds-worth_under-count
slice_bounds-worth_under-count t c = let n = turn t (goal.at.slice_bounds-worth_under-count t c).After-from-s in omega arith

pub slice_bounds-worth_under-start : goal.slice_bounds-worth_under-start
slice_bounds-worth_under-start t c = let n = turn t (goal.at.slice_bounds-worth_under-start t c).After-from-s in omega arith

pub slice_bounds-worth_under-end : goal.slice_bounds-worth_under-end
slice_bounds-worth_under-end t c = let n = turn t (goal.at.slice_bounds-worth_under-end t c).After-from-s in omega arith

-- the kind's number is the line's
kind-is : (t : ℕ) (c : After-kind_at t) → let a = c.args in code c.kind_at.result ≡ kind_in (take 25 (drop (25 * (c.loop-i.i - a.c)) a.run.now))
kind-is t c = c.kind_at.ensures (next t (goal.at.After-kind_at t c).After-from-s c.requires).1.known

not-leaf : (k : Kind) → (k ≡ Leaf → ⊥) → code k ≡ 0 → ⊥
not-leaf Leaf p e = p refl
not-leaf Max p e = omega arith
not-leaf Min p e = omega arith
not-leaf Chance p e = omega arith

-- where the child is no leaf: the lines under it can be judged
child : (t : ℕ) (c : After-kind_at t)
    → let a = c.args in
    let i = c.loop-i.i in
    let s = c.from-s.result in
    let at = 25 * (i - a.c) in
    (R : ReadyRun (beside_in a.nodes.now) a.g (kind_of (code a.k)) a.c a.e a.run.now) → (c.kind_at.result ≡ Leaf → ⊥)
    → Child (beside_in a.nodes.now) a.g (code c.kind_at.result) (i + 1) s (take (25 * (s - a.c) - (at + 25)) (drop (at + 25) a.run.now)) (next t (goal.at.After-kind_at t c).After-from-s R).1.share.worth
child t c R inside =
    let k = c.kind_at.result in
    child-of _ _ _ _ _ _ _ _ _ R (next t (goal.at.After-kind_at t c).After-from-s R) (code k) c.from-s.result (kind-is t c) (stop-is t (goal.at.After-kind_at t c).After-from-s) (not-leaf k inside)

pub worth_under-h-requires : goal.worth_under-h-requires
worth_under-h-requires t c =
    let n = turn t (goal.at.worth_under-h-requires t c).After-from-s in (
      omega (arith, c.decreases),
      (child t (goal.at.worth_under-h-requires t c).After-kind_at c.requires c.in_default.not-Leaf).ready,
    )

-- where the two ways meet: what the child is worth
joined : (t : ℕ) (c : After-from-w t)
    → let a = c.args in
    (R : ReadyRun (beside_in a.nodes.now) a.g (kind_of (code a.k)) a.c a.e a.run.now) → c.match-kind_at.h ≡ (next t (goal.at.After-from-w t c).After-from-s R).1.share.worth
joined t c R =
    let l = c.loop-i in
    let d = (goal.at.After-from-w t c).After-kind_at in
    elim c.match-kind_at.branch [
      | in-Leaf w ↦
          let height : w.from.result ≡ get_or (heights_in c.args.nodes.now) l.i 0 = grind (arith, common_steps) in
          w.h-is ∙ ap (λ (h : ℕ). h * c.args.g.grain) height
          ∙ leaf-of _ _ _ _ _ _ _ _ _ R (next t (goal.at.After-from-w t c).After-from-s R) (sym (kind-is t d) ∙ ap code w.in-Leaf.is)
      | in_default w ↦ let x = child t d R w.in_default.not-Leaf in w.h-is ∙ w.worth_under-h.ensures x.ready ∙ sym x.worth
    ]

weight-is : (t : ℕ) (c : After-from-w t) → c.from-w.result ≡ get_or (weights_in c.args.nodes.now) c.loop-i.i 0
weight-is t c = grind (arith, common_steps)

pub take_child-a-requires : goal.take_child-a-requires
take_child-a-requires t c =
    let w = goal.at.take_child-a-requires t c in
    turn-fits _ _ _ _ _ _ _ _ _ c.requires (next t w.After-from-s c.requires) c.match-kind_at.h c.from-w.result (joined t w.After-from-w c.requires) (weight-is t w.After-from-w)

pub overflow_add-total : goal.overflow_add-total
overflow_add-total t c =
    let d = (goal.at.overflow_add-total t c).After-from-s in
    let n = turn t d in
    omega (arith, (next t d c.requires).0.light)

pub loop-i-smaller : goal.loop-i-smaller
loop-i-smaller t c = let n = turn t (goal.at.loop-i-smaller t c).After-from-s in omega arith

pub loop-i-preserved : goal.loop-i-preserved
loop-i-preserved t c R =
    let w = goal.at.loop-i-preserved t c in
    turn_on _ _ _ _ _ _ _ _ _ R (next t w.After-from-s R) c.match-kind_at.h c.from-w.result (joined t w.After-from-w R) (weight-is t w.After-from-w) c.take_child-a.result c.from-s.result (stop-is t w.After-from-s) c.take_child-a.ensures (omega (arith, c.match-kind_at.element_fits.fits, c.from-w.ensures))

pub seal-requires : goal.seal-requires
seal-requires t c =
    let l = c.loop-i in going-total _ _ _ _ _ _ l.a l.total l.i c.requires l.invariant c.loop-i-test.false

pub returns : goal.returns
returns t c R =
    let l = c.loop-i in
    c.seal.ensures ∙ going_end _ _ _ _ _ _ l.a l.total l.i R l.invariant c.loop-i-test.false
