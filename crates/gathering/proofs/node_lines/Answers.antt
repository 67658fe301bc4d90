use Prim.Native.Nat.{ℕ, ◌+◌, ◌-◌, ◌*◌}
use mathlib.Core.List.{List}
use mathlib.Core.Path.{◌≡◌, sym, ap, ◌∙◌}
use native.Mathlib.Omega.{arith}
use native.Mathlib.Nat.{le_trans}
use borrow.Author.Rules.{sfits_of}
use lib.IntN.{ℤ}
use lib.Seq.{drop-drop}
use lib.ListN.{drop, take}
use mir.Syntax.{w64}
use mir.Val.{to_z, of_z}
use mir.ValLaws.{to_z-of_z}
use Rattle.std.proofs.Common.{Ok}
use Rattle.std.proofs.lemmas.Result.{err_from_is_err_and}
use Rattle.field.proofs.Bits.{mag-abs}
use Rattle.line.specs.declared.Head.{Head}
use Rattle.line.specs.Line.{is_leaf, node_line}
use Rattle.line.specs.Inside.{Ranged, Sized}
use Rattle.line.proofs.Checks.{byte-is}
use Rattle.line.proofs.KindTests.{leaf_same}
use Rattle.parsing.specs.Inside.{placing_shown}
use Rattle.gathering.specs.Inside.{node_of}
use Rattle.gathering.proofs.Gather.{gathering-none, gathering-more, sized-here, reading-refused, gathered-refused, gathered-done}
use Rattle.gathering.proofs.node_lines.Goals as goal
use Rattle.gathering.proofs.node_lines.Goals.{In_ok-p}

-- the text of line i
part-is : (i : ℕ) (t : List ℕ) → take (25 * i + 25 + 25 - (25 * i + 25)) (drop (25 * i + 25) t) ≡ take 25 (drop (25 * i) (drop 25 t))
part-is i t =
    let e : 25 * i + 25 + 25 - (25 * i + 25) ≡ 25 = omega arith in
    let f : 25 + 25 * i ≡ 25 * i + 25 = omega arith in
    rw (e, drop-drop (25 * i) 25 t, f)

lowest-back : (h : Head) → Ranged h → to_z w64 (of_z w64 h.lowest) ≡ h.lowest
lowest-back h r = to_z-of_z w64 h.lowest (sfits_of (omega (arith, r.lowest, mag-abs h.lowest)))

pub loop-i-init : goal.loop-i-init
loop-i-init c = rw c.new-path.ensures (gathering-none c.args.h c.args.n _ _ _)

pub returns-in_err-p : goal.returns-in_err-p
returns-in_err-p c =
    let s = c.loop-i in
    let t = c.args.text.now in
    let e = sym (c.in_err-p.ensures.shown ∙ ap (node_line c.args.h s.i s.path) (part-is s.i t)) in
    let p = err_from_is_err_and c.from_residual.result c.from_residual.ensures.1 in
    rw (p.1, p.2) (gathered-refused c.args.h c.args.n (drop 25 t) _ _ c.in_err-p.field-0.0 _ _
    (reading-refused c.args.h c.args.n (drop 25 t) s.invariant.done s.i s.path s.invariant.reading c.loop-i-test.true c.in_err-p.field-0.0 e))

-- the line that was read
line-is : (c : In_ok-p)
    → node_line c.args.h c.loop-i.i c.loop-i.path (take 25 (drop (25 * c.loop-i.i) (drop 25 c.args.text.now))) ≡ placing_shown c.loop-i.path (Ok c.in_ok-p.p)
line-is c = sym (c.in_ok-p.ensures.shown ∙ ap (node_line c.args.h c.loop-i.i c.loop-i.path) (part-is c.loop-i.i c.args.text.now))

sized : (c : In_ok-p) → Sized c.in_ok-p.p.line
sized c =
    sized-here c.args.h c.args.n _ _ _ _ _ _ _ _ c.loop-i.i c.loop-i.invariant c.requires.2 c.requires.4 c.loop-i-test.true c.in_ok-p.p.line _ (line-is c)

pub node_of-requires : goal.node_of-requires
node_of-requires c =
    let r = c.requires.4 in (sized (goal.at.node_of-requires c).In_ok-p, rw (lowest-back c.args.h r) (le_trans (mag-abs c.args.h.lowest) r.lowest))

pub overflow_cast-up : goal.overflow_cast-up
overflow_cast-up c = omega (arith, (sized (goal.at.overflow_cast-up c).In_ok-p).parent)

pub loop-i-preserved : goal.loop-i-preserved
loop-i-preserved c =
    let s = c.loop-i in
    let l = c.in_ok-p.p.line in
    let node = c.node_of.ensures ∙ ap (λ (z : ℤ). node_of z l) (lowest-back c.args.h c.requires.4) in
    rw (node, c.push.ensures.2, c.push.ensures.1, c.step.ensures, c.max-most.ensures, c.from-leaves.ensures, c.eq.ensures, leaf_same l.kind, byte-is (is_leaf l.kind))
    (gathering-more _ _ _ _ _ _ _ _ _ _ _ s.invariant c.requires.2 c.requires.4 c.loop-i-test.true l _ (line-is (goal.at.loop-i-preserved c).In_ok-p) c.requires.0 c.requires.1)

pub returns : goal.returns
returns c = gathered-done c.args.h c.args.n (drop 25 c.args.text.now) _ _ _ _ _ _ _ c.loop-i.i c.loop-i.invariant c.loop-i-test.false
