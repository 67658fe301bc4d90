-- `writing::put` meets its contract.
use Prim.Native.Nat.{ℕ, ◌≤◌, ◌<◌, ◌^◌}
use mathlib.Core.Path.{◌≡◌, sym, ap, subst, ◌∙◌}
use borrow.Author.Rules.{rules}
use lib.ListN.{length}
use lib.Seq.{sets}
use lib.IntN.{ℤ, nat_abs}
use mir.Syntax.{w64}
use mir.Val.{to_z, of_z}
use Rattle.field.specs.Field.{text_of, written}
use Rattle.field.specs.declared.Field.{Field}
use Rattle.field.specs.declared.Field.TheVariants.{Number}
use Rattle.field.proofs.Stores.{written-stored}
use Rattle.writing.specs.Inside.{shown, Fits}
use Rattle.writing.proofs.put.Goals as goal

-- a number that has room
fitting : (width : ℕ) (f : Field) (z : ℤ) → f ≡ Number z → Fits width f → (length (text_of z) ≤ width) × (nat_abs z < 10 ^ 15)
fitting width f z e h = subst (Fits width) e h

pub write-requires : goal.write-requires
write-requires c =
    let g = c.in-Number in
    let back : to_z w64 (of_z w64 g.z) ≡ g.z = search rules in
    let h = fitting c.args.width c.args.f g.z g.is c.requires.1 in
    rw back (search rules, h.0, h.1)

pub returns-in-Blank : goal.returns-in-Blank
returns-in-Blank c =
    let a = c.args in
    c.clear.ensures ∙ sym (ap (λ (f : Field). sets a.buffer.now a.at (shown a.width f)) c.in-Blank.is)

pub returns-in-Ill : goal.returns-in-Ill
returns-in-Ill c =
    absurd (subst (Fits c.args.width) c.in-Ill.is c.requires.1)

pub returns-in-Number : goal.returns-in-Number
returns-in-Number c =
    let a = c.args in
    let g = c.in-Number in
    let back : to_z w64 (of_z w64 g.z) ≡ g.z = search rules in
    let h = fitting a.width a.f g.z g.is c.requires.1 in
    c.write.ensures
    ∙ ap (written a.buffer.now a.at a.width) back
    ∙ written-stored a.buffer.now a.at a.width g.z c.requires.0 h.0
    ∙ sym (ap (λ (f : Field). sets a.buffer.now a.at (shown a.width f)) g.is)
