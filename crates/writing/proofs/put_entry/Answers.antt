-- `writing::put_entry` meets its contract.
use Prim.Native.Nat.{ℕ, ◌+◌}
use mathlib.Core.Path.{ap, ◌∙◌}
use mathlib.Core.List.{List}
use lib.ListN.{set}
use lib.Seq.{sets}
use Rattle.writing.specs.Inside.{shown}
use Rattle.writing.proofs.Stored.{line-stored}
use Rattle.writing.proofs.put_entry.Goals as goal

pub returns : goal.returns
returns c =
    let a = c.args in
    let at : ℕ = a.at in
    let d3 = ap (λ (l : List ℕ). set (set l (at + 4) 32) (at + 5) a.e.letter) c.put.ensures in
    let d4 = c.put-2.ensures ∙ ap (λ (l : List ℕ). sets l (at + 6) (shown 5 a.e.parent)) d3 in
    let d5 = c.put-3.ensures ∙ ap (λ (l : List ℕ). sets l (at + 11) (shown 5 a.e.weight)) d4 in
    let d6 = c.put-4.ensures ∙ ap (λ (l : List ℕ). sets l (at + 16) (shown 8 a.e.utility)) d5 in
    ap (λ (l : List ℕ). set l (at + 24) 10) d6 ∙ line-stored a.buffer.now at a.e c.requires.1
