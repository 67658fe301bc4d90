-- The text of a header and of a node line gives back what it was written from.
use Prim.Native.Nat.{ℕ, zero, suc, ◌^◌, ◌<◌}
use mathlib.Core.Path.{◌≡◌, refl}
use mathlib.Core.Bool.{Bool, true, false, cond}
use native.Mathlib.Omega.{arith}
use lib.Dec.{eqb, lit<, lit≤, eqb-suc-zero}
use lib.ListN.{length, get_or}
use lib.IntN.{pos}
use Rattle.field.specs.declared.Field.{Field}
use Rattle.field.specs.declared.Field.TheVariants.{Blank, Number}
use Rattle.line.specs.declared.Head.{Head}
use Rattle.line.specs.declared.Line.{Line}
use Rattle.line.specs.Line.{has_number, heading_of, entry_of, is_leaf}
use Rattle.line.specs.Inside.{Ranged}
use Rattle.writing.specs.Text.{header_text, line_text}
use Rattle.writing.specs.Inside.{Fits, Roomy, entry_for, Short}
use Rattle.writing.proofs.Lines.{fits-natural, fits_signed, text-entry, HeadRoomy, text-heading}
use Rattle.writing.proofs.Said.{heading_for, head-text, line-text}

-- ---- room in the columns

fits-either : (width : ℕ) (b : Bool) (f g : Field) → Fits width f → Fits width g → Fits width (cond b f g)
fits-either width true f g x y = x
fits-either width false f g x y = y

pub line-roomy : (l : Line) → Short l → Roomy (entry_for l)
line-roomy l S =
    record {
      number = fits-natural l.node 4 (lit< tt) (lit≤ tt) S.node;
      parent = fits-either 5 (eqb l.node 0) Blank (Number (pos l.parent)) tt (fits-natural l.parent 5 (lit< tt) (lit≤ tt) S.parent);
      weight = fits-either 5 (eqb l.weight 0) Blank (Number (pos l.weight)) tt (fits-natural l.weight 5 (lit< tt) (lit≤ tt) S.weight);
      utility = fits-either 8 (is_leaf l.kind) (Number l.utility) Blank (fits_signed l.utility S.utility) tt;
    }

head-roomy : (h : Head) (n : ℕ) → Ranged h → n < 10 ^ 4 → HeadRoomy (heading_for h n)
head-roomy h n r c =
    record {
      count = fits-natural n 4 (lit< tt) (lit≤ tt) c;
      second = fits-either 2 (eqb h.second 0) Blank (Number (pos h.second)) tt (fits-natural h.second 2 (lit< tt) (lit≤ tt) (omega (arith, r.second)));
      total = fits-natural h.total 2 (lit< tt) (lit≤ tt) (omega (arith, r.total));
      lowest = fits_signed h.lowest (omega (arith, r.lowest));
      highest = fits_signed h.highest (omega (arith, r.highest));
    }

second-some : (n : ℕ) → has_number 0 (cond (eqb n 0) Blank (Number (pos n))) ≡ false
second-some zero = refl
second-some (suc n) = rw (eqb-suc-zero n) (eqb-suc-zero n)

-- the header's text gives the fields back, and has a line's length
pub head-again : (h : Head) (n : ℕ) → Ranged h → n < 10 ^ 4 → (heading_of (header_text h n) ≡ heading_for h n) × (get_or (header_text h n) 24 0 ≡ 10) × (length (header_text h n) ≡ 25)
head-again h n r c = rw (head-text h n r) (text-heading (heading_for h n) (head-roomy h n r c) (second-some h.second))

-- and so does a line's
pub line-again : (l : Line) → Short l → (entry_of (line_text l) ≡ entry_for l) × (get_or (line_text l) 4 0 ≡ 32) × (get_or (line_text l) 24 0 ≡ 10) × (length (line_text l) ≡ 25)
line-again l S = rw (line-text l) (text-entry (entry_for l) (line-roomy l S))
