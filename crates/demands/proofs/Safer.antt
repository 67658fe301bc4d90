-- Document 02, Item 6, at the public calls.
use Rattle.std.proofs.Common.{Ok}
use Prim.Native.Nat.{ℕ}
use mathlib.Core.Path.{◌≡◌, refl, sym, ap, subst, ◌∙◌}
use mathlib.Core.Bool.{Bool, true, false}
use mathlib.Core.List.{List, []}
use borrow.Author.Tests.{ltb-true, lt-leb}
use lib.ListN.{length}
use lib.IntN.{ℤ, pos, ◌-ℤ◌}
use lib.Signed.{lt_z}
use Rattle.field.specs.Field.{strip, digits, whole as whole_field, signed, leading}
use Rattle.numbers.specs.Integers.{max_z, min_z, floor_z, ceil_z}
use Rattle.line.specs.Refusal.{fine, unless, unless_at}
use Rattle.line.specs.Line.{to_nat, climb, among}
use Rattle.table.specs.Tree.{run, after as after_run, forest, weigh, nodes_where, powers, uses, leaves}
use Rattle.table.specs.Table.{Table, tree, node_lines, complete, read_text, greatest}
use Rattle.table.specs.Root.{Side, to_play, root_of, play_of}
use Rattle.writing.specs.Text.{lines_text}
use Rattle.search.specs.Search.{Seen, unlimited, limited, begin, finish, cut, point, met_spent, lower, upper, safer, update, stop, scan, search, search_root}
use Rattle.search.specs.Whole.{searched, searched_until, searched_within, down_z, up_z, gain_z, loss_z, in_grains}
use Rattle.search.specs.Former.{formerly, former_until}
use Rattle.search.proofs.Former.{as_before}
use Rattle.search_call.specs.declared.Bounds.{Bounds}
use Rattle.search_call.specs.Call.{bounds_of, search_call, within_call}
use Rattle.search_call.proofs.Call.{inside_is}
use Rattle.search_call.proofs.Answered.{answered, reads, answered-within, reads-within}
use Rattle.promise.specs.Entered.{worse}
use Rattle.promise.proofs.Named.{best-same}
use Rattle.promise.proofs.Demand.{play-named}
use Rattle.demands.specs.Budget.{AllKnown}
use Rattle.demands.specs.Safer.{NamesBest, OneBest, SaferNamed, SaferWithin, SameButPlay, AsBefore, AsBeforeWithin, ties, FormerTies}
use Rattle.demands.proofs.Within.{fine-same}

-- ---- the play, and all else

module _ (t : Table) (ε : ℕ) (full : List ℕ → Bool) where
  abbrev found : Bounds
  found = bounds_of (record { table = t; seen = searched_until t ε full })

  names-best : (s : List ℕ) → read_text s ≡ fine t → full [] ≡ false → (side : Side) → root_of (tree t) ≡ to_play side → NamesBest t ε full side found.play
  names-best s p z side root = let (x, named, first) = play-named s t p ε full z side root in (x, ap play_of named, first)

  same-but-play : SameButPlay found (bounds_of (record { table = t; seen = former_until t ε full }))
  same-but-play =
      let q = as_before t ε full in
      record {
        low = ap (λ (r : Seen ℤ). r.low) q;
        high = ap (λ (r : Seen ℤ). r.high) q;
        difference = ap (λ (r : Seen ℤ). r.high -ℤ r.low) q;
        leaves = ap (λ (r : Seen ℤ). length r.read) q;
        spent = ap (λ (r : Seen ℤ). r.spent) q;
        grain = refl;
      }

  same_reads : (searched_until t ε full).read ≡ (former_until t ε full).read
  same_reads = ap (λ (r : Seen ℤ). r.read) (as_before t ε full)

pub one-best : OneBest
one-best side xs x y = best-same (worse lt_z side) xs x y

-- a read is left
some_left : (b : ℤ) (n : ℕ) → pos n ≡ b → lt_z (pos 0) b ≡ true → limited n [] ≡ false
some_left b n e h = lt-leb n 0 (ltb-true 0 n (ap (lt_z (pos 0)) e ∙ h))

-- what an answer is, of the table that was read
module _ (s : List ℕ) (t : Table) (m : ℤ) (room : ℕ) (a : Bounds) (p : read_text s ≡ fine t) where
  plain-found : (e : search_call (read_text s) m room ≡ Ok a) → a ≡ found t (to_nat m) unlimited
  plain-found e =
      let A = answered s m room a e in
      A.bounds ∙ ap (λ (x : Table). bounds_of (record { table = x; seen = searched x (to_nat m) })) (fine-same A.table t (sym A.read ∙ p))

  within-found : (b : ℤ) → within_call (read_text s) m b room ≡ Ok a → a ≡ found t (to_nat m) (limited (to_nat b))
  within-found b e =
      let A = answered-within s m b room a e in
      A.bounds ∙ ap (λ (x : Table). bounds_of (record { table = x; seen = searched_within x (to_nat m) (to_nat b) })) (fine-same A.table t (sym A.read ∙ p))

pub safer-named : SaferNamed
safer-named s t m room a side p root e =
    subst (λ (x : Bounds). NamesBest t (to_nat m) unlimited side x.play) (sym (plain-found s t m room a p e))
    (names-best t (to_nat m) unlimited s p refl side root)

pub safer-within : SaferWithin
safer-within s t m b room a side p root some e =
    let A = answered-within s m b room a e in
    subst (λ (x : Bounds). NamesBest t (to_nat m) (limited (to_nat b)) side x.play) (sym (within-found s t m room a p b e))
    (names-best t (to_nat m) (limited (to_nat b)) s p (some_left b (to_nat b) (inside_is 1024 b A.budget) some) side root)

pub as-before-plain : AsBefore
as-before-plain s t m room a p e =
    let A = answered s m room a e in
    let former : Bounds = bounds_of (record { table = t; seen = former_until t (to_nat m) unlimited }) in (
      subst (λ (x : Bounds). SameButPlay x former) (sym (plain-found s t m room a p e)) (same-but-play t (to_nat m) unlimited),
      reads s m room A.table A.read A.margin A.long
          ∙ ap (λ (x : Table). (searched x (to_nat m)).read) (fine-same A.table t (sym A.read ∙ p))
          ∙ same_reads t (to_nat m) unlimited,
    )

pub as-before-within : AsBeforeWithin
as-before-within s t m b room a p e =
    let A = answered-within s m b room a e in
    let former : Bounds = bounds_of (record { table = t; seen = former_until t (to_nat m) (limited (to_nat b)) }) in (
      subst (λ (x : Bounds). SameButPlay x former) (sym (within-found s t m room a p b e)) (same-but-play t (to_nat m) (limited (to_nat b))),
      reads-within s m b room A.table A.read A.margin A.budget A.long
          ∙ ap (λ (x : Table). (searched_within x (to_nat m) (to_nat b)).read) (fine-same A.table t (sym A.read ∙ p))
          ∙ same_reads t (to_nat m) (limited (to_nat b)),
    )

-- ---- known answers

pub all-ties : AllKnown ties
unfolding strip digits whole_field signed leading lines_text unless unless_at climb run after_run forest weigh nodes_where leaves node_lines complete read_text greatest among uses powers max_z min_z floor_z ceil_z begin finish cut point met_spent lower upper safer update stop scan search search_root down_z up_z gain_z loss_z in_grains
all-ties = (refl, refl, (refl, refl, (refl, refl, (refl, refl, tt))))

pub former-ties : FormerTies
unfolding strip digits whole_field signed leading lines_text unless unless_at climb run after_run forest weigh nodes_where leaves node_lines complete read_text greatest among uses powers max_z min_z floor_z ceil_z begin finish cut point met_spent lower upper formerly update stop scan search search_root down_z up_z gain_z loss_z in_grains
former-ties = (refl, refl, refl, refl)
