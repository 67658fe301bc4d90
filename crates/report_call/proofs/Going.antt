-- The loop over a match: the rows read so far, and the rest of the file.
use Rattle.std.proofs.Common.{Err, Ok, Result}
use Prim.Native.Nat.{ℕ, suc, ◌+◌, ◌-◌, ◌≤◌, ◌<◌}
use mathlib.Core.Path.{◌≡◌, refl, sym, ap, subst, ◌∙◌}
use mathlib.Core.List.{List, [], ◌∷◌, ◌++◌, map, append-nil, map-append}
use native.Mathlib.Omega.{arith}
use native.Mathlib.Numerals.{add-one}
use lib.ListN.{length, set, drop, length-append, length-drop, length-set, length-map, drop_of_length-le}
use lib.Seq.{drop-drop}
use lib.IntN.{ℤ}
use Rattle.scoring.specs.declared.Scored.{Scored}
use Rattle.line.specs.declared.Refusal.{Refusal}
use Rattle.line.specs.declared.Refusal.TheVariants.{TooMany}
use Rattle.line.specs.Refusal.{Verdict, fine}
use Rattle.table.specs.Slices.{laid}
use Rattle.table.proofs.Laid.{laid_more}
use Rattle.report.specs.declared.Row.{Row}
use Rattle.report.specs.declared.Totals.{Totals}
use Rattle.scoring.specs.Inside.{said_at}
use Rattle.scoring.proofs.Said.{said-fine, said-refused}
use Rattle.mark.specs.declared.Marking.{Marking}
use Rattle.mark.specs.Marks.{mark_code}
use Rattle.report.specs.Report.{size_of, loss_code, position_of, Outcome, stopped, rows, after, reached, match_from, match_of, totals_of}
use Rattle.report.specs.Inside.{SmallLoss, SmallTotals}
use Rattle.report.proofs.Rows.{row_small, AllSmall, totals-small}
use Rattle.report.proofs.Files.{row_within, after_none, after-after, match-end, match-full, match-on}
use Rattle.report_call.specs.Inside.{with_row, Reads}
use Rattle.report_call.proofs.Sums.{totals-more}

-- ---- a list of 500 entries, with f of each row at its front

-- a is the list as it came, b as it is
pub record Listed {A : Type 0} (f : Row → A) (rs : List Row) (a b : List A) : Type 0 where
  pub is : b ≡ laid (map f rs) a
  pub room : length a ≡ 500
  pub kept : length b ≡ length a

module _ {A : Type 0} (f : Row → A) (a : List A) where
  listed-none : length a ≡ 500 → Listed f [] a a
  listed-none h = record { is = refl; room = h; kept = refl }

  module _ (rs : List Row) (b : List A) (n : ℕ) (L : Listed f rs a b) (few : n < 500) where
    listed_more : (r : Row) → length rs ≡ n → Listed f (rs ++ (r ∷ [])) a (set b n (f r))
    listed_more r e =
        let m : length (map f rs) ≡ n = length-map rs f ∙ e in
        record {
          is = ap (λ y. set y n (f r)) L.is
              ∙ ap (λ m. set (laid (map f rs) a) m (f r)) (sym m)
              ∙ sym (laid_more (map f rs) a (f r) (omega (arith, m, L.room)))
              ∙ ap (λ y. laid y a) (sym (map-append f rs (r ∷ [])));
          room = L.room;
          kept = length-set b n (f r) ∙ L.kept;
        }

all_more : (rs : List Row) (r : Row) → AllSmall rs → SmallLoss r.loss → AllSmall (rs ++ (r ∷ []))
all_more [] r a h = (h, tt)
all_more (x ∷ xs) r a h = (a.0, all_more xs r a.1 h)

-- ---- the loop

abbrev pub kind-of : Row → ℕ
kind-of r = r.kind

abbrev pub loss-of : Row → ℤ
loss-of r = loss_code r.loss

abbrev pub mark_of : Marking → Row → ℕ
mark_of scale r = mark_code scale r.loss

-- k₀, l₀ and m₀ are the lists as they came, k, l and m as they are; the reader stands at a place of the file, s
pub record Going (file : List ℕ) (scale : Marking) (k₀ : List ℕ) (l₀ : List ℤ) (m₀ k : List ℕ) (l : List ℤ) (m : List ℕ) (t : Totals) (s : List ℕ) (at : ℕ) : Type 0 where
  pub whole : s ≡ file
  pub done : List Row
  pub totals : t ≡ totals_of done
  pub few : length done ≤ 500
  pub small : AllSmall done
  pub place : at ≤ length file
  pub kinds : Listed kind-of done k₀ k
  pub losses : Listed loss-of done l₀ l
  pub marks : Listed (mark_of scale) done m₀ m
  pub from : match_of file ≡ after done (match_from (500 - length done) (suc (length done)) (drop at file))

pub going-none : (file : List ℕ) (scale : Marking) (k : List ℕ) (l : List ℤ) (m : List ℕ) (t : Totals) → t ≡ totals_of [] → length k ≡ 500 → length l ≡ 500 → length m ≡ 500
    → Going file scale k l m k l m t file 0
going-none file scale k l m t e p q s =
    record {
      whole = refl;
      done = [];
      totals = e;
      few = omega arith;
      small = tt;
      place = omega arith;
      kinds = listed-none kind-of k p;
      losses = listed-none loss-of l q;
      marks = listed-none (mark_of scale) m s;
      from = after_none (match_from 500 1 file);
    }

module _ {file : List ℕ} {scale : Marking} {k₀ : List ℕ} {l₀ : List ℤ} {m₀ k : List ℕ} {l : List ℤ} {m : List ℕ} {t : Totals} {s : List ℕ} {at : ℕ} (G : Going file scale k₀ l₀ m₀ k l m t s at) where
  abbrev n : ℕ
  n = length G.done

  abbrev left : List ℕ
  left = drop at file

  pub count-is : t.positions ≡ n
  count-is = ap (λ (x : Totals). x.positions) G.totals

  pub going-small : SmallTotals t
  going-small = subst SmallTotals (sym G.totals) (totals-small G.done G.small G.few)

  -- the file is read
  pub going_end : length file ≤ at → Reads (match_of file) scale (Ok t) k₀ l₀ m₀ k l m
  going_end h =
      let e : match_of file ≡ rows G.done =
      G.from
      ∙ ap (λ (s : List ℕ). after G.done (match_from (500 - n) (suc n) s)) (drop_of_length-le file h)
      ∙ ap (after G.done) (match-end (500 - n) (suc n))
      ∙ ap rows (append-nil G.done) in
      subst (λ (o : Outcome). Reads o scale (Ok t) k₀ l₀ m₀ k l m) (sym e) (ap Ok G.totals, G.kinds.is, G.losses.is, G.marks.is)

  -- a position begins
  module _ (here : at < length file) where
    begun : 0 < length left
    begun = omega (arith, length-drop at file)

    refused-by : (q : Refusal) (p : ℕ) → match_of file ≡ stopped q p → Reads (match_of file) scale (Err (record { refusal = q; position = p })) k₀ l₀ m₀ k l m
    refused-by q p e = subst (λ (o : Outcome). Reads o scale (Err (record { refusal = q; position = p })) k₀ l₀ m₀ k l m) (sym e) refl

    pub going-full : t.positions ≡ 500 → Reads (match_of file) scale (Err (record { refusal = TooMany; position = 501 })) k₀ l₀ m₀ k l m
    going-full h =
        let z : n ≡ 500 = sym count-is ∙ h in
        refused-by TooMany 501 (
        G.from
        ∙ ap (λ (m : ℕ). after G.done (match_from (500 - m) (suc m) left)) z
        ∙ ap (after G.done) (match-full 501 left begun))

    module _ (room : (t.positions ≡ 500 → ⊥)) where
      less : n < 500
      less = omega (arith, G.few, room, count-is)

      next-from : match_of file ≡ after G.done (reached (suc n) (match_from (500 - suc n) (suc (suc n)) (drop (size_of left) left)) (position_of left))
      next-from =
          let m : 500 - n ≡ suc (500 - suc n) = omega (arith, less) in
          G.from
          ∙ ap (λ (j : ℕ). after G.done (match_from j (suc n) left)) m
          ∙ ap (after G.done) (match-on (500 - suc n) (suc n) left begun)

      -- the position that begins is v
      abbrev reaches : Verdict Row → Outcome
      reaches v = after G.done (reached (suc n) (match_from (500 - suc n) (suc (suc n)) (drop (size_of left) left)) v)

      read : {p : Result Scored Refusal} → p ≡ said_at s at → said_at file at ≡ p
      read e = ap (λ (x : List ℕ). said_at x at) (sym G.whole) ∙ sym e

      pub going-stopped : (q : Refusal) → Err q ≡ said_at s at → Reads (match_of file) scale (Err (record { refusal = q; position = t.positions + 1 })) k₀ l₀ m₀ k l m
      going-stopped q e =
          refused-by q (t.positions + 1) (next-from ∙ ap reaches (said-refused (size_of left) (position_of left) q (read e)) ∙ ap (stopped q) (ap suc (sym count-is) ∙ sym (add-one t.positions)))

      -- it is the entry r, of so many bytes
      module _ {p : Scored} (e : Ok p ≡ said_at s at) where
        abbrev r : Row
        r = p.row

        abbrev size : ℕ
        size = p.size

        position-is : position_of left ≡ fine r
        position-is = (said-fine (size_of left) (position_of left) p (read e)).0

        size-is : size_of left ≡ size
        size-is = (said-fine (size_of left) (position_of left) p (read e)).1

        pub entry-small : SmallLoss r.loss
        entry-small = row_small left r position-is

        pub entry-end : (0 < size) × (at + size ≤ length file)
        entry-end = (omega (arith, size-is), omega (arith, size-is, row_within left r position-is, length-drop at file))

        long : length (G.done ++ (r ∷ [])) ≡ suc n
        long = length-append G.done (r ∷ []) ∙ add-one n

        -- its loss, its mark and the totals as the code computes them
        pub going_on : {z : ℤ} {x : ℕ} {t' : Totals} → z ≡ loss-of r → x ≡ mark_of scale r → t' ≡ with_row t r
            → Going file scale k₀ l₀ m₀ (set k t.positions (kind-of r)) (set l t.positions z) (set m t.positions x) t' s (at + size)
        going_on u q w =
            let c : n ≡ t.positions = sym count-is in
            let h : t.positions < 500 = omega (arith, count-is, less) in
            rw (u, q, w, ← size-is) (record {
              whole = G.whole;
              done = G.done ++ (r ∷ []);
              totals = ap (λ (x : Totals). with_row x r) G.totals ∙ totals-more G.done r;
              few = omega (arith, long, less);
              small = all_more G.done r G.small entry-small;
              place = omega (arith, size-is, entry-end.1);
              kinds = listed_more kind-of k₀ G.done k t.positions G.kinds h r c;
              losses = listed_more loss-of l₀ G.done l t.positions G.losses h r c;
              marks = listed_more (mark_of scale) m₀ G.done m t.positions G.marks h r c;
              from = next-from
                  ∙ ap reaches position-is
                  ∙ after-after G.done (r ∷ []) (match_from (500 - suc n) (suc (suc n)) (drop (size_of left) left))
                  ∙ ap (λ (s : List ℕ). after (G.done ++ (r ∷ [])) (match_from (500 - suc n) (suc (suc n)) s)) (drop-drop (size_of left) at file)
                  ∙ ap (λ (m : ℕ). after (G.done ++ (r ∷ [])) (match_from (500 - m) (suc m) (drop (at + size_of left) file))) (sym long);
            })
