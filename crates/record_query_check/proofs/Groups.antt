-- The groups of a level: the words that they hold, and the numbers of the questions put to them.
use Prim.Native.Nat.{ℕ, ◌+◌, ◌*◌, ◌%◌, ◌<◌, ◌≤◌}
use mathlib.Core.Path.{◌≡◌, refl, sym, ◌∙◌, ap}
use mathlib.Core.Bool.{Bool, true, false}
use mathlib.Core.List.{List}
use native.Mathlib.Omega.{arith}
use borrow.Author.Tests.{eqb-true}
use lib.Dec.{eqb}
use lib.ListN.{length, drop}
use Rattle.theory_laws.specs.Questions.{pick, Question, first_no}
use Rattle.theory_laws.specs.Lists.{part, le_value}
use Rattle.theory_record.specs.Format.{run_count}
use Rattle.theory_record.specs.Query.{value_at}
use Rattle.theory_record.proofs.Reading.{value-at}
use Rattle.theory_record.proofs.Widths.{PowersOfTwo, level-shape, width-pos}
use Rattle.record_opening.specs.helpers.Opening.{values_at, digests_at, Readable, opening_questions, opening_number}
use Rattle.theory_laws.proofs.Questions.{first_stops, first_passes}
use Rattle.record_opening.proofs.Levels.{run_room}
use Rattle.record_opening.proofs.Numbers.{length-values}
use Rattle.record_query_check.specs.helpers.Level.{pair_held, held, a_number, c_number, WideGroup}
use Rattle.theory_record.specs.Scheme.{Scheme, width_at}

-- ---- a word that a group holds

pub group_room : (s : List ℕ) (group width : ℕ) → WideGroup s group width → group + 4 + 16 * width ≤ length s
group_room s group width z = rw z.count-is at (run_room 16 s group z.fits)

pub holds_is : (s : List ℕ) (group width place j v w : ℕ) (t : Bool) → WideGroup s group width → j ≡ place % width → j < width
    → v ≡ le_value (part 16 (group + 4 + 16 * j) s) → t ≡ eqb v w
    → t ≡ eqb (value_at width place (values_at s group)) w
unfolding value_at values_at
holds_is s group width place j v w t z ej h e f =
    let m : j < run_count (drop group s) = rw z.count-is h in
    rw (← ej) (f ∙ ap (λ (x : ℕ). eqb x w) (e ∙ sym (value-at s group j m)))

-- ---- what the first three questions settle
pub opened-wide : {S : Scheme} {l : ℕ} {s : List ℕ} {group path : ℕ} (p : PowersOfTwo S.widths) (place : ℕ) (root : List ℕ) (first x w : ℕ)
    → Readable S l s group path
    → x ≡ opening_number S l place (values_at s group) (digests_at s path) root first → x ≡ 0 → w ≡ width_at S l → 0 < first → WideGroup s group w
unfolding opening_number
opened-wide {S} {l} {s} {group} {path} p place root first x w r e z ew pos =
    record {
      filled = rw ew (width-pos S.widths S.n S.k l (level-shape S.widths S.n S.k l p));
      fits = r.group_fits;
      count-is = sym (length-values s group) ∙ go (eqb (length (values_at s group)) (width_at S l)) refl (sym e ∙ z) ∙ sym ew;
    }
  where
    rest : List Question
    rest = drop 1 (opening_questions S l place (values_at s group) (digests_at s path) root first)

    go : (b : Bool) → eqb (length (values_at s group)) (width_at S l) ≡ b → pick b (first_no rest) first ≡ 0 → length (values_at s group) ≡ width_at S l
    go true f h = eqb-true _ _ f
    go false f h = absurd (omega arith)

-- ---- 16 to 21: of a and b, at places 2q and 2q + 1

module _ (S : Scheme) (l q : ℕ) (values : List ℕ) (path : List (List ℕ)) (root : List ℕ) (a b x first : ℕ) (ef : first ≡ 2 * q)
    (e : x ≡ opening_number S l first values path root 16) where
  opened : x ≡ opening_number S l (2 * q) values path root 16
  opened = e ∙ ap (λ (p : ℕ). opening_number S l p values path root 16) ef

  pub a_stops : (x ≡ 0 → ⊥) → x ≡ a_number S l q values path root a b
  unfolding a_number opening_number
  a_stops z = first_stops (opening_questions S l (2 * q) values path root 16) (pair_held (width_at S l) q values a b) x tt opened z

  a-passes : (w r : ℕ) → x ≡ 0 → w ≡ width_at S l → r ≡ first_no (pair_held w q values a b) → r ≡ a_number S l q values path root a b
  unfolding a_number opening_number
  a-passes w r z ew f =
      first_passes (opening_questions S l (2 * q) values path root 16) (pair_held (width_at S l) q values a b) x tt opened r z
      (f ∙ ap (λ (y : ℕ). first_no (pair_held y q values a b)) ew)

  module _ (z : x ≡ 0) (w : ℕ) (ew : w ≡ width_at S l) (h : Bool) (eh : h ≡ eqb (value_at w first values) a) where
    a-held : eqb (value_at w (2 * q) values) a ≡ h
    a-held = sym (eh ∙ ap (λ (p : ℕ). eqb (value_at w p values) a) ef)

    pub no_a : h ≡ false → 19 ≡ a_number S l q values path root a b
    no_a f = a-passes w 19 z ew (rw (a-held, f))

    module _ (f : h ≡ true) (second : ℕ) (es : second ≡ 2 * q + 1) (h' : Bool) (eh' : h' ≡ eqb (value_at w second values) b) where
      b-held : eqb (value_at w (2 * q + 1) values) b ≡ h'
      b-held = sym (eh' ∙ ap (λ (p : ℕ). eqb (value_at w p values) b) es)

      pub no_b : h' ≡ false → 21 ≡ a_number S l q values path root a b
      no_b f' = a-passes w 21 z ew (rw (a-held, f, b-held, f'))

      pub both-held : h' ≡ true → 0 ≡ a_number S l q values path root a b
      both-held f' = a-passes w 0 z ew (rw (a-held, f, b-held, f'))

-- ---- 22 to 25

module _ (S : Scheme) (l q : ℕ) (values : List ℕ) (path : List (List ℕ)) (root : List ℕ) (c x : ℕ) (e : x ≡ opening_number S l q values path root 22) where
  pub c_stops : (x ≡ 0 → ⊥) → x ≡ c_number S l q values path root c
  unfolding c_number opening_number
  c_stops z = first_stops (opening_questions S l q values path root 22) (held (width_at S l) q values c) x tt e z

  c-passes : (w r : ℕ) → x ≡ 0 → w ≡ width_at S l → r ≡ first_no (held w q values c) → r ≡ c_number S l q values path root c
  unfolding c_number opening_number
  c-passes w r z ew f =
      first_passes (opening_questions S l q values path root 22) (held (width_at S l) q values c) x tt e r z (f ∙ ap (λ (y : ℕ). first_no (held y q values c)) ew)

  module _ (z : x ≡ 0) (w : ℕ) (ew : w ≡ width_at S l) (h : Bool) (eh : h ≡ eqb (value_at w q values) c) where
    pub no_c : h ≡ false → 25 ≡ c_number S l q values path root c
    no_c f = c-passes w 25 z ew (rw (← eh, f))

    pub c-held : h ≡ true → 0 ≡ c_number S l q values path root c
    c-held f = c-passes w 0 z ew (rw (← eh, f))
