-- What the questions leave known where none says no, and that none of the entries behind them then refuses; and what both entries answer where one does.
use Rattle.std.specs.Prelude.{Result, Err}
use mathlib.Core.Path.{◌≡◌, refl, sym, ap, ◌∙◌}
use Prim.Native.Nat.{ℕ, ◌*◌, ◌^◌}
use borrow.Author.Tests.{leb-true, eqb-true, le-leb, eq-eqb}
use Rattle.theory_laws.specs.Questions.{on_done}
use Rattle.theory_laws.specs.Refusals.{number_of, answered}
use Rattle.theory_laws.specs.declared.Refusal.{Refusal}
use Rattle.theory_laws.proofs.Questions.{all_yes, yes_all, on_refused}
use Rattle.theory_laws.proofs.Refusals.{never}
use Rattle.field_gf128.specs.Word.{word}
use Rattle.field_equality.specs.Eq.{eq_questions, eq_number}
use Rattle.ring_partials.specs.Numbers.{partial_questions, partial_number, fold_questions, fold_number}
use Rattle.ring_identities.specs.declared.Sides.{Sides}
use Rattle.ring_identities.specs.Numbers.{sides_questions, sides_number, Sided, sided}
use Rattle.ring_identities.specs.helpers.Sizes.{Sizes}

pub sizes : (n packed point table q : ℕ) → q ≡ sides_number n packed point table → q ≡ 0 → Sizes n packed point table
unfolding sides_number
sizes n packed point table q f z =
    let y = all_yes (sides_questions n packed point table) tt (sym f ∙ z) in
    record {
      coordinates = leb-true n 20 y.0;
      of_packed = eqb-true packed (2 * 2 ^ n) y.1.0;
      of_point = eqb-true point (2 * n) y.1.1.0;
      of_table = eqb-true table (2 * 2 ^ n) y.1.1.1.0;
    }

-- an equality table, and the indicator's, into what is as long as the room
pub eq-passes : (n packed point table out : ℕ) → Sizes n packed point table → out ≡ table → eq_number n point out ≡ 0
unfolding eq_number
eq-passes n packed point table out k f =
    yes_all (eq_questions n point out) (
      le-leb n 20 k.coordinates,
      (eq-eqb point (2 * n) k.of_point, (eq-eqb out (2 * 2 ^ n) (f ∙ k.of_table), tt)),
    )

-- the partials, over a table that is as long
pub partial-passes : (n packed point table e s : ℕ) → Sizes n packed point table → e ≡ table → s ≡ 256 → partial_number n packed e s ≡ 0
unfolding partial_number
partial-passes n packed point table e s k f h =
    yes_all (partial_questions n packed e s) (
      le-leb n 20 k.coordinates,
      (eq-eqb packed (2 * 2 ^ n) k.of_packed, (eq-eqb e (2 * 2 ^ n) (f ∙ k.of_table), (eq-eqb s 256 h, tt))),
    )

-- their fold
pub fold-passes : (s : ℕ) → s ≡ 256 → fold_number s ≡ 0
unfolding fold_number
fold-passes s h = yes_all (fold_questions s) (eq-eqb s 256 h, tt)

-- ---- where one says no

-- a refusal is what either entry has to answer, whatever its sides x and y and its table would be, and the room is as it was
pub refused-sides : {A : Type 0} (r : Sided) (number asked x y : ℕ) (table room : A) → number ≡ asked → (number ≡ 0 → ⊥)
    → (r.number ≡ number) × (word r.left ≡ 0) × (r.left ≡ r.right)
    → (r.number ≡ asked)
    × ((word r.left ≡ on_done r.number x 0)
    × ((word r.right ≡ on_done r.number y 0)
    × ((r.left ≡ r.right)
    × (room ≡ on_done r.number table room))))
refused-sides r number asked x y table room e refusal (n, zero, same) = (
  n ∙ e,
  (
    zero ∙ sym (on_refused r.number x 0 not_done),
    (ap word (sym same) ∙ zero ∙ sym (on_refused r.number y 0 not_done), (same, sym (on_refused r.number table room not_done))),
  ),
)
  where
    not_done : r.number ≡ 0 → ⊥
    not_done z = refusal (sym n ∙ z)

-- so the code's refusal is: the word 0 on both sides
pub err-sides : (r : Result Sides Refusal) (e : Refusal) (x y : ℕ) → r ≡ Err e
    → (word (sided r).left ≡ on_done (answered r) x 0) × (word (sided r).right ≡ on_done (answered r) y 0)
unfolding word
err-sides r e x y f =
    let told = refused-sides {A = ℕ} (sided (Err e)) (number_of e) (number_of e) x y 0 0 refl (never e) (refl, refl, refl) in
    rw f (told.1.0, told.1.1.0)
