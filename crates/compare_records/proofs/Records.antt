-- 32 and 33, in the order of the code.
use Prim.Native.Nat.{ℕ}
use mathlib.Core.Path.{◌≡◌, refl, sym, ◌∙◌, ap}
use mathlib.Core.Bool.{Bool, true, false}
use mathlib.Core.List.{List}
use Rattle.std.specs.Prelude.{Result, Ok, Err}
use Rattle.std.specs.Result.{is_ok}
use Rattle.theory_laws.proofs.Refusals.{not-done}
use Rattle.record_query_check.specs.Answer.{answer}
use Rattle.record_query_check.specs.declared.Rejection.{Rejection}
use lib.Dec.{eqb}
use Rattle.theory_laws.specs.Lists.{same}
use Rattle.theory_record.specs.Query.{Answer, check_query}
use Rattle.theory_compare.specs.Compare.{accepts}
use Rattle.compare_records.specs.helpers.Numbers.{records_number}
use Rattle.theory_record.specs.declared.Trees.{Trees}
use Rattle.theory_record.specs.Scheme.{Scheme, scheme}

-- a record is accepted where the check answers Ok: no refusal has the number 0
pub accepts-is : {A : Type 0} (S : Scheme) (position : ℕ) (challenges roots s : List ℕ) (r : Result A Rejection)
    → answer r ≡ check_query S position challenges roots s → is_ok r ≡ accepts S position challenges roots s
unfolding accepts
accepts-is S position challenges roots s r e = done r ∙ ap (λ (a : Answer). eqb a.number 0) e
  where
    done : {A : Type 0} (r : Result A Rejection) → is_ok r ≡ eqb (answer r).number 0
    done (Ok _) = refl
    done (Err x) = sym (not-done x.refusal)

module _ (base : List ℕ) (how : Trees) (n k position : ℕ) (challenges roots first second : List ℕ) (p : Bool)
    (ep : p ≡ accepts (scheme how base n k) position challenges roots first) where
  pub first-refused : p ≡ false → 32 ≡ records_number base how n k position challenges roots first second
  unfolding records_number
  first-refused h = rw (sym ep ∙ h)

  module _ (hp : p ≡ true) (q : Bool) (eq : q ≡ accepts (scheme how base n k) position challenges roots second) where
    pub second-refused : q ≡ false → 32 ≡ records_number base how n k position challenges roots first second
    unfolding records_number
    second-refused h = rw (sym ep ∙ hp, sym eq ∙ h)

    module _ (hq : q ≡ true) (t : Bool) (et : t ≡ same first second) where
      pub are_equal : t ≡ true → 33 ≡ records_number base how n k position challenges roots first second
      unfolding records_number
      are_equal h = rw (sym ep ∙ hp, sym eq ∙ hq, sym et ∙ h)

      pub are_not : t ≡ false → 0 ≡ records_number base how n k position challenges roots first second
      unfolding records_number
      are_not h = rw (sym ep ∙ hp, sym eq ∙ hq, sym et ∙ h)
