-- What an arm has is what the function answers: the fields are those of the case that the arm is for. Rests on nothing.
use mathlib.Core.Path.{◌≡◌, sym, ap, ◌∙◌}
use Rattle.theory_record.specs.Profiles.{Parameters, Fields, fields_of}

-- the parameters of y are those of x, which is y
pub told : {A : Type 0} (of : A → Parameters) {f : Fields} {x y : A} → f ≡ fields_of (of y) → x ≡ y → f ≡ fields_of (of x)
told of e h = e ∙ sym (ap (λ x. fields_of (of x)) h)
