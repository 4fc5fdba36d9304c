-- Words folded, and the pair of a position.
use Prim.Native.Nat.{ℕ, ◌+◌, ◌/◌, ◌^◌}
use mathlib.Core.Path.{◌≡◌, ◌∙◌, ap}
use native.Mathlib.Numerals.{add-one}
use Rattle.theory_laws.specs.Xor.{◌⊕◌}
use Rattle.theory_field.specs.Field.{◌⊗◌}
use Rattle.theory_record.specs.Query.{pair_of}

pub fold_is : (x a b r m t : ℕ) → x ≡ a ⊕ m → m ≡ r ⊗ t → t ≡ a ⊕ b → x ≡ a ⊕ r ⊗ (a ⊕ b)
fold_is x a b r m t e f g = e ∙ ap (λ (y : ℕ). a ⊕ y) (f ∙ ap (λ (y : ℕ). r ⊗ y) g)

pub pair_is : (p l : ℕ) → p / 2 ^ (l + 1) ≡ pair_of p l
unfolding pair_of
pair_is p l = rw add-one
