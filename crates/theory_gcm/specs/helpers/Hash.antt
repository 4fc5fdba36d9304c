-- GHASH by words, from any word on. For the contracts of helpers.
use Rattle.std.specs.Prelude.{ℕ, List, [], ◌∷◌}
use Rattle.theory_laws.specs.Xor.{◌⊕◌}
use Rattle.theory_field.specs.Field.{◌⊗◌}

-- y, and for each word its sum with what there is, times h
unfoldable pub hash_from : ℕ → ℕ → List ℕ → ℕ
hash_from h y [] = y
hash_from h y (w ∷ ws) = hash_from h ((y ⊕ w) ⊗ h) ws
