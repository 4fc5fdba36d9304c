-- Finite sums in characteristic two: exclusive or over places.
use Rattle.std.specs.Prelude.{ℕ, zero, suc}
use Rattle.theory_laws.specs.Xor.{◌⊕◌}

-- f 0 ⊕ .. ⊕ f (m - 1)
unfoldable pub sum : ℕ → (ℕ → ℕ) → ℕ
sum zero f = 0
sum (suc m) f = sum m f ⊕ f m
