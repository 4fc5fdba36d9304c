-- Folding a table at a variable (SPECIFICATION 6.4). Rests on the field and on the places of a pair that differ in one bit.
use Rattle.std.specs.Prelude.{ℕ, ◌/◌, List, length}
use Rattle.theory_laws.specs.Xor.{◌⊕◌}
use Rattle.theory_laws.specs.Table.{tab, at}
use Rattle.theory_laws.specs.Places.{ins}
use Rattle.theory_field.specs.Field.{◌⊗◌}

-- a + r × (a + b): on the line through a, at 0, and b, at 1, the value at r
unfoldable pub line : ℕ → ℕ → ℕ → ℕ
line r a b = a ⊕ r ⊗ (a ⊕ b)

-- the fold at variable i by r: entry v comes of the pair of places that differ in bit i and are v with that bit closed up
unfoldable pub fold_at : ℕ → ℕ → (ℕ → ℕ) → ℕ → ℕ
fold_at i r t v = line r (t (ins i 0 v)) (t (ins i 1 v))

-- the same of a list, which it halves
unfoldable pub fold_list : ℕ → ℕ → List ℕ → List ℕ
fold_list i r l = tab (length l / 2) (fold_at i r (at l))
