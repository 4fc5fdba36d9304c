-- The equality table of a point (SPECIFICATION 2.6; for row coefficients, a point of 7 coordinates). Rests on the field.
use Rattle.std.specs.Prelude.{ℕ, zero, suc, ◌^◌, List, length}
use Rattle.theory_laws.specs.Xor.{◌⊕◌, bit}
use Rattle.theory_laws.specs.Table.{tab, at}
use Rattle.theory_field.specs.Field.{◌⊗◌}

-- f 0 ⊗ .. ⊗ f (m - 1)
unfoldable pub prod : ℕ → (ℕ → ℕ) → ℕ
prod zero f = 1
prod (suc m) f = prod m f ⊗ f m

-- what a coordinate z puts in: z where the bit is 1, else 1 + z
unfoldable pub factor : ℕ → ℕ → ℕ
factor z zero = 1 ⊕ z
factor z (suc b) = z

-- entry v: the product over j of z[j] where bit j of v is 1, else 1 + z[j]. Bit 0 of v goes with the first coordinate
unfoldable pub eq_at : List ℕ → ℕ → ℕ
eq_at z v = prod (length z) (λ j. factor (at z j) (bit j v))

-- the table, of 2^n entries for n coordinates; of the empty point, the single entry 1
unfoldable pub eq_table : List ℕ → List ℕ
eq_table z = tab (2 ^ length z) (eq_at z)
