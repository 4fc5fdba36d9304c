-- P(z), the multilinear extension of a table at a point (SPECIFICATION 2.7). Rests on the equality table.
use Rattle.std.specs.Prelude.{ℕ, ◌^◌, List, length}
use Rattle.theory_laws.specs.Sum.{sum}
use Rattle.theory_field.specs.Field.{◌⊗◌}
use Rattle.theory_multilinear.specs.Equality.{eq_at}

-- the sum over v of word v times entry v of z's equality table. A table is a function of places; a list t comes in as `at t`
unfoldable pub mle : (ℕ → ℕ) → List ℕ → ℕ
mle t z = sum (2 ^ length z) (λ v. t v ⊗ eq_at z v)
