-- The two identities that tie the partials to the table (SPECIFICATION 3.5), in the terms of the contracts of `eq_table`, `partial_evals`,
-- `eq_coefficients`, `fold_partials` and `materialize`. Words and points are as they are lent, in halves; a row point and row coefficients are by value.
use Rattle.std.specs.Prelude.{◌≡◌, List, ◌++◌, ℕ, ◌*◌, ◌^◌, length}
use Rattle.theory_laws.specs.Sum.{sum}
use Rattle.theory_laws.specs.Table.{at}
use Rattle.theory_field.specs.Field.{◌⊗◌}
use Rattle.theory_field.specs.Words.{words}
use Rattle.theory_multilinear.specs.Equality.{eq_table}
use Rattle.theory_multilinear.specs.Multilinear.{mle}
use Rattle.theory_multilinear.specs.Partials.{partial_evals, bits_of, fold_partials, materialize}
use Rattle.field_gf128.specs.declared.Word.{Word}
use Rattle.field_pack.specs.Phi.{numbers, coefficients}
use Rattle.ring_partials.specs.Answers.{partials_of}

-- ---- the sides

-- the sum over b of s_b times c[b]
abbrev pub row_sum : List ℕ → List ℕ → ℕ
row_sum s c = sum 128 (λ b. at s b ⊗ at c b)

-- the multilinear extension of the words' 128 × 2^n bits, at the row point's 7 coordinates followed by the point's n
abbrev pub extension_of_bits : List ℕ → List ℕ → List Word → ℕ
extension_of_bits packed point row = mle (bits_of (at (words packed))) (numbers row ++ words point)

-- the sum over v, of 2^n, of word v times entry v of a table
abbrev pub sum_with_table : ℕ → List ℕ → List ℕ → ℕ
sum_with_table n packed t = sum (2 ^ n) (λ v. at (words packed) v ⊗ at t v)

-- ---- the identities

-- What is given in both: a point of n coordinates, the table e that `eq_table` leaves for it, and the partials s that `partial_evals` leaves for the
-- packed words and e. Each line after the first is the promise of the entry that it has the name of.
pub record Evaluated (n : ℕ) (packed point e s : List ℕ) : Type 0 where
  pub coordinates : length point ≡ 2 * n
  pub eq_table_left : words e ≡ eq_table (words point)
  pub partial_evals_left : words s ≡ partials_of n packed e

-- both hold (proofs/Identities)
pub record Identities : Type 0 where
  -- c being what `eq_coefficients` answers for a row point: the partials summed with it are the extension of the bits, the row coordinates first
  pub first : (n : ℕ) (packed point e s : List ℕ) (row c : List Word) → Evaluated n packed point e s
      → length row ≡ 7 → numbers c ≡ eq_table (numbers row)
      → row_sum (words s) (numbers c) ≡ extension_of_bits packed point row
  -- t being what `materialize` leaves for the point and any row coefficients: what `fold_partials` answers for the partials is the sum with it
  pub second : (n : ℕ) (packed point e s t : List ℕ) (rb : List Word) → Evaluated n packed point e s
      → words t ≡ materialize (coefficients rb) (words point)
      → fold_partials (at (words s)) (coefficients rb) ≡ sum_with_table n packed (words t)

-- ---- what the entries of this crate answer and leave, of what they are lent alone

-- the partials of packed words over the equality table of a point
abbrev pub partials_at : ℕ → List ℕ → List ℕ → List ℕ
partials_at n packed point = partial_evals n (words packed) (eq_table (words point))

-- summed with the coefficients of a row point, the left side of the first
abbrev pub partials_under_row : ℕ → List ℕ → List ℕ → List Word → ℕ
partials_under_row n packed point row = row_sum (partials_at n packed point) (eq_table (numbers row))

-- folded under row coefficients, the left side of the second
abbrev pub folded_partials : ℕ → List ℕ → List ℕ → List Word → ℕ
folded_partials n packed point rb = fold_partials (at (partials_at n packed point)) (coefficients rb)

-- the indicator's table for a point
abbrev pub indicator_table : List ℕ → List Word → List ℕ
indicator_table point rb = materialize (coefficients rb) (words point)
