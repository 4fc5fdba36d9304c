-- What `partial_evals` leaves, of packed words and a table as they are lent. Rests on the partial evaluations.
use Rattle.std.specs.Prelude.{ℕ, List}
use Rattle.theory_field.specs.Words.{words}
use Rattle.theory_multilinear.specs.Partials.{partial_evals}

abbrev pub partials_of : ℕ → List ℕ → List ℕ → List ℕ
partials_of n packed eq = partial_evals n (words packed) (words eq)
