-- The order in which each of the seven rounds takes the message's words, so that the message itself need not be permuted: the powers
-- of the permutation. That the rounds are the same is a law (proofs/Compression).
use Rattle.std.specs.Prelude.{ℕ, zero, suc, ◌<◌, List, [], ◌∷◌}
use Rattle.theory_laws.specs.Table.{tab, at}
use Rattle.theory_blake3.specs.Compression.{permuted, round}

-- o, o permuted, o permuted twice, ..: n orders
unfoldable pub powers : ℕ → List ℕ → List (List ℕ)
powers zero o = []
powers (suc n) o = o ∷ powers n (permuted o)

unfoldable pub orders : List (List ℕ)
orders = powers 7 (tab 16 (λ i. i))

-- each of 16 places is below 16
unfoldable pub Small : List ℕ → Type 0
Small o = (i : ℕ) → i < 16 → at o i < 16

-- the message's words in the order o
unfoldable pub ordered : List ℕ → List ℕ → List ℕ
ordered m o = tab 16 (λ i. at m (at o i))

-- a round for each order
unfoldable pub rounds_by : List (List ℕ) → List ℕ → List ℕ → List ℕ
rounds_by [] s m = s
rounds_by (o ∷ os) s m = rounds_by os (round s (ordered m o)) m
