-- The message of a gamma in two pieces: what the messages of one base domain, n and k have in common, and what is left of each. For the
-- contracts of helpers; that both make the message is a law (proofs/Messages).
use Rattle.std.specs.Prelude.{ℕ, List, [], ◌∷◌, ◌++◌}
use Rattle.theory_laws.specs.Lists.{le_bytes}
use Rattle.theory_merkle.specs.Message.{prefixed, serialize_prefix}
use Rattle.theory_code.specs.Gammas.{gamma_label}

-- what the messages have in common, and what is left of each
unfoldable pub gamma_prefix : List ℕ → ℕ → ℕ → List ℕ
gamma_prefix domain n k = serialize_prefix 6 (gamma_label ∷ domain ∷ le_bytes 8 n ∷ le_bytes 8 k ∷ [])

unfoldable pub gamma_rest : ℕ → ℕ → List ℕ
gamma_rest j i = prefixed (le_bytes 8 j) ++ prefixed (le_bytes 8 i)
