-- The gammas (SPECIFICATION 6.1) under a digest function H, which is a variable. Rests on the messages.
use Rattle.std.specs.Prelude.{ℕ, ◌*◌, ◌/◌, ◌%◌, List, [], ◌∷◌}
use Rattle.theory_laws.specs.Table.{tab}
use Rattle.theory_laws.specs.Lists.{part, le_bytes, le_value}
use Rattle.theory_merkle.specs.Message.{serialize_parts}

-- "magnetar/pcs/gamma/v1"
unfoldable pub gamma_label : List ℕ
gamma_label = 109 ∷ 97 ∷ 103 ∷ 110 ∷ 101 ∷ 116 ∷ 97 ∷ 114 ∷ 47 ∷ 112 ∷ 99 ∷ 115 ∷ 47 ∷ 103 ∷ 97 ∷ 109 ∷ 109 ∷ 97 ∷ 47 ∷ 118 ∷ 49 ∷ []

-- the message of the gamma (j, i): six parts, the label, the base domain, n, k, j and i
unfoldable pub gamma_message : List ℕ → ℕ → ℕ → ℕ → ℕ → List ℕ
gamma_message domain n k j i = serialize_parts (gamma_label ∷ domain ∷ le_bytes 8 n ∷ le_bytes 8 k ∷ le_bytes 8 j ∷ le_bytes 8 i ∷ [])

module _ (H : List ℕ → List ℕ) where
  -- the gamma of (j, i): the first 16 bytes of the digest, little-endian
  unfoldable pub gamma_of : List ℕ → ℕ → ℕ → ℕ → ℕ → ℕ
  gamma_of domain n k j i = le_value (part 16 0 (H (gamma_message domain n k j i)))

  -- k × n gammas, j outer
  unfoldable pub gammas : List ℕ → ℕ → ℕ → List ℕ
  gammas domain n k = tab (k * n) (λ v. gamma_of domain n k (v / n) (v % n))
