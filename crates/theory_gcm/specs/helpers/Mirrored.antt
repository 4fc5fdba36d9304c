-- Bytes with their bits in the other order, as code turns them. For the contracts of helpers.
use Rattle.std.specs.Prelude.{ℕ, ◌-◌, map}
use Rattle.theory_laws.specs.Xor.{bit}
use Rattle.theory_laws.specs.Table.{tab}
use Rattle.theory_laws.specs.Lists.{le_bytes, le_value}
use Rattle.theory_gcm.specs.Strings.{number_of}

-- a byte, its bit i being bit 7 - i
unfoldable pub mirrored : ℕ → ℕ
mirrored b = number_of (tab 8 (λ i. bit (7 - i) b))

-- a number of n bytes, each of them mirrored
unfoldable pub turned : ℕ → ℕ → ℕ
turned n x = le_value (map mirrored (le_bytes n x))
