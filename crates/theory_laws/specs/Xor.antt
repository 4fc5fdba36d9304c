-- Naturals as bit strings: exclusive or, the bit at a place, and a value chosen by a bit.
use Rattle.std.specs.Prelude.{ℕ, zero, suc, ◌/◌, ◌%◌, ◌^◌}
use Rattle.std.specs.Int.Bits.{bit_xor}

infixl 65 ◌⊕◌
-- exclusive or; shut, so that laws are found by this name
unfoldable pub ◌⊕◌ : ℕ → ℕ → ℕ
a ⊕ b = bit_xor a b

-- bit i of w
abbrev pub bit : ℕ → ℕ → ℕ
bit i w = w / 2 ^ i % 2

-- x where the bit b is set, else 0
unfoldable pub sel : ℕ → ℕ → ℕ
sel zero x = 0
sel (suc b) x = x
