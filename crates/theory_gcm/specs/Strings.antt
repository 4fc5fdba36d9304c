-- Bit strings of SP 800-38D, and the operations on them that its section 6 uses: a list of zeros and ones, the leftmost bit first.
use Rattle.std.specs.Prelude.{ℕ, ◌+◌, ◌-◌, ◌*◌, List, [], ◌∷◌, length, take}
use Rattle.theory_laws.specs.Xor.{◌⊕◌, bit}
use Rattle.theory_laws.specs.Table.{tab, at}

infixl 65 ◌⊻◌
-- X ⊕ Y, bit by bit, of two strings of one length
unfoldable pub ◌⊻◌ : List ℕ → List ℕ → List ℕ
[] ⊻ y = []
(a ∷ x) ⊻ [] = []
(a ∷ x) ⊻ (b ∷ y) = (a ⊕ b) ∷ (x ⊻ y)

-- X >> 1: a zero comes in at the left, and the rightmost bit falls off
unfoldable pub shifted_right : List ℕ → List ℕ
shifted_right x = take (length x) (0 ∷ x)

-- LSB_1(X): the rightmost bit
unfoldable pub rightmost : List ℕ → ℕ
rightmost x = at x (length x - 1)

-- the number whose bit i is bit i of the string, the leftmost being bit 0
unfoldable pub number_of : List ℕ → ℕ
number_of [] = 0
number_of (b ∷ x) = number_of x * 2 + b

-- the n low bits of a number, bit 0 leftmost
unfoldable pub bits_of : ℕ → ℕ → List ℕ
bits_of n w = tab n (λ i. bit i w)
