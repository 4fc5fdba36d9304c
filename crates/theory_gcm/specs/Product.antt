-- The product of two blocks, X • Y: SP 800-38D, section 6.3, algorithm 1. A block is a string of 128 bits.
use Rattle.std.specs.Prelude.{ℕ, List, [], ◌∷◌, eqb, replicate}
use Rattle.theory_laws.specs.Questions.{pick}
use Rattle.theory_gcm.specs.Strings.{◌⊻◌, shifted_right, rightmost}

-- 0^128
unfoldable pub zero_block : List ℕ
zero_block = replicate 128 0

-- 11100001 || 0^120
unfoldable pub R : List ℕ
R = 1 ∷ 1 ∷ 1 ∷ 0 ∷ 0 ∷ 0 ∷ 0 ∷ 1 ∷ replicate 120 0

-- V_(i+1): V_i >> 1, plus R where the rightmost bit of V_i is 1
unfoldable pub next_v : List ℕ → List ℕ
next_v v = pick (eqb (rightmost v) 1) (shifted_right v ⊻ R) (shifted_right v)

-- step 3, for each bit x_i of X from the left: Z_(i+1) is Z_i, plus V_i where x_i is 1
unfoldable pub steps : List ℕ → List ℕ → List ℕ → List ℕ
steps [] z v = z
steps (b ∷ x) z v = steps x (pick (eqb b 1) (z ⊻ v) z) (next_v v)

infixl 70 ◌•◌
-- Z_128, from Z_0 = 0^128 and V_0 = Y
unfoldable pub ◌•◌ : List ℕ → List ℕ → List ℕ
x • y = steps x zero_block y
