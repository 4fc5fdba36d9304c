-- The field GF(2^128) of SP 800-38D, section 6.3, in the bit order of SPECIFICATION 2.1: a word is a number below 2^128, and its bit i is
-- the coefficient of x^i. The sum of two words is their exclusive or. Their product is the product of polynomials over two
-- values, reduced by x^128 + x^7 + x^2 + x + 1: that it is the remainder, and the only one, is a law (proofs/Remainder).
use Rattle.std.specs.Prelude.{ℕ, zero, suc, ◌*◌, ◌/◌, ◌%◌, ◌^◌}
use Rattle.theory_laws.specs.Xor.{◌⊕◌, bit, sel}

-- x^7 + x^2 + x + 1, to which x^128 is reduced
unfoldable pub reduction : ℕ
reduction = 0x87

-- a word times x: moved up by one place, and reduced where bit 127 was set
unfoldable pub xtime : ℕ → ℕ
xtime v = sel (bit 127 v) reduction ⊕ 2 * v % 2 ^ 128

-- a times the polynomial of the n low bits of b: the sum of a × x^i over the set bits i
unfoldable pub mul_bits : ℕ → ℕ → ℕ → ℕ
mul_bits zero a b = 0
mul_bits (suc n) a b = sel (b % 2) a ⊕ mul_bits n (xtime a) (b / 2)

infixl 70 ◌⊗◌
-- the product of two words. Of any two numbers it is the product of their 128 low bits, so that the laws of a ring hold of all
-- numbers, with no bound to carry
unfoldable pub ◌⊗◌ : ℕ → ℕ → ℕ
a ⊗ b = mul_bits 128 (a % 2 ^ 128) b

-- the square
unfoldable pub sq : ℕ → ℕ
sq v = v ⊗ v

-- n squarings one after another: a^(2^n)
unfoldable pub frob : ℕ → ℕ → ℕ
frob zero a = a
frob (suc n) a = frob n (sq a)

-- a × a^2 × a^4 × .. × a^(2^(n-1)), which is a^(2^n - 1)
unfoldable pub ladder : ℕ → ℕ → ℕ
ladder zero a = 1
ladder (suc n) a = ladder n a ⊗ frob n a

-- the inverse, a^(2^128 - 2); 0 for 0. That a ⊗ inverse a is 1 for every other word, and that no other word has this product,
-- are laws (proofs/Inverse)
unfoldable pub inverse : ℕ → ℕ
inverse a = ladder 127 (sq a)
