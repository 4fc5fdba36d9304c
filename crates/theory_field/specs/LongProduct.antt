-- The product of polynomials over two values before any reduction, and what it is to divide by the field's modulus. A number is
-- the polynomial whose coefficient of x^i is its bit i, and the sum of two is their exclusive or.
use Rattle.std.specs.Prelude.{◌≡◌, ℕ, zero, suc, ◌+◌, ◌*◌, ◌/◌, ◌%◌, ◌^◌, ◌<◌}
use Rattle.theory_laws.specs.Xor.{◌⊕◌, sel}

-- a times the polynomial of the n low bits of b: the sum of a times x^i over the set bits i
unfoldable pub long : ℕ → ℕ → ℕ → ℕ
long zero a b = 0
long (suc n) a b = sel (b % 2) a ⊕ long n (2 * a) (b / 2)

infixl 70 ◌·◌
-- the carry-less product of any two numbers. Every set bit of b is among its b low bits
unfoldable pub ◌·◌ : ℕ → ℕ → ℕ
a · b = long b a b

-- x^128 + x^7 + x^2 + x + 1
unfoldable pub modulus : ℕ
modulus = 2 ^ 128 + 2 ^ 7 + 2 ^ 2 + 2 + 1

-- w divided by the modulus: q times the modulus, and s, of degree below 128, remains
pub record Division (w q s : ℕ) : Type 0 where
  pub whole : w ≡ q · modulus ⊕ s
  pub degree : s < 2 ^ 128
