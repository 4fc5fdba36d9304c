-- The code (SPECIFICATION 6.2 and 6.3): the shifts L(eps), and the codeword of a table, whose entries are P(v + L(eps)). Rests on the
-- multilinear extension.
use Rattle.std.specs.Prelude.{ℕ, ◌+◌, ◌*◌, ◌/◌, ◌%◌, ◌^◌, List, map, length}
use Rattle.theory_laws.specs.Xor.{bit, sel}
use Rattle.theory_laws.specs.Sum.{sum}
use Rattle.theory_laws.specs.Table.{tab, at}
use Rattle.theory_multilinear.specs.Multilinear.{mle}
use Rattle.theory_multilinear.specs.Points.{vertex, add_point}

-- the gamma of (j, i), of k × n words lent with j outer
unfoldable pub gamma : ℕ → List ℕ → ℕ → ℕ → ℕ
gamma n gammas j i = at gammas (j * n + i)

-- coordinate i of L(eps): the sum of gammas (j, i) over the set bits j of eps, for j below k
unfoldable pub shift_at : ℕ → ℕ → List ℕ → ℕ → ℕ → ℕ
shift_at n k gammas eps i = sum k (λ j. sel (bit j eps) (gamma n gammas j i))

-- L(eps), a point of n coordinates
unfoldable pub shift : ℕ → ℕ → List ℕ → ℕ → List ℕ
shift n k gammas eps = tab n (shift_at n k gammas eps)

-- the coordinates of a committed codeword, of which none is folded away: 0 to n - 1
abbrev pub all_coordinates : ℕ → List ℕ
all_coordinates n = tab n (λ i. i)

-- L(eps) of a codeword folded part way: of its n coordinates those of a list, which are not folded away
unfoldable pub shift_over : ℕ → ℕ → List ℕ → List ℕ → ℕ → List ℕ
shift_over n k gammas coordinates eps = map (shift_at n k gammas eps) coordinates

-- entry v of a block whose shift is d: P(v + d)
unfoldable pub block : List ℕ → (ℕ → ℕ) → ℕ → ℕ
block d t v = mle t (add_point (vertex (length d) v) d)

-- blocks of 2^n entries end to end: entry eps × 2^n + v is entry v of block eps
unfoldable pub in_blocks : ℕ → (ℕ → ℕ → ℕ) → ℕ → ℕ
in_blocks n blocks x = blocks (x / 2 ^ n) (x % 2 ^ n)

-- the codeword of a table of 2^n words: 2^k blocks, and entry eps × 2^n + v is P(v + L(eps))
unfoldable pub encode : ℕ → ℕ → List ℕ → List ℕ → List ℕ
encode n k gammas t = tab (2 ^ (n + k)) (in_blocks n (λ eps. block (shift n k gammas eps) (at t)))
