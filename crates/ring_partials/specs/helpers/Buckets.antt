-- Buckets, for the contracts of helpers: 32 rows of 16, and bucket x of row j holds the sum of the entries whose word has the
-- nibble j equal to x. That the partial evaluations come out of them is a law (proofs/Buckets).
use Rattle.std.specs.Prelude.{◌≡◌, List, ℕ, ◌+◌, ◌*◌, ◌/◌, ◌%◌}
use Rattle.theory_laws.specs.Xor.{◌⊕◌, bit, sel}
use Rattle.theory_laws.specs.Sum.{sum}
use Rattle.theory_laws.specs.Table.{at}

-- what buckets hold for bit b, which is bit b % 4 of nibble b / 4: the sum of the buckets x of that row whose x has the bit
unfoldable pub gathered : List ℕ → ℕ → ℕ
gathered buckets b = sum 16 (λ x. sel (bit (b % 4) x) (at buckets (b / 4 * 16 + x)))

-- vs are the buckets bs after the entry e of the word w came in
abbrev pub Gathered : ℕ → ℕ → List ℕ → List ℕ → Type 0
Gathered w e bs vs = (b : ℕ) → gathered vs b ≡ gathered bs b ⊕ sel (bit b w) e
