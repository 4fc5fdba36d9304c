-- A number's bits spread apart, as squaring does it (SPECIFICATION 2.3): a square is a word's bits spread apart, then reduced
-- (proofs/Spread). And the table of bytes spread apart.
use Rattle.std.specs.Prelude.{◌≡◌, List, ℕ, zero, suc, ◌+◌, ◌*◌, ◌/◌, ◌%◌, ◌^◌, ◌<◌}
use Rattle.theory_laws.specs.Xor.{◌⊕◌, bit}
use Rattle.theory_laws.specs.Table.{tab}

-- the n low bits of v, bit i moved to bit 2i
unfoldable pub spread : ℕ → ℕ → ℕ
spread zero v = 0
spread (suc n) v = v % 2 ⊕ spread n (v / 2) * 2 ^ 2

-- the 256 bytes spread apart, in order
unfoldable pub spread_table : List ℕ
spread_table = tab 256 (spread 8)

-- the rule of an entry e for v: its bit 2i is set exactly where v has bit i, and its other bits are 0
pub record SpreadApart (v e : ℕ) : Type 0 where
  pub even : (i : ℕ) → bit (2 * i) e ≡ bit i v
  pub odd : (i : ℕ) → bit (2 * i + 1) e ≡ 0

-- a number of n bits spread apart keeps the rule, and nothing else does (`spread-laws` of proofs/Spread)
pub record SpreadLaws : Type 0 where
  pub rule : (n v : ℕ) → v < 2 ^ n → SpreadApart v (spread n v)
  pub no_other : (n v e : ℕ) → v < 2 ^ n → SpreadApart v e → e ≡ spread n v
