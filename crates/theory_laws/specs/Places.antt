-- The two places of a pair that differ in bit i. In a table of 2^n entries bit i of a place goes with coordinate i.
use Rattle.std.specs.Prelude.{ℕ, zero, suc, ◌+◌, ◌-◌, ◌*◌, ◌/◌, ◌%◌}

-- v with the bit b put in at place i, the bits from i on moved up
unfoldable pub ins : ℕ → ℕ → ℕ → ℕ
ins zero b v = v * 2 + b
ins (suc i) b v = ins i b (v / 2) * 2 + v % 2

-- v without its bit i, the bits above it closed up
unfoldable pub del : ℕ → ℕ → ℕ
del zero v = v / 2
del (suc i) v = del i (v / 2) * 2 + v % 2

-- v with its bit i changed
unfoldable pub flip : ℕ → ℕ → ℕ
flip zero v = v / 2 * 2 + (1 - v % 2)
flip (suc i) v = flip i (v / 2) * 2 + v % 2
