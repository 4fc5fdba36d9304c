-- What the questions put to the input have asked, and room for what is made of it, which the work behind them requires. Rests on the input's length.
use Rattle.std.specs.Prelude.{◌≡◌, ℕ, ◌+◌, ◌*◌, ◌^◌, ◌≤◌}
use Rattle.export_tail_entries.specs.Tail.{input_size}

-- what the questions have asked
pub record Whole (n k len : ℕ) : Type 0 where
  pub k≤ : k ≤ 4
  pub n+k≤ : n + k ≤ 8
  pub size : len ≡ input_size n k

-- buffers for the table, the gammas and the codeword, in halves of words
pub record Buffers (n k table gammas out : ℕ) : Type 0 where
  pub rows : table ≡ 2 * 2 ^ n
  pub factors : gammas ≡ 2 * (k * n)
  pub entries : out ≡ 2 * 2 ^ (n + k)
