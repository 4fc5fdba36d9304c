-- One of the seven rounds.
use Rattle.std.specs.Prelude.{ℕ, List, [], slice_index_or}
use Rattle.theory_blake3.specs.Compression.{round}
use Rattle.theory_blake3.specs.Orders.{orders, ordered}

-- round r of the state s, with the message's words in the order of that round
abbrev pub round_at : ℕ → List ℕ → List ℕ → List ℕ
round_at r s m = round s (ordered m (slice_index_or orders r []))
