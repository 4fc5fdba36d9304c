-- What a function leaves that writes bytes into a lent buffer.
use Rattle.std.specs.Prelude.{ℕ, ◌+◌, ◌≡◌, List, length}
use Rattle.theory_laws.specs.Lists.{stored}

-- of the buffer before, the n bytes bs stored from a place on make the buffer after, and next is the place after them
pub record Put (before : List ℕ) (from n : ℕ) (bs after : List ℕ) (next : ℕ) : Type 0 where
  pub bytes : after ≡ stored before from bs
  pub size : length bs ≡ n
  pub end : next ≡ from + n
