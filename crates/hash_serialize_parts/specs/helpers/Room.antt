-- What question 5 asks of parts and their output, as facts, which the work behind it requires. Rests on the parts.
use Rattle.std.specs.Prelude.{ℕ, ◌+◌, ◌*◌, ◌≡◌, List, length}
use Rattle.hash_serialize_parts.specs.Parts.{total}

pub record Sized (ls : List ℕ) (n out : ℕ) : Type 0 where
  pub sum : total ls ≡ n
  pub size : out ≡ 8 + 8 * length ls + n
