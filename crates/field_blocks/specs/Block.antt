-- A block of the code in its 16 bytes.
use Rattle.std.specs.Prelude.{ℕ, List, ◌++◌}
use Rattle.theory_laws.specs.Lists.{le_bytes}
use Rattle.field_blocks.specs.declared.Block.{Block}

unfoldable pub block : Block → List ℕ
block b = le_bytes 8 b.first ++ le_bytes 8 b.second
