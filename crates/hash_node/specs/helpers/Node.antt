-- What a node of this crate stands for.
use Rattle.std.specs.Prelude.{ℕ, List}
use Rattle.std.specs.Int.Bits.{bit_or}
use Rattle.theory_blake3.specs.Compression.{compress}
use Rattle.hash_node.specs.declared.Node.{Node}

-- its output with one more flag
unfoldable pub out_of : Node → ℕ → List ℕ
out_of n x = compress n.h n.m n.counter n.len (bit_or n.flags x)
