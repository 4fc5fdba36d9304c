-- Parent nodes (the specification's section 2.5) and the tree over the chunks (section 2.1), for key words and mode flags d.
use Rattle.std.specs.Prelude.{ℕ, zero, suc, ◌+◌, ◌*◌, ◌^◌, List, ◌++◌, take, drop, length, leb}
use Rattle.std.specs.Int.Bits.{bit_or}
use Rattle.theory_laws.specs.Questions.{pick}
use Rattle.theory_blake3.specs.Flags.{parent_node}
use Rattle.theory_blake3.specs.Compression.{cv, compress}
use Rattle.theory_blake3.specs.Chunk.{chunk}

-- a parent's block: the chaining values of its two children
unfoldable pub pair : List ℕ → List ℕ → List ℕ
pair l r = cv l ++ cv r

-- a parent over two chaining values
unfoldable pub parent : List ℕ → ℕ → List ℕ → List ℕ → ℕ → List ℕ
parent key d l r x = compress key (pair l r) 0 64 (bit_or (bit_or d parent_node) x)

-- the bytes of 2^k chunks
abbrev pub chunks_bytes : ℕ → ℕ
chunks_bytes k = 1024 * 2 ^ k

-- the tree over at most 2^k chunks, of which the first has the number t. Where 2^(k-1) chunks hold all of the bytes it is the tree
-- over those; else it is a parent, whose left subtree is 2^(k-1) chunks, all full, and whose right subtree has the rest. That the left
-- subtree is the largest power of two of chunks that leaves something to the right is a law (proofs/Tree, `tree_is`)
unfoldable pub tree : List ℕ → ℕ → ℕ → ℕ → List ℕ → ℕ → List ℕ
tree key d zero t bs x = chunk key d t bs x
tree key d (suc k) t bs x =
    let a = tree key d k t bs x in
    let l = cv (tree key d k t (take (chunks_bytes k) bs) 0) in
    let r = cv (tree key d k (t + 2 ^ k) (drop (chunks_bytes k) bs) 0) in
    let b = parent key d l r x in
    pick (leb (length bs) (chunks_bytes k)) a b
