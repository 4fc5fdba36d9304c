-- The flags of BLAKE3 (the specification's section 2.2, table of flags). Flags are joined by bitwise or.
use Rattle.std.specs.Prelude.{ℕ, zero, suc}

-- CHUNK_START: the first block of a chunk
abbrev pub chunk_start : ℕ
chunk_start = 1

-- CHUNK_END: the last block of a chunk
abbrev pub chunk_end : ℕ
chunk_end = 2

-- PARENT: a parent node
abbrev pub parent_node : ℕ
parent_node = 4

-- ROOT: the last compression of the root node
abbrev pub root_node : ℕ
root_node = 8

-- KEYED_HASH, DERIVE_KEY_CONTEXT and DERIVE_KEY_MATERIAL: the modes other than hash mode
abbrev pub keyed_hash : ℕ
keyed_hash = 16

abbrev pub derive_key_context : ℕ
derive_key_context = 32

abbrev pub derive_key_material : ℕ
derive_key_material = 64

-- the flag by which a chunk's block begins it, after n blocks: CHUNK_START for the first, none later
abbrev pub start_flag : ℕ → ℕ
start_flag zero = chunk_start
start_flag (suc n) = 0
