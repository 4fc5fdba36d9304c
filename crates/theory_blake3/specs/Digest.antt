-- The root node and its output (the specification's section 2.6), for key words and mode flags, and the digest of hash mode, which takes
-- the IV and no flag (section 2.3). All modes are in Modes.
use Rattle.std.specs.Prelude.{ℕ, List, map}
use Rattle.theory_laws.specs.Lists.{flat, le_bytes}
use Rattle.theory_blake3.specs.Flags.{root_node}
use Rattle.theory_blake3.specs.Compression.{cv, iv}
use Rattle.theory_blake3.specs.Tree.{tree}

-- the output of the root node, 16 words, for an input of at most 2^64 bytes: 2^54 chunks
unfoldable pub root : List ℕ → ℕ → List ℕ → List ℕ
root key d bs = tree key d 54 0 bs root_node

-- the bytes of words, four each, the lowest first
unfoldable pub bytes_of_words32 : List ℕ → List ℕ
bytes_of_words32 ws = flat (map (le_bytes 4) ws)

-- the digest of 32 bytes: the first eight words of the output
unfoldable pub digest : List ℕ → ℕ → List ℕ → List ℕ
digest key d bs = bytes_of_words32 (cv (root key d bs))

-- hash mode
unfoldable pub hash : List ℕ → List ℕ
hash bs = digest iv 0 bs
