-- The three modes (the specification's section 2.3): each is key words and flags, and a digest under it is the digest of these.
use Rattle.std.specs.Prelude.{ℕ, List}
use Rattle.theory_laws.specs.Table.{tab}
use Rattle.theory_blake3.specs.declared.Mode.{Mode}
use Rattle.theory_blake3.specs.Flags.{keyed_hash, derive_key_context, derive_key_material}
use Rattle.theory_blake3.specs.Compression.{iv}
use Rattle.theory_blake3.specs.Chunk.{word}
use Rattle.theory_blake3.specs.Digest.{digest}

-- the digest of a message under a mode
unfoldable pub under : Mode → List ℕ → List ℕ
under m bs = digest m.key m.flags bs

-- hash mode: the IV, and no flag
abbrev pub hash_mode : Mode
hash_mode = record { key = iv; flags = 0 }

-- keyed mode: the words of a key of 32 bytes
unfoldable pub key_words : List ℕ → List ℕ
key_words bs = tab 8 (word bs)

abbrev pub keyed_mode : List ℕ → Mode
keyed_mode key = record { key = key_words key; flags = keyed_hash }

-- key derivation: the words of the context's digest are the key words for the key material
abbrev pub context_mode : Mode
context_mode = record { key = iv; flags = derive_key_context }

abbrev pub material_mode : List ℕ → Mode
material_mode context = record { key = key_words (under context_mode context); flags = derive_key_material }

-- the key of 32 bytes that a context and key material give
unfoldable pub derived_key : List ℕ → List ℕ → List ℕ
derived_key context material = under (material_mode context) material
