-- Digests under a mode have 32 bytes; hash mode is the mode of the IV and no flag; a key's words are the first of its block.
use Prim.Native.Nat.{ℕ, ◌*◌}
use native.Mathlib.Omega.{arith}
use mathlib.Core.Path.{◌≡◌, refl, ◌∙◌, ap}
use mathlib.Core.List.{List}
use lib.ListN.{length}
use Rattle.theory_laws.specs.Table.{at}
use Rattle.theory_laws.proofs.Table.{length-tab, at-tab, tab-ext}
use Rattle.theory_blake3.specs.declared.Mode.{Mode}
use Rattle.theory_blake3.specs.Compression.{cv}
use Rattle.theory_blake3.specs.Chunk.{word, block}
use Rattle.theory_blake3.specs.Digest.{root, digest, hash}
use Rattle.theory_blake3.specs.Modes.{under, hash_mode, key_words}
use Rattle.theory_blake3.proofs.Words.{length-bytes_of_words32}

pub length-under : (m : Mode) (bs : List ℕ) → length (under m bs) ≡ 32
unfolding under digest cv
length-under m bs = length-bytes_of_words32 (cv (root m.key m.flags bs)) ∙ ap (λ n. 4 * n) (length-tab 8 (at (root m.key m.flags bs)))

-- hash mode by its name, which the gammas have, and as a mode
pub hash-under : (bs : List ℕ) → under hash_mode bs ≡ hash bs
unfolding under hash
hash-under bs = refl

-- the words of a key of 32 bytes, read as a block
pub key_words_lem : (w v bs : List ℕ) → w ≡ block bs → v ≡ cv w → v ≡ key_words bs
unfolding key_words cv block
key_words_lem w v bs e f = f ∙ ap (λ (x : List ℕ). cv x) e ∙ tab-ext 8 (λ i h. at-tab 16 (word bs) i (omega arith))
