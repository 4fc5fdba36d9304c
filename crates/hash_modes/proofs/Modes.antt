-- Modes made of key words, and what the entries make of them.
use Rattle.std.specs.Prelude.{Ok}
use Prim.Native.Nat.{ℕ, ◌≤◌}
use mathlib.Core.Path.{◌≡◌, ◌∙◌, ap}
use mathlib.Core.List.{List}
use native.Mathlib.Omega.{arith}
use borrow.Author.Tests.{eq-eqb, le-leb}
use lib.ListN.{length}
use lib.Seq.{take_all}
use Rattle.theory_laws.specs.Lists.{part}
use Rattle.theory_blake3.specs.declared.Mode.{Mode}
use Rattle.theory_blake3.specs.Compression.{cv, iv}
use Rattle.theory_blake3.specs.Chunk.{block}
use Rattle.theory_blake3.specs.Digest.{digest}
use Rattle.theory_blake3.specs.Modes.{under, key_words, material_mode, derived_key}
use Rattle.theory_blake3.proofs.Modes.{key_words_lem}
use Rattle.hash_hasher.specs.declared.hasher.Hasher.{Hasher}
use Rattle.hash_hasher.specs.Whole.{Digested, most_bytes, digest_of}
use Rattle.hash_hasher.specs.Hasher.{new_of}
use Rattle.hash_modes.specs.Answers.{keyed_digest_of, derived_key_of, started, keyed_hasher_of, context_hasher_of}

abbrev mode : List ℕ → ℕ → Mode
mode key flags = record { key = key; flags = flags }

pub same_key : (k k' : List ℕ) (flags : ℕ) → k ≡ k' → mode k flags ≡ mode k' flags
same_key k k' flags e = ap (λ (x : List ℕ). mode x flags) e

-- the words of a key that is read as a block
pub words_of_key : (key w v : List ℕ) → length key ≡ 32 → w ≡ block (part 32 0 key) → v ≡ cv w → v ≡ key_words key
unfolding part
words_of_key key w v n e f = key_words_lem w v key (e ∙ ap block (take_all 32 key (omega arith))) f

-- the context hashed first
pub material_key : (from d k context : List ℕ) → from ≡ iv → d ≡ digest from 32 context → k ≡ key_words d → mode k 64 ≡ material_mode context
unfolding under
material_key from d k context ei ed ek = same_key _ _ 64 (ek ∙ ap key_words (ed ∙ ap (λ (x : List ℕ). digest x 32 context) ei))

-- ---- in one call

pub keyed_made : (key input w : List ℕ) (r : Digested) → length key ≡ 32 → w ≡ key_words key → r ≡ digest_of w 16 input → r ≡ keyed_digest_of key input
unfolding keyed_digest_of digest_of under
keyed_made key input w r n e f = rw (eq-eqb _ _ n) (f ∙ ap (λ (k : List ℕ). digest_of k 16 input) e)

pub derive_made : (context material : List ℕ) (m : Mode) (r : Digested) → length context ≤ most_bytes → m ≡ material_mode context
    → r ≡ digest_of m.key m.flags material → r ≡ derived_key_of context material
unfolding derived_key_of derived_key digest_of under
derive_made context material m r n e f = rw (le-leb _ _ n) (f ∙ ap (λ (x : Mode). digest_of x.key x.flags material) e)

-- ---- by a hasher

pub keyed_begun : (key w : List ℕ) (s : Hasher) → length key ≡ 32 → w ≡ key_words key → s ≡ new_of w 16 → started (Ok s) ≡ keyed_hasher_of key
unfolding keyed_hasher_of
keyed_begun key w s n e f = rw (eq-eqb _ _ n) (ap (λ (x : Hasher). record { number = 0; state = x }) (f ∙ ap (λ (k : List ℕ). new_of k 16) e))

pub context_begun : (context : List ℕ) (m : Mode) (s : Hasher) → length context ≤ most_bytes → m ≡ material_mode context → s ≡ new_of m.key m.flags
    → started (Ok s) ≡ context_hasher_of context
unfolding context_hasher_of
context_begun context m s n e f =
    rw (le-leb _ _ n) (ap (λ (x : Hasher). record { number = 0; state = x }) (f ∙ ap (λ (x : Mode). new_of x.key x.flags) e))
