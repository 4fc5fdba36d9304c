-- The gammas' messages: what they have in common and what is left, their lengths, and their digests by a chunk's state.
use mathlib.Core.Path.{◌≡◌, sym, ap, ◌∙◌}
use mathlib.Core.List.{List, ◌++◌, append_assoc, append-nil}
use Prim.Native.Nat.{ℕ, ◌+◌, ◌*◌, ◌≤◌}
use native.Mathlib.Omega.{arith}
use lib.ListN.{length, length-append}
use Rattle.theory_laws.specs.Lists.{part, flat, le_bytes, le_value}
use Rattle.theory_laws.proofs.Lists.{length-le_bytes}
use Rattle.theory_blake3.specs.Compression.{iv}
use Rattle.theory_blake3.specs.Digest.{hash}
use Rattle.hash_chunk.specs.declared.state.ChunkState.{ChunkState}
use Rattle.hash_chunk.specs.State.{started, fed, finished}
use Rattle.hash_chunk.specs.helpers.Room.{Fits}
use Rattle.hash_chunk.proofs.Feed.{fed-append}
use Rattle.hash_chunk.proofs.Stands.{fed-stands, fed-fits, finished-digest}
use Rattle.theory_merkle.specs.Message.{prefixed, serialize_prefix, serialize_parts}
use Rattle.theory_merkle.proofs.Message.{length-prefixed}
use Rattle.theory_code.proofs.Gammas.{length-gamma_message}
use Rattle.theory_code.specs.Gammas.{gamma_label, gamma_message, gamma_of}
use Rattle.code_gamma.specs.helpers.Prefix.{gamma_prefix, gamma_rest}

-- ---- the message, piece by piece

abbrev pub labelled : List ℕ
labelled = le_bytes 8 6 ++ prefixed gamma_label

abbrev pub named : List ℕ → List ℕ
named domain = labelled ++ prefixed domain

abbrev pub sized_by : List ℕ → ℕ → List ℕ
sized_by domain n = named domain ++ prefixed (le_bytes 8 n)

pub prefix-is : (domain : List ℕ) (n k : ℕ) → sized_by domain n ++ prefixed (le_bytes 8 k) ≡ gamma_prefix domain n k
unfolding gamma_prefix serialize_prefix flat
prefix-is domain n k = simp (append_assoc, append-nil)

pub message-is : (domain : List ℕ) (n k j i : ℕ) → gamma_prefix domain n k ++ gamma_rest j i ≡ gamma_message domain n k j i
unfolding gamma_prefix gamma_rest gamma_message serialize_parts serialize_prefix flat
message-is domain n k j i = simp (append_assoc, append-nil)

-- ---- lengths

pub length-number-part : (x : ℕ) → length (prefixed (le_bytes 8 x)) ≡ 16
length-number-part x = length-prefixed (le_bytes 8 x) ∙ ap (◌+◌ 8) (length-le_bytes 8 x)

pub length-labelled : length labelled ≡ 37
unfolding gamma_label
length-labelled = length-append (le_bytes 8 6) (prefixed gamma_label) ∙ omega (arith, length-le_bytes 8 6, length-prefixed gamma_label)

pub length-named : (domain : List ℕ) → length (named domain) ≡ 45 + length domain
length-named domain = length-append labelled (prefixed domain) ∙ omega (arith, length-labelled, length-prefixed domain)

pub length-sized_by : (domain : List ℕ) (n : ℕ) → length (sized_by domain n) ≡ 61 + length domain
length-sized_by domain n = length-append (named domain) (prefixed (le_bytes 8 n)) ∙ omega (arith, length-named domain, length-number-part n)

pub length-gamma_prefix : (domain : List ℕ) (n k : ℕ) → length (gamma_prefix domain n k) ≡ 77 + length domain
length-gamma_prefix domain n k =
    ap length (sym (prefix-is domain n k)) ∙ length-append (sized_by domain n) (prefixed (le_bytes 8 k))
    ∙ omega (arith, length-sized_by domain n, length-number-part k)

pub length-gamma_rest : (j i : ℕ) → length (gamma_rest j i) ≡ 32
unfolding gamma_rest
length-gamma_rest j i = length-append (prefixed (le_bytes 8 j)) (prefixed (le_bytes 8 i)) ∙ omega (arith, length-number-part j, length-number-part i)

-- ---- by a chunk's state

-- a state before the first byte, in hash mode
abbrev pub new : ChunkState
new = started iv 0 0

pub fits-new : (u : ChunkState) (bs : List ℕ) (m n : ℕ) → u ≡ fed new bs → length bs ≡ m → m + n ≤ 1024 → Fits u n
fits-new u bs m n e l h = rw e (fed-fits iv 0 0 bs n (omega arith))

-- the state that the prefix left, fed the rest, is one that was fed the message
fed-message : (u : ChunkState) (domain : List ℕ) (n k j i : ℕ) → u ≡ fed new (gamma_prefix domain n k)
    → fed u (gamma_rest j i) ≡ fed new (gamma_message domain n k j i)
fed-message u domain n k j i e =
    ap (λ (s : ChunkState). fed s (gamma_rest j i)) e
    ∙ sym (fed-append new (gamma_prefix domain n k) (gamma_rest j i)) ∙ ap (fed new) (message-is domain n k j i)

-- its count of bytes
pub message_counted : (u m : ChunkState) (domain : List ℕ) (n k j i : ℕ) → length domain ≤ 200 → u ≡ fed new (gamma_prefix domain n k)
    → m ≡ fed u (gamma_rest j i) → 64 * m.blocks + m.fill ≡ length (gamma_message domain n k j i)
message_counted u m domain n k j i h e f =
    rw (f ∙ fed-message u domain n k j i e)
    (fed-stands iv 0 0 (gamma_message domain n k j i) (omega (arith, length-gamma_message domain n k j i))).total

-- the gamma is read from its digest
pub gamma-fed : (u : ChunkState) (domain : List ℕ) (n k j i w : ℕ) → length domain ≤ 200 → u ≡ fed new (gamma_prefix domain n k)
    → w ≡ le_value (part 16 0 (finished (fed u (gamma_rest j i)))) → w ≡ gamma_of hash domain n k j i
unfolding gamma_of hash
gamma-fed u domain n k j i w h e f =
    f ∙ ap (λ (d : List ℕ). le_value (part 16 0 d))
    (ap finished (fed-message u domain n k j i e) ∙ finished-digest iv 0 (gamma_message domain n k j i) (omega (arith, length-gamma_message domain n k j i)))
