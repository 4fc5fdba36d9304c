-- What the entries of the keyed mode and of key derivation answer, with their questions (SPECIFICATION 8.4). Rests on the modes and the hasher.
use Rattle.std.specs.Prelude.{ℕ, List, [], ◌∷◌, Result, Ok, Err, leb, eqb, length, replicate}
use Rattle.theory_laws.specs.Questions.{Question, ◌asks◌, first_no, on_done}
use Rattle.theory_blake3.specs.declared.Mode.{Mode}
use Rattle.theory_blake3.specs.Modes.{under, keyed_mode, material_mode, derived_key}
use Rattle.theory_laws.specs.declared.Refusal.{Refusal}
use Rattle.hash_hasher.specs.declared.hasher.Hasher.{Hasher}
use Rattle.hash_hasher.specs.Whole.{Digested, most_bytes, answered, digest_questions}
use Rattle.hash_hasher.specs.Hasher.{Updated, updated, new_of}

-- ---- keyed mode: a key is 32 bytes (5), an input at most 2^24 (13)

abbrev pub key_questions : List ℕ → List Question
key_questions key = (5 asks eqb (length key) 32) ∷ []

abbrev pub keyed_questions : List ℕ → List ℕ → List Question
keyed_questions key bs = (5 asks eqb (length key) 32) ∷ digest_questions bs

unfoldable pub keyed_digest_of : List ℕ → List ℕ → Digested
keyed_digest_of key bs = answered (first_no (keyed_questions key bs)) (under (keyed_mode key) bs)

-- ---- key derivation: a context and its key material are at most 2^24 bytes each (13)

abbrev pub derive_questions : List ℕ → List ℕ → List Question
derive_questions context material = (13 asks leb (length context) most_bytes) ∷ digest_questions material

unfoldable pub derived_key_of : List ℕ → List ℕ → Digested
derived_key_of context material = answered (first_no (derive_questions context material)) (derived_key context material)

-- ---- hashers: the state before the first byte under a mode; refused, a state of zeros

abbrev pub begun : ℕ → List ℕ → ℕ → Updated
begun q key d = record { number = q; state = new_of key d }

abbrev pub begun_under : ℕ → Mode → Updated
begun_under q m = on_done q (begun 0 m.key m.flags) (begun q (replicate 8 0) 0)

-- the same of what a call that starts a hasher returns
abbrev pub started : Result Hasher Refusal → Updated
started r = updated (new_of (replicate 8 0) 0) r

unfoldable pub keyed_hasher_of : List ℕ → Updated
keyed_hasher_of key = begun_under (first_no (key_questions key)) (keyed_mode key)

unfoldable pub context_hasher_of : List ℕ → Updated
context_hasher_of context = begun_under (first_no (digest_questions context)) (material_mode context)
