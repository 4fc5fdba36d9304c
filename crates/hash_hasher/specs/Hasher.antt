-- What the hasher's calls answer, for every state: also for one whose counters agree but whose contents nobody made. That a state which
-- was made by `new` and any sequence of updates gives the digest of all the bytes is a law (proofs/Sequence).
use Rattle.std.specs.Prelude.{ℕ, ◌+◌, ◌*◌, min, List, [], ◌∷◌, Result, Ok, Err, leb, eqb, length, replicate}
use Rattle.std.specs.Int.Count.{ones, count_trailing_zeros}
use Rattle.theory_laws.specs.Questions.{pick, Question, ◌asks◌, first_no, on_done}
use Rattle.theory_laws.specs.Refusals as refusals
use Rattle.theory_laws.specs.declared.Refusal.{Refusal}
use Rattle.theory_blake3.specs.declared.Mode.{Mode}
use Rattle.theory_blake3.specs.Flags.{root_node}
use Rattle.theory_blake3.specs.Compression.{cv}
use Rattle.theory_blake3.specs.Digest.{bytes_of_words32}
use Rattle.theory_blake3.specs.Stack.{entries, fold, pushed, pushed_depth}
use Rattle.hash_chunk.specs.declared.state.ChunkState.{ChunkState}
use Rattle.hash_chunk.specs.State.{fed_byte, last_of}
use Rattle.hash_stack.specs.declared.Stack.{Stack}
use Rattle.hash_hasher.specs.declared.hasher.Hasher.{Hasher}
use Rattle.hash_hasher.specs.Whole.{Digested, most_bytes, answered}

-- the state before the first byte
unfoldable pub new_of : List ℕ → ℕ → Hasher
new_of key d = record {
  key = key;
  chunk = record { h = key; blocks = 0; block = replicate 64 0; fill = 0; counter = 0; flags = d };
  stack = record { values = replicate 112 0; depth = 0 };
  len = 0;
}

-- ---- question 13: do the state's counters agree with its byte count, and has it at most 2^24 bytes with this call's n?
abbrev pub questions : Hasher → ℕ → List Question
questions s n =
    (13 asks leb (s.len + n) most_bytes)
    ∷ (13 asks leb s.chunk.blocks 15)
    ∷ (13 asks leb s.chunk.fill 64)
    ∷ (13 asks eqb s.len (1024 * s.chunk.counter + 64 * s.chunk.blocks + s.chunk.fill))
    ∷ (13 asks leb (min 1 s.len) s.chunk.fill)
    ∷ (13 asks eqb s.stack.depth (ones s.chunk.counter))
    ∷ []

unfoldable pub number_of : Hasher → ℕ → ℕ
number_of s n = first_no (questions s n)

-- ---- update

-- the mode of a state: its flags are those of the chunk
abbrev pub mode_of : Hasher → Mode
mode_of s = record { key = s.key; flags = s.chunk.flags }

-- the state with another unfinished chunk and another count of bytes
abbrev pub with_chunk : Hasher → ChunkState → ℕ → Hasher
with_chunk s c n = record { key = s.key; chunk = c; stack = s.stack; len = n }

-- one chunk more is finished, and this is the stack
abbrev pub new_chunk : Hasher → Stack → Hasher
new_chunk s stack = record {
  key = s.key;
  chunk = record { h = s.key; blocks = 0; block = replicate 64 0; fill = 0; counter = s.chunk.counter + 1; flags = s.chunk.flags };
  stack = stack;
  len = s.len;
}

-- the chunk is finished: its chaining value is joined to as many values on the stack as the new count has trailing zeros
unfoldable pub next_chunk : Hasher → Hasher
next_chunk s =
    let m = count_trailing_zeros 64 (s.chunk.counter + 1) in
    new_chunk s
    (record { values = pushed s.key s.chunk.flags m s.stack.values s.stack.depth (cv (last_of s.chunk 0)); depth = pushed_depth m s.stack.depth })

-- room for a byte that follows: a full chunk is finished
abbrev pub roomy : Hasher → Hasher
roomy s = pick (eqb (64 * s.chunk.blocks + s.chunk.fill) 1024) (next_chunk s) s

-- one byte more
unfoldable pub taken : Hasher → ℕ → Hasher
taken s b = with_chunk (roomy s) (fed_byte ((roomy s).chunk) b) ((roomy s).len + 1)

-- bytes more, one after the other
unfoldable pub absorbed : Hasher → List ℕ → Hasher
absorbed s [] = s
absorbed s (b ∷ bs) = absorbed (taken s b) bs

-- a state, with the number of the question that refused the call: 0 where it was done
pub record Updated : Type 0 where
  pub number : ℕ
  pub state : Hasher

-- the same of what a call on a state returns: the next state, or a refusal, which leaves the old one
abbrev pub updated : Hasher → Result Hasher Refusal → Updated
updated s (Ok next) = record { number = 0; state = next }
updated s (Err e) = record { number = refusals.number_of e; state = s }

-- an update: the state with the bytes, or the old state whole
unfoldable pub update_of : Hasher → List ℕ → Updated
update_of s bs = record { number = number_of s (length bs); state = on_done (number_of s (length bs)) (absorbed s bs) s }

-- ---- finalize

-- the bytes of the root over the stack and the unfinished chunk
unfoldable pub finished : Hasher → List ℕ
finished s = bytes_of_words32 (cv (fold s.key s.chunk.flags (entries s.stack.values s.stack.depth) (last_of s.chunk) root_node))

unfoldable pub finalize_of : Hasher → Digested
finalize_of s = answered (number_of s 0) (finished s)
