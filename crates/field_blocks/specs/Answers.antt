-- What the entries on runs of blocks answer: question 5 (SPECIFICATION 8.2) asks that a run is whole blocks and the output has their room.
use Rattle.std.specs.Prelude.{ℕ, ◌*◌, ◌/◌, ◌%◌, List, [], ◌∷◌, map, eqb, length, replicate, Result, Ok, Err}
use Rattle.theory_laws.specs.Lists.{flat}
use Rattle.theory_laws.specs.Questions.{Question, ◌asks◌, first_no, on_done}
use Rattle.theory_gcm.specs.Blocks.{imported, exported, blocks, ghash_bytes}
use Rattle.theory_laws.specs.Refusals.{number_of}
use Rattle.theory_laws.specs.declared.Refusal.{Refusal}
use Rattle.field_blocks.specs.declared.Block.{Block}
use Rattle.field_blocks.specs.Block.{block}

-- a run of blocks of so many bytes, and its words of so many u64, two to a word
abbrev pub run_questions : ℕ → ℕ → List Question
run_questions bytes halves = (5 asks eqb (bytes % 16) 0) ∷ (5 asks eqb halves (2 * (bytes / 16))) ∷ []

unfoldable pub run_number : ℕ → ℕ → ℕ
run_number bytes halves = first_no (run_questions bytes halves)

-- the words of a run of blocks
unfoldable pub imported_run : List ℕ → List ℕ
imported_run bytes = map imported (blocks bytes)

-- the blocks of words, end to end
unfoldable pub exported_run : List ℕ → List ℕ
exported_run ws = flat (map exported ws)

-- the code's answer: 0 and the block, or the number of the refusal and a block of zeros
unfoldable pub answer : Result Block Refusal → ℕ × List ℕ
answer (Ok b) = (0, block b)
answer (Err e) = (number_of e, replicate 16 0)

-- a run of so many bytes to hash
abbrev pub hash_questions : ℕ → List Question
hash_questions bytes = (5 asks eqb (bytes % 16) 0) ∷ []

unfoldable pub hash_number : ℕ → ℕ
hash_number bytes = first_no (hash_questions bytes)

-- 0 and the standard's hash; or the number of the refusal and a block of zeros
unfoldable pub hashed_of : List ℕ → List ℕ → ℕ × List ℕ
hashed_of key bytes = (hash_number (length bytes), on_done (hash_number (length bytes)) (ghash_bytes key bytes) (replicate 16 0))
