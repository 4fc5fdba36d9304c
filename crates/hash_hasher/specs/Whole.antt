-- The digest in one call, with question 13 (SPECIFICATION 8.5).
use Rattle.std.specs.Prelude.{ℕ, List, [], ◌∷◌, Result, Ok, Err, leb, length, replicate}
use Rattle.theory_laws.specs.Questions.{Question, ◌asks◌, first_no, on_done}
use Rattle.theory_laws.specs.Refusals.{number_of}
use Rattle.theory_laws.specs.declared.Refusal.{Refusal}
use Rattle.theory_blake3.specs.Digest.{digest}

-- the most bytes of one message: 2^24
abbrev pub most_bytes : ℕ
most_bytes = 16777216

-- a digest, with the number of the question that refused it: 0 where it was made, and zeros where it was not
pub record Digested : Type 0 where
  pub number : ℕ
  pub bytes : List ℕ

-- the same of what a call returns
abbrev pub digested : Result (List ℕ) Refusal → Digested
digested (Ok bytes) = record { number = 0; bytes = bytes }
digested (Err e) = record { number = number_of e; bytes = replicate 32 0 }

-- what a call that makes a digest answers: the digest, or the number of its refusal and zeros
abbrev pub answered : ℕ → List ℕ → Digested
answered q bytes = record { number = q; bytes = on_done q bytes (replicate 32 0) }

-- 13: has it at most 2^24 bytes?
abbrev pub digest_questions : List ℕ → List Question
digest_questions bs = (13 asks leb (length bs) most_bytes) ∷ []

unfoldable pub digest_of : List ℕ → ℕ → List ℕ → Digested
digest_of key d bs = answered (first_no (digest_questions bs)) (digest key d bs)
