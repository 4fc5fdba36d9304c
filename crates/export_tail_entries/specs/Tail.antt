-- The program `tail-list` (SPECIFICATION 11): its input, n and k, a byte each, then table, gammas (j outer) and challenges, 16 bytes a word,
-- little-endian; and what it finds, the last level of the table's codeword.
use Rattle.std.specs.Prelude.{ℕ, ◌+◌, ◌*◌, ◌^◌, List, [], ◌∷◌, eqb, leb, length, replicate, Result, Ok, Err}
use Rattle.theory_laws.specs.Questions.{Question, ◌asks◌, first_no, on_done}
use Rattle.theory_laws.specs.Refusals.{number_of}
use Rattle.theory_laws.specs.declared.Refusal.{Refusal}
use Rattle.theory_laws.specs.Table.{tab, at}
use Rattle.theory_field.specs.Words.{words}
use Rattle.field_bytes.specs.Words.{words_from}
use Rattle.theory_multilinear.specs.Codeword.{encode}
use Rattle.theory_multilinear.specs.Levels.{level}
use Rattle.export_tail_entries.specs.declared.level.LastLevel.{LastLevel}

-- n zeros
unfoldable pub zeros : ℕ → List ℕ
zeros n = replicate n 0

-- where the gammas and the challenges begin, and how long the input is
abbrev pub gammas_at : ℕ → ℕ
gammas_at n = 2 + 16 * 2 ^ n

abbrev pub challenges_at : ℕ → ℕ → ℕ
challenges_at n k = gammas_at n + 16 * (k * n)

abbrev pub input_size : ℕ → ℕ → ℕ
input_size n k = challenges_at n k + 16 * n

-- 4 for n, k or n + k, and 5 for any other length than theirs
abbrev pub size_questions : ℕ → ℕ → ℕ → List Question
size_questions n k len =
    (4 asks leb n 20) ∷ (4 asks leb k 4) ∷ (4 asks leb (n + k) 8) ∷ (5 asks eqb len (input_size n k)) ∷ []

unfoldable pub size_number : ℕ → ℕ → ℕ → ℕ
size_number n k len = first_no (size_questions n k len)

-- before that, 5 for 0 or 1 byte
abbrev pub tail_questions : List ℕ → List Question
tail_questions s = (5 asks leb 2 (length s)) ∷ size_questions (at s 0) (at s 1) (length s)

unfoldable pub tail_number : List ℕ → ℕ
tail_number s = first_no (tail_questions s)

-- the codeword of the table, under the gammas
unfoldable pub codeword_of : ℕ → ℕ → List ℕ → List ℕ
codeword_of n k s = encode n k (words_from (gammas_at n) (k * n) s) (words_from 2 (2 ^ n) s)

-- its level l, folded by the challenges
unfoldable pub input_level : ℕ → ℕ → List ℕ → ℕ → List ℕ
input_level n k s l = level (codeword_of n k s) (words_from (challenges_at n k) n s) l

-- the code's answer: the number, n, k, and room for 16 entries; in a refusal all else is zero
unfoldable pub answer : Result LastLevel Refusal → ℕ × ℕ × ℕ × List ℕ
answer (Ok t) = (0, t.n, t.k, words t.entries)
answer (Err e) = (number_of e, 0, 0, tab 16 (at []))

-- the entries of the last level, zeros after them; in a refusal all else is zero
unfoldable pub tails_of : List ℕ → ℕ × ℕ × ℕ × List ℕ
tails_of s = (
  tail_number s,
  on_done (tail_number s) (at s 0) 0,
  on_done (tail_number s) (at s 1) 0,
  tab 16 (at (on_done (tail_number s) (input_level (at s 0) (at s 1) s (at s 0)) [])),
)
