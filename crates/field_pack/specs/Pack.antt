-- Packing (SPECIFICATION 2.4): 128 bytes to a word, byte b giving bit b; and the questions put to it.
use Rattle.std.specs.Prelude.{ℕ, ◌+◌, ◌*◌, ◌/◌, ◌%◌, List, [], ◌∷◌, Bool, true, eqb, leb, length}
use Rattle.theory_laws.specs.Questions.{both, Question, ◌asks◌, first_no}
use Rattle.theory_laws.specs.Table.{tab, at}
use Rattle.theory_multilinear.specs.Partials.{word_of}

-- each byte is 0 or 1
unfoldable pub all_bits : List ℕ → Bool
all_bits [] = true
all_bits (b ∷ bs) = both (leb b 1) (all_bits bs)

-- the questions put to `pack_table`, given its bytes and the length of the lent output, two u64 a word
abbrev pub pack_questions : List ℕ → ℕ → List Question
pack_questions bytes len =
    ((2 asks eqb (length bytes % 128) 0) ∷
    (3 asks all_bits bytes) ∷
    (5 asks eqb len (2 * (length bytes / 128))) ∷
    [])

unfoldable pub pack_number : List ℕ → ℕ → ℕ
pack_number bytes len = first_no (pack_questions bytes len)

-- word v is the one whose bit b is byte b of group v
unfoldable pub packed : List ℕ → List ℕ
packed bytes = tab (length bytes / 128) (λ v. word_of (λ b. at bytes (128 * v + b)))
