-- Parts in one message (SPECIFICATION 4.3): they lie end to end in one list of bytes, and their lengths are given beside.
use Rattle.std.specs.Prelude.{ℕ, ◌+◌, ◌*◌, List, [], ◌∷◌, eqb, length, take, drop}
use Rattle.theory_merkle.specs.Message.{serialize_parts}
use Rattle.theory_laws.specs.Questions.{Question, ◌asks◌, first_no, on_done}

-- the parts that lie end to end in the bytes, by their lengths
unfoldable pub cut : List ℕ → List ℕ → List (List ℕ)
cut [] bs = []
cut (l ∷ ls) bs = take l bs ∷ cut ls (drop l bs)

-- what is written of them
abbrev pub serialized : List ℕ → List ℕ → List ℕ
serialized ls bs = serialize_parts (cut ls bs)

-- the sum of the lengths
unfoldable pub total : List ℕ → ℕ
total [] = 0
total (l ∷ ls) = l + total ls

-- 5: do the lengths sum to the n bytes, and is the output 8 + 8 × parts + bytes long?
abbrev pub questions : List ℕ → ℕ → ℕ → List Question
questions ls n out = (5 asks eqb (total ls) n) ∷ (5 asks eqb out (8 + 8 * length ls + n)) ∷ []

unfoldable pub number_of : List ℕ → ℕ → ℕ → ℕ
number_of ls n out = first_no (questions ls n out)

-- the output afterwards: the parts in one message, or as it was
abbrev pub serialized_into : List ℕ → List ℕ → List ℕ → List ℕ
serialized_into ls bs out = on_done (number_of ls (length bs) (length out)) (serialized ls bs) out
