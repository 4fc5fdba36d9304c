-- The questions put to a comparison in two parts, what is lent and the records. Rests on comparing.
use Rattle.std.specs.Prelude.{ℕ, ◌+◌, ◌*◌, ◌^◌, not, List, [], ◌∷◌, ◌++◌, leb, ltb, eqb}
use Rattle.theory_laws.specs.Questions.{Question, ◌asks◌, first_no}
use Rattle.theory_laws.specs.Lists.{same}
use Rattle.theory_record.specs.declared.Trees.{Trees}
use Rattle.theory_record.specs.declared.Deposit.{Deposit}
use Rattle.theory_record.specs.Query.{size_questions}
use Rattle.theory_compare.specs.Lent.{Slice}
use Rattle.theory_compare.specs.Compare.{accepts, message_buffer}
use Rattle.theory_record.specs.Scheme.{scheme}

-- 5, 7 and 11, of lengths
abbrev pub length_questions : ℕ → ℕ → ℕ → ℕ → ℕ → ℕ → ℕ → ℕ → List Question
length_questions base n k position challenges roots first second =
    (5 asks eqb challenges (2 * n)) ∷
    (5 asks eqb roots (32 * (n + 1))) ∷
    (5 asks eqb first message_buffer) ∷
    (5 asks eqb second message_buffer) ∷
    (7 asks leb base 200) ∷
    (11 asks ltb position (2 ^ (n + k))) ∷
    []

-- 4, 5, 7 and 11
unfoldable pub lent_number : ℕ → ℕ → ℕ → ℕ → ℕ → ℕ → ℕ → ℕ → ℕ
lent_number base n k position challenges roots first second = first_no (size_questions n k ++ length_questions base n k position challenges roots first second)

-- 32 and 33
abbrev pub record_questions : List ℕ → Trees → ℕ → ℕ → ℕ → List ℕ → List ℕ → List ℕ → List ℕ → List Question
record_questions base how n k position challenges roots first second =
    (32 asks accepts (scheme how base n k) position challenges roots first) ∷
    (32 asks accepts (scheme how base n k) position challenges roots second) ∷
    (33 asks not (same first second)) ∷
    []

unfoldable pub records_number : List ℕ → Trees → ℕ → ℕ → ℕ → List ℕ → List ℕ → List ℕ → List ℕ → ℕ
records_number base how n k position challenges roots first second = first_no (record_questions base how n k position challenges roots first second)

-- the same, of a deposit and of what is lent
abbrev pub records_lent : Deposit → ℕ → Slice → Slice → Slice → Slice → ℕ
records_lent deposit position challenges roots first second =
    records_number deposit.base.now deposit.how deposit.n deposit.k position challenges.entry.now roots.entry.now first.entry.now second.entry.now
