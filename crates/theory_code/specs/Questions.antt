-- The questions that the entries of the code put, in the order of SPECIFICATION 8.4. What is lent comes in by its length, in halves: two to a
-- word.
use Rattle.std.specs.Prelude.{ℕ, suc, ◌+◌, ◌*◌, ◌/◌, ◌^◌, List, [], ◌∷◌, Bool, true, eqb, leb, ltb, length}
use Rattle.theory_laws.specs.Questions.{both, Question, ◌asks◌, first_no}

-- 4: n is at most 20 and k at most 4
abbrev pub sized : ℕ → ℕ → List Question → List Question
sized n k qs = (4 asks leb n 20) ∷ (4 asks leb k 4) ∷ qs

-- 5: a lent length is that of this many words
abbrev pub lent : ℕ → ℕ → Question
lent halves m = 5 asks eqb halves (2 * m)

-- the codeword, lent the table, the gammas and room for the codeword
abbrev pub encode_questions : ℕ → ℕ → ℕ → ℕ → ℕ → List Question
encode_questions n k table gammas out = sized n k (lent table (2 ^ n) ∷ lent gammas (k * n) ∷ lent out (2 ^ (n + k)) ∷ [])

unfoldable pub encode_number : ℕ → ℕ → ℕ → ℕ → ℕ → ℕ
encode_number n k table gammas out = first_no (encode_questions n k table gammas out)

-- ---- a codeword in use (SPECIFICATION 6.5): its n and k, the original n, and the list of original coordinates that are not folded away

-- 4: the original n is at most 20 too
abbrev pub in_use : ℕ → ℕ → ℕ → List Question → List Question
in_use n k original qs = sized n k ((4 asks leb original 20) ∷ qs)

-- numbers from `least` on, strictly rising and below `bound`
unfoldable pub rising : ℕ → ℕ → List ℕ → Bool
rising least bound [] = true
rising least bound (x ∷ xs) = both (leb least x) (both (ltb x bound) (rising (suc x) bound xs))

-- 36: the list holds exactly n strictly rising numbers below the original n
abbrev pub unfolded : ℕ → ℕ → List ℕ → Question
unfolded n original coordinates = 36 asks both (eqb (length coordinates) n) (rising 0 original coordinates)

-- L(eps), lent the list, k × n gammas for the original n, and room for n coordinates
abbrev pub shift_questions : ℕ → ℕ → ℕ → List ℕ → ℕ → ℕ → List Question
shift_questions n k original coordinates gammas out =
    in_use n k original (lent gammas (k * original) ∷ lent out n ∷ unfolded n original coordinates ∷ [])

unfoldable pub shift_number : ℕ → ℕ → ℕ → List ℕ → ℕ → ℕ → ℕ
shift_number n k original coordinates gammas out = first_no (shift_questions n k original coordinates gammas out)

-- a fold, lent the list, a codeword and room for half of it. 6: var is below n
abbrev pub fold_questions : ℕ → ℕ → ℕ → ℕ → List ℕ → ℕ → ℕ → List Question
fold_questions n k original var coordinates src out =
    in_use n k original (lent src (2 ^ (n + k)) ∷ lent out (2 ^ (n + k) / 2) ∷ unfolded n original coordinates ∷ (6 asks ltb var n) ∷ [])

unfoldable pub fold_number : ℕ → ℕ → ℕ → ℕ → List ℕ → ℕ → ℕ → ℕ
fold_number n k original var coordinates src out = first_no (fold_questions n k original var coordinates src out)

-- the conversion to the earlier reading, lent the list
abbrev pub earlier_questions : ℕ → ℕ → ℕ → List ℕ → List Question
earlier_questions n k original coordinates = in_use n k original (unfolded n original coordinates ∷ [])

unfoldable pub earlier_number : ℕ → ℕ → ℕ → List ℕ → ℕ
earlier_number n k original coordinates = first_no (earlier_questions n k original coordinates)

-- ---- gammas

-- the gammas of a base domain: 4, 5 for room for k × n words, and 7: a base domain is at most 200 bytes
abbrev pub derive_questions : ℕ → ℕ → ℕ → ℕ → List Question
derive_questions n k domain out = sized n k (lent out (k * n) ∷ (7 asks leb domain 200) ∷ [])

unfoldable pub derive_number : ℕ → ℕ → ℕ → ℕ → ℕ
derive_number n k domain out = first_no (derive_questions n k domain out)
