-- The questions that the entries put which make a part of a tree, in the order of SPECIFICATION 8.4, and the number that each answers. What is lent
-- comes in by its length: words two halves each, digests 32 bytes each. The claim rests on the whole's questions and on none of these.
use Rattle.std.specs.Prelude.{ℕ, ◌+◌, ◌*◌, ◌/◌, ◌%◌, List, [], ◌∷◌, ◌++◌, eqb, leb}
use Rattle.theory_laws.specs.Questions.{Question, ◌asks◌, first_no}
use Rattle.theory_merkle.specs.Questions.{domain_fits, shape}

-- the leaves of groups from group `first` on, lent all values and room for any number of digests. 11: the groups end within the tree's
abbrev pub leaves_questions : ℕ → ℕ → ℕ → ℕ → ℕ → ℕ → List Question
leaves_questions domain count width first values out =
    (domain_fits domain ∷ shape count width)
    ++ ((11 asks leb (first + out / 32) (count / width)) ∷ (5 asks eqb values (2 * count)) ∷ (5 asks eqb (out % 32) 0) ∷ [])

unfoldable pub leaves_number : ℕ → ℕ → ℕ → ℕ → ℕ → ℕ → ℕ
leaves_number domain count width first values out = first_no (leaves_questions domain count width first values out)

-- the parents of any number of pairs of digests, lent these and room for half as many; it is given neither a value count nor a width, so 5
-- comes in its place
abbrev pub parents_questions : ℕ → ℕ → ℕ → List Question
parents_questions domain children out = (5 asks eqb (children % 64) 0) ∷ (5 asks eqb out (children / 2)) ∷ domain_fits domain ∷ []

unfoldable pub parents_number : ℕ → ℕ → ℕ → ℕ
parents_number domain children out = first_no (parents_questions domain children out)
