-- The numbers of questions (SPECIFICATION 8.2).
use Rattle.std.specs.Prelude.{ℕ, ◌≡◌, Bool, true, false, List, [], ◌∷◌, eqb}
use Rattle.theory_laws.specs.Questions.{pick}

-- those that a question has. 20 is retired: it is given to nothing else; 34 and 35 are not given yet
abbrev pub numbers : List ℕ
numbers =
    1 ∷ 2 ∷ 3 ∷ 4 ∷ 5 ∷ 6 ∷ 7 ∷ 8 ∷ 9 ∷ 10 ∷ 11 ∷ 12 ∷ 13 ∷ 14 ∷ 15 ∷ 16 ∷ 17 ∷ 18 ∷ 19 ∷ 21 ∷ 22 ∷ 23 ∷ 24 ∷ 25 ∷ 26 ∷ 27 ∷ 28 ∷ 29 ∷ 30 ∷ 31 ∷ 32 ∷ 33 ∷ 36 ∷ []

-- x is in the list
unfoldable pub among : List ℕ → ℕ → Bool
among [] x = false
among (m ∷ ms) x = pick (eqb x m) true (among ms x)

-- x is 0, or the number of a question
unfoldable pub known : ℕ → Bool
known = among (0 ∷ numbers)

abbrev pub Known : ℕ → Type 0
Known x = known x ≡ true
