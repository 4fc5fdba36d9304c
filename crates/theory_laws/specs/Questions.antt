-- Questions (SPECIFICATION 8.1): put in order, and the first 'no' gives its number.
use Rattle.std.specs.Prelude.{ℕ, List, [], ◌∷◌, Bool, true, false, eqb}

-- a where the test holds, else b
abbrev pub pick : {A : Type 0} → Bool → A → A → A
pick true a b = a
pick false a b = b

-- both tests hold
abbrev pub both : Bool → Bool → Bool
both true b = b
both false b = false

-- a question: its number, and whether the answer is yes
pub record Question : Type 0 where
  pub number : ℕ
  pub yes? : Bool

infix 40 ◌asks◌
abbrev pub ◌asks◌ : ℕ → Bool → Question
n asks b = record { number = n; yes? = b }

-- the number of the first question whose answer is no; 0 where every answer is yes
abbrev pub first_no : List Question → ℕ
first_no [] = 0
first_no (q ∷ qs) = pick q.yes? (first_no qs) q.number

-- what an entry leaves: x where its number is 0, done; y where it refused
abbrev pub on_done : {A : Type 0} → ℕ → A → A → A
on_done number x y = pick (eqb number 0) x y
