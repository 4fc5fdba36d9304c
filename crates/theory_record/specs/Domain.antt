-- The domain of a level (SPECIFICATION 6.7): the base domain, "/level/", and the level in decimal without leading zeros. Rests on nothing.
use Rattle.std.specs.Prelude.{ℕ, zero, suc, ◌+◌, ◌/◌, ◌%◌, List, [], ◌∷◌, ◌++◌, ltb}
use Rattle.theory_laws.specs.Questions.{pick}

-- the ASCII code of a digit below 10
abbrev pub digit : ℕ → ℕ
digit d = 48 + d

-- a number in decimal, the highest digit first, no zero before it; `most` is how many digits may stand before the last
unfoldable pub decimal_within : ℕ → ℕ → List ℕ
decimal_within zero x = digit x ∷ []
decimal_within (suc most) x = pick (ltb x 10) (digit x ∷ []) (decimal_within most (x / 10) ++ (digit (x % 10) ∷ []))

-- x has at most x digits before the last
unfoldable pub decimal : ℕ → List ℕ
decimal x = decimal_within x x

-- "/level/"
abbrev pub level_mark : List ℕ
level_mark = 47 ∷ 108 ∷ 101 ∷ 118 ∷ 101 ∷ 108 ∷ 47 ∷ []

-- the length of the longest: a base domain of 200 bytes, "/level/" and two digits
abbrev pub domain_room : ℕ
domain_room = 209

-- the domain of level l's tree
unfoldable pub level_domain : List ℕ → ℕ → List ℕ
level_domain base l = base ++ level_mark ++ decimal l
