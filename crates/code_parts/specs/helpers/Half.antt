-- What the helpers for a block's parts require and answer: the questions of a part of 2^m words in block eps, and the sizes of a half.
use Rattle.std.specs.Prelude.{ℕ, ◌+◌, ◌-◌, ◌*◌, ◌^◌, ◌≤◌, ◌<◌, ◌≡◌, [], ◌∷◌, ltb}
use Rattle.theory_laws.specs.Questions.{◌asks◌, first_no}
use Rattle.theory_code.specs.Questions.{sized, lent}

-- 4, 5 and 11, with room for 2^m words
unfoldable pub number_within : ℕ → ℕ → ℕ → ℕ → ℕ → ℕ → ℕ → ℕ
number_within m n k eps table gammas out =
    first_no (sized n k (lent table (2 ^ n) ∷ lent gammas (k * n) ∷ lent out (2 ^ m) ∷ (11 asks ltb eps (2 ^ k)) ∷ []))

-- what was asked of a half
pub record HalfSizes (n k half table out : ℕ) : Type 0 where
  pub table= : table ≡ 2 * 2 ^ n
  pub some : 1 ≤ n
  pub out= : out ≡ 2 * 2 ^ (n - 1)
  pub below : half < 2 ^ (k + 1)
