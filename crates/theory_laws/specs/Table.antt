-- A table is a function from places to numbers. Lists come in by `at` and go out by `tab`.
use Rattle.std.specs.Prelude.{ℕ, zero, suc, List, [], ◌∷◌, get_or}

-- the list f 0, .., f (m - 1)
unfoldable pub tab : ℕ → (ℕ → ℕ) → List ℕ
tab zero f = []
tab (suc m) f = f 0 ∷ tab m (λ k. f (suc k))

-- entry v of a list, 0 past its end
abbrev pub at : List ℕ → ℕ → ℕ
at l v = get_or l v 0
