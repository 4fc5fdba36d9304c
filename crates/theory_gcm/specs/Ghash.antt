-- GHASH_H(X): SP 800-38D, section 6.4, algorithm 2, over a list of blocks.
use Rattle.std.specs.Prelude.{ℕ, List, [], ◌∷◌}
use Rattle.theory_gcm.specs.Strings.{◌⊻◌}
use Rattle.theory_gcm.specs.Product.{zero_block, ◌•◌}

-- step 3: Y_i = (Y_(i-1) ⊕ X_i) • H
unfoldable pub ghash_from : List ℕ → List ℕ → List (List ℕ) → List ℕ
ghash_from h y [] = y
ghash_from h y (x ∷ xs) = ghash_from h ((y ⊻ x) • h) xs

-- Y_m, from Y_0 = 0^128
unfoldable pub ghash : List ℕ → List (List ℕ) → List ℕ
ghash h xs = ghash_from h zero_block xs
