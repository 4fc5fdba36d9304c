-- Points: a list of coordinates. The vertices of the cube, and the sum of two points.
use Rattle.std.specs.Prelude.{ℕ, List, [], ◌∷◌}
use Rattle.theory_laws.specs.Xor.{◌⊕◌, bit}
use Rattle.theory_laws.specs.Table.{tab}

-- v as a point of n coordinates: coordinate i is its bit i
unfoldable pub vertex : ℕ → ℕ → List ℕ
vertex n v = tab n (λ i. bit i v)

-- the sum of two points, coordinate by coordinate; the shorter ends it
unfoldable pub add_point : List ℕ → List ℕ → List ℕ
add_point [] ds = []
add_point (r ∷ rs) [] = []
add_point (r ∷ rs) (d ∷ ds) = (r ⊕ d) ∷ add_point rs ds
