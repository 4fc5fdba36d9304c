-- What makes a function of points the multilinear extension of a table, with no formula for it: it is affine in each coordinate,
-- and on the cube it is the table. Rests on the field's lines.
use Rattle.std.specs.Prelude.{◌≡◌, List, ℕ, ◌^◌, ◌<◌, length, set}
use Rattle.theory_laws.specs.Table.{at}
use Rattle.theory_multilinear.specs.Fold.{line}
use Rattle.theory_multilinear.specs.Points.{vertex}

-- a point of n coordinates, each a word
pub record Point (n : ℕ) (z : List ℕ) : Type 0 where
  pub coordinates : length z ≡ n
  pub words : (i : ℕ) → at z i < 2 ^ 128

-- f is affine in coordinate i: with the others fixed, its value at x is on the line through its values at 0 and at 1
abbrev pub AffineIn : ℕ → ℕ → (List ℕ → ℕ) → Type 0
AffineIn n i f = (z : List ℕ) (x : ℕ) → Point n z → x < 2 ^ 128 → f (set z i x) ≡ line x (f (set z i 0)) (f (set z i 1))

-- f is affine in each of its n coordinates
abbrev pub Affine : ℕ → (List ℕ → ℕ) → Type 0
Affine n f = (i : ℕ) → i < n → AffineIn n i f

-- at the vertices of the cube f is the table
abbrev pub AgreesOnCube : ℕ → (ℕ → ℕ) → (List ℕ → ℕ) → Type 0
AgreesOnCube n t f = (v : ℕ) → v < 2 ^ n → f (vertex n v) ≡ t v

-- f is a multilinear extension of a table of 2^n entries
pub record Extension (n : ℕ) (t : ℕ → ℕ) (f : List ℕ → ℕ) : Type 0 where
  pub affine : Affine n f
  pub agrees : AgreesOnCube n t f
