-- The path of a group, read off a tree that stands from a byte of the lent trees on.
use Rattle.std.specs.Prelude.{ℕ, ◌+◌, ◌*◌, ◌-◌, ◌^◌, ◌≤◌, ◌<◌, ◌≡◌, List, drop}
use Rattle.theory_laws.specs.Lists.{runs}
use Rattle.theory_merkle.specs.Tree.{path, levels_of}

-- of digest g, of m = 2^depth whose tree starts at this byte
unfoldable pub path_from : ℕ → List ℕ → ℕ → ℕ → ℕ → List (List ℕ)
path_from depth trees from m g = path depth (levels_of depth (runs 32 (2 * m - 1) (drop from trees))) g

-- a path can be read and put from byte `to` on: a tree over m = 2^depth groups, of which g is one, starts at byte `from` of trees so long, and the
-- buffer, of `out` bytes, has room
abbrev pub PathRoom : ℕ → ℕ → ℕ → ℕ → ℕ → ℕ → ℕ → Type 0
PathRoom depth m g from trees to out = (m ≡ 2 ^ depth) × (g < m) × (from + 64 * m ≤ trees + 32) × (to + 32 * depth ≤ out)
