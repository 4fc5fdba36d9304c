-- A few parents at once, of children that are lent alone: where they fit, and what they are.
use Rattle.std.specs.Prelude.{ℕ, ◌+◌, ◌*◌, ◌≤◌, ◌≡◌, List}
use Rattle.theory_laws.specs.Lists.{runs, flat}
use Rattle.theory_merkle.specs.Tree.{parents}

pub record SomeFit (domain some children to out : ℕ) : Type 0 where
  pub domain_le : domain ≤ 255
  pub few : some ≤ 64
  pub pairs : children ≡ 64 * some
  pub room : to + 32 * some ≤ out

abbrev pub some_parents : (List ℕ → List ℕ) → List ℕ → ℕ → ℕ → List ℕ → List ℕ
some_parents H domain level some children = flat (parents H domain level (runs 32 (2 * some) children))
