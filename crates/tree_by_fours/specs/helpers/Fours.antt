-- How many messages of a tree or level are hashed by fours, and what the buffer of the tree holds afterwards.
use Rattle.std.specs.Prelude.{ℕ, ◌+◌, ◌*◌, ◌/◌, ◌≤◌, ◌≡◌, List, leb, drop}
use Rattle.theory_laws.specs.Lists.{runs, flat, stored}
use Rattle.theory_field.specs.Words.{words}
use Rattle.theory_merkle.specs.Shape.{Bounded}
use Rattle.theory_merkle.specs.Tree.{leaves_from, parents}
use Rattle.theory_laws.specs.Questions.{pick}
use Rattle.tree_four_messages.specs.helpers.Strides.{stride}

-- of count messages of a size, as many as make fours, where a message is at most a chunk, a stride of the buffer
unfoldable pub by_fours : ℕ → ℕ → ℕ
by_fours size count = pick (leb size stride) (count / 4 * 4) 0

-- the leaves of a run of groups of a tree, from group `first` on, can be put at the front of a buffer: lent are the values of these groups
pub record GroupsFit (domain count width first groups values out : ℕ) : Type 0 where
  pub domain_le : domain ≤ 255
  pub shaped : Bounded count width
  pub within : first + groups ≤ count / width
  pub values_are : values ≡ 2 * (width * groups)
  pub room : 32 * groups ≤ out

-- and four messages have room in a buffer of so many bytes
abbrev pub FoursFit : ℕ → ℕ → ℕ → ℕ → ℕ → ℕ → ℕ → ℕ → Type 0
FoursFit domain count width first groups values out messages = GroupsFit domain count width first groups values out × (4 * stride ≤ messages)

-- the buffer with the leaves of the first n of them at its front
abbrev pub first_leaves : (List ℕ → List ℕ) → List ℕ → List ℕ → ℕ → ℕ → ℕ → List ℕ → ℕ → List ℕ
first_leaves H out domain count width first values n = stored out 0 (flat (leaves_from H domain count width first (runs width n (words values))))

-- the buffer with the first n parents of a level's 2 × half digests, which start at byte `from`, right after them
abbrev pub first_parents : (List ℕ → List ℕ) → List ℕ → List ℕ → ℕ → ℕ → ℕ → ℕ → List ℕ
first_parents H tree domain level from half n = stored tree (from + 64 * half) (flat (parents H domain level (runs 32 (2 * n) (drop from tree))))
