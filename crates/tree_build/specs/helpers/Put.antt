-- Conditions and answers of the helpers that write a tree into its buffer: digests are put at their places, and the other bytes stay.
use Rattle.std.specs.Prelude.{ℕ, ◌+◌, ◌*◌, ◌-◌, ◌≤◌, ◌≡◌, List, drop}
use Rattle.theory_laws.specs.Lists.{runs, flat, stored}
use Rattle.theory_field.specs.Words.{words}
use Rattle.theory_merkle.specs.Tree.{leaves_from, parents}
use Rattle.tree_message.specs.helpers.Buffers.{leaf_buffer}
use Rattle.tree_four_messages.specs.helpers.Strides.{stride}
use Rattle.tree_by_fours.specs.helpers.Fours.{GroupsFit}

-- of the leaves of a run of groups, those after `done` can be put, and the buffer for messages holds the longest leaf message
pub record LeavesFit (domain count width first groups values out done message : ℕ) : Type 0 where
  pub fit : GroupsFit domain count width first groups values out
  pub begun : done ≤ groups
  pub work : message ≡ leaf_buffer

-- these leaves, each at its place
abbrev pub later_leaves : (List ℕ → List ℕ) → List ℕ → List ℕ → ℕ → ℕ → ℕ → ℕ → ℕ → List ℕ → List ℕ
later_leaves H out domain count width first groups done values =
    stored out (32 * done)
    (flat (leaves_from H domain count width (first + done) (runs width (groups - done) (drop (width * done) (words values)))))

-- parents of a level's 2 × half digests, which start at byte `from`, can be put right after them, from parent `first` on
pub record ParentsFit (domain tree from half first message : ℕ) : Type 0 where
  pub short : domain ≤ 255
  pub room : from + 96 * half ≤ tree
  pub begun : first ≤ half
  pub work : message ≡ 4 * stride

-- these parents, from parent `first` on, each at its place
abbrev pub later_parents : (List ℕ → List ℕ) → List ℕ → List ℕ → ℕ → ℕ → ℕ → ℕ → List ℕ
later_parents H tree domain level from half first =
    stored tree (from + 64 * half + 32 * first) (flat (parents H domain level (runs 32 (2 * (half - first)) (drop (from + 64 * first) tree))))
