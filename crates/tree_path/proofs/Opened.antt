-- The path of a place that fills a lent buffer, and the root of a place.
use Prim.Native.Nat.{ℕ, ◌*◌, ◌-◌}
use mathlib.Core.Path.{◌≡◌, sym, ◌∙◌, ap}
use mathlib.Core.List.{List}
use lib.ListN.{length}
use Rattle.theory_laws.specs.Lists.{runs, flat}
use Rattle.theory_laws.proofs.Lists.{stored-all}
use Rattle.theory_merkle.specs.Tree.{group_of, depth_of, tree_size, leaf_digest, climb, path_of, root_of_path}
use Rattle.bytes_numbers.specs.helpers.Put.{Put}
use Rattle.tree_walk.specs.helpers.Paths.{path_from}
use Rattle.tree_walk.proofs.Climb.{root_by_path}

-- the path of the group of a place, in a buffer of its length
pub path_of_place : (count width place group depth groups : ℕ) (tree before after : List ℕ) (next : ℕ) → group ≡ group_of place width
    → depth ≡ depth_of count width → 2 * groups - 1 ≡ tree_size count width
    → length before ≡ 32 * depth → Put before 0 (32 * depth) (flat (path_from depth tree 0 groups group)) after next
    → after ≡ flat (path_of count width place (runs 32 (tree_size count width) tree))
unfolding path_of path_from
path_of_place count width place group depth groups tree before after next e f s n p = p.bytes ∙ stored-all before _ (p.size ∙ sym n) ∙ rw (s, e, f)

-- the root that the group of a place and a path of as many digests as the tree is high lead to
pub root_of_place : (H : List ℕ → List ℕ) (domain : List ℕ) (count width place group depth : ℕ) (values path leaf d : List ℕ) → group ≡ group_of place width
    → depth ≡ depth_of count width
    → leaf ≡ leaf_digest H domain count width group values → d ≡ climb H domain 0 group leaf (runs 32 depth path)
    → d ≡ root_of_path H domain count width place values (runs 32 (depth_of count width) path)
root_of_place H domain count width place group depth values path leaf d e f l c =
    root_by_path H domain count width place group values leaf (runs 32 depth path) d e l c
    ∙ ap (λ (i : ℕ). root_of_path H domain count width place values (runs 32 i path)) f
