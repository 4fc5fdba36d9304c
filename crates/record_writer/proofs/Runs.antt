-- Counted runs, put in two steps: the count, then the items. And a level's path is a path from a byte of the lent trees on.
use Prim.Native.Nat.{ℕ, ◌+◌, ◌-◌, ◌*◌, ◌/◌, ◌≤◌}
use mathlib.Core.Path.{◌≡◌, ◌∙◌, ap}
use mathlib.Core.List.{List, map}
use lib.ListN.{length, drop, length-map}
use Rattle.theory_laws.specs.Lists.{part, runs, flat, le_bytes}
use Rattle.theory_laws.proofs.Lists.{length_part, runs-take}
use Rattle.theory_field.specs.Words.{words}
use Rattle.theory_merkle.specs.Tree.{group_of, depth_of, tree_size, path, levels_of, path_of}
use Rattle.theory_merkle.proofs.Levels.{length-path}
use Rattle.bytes_numbers.specs.helpers.Put.{Put}
use Rattle.bytes_numbers.proofs.Stores.{then_put}
use Rattle.theory_record.specs.Format.{word_bytes, run_bytes}
use Rattle.theory_record.specs.Build.{digests}
use Rattle.tree_walk.specs.helpers.Paths.{path_from}
use Rattle.field_bytes.proofs.Puts.{words-there}
use Rattle.record_writer.specs.helpers.Groups.{ValuesPut}

-- a count and items
run_put : (o : List ℕ) (from c n : ℕ) (xs : List (List ℕ)) (o1 : List ℕ) (j : ℕ) (o2 : List ℕ) (r : ℕ) → length xs ≡ c
    → Put o from 4 (le_bytes 4 c) o1 j → Put o1 j n (flat xs) o2 r → Put o from (4 + n) (run_bytes xs) o2 r
unfolding run_bytes
run_put o from c n xs o1 j o2 r e p q = rw e (then_put o from 4 _ o1 j n _ o2 r p q)

pub values_put : (o : List ℕ) (from : ℕ) (levels : List ℕ) (first width g h : ℕ) (o1 : List ℕ) (j : ℕ) (o2 : List ℕ) (r : ℕ) → h ≡ g
    → 2 * (first + width * g + width) ≤ length levels → Put o from 4 (le_bytes 4 width) o1 j
    → Put o1 j (16 * width) (flat (map (le_bytes 16) (part width (first + width * h) (words levels)))) o2 r → ValuesPut o from levels first width g o2 r
values_put o from levels first width g h o1 j o2 r eh fits p q =
    let vs : List ℕ = part width (first + width * g) (words levels) in
    let e : length vs ≡ width = length_part width (first + width * g) (words levels) (words-there levels (first + width * g + width) fits) in
    run_put o from width (16 * width) (map word_bytes vs) o1 j o2 r (length-map vs word_bytes ∙ e) p (rw eh at q)

pub digests_put : (o : List ℕ) (from : ℕ) (trees : List ℕ) (tree depth groups g : ℕ) (o1 : List ℕ) (j : ℕ) (o2 : List ℕ) (r : ℕ)
    → Put o from 4 (le_bytes 4 depth) o1 j → Put o1 j (32 * depth) (flat (path_from depth trees tree groups g)) o2 r
    → Put o from (4 + 32 * depth) (run_bytes (path_from depth trees tree groups g)) o2 r
unfolding path_from
digests_put o from trees tree depth groups g o1 j o2 r p q =
    run_put o from depth (32 * depth) (path_from depth trees tree groups g) o1 j o2 r
    (length-path depth (runs 32 (2 * groups - 1) (drop tree trees)) g) p q

-- the path of a place, off the tree that stands from digest i on
pub path_of_digests : (count width place i : ℕ) (trees : List ℕ)
    → path_of count width place (digests (tree_size count width) i trees) ≡ path_from (depth_of count width) trees (32 * i) (count / width) (group_of place width)
unfolding path_of digests path_from part
path_of_digests count width place i trees =
    ap (λ (t : List (List ℕ)). path (depth_of count width) (levels_of (depth_of count width) t) (group_of place width))
    (runs-take 32 (tree_size count width) (drop (32 * i) trees))
