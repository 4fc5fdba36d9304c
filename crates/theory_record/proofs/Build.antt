-- Built records: they can be held, fill their sizes exactly, and read back as the levels and groups that were built.
use Prim.Native.Nat.{ℕ, zero, suc, ◌+◌, ◌*◌, ◌%◌, ◌^◌, ◌<◌, ◌≤◌}
use mathlib.Core.Path.{◌≡◌, refl, ◌∙◌, ap}
use mathlib.Core.List.{List}
use native.Mathlib.Omega.{arith}
use native.Mathlib.Nat.{mod-lt, div-add-mod, mul-le-mul_right, le-mul_of_pos_right}
use lib.ListN.{length}
use lib.Pow.{pow_mono, pow_pos}
use Rattle.theory_laws.specs.Table.{at}
use Rattle.theory_laws.proofs.Lists.{AllLong, length_part, get_d_part}
use Rattle.theory_merkle.specs.Tree.{group_of}
use Rattle.theory_merkle.specs.Shape.{Shape}
use Rattle.theory_merkle.proofs.Sizes.{group_lt}
use Rattle.theory_merkle.proofs.Tree.{length-path_of, path_of-long}
use Rattle.theory_record.specs.Trees.{group_at, path_at}
use Rattle.theory_record.specs.Widths.{Widths, level_length, level_width, level_groups, level_depth, tree_length}
use Rattle.theory_record.specs.Format.{level_form, tail_form, record_bytes}
use Rattle.theory_record.specs.Sizes.{query_size, tail_size}
use Rattle.theory_record.specs.Query.{pair_of, value_at}
use Rattle.theory_record.specs.Build.{levels_length, tree_start, level_values, level_tree, digests}
use Rattle.theory_record.specs.Build.{open_pair, built_level, built_levels, query_bytes, open_group, open_groups, tail_bytes}
use Rattle.theory_record.proofs.Widths.{PowersOfTwo, LevelShape, level-shape, width-pos, width-le, depth_le, groups-times-width}
use Rattle.theory_record.proofs.Offsets.{level-le, length-level_values, length-level_tree, level_tree-long, length-digests, digests-long, pair_lt, b_lt}
use Rattle.theory_record.proofs.Runs.{Words}
use Rattle.theory_record.proofs.Format.{GroupHeld, LevelHeld, TailGroupHeld, level_faithful, tail_faithful}
use Rattle.theory_record.proofs.Records.{All, Written, record_written}
use Rattle.theory_record.proofs.Sizes.{GroupShaped, LevelShaped, LevelsShaped, GroupsShaped, query_fills, tail-fills}
use Rattle.theory_laws.proofs.Bytes.{below-part}

-- ---- the group of a place

-- it stands within the values
pub group_within : (count width place : ℕ) → Shape count width → place < count → width * group_of place width + width ≤ count
group_within count width place z h = omega (arith, z.whole, mul-le-mul_right width (group_lt count width place z h))

-- and has the place's value where it belongs
pub value_of_group : (width place : ℕ) (values : List ℕ) → 0 < width → value_at width place (group_at width place values) ≡ at values place
unfolding value_at group_at
value_of_group width place values pos =
    get_d_part width (width * group_of place width) (place % width) values (mod-lt place pos) ∙ ap (at values) (div-add-mod place width)

module _ (s : Widths) (n k l place : ℕ) (z : LevelShape s n k l) (small : n + k ≤ 24) (low : place < level_length n k l)
    (values : List ℕ) (tree : List (List ℕ)) (long : length values ≡ level_length n k l) (tree_long : length tree ≡ tree_length s n k l)
    (digests : AllLong 32 tree) where
  -- a group read off a level, and the path read off its tree, have the level's shape
  pub group_shaped : GroupShaped s n k l (group_at (level_width s n k l) place values) (path_at s n k l place tree)
  unfolding group_at path_at level_depth tree_length
  group_shaped =
      let w = level_width s n k l in
      record {
        width = length_part w (w * group_of place w) values (omega (arith, group_within (level_length n k l) w place z.tree low));
        depth = length-path_of (level_length n k l) w place tree;
        digests = path_of-long (level_length n k l) w place tree z.tree low digests tree_long;
      }

  -- and can be held
  pub group_is-held : Words values → GroupHeld (group_at (level_width s n k l) place values) (path_at s n k l place tree)
  unfolding group_at
  group_is-held w =
      let size : 2 ^ (n + k) ≤ 2 ^ 24 = pow_mono {i = n + k} {j = 24} small in
      record {
        words = below-part (2 ^ 128) (level_width s n k l) (level_width s n k l * group_of place (level_width s n k l)) values (pow_pos 128) w;
        values_few = rw group_shaped.width (omega (arith, width-le s n k l z, level-le n k l));
        digests = group_shaped.digests;
        path_few = rw group_shaped.depth (omega (arith, depth_le s n k l z));
      }

-- ---- a query record

pub length-built_levels : (s : Widths) (n k : ℕ) (ws ts : List ℕ) (position c l : ℕ) → length (built_levels s n k ws ts position c l) ≡ c
unfolding built_levels
length-built_levels s n k ws ts position zero l = refl
length-built_levels s n k ws ts position (suc c) l = ap suc (length-built_levels s n k ws ts position c (suc l))

-- what is lent to a build that is not refused: the levels' words and their trees
pub record Lent (s : Widths) (n k : ℕ) (ws ts : List ℕ) : Type 0 where
  pub small : n + k ≤ 24
  pub words_long : length ws ≡ levels_length n k
  pub all_words : Words ws
  pub trees_long : length ts ≡ 32 * tree_start s n k (suc n)

module _ (s : Widths) (p : PowersOfTwo s) (n k : ℕ) (ws ts : List ℕ) (lent : Lent s n k ws ts) where
  level-words : (l : ℕ) → Words (level_values n k ws l)
  unfolding level_values
  level-words l = below-part (2 ^ 128) (level_length n k l) _ ws (pow_pos 128) lent.all_words

  -- the group and the path of a place of level l
  shaped_at : (l place : ℕ) → l ≤ n → place < level_length n k l
      → GroupShaped s n k l (group_at (level_width s n k l) place (level_values n k ws l)) (path_at s n k l place (level_tree s n k ts l))
  shaped_at l place h low =
      group_shaped s n k l place (level-shape s n k l p) lent.small low (level_values n k ws l) (level_tree s n k ts l)
      (length-level_values n k l ws h lent.words_long) (length-level_tree s n k l ts) (level_tree-long s n k l ts h lent.trees_long)

  held_at : (l place : ℕ) → l ≤ n → place < level_length n k l
      → GroupHeld (group_at (level_width s n k l) place (level_values n k ws l)) (path_at s n k l place (level_tree s n k ts l))
  held_at l place h low =
      group_is-held s n k l place (level-shape s n k l p) lent.small low (level_values n k ws l) (level_tree s n k ts l)
      (length-level_values n k l ws h lent.words_long) (length-level_tree s n k l ts) (level_tree-long s n k l ts h lent.trees_long) (level-words l)

  module _ (position : ℕ) (low : position < 2 ^ (n + k)) where
    pub level_shaped : (l : ℕ) → l < n → LevelShaped s n k l (built_level s n k ws ts position l)
    unfolding built_level open_pair
    level_shaped l h =
        let a = b_lt n k l position low (omega arith) in
        (shaped_at l (2 * pair_of position l) (omega arith) (omega arith), shaped_at (suc l) (pair_of position l) h (pair_lt n k l position low (omega arith)))

    level-held : (l : ℕ) → l < n → LevelHeld (built_level s n k ws ts position l)
    unfolding built_level open_pair
    level-held l h =
        let a = b_lt n k l position low (omega arith) in
        record {
          a_word = level-words l (2 * pair_of position l);
          b_word = level-words l (2 * pair_of position l + 1);
          c_word = level-words (suc l) (pair_of position l);
          a-held = held_at l (2 * pair_of position l) (omega arith) (omega arith);
          c-held = held_at (suc l) (pair_of position l) h (pair_lt n k l position low (omega arith));
        }

    levels_shaped : (c l : ℕ) → l + c ≤ n → LevelsShaped s n k l (built_levels s n k ws ts position c l)
    unfolding built_levels
    levels_shaped zero l h = tt
    levels_shaped (suc c) l h = (level_shaped l (omega arith), levels_shaped c (suc l) (omega arith))

    levels-held : (c l : ℕ) → l + c ≤ n → All LevelHeld (built_levels s n k ws ts position c l)
    unfolding built_levels
    levels-held zero l h = tt
    levels-held (suc c) l h = (level-held l (omega arith), levels-held c (suc l) (omega arith))

    -- the built record fills its size
    pub built_query_fills : length (query_bytes s n k ws ts position) ≡ query_size s n k
    unfolding query_bytes
    built_query_fills = query_fills s n k (built_levels s n k ws ts position n 0) (length-built_levels s n k ws ts position n 0) (levels_shaped n 0 (omega arith))

    -- and reads back as the levels that were built
    pub built_query_reads : Written level_form (built_levels s n k ws ts position n 0)
    built_query_reads =
        record_written level_form LevelHeld level_faithful (built_levels s n k ws ts position n 0) (levels-held n 0 (omega arith))
        (rw (length-built_levels s n k ws ts position n 0) (omega (arith, lent.small)))

-- ---- a tail record, from the last level and its tree

pub length-open_groups : (s : Widths) (n k : ℕ) (values : List ℕ) (tree : List (List ℕ)) (c g : ℕ) → length (open_groups s n k values tree c g) ≡ c
unfolding open_groups
length-open_groups s n k values tree zero g = refl
length-open_groups s n k values tree (suc c) g = ap suc (length-open_groups s n k values tree c (suc g))

module _ (s : Widths) (p : PowersOfTwo s) (n k : ℕ) (small : n + k ≤ 24) (values : List ℕ) (all_words : Words values) (long : length values ≡ level_length n k n)
    (tree : List (List ℕ)) (tree_long : length tree ≡ tree_length s n k n) (tree-digests : AllLong 32 tree) where
  pub group_low : (g : ℕ) → g < level_groups s n k n → g * level_width s n k n < level_length n k n
  group_low g h =
      let z = level-shape s n k n p in
      omega (arith, groups-times-width s n k n z, width-pos s n k n z, mul-le-mul_right (level_width s n k n) h)

  pub open_shaped : (g : ℕ) → g < level_groups s n k n → GroupShaped s n k n (open_group s n k values tree g).values (open_group s n k values tree g).path
  unfolding open_group
  open_shaped g h = group_shaped s n k n (g * level_width s n k n) (level-shape s n k n p) small (group_low g h) values tree long tree_long tree-digests

  open_held : (g : ℕ) → g < level_groups s n k n → TailGroupHeld (open_group s n k values tree g)
  unfolding open_group
  open_held g h = group_is-held s n k n (g * level_width s n k n) (level-shape s n k n p) small (group_low g h) values tree long tree_long tree-digests all_words

  groups_shaped : (c g : ℕ) → g + c ≤ level_groups s n k n → GroupsShaped s n k (open_groups s n k values tree c g)
  unfolding open_groups
  groups_shaped zero g h = tt
  groups_shaped (suc c) g h = (open_shaped g (omega arith), groups_shaped c (suc g) (omega arith))

  groups-held : (c g : ℕ) → g + c ≤ level_groups s n k n → All TailGroupHeld (open_groups s n k values tree c g)
  unfolding open_groups
  groups-held zero g h = tt
  groups-held (suc c) g h = (open_held g (omega arith), groups-held c (suc g) (omega arith))

  pub open_groups_fill : length (record_bytes tail_form (open_groups s n k values tree (level_groups s n k n) 0)) ≡ tail_size s n k
  open_groups_fill =
      let c = level_groups s n k n in
      tail-fills s n k (open_groups s n k values tree c 0) (length-open_groups s n k values tree c 0) (groups_shaped c 0 (omega arith))

  pub open_groups-read : Written tail_form (open_groups s n k values tree (level_groups s n k n) 0)
  open_groups-read =
      let z = level-shape s n k n p in
      let c = level_groups s n k n in
      let size : 2 ^ (n + k) ≤ 2 ^ 24 = pow_mono {i = n + k} {j = 24} small in
      let few : c ≤ level_length n k n = omega (arith, groups-times-width s n k n z, le-mul_of_pos_right c (width-pos s n k n z)) in
      record_written tail_form TailGroupHeld tail_faithful (open_groups s n k values tree c 0) (groups-held c 0 (omega arith))
      (rw (length-open_groups s n k values tree c 0) (omega (arith, level-le n k n)))

-- the same from the bytes of the tree
pub built-tail-fills : (s : Widths) → PowersOfTwo s → (n k : ℕ) → n + k ≤ 24 → (values : List ℕ) → Words values
    → length values ≡ level_length n k n → (tree : List ℕ) → length tree ≡ 32 * tree_length s n k n
    → length (tail_bytes s n k values tree) ≡ tail_size s n k
unfolding tail_bytes
built-tail-fills s p n k small values w long tree e =
    let c = tree_length s n k n in
    open_groups_fill s p n k small values w long (digests c 0 tree) (length-digests c 0 tree) (digests-long c 0 tree (omega arith))
