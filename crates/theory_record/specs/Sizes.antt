-- The sizes of built records, fixed by n, k and the set of widths (SPECIFICATION 7.6). Rests on the levels' widths and depths.
use Rattle.std.specs.Prelude.{ℕ, suc, ◌+◌, ◌*◌}
use Rattle.theory_record.specs.Widths.{Widths, level_width, level_groups, level_depth, total}

-- a group of level l and its path, each after its count of 4 bytes
unfoldable pub group_size : Widths → ℕ → ℕ → ℕ → ℕ
group_size s n k l = 8 + 16 * level_width s n k l + 32 * level_depth s n k l

-- level l of a query record: three words, a group and path of level l, and one of the next
unfoldable pub level_size : Widths → ℕ → ℕ → ℕ → ℕ
level_size s n k l = 48 + group_size s n k l + group_size s n k (suc l)

-- a query record: the level count and n levels
unfoldable pub query_size : Widths → ℕ → ℕ → ℕ
query_size s n k = 4 + total n (level_size s n k)

-- a tail record: the group count and every group of the last level
unfoldable pub tail_size : Widths → ℕ → ℕ → ℕ
tail_size s n k = 4 + level_groups s n k n * group_size s n k n
