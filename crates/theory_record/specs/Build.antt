-- Building query and tail records (SPECIFICATION 8.8) from the levels and their trees, which are lent end
-- to end, level 0 first. Rests on the format, and on the levels' widths and trees.
use Rattle.std.specs.Prelude.{ℕ, zero, suc, ◌+◌, ◌-◌, ◌*◌, ◌^◌, List, [], ◌∷◌, ◌++◌, ltb, eqb, length}
use Rattle.theory_laws.specs.Table.{at}
use Rattle.theory_laws.specs.Questions.{Question, ◌asks◌, first_no, on_done}
use Rattle.theory_laws.specs.Lists.{part, runs}
use Rattle.theory_field.specs.Words.{words}
use Rattle.theory_record.specs.Widths.{Widths, level_length, level_width, level_groups, tree_length, total}
use Rattle.theory_record.specs.Trees.{group_at, path_at}
use Rattle.theory_record.specs.Format.{LevelRecord, TailGroup, level_form, tail_form, record_bytes}
use Rattle.theory_record.specs.Sizes.{query_size, tail_size}
use Rattle.theory_record.specs.Query.{pair_of, size_questions}

-- ---- where level l and its tree stand

-- how many words stand before level l
unfoldable pub level_start : ℕ → ℕ → ℕ → ℕ
level_start n k l = total l (level_length n k)

-- how many words all the levels have: 2^k × (2^(n+1) - 1)
unfoldable pub levels_length : ℕ → ℕ → ℕ
levels_length n k = 2 ^ k * (2 ^ suc n - 1)

-- how many digests stand before level l's tree; before that of level n + 1: how many there are
unfoldable pub tree_start : Widths → ℕ → ℕ → ℕ → ℕ
tree_start s n k l = total l (tree_length s n k)

-- level l's values, of the words of all levels
unfoldable pub level_values : ℕ → ℕ → List ℕ → ℕ → List ℕ
level_values n k ws l = part (level_length n k l) (level_start n k l) ws

-- c digests from digest i on, 32 bytes each
unfoldable pub digests : ℕ → ℕ → List ℕ → List (List ℕ)
digests c i bytes = runs 32 c (part (32 * c) (32 * i) bytes)

-- level l's tree, of the trees of all levels
unfoldable pub level_tree : Widths → ℕ → ℕ → List ℕ → ℕ → List (List ℕ)
level_tree s n k ts l = digests (tree_length s n k l) (tree_start s n k l) ts

module _ (s : Widths) (n k : ℕ) where
  -- ---- a query record

  -- level l, of which q is the pair, from the values and trees of that level and the next
  unfoldable pub open_pair : ℕ → ℕ → List ℕ → List (List ℕ) → List ℕ → List (List ℕ) → LevelRecord
  open_pair l q values tree next nextTree =
      record {
        a = at values (2 * q);
        b = at values (2 * q + 1);
        c = at next q;
        a_group = group_at (level_width s n k l) (2 * q) values;
        c_group = group_at (level_width s n k (suc l)) q next;
        a_path = path_at s n k l (2 * q) tree;
        c_path = path_at s n k (suc l) q nextTree;
      }

  -- level l of the record at a position
  unfoldable pub built_level : List ℕ → List ℕ → ℕ → ℕ → LevelRecord
  built_level ws ts position l =
      open_pair l (pair_of position l) (level_values n k ws l) (level_tree s n k ts l) (level_values n k ws (suc l)) (level_tree s n k ts (suc l))

  -- c levels from l on
  unfoldable pub built_levels : List ℕ → List ℕ → ℕ → ℕ → ℕ → List LevelRecord
  built_levels ws ts position zero l = []
  built_levels ws ts position (suc c) l = built_level ws ts position l ∷ built_levels ws ts position c (suc l)

  -- the bytes of the record at a position
  unfoldable pub query_bytes : List ℕ → List ℕ → ℕ → List ℕ
  query_bytes ws ts position = record_bytes level_form (built_levels ws ts position n 0)

  -- ---- a tail record, from the last level and its tree

  unfoldable pub open_group : List ℕ → List (List ℕ) → ℕ → TailGroup
  open_group values tree g =
      let w = level_width s n k n in
      record { values = group_at w (g * w) values; path = path_at s n k n (g * w) tree }

  -- c groups from g on
  unfoldable pub open_groups : List ℕ → List (List ℕ) → ℕ → ℕ → List TailGroup
  open_groups values tree zero g = []
  open_groups values tree (suc c) g = open_group values tree g ∷ open_groups values tree c (suc g)

  unfoldable pub tail_bytes : List ℕ → List ℕ → List ℕ
  tail_bytes values tree = record_bytes tail_form (open_groups values (digests (tree_length s n k n) 0 tree) (level_groups s n k n) 0)

  -- ---- the questions put to a build, and what it leaves. Lent: halves of words, trees in bytes, and the record's buffer

  abbrev pub build_query_questions : List ℕ → List ℕ → ℕ → List ℕ → List Question
  build_query_questions levels trees position out =
      size_questions n k
      ++ (5 asks eqb (length levels) (2 * levels_length n k)) ∷
      (5 asks eqb (length trees) (32 * tree_start s n k (suc n))) ∷
      (5 asks eqb (length out) (query_size s n k)) ∷
      (11 asks ltb position (2 ^ (n + k))) ∷
      []

  unfoldable pub build_query_number : List ℕ → List ℕ → ℕ → List ℕ → ℕ
  build_query_number levels trees position out = first_no (build_query_questions levels trees position out)

  unfoldable pub build_query : List ℕ → List ℕ → ℕ → List ℕ → List ℕ
  build_query levels trees position out = on_done (build_query_number levels trees position out) (query_bytes (words levels) trees position) out

  abbrev pub build_tail_questions : List ℕ → List ℕ → List ℕ → List Question
  build_tail_questions level tree out =
      size_questions n k
      ++ (5 asks eqb (length level) (2 * level_length n k n)) ∷
      (5 asks eqb (length tree) (32 * tree_length s n k n)) ∷
      (5 asks eqb (length out) (tail_size s n k)) ∷
      []

  unfoldable pub build_tail_number : List ℕ → List ℕ → List ℕ → ℕ
  build_tail_number level tree out = first_no (build_tail_questions level tree out)

  unfoldable pub build_tail : List ℕ → List ℕ → List ℕ → List ℕ
  build_tail level tree out = on_done (build_tail_number level tree out) (tail_bytes (words level) tree) out
