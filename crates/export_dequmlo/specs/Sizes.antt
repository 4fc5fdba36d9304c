-- The sizes that the number of a set of widths, n and k fix (SPECIFICATION 7.6): words of the table, the gammas, the codeword, all levels, room for a
-- fold and the last level; bytes of level 0's tree, of all trees, of the last level's tree, of the roots, and of a query and a tail record. Question 4,
-- as for records.
use Rattle.std.specs.Prelude.{ℕ, suc, ◌+◌, ◌*◌, ◌^◌}
use Rattle.theory_laws.specs.Questions.{on_done}
use Rattle.code_level.specs.Sizes.{size_number}
use Rattle.theory_record.specs.declared.WidthSet.{WidthSet}
use Rattle.theory_record.specs.Widths.{widths_of, level_length, tree_length}
use Rattle.theory_record.specs.Sizes.{query_size, tail_size}
use Rattle.theory_record.specs.Build.{levels_length, tree_start}
use Rattle.export_dequmlo.specs.Sets.{set_of, with_set}
use Rattle.export_dequmlo.specs.declared.sizes.Sizes.{Sizes}

-- none, and why
abbrev pub no_sizes : ℕ → Sizes
no_sizes number =
    record {
      number = number;
      table = 0;
      gammas = 0;
      codeword = 0;
      tree = 0;
      levels = 0;
      trees = 0;
      half = 0;
      roots = 0;
      last_level = 0;
      last_tree = 0;
      query = 0;
      tail = 0;
    }

-- 4: the number names a set, n is from 1 to 20 and k at most 4
unfoldable pub sizes_number : ℕ → ℕ → ℕ → ℕ
sizes_number widths n k = with_set widths (λ _. size_number n k) 4

-- what a set of widths, n and k fix
abbrev pub sizes_under : WidthSet → ℕ → ℕ → Sizes
sizes_under set n k =
    record {
      number = 0;
      table = 2 ^ n;
      gammas = k * n;
      codeword = level_length n k 0;
      tree = 32 * tree_length (widths_of set) n k 0;
      levels = levels_length n k;
      trees = 32 * tree_start (widths_of set) n k (suc n);
      half = level_length n k 1;
      roots = 32 * (n + 1);
      last_level = level_length n k n;
      last_tree = 32 * tree_length (widths_of set) n k n;
      query = query_size (widths_of set) n k;
      tail = tail_size (widths_of set) n k;
    }

-- what is answered: these, or none and why
abbrev pub sizes_of : ℕ → ℕ → ℕ → Sizes
sizes_of widths n k =
    on_done (sizes_number widths n k) (sizes_under (set_of widths) n k)
    (no_sizes (sizes_number widths n k))
