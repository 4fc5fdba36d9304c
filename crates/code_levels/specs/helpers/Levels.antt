-- Levels end to end in one buffer: what is lent for them and for a fold, a level's fold, and a level laid among the others.
use Rattle.std.specs.Prelude.{ℕ, suc, ◌+◌, ◌*◌, ◌^◌, ◌≤◌, ◌≡◌, List, ◌++◌, take, drop}
use Rattle.theory_field.specs.Words.{words}
use Rattle.theory_multilinear.specs.Fold.{fold_list}
use Rattle.theory_record.specs.Build.{level_start, levels_length, level_values}

-- the words ws of all levels, with the words vs laid as level l
unfoldable pub laid : ℕ → ℕ → ℕ → List ℕ → List ℕ → List ℕ
laid n k l vs ws = take (level_start n k l) ws ++ (vs ++ drop (level_start n k (suc l)) ws)

-- level l folded at a variable by r
abbrev pub level_folded : ℕ → ℕ → ℕ → ℕ → ℕ → List ℕ → List ℕ
level_folded n k l var r levels = fold_list var r (level_values n k (words levels) l)

-- what is lent: n and k within their ranges, all levels, and room for a fold of level 0, in halves
pub record Room (n k levels half : ℕ) : Type 0 where
  pub n_most : n ≤ 20
  pub k_most : k ≤ 4
  pub levels_long : levels ≡ 2 * levels_length n k
  pub half_long : half ≡ 2 ^ (n + k)

-- and level l, which starts at the half `from`, is one of the levels
pub record LevelLent (n k l from levels half : ℕ) : Type 0 where
  pub room : Room n k levels half
  pub within : l ≤ n
  pub from= : from ≡ 2 * level_start n k l
