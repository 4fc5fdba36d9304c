-- The levels of a committed table (SPECIFICATION 6.6). Rests on the fold.
use Rattle.std.specs.Prelude.{ℕ, zero, suc, List}
use Rattle.theory_laws.specs.Table.{at}
use Rattle.theory_multilinear.specs.Fold.{fold_list}

-- level l is the codeword c after l folds at variable 0, and fold l, from 0, goes by r[l]
unfoldable pub level : List ℕ → List ℕ → ℕ → List ℕ
level c r zero = c
level c r (suc l) = fold_list 0 (at r l) (level c r l)
