-- A run of pairs, one after another, as a loop does them. For the contracts of the helpers. Rests on the fold and the pass in
-- `theory_multilinear`.
use Rattle.std.specs.Prelude.{List, ℕ, zero, suc, ◌+◌, set}
use Rattle.theory_laws.specs.Table.{at}
use Rattle.theory_multilinear.specs.Fold.{line}
use Rattle.theory_multilinear.proofs.Passes.{pass}
use Rattle.theory_multilinear.proofs.PassLoop.{turn}

-- the steps below n, one after another, each on what the one before left
unfoldable pub steps : ℕ → (ℕ → List ℕ → List ℕ) → List ℕ → List ℕ
steps zero step l = l
steps (suc n) step l = step n (steps n step l)

-- the first n words of a fold by r that come of the run of pairs from q on, with their places half apart
abbrev pub fold_steps : ℕ → ℕ → ℕ → List ℕ → ℕ → List ℕ → List ℕ
fold_steps q half r src n = steps n (λ j l. set l (q + j) (line r (at src (q + q + j)) (at src (q + q + half + j))))

-- a pass by d on the first n pairs of that run
abbrev pub pass_steps : ℕ → ℕ → ℕ → ℕ → List ℕ → List ℕ
pass_steps q half d n = steps n (λ j. turn (q + q + j) (q + q + half + j) d)

-- what a pass by d at coordinate 0 makes of pair q of a list, stored in another
abbrev pub pair_stored : ℕ → ℕ → List ℕ → List ℕ → List ℕ
pair_stored q d l o = set (set o (q + q) (pass 0 d (at l) (q + q))) (q + q + 1) (pass 0 d (at l) (q + q + 1))
