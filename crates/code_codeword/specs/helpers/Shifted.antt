-- What the passes at the first coordinates of a shift leave of a table, for the contracts of the helpers that do them.
use Rattle.std.specs.Prelude.{ℕ, ◌^◌, List, ◌≡◌, take}
use Rattle.theory_laws.specs.Table.{tab, at}
use Rattle.theory_multilinear.specs.Codeword.{shift_at, block}
use Rattle.theory_multilinear.proofs.Passes.{passes}

-- the extension of a table of 2^m words at v plus the first m coordinates of L(eps), for v below 2^m; with all n it is block eps
unfoldable pub shifted_of : ℕ → ℕ → ℕ → List ℕ → ℕ → List ℕ → List ℕ
shifted_of m n k gammas eps t = tab (2 ^ m) (block (tab m (shift_at n k gammas eps)) (at t))

-- a table of 2^m words after the passes at its first i coordinates
unfoldable pub passed_of : ℕ → ℕ → ℕ → ℕ → List ℕ → ℕ → List ℕ → List ℕ
passed_of i m n k gammas eps t = tab (2 ^ m) (passes 0 (take i (tab m (shift_at n k gammas eps))) (at t))

-- what holds the passes at the first i coordinates of a table before, holds those at all m of them after
abbrev pub Passes : ℕ → ℕ → ℕ → ℕ → List ℕ → ℕ → List ℕ → List ℕ → Type 0
Passes i m n k gammas eps before after = (t : List ℕ) → before ≡ passed_of i m n k gammas eps t → after ≡ passed_of m m n k gammas eps t
