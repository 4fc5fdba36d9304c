-- A lent slice of u64 as a list of words: the low half of each word, then its high half.
use Rattle.std.specs.Prelude.{ℕ, ◌+◌, ◌*◌, ◌^◌, List, [], ◌∷◌}

-- the word with these halves
abbrev pub joined : ℕ → ℕ → ℕ
joined hi lo = hi * 2 ^ 64 + lo

-- An odd last half stands by itself, so that two slices of one length with the same words are the same slice (proofs/Words):
-- an equation of words settles every byte.
unfoldable pub words : List ℕ → List ℕ
words [] = []
words (lo ∷ []) = lo ∷ []
words (lo ∷ hi ∷ xs) = joined hi lo ∷ words xs
