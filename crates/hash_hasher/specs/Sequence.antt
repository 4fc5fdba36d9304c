-- A sequence of updates, as the law of proofs/Sequence speaks of it.
use Rattle.std.specs.Prelude.{ℕ, ◌+◌, List, [], ◌∷◌, ◌++◌, leb, length}
use Rattle.theory_laws.specs.Questions.{pick}
use Rattle.hash_hasher.specs.declared.hasher.Hasher.{Hasher}
use Rattle.hash_hasher.specs.Whole.{most_bytes}
use Rattle.hash_hasher.specs.Hasher.{update_of}

-- the state after the updates, one after the other; a refused one hands back the old state
unfoldable pub run : Hasher → List (List ℕ) → Hasher
run s [] = s
run s (bs ∷ us) = run (update_of s bs).state us

-- the bytes of the updates that are done, in order, where n bytes are there: one that would make more than 2^24 is refused
unfoldable pub done : ℕ → List (List ℕ) → List ℕ
done n [] = []
done n (bs ∷ us) = pick (leb (n + length bs) most_bytes) (bs ++ done (n + length bs) us) (done n us)
